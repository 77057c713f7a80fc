-- Touching is symmetric, a union holds what both hold, and merging loses no pair of stations and leaves no two regions that touch. Assumes nothing.
use mathlib.Core.Path.{◌≡◌, subst}
use mathlib.Core.List.{List}
use mathlib.Core.Bool.{Bool, not, ◌&&◌, and_comm}
use lib.Dec.{T}
use lib.Ieee.{Float, le}
use Rattle.floats.specs.Stations.{InRange}
use Rattle.lists.specs.Members.{Any, All, Pairwise}
use Rattle.floats.specs.Sizes.{Number}
use Rattle.floats.specs.Floats.{least, greatest}
use Rattle.floats.proofs.Order.{le_trans_float, least_is, greatest_is}
use Rattle.machine.specs.Merge.{merged}
use Rattle.machine.specs.Covered.{Off}
use Rattle.machine.proofs.Merged.{Keeping, merged_off, merged_has}
use Rattle.regions.specs.declared.Region.{Region}
use Rattle.regions.specs.Regions.{touches_of, union_of, merging}
use Rattle.regions.specs.Stations.{InRegion, Valid}

-- ---- touching
pub touch_comm : (r q : Region) → touches_of r q ≡ touches_of q r
touch_comm r q = λ i. and_comm (le r.a0 q.a1) (le q.a0 r.a1) i && and_comm (le r.b0 q.b1) (le q.b0 r.b1) i

pub off_comm : (r q : Region) → T (not (touches_of r q)) → T (not (touches_of q r))
off_comm r q h = subst (λ (b : Bool). T (not b)) (touch_comm r q) h

-- ---- one range of a union
module _ (a0 a1 b0 b1 s : Float) (p0 : Number a0) (p1 : Number a1) (q0 : Number b0) (q1 : Number b1) where
  range_left : InRange a0 a1 s → InRange (least a0 b0) (greatest a1 b1) s
  range_left h = (le_trans_float (least a0 b0) a0 s (least_is a0 b0 p0 q0).left h.0, le_trans_float s a1 (greatest a1 b1) h.1 (greatest_is a1 b1 p1 q1).left)

  range_right : InRange b0 b1 s → InRange (least a0 b0) (greatest a1 b1) s
  range_right h = (le_trans_float (least a0 b0) b0 s (least_is a0 b0 p0 q0).right h.0, le_trans_float s b1 (greatest a1 b1) h.1 (greatest_is a1 b1 p1 q1).right)

-- ---- a union of valid regions is valid and holds what each holds
module _ (r q : Region) (v : Valid r) (w : Valid q) where
  pub union_valid : Valid (union_of r q)
  union_valid = (
    (least_is r.a0 q.a0 v.0 w.0).number,
    (greatest_is r.a1 q.a1 v.1 w.1).number,
    (least_is r.b0 q.b0 v.2 w.2).number,
    (greatest_is r.b1 q.b1 v.3 w.3).number,
  )

  pub union_left : (s t : Float) → InRegion s t r → InRegion s t (union_of r q)
  union_left s t h = (
    range_left r.a0 r.a1 q.a0 q.a1 s v.0 v.1 w.0 w.1 h.0,
    range_left r.b0 r.b1 q.b0 q.b1 t v.2 v.3 w.2 w.3 h.1,
  )

  pub union_right : (s t : Float) → InRegion s t q → InRegion s t (union_of r q)
  union_right s t h = (
    range_right r.a0 r.a1 q.a0 q.a1 s v.0 v.1 w.0 w.1 h.0,
    range_right r.b0 r.b1 q.b0 q.b1 t v.2 v.3 w.2 w.3 h.1,
  )

-- ---- merging
keeping : Keeping merging (Float × Float)
keeping = record {
  Valid = Valid;
  Has = λ r x. InRegion x.0 x.1 r;
  valid_join = union_valid;
  has_left = λ r q x v w h. union_left r q v w x.0 x.1 h;
  has_right = λ r q x v w h. union_right r q v w x.0 x.1 h;
}

-- no two merged regions touch, whatever the raw ones are
pub merged_apart : (raw : List Region) → Pairwise (Off merging) (merged merging raw)
merged_apart raw = merged_off merging off_comm raw

-- a pair of stations in a raw region is in a merged one
pub merged_in : (s t : Float) (raw : List Region) → All Valid raw → Any (InRegion s t) raw → Any (InRegion s t) (merged merging raw)
unfolding keeping
merged_in s t raw v h = merged_has merging (Float × Float) keeping (s, t) raw v h
