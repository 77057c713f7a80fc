-- The merged list is the finest: each merged region lies inside one member of any list, no two of which touch, that has each raw region inside a member. Assumes nothing.
use mathlib.Core.Path.{subst}
use mathlib.Core.Logic.{inl, inr}
use mathlib.Core.List.{List, [], ◌∷◌, reverse}
use mathlib.Core.Bool.{Bool, true, false, not, ◌&&◌, cond}
use Prim.Native.Nat.{ℕ, zero, suc}
use lib.Dec.{T, eqb}
use lib.ListN.{length}
use lib.Ieee.{Float, le, eq}
use lib.Ieee.Fits.{and_l, and_r, and_i}
use Rattle.lists.specs.Members.{Any, All, Pairwise}
use Rattle.lists.proofs.Members.{all_append, all_reverse}
use Rattle.floats.specs.Floats.{least, greatest}
use Rattle.floats.proofs.Order.{le_trans_float}
use Rattle.machine.specs.Merge.{Merging, take1, grown, remaining, grow, take_in, gather, insert, ordered, merged}
use Rattle.machine.specs.Covered.{Off}
use Rattle.machine.proofs.Merged.{all_remaining}
use Rattle.regions.specs.declared.Region.{Region}
use Rattle.regions.specs.Regions.{touches_of, union_of, merging}
use Rattle.regions.specs.Stations.{Inside}
use Rattle.regions.proofs.Stations.{touch_comm}

-- ---- what each raw region has, and a join of two that touch has again, each merged region has
module _ (M : Merging) (Q : M.Region → Type 0) (close : (g r : M.Region) → T (M.touch g r) → Q g → Q r → Q (M.join g r)) where
  grown_all : (g : M.Region) (l : List M.Region) → Q g → All Q l → Q (grown M g l)
  grown_all g [] h k = h
  grown_all g (r ∷ rs) h k = grown_all (take1 M (M.touch g r) g r) rs (go (M.touch g r) (λ t. close g r t h k.0)) k.1
    where
      go : (b : Bool) → (T b → Q (M.join g r)) → Q (take1 M b g r)
      go true f = f tt
      go false f = h

  grow_all : (k : ℕ) (b : Bool) (g : M.Region) (l : List M.Region) → Q g → All Q l → Q (grow M k b g l).region × All Q (grow M k b g l).rest
  grow_all zero b g l h v = (h, v)
  grow_all (suc k) true g l h v = (h, v)
  grow_all (suc k) false g l h v = grow_all k (eqb (length (remaining M g l)) (length l)) (grown M g l) (remaining M g l) (grown_all g l h v) (all_remaining M Q g l v)

  gather_all : (rs out : List M.Region) → All Q rs → All Q out → All Q (gather M rs out)
  gather_all [] out v u = u
  gather_all (r ∷ rs) out v u =
      let w = grow M (suc (length out)) false r out in
      let z = grow_all (suc (length out)) false r out v.0 u in
      gather_all rs (take_in M r out) v.1 (all_append Q w.rest (w.region ∷ []) z.1 (z.0, tt))

  insert_v : (x : M.Region) (l : List M.Region) → Q x → All Q l → All Q (insert M x l)
  insert_v x [] p h = (p, tt)
  insert_v x (y ∷ l) p h = go (M.before y x) (insert_v x l p h.1)
    where
      go : (b : Bool) → All Q (insert M x l) → All Q (cond b (y ∷ insert M x l) (x ∷ y ∷ l))
      go true k = (h.0, k)
      go false k = (p, h)

  ordered_v : (l : List M.Region) → All Q l → All Q (ordered M l)
  ordered_v [] h = tt
  ordered_v (x ∷ l) h = insert_v x (ordered M l) h.0 (ordered_v l h.1)

  pub merged_all : (raw : List M.Region) → All Q raw → All Q (merged M raw)
  merged_all raw h = ordered_v (gather M (reverse raw) []) (gather_all (reverse raw) [] (all_reverse Q raw h) tt)

-- ---- the finest list
least_above : (z x y : Float) → T (le z x) → T (le z y) → T (le z (least x y))
unfolding least
least_above z x y h k = go (le x y) (eq y y)
  where
    go : (a b : Bool) → T (le z (cond a x (cond b y x)))
    go true b = h
    go false true = k
    go false false = h

greatest_below : (z x y : Float) → T (le x z) → T (le y z) → T (le (greatest x y) z)
unfolding greatest
greatest_below z x y h k = go (le y x) (eq y y)
  where
    go : (a b : Bool) → T (le (cond a x (cond b y x)) z)
    go true b = h
    go false true = k
    go false false = h

join_inside : (g r x : Region) → Inside g x → Inside r x → Inside (union_of g r) x
join_inside g r x h k = (
  (least_above x.a0 g.a0 r.a0 h.0.0 k.0.0, greatest_below x.a1 g.a1 r.a1 h.0.1 k.0.1),
  (least_above x.b0 g.b0 r.b0 h.1.0 k.1.0, greatest_below x.b1 g.b1 r.b1 h.1.1 k.1.1),
)

-- merging that hold two that touch, touch
meets : (x0 x1 y0 y1 g0 g1 r0 r1 : Float) → T (le x0 g0) → T (le g1 x1) → T (le y0 r0) → T (le r1 y1) → T (le g0 r1 && le r0 g1) → T (le x0 y1 && le y0 x1)
meets x0 x1 y0 y1 g0 g1 r0 r1 a b c d t =
    and_i (le x0 y1) (le y0 x1)
    (le_trans_float x0 g0 y1 a (le_trans_float g0 r1 y1 (and_l (le g0 r1) (le r0 g1) t) d))
    (le_trans_float y0 r0 x1 c (le_trans_float r0 g1 x1 (and_r (le g0 r1) (le r0 g1) t) b))

touch_up : (g r x y : Region) → Inside g x → Inside r y → T (touches_of g r) → T (touches_of x y)
touch_up g r x y h k t =
    let a = le g.a0 r.a1 && le r.a0 g.a1 in
    let b = le g.b0 r.b1 && le r.b0 g.b1 in
    and_i (le x.a0 y.a1 && le y.a0 x.a1) (le x.b0 y.b1 && le y.b0 x.b1)
    (meets x.a0 x.a1 y.a0 y.a1 g.a0 g.a1 r.a0 r.a1 h.0.0 h.0.1 k.0.0 k.0.1 (and_l a b t))
    (meets x.b0 x.b1 y.b0 y.b1 g.b0 g.b1 r.b0 r.b1 h.1.0 h.1.1 k.1.0 k.1.1 (and_r a b t))

clash : (b : Bool) → T b → T (not b) → ⊥
clash true t n = n
clash false t n = t

none_off : (g r x : Region) (l : List Region) → Inside g x → Any (Inside r) l → All (Off merging x) l → T (touches_of g r) → ⊥
none_off g r x [] h k a t = k
none_off g r x (y ∷ l) h (inl k) a t = clash (touches_of x y) (touch_up g r x y h k t) a.0
none_off g r x (y ∷ l) h (inr k) a t = none_off g r x l h k a.1 t

one_member : (g r : Region) (l : List Region) → Pairwise (Off merging) l → T (touches_of g r) → Any (Inside g) l → Any (Inside r) l → Any (Inside (union_of g r)) l
one_member g r [] p t h k = absurd h
one_member g r (x ∷ l) p t (inl h) (inl k) = inl (join_inside g r x h k)
one_member g r (x ∷ l) p t (inl h) (inr k) = absurd (none_off g r x l h k p.0 t)
one_member g r (x ∷ l) p t (inr h) (inl k) = absurd (none_off r g x l k h p.0 (subst T (touch_comm g r) t))
one_member g r (x ∷ l) p t (inr h) (inr k) = inr (one_member g r l p.1 t h k)

-- each merged region lies inside one member of any list, no two of which touch, that has each listed region inside a member
pub finest : (raw other : List Region) → Pairwise (Off merging) other → All (λ (r : Region). Any (Inside r) other) raw
    → All (λ (r : Region). Any (Inside r) other) (merged merging raw)
finest raw other p h = merged_all merging (λ (r : Region). Any (Inside r) other) (λ g r t a b. one_member g r other p t a b) raw h
