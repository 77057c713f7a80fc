-- Laws of loops over points, and of the points that the tests see. Assumes nothing.
use mathlib.Core.Path.{◌≡◌, refl, sym, ap, ◌∙◌, subst}
use mathlib.Core.Bool.{Bool, true, false, not, cond}
use mathlib.Core.List.{List, [], ◌∷◌, ◌++◌, foldl}
use Prim.Native.Nat.{ℕ, ◌+◌, ◌*◌, ◌/◌, ◌≤◌, ◌<◌}
use native.Mathlib.Omega.{arith}
use lib.Dec.{T, ltb}
use lib.ListN.{length, take, drop}
use lib.Seq.{take_at, take-append_seam}
use lib.Ieee.{Float, inf, binary64, of_bits}
use Rattle.std.specs.declared.slice.ChunksExact.{ChunksExact}
use Rattle.std.specs.List.{fold}
use Rattle.std.specs.Slice.Iter.{chunks_exact_rest, chunks_exact_size, chunks_exact_steps}
use Rattle.std.proofs.lemmas.Iterator.{YieldsList}
use Rattle.std.proofs.lemmas.Iterator.Splits.{YieldsList-from_shown_while}
use Rattle.boxes.specs.declared.Aabb.{Aabb}
use borrow.Author.Tests.{ltb-false, lt-ltb, le-ltb}
use Rattle.nets.specs.Points.{points_of}
use Rattle.nets.proofs.Laws.{length_points}
use Rattle.boxes.specs.Points.{point_at, vectors}
use Rattle.boxes.specs.Boxes.{cube_of, grown, everything, bounding_box}
use Rattle.boxes.specs.Nets.{in_measure, has_width, out_of_measure, box_of, measured, measured_in, measured_box}

-- ---- the points from place i on
short : (l : List Float) → length l < 3 → vectors l ≡ []
unfolding vectors
short [] h = refl
short (x ∷ []) h = refl
short (x ∷ y ∷ []) h = refl
short (x ∷ y ∷ z ∷ l) h = absurd (omega arith)

-- ---- a slice's chunks of three, as points
three_more : (p r : List Float) → length p ≡ 3 → vectors (p ++ r) ≡ point_at p 0 ∷ vectors r
unfolding vectors
three_more (x ∷ y ∷ z ∷ []) r h = refl
three_more [] r h = absurd (omega arith)
three_more (x ∷ []) r h = absurd (omega arith)
three_more (x ∷ y ∷ []) r h = absurd (omega arith)
three_more (x ∷ y ∷ z ∷ w ∷ l) r h = absurd (omega arith)

pub points_of_chunks : {s : ChunksExact Float} (l : List Float) → chunks_exact_rest s ≡ l → chunks_exact_size s ≡ 3
    → YieldsList chunks_exact_steps (λ w. point_at w.now 0) s (vectors l)
points_of_chunks {s} l e n =
    subst (λ k. YieldsList chunks_exact_steps (λ w. point_at w.now 0) s (vectors k)) e
    (YieldsList-from_shown_while chunks_exact_steps (λ w. point_at w.now 0) (λ t. vectors (chunks_exact_rest t)) (λ t. chunks_exact_size t ≡ 3)
    (λ t u k h. ap length (short (chunks_exact_rest t) (omega (arith, h.1.0, k))))
    (λ t x u k h. (h.0 ∙ k, ap vectors h.1.0 ∙ three_more x.now (chunks_exact_rest u) (h.1.1 ∙ k)))
    s n)

-- ---- the box of all points
same_folds : {A B : Type 0} (f : B → A → B) (b : B) (l : List A) → fold f b l ≡ foldl f b l
same_folds f b [] = refl
same_folds f b (x ∷ l) = same_folds f (f b x) l

pub plus_infinity : of_bits binary64 0x7ff0_0000_0000_0000 ≡ inf false
unfolding of_bits
plus_infinity = refl

pub minus_infinity : of_bits binary64 0xfff0_0000_0000_0000 ≡ inf true
unfolding of_bits
minus_infinity = refl

pub box_by_fold : (l : List Float) (start r : Aabb) → start ≡ cube_of (of_bits binary64 0x7ff0_0000_0000_0000) (of_bits binary64 0xfff0_0000_0000_0000)
    → r ≡ fold grown start (vectors l) → r ≡ bounding_box l
unfolding bounding_box
box_by_fold l start r e f = f ∙ same_folds grown start (vectors l) ∙ ap (λ b. foldl grown b (vectors l)) (e ∙ rw (plus_infinity, minus_infinity) refl)

-- ---- the points of a net, found to be in measure or not
pub record Measured (net out : List Float) (r : ℕ) (after : List Float) : Type 0 where
  pub counted : r ≡ length (measured net)
  pub left : after ≡ measured_in net out

no_width : (net out : List Float) → has_width net ≡ false → Measured net out 0 out
unfolding measured out_of_measure measured_in
no_width net out h = record { counted = rw h refl; left = rw h refl }

pub too_few : (net out : List Float) → length net < 8 → Measured net out 0 out
unfolding has_width
too_few net out h = no_width net out (rw (lt-ltb (length net) 8 h) refl)

pub too_many : (net out : List Float) → 8 ≤ length net → 104 < length net → Measured net out 0 out
unfolding has_width
too_many net out h k = no_width net out (rw (le-ltb (length net) 8 h, lt-ltb 104 (length net) k) refl)

-- the n numbers p, the net's points, at the start of out
module _ (net p out : List Float) (n : ℕ) (is : p ≡ points_of net) (count : n ≡ length net / 4 * 3) where
  long : length p ≡ n
  long = ap length is ∙ length_points net ∙ sym count

  start_is : take n (p ++ drop n out) ≡ points_of net
  start_is = take_at p (drop n out) n long ∙ is

  pub start-length : n ≡ length (take n (p ++ drop n out))
  start-length = count ∙ sym (length_points net) ∙ ap length (sym start_is)

  module _ (low : 8 ≤ length net) (high : length net ≤ 104) (t : Bool) (test : t ≡ in_measure (take n (p ++ drop n out))) where
    width : has_width net ≡ true
    unfolding has_width
    width = rw (le-ltb (length net) 8 low, le-ltb 104 (length net) high) refl

    told : out_of_measure net ≡ not t
    unfolding out_of_measure
    told = rw width (ap not (sym (test ∙ ap in_measure start_is)))

    after : p ++ drop n out ≡ measured_in net out
    unfolding measured_in
    after = let e : 0 + length (points_of net) ≡ n = omega (arith, length_points net) in rw (width, e, is) refl

    pub in_is : t ≡ true → Measured net out n (p ++ drop n out)
    unfolding measured
    in_is e = record { counted = rw (told, e) (sym (ap length (sym is) ∙ long)); left = after }

    pub out_is : t ≡ false → Measured net out 0 (p ++ drop n out)
    unfolding measured
    out_is e = record { counted = rw (told, e) refl; left = after }

-- ---- a net that is not out of measure has a width, and two points or more
has_width_lem : (t u : Bool) → cond t u true ≡ false → t ≡ true
has_width_lem true u h = refl
has_width_lem false u h = sym h

wide : (net : List Float) → out_of_measure net ≡ false → has_width net ≡ true
unfolding out_of_measure
wide net h = has_width_lem (has_width net) _ h

record Wide (n : ℕ) : Type 0 where
  pub low : 8 ≤ n
  pub high : n ≤ 104

width_is : (net : List Float) → has_width net ≡ true → Wide (length net)
unfolding has_width
width_is net = by (ltb (length net) 8) (ltb 104 (length net)) refl refl where
  by : (t u : Bool) → ltb (length net) 8 ≡ t → ltb 104 (length net) ≡ u → cond t false (not u) ≡ true → Wide (length net)
  by true u e f h = absurd (subst T (sym h) tt)
  by false true e f h = absurd (subst T (sym h) tt)
  by false false e f h = record { low = ltb-false (length net) 8 e; high = ltb-false 104 (length net) f }

pub points_enough : (net : List Float) → out_of_measure net ≡ false → 6 ≤ length (points_of net)
points_enough net h = let w = width_is net (wide net h) in omega (arith, length_points net)

-- ---- the counted start of what `measure` leaves
measured-start : (net out : List Float) → take (length (measured net)) (measured_in net out) ≡ measured net
unfolding measured measured_in
measured-start net out = by (out_of_measure net) refl where
  by : (t : Bool) → out_of_measure net ≡ t → take (length (cond t [] (points_of net))) (measured_in net out) ≡ cond t [] (points_of net)
  by true e = refl
  by false e = rw (wide net e) (take-append_seam (points_of net) _)

pub seen : (net out after : List Float) (r : ℕ) → r ≡ length (measured net) → after ≡ measured_in net out → take r after ≡ measured net
seen net out after r e f = rw (e, f) (measured-start net out)

pub measured_box_lem : (net : List Float) → measured_box (measured net) ≡ box_of net
unfolding measured_box measured box_of
measured_box_lem net = by (out_of_measure net) refl where
  by : (t : Bool) → out_of_measure net ≡ t → measured_box (cond t [] (points_of net)) ≡ cond t everything (bounding_box (points_of net))
  by true e = refl
  by false e = rw (le-ltb (length (points_of net)) 3 (omega (arith, points_enough net e))) refl
