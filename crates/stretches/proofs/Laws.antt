-- Neighbours are neighbours both ways; what one turn and the last one of the loops over marks do. Assumes nothing.
use mathlib.Core.Path.{◌≡◌, refl, ap, sym, ◌∙◌}
use mathlib.Core.List.{List, ◌++◌}
use mathlib.Core.Bool.{Bool, true, false, ◌&&◌, ◌||◌, and_comm, or_comm}
use Prim.Native.Nat.{ℕ, zero, suc, ◌+◌, ◌-◌, ◌≤◌, ◌<◌}
use native.Mathlib.Omega.{arith}
use lib.ListN.{length, take, drop, set}
use lib.Ieee.{Float, le, eq}
use lib.Seq.{length-take-le}
use Rattle.lists.specs.Parts.{block, patch}
use Rattle.lists.proofs.Loops.{fill_turn}
use Rattle.machine.specs.Marks.{link, link_if, row_marks, all_marks, count_from, marks_of}
use Rattle.machine.proofs.Marks.{count_length, marks_length}
use Rattle.regions.specs.declared.Region.{Region}
use Rattle.regions.specs.Regions.{region_at}
use Rattle.terms.specs.declared.Seam.{Seam}
use Rattle.stretches.specs.Stretches.{over_seam, near_on, neighbours_of, near_in}

-- ---- neighbours both ways
seam_comm : (s : Seam) (a0 a1 b0 b1 : Float) → over_seam s a0 a1 b0 b1 ≡ over_seam s b0 b1 a0 a1
seam_comm s a0 a1 b0 b1 = ap (λ (z : Bool). s.whole && z) (or_comm (eq a0 s.lo && eq b1 s.hi) (eq b0 s.lo && eq a1 s.hi))

near_comm : (s : Seam) (a0 a1 b0 b1 : Float) → near_on s a0 a1 b0 b1 ≡ near_on s b0 b1 a0 a1
near_comm s a0 a1 b0 b1 = λ i. and_comm (le a0 b1) (le b0 a1) i || seam_comm s a0 a1 b0 b1 i

pub neighbours_comm : (s1 s2 : Seam) (r q : Region) → neighbours_of s1 s2 r q ≡ neighbours_of s1 s2 q r
neighbours_comm s1 s2 r q = λ i. near_comm s1 r.a0 r.a1 q.a0 q.a1 i && near_comm s2 r.b0 r.b1 q.b0 q.b1 i

-- ---- the loop of `number`
pub number_turn : (s : List ℕ) (m i v : ℕ) → i < m → i < length s → v ≡ i → take (i + 1) (set s i v) ++ count_from (i + 1) (m - (i + 1)) ≡ take i s ++ count_from i (m - i)
number_turn s m i v lt h e = fill_turn (λ n k. count_from k n) (λ k. k) (λ n k. refl) s m i v lt h e

-- ---- the loop of `mark_row`
row_on : (near : ℕ → ℕ → Bool) (i j : ℕ) (b : Bool) (l l' r : List ℕ) → 0 < j → near i (j - 1) ≡ b → l' ≡ link_if b i (j - 1) l → row_marks near i j l ≡ r
    → row_marks near i (j - 1) l' ≡ r
row_on near i j b l l' r p n e h =
    let k : suc (j - 1) ≡ j = omega arith in
    ap (row_marks near i (j - 1)) (e ∙ ap (λ (z : Bool). link_if z i (j - 1) l) (sym n)) ∙ ap (λ (z : ℕ). row_marks near i z l) k ∙ h

module _ (s1 s2 : Seam) (out : List Float) (i j : ℕ) (r q : Region) (b : Bool)
    (er : r ≡ region_at (block 10 i out)) (eq : q ≡ region_at (block 10 (j - 1) out)) (eb : b ≡ neighbours_of s1 s2 r q) where
  near_is : near_in s1 s2 out i (j - 1) ≡ b
  near_is = sym (eb ∙ ap (λ (z : Region). neighbours_of s1 s2 z q) er ∙ ap (neighbours_of s1 s2 (region_at (block 10 i out))) eq)

  pub row_link : (l l' w : List ℕ) → 0 < j → b ≡ true → l' ≡ link i (j - 1) l → row_marks (near_in s1 s2 out) i j l ≡ w → row_marks (near_in s1 s2 out) i (j - 1) l' ≡ w
  row_link l l' w p t f h = row_on (near_in s1 s2 out) i j true l l' w p (near_is ∙ t) f h

  pub row_skip : (l w : List ℕ) → 0 < j → b ≡ false → row_marks (near_in s1 s2 out) i j l ≡ w → row_marks (near_in s1 s2 out) i (j - 1) l ≡ w
  row_skip l w p t h = row_on (near_in s1 s2 out) i j false l l w p (near_is ∙ t) refl h

-- ---- the loop of `mark_all`
pub all_on : (near : ℕ → ℕ → Bool) (i : ℕ) (l l' r : List ℕ) → 0 < i → l' ≡ row_marks near (i - 1) (i - 1) l → all_marks near i l ≡ r → all_marks near (i - 1) l' ≡ r
all_on near i l l' r p e h =
    let k : suc (i - 1) ≡ i = omega arith in
    ap (all_marks near (i - 1)) e ∙ ap (λ (z : ℕ). all_marks near z l) k ∙ h

all_done : (near : ℕ → ℕ → Bool) (i : ℕ) (l r : List ℕ) → i ≤ 0 → all_marks near i l ≡ r → l ≡ r
all_done near zero l r p h = h
all_done near (suc i) l r p h = absurd (omega arith)

pub all_end : (near : ℕ → ℕ → Bool) (n i₀ i : ℕ) (l₀ l : List ℕ) → i ≤ 0 → all_marks near i l ≡ all_marks near i₀ l₀ → i₀ ≡ length l₀ → l₀ ≡ count_from 0 n
    → l ≡ marks_of n near
all_end near n i₀ i l₀ l p h e f =
    all_done near i l (all_marks near i₀ l₀) p h ∙ (λ k. all_marks near ((e ∙ ap length f ∙ count_length 0 n) k) (f k))

-- ---- a part from the front
pub part_front : (n : ℕ) (near : ℕ → ℕ → Bool) (xs ys : List ℕ) → n ≤ length xs → ys ≡ marks_of (length (take n xs)) near
    → ys ++ drop n xs ≡ patch xs 0 (marks_of n near)
part_front n near xs ys h e =
    let k = marks_length n near in
    let d : n ≡ 0 + length (marks_of n near) = omega arith in
    rw (e, length-take-le n xs h) (ap (λ (z : ℕ). marks_of n near ++ drop z xs) d)
