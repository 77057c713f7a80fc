-- A chart has at most 16,385 lines, since each but the first takes a byte of its sheet: so no count of instalments overflows. Assumes nothing.
use mathlib.Core.Path.{◌≡◌, refl, sym}
use mathlib.Core.Bool.{Bool, true, false, not, ◌||◌, cond, false≢true}
use mathlib.Core.List.{List, [], ◌∷◌}
use Prim.Native.Nat.{ℕ, zero, suc, ◌+◌, ◌%◌, ◌≤◌}
use native.Mathlib.Omega.{arith}
use borrow.Author.Tests.{ltb-false, leb-true}
use lib.Dec.{ltb, leb, eqb}
use lib.ListN.{length, drop}
use Rattle.lines.specs.Lines.{Line}
use Rattle.walks.specs.Words.{word_at, kind_of, count_of}
use Rattle.walks.specs.Sheets.{ChartLine, Chart, Walked, walked, charted, refused_as, bad_length, bad_count, size_of, part_of as walk_part, word_stands, weights_of, line_kind, line_after, line_stands, range_after, lines_after, closing, pair_of, chart_of, walk_of}
use Rattle.charts.specs.Answers.{last, line_part, walked_part, part_of}

abbrev AtMost : ℕ → Walked → Type 0
AtMost n (walked q) = Unit {0}
AtMost n (charted c) = length c.lines ≤ n
AtMost n (refused_as k) = Unit {0}

-- a chart of at most n lines, if it is one
record Few (n : ℕ) (w : Walked) : Type 0 where
  lines : AtMost n w

few : (n : ℕ) (w : Walked) → AtMost n w → Few n w
few n w h = record { lines = h }

module _ (n : ℕ) (s : List ℕ) where
  part_few : (kind at : ℕ) (go : ℕ → ℕ → ℕ → Walked) → ((a b c : ℕ) → Few n (go a b c)) → Few n (walk_part s kind at go)
  unfolding walk_part
  part_few kind at go f =
      by (ltb (length s) (at + 4)) (not (eqb (kind_of (word_at s at)) kind)) (bad_count kind (count_of (word_at s at)))
      (ltb (length s) (at + 4 + size_of kind (count_of (word_at s at)))) (f (count_of (word_at s at)) (at + 4) (at + 4 + size_of kind (count_of (word_at s at))))
    where
      by : (a b c d : Bool) {w : Walked} → Few n w → Few n (cond a (refused_as 3) (cond b (refused_as 2) (cond c (refused_as 2) (cond d (refused_as 3) w))))
      by true b c d h = few n (refused_as 3) tt
      by false true c d h = few n (refused_as 2) tt
      by false false true d h = few n (refused_as 2) tt
      by false false false true h = few n (refused_as 3) tt
      by false false false false h = h

  either_few : (b : Bool) {v w : Walked} → Few n v → Few n w → Few n (cond b v w)
  either_few true h k = h
  either_few false h k = k

  weights_few : (at : ℕ) (go : ℕ → ℕ → ℕ → Walked) → ((a b c : ℕ) → Few n (go a b c)) → Few n (weights_of s at go)
  unfolding weights_of
  weights_few at go f = either_few (word_stands s 5 at) (part_few 5 at go f) (f 0 at at)

  line_few : (at : ℕ) (go : Line → ℕ → Walked) → ((l : Line) (a : ℕ) → Few n (go l a)) → Few n (line_after s at go)
  unfolding line_after
  line_few at go f =
      part_few (line_kind (word_stands s 8 at)) at _ (λ degree here a.
      part_few 2 a _ (λ k knots b.
      part_few 3 b _ (λ m mults c.
      part_few 4 c _ (λ p poles d.
      weights_few d _ (λ w weights e.
      part_few 9 e _ (λ datum none g. f _ g))))))

  range_few : (l : Line) (at : ℕ) (go : ChartLine → ℕ → Walked) → ((c : ChartLine) (a : ℕ) → Few n (go c a)) → Few n (range_after s l at go)
  unfolding range_after
  range_few l at go f = part_few 11 at _ (λ none r e. f _ e)

  lines_few : (m at : ℕ) (go : List ChartLine → ℕ → Walked) → ((ls : List ChartLine) (e : ℕ) → length ls ≤ m → Few n (go ls e)) → Few n (lines_after m s at go)
  unfolding lines_after
  lines_few zero at go f = f [] at (omega arith)
  lines_few (suc m) at go f =
      either_few (line_stands s at)
      (line_few at _ (λ l a. range_few l a _ (λ c b. lines_few m b _ (λ ls e h. f (c ∷ ls) e (omega arith)))))
      (f [] at (omega arith))

  closing_few : (at : ℕ) (go : ℕ → ℕ → Walked) → ((a b : ℕ) → Few n (go a b)) → Few n (closing s at go)
  unfolding closing
  closing_few at go f = part_few 6 at _ (λ k q a. part_few 7 a _ (λ none here b. either_few (not (eqb b (length s))) (few n (refused_as 3) tt) (f k q)))

short_enough : (n : ℕ) → bad_length n ≡ false → n ≤ 16384
unfolding bad_length
short_enough n h = by (eqb n 0) (eqb (n % 4) 0) (ltb 16384 n) refl h
  where
    by : (a b c : Bool) → ltb 16384 n ≡ c → (a || (not b || c)) ≡ false → n ≤ 16384
    by a b false e h = ltb-false 16384 n e
    by true b true e h = absurd (false≢true (sym h))
    by false true true e h = absurd (false≢true (sym h))
    by false false true e h = absurd (false≢true (sym h))

few_walked : (s : List ℕ) → Few 16385 (walk_of s)
unfolding walk_of chart_of
few_walked s = by (bad_length (length s)) refl
  where
    by : (b : Bool) → bad_length (length s) ≡ b → Few 16385
        (cond b (refused_as 1)
        (line_after s 0 (λ first a.
        cond (line_stands s a)
        (line_after s a (λ second b.
        cond (word_stands s 11 b)
        (range_after s second b (λ l c.
        lines_after (length s) s c (λ ls d.
        closing s d (λ n q. charted (chart_of s first (l ∷ ls) n q)))))
        (closing s b (λ n q. walked (pair_of s first second n q)))))
        (closing s a (λ n q. charted (chart_of s first [] n q))))))
    by true e = few 16385 (refused_as 1) tt
    by false e =
        let h = short_enough (length s) e in
        line_few 16385 s 0 _ (λ first a.
        either_few 16385 s (line_stands s a)
        (line_few 16385 s a _ (λ second b.
        either_few 16385 s (word_stands s 11 b)
        (range_few 16385 s second b _ (λ l c.
        lines_few 16385 s (length s) c _ (λ ls d k.
        closing_few 16385 s d _ (λ n q. few 16385 (charted (chart_of s first (l ∷ ls) n q)) (omega (arith, h, k))))))
        (closing_few 16385 s b _ (λ n q. few 16385 (walked (pair_of s first second n q)) tt))))
        (closing_few 16385 s a _ (λ n q. few 16385 (charted (chart_of s first [] n q)) (omega arith))))

-- an instalment of some bytes is one of the first 16,386
pub few_taken : (s : List ℕ) (k : ℕ) (good : Bool) → 1 ≤ length (part_of s k good).text → k ≤ 16385
unfolding part_of
few_taken s k good h = by (walk_of s) k (few_walked s).lines h
  where
    at-line : (c : Chart) (k : ℕ) (b : Bool) → leb k (length c.lines) ≡ b → length c.lines ≤ 16385
        → 1 ≤ length (cond b (line_part c (drop k c.lines) good) (last [] good)).text → k ≤ 16385
    at-line c k true e f h = let z = leb-true k (length c.lines) e in omega (arith, z, f)
    at-line c k false e f h = absurd (omega arith)

    by : (w : Walked) (k : ℕ) → AtMost 16385 w → 1 ≤ length (walked_part w k good).text → k ≤ 16385
    by w zero f h = omega arith
    by (walked q) (suc k) f h = absurd (omega arith)
    by (charted c) (suc k) f h = at-line c (suc k) (leb (suc k) (length c.lines)) refl f h
    by (refused_as n) (suc k) f h = absurd (omega arith)
