-- All floats that a sheet gives are doubles, so its pieces belong to their stretches. Assumes nothing.
use mathlib.Core.Path.{subst}
use mathlib.Core.List.{List, [], ◌∷◌}
use mathlib.Core.Bool.{Bool, true, false, not, cond}
use Prim.Native.Nat.{ℕ, zero, suc, ◌+◌}
use borrow.Author.Tests.{not-false}
use lib.Dec.{T, ltb, eqb}
use lib.ListN.{length}
use lib.Ieee.{Float, binary64, fits}
use lib.Ieee.Bits.{of_bits-fits}
use Rattle.lists.specs.Members.{All}
use Rattle.lines.specs.Lines.{Line, Question}
use Rattle.verdicts.specs.declared.Side.TheVariants.{First, Second}
use Rattle.questions.specs.declared.QuestionError.TheVariants.{RangeOutOfBounds, GapOutOfRange, TooManySplits, BreaksTooClose}
use Rattle.questions.specs.Questions.{ask_within}
use Rattle.facts.specs.Spans.{Doubles}
use Rattle.facts.proofs.Facts.{line_table, question_table, pieces_in_spans}
use Rattle.opening.proofs.Laws.{passed}
use Rattle.walks.specs.Words.{word_at, kind_of, count_of, float_at, floats_from}
use Rattle.walks.specs.Sheets.{ChartLine, Walked, walked, charted, refused_as, bad_length, bad_count, size_of, part_of, word_stands, weights_of, line_kind, line_after, line_stands, range_after, lines_after, closing, pair_of, chart_of, walk_of}
use Rattle.charts.specs.Charts.{pair_for}
use Rattle.whole.specs.Refusals.{Faultless}
use Rattle.whole.specs.Pieces.{PairPieces, SheetPieces, ChartPieces}

abbrev Double : Float → Type 0
Double x = T (fits binary64 x)

abbrev LineRead : ChartLine → Type 0
LineRead l = Doubles l.line l.lo l.hi

abbrev Read : Walked → Type 0
Read (walked q) = Doubles q.line1 q.lo1 q.hi1 × Doubles q.line2 q.lo2 q.hi2
Read (charted c) = LineRead c.track × All LineRead c.lines
Read (refused_as n) = Unit {0}

module _ (s : List ℕ) where
  float_read : (at : ℕ) → Double (float_at s at)
  unfolding float_at
  float_read at = of_bits-fits binary64 _

  floats_read : (at n : ℕ) → All Double (floats_from s at n)
  unfolding floats_from
  floats_read at zero = tt
  floats_read at (suc n) = (float_read at, floats_read (at + 8) n)

  part_read : (kind at : ℕ) (go : ℕ → ℕ → ℕ → Walked) → ((a b c : ℕ) → Read (go a b c)) → Read (part_of s kind at go)
  unfolding part_of
  part_read kind at go f =
      by (ltb (length s) (at + 4)) (not (eqb (kind_of (word_at s at)) kind)) (bad_count kind (count_of (word_at s at)))
      (ltb (length s) (at + 4 + size_of kind (count_of (word_at s at))))
      (go (count_of (word_at s at)) (at + 4) (at + 4 + size_of kind (count_of (word_at s at))))
      (f (count_of (word_at s at)) (at + 4) (at + 4 + size_of kind (count_of (word_at s at))))
    where
      by : (a b c d : Bool) (w : Walked) → Read w → Read (cond a (refused_as 3) (cond b (refused_as 2) (cond c (refused_as 2) (cond d (refused_as 3) w))))
      by true b c d w h = tt
      by false true c d w h = tt
      by false false true d w h = tt
      by false false false true w h = tt
      by false false false false w h = h

  weights_read : (at : ℕ) (go : ℕ → ℕ → ℕ → Walked) → ((a b c : ℕ) → Read (go a b c)) → Read (weights_of s at go)
  unfolding weights_of
  weights_read at go f = by (word_stands s 5 at)
    where
      by : (b : Bool) → Read (cond b (part_of s 5 at go) (go 0 at at))
      by true = part_read 5 at go f
      by false = f 0 at at

  line_read : (at : ℕ) (go : Line → ℕ → Walked) → ((l : Line) (n : ℕ) → All Double l.knots → Read (go l n)) → Read (line_after s at go)
  unfolding line_after
  line_read at go f =
      part_read (line_kind (word_stands s 8 at)) at _
      (λ a b c. part_read 2 c _ (λ d e g. part_read 3 g _ (λ h i j. part_read 4 j _ (λ k l m. weights_read m _ (λ n o p. part_read 9 p _ (λ q r t. f _ t (floats_read e d)))))))

  range_read : (l : Line) (at : ℕ) (go : ChartLine → ℕ → Walked) → All Double l.knots → ((c : ChartLine) (n : ℕ) → LineRead c → Read (go c n)) → Read (range_after s l at go)
  unfolding range_after
  range_read l at go h f = part_read 11 at _ (λ a b c. f _ c (h, float_read b, float_read (b + 8)))

  lines_read : (n at : ℕ) (go : List ChartLine → ℕ → Walked) → ((ls : List ChartLine) (e : ℕ) → All LineRead ls → Read (go ls e)) → Read (lines_after n s at go)
  unfolding lines_after
  lines_read zero at go f = f [] at tt
  lines_read (suc n) at go f =
      by (line_stands s at) _ (line_read at _ (λ l a x. range_read l a _ x (λ c b y. lines_read n b (λ ls e. go (c ∷ ls) e) (λ ls e z. f (c ∷ ls) e (y, z)))))
    where
      by : (b : Bool) (w : Walked) → Read w → Read (cond b w (go [] at))
      by true w h = h
      by false w h = f [] at tt

  closing_read : (at : ℕ) (go : ℕ → ℕ → Walked) → ((n q : ℕ) → Read (go n q)) → Read (closing s at go)
  unfolding closing
  closing_read at go f = part_read 6 at _ (λ n q a. part_read 7 a _ (λ m h b. by (not (eqb b (length s))) (go n q) (f n q)))
    where
      by : (b : Bool) (w : Walked) → Read w → Read (cond b (refused_as 3) w)
      by true w h = tt
      by false w h = h

  walk_read : Read (walk_of s)
  unfolding walk_of pair_of chart_of
  walk_read =
      by (bad_length (length s)) _
      (line_read 0 _ (λ first a x. either (line_stands s a) _ _
      (line_read a _ (λ second b y. either (word_stands s 11 b) _ _
      (range_read second b _ y (λ l c z. lines_read (length s) c _ (λ ls d zs. closing_read d _ (λ n q. ((x, float_read q, float_read (q + 8)), (z, zs))))))
      (closing_read b _ (λ n q. ((x, float_read q, float_read (q + 8)), (y, float_read (q + 16), float_read (q + 24)))))))
      (closing_read a _ (λ n q. ((x, float_read q, float_read (q + 8)), tt)))))
    where
      either : (b : Bool) (v w : Walked) → Read v → Read w → Read (cond b v w)
      either true v w g h = g
      either false v w g h = h

      by : (b : Bool) (w : Walked) → Read w → Read (cond b (refused_as 1) w)
      by true w h = tt
      by false w h = h

-- a question that is fine has met no test
pair-pieces : (q : Question) → Read (walked q) → Faultless q → PairPieces q
unfolding ask_within
pair-pieces q d f =
    let one = (line_table q.line1).1.1 f.first in
    let two = (line_table q.line2).1.1 f.second in
    let a = passed _ (RangeOutOfBounds First) _ ((question_table q one two).1.1 f.question) in
    let b = passed _ (RangeOutOfBounds Second) _ a.1 in
    let c = passed _ GapOutOfRange _ b.1 in
    let g = passed _ TooManySplits _ c.1 in
    let h = passed _ (BreaksTooClose First) _ g.1 in
    let i = passed _ (BreaksTooClose Second) _ h.1 in (
      pieces_in_spans q.line1 q.lo1 q.hi1 (λ x. d.0) one (not-false _ a.0) (not-false _ h.0),
      pieces_in_spans q.line2 q.lo2 q.hi2 (λ x. d.1) two (not-false _ b.0) (not-false _ i.0),
    )

pub sheet_pieces : SheetPieces
sheet_pieces s q e f = pair-pieces q (subst Read e (walk_read s)) f

pub chart-pieces : ChartPieces
chart-pieces s c e = let d : Read (charted c) = subst Read e (walk_read s) in go c.lines d.0 d.1
  where
    go : (ls : List ChartLine) → LineRead c.track → All LineRead ls → All (λ (l : ChartLine). Faultless (pair_for c l) → PairPieces (pair_for c l)) ls
    go [] t h = tt
    go (l ∷ ls) t h = ((λ f. pair-pieces (pair_for c l) (t, h.0) f), go ls t h.1)
