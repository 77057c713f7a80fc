-- Number 23 of an opening, when and only then. Assumes nothing.
use mathlib.Core.Path.{◌≡◌, refl, sym, ap}
use mathlib.Core.Bool.{Bool, true, false, cond}
use mathlib.Core.List.{List}
use native.Mathlib.Omega.{arith}
use lib.Ieee.{Float}
use Rattle.std.specs.Prelude.{Result, Ok, Err}
use Rattle.verdicts.specs.declared.Side.TheVariants.{First, Second}
use Rattle.lines.specs.declared.LineError.{LineError}
use Rattle.lines.specs.declared.LineError.TheVariants.{InvalidDegree, KnotCount, KnotOutOfRange, KnotsNotIncreasing, EndMultiplicitiesDiffer, MultiplicityTooLarge, ZeroMultiplicity, PoleCountMismatch, PoleCountOutOfRange, WeightCountMismatch, WeightOutOfRange, CoordinateOutOfRange}
use Rattle.lines.specs.Admit.{line_error_number, admit_of}
use Rattle.lines.specs.Lines.{Question}
use Rattle.questions.specs.declared.QuestionError.{QuestionError}
use Rattle.questions.specs.declared.QuestionError.TheVariants.{RangeOutOfBounds, GapOutOfRange, TooManySplits, BreaksTooClose}
use Rattle.questions.specs.Questions.{question_error_number, ask_of}
use Rattle.states.specs.declared.State.{State}
use Rattle.states.specs.States.{Memory, sizes, needed, enough}
use Rattle.opening.specs.declared.OpenError.TheVariants.{BadLine, BadDatum, BadQuestion, NoRoom}
use Rattle.opening.specs.Asked.{start, state_of}
use Rattle.opening.specs.Opens.{opened_number, search_for, refused_or, pieces_fit, Pushing, pushing, Opening, opening, open_pieces, open_def}
use Rattle.opening.proofs.Laws.{bad_datum}
use Rattle.whole.specs.Refusals.{GoodLine, DatumFault, DatumTable}
use Rattle.whole.proofs.Tests.{good_admitted, admitted_good, data_test, fault_off, off_fault}

-- no other refusal has this number
line_other : (k : LineError) → line_error_number k ≡ 23 → ⊥
line_other InvalidDegree e = omega (arith, e)
line_other KnotCount e = omega (arith, e)
line_other KnotOutOfRange e = omega (arith, e)
line_other KnotsNotIncreasing e = omega (arith, e)
line_other EndMultiplicitiesDiffer e = omega (arith, e)
line_other MultiplicityTooLarge e = omega (arith, e)
line_other ZeroMultiplicity e = omega (arith, e)
line_other PoleCountMismatch e = omega (arith, e)
line_other PoleCountOutOfRange e = omega (arith, e)
line_other WeightCountMismatch e = omega (arith, e)
line_other WeightOutOfRange e = omega (arith, e)
line_other CoordinateOutOfRange e = omega (arith, e)

question_other : (k : QuestionError) → question_error_number k ≡ 23 → ⊥
question_other (RangeOutOfBounds line) e = omega (arith, e)
question_other GapOutOfRange e = omega (arith, e)
question_other TooManySplits e = omega (arith, e)
question_other (BreaksTooClose line) e = omega (arith, e)

module _ (q : Question) (p1 p2 : List Float) (u : Memory) where
  pieces_other : opened_number (open_pieces q p1 p2 u).answer ≡ 23 → ⊥
  pieces_other = go (enough (needed (state_of (search_for q) (start (search_for q)))) (sizes u)) _ _
    where
      go : (b : Bool) (x : State) (m : Memory) → opened_number (cond {A = Pushing} b (pushing (Ok x) m) (pushing (Err NoRoom) u)).answer ≡ 23 → ⊥
      go true x m e = omega (arith, e)
      go false x m e = omega (arith, e)

  -- the tests that led there
  passed : (a b : Result Unit LineError) (n : Bool) (c : Result Unit QuestionError) (d : Bool)
      → opened_number (refused_or a (λ k. opening (Err (BadLine First k)) p1 p2 u) (refused_or b (λ k. opening (Err (BadLine Second k)) p1 p2 u)
      (cond n (refused_or c (λ k. opening (Err (BadQuestion k)) p1 p2 u) (cond d (open_pieces q p1 p2 u) (opening (Err NoRoom) p1 p2 u)))
      (opening (Err BadDatum) p1 p2 u)))).answer ≡ 23
      → (a ≡ Ok tt) × (b ≡ Ok tt) × (n ≡ false)
  passed (Ok x) (Ok y) true (Ok z) true e = absurd (pieces_other e)
  passed (Ok x) (Ok y) true (Ok z) false e = absurd (omega (arith, e))
  passed (Ok x) (Ok y) true (Err k) d e = absurd (question_other k e)
  passed (Ok x) (Ok y) false c d e = (refl, refl, refl)
  passed (Ok x) (Err k) n c d e = absurd (line_other k e)
  passed (Err k) b n c d e = absurd (line_other k e)

  only : opened_number (open_def q p1 p2 u).answer ≡ 23 → GoodLine q.line1 × GoodLine q.line2 × DatumFault q
  only e =
      let t = passed (admit_of q.line1) (admit_of q.line2) (data_test q) (ask_of q) (pieces_fit q p1 p2) e in
      (admitted_good q.line1 t.0, admitted_good q.line2 t.1, off_fault q t.2)

  when : GoodLine q.line1 × GoodLine q.line2 × DatumFault q → opened_number (open_def q p1 p2 u).answer ≡ 23
  when (g, h, f) =
      sym (ap (λ (o : Opening). opened_number o.answer) (bad_datum q p1 p2 u (good_admitted q.line1 g) (good_admitted q.line2 h) (fault_off q f)))

pub datum_table : DatumTable
datum_table q p1 p2 u = (only q p1 p2 u, when q p1 p2 u)
