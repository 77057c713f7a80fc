-- An opening with too few words: every piece needs room, so an opening that is lent nothing is refused. Assumes nothing.
use mathlib.Core.Path.{◌≡◌, refl, sym, ap}
use mathlib.Core.Bool.{Bool, true, false, ◌&&◌, cond, false≢true}
use mathlib.Core.Logic.{inr}
use mathlib.Core.List.{List, [], ◌∷◌}
use Prim.Native.Nat.{ℕ, ◌+◌, ◌*◌, ◌≤◌, ◌<◌}
use native.Mathlib.Nat.{mul-le-mul}
use native.Mathlib.Omega.{arith}
use borrow.Author.Tests.{lt-leb}
use lib.Dec.{lit≤}
use lib.ListN.{length}
use lib.Ieee.{Float}
use Rattle.std.specs.Prelude.{Result, Ok, Err, is_ok}
use Rattle.verdicts.specs.declared.Side.TheVariants.{First, Second}
use Rattle.lines.specs.declared.LineError.{LineError}
use Rattle.lines.specs.Admit.{admit_of}
use Rattle.lines.specs.Lines.{Question}
use Rattle.lines.specs.Data.{one_datum}
use Rattle.knots.specs.Knots.{inside, between, knots_of}
use Rattle.curves.specs.Curves.{piece_count}
use Rattle.questions.specs.declared.QuestionError.{QuestionError}
use Rattle.questions.specs.Questions.{ask_of}
use Rattle.states.specs.States.{Memory, memory}
use Rattle.opening.specs.declared.OpenError.TheVariants.{BadLine, BadDatum, BadQuestion, NoRoom}
use Rattle.opening.specs.Opens.{FaultNumber, opened_number, refused_or, pieces_need, pieces_fit, Opening, opening, open_pieces, open_def}
use Rattle.opening.proofs.Numbers.{bad_line, bad_question}
use Rattle.lovgurshem.specs.Answers.{open_answer}
use Rattle.lovgurshem.specs.Calls.{open_call, refusal_of, call_open}
use Rattle.lovgurshem.specs.Short.{passes, ShortState}

-- ---- no pieces fit an empty slice
some_between : (lo hi : Float) (ks l : List Float) → 1 ≤ length l → 1 ≤ length (between lo hi ks l)
unfolding between
some_between lo hi [] l h = h
some_between lo hi (k ∷ ks) l h = go (inside lo hi k) (some_between lo hi ks l h)
  where
    go : (b : Bool) → 1 ≤ length (between lo hi ks l) → 1 ≤ length (cond b (k ∷ between lo hi ks l) (between lo hi ks l))
    go true n = omega arith
    go false n = n

none_fit : (q : Question) (p : List Float) → pieces_fit q [] p ≡ false
none_fit q p =
    let n = some_between q.lo1 q.hi1 (knots_of q.line1) (q.hi1 ∷ []) (lit≤ tt) in
    let a : 1 ≤ piece_count q.line1 q.lo1 q.hi1 = omega (arith, n) in
    let b : 4 ≤ 4 * (q.line1.degree + 1) = omega arith in
    let c : 0 < pieces_need q.line1 q.lo1 q.hi1 = let m = mul-le-mul a b in omega (arith, m) in
    rw (lt-leb _ _ c) refl

-- ---- the opening by its five tests
module _ (q : Question) where
  abbrev tested : Result Unit LineError → Result Unit LineError → Bool → Result Unit QuestionError → Bool → List Float → List Float → Memory → Opening
  tested a b n c d p1 p2 u =
      refused_or a (λ e. opening (Err (BadLine First e)) p1 p2 u) (refused_or b (λ e. opening (Err (BadLine Second e)) p1 p2 u)
      (cond n (refused_or c (λ e. opening (Err (BadQuestion e)) p1 p2 u) (cond d (open_pieces q p1 p2 u) (opening (Err NoRoom) p1 p2 u)))
      (opening (Err BadDatum) p1 p2 u)))

  lent_nothing : (p1 p2 : List Float) (u : Memory) → refusal_of q ≡ cond (passes q) 19 (open_answer (open_def q p1 p2 u).answer)
  lent_nothing p1 p2 u =
      go (admit_of q.line1) (admit_of q.line2) (one_datum q.line1.datum q.line2.datum) (ask_of q) (pieces_fit q [] []) (pieces_fit q p1 p2) (none_fit q [])
    where
      go : (a b : Result Unit LineError) (n : Bool) (c : Result Unit QuestionError) (d e : Bool) → d ≡ false
          → open_answer (tested a b n c d [] [] (memory [] [] [] [] [])).answer
          ≡ cond (is_ok a && (is_ok b && (n && is_ok c))) 19 (open_answer (tested a b n c e p1 p2 u).answer)
      go (Ok x) (Ok y) true (Ok z) true e h = absurd (false≢true (sym h))
      go (Ok x) (Ok y) true (Ok z) false e h = refl
      go (Ok y) (Ok z) true (Err x) d e h = refl
      go (Ok x) (Ok y) false c d e h = refl
      go (Ok y) (Err x) n c d e h = refl
      go (Err x) b n c d e h = refl

  fault_number : (p1 p2 : List Float) (u : Memory) → passes q ≡ false
      → FaultNumber (opened_number (open_def q p1 p2 u).answer)
  fault_number p1 p2 u = go (admit_of q.line1) (admit_of q.line2) (one_datum q.line1.datum q.line2.datum) (ask_of q) (pieces_fit q p1 p2)
    where
      go : (a b : Result Unit LineError) (n : Bool) (c : Result Unit QuestionError) (d : Bool) → (is_ok a && (is_ok b && (n && is_ok c))) ≡ false
          → FaultNumber (opened_number (tested a b n c d p1 p2 u).answer)
      go (Ok x) (Ok y) true (Ok z) d e = absurd (false≢true (sym e))
      go (Ok y) (Ok z) true (Err x) d e = bad_question x
      go (Ok x) (Ok y) false c d e = inr (lit≤ tt, lit≤ tt)
      go (Ok y) (Err x) n c d e = bad_line x
      go (Err x) b n c d e = bad_line x

pub short_state : ShortState
unfolding call_open
short_state q p1 p2 u ws h = (
  rw (lt-leb _ _ h) (ap (λ (n : ℕ). open_call n ws p1 p2 u) (lent_nothing q p1 p2 u)),
  fault_number q p1 p2 u,
)
