-- The opening in two acts: the first decides each test before the first write, writes the pieces and tells P; the second tests the room for the rest and
-- pushes. Definitions only.
use Rattle.std.specs.Prelude.{◌≡◌, List, true, cond, ℕ, ◌+◌, Float, Result, Ok, Err}
use Rattle.verdicts.specs.declared.Side.TheVariants.{First, Second}
use Rattle.lines.specs.Admit.{admit_of}
use Rattle.lines.specs.Lines.{Question}
use Rattle.lines.specs.Data.{one_datum}
use Rattle.questions.specs.Questions.{ask_of}
use Rattle.states.specs.declared.State.{State}
use Rattle.states.specs.States.{Memory, sizes, needed, enough, first_state}
use Rattle.opening.specs.declared.OpenError.{OpenError}
use Rattle.opening.specs.declared.OpenError.TheVariants.{BadLine, BadDatum, BadQuestion, NoRoom}
use Rattle.opening.specs.Asked.{pairs_of}
use Rattle.opening.specs.Opens.{search_for, terms_of, refused_or, pieces_fit, pieces_in, push_def, Opening, opening, open_def}

-- ---- the first act
-- `open_def`'s tests in its order (`tests`)
abbrev pub tests_of : Question → List Float → List Float → Result Unit OpenError
tests_of q p1 p2 =
    refused_or (admit_of q.line1) (λ e. Err (BadLine First e))
    (refused_or (admit_of q.line2) (λ e. Err (BadLine Second e))
    (cond (one_datum q.line1.datum q.line2.datum)
    (refused_or (ask_of q) (λ e. Err (BadQuestion e))
    (cond (pieces_fit q p1 p2) (Ok tt) (Err NoRoom)))
    (Err BadDatum)))

pub record Examining : Type 0 where
  pub answer : Result ℕ OpenError
  pub pieces1 : List Float
  pub pieces2 : List Float

abbrev pub examining : Result ℕ OpenError → List Float → List Float → Examining
examining a p1 p2 = record { answer = a; pieces1 = p1; pieces2 = p2 }

-- a refusal leaves the piece slices as they are; else the pieces are written, and P is the number of pairs of the search that the question asks for
abbrev pub examined_by : Question → List Float → List Float → Result Unit OpenError → Examining
examined_by q p1 p2 (Ok passed) =
    examining (Ok (pairs_of (search_for q))) (pieces_in q.line1 q.lo1 q.hi1 p1) (pieces_in q.line2 q.lo2 q.hi2 p2)
examined_by q p1 p2 (Err e) = examining (Err e) p1 p2

abbrev pub examine_def : Question → List Float → List Float → Examining
examine_def q p1 p2 = examined_by q p1 p2 (tests_of q p1 p2)

-- ---- the second act
-- a refusal of the first is handed on with the memory as it was; where it told P the pairs are pushed
abbrev pub push_after : Question → Memory → Result ℕ OpenError → List Float → List Float → Opening
push_after q u (Ok n) p1 p2 = let o = push_def (search_for q) u in opening o.answer p1 p2 o.memory
push_after q u (Err e) p1 p2 = opening (Err e) p1 p2 u

abbrev pub after_examined : Question → Memory → Examining → Opening
after_examined q u e = push_after q u e.answer e.pieces1 e.pieces2

-- ---- what holds of the two
-- the opening is one after the other
abbrev pub TwoActs : Type 0
TwoActs = (q : Question) (p1 p2 : List Float) (u : Memory) → open_def q p1 p2 u ≡ after_examined q u (examine_def q p1 p2)

-- an open search has the P that was told
abbrev pub SamePairs : Type 0
SamePairs = (q : Question) (p1 p2 : List Float) (u : Memory) (x : State) → (open_def q p1 p2 u).answer ≡ Ok x → (examine_def q p1 p2).answer ≡ Ok x.tally.pairs

-- where P was told, an opening that is lent what P pairs need opens the search; its piece slices a and b may be others
abbrev pub LentByPairs : Type 0
LentByPairs = (q : Question) (p1 p2 : List Float) (n : ℕ) → (examine_def q p1 p2).answer ≡ Ok n → (a b : List Float) (u : Memory) → pieces_fit q a b ≡ true
    → (let x = first_state n q.splits (q.line1.degree + 1) (q.line2.degree + 1) q.gap (terms_of q) in
    enough (needed x) (sizes u) ≡ true → (open_def q a b u).answer ≡ Ok x)
