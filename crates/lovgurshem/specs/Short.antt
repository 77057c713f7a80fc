-- An opening with too few words: the statement. Definitions only.
use Rattle.std.specs.Prelude.{◌≡◌, Bool, false, ◌&&◌, cond, List, ℕ, ◌<◌, length, Float, is_ok}
use Rattle.lines.specs.Lines.{Question}
use Rattle.lines.specs.Data.{one_datum}
use Rattle.lines.specs.Admit.{admit_of}
use Rattle.questions.specs.Questions.{ask_of}
use Rattle.states.specs.States.{Memory}
use Rattle.opening.specs.Opens.{FaultNumber, opened_number, open_def}
use Rattle.lovgurshem.specs.Answers.{open_answer}
use Rattle.lovgurshem.specs.Calls.{open_call, call_open}

-- both lines, their data and the question pass 4 to 18, 22 and 23
abbrev pub passes : Question → Bool
passes q = is_ok (admit_of q.line1) && (is_ok (admit_of q.line2) && (one_datum q.line1.datum q.line2.datum && is_ok (ask_of q)))

-- 19 where they pass, and else the number, from 4 to 18, 22 or 23, that enough words would get; all slices are as they were
abbrev pub ShortState : Type 0
ShortState =
    (q : Question) (p1 p2 : List Float) (u : Memory) (ws : List ℕ) → length ws < 23
    → (call_open q p1 p2 u ws ≡ open_call (cond (passes q) 19 (open_answer (open_def q p1 p2 u).answer)) ws p1 p2 u)
    × (passes q ≡ false → FaultNumber (opened_number (open_def q p1 p2 u).answer))
