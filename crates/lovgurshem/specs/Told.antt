-- What the first act tells of the opening, with the same lines and question: the statements. Definitions only.
use Rattle.std.specs.Prelude.{◌≡◌, true, List, ℕ, ◌+◌, ◌≤◌, length, get_or, Float}
use Rattle.lines.specs.Lines.{Question}
use Rattle.states.specs.States.{Memory, sizes, needed, enough, first_state}
use Rattle.opening.specs.Opens.{terms_of, pieces_fit}
use Rattle.lovgurshem.specs.Calls.{call_open, call_examine}

-- word 0 of an open search's state is the P that was told
abbrev pub PairsTold : Type 0
PairsTold =
    (q : Question) (p1 p2 : List Float) (u : Memory) (ws ps : List ℕ) → 23 ≤ length ws → 1 ≤ length ps → (call_open q p1 p2 u ws).number ≡ 0
    → ((call_examine q p1 p2 ps).number ≡ 0) × (get_or (call_examine q p1 p2 ps).words 0 0 ≡ get_or (call_open q p1 p2 u ws).words 0 0)

-- a refusal is the opening's
abbrev pub SameRefusal : Type 0
SameRefusal =
    (q : Question) (p1 p2 : List Float) (u : Memory) (ws ps : List ℕ) → 23 ≤ length ws → 1 ≤ length ps → ((call_examine q p1 p2 ps).number ≡ 0 → ⊥)
    → (call_open q p1 p2 u ws).number ≡ (call_examine q p1 p2 ps).number

-- where P was told, the opening that is lent what a search of P pairs needs opens it; its piece slices a and b may be others
abbrev pub LentEnough : Type 0
LentEnough =
    (q : Question) (p1 p2 : List Float) (ps : List ℕ) → 1 ≤ length ps → (call_examine q p1 p2 ps).number ≡ 0
    → (a b : List Float) (u : Memory) (ws : List ℕ) → 23 ≤ length ws → pieces_fit q a b ≡ true
    → (let pairs = get_or (call_examine q p1 p2 ps).words 0 0 in
    enough (needed (first_state pairs q.splits (q.line1.degree + 1) (q.line2.degree + 1) q.gap (terms_of q))) (sizes u) ≡ true
    → (call_open q a b u ws).number ≡ 0)
