-- States that are no search's, each beside one that could be (document 01: "There 19 also meets a state that is no search's"). Definitions only.
use Rattle.std.specs.Prelude.{◌≡◌, false, List, [], ◌∷◌, ℕ, replicate}
use Rattle.lists.specs.Members.{All}
use Rattle.lists.specs.Parts.{joined}
use Rattle.floats.specs.Floats.{zero64}
use Rattle.verdicts.specs.declared.Test.TheVariants.{Box}
use Rattle.verdicts.specs.declared.Verdict.TheVariants.{Settled}
use Rattle.states.specs.declared.State.{State}
use Rattle.states.specs.States.{Memory, memory, refusal_number, step_error_number}
use Rattle.nodes.specs.Nets.{geometry}
use Rattle.search.specs.Steps.{step_def}

-- the counts of a state with one pair at S 1; the depths of its top node; the number of a step on it, 0 for one that is not refused
pub record Forged : Type 0 where
  pub waiting : ℕ
  pub visits : ℕ
  pub splits : ℕ
  pub unspent : ℕ
  pub settled : ℕ
  pub boxes : ℕ
  pub planes : ℕ
  pub lines : ℕ
  pub given : ℕ
  pub first : ℕ
  pub second : ℕ
  pub number : ℕ

-- the nodes settled by box alone
abbrev pub forged : (waiting visits splits unspent settled given first second number : ℕ) → Forged
forged a b c d e f g h n = record { waiting = a; visits = b; splits = c; unspent = d; settled = e; boxes = e; planes = 0; lines = 0; given = f; first = g; second = h; number = n }

-- one node settled and one waiting after a split, with these tags
abbrev pub tagged : (boxes planes lines number : ℕ) → Forged
tagged b p l n = record { waiting = 1; visits = 2; splits = 1; unspent = 0; settled = 1; boxes = b; planes = p; lines = l; given = 0; first = 0; second = 1; number = n }

abbrev pub state_for : Forged → State
state_for f = record {
  tally = record {
    pairs = 1;
    quota = 1;
    waiting = f.waiting;
    visits = f.visits;
    splits = f.splits;
    unspent = f.unspent;
    settled = f.settled;
    boxes = f.boxes;
    planes = f.planes;
    lines = f.lines;
    given = f.given;
    stopped = false;
  };
  width1 = 2;
  width2 = 2;
  gap = zero64;
  terms = record { turn1 = false; turn2 = false; lo1 = zero64; hi1 = zero64; lo2 = zero64; hi2 = zero64 };
}

-- as much as one pair needs, with these depths in each slot
abbrev pub memory_for : Forged → Memory
memory_for f = memory (replicate 520 zero64) (replicate 520 zero64) (replicate 260 zero64) (joined (replicate 65 (f.first ∷ f.second ∷ []))) (replicate 20 zero64)

abbrev pub Answered : Forged → Type 0
Answered f = (refusal_number step_error_number (step_def geometry (state_for f) (memory_for f) (Settled Box)).answer ≡ f.number)

abbrev pub forgeries : List Forged
forgeries =
    -- a fresh search; visits is splits + settled + given + 1, and over it
    forged 1 0 0 1 0 0 0 0 0
    ∷ forged 1 1 0 1 0 0 0 0 0
    ∷ forged 1 2 0 1 0 0 0 0 19
    -- pairs + splits ≠ settled + given + waiting
    ∷ forged 1 1 0 1 1 0 0 0 19
    ∷ forged 1 1 0 1 0 1 0 0 19
    -- splits + unspent ≠ S × P
    ∷ forged 1 0 0 0 0 0 0 0 19
    ∷ forged 1 0 0 2 0 0 0 0 19
    -- two wait after a split, which is P + the sum of the top node's depths, and over P + 0
    ∷ forged 2 1 1 0 0 0 1 0 0
    ∷ forged 2 1 1 0 0 0 0 1 0
    ∷ forged 2 1 1 0 0 0 0 0 19
    -- depths of 32, and either over it
    ∷ forged 1 0 0 1 0 0 32 32 0
    ∷ forged 1 0 0 1 0 0 33 0 19
    ∷ forged 1 0 0 1 0 0 0 33 19
    ∷ forged 1 0 0 1 0 0 255 255 19
    -- the tags sum to settled; they don't, by one and by 2^32
    ∷ tagged 1 0 0 0
    ∷ tagged 0 1 0 0
    ∷ tagged 0 0 1 0
    ∷ tagged 0 0 0 19
    ∷ tagged 1 0 1 19
    ∷ tagged 4294967295 1 1 19
    -- none waits: 20 comes before 19
    ∷ forged 0 9 0 1 0 0 0 0 20
    ∷ []

abbrev pub Forgeries : Type 0
Forgeries = All Answered forgeries
