-- Which line of a node a Split halves, by its depths and boxes (document 02, M-106: "The cases at 63 and 64 become 31 and 32 on both lines"). Definitions only.
use Rattle.std.specs.Prelude.{◌≡◌, false, List, [], ◌∷◌, ◌++◌, ℕ, replicate, take, Float, Result, Ok, Err}
use Rattle.lists.specs.Members.{All}
use Rattle.verdicts.specs.declared.Verdict.TheVariants.{Split}
use Rattle.states.specs.declared.State.{State}
use Rattle.states.specs.States.{Memory, memory}
use Rattle.nodes.specs.Nets.{geometry}
use Rattle.states.specs.declared.StepError.{StepError}
use Rattle.search.specs.Steps.{step_def}
use Rattle.floats.specs.Floats.{zero64, one64}
use Rattle.cases.specs.Cases.{two64}

-- a fresh search of one pair at this S; the depths of its node, and how long its lines are along x
pub record Divided : Type 0 where
  pub quota : ℕ
  pub first : ℕ
  pub second : ℕ
  pub length1 : Float
  pub length2 : Float
  -- after a Split: nodes waiting, splits, given up, the allowance left; and the depths in the first two slots
  pub after : List ℕ
  pub depths : List ℕ

abbrev pub divided : ℕ → ℕ → ℕ → Float → Float → List ℕ → List ℕ → Divided
divided S a b l1 l2 after depths = record { quota = S; first = a; second = b; length1 = l1; length2 = l2; after = after; depths = depths }

abbrev pub state_for : Divided → State
state_for d = record {
  tally = record {
    pairs = 1;
    quota = d.quota;
    waiting = 1;
    visits = 0;
    splits = 0;
    unspent = d.quota;
    settled = 0;
    boxes = 0;
    planes = 0;
    lines = 0;
    given = 0;
    stopped = false;
  };
  width1 = 2;
  width2 = 2;
  gap = zero64;
  terms = record { turn1 = false; turn2 = false; lo1 = zero64; hi1 = zero64; lo2 = zero64; hi2 = zero64 };
}

-- the net of a line from the origin along x
abbrev pub net_for : Float → List Float
net_for x = zero64 ∷ zero64 ∷ zero64 ∷ one64 ∷ x ∷ zero64 ∷ zero64 ∷ one64 ∷ []

abbrev pub memory_for : Divided → Memory
memory_for d =
    memory (net_for d.length1 ++ replicate 512 zero64) (net_for d.length2 ++ replicate 512 zero64) (replicate 260 zero64)
    (d.first ∷ d.second ∷ replicate 128 0) (replicate 20 zero64)

abbrev pub counts_in : Result State StepError → List ℕ
counts_in (Ok x) = x.tally.waiting ∷ x.tally.splits ∷ x.tally.given ∷ x.tally.unspent ∷ []
counts_in (Err e) = []

abbrev pub Divides : Divided → Type 0
Divides d = let o = step_def geometry (state_for d) (memory_for d) Split in (counts_in o.answer ≡ d.after) × (take 4 o.memory.depths ≡ d.depths)

abbrev pub divisions : List Divided
divisions =
    -- below the limit on both lines: the longer is halved, of equal ones the second
    divided 1 31 31 two64 one64 (2 ∷ 1 ∷ 0 ∷ 0 ∷ []) (32 ∷ 31 ∷ 32 ∷ 31 ∷ [])
    ∷ divided 1 31 31 one64 two64 (2 ∷ 1 ∷ 0 ∷ 0 ∷ []) (31 ∷ 32 ∷ 31 ∷ 32 ∷ [])
    ∷ divided 1 31 31 one64 one64 (2 ∷ 1 ∷ 0 ∷ 0 ∷ []) (31 ∷ 32 ∷ 31 ∷ 32 ∷ [])
    -- "If the line chosen by box size is at 32, the other is halved"
    ∷ divided 1 32 0 two64 one64 (2 ∷ 1 ∷ 0 ∷ 0 ∷ []) (32 ∷ 1 ∷ 32 ∷ 1 ∷ [])
    ∷ divided 1 0 32 one64 two64 (2 ∷ 1 ∷ 0 ∷ 0 ∷ []) (1 ∷ 32 ∷ 1 ∷ 32 ∷ [])
    ∷ divided 1 0 32 one64 one64 (2 ∷ 1 ∷ 0 ∷ 0 ∷ []) (1 ∷ 32 ∷ 1 ∷ 32 ∷ [])
    ∷ divided 1 32 31 two64 one64 (2 ∷ 1 ∷ 0 ∷ 0 ∷ []) (32 ∷ 32 ∷ 32 ∷ 32 ∷ [])
    ∷ divided 1 31 32 one64 two64 (2 ∷ 1 ∷ 0 ∷ 0 ∷ []) (32 ∷ 32 ∷ 32 ∷ 32 ∷ [])
    -- the other line at 32 changes nothing
    ∷ divided 1 32 0 one64 two64 (2 ∷ 1 ∷ 0 ∷ 0 ∷ []) (32 ∷ 1 ∷ 32 ∷ 1 ∷ [])
    ∷ divided 1 0 32 two64 one64 (2 ∷ 1 ∷ 0 ∷ 0 ∷ []) (1 ∷ 32 ∷ 1 ∷ 32 ∷ [])
    -- "with both at 32 the node is given up and nothing is spent", also where nothing is left to spend
    ∷ divided 1 32 32 two64 one64 (0 ∷ 0 ∷ 1 ∷ 1 ∷ []) (32 ∷ 32 ∷ 0 ∷ 0 ∷ [])
    ∷ divided 0 32 32 two64 one64 (0 ∷ 0 ∷ 1 ∷ 0 ∷ []) (32 ∷ 32 ∷ 0 ∷ 0 ∷ [])
    -- at allowance 0 any other node stays
    ∷ divided 0 32 31 two64 one64 (1 ∷ 0 ∷ 0 ∷ 0 ∷ []) (32 ∷ 31 ∷ 0 ∷ 0 ∷ [])
    ∷ []

abbrev pub Divisions : Type 0
Divisions = All Divides divisions
