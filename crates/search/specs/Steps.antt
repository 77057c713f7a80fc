-- A step and the own verdict on a state and the lent memory (document 01, module Search; `Pairs::search` and `split` of the Rust). Definitions only.
use Rattle.std.specs.Prelude.{[], ◌∷◌, ◌++◌, Option, Some, None, Result, Ok, Err, Bool, true, false, ◌&&◌, cond, ℕ, zero, suc, ◌*◌, get_or}
use Rattle.std.specs.Float.{nan}
use Rattle.floats.specs.Stations.{Piece}
use Rattle.lists.specs.Parts.{block, patch}
use Rattle.verdicts.specs.declared.Verdict.{Verdict}
use Rattle.verdicts.specs.declared.Verdict.TheVariants.{Settled, Split, Unseparated}
use Rattle.verdicts.specs.declared.Side.{Side}
use Rattle.machine.specs.Machine.{choose, is_first, is_second}
use Rattle.regions.specs.Regions.{flat}
use Rattle.states.specs.declared.State.{State}
use Rattle.states.specs.declared.Depths.{Depths}
use Rattle.states.specs.declared.StepError.{StepError}
use Rattle.states.specs.declared.StepError.TheVariants.{Ended, NoRoom}
use Rattle.nodes.specs.Geometry.{Geometry, lower_half, upper_half, region_for}
use Rattle.nodes.specs.Moves.{settled_state, given_state, stopped_state, halved_state}
use Rattle.states.specs.States.{Memory, sizes, needed, enough, enough_own, depth_at, pair_of, deepened, at_end1, at_end2, is_search, over}

-- what a step answers, and the memory afterwards
pub record Stepping : Type 0 where
  pub answer : Result State StepError
  pub memory : Memory

abbrev pub stepping : Result State StepError → Memory → Stepping
stepping a u = record { answer = a; memory = u }

-- ---- a node read from its slot
abbrev pub part1 : State → Memory → ℕ → Piece
part1 x u k = record { lo = get_or (block 4 k u.ranges) 0 nan; hi = get_or (block 4 k u.ranges) 1 nan; net = block (4 * x.width1) k u.nets1 }

abbrev pub part2 : State → Memory → ℕ → Piece
part2 x u k = record { lo = get_or (block 4 k u.ranges) 2 nan; hi = get_or (block 4 k u.ranges) 3 nan; net = block (4 * x.width2) k u.nets2 }

-- ---- the memory after it
-- the region goes to 10 × the given count before it
abbrev pub given_memory : Geometry → State → Memory → Piece → Piece → Memory
given_memory G x u p q = record { nets1 = u.nets1; nets2 = u.nets2; ranges = u.ranges; depths = u.depths; raw = patch u.raw (x.tally.given * 10) (flat (region_for G p q)) }

-- a part of the line that is halved, or of the other
abbrev pub halves : Geometry → Bool → Bool → Piece → Piece
halves G true true p = upper_half G p
halves G true false p = lower_half G p
halves G false u p = p

-- the line that is halved of a node with the parts p and q and the depths d
abbrev pub choice_at : Geometry → Piece → Piece → Depths → Option Side
choice_at G p q d = choose (G.second_halved p.net q.net) (at_end1 d) (at_end2 d)

-- slots k and k + 1 after a split of that node along a line: the upper half is put down first, the lower on top
abbrev pub split_memory : Geometry → Side → ℕ → State → Memory → Piece → Piece → Depths → Memory
split_memory G line k x u p q d =
    let p0 = halves G (is_first line) true p in
    let p1 = halves G (is_first line) false p in
    let q0 = halves G (is_second line) true q in
    let q1 = halves G (is_second line) false q in
    record {
      nets1 = patch u.nets1 (k * (4 * x.width1)) (p0.net ++ p1.net);
      nets2 = patch u.nets2 (k * (4 * x.width2)) (q0.net ++ q1.net);
      ranges = patch u.ranges (k * 4) ((p0.lo ∷ p0.hi ∷ q0.lo ∷ q0.hi ∷ []) ++ (p1.lo ∷ p1.hi ∷ q1.lo ∷ q1.hi ∷ []));
      depths = patch u.depths (k * 2) (pair_of (deepened line d) ++ pair_of (deepened line d));
      raw = u.raw;
    }

-- ---- a step
abbrev pub give_up_at : Geometry → ℕ → State → Memory → Piece → Piece → Stepping
give_up_at G k x u p q = stepping (Ok (given_state k x)) (given_memory G x u p q)

-- a split along this line, at no allowance and otherwise
abbrev pub split_at : Geometry → Side → ℕ → ℕ → State → Memory → Piece → Piece → Depths → Stepping
split_at G line zero k x u p q d = stepping (Ok (stopped_state x)) u
split_at G line (suc s) k x u p q d = stepping (Ok (halved_state k s x)) (split_memory G line k x u p q d)

abbrev pub divide_at : Geometry → Option Side → ℕ → ℕ → State → Memory → Piece → Piece → Depths → Stepping
divide_at G (Some line) s k x u p q d = split_at G line s k x u p q d
divide_at G None s k x u p q d = give_up_at G k x u p q

-- what a verdict for the top node, node k, does
abbrev pub act_on : Geometry → ℕ → Verdict → State → Memory → Stepping
act_on G zero v x u = stepping (Err Ended) u
act_on G (suc k) (Settled by) x u = stepping (Ok (settled_state by k x)) u
act_on G (suc k) Split x u =
    let p = part1 x u k in
    let q = part2 x u k in
    let d = depth_at u.depths k in
    divide_at G (choice_at G p q d) x.tally.unspent k x u p q d
act_on G (suc k) Unseparated x u = give_up_at G k x u (part1 x u k) (part2 x u k)

-- 20, then 19
abbrev pub step_def : Geometry → State → Memory → Verdict → Stepping
step_def G x u v =
    cond (over x.tally) (stepping (Err Ended) u)
    (cond (enough (needed x) (sizes u) && is_search x u) (act_on G x.tally.waiting v x u) (stepping (Err NoRoom) u))

-- ---- the search's own verdict: it writes nothing
abbrev pub judge_at : Geometry → ℕ → State → Memory → Result Verdict StepError
judge_at G zero x u = Err Ended
judge_at G (suc k) x u = Ok (G.clearing x.gap (part1 x u k).net (part2 x u k).net)

-- 20 and 19 as for a step
abbrev pub own_def : Geometry → State → Memory → Result Verdict StepError
own_def G x u = cond (over x.tally) (Err Ended) (cond (enough_own (needed x) (sizes u) && is_search x u) (judge_at G x.tally.waiting x u) (Err NoRoom))
