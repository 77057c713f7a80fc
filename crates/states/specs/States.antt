-- The state, the lent memory, and number 19's tests of both (document 01, the paragraph under the table). Definitions only.
use Rattle.std.specs.Prelude.{List, [], ◌∷◌, Result, Ok, Err, Bool, true, false, ◌&&◌, ◌||◌, cond, ℕ, zero, suc, ◌+◌, ◌-◌, ◌*◌, leb, eqb, length, get_or, Float}
use Rattle.lists.specs.Parts.{block}
use Rattle.verdicts.specs.declared.Side.{Side}
use Rattle.verdicts.specs.declared.Side.TheVariants.{First, Second}
use Rattle.terms.specs.declared.Terms.{Terms}
use Rattle.states.specs.declared.Tally.{Tally}
use Rattle.states.specs.declared.State.{State}
use Rattle.states.specs.declared.Counts.{Counts}
use Rattle.states.specs.declared.Depths.{Depths}
use Rattle.states.specs.declared.Top.{Top}
use Rattle.states.specs.declared.StepError.{StepError}
use Rattle.states.specs.declared.StepError.TheVariants.{Ended, NoRoom}

-- "two depths, each at most 32": the most halvings of one line between its piece and a node
abbrev pub limit : ℕ
limit = 32

-- "Still at most pairs + 64 nodes wait"
abbrev pub spare : ℕ
spare = 2 * limit

-- the lent slices; node k owns slot k of the nets, the ranges and the depths
pub record Memory : Type 0 where
  pub nets1 : List Float
  pub nets2 : List Float
  pub ranges : List Float
  pub depths : List ℕ
  pub raw : List Float

abbrev pub memory : List Float → List Float → List Float → List ℕ → List Float → Memory
memory a b r d w = record { nets1 = a; nets2 = b; ranges = r; depths = d; raw = w }

-- the numbers of a fresh search of P pairs: all wait, and S × P may be spent
abbrev pub first_tally : ℕ → ℕ → Tally
first_tally P S =
    record {
      pairs = P;
      quota = S;
      waiting = P;
      visits = 0;
      splits = 0;
      unspent = S * P;
      settled = 0;
      boxes = 0;
      planes = 0;
      lines = 0;
      given = 0;
      stopped = false;
    }

abbrev pub first_state : ℕ → ℕ → ℕ → ℕ → Float → Terms → State
first_state P S w1 w2 gap terms = record { tally = first_tally P S; width1 = w1; width2 = w2; gap = gap; terms = terms }

-- five lengths: of a memory's slices, of what is lent of them, of what is needed
pub record Sizes : Type 0 where
  pub nets1 : ℕ
  pub nets2 : ℕ
  pub ranges : ℕ
  pub depths : ℕ
  pub raw : ℕ

abbrev pub sizes : Memory → Sizes
sizes u = record { nets1 = length u.nets1; nets2 = length u.nets2; ranges = length u.ranges; depths = length u.depths; raw = length u.raw }

-- "one of S × P is spent": the allowance that a search starts with (`allowance`)
abbrev pub allowance_of : Tally → ℕ
allowance_of t = t.quota * t.pairs

-- how many regions there can be, P × (S + 1): one a starting pair, and one more a split (`records`)
abbrev pub records_of : Tally → ℕ
records_of t = t.pairs + allowance_of t

-- "nets (P + 64) × 4 × width for each line; node ranges 4 × (P + 64), and as many depths as nodes", now "two a node"; "raw regions 10 × P × (S + 1)"
abbrev pub needed : State → Sizes
needed x = record {
  nets1 = (x.tally.pairs + spare) * (4 * x.width1);
  nets2 = (x.tally.pairs + spare) * (4 * x.width2);
  ranges = (x.tally.pairs + spare) * 4;
  depths = (x.tally.pairs + spare) * 2;
  raw = records_of x.tally * 10;
}

-- the own verdict is lent the nets and the depths, a step the ranges and the raw regions too
abbrev pub enough_own : Sizes → Sizes → Bool
enough_own need have = leb need.nets1 have.nets1 && (leb need.nets2 have.nets2 && leb need.depths have.depths)

abbrev pub enough : Sizes → Sizes → Bool
enough need have = enough_own need have && (leb need.ranges have.ranges && leb need.raw have.raw)

-- ---- "a state that is no search's": the five tests, and "A state whose three don't sum so meets 19"
-- two depths, and both in slot k: the first line's first
abbrev pub depths_of : ℕ → ℕ → Depths
depths_of a b = record { first = a; second = b }

abbrev pub depth_at : List ℕ → ℕ → Depths
depth_at depths k = depths_of (get_or (block 2 k depths) 0 0) (get_or (block 2 k depths) 1 0)

abbrev pub pair_of : Depths → List ℕ
pair_of d = d.first ∷ d.second ∷ []

-- one deeper on a line
abbrev pub deepened : Side → Depths → Depths
deepened Second d = depths_of d.first (suc d.second)
deepened First d = depths_of (suc d.first) d.second

-- a line at the limit is halved no more
abbrev pub at_end1 : Depths → Bool
at_end1 d = leb limit d.first

abbrev pub at_end2 : Depths → Bool
at_end2 d = leb limit d.second

-- the count waiting is at most P + the top node's depth, if one waits: "the top node's depth is the sum of its two, and either over 32 meets 19 too"
abbrev pub top_fits : ℕ → ℕ → Depths → Bool
top_fits P zero d = true
top_fits P (suc k) d = leb (suc k) (P + (d.first + d.second)) && (leb d.first limit && leb d.second limit)

abbrev pub search_with : Tally → Depths → Bool
search_with t d =
    top_fits t.pairs t.waiting d
    && (eqb (t.pairs + t.splits) (t.settled + t.given + t.waiting)
    && (eqb (t.splits + t.unspent) (allowance_of t)
    && (eqb t.settled (t.boxes + t.planes + t.lines)
    && leb t.visits (t.splits + t.settled + t.given + 1))))

-- the top node's depths, of so many waiting
abbrev pub top_depth : ℕ → List ℕ → Depths
top_depth zero depths = depths_of 0 0
top_depth (suc k) depths = depth_at depths k

abbrev pub is_search : State → Memory → Bool
is_search x u = search_with x.tally (top_depth x.tally.waiting u.depths)

abbrev pub is_zero : ℕ → Bool
is_zero zero = true
is_zero (suc n) = false

-- the search has ended: a split came due at no allowance, or no node waits
abbrev pub over : Tally → Bool
over t = t.stopped || is_zero t.waiting

-- the result; left is the nodes waiting at the end
abbrev pub counts_of : Tally → Counts
counts_of t =
    record {
      pairs = t.pairs;
      visits = t.visits;
      splits = t.splits;
      settled = t.settled;
      boxes = t.boxes;
      planes = t.planes;
      lines = t.lines;
      given = t.given;
      left = cond (over t) t.waiting 0;
      unspent = t.unspent;
    }

-- ---- what a call finds on top
-- the paper's number of a refusal
abbrev pub step_error_number : StepError → ℕ
step_error_number Ended = 20
step_error_number NoRoom = 19

-- the paper's number for an answer, whose refusals have these numbers: 0 for one that is no refusal
abbrev pub refusal_number : {A E : Type 0} → (E → ℕ) → Result A E → ℕ
refusal_number number (Ok a) = 0
refusal_number number (Err e) = number e

-- 20, then 19: for a slice too short, `room` being false, or a state that is no search's
abbrev pub top_of : Tally → Bool → List ℕ → Result Top StepError
top_of t room depths =
    let d = top_depth t.waiting depths in
    cond (over t) (Err Ended) (cond (room && search_with t d) (Ok (record { place = t.waiting - 1; depth = d })) (Err NoRoom))
