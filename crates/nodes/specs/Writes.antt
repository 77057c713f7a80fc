-- What the functions below a step write, slice by slice, and the room that they have. Cited by inner functions only.
use Rattle.std.specs.Prelude.{◌≡◌, List, [], ◌∷◌, ◌++◌, Bool, cond, ℕ, suc, ◌+◌, ◌*◌, ◌≤◌, ◌<◌, get_or, Float}
use Rattle.std.specs.Float.{nan}
use Rattle.lists.specs.Parts.{block, patch}
use Rattle.floats.specs.Floats.{middle}
use Rattle.nets.specs.Slots.{split_slot, copy_slot}
use Rattle.verdicts.specs.declared.Side.{Side}
use Rattle.verdicts.specs.declared.Side.TheVariants.{First, Second}
use Rattle.states.specs.declared.State.{State}
use Rattle.states.specs.declared.Depths.{Depths}
use Rattle.states.specs.States.{Sizes, pair_of, deepened}

-- the net slice of a line that is halved, or of the other
abbrev pub slots_after : Bool → ℕ → ℕ → List Float → List Float
slots_after half w k s = cond half (split_slot w k s) (copy_slot w k s)

-- a node's four range ends, those of one line halved: the upper half, and the lower
abbrev pub ranges_halved : Side → List Float → List Float
ranges_halved Second l =
    (get_or l 0 nan ∷ get_or l 1 nan ∷ middle (get_or l 2 nan) (get_or l 3 nan) ∷ get_or l 3 nan ∷ []) ++
    (get_or l 0 nan ∷ get_or l 1 nan ∷ get_or l 2 nan ∷ middle (get_or l 2 nan) (get_or l 3 nan) ∷ [])
ranges_halved First l =
    (middle (get_or l 0 nan) (get_or l 1 nan) ∷ get_or l 1 nan ∷ get_or l 2 nan ∷ get_or l 3 nan ∷ []) ++
    (get_or l 0 nan ∷ middle (get_or l 0 nan) (get_or l 1 nan) ∷ get_or l 2 nan ∷ get_or l 3 nan ∷ [])

abbrev pub ranges_after : Side → ℕ → List Float → List Float
ranges_after line k ranges = patch ranges (k * 4) (ranges_halved line (block 4 k ranges))

-- both halves are one deeper on the line that is halved
abbrev pub depths_after : Side → Depths → ℕ → List ℕ → List ℕ
depths_after line d k depths = patch depths (k * 2) (pair_of (deepened line d) ++ pair_of (deepened line d))

-- below a sum of 64 the next slot is there too
pub record Above (x : State) (k : ℕ) (s : Sizes) : Type 0 where
  pub nets1 : (k + 2) * (4 * x.width1) ≤ s.nets1
  pub nets2 : (k + 2) * (4 * x.width2) ≤ s.nets2
  pub ranges : (k + 2) * 4 ≤ s.ranges
  pub depths : (k + 2) * 2 ≤ s.depths
  pub few : k < 65600

-- what an accepted step may take as given: node k, at the depths d, is the top of those waiting, its slots and a place for its region are there, and no count runs over
pub record Room (x : State) (k : ℕ) (d : Depths) (s : Sizes) : Type 0 where
  pub top : x.tally.waiting ≡ suc k
  pub nets1 : (k + 1) * (4 * x.width1) ≤ s.nets1
  pub nets2 : (k + 1) * (4 * x.width2) ≤ s.nets2
  pub ranges : (k + 1) * 4 ≤ s.ranges
  pub depths : (k + 1) * 2 ≤ s.depths
  pub raw : (x.tally.given + 1) * 10 ≤ s.raw
  pub closed : x.tally.settled + x.tally.given + x.tally.waiting < 4294967296
  pub tags : x.tally.settled ≡ x.tally.boxes + x.tally.planes + x.tally.lines
  pub spent : x.tally.splits + x.tally.unspent < 4294967296
  pub steps : x.tally.visits < 18446744073709551615
  pub first : d.first ≤ 32
  pub second : d.second ≤ 32
  pub above : d.first + d.second < 64 → Above x k s
