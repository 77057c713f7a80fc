-- What a halving leaves in the slice (document 02, M-102). Definitions only.
use Rattle.std.specs.Prelude.{◌≡◌, List, ℕ, suc, ◌+◌, ◌*◌, ◌≤◌, length, take, drop, Float}
use Rattle.lists.specs.Parts.{block}
use Rattle.nets.specs.Halving.{lower_of, upper_of}
use Rattle.nets.specs.Slots.{split_slot}

-- "Both slots afterwards follow from the net alone, whatever the free slot held": slot k has the upper half of the net that stood there, slot k + 1, which was free, the lower half
pub record Halved (w k : ℕ) (s : List Float) : Type 0 where
  pub upper : block (4 * w) k (split_slot w k s) ≡ upper_of w (block (4 * w) k s)
  pub lower : block (4 * w) (suc k) (split_slot w k s) ≡ lower_of w (block (4 * w) k s)
  -- every other place is as it was
  pub before : take (k * (4 * w)) (split_slot w k s) ≡ take (k * (4 * w)) s
  pub behind : drop ((k + 2) * (4 * w)) (split_slot w k s) ≡ drop ((k + 2) * (4 * w)) s

-- for every width and every slice that has both slots
abbrev pub SlotsFollow : Type 0
SlotsFollow = (w k : ℕ) (s : List Float) → (k + 2) * (4 * w) ≤ length s → Halved w k s
