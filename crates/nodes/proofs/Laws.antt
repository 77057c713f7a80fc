-- What the writes of a step make of each slice. Assumes nothing.
use mathlib.Core.Path.{◌≡◌, refl, ap, ◌∙◌}
use mathlib.Core.List.{List, [], ◌∷◌, ◌++◌}
use Prim.Native.Nat.{ℕ, ◌+◌, ◌*◌, ◌≤◌}
use native.Mathlib.Nat.{add-zero}
use native.Mathlib.Omega.{arith}
use lib.ListN.{length, get_or}
use lib.Ieee.{Float, nan}
use Rattle.lists.specs.Parts.{block, patch}
use Rattle.lists.proofs.Parts.{block_get, patch_twice}
use Rattle.floats.specs.Floats.{middle}
use Rattle.verdicts.specs.declared.Side.{Side}
use Rattle.verdicts.specs.declared.Side.TheVariants.{First, Second}
use Rattle.nodes.specs.Writes.{ranges_halved, ranges_after}

halved_second : (l : List Float) (k : ℕ) (mid : Float) → mid ≡ middle (get_or l (k * 4 + 2) nan) (get_or l (k * 4 + 3) nan)
    → (get_or l (k * 4) nan ∷ get_or l (k * 4 + 1) nan ∷ mid ∷ get_or l (k * 4 + 3) nan ∷ []) ++
    (get_or l (k * 4) nan ∷ get_or l (k * 4 + 1) nan ∷ get_or l (k * 4 + 2) nan ∷ mid ∷ []) ≡ ranges_halved Second (block 4 k l)
halved_second l k mid e =
    rw (
      block_get 4 k 0 l nan (omega arith),
      block_get 4 k 1 l nan (omega arith),
      block_get 4 k 2 l nan (omega arith),
      block_get 4 k 3 l nan (omega arith),
      add-zero,
      e,
    ) refl

halved_first : (l : List Float) (k : ℕ) (mid : Float) → mid ≡ middle (get_or l (k * 4) nan) (get_or l (k * 4 + 1) nan)
    → (mid ∷ get_or l (k * 4 + 1) nan ∷ get_or l (k * 4 + 2) nan ∷ get_or l (k * 4 + 3) nan ∷ []) ++
    (get_or l (k * 4) nan ∷ mid ∷ get_or l (k * 4 + 2) nan ∷ get_or l (k * 4 + 3) nan ∷ []) ≡ ranges_halved First (block 4 k l)
halved_first l k mid e =
    rw (
      block_get 4 k 0 l nan (omega arith),
      block_get 4 k 1 l nan (omega arith),
      block_get 4 k 2 l nan (omega arith),
      block_get 4 k 3 l nan (omega arith),
      add-zero,
      e,
    ) refl

-- two points written one behind the other
ranges_are : (b : Side) (l l1 l2 u v : List Float) (k : ℕ) → (k + 2) * 4 ≤ length l → length u ≡ 4 → length v ≡ 4
    → l1 ≡ patch l (k * 4) u → l2 ≡ patch l1 (k * 4 + 4) v → u ++ v ≡ ranges_halved b (block 4 k l) → l2 ≡ ranges_after b k l
ranges_are b l l1 l2 u v k h lu lv e f g =
    f ∙ ap (λ (z : List Float). patch z (k * 4 + 4) v) e ∙ patch_twice l (k * 4) (k * 4 + 4) u v (omega arith) (omega arith) ∙ ap (patch l (k * 4)) g

pub ranges_second : (l l1 l2 : List Float) (k : ℕ) (mid : Float) → (k + 2) * 4 ≤ length l → mid ≡ middle (get_or l (k * 4 + 2) nan) (get_or l (k * 4 + 3) nan)
    → l1 ≡ patch l (k * 4) (get_or l (k * 4) nan ∷ get_or l (k * 4 + 1) nan ∷ mid ∷ get_or l (k * 4 + 3) nan ∷ [])
    → l2 ≡ patch l1 (k * 4 + 4) (get_or l (k * 4) nan ∷ get_or l (k * 4 + 1) nan ∷ get_or l (k * 4 + 2) nan ∷ mid ∷ []) → l2 ≡ ranges_after Second k l
ranges_second l l1 l2 k mid h m e f =
    ranges_are Second l l1 l2 (get_or l (k * 4) nan ∷ get_or l (k * 4 + 1) nan ∷ mid ∷ get_or l (k * 4 + 3) nan ∷ [])
    (get_or l (k * 4) nan ∷ get_or l (k * 4 + 1) nan ∷ get_or l (k * 4 + 2) nan ∷ mid ∷ []) k h refl refl e f (halved_second l k mid m)

pub ranges_first : (l l1 l2 : List Float) (k : ℕ) (mid : Float) → (k + 2) * 4 ≤ length l → mid ≡ middle (get_or l (k * 4) nan) (get_or l (k * 4 + 1) nan)
    → l1 ≡ patch l (k * 4) (mid ∷ get_or l (k * 4 + 1) nan ∷ get_or l (k * 4 + 2) nan ∷ get_or l (k * 4 + 3) nan ∷ [])
    → l2 ≡ patch l1 (k * 4 + 4) (get_or l (k * 4) nan ∷ mid ∷ get_or l (k * 4 + 2) nan ∷ get_or l (k * 4 + 3) nan ∷ []) → l2 ≡ ranges_after First k l
ranges_first l l1 l2 k mid h m e f =
    ranges_are First l l1 l2 (mid ∷ get_or l (k * 4 + 1) nan ∷ get_or l (k * 4 + 2) nan ∷ get_or l (k * 4 + 3) nan ∷ [])
    (get_or l (k * 4) nan ∷ mid ∷ get_or l (k * 4 + 2) nan ∷ get_or l (k * 4 + 3) nan ∷ []) k h refl refl e f (halved_first l k mid m)
