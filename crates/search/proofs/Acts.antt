-- What each verdict does, from what its writes make of each slice. Assumes nothing.
use mathlib.Core.Path.{◌≡◌, refl, ap, ◌∙◌}
use mathlib.Core.Bool.{Bool, true, false}
use mathlib.Core.List.{List, [], ◌∷◌, ◌++◌}
use Prim.Native.Nat.{ℕ, zero, suc, ◌+◌, ◌-◌, ◌*◌, ◌/◌, ◌≤◌, ◌<◌}
use native.Mathlib.Nat.{mul_comm, mul-div_cancel}
use native.Mathlib.Omega.{arith}
use borrow.Author.Tests.{leb-false}
use lib.Dec.{leb, lit<}
use lib.ListN.{length, get_or}
use lib.Ieee.{Float, nan}
use Rattle.floats.specs.Stations.{Piece}
use Rattle.lists.specs.Parts.{block, patch}
use Rattle.lists.proofs.Parts.{part_length}
use Rattle.verdicts.specs.declared.Verdict.TheVariants.{Split}
use Rattle.std.proofs.Common.{Option, Some, Ok}
use Rattle.verdicts.specs.declared.Side.{Side}
use Rattle.verdicts.specs.declared.Side.TheVariants.{First, Second}
use Rattle.machine.specs.Machine.{choose, is_first, is_second}
use Rattle.nets.specs.Slots.{split_slot, copy_slot}
use Rattle.boxes.specs.declared.Aabb.{Aabb}
use Rattle.boxes.specs.Boxes.{second_halved}
use Rattle.boxes.specs.Nets.{box_of}
use Rattle.states.specs.declared.State.{State}
use Rattle.states.specs.declared.Depths.{Depths}
use Rattle.states.specs.States.{Memory, memory, depth_at, at_end1, at_end2}
use Rattle.nodes.specs.Nets.{geometry}
use Rattle.nodes.specs.Moves.{halved_state}
use Rattle.search.specs.Steps.{stepping, part1, part2, halves, choice_at, split_memory, split_at, divide_at, act_on}
use Rattle.nodes.specs.Writes.{slots_after, ranges_halved, ranges_after, depths_after}

-- ---- the nets of a split
points_of_lem : (w : ℕ) (l : List Float) → length l ≡ 4 * w → length l / 4 ≡ w
points_of_lem w l h = ap (λ (n : ℕ). n / 4) (h ∙ mul_comm 4 w) ∙ mul-div_cancel w (lit< tt)

slots_are : (half : Bool) (w k : ℕ) (s : List Float) (p : Piece) → p.net ≡ block (4 * w) k s → length (block (4 * w) k s) ≡ 4 * w
    → slots_after half w k s ≡ patch s (k * (4 * w)) ((halves geometry half true p).net ++ (halves geometry half false p).net)
unfolding split_slot copy_slot
slots_are true w k s p e h = rw (e, points_of_lem w (block (4 * w) k s) h) refl
slots_are false w k s p e h = rw e refl

ranges_split : (line : Side) (k : ℕ) (l : List Float) (a b : List Float)
    → let p : Piece = record { lo = get_or l 0 nan; hi = get_or l 1 nan; net = a } in
    let q : Piece = record { lo = get_or l 2 nan; hi = get_or l 3 nan; net = b } in
    let p0 = halves geometry (is_first line) true p in
    let p1 = halves geometry (is_first line) false p in
    let q0 = halves geometry (is_second line) true q in
    let q1 = halves geometry (is_second line) false q in
    ranges_halved line l ≡ (p0.lo ∷ p0.hi ∷ q0.lo ∷ q0.hi ∷ []) ++ (p1.lo ∷ p1.hi ∷ q1.lo ∷ q1.hi ∷ [])
ranges_split Second k l a b = refl
ranges_split First k l a b = refl

-- where one is chosen, not both lines are at the limit
pub chosen_below : (s : Bool) (d : Depths) (line : Side) → Some line ≡ choose s (at_end1 d) (at_end2 d) → d.first ≤ 32 → d.second ≤ 32 → d.first + d.second < 64
chosen_below s d line e h k = go s (at_end1 d) (at_end2 d) refl refl e
  where
    go : (s x y : Bool) → leb 32 d.first ≡ x → leb 32 d.second ≡ y → Some line ≡ choose s x y → d.first + d.second < 64
    go s true true f g n = absurd (let z : ◌≡◌ {A = ℕ} 0 1 = cc in omega arith)
    go s true false f g n = let z = leb-false 32 d.second g in omega arith
    go s false y f g n = let z = leb-false 32 d.first f in omega arith

module _ (x : State) (u : Memory) (k : ℕ) (d : Depths) (a b : Aabb) (ea : a ≡ box_of (block (4 * x.width1) k u.nets1)) (eb : b ≡ box_of (block (4 * x.width2) k u.nets2)) where
  -- ---- a split, by the choice
  module _ (ed : d ≡ depth_at u.depths k) where
    split_is : (c : Option Side) → c ≡ choose (second_halved a b) (at_end1 d) (at_end2 d)
        → divide_at geometry c x.tally.unspent k x u (part1 x u k) (part2 x u k) d ≡ act_on geometry (suc k) Split x u
    split_is c ec =
        ap (λ (z : Option Side). divide_at geometry z x.tally.unspent k x u (part1 x u k) (part2 x u k) d) (ec ∙ (λ i. choose (second_halved (ea i) (eb i)) (at_end1 d) (at_end2 d)))
        ∙ ap (λ (z : Depths). divide_at geometry (choice_at geometry (part1 x u k) (part2 x u k) z) x.tally.unspent k x u (part1 x u k) (part2 x u k) z) ed

    module _ (line : Side) (ec : Some line ≡ choose (second_halved a b) (at_end1 d) (at_end2 d)) where
      memory_split : (n1 n2 rg : List Float) (dp : List ℕ) → length (block (4 * x.width1) k u.nets1) ≡ 4 * x.width1
          → length (block (4 * x.width2) k u.nets2) ≡ 4 * x.width2
          → n1 ≡ slots_after (is_first line) x.width1 k u.nets1 → n2 ≡ slots_after (is_second line) x.width2 k u.nets2
          → rg ≡ ranges_after line k u.ranges → dp ≡ depths_after line d k u.depths
          → memory n1 n2 rg dp u.raw ≡ split_memory geometry line k x u (part1 x u k) (part2 x u k) d
      memory_split n1 n2 rg dp l1 l2 e1 e2 e3 e4 =
          let f1 = e1 ∙ slots_are (is_first line) x.width1 k u.nets1 (part1 x u k) refl l1 in
          let f2 = e2 ∙ slots_are (is_second line) x.width2 k u.nets2 (part2 x u k) refl l2 in
          let f3 = e3 ∙ ap (patch u.ranges (k * 4)) (ranges_split line k (block 4 k u.ranges) (part1 x u k).net (part2 x u k).net) in
          λ i. memory (f1 i) (f2 i) (f3 i) (e4 i) u.raw

      spend : (n : ℕ) (m : Memory) → 1 ≤ n → m ≡ split_memory geometry line k x u (part1 x u k) (part2 x u k) d
          → stepping (Ok (halved_state k (n - 1) x)) m ≡ split_at geometry line n k x u (part1 x u k) (part2 x u k) d
      spend zero m h f = absurd (omega arith)
      spend (suc n) m h f =
          let z : suc n - 1 ≡ n = omega arith in
          λ i. stepping (Ok (halved_state k (z i) x)) (f i)

      pub halved_is : (n1 n2 rg : List Float) (dp : List ℕ) → 1 ≤ x.tally.unspent
          → (k + 1) * (4 * x.width1) ≤ length u.nets1 → (k + 1) * (4 * x.width2) ≤ length u.nets2
          → n1 ≡ slots_after (is_first line) x.width1 k u.nets1 → n2 ≡ slots_after (is_second line) x.width2 k u.nets2
          → rg ≡ ranges_after line k u.ranges → dp ≡ depths_after line d k u.depths
          → stepping (Ok (halved_state k (x.tally.unspent - 1) x)) (memory n1 n2 rg dp u.raw) ≡ act_on geometry (suc k) Split x u
      halved_is n1 n2 rg dp p h1 h2 e1 e2 e3 e4 =
          let l1 = part_length (k * (4 * x.width1)) (4 * x.width1) u.nets1 (room k (4 * x.width1) (length u.nets1) h1) in
          let l2 = part_length (k * (4 * x.width2)) (4 * x.width2) u.nets2 (room k (4 * x.width2) (length u.nets2) h2) in
          spend x.tally.unspent (memory n1 n2 rg dp u.raw) p (memory_split n1 n2 rg dp l1 l2 e1 e2 e3 e4)
          ∙ split_is (Some line) ec
        where
          room : (k w n : ℕ) → (k + 1) * w ≤ n → k * w + w ≤ n
          room k w n h = omega arith
