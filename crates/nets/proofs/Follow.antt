-- A halving's two slots follow from the net alone. Assumes nothing.
use mathlib.Core.Path.{◌≡◌, ap, sym, ◌∙◌}
use mathlib.Core.List.{List, ◌++◌, append_assoc}
use Prim.Native.Nat.{ℕ, ◌+◌, ◌*◌, ◌≤◌}
use native.Mathlib.Nat.{mul_comm}
use native.Mathlib.Omega.{arith}
use lib.ListN.{length, take, drop, length-append}
use lib.Seq.{length-take-le, take_at, drop_at}
use Rattle.lists.specs.Parts.{block, patch}
use Rattle.lists.proofs.Parts.{part_length, block_first, block_second}
use Rattle.lists.proofs.Rounds.{length-remains, length-firsts}
use Rattle.floats.specs.Floats.{middle}
use Rattle.nets.specs.Halving.{lower_of, upper_of}
use Rattle.nets.specs.Slots.{split_slot}
use Rattle.nets.specs.Follow.{SlotsFollow}

-- what stands before and behind the written part
written_before : {A : Type 0} (l vs : List A) (i : ℕ) → i ≤ length l → take i (patch l i vs) ≡ take i l
written_before l vs i h = take_at (take i l) (vs ++ drop (i + length vs) l) i (length-take-le i l h)

written_behind : {A : Type 0} (l vs : List A) (i m : ℕ) → i ≤ length l → i + length vs ≡ m → drop m (patch l i vs) ≡ drop m l
written_behind l vs i m h e =
    let a : length (take i l ++ vs) ≡ m = length-append (take i l) vs ∙ ap (λ (z : ℕ). z + length vs) (length-take-le i l h) ∙ e in
    ap (drop m) (sym (append_assoc (take i l) vs (drop (i + length vs) l))) ∙ drop_at (take i l ++ vs) (drop (i + length vs) l) m a ∙ ap (λ (z : ℕ). drop z l) e

pub slots_follow : SlotsFollow
unfolding split_slot
slots_follow w k s h =
    let net = block (4 * w) k s in
    let n : length net ≡ 4 * w = part_length (k * (4 * w)) (4 * w) s (omega arith) in
    let u : length (upper_of w net) ≡ 4 * w = length-remains middle w net ∙ n in
    let l : length (lower_of w net) ≡ 4 * w = length-firsts middle w net (omega arith) ∙ mul_comm w 4 in
    let st : k * (4 * w) ≤ length s = omega arith in
    let both = length-append (upper_of w net) (lower_of w net) in
    record {
      upper = block_first (4 * w) k s (upper_of w net) (lower_of w net) st u;
      lower = block_second (4 * w) k s (upper_of w net) (lower_of w net) st u l;
      before = written_before s (upper_of w net ++ lower_of w net) (k * (4 * w)) st;
      behind = written_behind s (upper_of w net ++ lower_of w net) (k * (4 * w)) ((k + 2) * (4 * w)) st (omega (arith, both, u, l));
    }
