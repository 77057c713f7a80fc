-- Laws of the loops. Assumes nothing.
use mathlib.Core.Path.{◌≡◌, refl, sym, ap, ◌∙◌}
use mathlib.Core.List.{List, ◌++◌, append_assoc}
use Prim.Native.Nat.{ℕ, zero, suc, ◌+◌, ◌*◌, ◌-◌, ◌≤◌, ◌<◌}
use native.Mathlib.Numerals.{add-one}
use native.Mathlib.Omega.{arith}
use lib.ListN.{length, get_or, take, drop, length-append, take-append-drop}
use lib.Seq.{take-append-add, drop-append-add, length-take-le}
use lib.Ieee.{Float, nan}
use Rattle.lists.proofs.Rounds.{length-paired}
use Rattle.points.specs.declared.Point4D.{Point4D}
use Rattle.blends.specs.Blends.{mix_of, added}
use Rattle.blends.specs.Table.{mixes, level_of, triangle, weighed}

-- ---- level
pub level_turn : (α : ℕ → Float) (n m i : ℕ) (s s' : List Float) → i < m → 27 * i ≤ length s → s' ≡ take (27 * i) s ++ mixes (α i) n (drop (27 * i) s)
    → take (27 * (i + 1)) s' ++ level_of α n (m - (i + 1)) (i + 1) (drop (27 * (i + 1)) s') ≡ take (27 * i) s ++ level_of α n (m - i) i (drop (27 * i) s)
unfolding level_of
level_turn α n m i s s' lt h e =
    let k : m - i ≡ suc (m - (i + 1)) = omega arith in
    let p : length (take (27 * i) s) ≡ 27 * i = length-take-le (27 * i) s h in
    let q : 27 * (i + 1) ≡ length (take (27 * i) s) + 27 = omega arith in
    rw (
      k,
      e,
      q,
      take-append-add (take (27 * i) s) (mixes (α i) n (drop (27 * i) s)) 27,
      drop-append-add (take (27 * i) s) (mixes (α i) n (drop (27 * i) s)) 27,
      add-one,
      append_assoc,
    ) refl

pub level_done : (α : ℕ → Float) (n m i : ℕ) (s r : List Float) → m ≤ i → take (27 * i) s ++ level_of α n (m - i) i (drop (27 * i) s) ≡ r → s ≡ r
unfolding level_of
level_done α n m i s r h e =
    let z : m - i ≡ 0 = omega arith in
    sym (take-append-drop (27 * i) s) ∙ (rw z at e)

pub length_level : (α : ℕ → Float) (n m i : ℕ) (l : List Float) → length (level_of α n m i l) ≡ length l
unfolding level_of
length_level α n zero i l = refl
length_level α n (suc m) i l =
    let r = length_level α n m (suc i) (drop 27 (mixes (α i) n l)) in
    let j = ap length (take-append-drop 27 (mixes (α i) n l)) in
    let w = simp length-append at j in
    simp length-append (omega (arith, length-paired (mix_of (α i)) 26 n l))

-- ---- weigh
pub weigh_turn : (q q' : Point4D) (n j : ℕ) (row poles : List Float) → j < n
    → q' ≡ added q (get_or row j nan) (get_or poles (4 * j) nan) (get_or poles (4 * j + 1) nan) (get_or poles (4 * j + 2) nan) (get_or poles (4 * j + 3) nan)
    → weighed q' (n - (j + 1)) (j + 1) row poles ≡ weighed q (n - j) j row poles
unfolding weighed
weigh_turn q q' n j row poles lt e =
    let k : n - j ≡ suc (n - (j + 1)) = omega arith in
    rw (k, add-one, e) refl

pub weigh_done : (q r : Point4D) (n j : ℕ) (row poles : List Float) → n ≤ j → weighed q (n - j) j row poles ≡ r → q ≡ r
unfolding weighed
weigh_done q r n j row poles h e =
    let z : n - j ≡ 0 = omega arith in
    rw z at e

-- ---- levels
pub triangle-turn : (α : ℕ → ℕ → Float) (p r : ℕ) (s s' : List Float) → r < p → s' ≡ level_of (α r) (r + 2) (p - r) 0 s
    → triangle α (p - (r + 1)) (r + 1) s' ≡ triangle α (p - r) r s
unfolding triangle
triangle-turn α p r s s' lt e =
    let k : p - r ≡ suc (p - (r + 1)) = omega arith in
    let e' : s' ≡ level_of (α r) (r + 2) (suc (p - (r + 1))) 0 s = e ∙ ap (λ t. level_of (α r) (r + 2) t 0 s) k in
    rw (k, e', add-one) refl

pub triangle_done : (α : ℕ → ℕ → Float) (p r : ℕ) (s l : List Float) → p ≤ r → triangle α (p - r) r s ≡ l → s ≡ l
unfolding triangle
triangle_done α p r s l h e =
    let z : p - r ≡ 0 = omega arith in
    rw z at e
