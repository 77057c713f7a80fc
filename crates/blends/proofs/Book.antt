-- The table holds the coefficients of the recurrence. Assumes nothing.
use mathlib.Core.Path.{◌≡◌, refl, sym, ap, ◌∙◌, subst}
use mathlib.Core.Logic.{dite}
use mathlib.Core.Bool.{cond}
use mathlib.Core.List.{List, [], ◌∷◌, ◌++◌}
use Prim.Native.Nat.{ℕ, zero, suc, ◌+◌, ◌*◌, ◌≤◌, ◌<◌}
use native.Mathlib.Decide.{dec_lt}
use native.Mathlib.Omega.{arith}
use borrow.Author.Tests.{le-ltb, lt-ltb, ne_eqb}
use lib.Dec.{ltb}
use lib.ListN.{length, get_or, take, drop, length-drop, get_or-append}
use lib.Seq.{length-take-le, get_or-append-add, get_or-take, get_or-drop}
use lib.Ieee.{Float, nan}
use Rattle.floats.specs.Floats.{zero64}
use Rattle.points.specs.declared.Point4D.{Point4D}
use Rattle.blends.specs.Blends.{mix_of, alpha_of, end_of, coefficient, summed, nothing, point_of}
use Rattle.blends.specs.Table.{mixes, level_of, triangle, units, unit_at, coefficients, weighed}
use Rattle.lists.specs.Rounds.{paired}
use Rattle.lists.proofs.Rounds.{length-paired}
use Rattle.blends.proofs.Laws.{length_level}
use Rattle.blends.proofs.Rows.{length-units, unit_in_row}

-- ---- one element of a run of blends, and of a level
get_or_mixes : (α : Float) (n : ℕ) (l : List Float) (x : ℕ) → x < length l
    → get_or (mixes α n l) x nan ≡ cond (ltb x n) (mix_of α (get_or l x nan) (get_or l (x + 26) nan)) (get_or l x nan)
unfolding paired
get_or_mixes α zero l x h = rw (le-ltb x 0 (omega arith)) refl
get_or_mixes α (suc n) [] x h = absurd (omega arith)
get_or_mixes α (suc n) (a ∷ l) zero h = rw (lt-ltb 0 (suc n) (omega arith)) refl
get_or_mixes α (suc n) (a ∷ l) (suc x) h =
    let q : suc x + 26 ≡ suc (x + 26) = omega arith in
    rw q (get_or_mixes α n l x (omega arith) ∙ ap (λ b. cond b (mix_of α (get_or l x nan) (get_or l (x + 26) nan)) (get_or l x nan)) (same_test x n))
  where
    same_test : (x n : ℕ) → ltb x n ≡ ltb (suc x) (suc n)
    same_test x n =
        dite (dec_lt x n) (λ a. lt-ltb x n a ∙ sym (lt-ltb (suc x) (suc n) (omega arith)))
        (λ a. le-ltb x n (omega arith) ∙ sym (le-ltb (suc x) (suc n) (omega arith)))

drop-mixes : (α : Float) (n k : ℕ) (l : List Float) → n ≤ k → drop k (mixes α n l) ≡ drop k l
unfolding paired
drop-mixes α zero k l h = refl
drop-mixes α (suc n) k [] h = refl
drop-mixes α (suc n) zero (a ∷ l) h = absurd (omega arith)
drop-mixes α (suc n) (suc k) (a ∷ l) h = drop-mixes α n k l (omega arith)

get_or_level : (α : ℕ → Float) (n m i0 : ℕ) (l : List Float) (i x : ℕ) → n ≤ 27 → i < m → x < 27 → 27 * m ≤ length l
    → get_or (level_of α n m i0 l) (27 * i + x) nan ≡ cond (ltb x n) (mix_of (α (i0 + i)) (get_or l (27 * i + x) nan) (get_or l (27 * i + x + 26) nan)) (get_or l (27 * i + x) nan)
unfolding level_of
get_or_level α n zero i0 l i x hn hi hx hl = absurd (omega arith)
get_or_level α n (suc m) i0 l zero x hn hi hx hl =
    let e = length-paired (mix_of (α i0)) 26 n l in
    let t : length (take 27 (mixes (α i0) n l)) ≡ 27 = length-take-le 27 (mixes (α i0) n l) (omega arith) in
    let z : 27 * 0 + x ≡ x = omega arith in
    let y : i0 + 0 ≡ i0 = omega arith in
    rw (z, y) (get_or-append (take 27 (mixes (α i0) n l)) (level_of α n m (suc i0) (drop 27 (mixes (α i0) n l))) nan x (omega arith)
    ∙ get_or-take 27 (mixes (α i0) n l) x nan hx ∙ get_or_mixes (α i0) n l x (omega arith))
get_or_level α n (suc m) i0 l (suc i) x hn hi hx hl =
    let e = length-paired (mix_of (α i0)) 26 n l in
    let t : length (take 27 (mixes (α i0) n l)) ≡ 27 = length-take-le 27 (mixes (α i0) n l) (omega arith) in
    let z : 27 * suc i + x ≡ length (take 27 (mixes (α i0) n l)) + (27 * i + x) = omega arith in
    let d = drop-mixes (α i0) n 27 l hn in
    let ld : 27 * m ≤ length (drop 27 l) = simp length-drop (omega arith) in
    let a : 27 + (27 * i + x) ≡ 27 * suc i + x = omega arith in
    let b : 27 + (27 * i + x + 26) ≡ 27 * suc i + x + 26 = omega arith in
    let c : suc i0 + i ≡ i0 + suc i = omega arith in
    ap (λ k. get_or (take 27 (mixes (α i0) n l) ++ level_of α n m (suc i0) (drop 27 (mixes (α i0) n l))) k nan) z
    ∙ get_or-append-add (take 27 (mixes (α i0) n l)) (level_of α n m (suc i0) (drop 27 (mixes (α i0) n l))) (27 * i + x) nan
    ∙ ap (λ k. get_or (level_of α n m (suc i0) k) (27 * i + x) nan) d
    ∙ get_or_level α n m (suc i0) (drop 27 l) i x hn (omega arith) hx ld
    ∙ rw (get_or-drop 27 l (27 * i + x) nan, get_or-drop 27 l (27 * i + x + 26) nan, a, b, c) refl

-- ---- past its last pole a point has nothing
beyond : (α : ℕ → ℕ → Float) (r i x : ℕ) → r < x → coefficient α r i x ≡ zero64
unfolding coefficient
beyond α zero i x h = rw (ne_eqb x 0 (λ e. absurd (omega arith))) refl
beyond α (suc r) i zero h = absurd (omega arith)
beyond α (suc r) i (suc x) h = rw (le-ltb x (suc r) (omega arith)) refl

-- ---- level by level
abbrev Held : (ℕ → ℕ → Float) → ℕ → ℕ → List Float → Type 0
Held α p r l = (length l ≡ 702) × ((i x : ℕ) → i + r ≤ p → x < 27 → get_or l (27 * i + x) nan ≡ coefficient α r i x)

module _ (α : ℕ → ℕ → Float) (p : ℕ) (small : p ≤ 25) where
  next : (r t : ℕ) (l : List Float) → r + suc t ≡ p → Held α p r l → Held α p (suc r) (level_of (α r) (r + 2) (suc t) 0 l)
  unfolding coefficient
  next r t l e h = (
    length_level (α r) (r + 2) (suc t) 0 l ∙ h.0,
    λ i x a b. get_or_level (α r) (r + 2) (suc t) 0 l i x (omega arith) (omega arith) b (omega (arith, h.0)) ∙ at i x a b,
  )
    where
      at : (i x : ℕ) → i + suc r ≤ p → x < 27
          → cond (ltb x (r + 2)) (mix_of (α r (0 + i)) (get_or l (27 * i + x) nan) (get_or l (27 * i + x + 26) nan)) (get_or l (27 * i + x) nan) ≡ coefficient α (suc r) i x
      at i zero a b =
          let z : 0 + i ≡ i = omega arith in
          let y : 27 * i + 0 + 26 ≡ 27 * i + 26 = omega arith in
          rw (lt-ltb 0 (r + 2) (omega arith), z, y, h.1 i 0 (omega arith) (omega arith), h.1 i 26 (omega arith) (omega arith) ∙ beyond α r i 26 (omega arith)) refl
      at i (suc x) a b =
          let z : 0 + i ≡ i = omega arith in
          let y : 27 * i + suc x + 26 ≡ 27 * suc i + x = omega arith in
          let u = h.1 i (suc x) (omega arith) b in
          let v = h.1 (suc i) x (omega arith) (omega arith) in
          dite (dec_lt x (suc r))
          (λ k. rw (lt-ltb (suc x) (r + 2) (omega arith), lt-ltb x (suc r) k, z, y, u, v) refl)
          (λ k. rw (le-ltb (suc x) (r + 2) (omega arith), le-ltb x (suc r) (omega arith), u, beyond α r i (suc x) (omega arith)) refl)

  all : (t r : ℕ) (l : List Float) → r + t ≡ p → Held α p r l → Held α p p (triangle α t r l)
  unfolding triangle
  all zero r l e h = let z : r ≡ p = omega arith in subst (λ q. Held α p q l) z h
  all (suc t) r l e h = all t (suc r) (level_of (α r) (r + 2) (suc t) 0 l) (omega arith) (next r t l e h)

-- ---- level 0
get_or_units : (n i x : ℕ) → x < n → get_or (units n i) x nan ≡ unit_at (i + x)
unfolding units
get_or_units zero i x h = absurd (omega arith)
get_or_units (suc n) i zero h = let z : i + 0 ≡ i = omega arith in rw z refl
get_or_units (suc n) i (suc x) h = let z : suc i + x ≡ i + suc x = omega arith in get_or_units n (suc i) x (omega arith) ∙ ap unit_at z

start : (α : ℕ → ℕ → Float) (p : ℕ) → p ≤ 25 → Held α p 0 (units 702 0)
unfolding coefficient
start α p small = (
  length-units 702 0,
  λ i x a b.
      let z : 0 + (27 * i + x) ≡ 27 * i + x = omega arith in
      get_or_units 702 0 (27 * i + x) (omega arith) ∙ ap unit_at z ∙ unit_in_row i x b,
)

-- ---- the point
weighed_is : (c : ℕ → Float) (row poles : List Float) (n j : ℕ) (q : Point4D) → ((x : ℕ) → x < j + n → get_or row x nan ≡ c x)
    → weighed q n j row poles ≡ summed c q n j poles
unfolding weighed summed
weighed_is c row poles zero j q h = refl
weighed_is c row poles (suc n) j q h = rw (h j (omega arith)) (weighed_is c row poles n (suc j) _ (λ x k. h x (omega arith)))

pub point_is : (p : ℕ) (u : Float) (near poles : List Float) (k : ℕ) → p ≤ 25 → weighed nothing (p + 1) 0 (coefficients p u near k) poles ≡ point_of p u near poles k
unfolding coefficients point_of
point_is p u near poles k small =
    weighed_is (coefficient (λ r. alpha_of p u near (end_of p u near k r) r) p 0) (coefficients p u near k) poles (p + 1) 0 nothing
    (λ x h. let z : 27 * 0 + x ≡ x = omega arith in
    ap (λ y. get_or (coefficients p u near k) y nan) (sym z)
    ∙ (all (λ r. alpha_of p u near (end_of p u near k r) r) p small p 0 (units 702 0) (omega arith)
    (start (λ r. alpha_of p u near (end_of p u near k r) r) p small)).1 0 x (omega arith) (omega arith))
