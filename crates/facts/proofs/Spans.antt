-- The span that the search finds is the one that holds u: its first knot is at most u, and the next is not. Where the list climbs there is only one such. Assumes nothing.
use mathlib.Core.Path.{◌≡◌, refl, ◌∙◌}
use mathlib.Core.Logic.{dite}
use mathlib.Core.Bool.{Bool, true, false, cond}
use mathlib.Core.List.{List}
use Prim.Native.Nat.{ℕ, zero, suc, ◌+◌, ◌*◌, ◌-◌, ◌≤◌, ◌<◌}
use native.Mathlib.Decide.{dec_lt}
use native.Mathlib.Omega.{arith}
use lib.Dec.{T}
use lib.ListN.{length, get_or}
use lib.Ieee.{Float, nan, le}
use Rattle.spans.specs.Spans.{reach_of, back_of, span_of}
use Rattle.floats.proofs.Order.{le_trans_float}
use Rattle.facts.proofs.Reflect.{is_true}

pub false_of : (b : Bool) → (T b → ⊥) → b ≡ false
false_of true h = absurd (h tt)
false_of false h = refl

pub never : (b : Bool) → b ≡ false → T b → ⊥
never true e t = let z : ◌≡◌ {A = ℕ} 0 1 = cc in omega arith
never false e t = t

pub reach_in : (n s : ℕ) (u : Float) (l : List Float) → (s ≤ reach_of n s u l) × (reach_of n s u l ≤ s + n)
unfolding reach_of
reach_in zero s u l = (omega arith, omega arith)
reach_in (suc n) s u l = go (le (get_or l (s + 1) nan) u) (reach_in n (suc s) u l)
  where
    go : (b : Bool) → (suc s ≤ reach_of n (suc s) u l) × (reach_of n (suc s) u l ≤ suc s + n)
        → (s ≤ cond b (reach_of n (suc s) u l) s) × (cond b (reach_of n (suc s) u l) s ≤ s + suc n)
    go true h = (omega arith, omega arith)
    go false h = (omega arith, omega arith)

pub reach_low : (n s : ℕ) (u : Float) (l : List Float) → T (le (get_or l s nan) u) → T (le (get_or l (reach_of n s u l) nan) u)
unfolding reach_of
reach_low zero s u l h = h
reach_low (suc n) s u l h = go (le (get_or l (s + 1) nan) u) refl (reach_low n (suc s) u l)
  where
    go : (b : Bool) → le (get_or l (s + 1) nan) u ≡ b → (T (le (get_or l (suc s) nan) u) → T (le (get_or l (reach_of n (suc s) u l) nan) u))
        → T (le (get_or l (cond b (reach_of n (suc s) u l) s) nan) u)
    go true e on = let q : s + 1 ≡ suc s = omega arith in on (is_true _ (rw q at e))
    go false e on = h

pub reach_high : (n s : ℕ) (u : Float) (l : List Float) → reach_of n s u l < s + n → le (get_or l (reach_of n s u l + 1) nan) u ≡ false
unfolding reach_of
reach_high zero s u l h = absurd (omega arith)
reach_high (suc n) s u l h = go (le (get_or l (s + 1) nan) u) refl h (reach_high n (suc s) u l)
  where
    go : (b : Bool) → le (get_or l (s + 1) nan) u ≡ b → cond b (reach_of n (suc s) u l) s < s + suc n
        → (reach_of n (suc s) u l < suc s + n → le (get_or l (reach_of n (suc s) u l + 1) nan) u ≡ false)
        → le (get_or l (cond b (reach_of n (suc s) u l) s + 1) nan) u ≡ false
    go true e k on = on (omega arith)
    go false e k on = e

back_stays : (n lo : ℕ) (l : List Float) → le (get_or l (lo + n + 1) nan) (get_or l (lo + n) nan) ≡ false → back_of n lo l ≡ lo + n
unfolding back_of
back_stays zero lo l h = omega arith
back_stays (suc n) lo l h = rw h refl

module _ (p : ℕ) (flat : List Float) (u : Float) (room : 2 * p + 2 ≤ length flat) (low : T (le (get_or flat p nan) u))
    (high : le (get_or flat (length flat - 1 - p) nan) u ≡ false) where
  reached : (T (le (get_or flat (reach_of (length flat - (2 * p + 2)) p u flat) nan) u)) × (le (get_or flat (reach_of (length flat - (2 * p + 2)) p u flat + 1) nan) u ≡ false)
  reached =
      let b = reach_in (length flat - (2 * p + 2)) p u flat in (
        reach_low (length flat - (2 * p + 2)) p u flat low,
        dite (dec_lt (reach_of (length flat - (2 * p + 2)) p u flat) (p + (length flat - (2 * p + 2))))
            (λ k. reach_high (length flat - (2 * p + 2)) p u flat k)
            (λ k. let q : reach_of (length flat - (2 * p + 2)) p u flat + 1 ≡ length flat - 1 - p = omega (arith, b.1) in rw q high),
      )

  stays : span_of p flat u ≡ reach_of (length flat - (2 * p + 2)) p u flat
  unfolding span_of
  stays =
      let r = reach_of (length flat - (2 * p + 2)) p u flat in
      let b = reach_in (length flat - (2 * p + 2)) p u flat in
      let q : p + (reach_of (length flat - (2 * p + 2)) p u flat - p) ≡ reach_of (length flat - (2 * p + 2)) p u flat = omega (arith, b.0) in
      back_stays (reach_of (length flat - (2 * p + 2)) p u flat - p) p flat
      (rw q (false_of _ (λ t. never _ reached.1 (le_trans_float _ _ u t reached.0)))) ∙ q

  pub span_opens : (T (le (get_or flat (span_of p flat u) nan) u)) × (le (get_or flat (span_of p flat u + 1) nan) u ≡ false)
  span_opens = rw stays reached

  pub span_in : (p ≤ span_of p flat u) × (span_of p flat u + p + 2 ≤ length flat)
  span_in = let b = reach_in (length flat - (2 * p + 2)) p u flat in rw stays (b.0, omega (arith, b.1))

  -- where the list climbs from number a to number b, there is no other
  pub only_span : (a b : ℕ) → ((i j : ℕ) → a ≤ i → i ≤ j → j ≤ b → T (le (get_or flat i nan) (get_or flat j nan))) → (s : ℕ) → a ≤ s → s < b
      → T (le (get_or flat s nan) u) → le (get_or flat (s + 1) nan) u ≡ false → a ≤ span_of p flat u → span_of p flat u < b → s ≡ span_of p flat u
  only_span a b climbs s sa sb h g ra rb =
      let o = span_opens in
      dite (dec_lt s (span_of p flat u))
      (λ k. absurd (never _ g (le_trans_float _ _ u (climbs (s + 1) (span_of p flat u) (omega arith) (omega arith) (omega arith)) o.0)))
      (λ k. dite (dec_lt (span_of p flat u) s)
      (λ m. absurd (never _ o.1 (le_trans_float _ _ u (climbs (span_of p flat u + 1) s (omega arith) (omega arith) (omega arith)) h)))
      (λ m. omega arith))
