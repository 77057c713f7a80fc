-- A range that passes 15 has at most 255 pieces: a closed line's first knot lies at lo or before it. Assumes nothing.
use mathlib.Core.Path.{◌≡◌, refl}
use mathlib.Core.Bool.{Bool, true, false, cond}
use mathlib.Core.List.{List, [], ◌∷◌, ◌++◌}
use Prim.Native.Nat.{suc, ◌+◌, ◌≤◌}
use native.Mathlib.Omega.{arith}
use lib.Dec.{T}
use lib.ListN.{length, length-append}
use lib.Ieee.{Float, le, lt}
use Rattle.floats.proofs.Bounds.{lt_not_le}
use Rattle.knots.specs.Knots.{shifted, period_of, unrolled_of, inside, between}
use Rattle.knots.proofs.Laws.{length-shifted}
use Rattle.curves.specs.Curves.{count_in}

between_most : (lo hi : Float) (ks l : List Float) → length (between lo hi ks l) ≤ length ks + length l
unfolding between
between_most lo hi [] l = omega arith
between_most lo hi (k ∷ ks) l = go (inside lo hi k) (between_most lo hi ks l)
  where
    go : (b : Bool) → length (between lo hi ks l) ≤ length ks + length l
        → length (cond b (k ∷ between lo hi ks l) (between lo hi ks l)) ≤ suc (length ks) + length l
    go true h = omega arith
    go false h = omega arith

first_out : (lo hi k : Float) → T (le k lo) → inside lo hi k ≡ false
unfolding inside
first_out lo hi k h = go (lt lo k) (λ t. lt_not_le lo k t h)
  where
    go : (b : Bool) → (T b → ⊥) → cond b (lt k hi) false ≡ false
    go true f = absurd (f tt)
    go false f = refl

pub few_open : (lo hi : Float) (knots : List Float) → length knots ≤ 128 → count_in lo hi (unrolled_of false knots) ≤ 255
unfolding unrolled_of
few_open lo hi knots h = let m = between_most lo hi knots (hi ∷ []) in omega arith

pub few_closed : (lo hi k : Float) (ks : List Float) → length (k ∷ ks) ≤ 128 → T (le k lo) → count_in lo hi (unrolled_of true (k ∷ ks)) ≤ 255
unfolding unrolled_of between
few_closed lo hi k ks h f =
    let p = period_of (k ∷ ks) in
    let m = between_most lo hi (ks ++ shifted p ks) (hi ∷ []) in
    let n = length-append ks (shifted p ks) in
    let s = length-shifted p ks in
    rw (first_out lo hi k f) (omega arith)
