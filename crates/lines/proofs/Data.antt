-- Two data: once the first is within the span, they are one datum if they are equal. Assumes nothing.
use mathlib.Core.Path.{◌≡◌, refl, sym, ap, ◌∙◌}
use mathlib.Core.Bool.{Bool, true, false, not, ◌||◌}
use Prim.Native.Nat.{ℕ, ◌≤◌, ◌<◌}
use lib.Dec.{eqb}
use borrow.Author.Tests.{eqb-true, le-ltb, lt-ltb}
use Rattle.lines.specs.Data.{datum_out, one_datum}

decided : (out same : Bool) → (same ≡ true → out ≡ false) → not (out || not same) ≡ same
decided out true h = ap (λ x. not (x || false)) (h refl)
decided true false h = refl
decided false false h = refl

-- the first number within the span, below it and above it
pub within_span : (a b : ℕ) → 1 ≤ a → a ≤ 9999 → one_datum a b ≡ eqb a b
unfolding one_datum datum_out
within_span a b l h =
    let k : datum_out a ≡ false = simp (le-ltb _ _ l, le-ltb _ _ h) in
    ap (λ x. not (x || (datum_out b || not (eqb a b)))) k
    ∙ decided (datum_out b) (eqb a b) (λ e. ap datum_out (sym (eqb-true a b e)) ∙ k)

pub below_span : (a b : ℕ) → a < 1 → one_datum a b ≡ false
unfolding one_datum datum_out
below_span a b h = simp (lt-ltb _ _ h)

pub above_span : (a b : ℕ) → 1 ≤ a → 9999 < a → one_datum a b ≡ false
unfolding one_datum datum_out
above_span a b l h = simp (le-ltb _ _ l, lt-ltb _ _ h)
