-- Number 23 of two data, when and only then; and what doesn't read a datum. Assumes nothing.
use mathlib.Core.Path.{◌≡◌, refl, sym, ap, ◌∙◌}
use mathlib.Core.Logic.{◌⊎◌}
use mathlib.Core.Bool.{Bool, true, false, not, ◌||◌}
use Prim.Native.Nat.{ℕ, ◌<◌}
use lib.Dec.{ltb, eqb}
use borrow.Author.Tests.{ltb-false, eqb-true, eq-eqb, not-true, not-false}
use Rattle.lines.specs.Data.{datum_out, one_datum}
use Rattle.lines.proofs.Data.{within_span}
use Rattle.curves.specs.Curves.{pieces_of}
use Rattle.facts.specs.Faults.{Fault23, OneDatum}
use Rattle.facts.specs.Facts.{DataTable, DatumUnread}
use Rattle.facts.proofs.Reflect.{Tests, never, of_lt, of_eq, of_or, of_not}

neither : (x y : Bool) → (x || y) ≡ false → (x ≡ false) × (y ≡ false)
neither true y e = absurd (never (sym e))
neither false y e = (refl, e)

outside : (n : ℕ) → Tests ((n < 1) ⊎ (9999 < n)) (datum_out n)
unfolding datum_out
outside n = of_or (ltb n 1) (ltb 9999 n) (of_lt n 1) (of_lt 9999 n)

row : (a b : ℕ) → Tests (Fault23 a b) (datum_out a || (datum_out b || not (eqb a b)))
row a b = of_or (datum_out a) _ (outside a) (of_or (datum_out b) _ (outside b) (of_not (eqb a b) (of_eq a b)))

one : (a b : ℕ) → (datum_out a || (datum_out b || not (eqb a b))) ≡ false → OneDatum a b
unfolding datum_out
one a b e =
    let f = neither (datum_out a) _ e in
    let g = neither (ltb a 1) (ltb 9999 a) f.0 in
    let h = neither (datum_out b) _ f.1 in
    (ltb-false a 1 g.0, ltb-false 9999 a g.1, eqb-true a b (not-false _ h.1))

pub data_table : DataTable
unfolding one_datum
data_table a b = (
  ((λ e. (row a b).yes (not-false _ e)), (λ f. ap not ((row a b).holds f))),
  ((λ e. one a b (not-true _ e)), (λ o. within_span a b o.0 o.1 ∙ eq-eqb a b o.2)),
)

pub datum_unread : DatumUnread
unfolding pieces_of
datum_unread l n = (refl, λ lo hi. (refl, refl))
