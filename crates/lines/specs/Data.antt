-- Document 02, M-104: two lines of one datum. Definitions only.
use Rattle.std.specs.Prelude.{ℕ, Bool, not, ◌||◌, ltb, eqb}

-- "a datum number from 1 to 9,999": it is outside that span
unfoldable pub datum_out : ℕ → Bool
datum_out n = ltb n 1 || ltb 9999 n

-- "23 when either number is outside that span or the two differ": it is not (`one_datum`)
unfoldable pub one_datum : ℕ → ℕ → Bool
one_datum a b = not (datum_out a || (datum_out b || not (eqb a b)))
