-- The recurrence in place, in a table of rows of 27 numbers. At level r, counted from 0, row i has the coefficients of point i: of poles i to i + r, and then +0. Definitions only.
use Rattle.std.specs.Prelude.{ℕ, zero, suc, ◌+◌, ◌*◌, ◌%◌, cond, List, [], ◌∷◌, ◌++◌, eqb, get_or, take, drop, Float}
use Rattle.std.specs.Float.{nan}
use Rattle.floats.specs.Floats.{zero64, one64}
use Rattle.lists.specs.Rounds.{paired}
use Rattle.points.specs.declared.Point4D.{Point4D}
use Rattle.blends.specs.Blends.{mix_of, alpha_of, end_of, added}

-- the first n numbers, each blended with the one 26 places on: the one before it in the next row
abbrev pub mixes : Float → ℕ → List Float → List Float
mixes α n l = paired (mix_of α) 26 n l

-- m rows from row i on: the first n numbers of row i blended by α i with the next row
unfoldable pub level_of : (ℕ → Float) → ℕ → ℕ → ℕ → List Float → List Float
level_of α n zero i l = l
level_of α n (suc m) i l = take 27 (mixes (α i) n l) ++ level_of α n m (suc i) (drop 27 (mixes (α i) n l))

-- t levels from level r on, each of one row less
unfoldable pub triangle : (ℕ → ℕ → Float) → ℕ → ℕ → List Float → List Float
triangle α zero r l = l
triangle α (suc t) r l = triangle α t (suc r) (level_of (α r) (r + 2) (suc t) 0 l)

-- level 0, from number i on: n numbers, 1 where a row starts and +0 elsewhere
unfoldable pub unit_at : ℕ → Float
unit_at i = cond (eqb (i % 27) 0) one64 zero64

unfoldable pub units : ℕ → ℕ → List Float
units zero i = []
units (suc n) i = unit_at i ∷ units n (suc i)

-- the table after p levels; row 0 is what point k takes
unfoldable pub coefficients : ℕ → Float → List Float → ℕ → List Float
coefficients p u near k = triangle (λ r. alpha_of p u near (end_of p u near k r) r) p 0 (units 702 0)

-- n poles from pole j on, each by its number in the row, added up
unfoldable pub weighed : Point4D → ℕ → ℕ → List Float → List Float → Point4D
weighed q zero j row poles = q
weighed q (suc n) j row poles =
    weighed (added q (get_or row j nan) (get_or poles (4 * j) nan) (get_or poles (4 * j + 1) nan) (get_or poles (4 * j + 2) nan) (get_or poles (4 * j + 3) nan)) n (suc j) row poles
