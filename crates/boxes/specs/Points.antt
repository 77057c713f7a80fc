-- Points of three numbers each in a flat list. Definitions only.
use Rattle.std.specs.Prelude.{ℕ, ◌+◌, List, [], ◌∷◌, get_or, Float}
use Rattle.std.specs.Float.{nan}
use Rattle.floats.specs.declared.Vector3D.{Vector3D}

-- the point whose coordinates stand from place i on; past the list's end a coordinate is NaN
abbrev pub point_at : List Float → ℕ → Vector3D
point_at l i = record { x = get_or l i nan; y = get_or l (i + 1) nan; z = get_or l (i + 2) nan }

-- all points of the list; one or two numbers at its end are left out
unfoldable pub vectors : List Float → List Vector3D
vectors (x ∷ y ∷ z ∷ l) = record { x = x; y = y; z = z } ∷ vectors l
vectors (x ∷ y ∷ []) = []
vectors (x ∷ []) = []
vectors [] = []
