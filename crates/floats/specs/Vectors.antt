-- Vectors of three doubles: `sub`, `dot`, `cross` and `norm` of the Rust, in its order of operations, each rounded. Definitions only.
use Rattle.std.specs.Prelude.{Float}
use Rattle.std.specs.Float.{binary64}
use Rattle.std.specs.Float.Ieee.{add, sub, mul}
use Rattle.roots.specs.Root.{root_of}
use Rattle.floats.specs.declared.Vector3D.{Vector3D}

abbrev pub sub_of : Vector3D → Vector3D → Vector3D
sub_of a b = record { x = sub binary64 a.x b.x; y = sub binary64 a.y b.y; z = sub binary64 a.z b.z }

unfoldable pub dot_of : Vector3D → Vector3D → Float
dot_of a b = add binary64 (add binary64 (mul binary64 a.x b.x) (mul binary64 a.y b.y)) (mul binary64 a.z b.z)

-- p q − r s, three roundings
abbrev pub crossed : Float → Float → Float → Float → Float
crossed p q r s = sub binary64 (mul binary64 p q) (mul binary64 r s)

abbrev pub cross_of : Vector3D → Vector3D → Vector3D
cross_of a b = record {
  x = crossed a.y b.z a.z b.y;
  y = crossed a.z b.x a.x b.z;
  z = crossed a.x b.y a.y b.x;
}

unfoldable pub norm_of : Vector3D → Float
unfolding dot_of
norm_of a = root_of (dot_of a a)
