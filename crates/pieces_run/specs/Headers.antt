-- What the counts of a line that was read keep to. Definitions only.
use Rattle.std.specs.Prelude.{◌≤◌}
use Rattle.pieces_run.specs.declared.Header.{Header}

-- the memory lent for a line holds so many
pub record Fits (h : Header) : Type 0 where
  pub knots : h.knots ≤ 130
  pub mults : h.mults ≤ 130
  pub coords : h.coords ≤ 400
  pub weights : h.weights ≤ 130
