-- The pattern of any float, a NaN or another. Assumes nothing.
use mathlib.Core.Path.{sym, ◌∙◌}
use Rattle.patterns.proofs.Laws.{nan_pattern}
use Rattle.patterns.proofs.pattern.Goals as goal

pub returns-then-is_nan : goal.returns-then-is_nan
returns-then-is_nan c = nan_pattern c.args.x (sym c.is_nan.ensures.value ∙ c.if-is_nan.true)
