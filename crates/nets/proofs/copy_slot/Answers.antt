-- `copy_slot` is copy_slot: the library's copy. Assumes nothing.
use mathlib.Core.Path.{◌∙◌}
use Rattle.nets.proofs.Laws.{copied_is}
use Rattle.nets.proofs.copy_slot.Goals as goal

pub returns : goal.returns
returns c = c.copy_within.ensures.after ∙ copied_is c.args.w c.args.k c.args.s.now c.requires
