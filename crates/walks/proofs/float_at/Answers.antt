-- A float from its eight bytes. Assumes nothing.
use mathlib.Core.Path.{ap, ◌∙◌}
use lib.Ieee.{binary64, of_bits}
use Rattle.std.specs.Int.{from_le_bytes, w64}
use Rattle.lists.proofs.Parts.{part_is}
use Rattle.walks.specs.Words.{float_at}
use Rattle.walks.proofs.Laws.{eight_bytes}
use Rattle.walks.proofs.float_at.Goals as goal

pub returns : goal.returns
unfolding float_at
returns c = c.float_of_bytes.ensures ∙ ap (of_bits binary64) (ap (from_le_bytes w64) (part_is c.args.at 8 c.args.s.now) ∙ eight_bytes c.args.s.now c.args.at)
