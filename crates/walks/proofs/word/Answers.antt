-- A word from its four bytes. Assumes nothing.
use borrow.Author.Rules.{rules}
use mathlib.Core.Path.{ap, ◌∙◌}
use Rattle.std.specs.Int.{from_le_bytes, w32}
use Rattle.lists.proofs.Parts.{part_is}
use Rattle.walks.proofs.Laws.{four_bytes}
use Rattle.walks.proofs.word.Goals as goal

pub returns : goal.returns
returns c = (c.word_of_bytes.ensures ∙ ap (from_le_bytes w32) (part_is c.args.at 4 c.args.s.now) ∙ four_bytes c.args.s.now c.args.at, search rules)
