-- The kind of the word that is left, or none. Assumes nothing.
use borrow.Author.Rules.{rules}
use mathlib.Core.Path.{◌∙◌}
use borrow.Author.Tests.{lt-leb}
use Rattle.walks.proofs.Walks.{word-left, none_left}
use Rattle.walks.proofs.word_stands.Goals as goal

pub returns-else-s-at-ge4 : goal.returns-else-s-at-ge4
returns-else-s-at-ge4 c = lt-leb _ _ c.if-s-at-ge4.false ∙ none_left c.args.s.now c.args.kind c.args.at (search rules) c.if-s-at-ge4.false

pub returns-then-s-at-ge4 : goal.returns-then-s-at-ge4
returns-then-s-at-ge4 c = word-left c.args.s.now c.args.kind c.args.at c.word.result c.word.ensures.0 c.if-s-at-ge4.true
