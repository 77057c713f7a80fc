-- `answer` asks only of admitted lines. Assumes nothing.
use borrow.Author.Rules.{rules}
use Rattle.lines.specs.Lines.{seen}
use Rattle.lines.proofs.Admitted.{lengths}
use Rattle.pieces_run.proofs.answer.Goals as goal

pub ask-requires-clause-in_bounds : goal.ask-requires-clause-in_bounds
ask-requires-clause-in_bounds g c = let k = lengths (seen c.args.l1) (search rules) in (k.0, k.1, (k.2, k.3, k.4))

pub ask-requires-clause-in_bounds_2 : goal.ask-requires-clause-in_bounds_2
ask-requires-clause-in_bounds_2 g c = let k = lengths (seen c.args.l2) (search rules) in (k.0, k.1, (k.2, k.3, k.4))
