-- A line that was walked is not refused. Assumes nothing.
use Rattle.walks.proofs.Walks.{line_there}
use Rattle.walks.proofs.line_at.Goals as goal

pub unwrap-requires : goal.unwrap-requires
unwrap-requires c = line_there c.args.s.now c.args.at c.line_after.result c.requires c.line_after.ensures
