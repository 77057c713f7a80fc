-- `pair_start` is the report of two lines. Assumes nothing.
use Rattle.charts.proofs.Parts.{pair_left}
use Rattle.charts.proofs.pair_start.Goals as goal

pub returns : goal.returns
returns c = pair_left c.args.s.now c.args.w c.args.out.now c.question_at-q.ensures c.answer_pair.ensures.1 c.no_more.ensures
