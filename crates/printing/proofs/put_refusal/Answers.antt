-- The refusal's line, part behind part. Assumes nothing.
use borrow.Author.Rules.{rules}
use Rattle.printing.proofs.Laws.{refusal_is}
use Rattle.printing.proofs.put_refusal.Goals as goal

pub returns : goal.returns
returns c = let args = c.args in
    refusal_is args.out.now args.number args.line (search rules)
    (c.put_count-first.ensures.wrote, c.put_count-first.ensures.upper_bound)
    (c.put_count-second.ensures.wrote, c.put_count-second.ensures.upper_bound) c.put_bytes.ensures
