-- Three counts behind each other. Assumes nothing.
use borrow.Author.Rules.{rules}
use Rattle.printing.proofs.Laws.{steps_are}
use Rattle.printing.proofs.put_steps.Goals as goal

pub returns : goal.returns
returns c = let args = c.args in
    record {
      wrote = (steps_are args.out.now args.at args.c (search rules)
          (c.put_count-pairs.ensures.wrote, c.put_count-pairs.ensures.upper_bound)
          (c.put_count-visits.ensures.wrote, c.put_count-visits.ensures.upper_bound) (c.put_count.ensures.wrote, c.put_count.ensures.upper_bound)).0;
      upper_bound = (steps_are args.out.now args.at args.c (search rules)
          (c.put_count-pairs.ensures.wrote, c.put_count-pairs.ensures.upper_bound)
          (c.put_count-visits.ensures.wrote, c.put_count-visits.ensures.upper_bound) (c.put_count.ensures.wrote, c.put_count.ensures.upper_bound)).1;
    }
