-- Two counts behind each other. Assumes nothing.
use borrow.Author.Rules.{rules}
use Rattle.printing.proofs.Laws.{listed_are}
use Rattle.printing.proofs.put_listed.Goals as goal

pub returns : goal.returns
returns c = let args = c.args in
    record {
      wrote = (listed_are args.out.now args.at args.c (search rules)
          (c.put_count-given.ensures.wrote, c.put_count-given.ensures.upper_bound) (c.put_count.ensures.wrote, c.put_count.ensures.upper_bound)).0;
      upper_bound = (listed_are args.out.now args.at args.c (search rules)
          (c.put_count-given.ensures.wrote, c.put_count-given.ensures.upper_bound) (c.put_count.ensures.wrote, c.put_count.ensures.upper_bound)).1;
    }
