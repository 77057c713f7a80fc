-- A name, then a number behind it. Assumes nothing.
use borrow.Author.Rules.{rules}
use Rattle.printing.proofs.Laws.{counted_is}
use Rattle.printing.proofs.put_count.Goals as goal

pub returns : goal.returns
returns c = let args = c.args in
    record {
      wrote = (counted_is args.out.now args.at args.name.now args.n (search rules) (search rules)
          c.put_bytes-next.ensures c.put_decimal.ensures).0;
      upper_bound = (counted_is args.out.now args.at args.name.now args.n (search rules) (search rules)
          c.put_bytes-next.ensures c.put_decimal.ensures).1;
    }
