-- The line of counts, part behind part. Assumes nothing.
use borrow.Author.Rules.{rules}
use Rattle.printing.proofs.Laws.{counts_are}
use Rattle.printing.proofs.put_counts.Goals as goal

pub returns : goal.returns
returns c = let b = c in
    let args = b.args in
    record {
      wrote = (counts_are args.out.now args.w args.c args.regions (search rules)
          (b.put_word-word.ensures.wrote, b.put_word-word.ensures.upper_bound)
          (b.put_steps-steps.ensures.wrote, b.put_steps-steps.ensures.upper_bound) (b.put_settled-settled.ensures.wrote, b.put_settled-settled.ensures.upper_bound)
          (b.put_listed-listed.ensures.wrote, b.put_listed-listed.ensures.upper_bound) (c.put_count-all.ensures.wrote, c.put_count-all.ensures.upper_bound) c.put_bytes.ensures).0;
      upper_bound = (counts_are args.out.now args.w args.c args.regions (search rules)
          (b.put_word-word.ensures.wrote, b.put_word-word.ensures.upper_bound)
          (b.put_steps-steps.ensures.wrote, b.put_steps-steps.ensures.upper_bound) (b.put_settled-settled.ensures.wrote, b.put_settled-settled.ensures.upper_bound)
          (b.put_listed-listed.ensures.wrote, b.put_listed-listed.ensures.upper_bound) (c.put_count-all.ensures.wrote, c.put_count-all.ensures.upper_bound) c.put_bytes.ensures).1;
    }
