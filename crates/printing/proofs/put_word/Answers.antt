-- The first word, one return a word. Assumes nothing.
use Rattle.regions.specs.declared.Word.TheVariants.{Complete, Budget, Unseparated}
use Rattle.printing.proofs.Laws.{word_is}
use Rattle.printing.proofs.put_word.Goals as goal

pub returns-in-Complete : goal.returns-in-Complete
returns-in-Complete c = let args = c.args in
    record {
      wrote = (word_is args.out.now args.w Complete c.in-Complete.is c.put_bytes.ensures).0;
      upper_bound = (word_is args.out.now args.w Complete c.in-Complete.is c.put_bytes.ensures).1;
    }

pub returns-in-Budget : goal.returns-in-Budget
returns-in-Budget c = let args = c.args in
    record {
      wrote = (word_is args.out.now args.w Budget c.in-Budget.is c.put_bytes-in-Budget.ensures).0;
      upper_bound = (word_is args.out.now args.w Budget c.in-Budget.is c.put_bytes-in-Budget.ensures).1;
    }

pub returns-in-Unseparated : goal.returns-in-Unseparated
returns-in-Unseparated c = let args = c.args in
    record {
      wrote = (word_is args.out.now args.w Unseparated c.in-Unseparated.is c.put_bytes-in-Unseparated.ensures).0;
      upper_bound = (word_is args.out.now args.w Unseparated c.in-Unseparated.is c.put_bytes-in-Unseparated.ensures).1;
    }
