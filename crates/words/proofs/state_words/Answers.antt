-- A state's words, one an element. Assumes nothing.
use native.Mathlib.Omega.{arith}
use Rattle.words.proofs.Laws.{words_are, last_words_lem, counts_fit_lem, tags_fit_lem}
use Rattle.words.proofs.state_words.Goals as goal

pub overflow_cast-result-10 : goal.overflow_cast-result-10
overflow_cast-result-10 c = omega (arith, c.struct_known-10-1.given.1.1.1.1.1.1.1.1.1.1.1)

pub returns : goal.returns
returns c = let st = c.args.st in
    let k = c.struct_known-10-1.given in (
      words_are st c.from.ensures c.from-2.ensures c.from-3.ensures c.pattern.ensures
          (last_words_lem st c.from-4.ensures c.from-5.ensures c.pattern-2.ensures c.pattern-3.ensures c.pattern-4.ensures c.pattern-5.ensures),
      counts_fit_lem st k,
      tags_fit_lem st k,
    )
