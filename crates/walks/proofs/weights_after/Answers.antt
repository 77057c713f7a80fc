-- Weights: a weights word, or none. Assumes nothing.
use borrow.Author.Rules.{rules}
use native.Mathlib.Omega.{arith}
use Rattle.walks.specs.Sheets.{part_of, weights_of, size_of}
use Rattle.walks.specs.Places.{part_at, weights_at}
use Rattle.walks.proofs.Walks.{part_found, part_over, weights_there, weights_there_is, weights_absent, weights_absent_is}
use Rattle.walks.proofs.weights_after.Goals as goal

pub returns-then-word_stands : goal.returns-then-word_stands
returns-then-word_stands c = let args = c.args in
    part_over args.s.now (weights_of args.s.now args.at) (part_of args.s.now 5 args.at) (size_of 5) (weights_at args.s.now args.at)
    (part_at args.s.now 5 args.at) c.part_after.result (weights_there args.s.now args.at c.word_stands.ensures c.if-word_stands.true)
    (weights_there_is args.s.now args.at c.word_stands.ensures c.if-word_stands.true) c.part_after.ensures

pub returns : goal.returns
unfolding size_of
returns c = let args = c.args in
    part_found (record { count = 0; at = args.at; next = args.at }) (weights_absent args.s.now args.at c.word_stands.ensures c.if-word_stands.false) (record {
      before = search rules;
      few = omega arith;
      fits = omega arith;
      is = weights_absent_is args.s.now args.at c.word_stands.ensures c.if-word_stands.false;
    })
