-- `absorb` is take_in. The invariant, Passes, says that the passes left give what all passes give; the measure is how many regions the last pass had. Assumes nothing.
use mathlib.Core.Path.{refl}
use native.Mathlib.Omega.{arith}
use borrow.Author.Rules.{rules}
use Rattle.regions.proofs.Passes.{passes-turn, absorbed}
use Rattle.regions.proofs.absorb.Goals as goal

pub loop-s-init : goal.loop-s-init
loop-s-init c = record {
  same = refl;
  fewer = omega arith;
  kept = search rules;
  fuel = c.args.n;
  enough = omega arith;
  follows = refl;
  rest = refl;
}

pub loop-s-preserved : goal.loop-s-preserved
loop-s-preserved c = let w = c.sweep-s-in-loop-s in
    passes-turn _ _ _ _ _ _ c.loop-s.invariant _ w.result (search rules) (search rules)
    w.ensures.grown_value.0 w.ensures.grown_value.1 w.ensures.grown_value.2 w.ensures.out_after.0 w.ensures.out_after.1

pub returns : goal.returns
returns c = let w = c.sweep-s in
    record {
      value = (absorbed _ _ _ _ _ _ _ _ _ (search rules) (search rules) w.ensures.grown_value.0 w.ensures.grown_value.1 w.ensures.out_after.0 w.ensures.out_after.1
          c.loop-s.invariant (search rules) c.store.ensures).0;
      out_after = (absorbed _ _ _ _ _ _ _ _ _ (search rules) (search rules) w.ensures.grown_value.0 w.ensures.grown_value.1 w.ensures.out_after.0 w.ensures.out_after.1
          c.loop-s.invariant (search rules) c.store.ensures).1;
    }
