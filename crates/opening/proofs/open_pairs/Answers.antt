-- `open_pairs` works out the breaks, and `push` does the rest. Assumes nothing.
use native.Mathlib.Omega.{arith}
use Rattle.lines.specs.Lines.{seen}
use Rattle.lines.proofs.Admitted.{counts}
use Rattle.opening.proofs.open_pairs.Goals as goal

pub terms_of-terms-requires : goal.terms_of-terms-requires
terms_of-terms-requires c =
    let C1 = counts (seen c.args.l1) c.requires.first.0.0 in
    let C2 = counts (seen c.args.l2) c.requires.second.0.0 in
    (omega (arith, C1.two_knots), omega (arith, C2.two_knots))

pub breaks-m1-requires : goal.breaks-m1-requires
breaks-m1-requires c = let C = counts (seen c.args.l1) c.requires.first.0.0 in ((omega (arith, C.two_knots), C.few_knots), omega (arith, C.few_knots))

pub breaks-m2-requires : goal.breaks-m2-requires
breaks-m2-requires c = let C = counts (seen c.args.l2) c.requires.second.0.0 in ((omega (arith, C.two_knots), C.few_knots), omega (arith, C.few_knots))

pub push-requires-clause-n_bound : goal.push-requires-clause-n_bound
push-requires-clause-n_bound c =
    let C1 = counts (seen c.args.l1) c.requires.first.0.0 in
    let C2 = counts (seen c.args.l2) c.requires.second.0.0 in
    (c.requires.few.1, omega (arith, C1.most), omega (arith, C2.most), c.requires.few.0)
