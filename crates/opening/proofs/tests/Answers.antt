-- `tests` is tests_of: one test a return. Assumes nothing.
use native.Mathlib.Omega.{arith}
use Rattle.std.proofs.Common.{rules, tests, ◌≡◌, Ok}
use Rattle.lines.specs.Lines.{seen}
use Rattle.lines.specs.Admit.{admit_of}
use Rattle.lines.proofs.Admitted.{counts, lengths}
use Rattle.opening.proofs.tests.Goals as goal

pub ask-requires-clause-in_bounds : goal.ask-requires-clause-in_bounds
ask-requires-clause-in_bounds c =
    let ok : admit_of (seen c.args.l1) ≡ Ok tt = search (rules, tests) in
    let h = lengths (seen c.args.l1) ok in
    (h.0, h.1, (h.2, h.3, h.4))

pub ask-requires-clause-in_bounds_2 : goal.ask-requires-clause-in_bounds_2
ask-requires-clause-in_bounds_2 c =
    let ok : admit_of (seen c.args.l2) ≡ Ok tt = search (rules, tests) in
    let h = lengths (seen c.args.l2) ok in
    (h.0, h.1, (h.2, h.3, h.4))

pub pieces_fit-requires : goal.pieces_fit-requires
pieces_fit-requires c =
    let ok : admit_of (seen c.args.l1) ≡ Ok tt = search (rules, tests) in
    let C = counts (seen c.args.l1) ok in
    ((omega (arith, C.two_knots), C.few_knots), C.most)

pub pieces_fit-requires-2 : goal.pieces_fit-requires-2
pieces_fit-requires-2 c =
    let ok : admit_of (seen c.args.l2) ≡ Ok tt = search (rules, tests) in
    let C = counts (seen c.args.l2) ok in
    ((omega (arith, C.two_knots), C.few_knots), C.most)
