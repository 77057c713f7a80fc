-- `open` is open_def: the tests, then what `open_pieces` does. Assumes nothing.
use Rattle.std.proofs.Common.{rules, tests, ◌≡◌, Ok}
use Rattle.lines.specs.Lines.{seen}
use Rattle.states.specs.States.{memory}
use Rattle.opening.specs.Opens.{question_of}
use Rattle.opening.specs.Examines.{tests_of}
use Rattle.opening.proofs.Acts.{all_passed, opened_is}
use Rattle.opening.proofs.open.Goals as goal

pub open_pieces-requires : goal.open_pieces-requires
open_pieces-requires c = let args = c.args in
    let q = question_of args.q (seen args.l1) (seen args.l2) in
    let passed : Ok tt ≡ tests_of q args.pieces1.now args.pieces2.now = search (rules, tests) in
    let all = all_passed q args.pieces1.now args.pieces2.now passed in
    record { first = all.0; second = all.1.0; splits_bound = all.1.1 }

pub returns : goal.returns
returns c = let args = c.args in
    let q = question_of args.q (seen args.l1) (seen args.l2) in
    let passed : Ok tt ≡ tests_of q args.pieces1.now args.pieces2.now = search (rules, tests) in
    opened_is q args.pieces1.now args.pieces2.now (memory args.nets1.now args.nets2.now args.ranges.now args.depths.now args.raw.now) (Ok tt) passed c.open_pieces.ensures
