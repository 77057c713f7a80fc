-- `examine` is examine_def: the tests, then what `examine_pieces` does. Assumes nothing.
use Rattle.std.proofs.Common.{rules, tests, ◌≡◌, Ok}
use Rattle.lines.specs.Lines.{seen}
use Rattle.curves.specs.Curves.{pieces_of}
use Rattle.opening.specs.Opens.{question_of}
use Rattle.opening.specs.Examines.{tests_of, examining}
use Rattle.opening.proofs.Acts.{all_passed, examined_is}
use Rattle.opening.proofs.examine.Goals as goal

pub examine_pieces-requires : goal.examine_pieces-requires
examine_pieces-requires c = let args = c.args in
    let q = question_of args.q (seen args.l1) (seen args.l2) in
    let passed : Ok tt ≡ tests_of q args.pieces1.now args.pieces2.now = search (rules, tests) in
    let all = all_passed q args.pieces1.now args.pieces2.now passed in
    record { first = all.0; second = all.1.0 }

pub returns : goal.returns
unfolding pieces_of
returns c = let args = c.args in
    let q = question_of args.q (seen args.l1) (seen args.l2) in
    let passed : Ok tt ≡ tests_of q args.pieces1.now args.pieces2.now = search (rules, tests) in
    let E = c.examine_pieces.ensures in
    examined_is q args.pieces1.now args.pieces2.now (Ok tt) passed (λ i. examining (Ok (E.2 i)) (E.0 i) (E.1 i))
