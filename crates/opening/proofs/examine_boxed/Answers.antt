-- `examine_boxed` writes both lines' pieces, and the count of `pairs` does the rest. Assumes nothing.
use mathlib.Core.Path.{sym, ◌∙◌}
use Prim.Native.Nat.{◌+◌}
use lib.ListN.{length}
use Rattle.pairs.specs.Pairs.{pieces, pairs_from}
use Rattle.lines.specs.Lines.{seen}
use Rattle.knots.specs.Knots.{breaks_of}
use Rattle.curves.specs.Curves.{pieces_of}
use Rattle.opening.specs.Opens.{question_of}
use Rattle.opening.proofs.Laws.{pairs_told}
use Rattle.opening.proofs.examine_boxed.Goals as goal

pub returns-clause-told : goal.returns-clause-told
unfolding pieces_of
returns-clause-told c = let args = c.args in
    let l1 = seen args.l1 in
    let l2 = seen args.l2 in
    let E = c.count.ensures in
    let e1 = c.line_pieces.ensures in
    let e2 = c.line_pieces-2.ensures in
    let t1 = breaks_of l1 args.q.range1.lo args.q.range1.hi in
    let t2 = breaks_of l2 args.q.range2.lo args.q.range2.hi in (
      e1,
      e2,
      pairs_told (question_of args.q l1 l2) args.pieces1.now args.pieces2.now _ _ _ e1 e2
          (E.upper_bound.0 t1 t2
          ∙ (λ i. length (pairs_from args.q.gap (pieces (l1.degree + 1) c.line_pieces.new.out t1) (pieces (l2.degree + 1) c.line_pieces-2.new.out t2)
          (c.requires.second.1 i) (c.requires.first.1 i) 0))),
      rw (sym c.requires.first.1, sym c.requires.second.1) E.upper_bound.1,
    )
