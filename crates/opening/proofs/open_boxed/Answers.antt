-- `open_boxed` is the first act's `examine_boxed`, and `open_pairs` does the rest. Assumes nothing.
use mathlib.Core.Path.{sym, subst, ◌∙◌}
use Prim.Native.Nat.{ℕ, ◌+◌}
use lib.ListN.{length}
use Rattle.lines.specs.Lines.{seen}
use Rattle.knots.specs.Knots.{breaks_of}
use Rattle.curves.specs.Curves.{pieces_of, piece_count}
use Rattle.pairs.specs.BoxLists.{HoldsBoxes}
use Rattle.pairs.specs.Pairs.{pieces, pairs_from}
use Rattle.states.specs.States.{memory}
use Rattle.opening.specs.Opens.{question_of, terms_of, push_pairs}
use Rattle.opening.proofs.Laws.{few_pairs, pairs_held, pieces-opened}
use Rattle.opening.proofs.open_boxed.Goals as goal

pub open_pairs-requires-clause-few : goal.open_pairs-requires-clause-few
open_pairs-requires-clause-few c = let args = c.args in (
  c.requires.splits_bound,
  few_pairs _ (piece_count (seen args.l1) args.q.range1.lo args.q.range1.hi) (piece_count (seen args.l2) args.q.range2.lo args.q.range2.hi)
      c.requires.first.0.2 c.requires.second.0.2 c.examine_boxed-n.ensures.told.3,
)

pub open_pairs-requires-clause-fact : goal.open_pairs-requires-clause-fact
unfolding pieces_of
open_pairs-requires-clause-fact c = let args = c.args in
    let E = c.examine_boxed-n.ensures in
    let E1 = c.examine_boxed-n.auto in
    let l1 = seen args.l1 in
    let l2 = seen args.l2 in
    let t1 = breaks_of l1 args.q.range1.lo args.q.range1.hi in
    let t2 = breaks_of l2 args.q.range2.lo args.q.range2.hi in
    let k1 = E1.boxes1 ∙ c.requires.first.1 in
    let k2 = E1.boxes2 ∙ c.requires.second.1 in
    let p1 = pieces (l1.degree + 1) c.examine_boxed-n.new.pieces1 t1 in
    let p2 = pieces (l2.degree + 1) c.examine_boxed-n.new.pieces2 t2 in (
      pairs_held (question_of args.q l1 l2) args.pieces1.now args.pieces2.now _ _ _ E.told.0 E.told.1 E.told.2
          ∙ sym (λ i. length (pairs_from args.q.gap p1 p2 (k2 i) (k1 i) 0)),
      subst (λ (n : ℕ). HoldsBoxes (l1.degree + 1) c.examine_boxed-n.new.pieces1 n c.examine_boxed-n.new.boxes1) (sym E1.boxes1) E.boxes_after.2,
      subst (λ (n : ℕ). HoldsBoxes (l2.degree + 1) c.examine_boxed-n.new.pieces2 n c.examine_boxed-n.new.boxes2) (sym E1.boxes2) E.boxes_after.3,
    )

pub returns : goal.returns
unfolding pieces_of
returns c = let args = c.args in
    let E = c.examine_boxed-n.ensures.told in
    let k1 = c.examine_boxed-n.auto.boxes1 ∙ c.requires.first.1 in
    let k2 = c.examine_boxed-n.auto.boxes2 ∙ c.requires.second.1 in
    let l1 = seen args.l1 in
    let l2 = seen args.l2 in
    let q = question_of args.q l1 l2 in
    let u = memory args.nets1.now args.nets2.now args.ranges.now args.depths.now args.raw.now in
    let t1 = breaks_of l1 args.q.range1.lo args.q.range1.hi in
    let t2 = breaks_of l2 args.q.range2.lo args.q.range2.hi in
    pieces-opened q args.pieces1.now args.pieces2.now u _ _ _ _ E.0 E.1
    (c.open_pairs.ensures
    ∙ (λ i. push_pairs args.q.splits args.q.gap (terms_of q) (pieces (l1.degree + 1) c.examine_boxed-n.new.pieces1 t1)
    (pieces (l2.degree + 1) c.examine_boxed-n.new.pieces2 t2) (k1 i) (k2 i) u))
