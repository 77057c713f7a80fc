-- `push` is push_pairs: the room for P pairs decides, then they are pushed. Assumes nothing.
use mathlib.Core.Path.{sym, subst, ◌∙◌}
use Prim.Native.Nat.{ℕ}
use borrow.Author.Tests.{not-true, not-false}
use lib.ListN.{length}
use Rattle.pairs.specs.Pairs.{seen}
use Rattle.pairs.specs.Nodes.{Room, nodes}
use Rattle.states.specs.States.{memory, sizes}
use Rattle.opening.proofs.Laws.{push_room, push_short, push_done}
use Rattle.opening.proofs.push.Goals as goal

pub fresh-st-requires : goal.fresh-st-requires
fresh-st-requires c = let pre = c.requires in
    (pre.n_bound.0, pre.n_bound.3, pre.n_bound.1, pre.n_bound.2)

pub returns-then-not-has_room : goal.returns-then-not-has_room
returns-then-not-has_room c = let args = c.args in
    push_short args.q.splits args.q.gap args.terms (seen args.p1) (seen args.p2) (length args.boxes1.now) (length args.boxes2.now)
    (memory args.nets1.now args.nets2.now args.ranges.now args.depths.now args.raw.now) _ _
    c.requires.n_value c.fresh-st.ensures (sym c.has_room.ensures ∙ not-true _ c.if-not-has_room.true-raw)

pub push_pairs-requires-clause-fact : goal.push_pairs-requires-clause-fact
push_pairs-requires-clause-fact c = let args = c.args in
    subst (λ (k : ℕ). Room (seen args.p1) (seen args.p2) k (nodes args.nets1.now args.nets2.now args.ranges.now args.depths.now))
    c.requires.n_value
    (push_room _ _ _ _ _ _ _ (sizes (memory args.nets1.now args.nets2.now args.ranges.now args.depths.now args.raw.now))
    c.fresh-st.ensures (sym c.has_room.ensures ∙ not-false _ c.if-not-has_room.false-raw))

pub returns : goal.returns
returns c = let args = c.args in
    let P = c.push_pairs.ensures in
    push_done args.q.splits args.q.gap args.terms (seen args.p1) (seen args.p2) (length args.boxes1.now) (length args.boxes2.now)
    (memory args.nets1.now args.nets2.now args.ranges.now args.depths.now args.raw.now) _ _
    c.requires.n_value c.fresh-st.ensures (sym c.has_room.ensures ∙ not-false _ c.if-not-has_room.false-raw) _ _ _ _ P.0 P.1 P.2 P.3
