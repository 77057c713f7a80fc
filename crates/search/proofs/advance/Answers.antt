-- `advance` does what the verdict says: a line is chosen, and the node is halved along it. Assumes nothing.
use borrow.Author.Rules.{rules}
use mathlib.Core.Path.{sym, ap, ◌∙◌}
use Prim.Native.Nat.{suc, ◌≤◌}
use Rattle.verdicts.specs.declared.Verdict.{Verdict}
use Rattle.states.specs.States.{memory}
use Rattle.nodes.specs.Nets.{geometry}
use Rattle.search.specs.Steps.{act_on}
use Rattle.search.proofs.Acts.{halved_is}
use Rattle.search.proofs.advance.Goals as goal

pub returns-else-st-eq0-clause-fact : goal.returns-else-st-eq0-clause-fact
returns-else-st-eq0-clause-fact c = let args = c.args in
    let pre = c.requires in
    let R = pre.room in
    let u = memory args.nets1.now args.nets2.now args.ranges.now args.depths.now args.raw.now in
    let one : 1 ≤ args.st.tally.unspent = search rules in
    let h = c.halve.ensures in
    halved_is args.st u args.top.place args.top.depth args.a args.b pre.a_value.0 pre.a_value.1 pre.a_value.2 _
    (sym c.in-Some.is ∙ c.choose.ensures) _ _ _ _ one R.nets1 R.nets2 h.0 h.1 h.2 h.3
    ∙ ap (λ (v : Verdict). act_on geometry (suc args.top.place) v args.st u) (sym c.in-Split.is)
