-- `list_left` writes the regions one behind the other. Assumes nothing.
use borrow.Author.Rules.{rules}
use Rattle.nodes.specs.Nets.{geometry}
use Rattle.report.proofs.Laws.{left-turn}
use Rattle.report.proofs.list_left.Goals as goal

pub loop-k-preserved : goal.loop-k-preserved
loop-k-preserved c = let args = c.args in
    let loop = c.loop-k in (
      search rules,
      left-turn geometry args.st args.nets1.now args.nets2.now args.ranges.now args.raw.now loop.raw _ args.st.tally.given
          loop.k _ (search rules) loop.invariant.1 c.slot_region.ensures c.store.ensures,
    )
