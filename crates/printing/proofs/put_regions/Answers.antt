-- A line a region: before each turn the first `k` are written. Assumes nothing.
use borrow.Author.Rules.{rules}
use mathlib.Core.Path.{refl}
use Prim.Native.Nat.{◌*◌}
use Rattle.lists.proofs.Parts.{lent_length}
use Rattle.printing.proofs.Laws.{regions_start, regions_turn}
use Rattle.printing.proofs.put_regions.Goals as goal

pub loop-k-init : goal.loop-k-init
loop-k-init c = let args = c.args in
    (refl, regions_start args.out.now args.at args.list.now args.marks.now, search rules)

pub put_region-here-requires : goal.put_region-here-requires
put_region-here-requires c = (
  lent_length (c.loop-k.k * 10) 10 c.args.list.now (search rules),
  search rules,
)

pub loop-k-preserved : goal.loop-k-preserved
loop-k-preserved c = let loop = c.loop-k in
    let args = c.args in
    let t = regions_turn args.out.now args.at args.list.now args.marks.now loop.k args.n (search rules) (search rules)
    loop.invariant.1 loop.invariant.2 (c.put_region-here.ensures.wrote, c.put_region-here.ensures.upper_bound) in
    (search rules, t.0, t.1)
