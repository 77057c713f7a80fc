-- `push_row` pushes a row. Assumes nothing.
use mathlib.Core.Path.{refl, ◌∙◌}
use lib.ListN.{length}
use Rattle.pairs.specs.Pairs.{seen}
use Rattle.pairs.specs.Nodes.{nodes}
use Rattle.pairs.proofs.Boxes.{box_is}
use Rattle.pairs.proofs.Pushes.{has_piece, row_start, row_room, row_push}
use Rattle.pairs.proofs.push_row.Goals as goal

pub loop-j-init : goal.loop-j-init
loop-j-init c = let args = c.args in
    let pre = c.requires in
    let e = row_start args.gap (seen args.p) (seen args.q) args.i (length args.boxes2.now) args.k0 pre.has_pieces.0 pre.has_pieces.1 (nodes args.nets1.now args.nets2.now args.ranges.now args.depths.now) in
    (e.0, e.1, refl, refl, refl, refl)

pub push_one-k-requires : goal.push_one-k-requires
push_one-k-requires c = let args = c.args in
    let pre = c.requires in
    let loop = c.loop-j in record {
      box1_value = (pre.box1_value.0, box_is args.q.w args.q.nets.now args.boxes2.now (length args.boxes2.now) loop.j _ pre.box1_value.1 c.loop-j-test.true);
      has_pieces = (pre.has_pieces.0, has_piece (seen args.q) (length args.boxes2.now) loop.j pre.has_pieces.1 c.loop-j-test.true);
      fact = row_room args.gap (seen args.p) (seen args.q) args.i (length args.boxes2.now) args.k0 pre.has_pieces.0 pre.has_pieces.1 loop.j loop.k
          (nodes args.nets1.now args.nets2.now args.ranges.now args.depths.now) (nodes loop.nets1 loop.nets2 loop.ranges loop.depths) c.loop-j-test.true
          loop.invariant.2 loop.invariant.3 loop.invariant.4 loop.invariant.5 pre.fact loop.invariant.1;
    }

pub loop-j-preserved : goal.loop-j-preserved
loop-j-preserved c = let args = c.args in
    let pre = c.requires in
    let loop = c.loop-j in
    let one = c.push_one-k in
    let e = row_push args.gap (seen args.p) (seen args.q) args.i (length args.boxes2.now) args.k0 pre.has_pieces.0 pre.has_pieces.1 loop.j loop.k one.result
    (nodes args.nets1.now args.nets2.now args.ranges.now args.depths.now) (nodes loop.nets1 loop.nets2 loop.ranges loop.depths)
    (nodes one.new.nets1 one.new.nets2 one.new.ranges one.new.depths) c.loop-j-test.true
    pre.fact loop.invariant.1 loop.invariant.0 one.ensures.fact_2 one.ensures.result_value in
    (e.0, e.1, one.auto.nets1 ∙ loop.invariant.2, one.auto.nets2 ∙ loop.invariant.3, one.auto.ranges ∙ loop.invariant.4, one.auto.depths ∙ loop.invariant.5)
