-- `push_pairs` pushes the pairs of all rows. Assumes nothing.
use mathlib.Core.Path.{refl, ◌∙◌}
use native.Mathlib.Omega.{arith}
use lib.ListN.{length}
use Rattle.pairs.specs.Pairs.{seen}
use Rattle.pairs.specs.Nodes.{nodes}
use Rattle.pairs.proofs.Boxes.{box_is}
use Rattle.pairs.proofs.Pushes.{has_piece, all_start, all_room, all_push, all_pushed}
use Rattle.pairs.proofs.push_pairs.Goals as goal

pub loop-i-init : goal.loop-i-init
loop-i-init c = let args = c.args in
    let pre = c.requires in
    let e = all_start args.gap (seen args.p) (seen args.q) (length args.boxes1.now) (length args.boxes2.now) pre.has_pieces.0 pre.has_pieces.1 (nodes args.nets1.now args.nets2.now args.ranges.now args.depths.now) in
    (e.0, e.1, refl, refl, refl, refl)

pub push_row-k-requires : goal.push_row-k-requires
push_row-k-requires c = let args = c.args in
    let pre = c.requires in
    let loop = c.loop-i in record {
      box1_value = (box_is args.p.w args.p.nets.now args.boxes1.now (length args.boxes1.now) loop.i _ pre.holds_boxes.0 c.loop-i-test.true, pre.holds_boxes.1);
      has_pieces = (has_piece (seen args.p) (length args.boxes1.now) loop.i pre.has_pieces.0 c.loop-i-test.true, pre.has_pieces.1);
      fact = all_room args.gap (seen args.p) (seen args.q) (length args.boxes1.now) (length args.boxes2.now) pre.has_pieces.0 pre.has_pieces.1 loop.i loop.k
          (nodes args.nets1.now args.nets2.now args.ranges.now args.depths.now) (nodes loop.nets1 loop.nets2 loop.ranges loop.depths) c.loop-i-test.true
          loop.invariant.2 loop.invariant.3 loop.invariant.4 loop.invariant.5 pre.fact loop.invariant.1;
    }

pub loop-i-preserved : goal.loop-i-preserved
loop-i-preserved c = let args = c.args in
    let pre = c.requires in
    let loop = c.loop-i in
    let row = c.push_row-k in
    let e = all_push args.gap (seen args.p) (seen args.q) (length args.boxes1.now) (length args.boxes2.now) pre.has_pieces.0 pre.has_pieces.1 loop.i loop.k row.result
    (nodes args.nets1.now args.nets2.now args.ranges.now args.depths.now) (nodes loop.nets1 loop.nets2 loop.ranges loop.depths)
    (nodes row.new.nets1 row.new.nets2 row.new.ranges row.new.depths) c.loop-i-test.true
    pre.fact loop.invariant.1 loop.invariant.0 row.ensures.fact_2 row.ensures.result_value in
    (e.0, e.1, row.auto.nets1 ∙ loop.invariant.2, row.auto.nets2 ∙ loop.invariant.3, row.auto.ranges ∙ loop.invariant.4, row.auto.depths ∙ loop.invariant.5)

pub returns : goal.returns
returns c = let args = c.args in
    let pre = c.requires in
    let all = all_pushed args.gap (seen args.p) (seen args.q) (length args.boxes1.now) (length args.boxes2.now) pre.has_pieces.0 pre.has_pieces.1 c.loop-i.i
    (nodes args.nets1.now args.nets2.now args.ranges.now args.depths.now) (nodes c.loop-i.nets1 c.loop-i.nets2 c.loop-i.ranges c.loop-i.depths)
    (omega (arith, c.loop-i-test.false, c.loop-i.auto.i-end)) c.loop-i.invariant.0 in
    (all.nets1, all.nets2, all.ranges, all.depths)
