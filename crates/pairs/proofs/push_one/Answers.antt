-- `push_one` pushes the row of one pair: none where the boxes are apart, else the pair. Assumes nothing.
use Rattle.pairs.specs.Pairs.{seen}
use Rattle.pairs.specs.Nodes.{nodes}
use Rattle.pairs.proofs.Pushes.{one_apart, one-room, one_near}
use Rattle.pairs.proofs.push_one.Goals as goal

pub returns-then-boxes_apart : goal.returns-then-boxes_apart
returns-then-boxes_apart c = let args = c.args in
    let pre = c.requires in
    let e = one_apart args.gap (seen args.p) (seen args.q) args.i args.j args.k args.box1 args.box2 _ pre.box1_value.0 pre.box1_value.1 c.boxes_apart.ensures
    (nodes args.nets1.now args.nets2.now args.ranges.now args.depths.now) c.if-boxes_apart.true in
    record { fact_2 = e.0; result_value = e.1 }

pub put_pair-requires-clause-room : goal.put_pair-requires-clause-room
put_pair-requires-clause-room c = let args = c.args in
    let pre = c.requires in
    one-room args.gap (seen args.p) (seen args.q) args.i args.j args.k args.box1 args.box2 _ pre.box1_value.0 pre.box1_value.1 c.boxes_apart.ensures
    (nodes args.nets1.now args.nets2.now args.ranges.now args.depths.now) c.if-boxes_apart.false pre.fact

pub returns : goal.returns
returns c = let args = c.args in
    let pre = c.requires in
    let e = one_near args.gap (seen args.p) (seen args.q) args.i args.j args.k args.box1 args.box2 _ pre.box1_value.0 pre.box1_value.1 c.boxes_apart.ensures
    (nodes args.nets1.now args.nets2.now args.ranges.now args.depths.now) _ c.if-boxes_apart.false c.put_pair.ensures in
    record { fact_2 = e.0; result_value = e.1 }
