-- `measure`: the points stand at the start of out, and count where the net is in measure. Assumes nothing.
use mathlib.Core.Path.{refl, sym}
use Prim.Native.Nat.{◌*◌, ◌/◌}
use native.Mathlib.Omega.{arith}
use lib.ListN.{length}
use lib.Seq.{length-take-le}
use Rattle.boxes.proofs.Laws.{too_few, too_many, start-length, in_is, out_is}
use borrow.Author.Rules.{rules}
use Rattle.boxes.proofs.measure.Goals as goal

pub returns-then-net-lt8 : goal.returns-then-net-lt8
returns-then-net-lt8 c = let a = c.args in
    let m = too_few a.net.now a.out.now c.if-net-lt8.true in
    record { value = (m.counted, search rules); out_after = m.left }

pub returns-then-net-gt104 : goal.returns-then-net-gt104
returns-then-net-gt104 c = let a = c.args in
    let m = too_many a.net.now a.out.now c.if-net-lt8.false c.if-net-gt104.true in
    record { value = (m.counted, search rules); out_after = m.left }

pub slice_bounds-net_points-end-2 : goal.slice_bounds-net_points-end-2
slice_bounds-net_points-end-2 c = let a = c.args in
    sym (length-take-le (length a.net.now / 4 * 3) a.out.now (omega arith))

pub net_points-requires : goal.net_points-requires
net_points-requires c = let a = c.args in
    length-take-le (length a.net.now / 4 * 3) a.out.now (omega arith)

pub slice_bounds-in_measure-end-2 : goal.slice_bounds-in_measure-end-2
slice_bounds-in_measure-end-2 c = let a = c.args in
    let p = c.net_points in
    start-length a.net.now p.new.out a.out.now (length a.net.now / 4 * 3) p.ensures refl

pub returns-then-in_measure : goal.returns-then-in_measure
returns-then-in_measure c = let a = c.args in
    let p = c.net_points in
    let t = c.in_measure in
    let m = in_is a.net.now p.new.out a.out.now (length a.net.now / 4 * 3) p.ensures refl (omega arith) (omega arith) t.result
    t.ensures c.if-in_measure.true in
    record { value = (m.counted, search rules); out_after = m.left }

pub returns : goal.returns
returns c = let a = c.args in
    let p = c.net_points in
    let t = c.in_measure in
    let m = out_is a.net.now p.new.out a.out.now (length a.net.now / 4 * 3) p.ensures refl (omega arith) (omega arith)
    t.result t.ensures c.if-in_measure.false in
    record { value = (m.counted, search rules); out_after = m.left }
