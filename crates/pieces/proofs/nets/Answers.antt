-- `nets` fills, one net a turn; behind them nothing changes. Assumes nothing.
use mathlib.Core.Path.{◌≡◌, ◌∙◌}
use Prim.Native.Nat.{◌+◌, ◌-◌, ◌*◌, ◌≤◌}
use native.Mathlib.Omega.{arith}
use lib.ListN.{length}
use Rattle.lists.proofs.Parts.{lent_length}
use Rattle.pieces.proofs.Laws as laws
use Rattle.pieces.proofs.nets.Goals as goal

pub overflow_mul-from : goal.overflow_mul-from
overflow_mul-from c = omega (arith, laws.small c.loop-i.i c.args.s.p (omega arith) (omega arith))

pub loop-i-preserved : goal.loop-i-preserved
loop-i-preserved c = let a = c.args in
    let s = a.s in
    let l = c.loop-i in
    let m = c.net in
    let n = 4 * (s.p + 1) in
    let rm : l.i * n + n ≤ length l.out = laws.room (length a.breaks.now - 1) l.i n _ (omega arith) (omega (arith, c.requires)) in
    let lv : length m.new.out ≡ n = m.auto.out ∙ lent_length (l.i * n) n l.out rm in record {
      same = laws.nets_rest s.closed s.p s.knots.now s.flat.now s.poles.now a.breaks.now n l.i l.out m.new.out rm lv _ l.invariant.same;
      made = laws.nets_turn s.closed s.p s.knots.now s.flat.now s.poles.now a.breaks.now n l.i l.out m.new.out rm lv (omega arith) m.ensures ∙ l.invariant.made;
    }

pub returns : goal.returns
returns c = let a = c.args in
    let s = a.s in
    let l = c.loop-i in
    laws.nets_done s.closed s.p s.knots.now s.flat.now s.poles.now a.breaks.now l.i l.out _ (omega (arith, c.requires)) (omega arith) (omega arith)
    l.invariant.same l.invariant.made
