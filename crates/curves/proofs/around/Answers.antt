-- `around` is around_of: a pole a turn of the loop. Assumes nothing.
use mathlib.Core.Path.{◌≡◌, ap, ◌∙◌}
use mathlib.Core.List.{◌++◌}
use Prim.Native.Nat.{◌+◌, ◌-◌, ◌*◌}
use native.Mathlib.Omega.{arith}
use lib.ListN.{length, take, drop, length-drop}
use lib.Seq.{length-take-le}
use Rattle.std.proofs.lemmas.Slice.{take-put_mid}
use Rattle.lists.specs.Parts.{block}
use Rattle.curves.specs.Curves.{around_of}
use Rattle.curves.proofs.Turns.{around_turn, around_done}
use Rattle.curves.proofs.around.Goals as goal

pub loop-j-preserved : goal.loop-j-preserved
loop-j-preserved c = let a = c.args in
    let l = c.loop-j in
    let i = c.turn_pole-i in
    let s = c.copy_from_slice.ensures in
    let d : i.result * 4 + 4 - i.result * 4 ≡ 4 = omega arith in
    let e = s.after ∙ ap (λ k. take k (drop (i.result * 4) a.poles.now)) d ∙ ap (λ p. block 4 p a.poles.now) i.ensures.0 in
    let b = length-drop (4 * l.j) l.out in
    let k : length c.copy_from_slice.new.self ≡ 4 = c.copy_from_slice.auto.self ∙ length-take-le _ _ (omega (arith, b)) ∙ omega arith in
    ap (λ z. z ++ around_of a.n a.m (a.n + a.p - (l.j + 1)) (l.j + 1) a.poles.now) (take-put_mid (4 * l.j) _ l.out _ _ (omega (arith, k)) (omega arith))
    ∙ around_turn a.n a.m (a.n + a.p) l.j a.poles.now _ _ (omega arith) e ∙ l.invariant

pub returns : goal.returns
returns c = let a = c.args in
    let l = c.loop-j in
    around_done a.n a.m (a.n + a.p) a.poles.now l.out _ l.j (omega arith) (omega arith) l.invariant
