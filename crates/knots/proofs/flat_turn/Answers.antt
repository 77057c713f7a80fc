-- `flat_turn`: its three parts, one after the other. Assumes nothing.
use native.Mathlib.Omega.{arith}
use Rattle.knots.proofs.Laws as laws
use Rattle.knots.proofs.flat_turn.Goals as goal

pub shift-requires : goal.shift-requires
shift-requires c = let a = c.args in
    laws.turn_before a.n a.p a.flat.now a.out.now (omega arith) (omega arith) (omega arith)

pub returns : goal.returns
returns c = let f = c in
    let s = f in
    let a = s.args in
    laws.turn_built a.p a.n a.period a.flat.now _ _ _ _ _ (omega arith) (omega arith) s.shift.ensures f.copy_from_slice.ensures c.shift-2.ensures
