-- `halve_slot` is split_slot: both halves stand in slots k and k + 1. Assumes nothing.
use native.Mathlib.Omega.{arith}
use Rattle.nets.proofs.Laws.{halves_are_split}
use Rattle.nets.proofs.halve_slot.Goals as goal

pub returns : goal.returns
returns c = let a = c.args in
    let p = c.split_at_mut-slots in
    let q = c.split_at_mut-upper in
    halves_are_split a.w a.k a.s.now p.result.0.now q.result.0.now q.result.1.now c.halve.new.upper c.halve.new.lower (omega arith) (cc) (cc) (cc) (cc) (cc)
