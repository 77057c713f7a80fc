-- `with_poles` hands on the flat knots and the poles: of a closed line to `with_turn`, of an open one to `with_breaks`. Assumes nothing.
use mathlib.Core.Path.{◌≡◌, ◌∙◌}
use Prim.Native.Nat.{◌-◌, ◌/◌}
use native.Mathlib.Omega.{arith}
use lib.ListN.{length}
use lib.Seq.{length-take-le}
use Rattle.lists.specs.Tests.{total}
use Rattle.lines.specs.Admit.{beyond_of}
use Rattle.knots.proofs.Laws.{unrolled_open}
use Rattle.curves.proofs.Laws as laws
use Rattle.curves.proofs.with_poles.Goals as goal

pub with_turn-requires-clause-le_p : goal.with_turn-requires-clause-le_p
with_turn-requires-clause-le_p c = let l = c.args.l in
    let h = c.requires in
    let f = laws.turn_count l.closed l.degree (total l.mults.now - beyond_of l.closed l.degree l.mults.now) c.line_flat-k.result c.if-l.true c.line_flat-k.ensures.0 in
    let k = length-take-le c.line_flat-k.result c.line_flat-k.new.out (omega (arith, f)) in
    let m = laws.last_is l.closed l.degree l.mults.now c.if-l.true in
    (omega arith, omega arith, omega arith, omega arith, omega (arith, m), omega (arith, f, k), omega arith)

pub with_breaks-requires-clause-in_bounds : goal.with_breaks-requires-clause-in_bounds
with_breaks-requires-clause-in_bounds c = let l = c.args.l in
    (omega arith, laws.count_at c.args.r.lo c.args.r.hi _ _ (unrolled_open l.closed l.knots.now c.if-l.false) c.requires.in_bounds.1)

pub returns-then-l : goal.returns-then-l
returns-then-l c = let a = c.args in
    let l = a.l in
    let n : length a.poles.now / 4 ≡ total l.mults.now - beyond_of l.closed l.degree l.mults.now = omega arith in
    let m = laws.last_is l.closed l.degree l.mults.now c.if-l.true in
    c.with_turn.ensures ∙ laws.turned l.closed l.degree a.r.lo a.r.hi l.knots.now a.poles.now a.out.now c.if-l.true n m c.line_flat-k.ensures.1

pub returns-else-l : goal.returns-else-l
returns-else-l c = let a = c.args in
    let l = a.l in
    c.with_breaks.ensures ∙ laws.opened l.closed l.degree _ _ a.r.lo a.r.hi l.knots.now a.poles.now a.out.now c.if-l.false c.line_flat-k.ensures.1
