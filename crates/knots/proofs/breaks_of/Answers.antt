-- `breaks_of` fills: the breaks stored and those to come are all; behind them nothing changes. Assumes nothing.
use mathlib.Core.Path.{refl, sym, ap, ◌∙◌}
use mathlib.Core.List.{[], ◌∷◌, ◌++◌}
use Prim.Native.Nat.{◌+◌, ◌≤◌}
use native.Mathlib.Omega.{arith}
use lib.ListN.{length, set, take, length-set}
use lib.Seq.{length-take-le}
use borrow.Author.Rules.{rules}
use Rattle.knots.specs.Knots.{between}
use Rattle.knots.proofs.Laws as laws
use Rattle.knots.proofs.breaks_of.Goals.{then-is_inside, else-is_inside}
use Rattle.knots.proofs.breaks_of.Goals as goal

pub loop-k-init : goal.loop-k-init
loop-k-init c = let a = c.args in
    (search rules, search rules, refl, laws.breaks_start a.r.lo a.out.now (between a.r.lo a.r.hi a.knots.now (a.r.hi ∷ [])) (omega arith))

pub loop-k-preserved : goal.loop-k-preserved
loop-k-preserved c = let a = c.args in
    let l = c.loop-k in
    let j = c.if-is_inside in
    let z = length-set a.out.now 0 a.r.lo in
    elim j.branch [
      | then-is_inside w ↦
          let t = laws.breaks_turn a.r.lo a.r.hi a.knots.now (a.r.hi ∷ []) l.out l.n l.k-index (omega arith) (omega (arith, l.auto.out, z)) (sym c.is_inside.ensures ∙ w.if-is_inside.true) in
          rw (w.out-is, w.n-is) (omega arith, omega arith, laws.behind l.out _ _ l.n l.invariant.2, t ∙ l.invariant.3)
      | else-is_inside w ↦
          let t = laws.breaks_skip a.r.lo a.r.hi a.knots.now (a.r.hi ∷ []) l.k-index (omega arith) (sym c.is_inside.ensures ∙ w.if-is_inside.false) in
          rw (w.out-is, w.n-is) (omega arith, omega arith, l.invariant.2, ap (λ z. take l.n l.out ++ z) t ∙ l.invariant.3)
    ]

pub returns : goal.returns
returns c = let a = c.args in
    let l = c.loop-k in
    let z = length-set a.out.now 0 a.r.lo in
    let e = laws.breaks_done a.r.lo a.r.hi a.knots.now l.out _ l.n l.k-index (omega arith) (omega (arith, l.auto.out, z)) l.invariant.3 in
    let h : l.n + 1 ≤ length (set l.out l.n a.r.hi) = simp length-set (omega (arith, l.auto.out, z)) in (
      sym (length-take-le (l.n + 1) (set l.out l.n a.r.hi) h) ∙ ap length e,
      laws.patched (l.n + 1) (set l.out l.n a.r.hi) a.out.now _ h e (laws.breaks_behind l.out a.out.now a.r.lo a.r.hi l.n (omega arith) l.invariant.2),
      e,
      omega arith,
      omega arith,
    )
