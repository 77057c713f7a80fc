-- `closed_flat`: the flat knots, and those around the turn. Assumes nothing.
use mathlib.Core.Path.{refl, sym, ◌∙◌}
use native.Mathlib.Omega.{arith}
use lib.Seq.{length-take-le}
use Rattle.knots.proofs.Laws as laws
use Rattle.knots.proofs.closed_flat.Goals as goal

pub slice_bounds-flat_turn-end-3 : goal.slice_bounds-flat_turn-end-3
slice_bounds-flat_turn-end-3 c = let l = c.args.l in
    let m = laws.beyond_last l.degree l.knots.now l.mults.now (omega arith) in
    sym (length-take-le _ _ (omega (arith, m)))

pub flat_turn-requires : goal.flat_turn-requires
flat_turn-requires c = let a = c.args in
    let l = a.l in
    let f = c.flat_knots-all in
    let m = laws.beyond_last l.degree l.knots.now l.mults.now (omega arith) in
    let k = length-take-le f.result f.new.out (omega arith) in
    (omega (arith, m), omega (arith, m, k), omega (arith, m, k), length-take-le _ a.out.now (omega (arith, m)) ∙ omega (arith, m), omega (arith, m))

pub returns : goal.returns
returns c = let a = c.args in
    let l = a.l in
    let f = c.flat_knots-all in
    let t = c.flat_turn in
    let m = laws.beyond_last l.degree l.knots.now l.mults.now (omega arith) in (
      omega (arith, m, f.ensures.0),
      laws.flat-closed l.degree l.degree _ _ l.knots.now l.mults.now _ t.new.out _ refl (omega (arith, m, f.ensures.0)) f.ensures.2 t.ensures
          (t.auto.out ∙ length-take-le _ a.out.now (omega (arith, m, f.ensures.0))),
    )
