-- The answer of a sheet that is no chart, which is never empty. Assumes nothing.
use Rattle.lovgurshem.proofs.Answered.{whole-answered}
use Rattle.lovgurshem.proofs.lovgurshem_answer.Goals as goal

pub returns : goal.returns
returns c = let args = c.args in
    let whole = whole-answered args.sheet.now args.out.now c.is_chart.ensures c.if-is_chart.false c.next.ensures in
    record { wrote = whole.0; fact = whole.1 }
