-- `validate_direction`: the tests of the knots stop it, or those of the multiplicities go on. Assumes nothing.
use mathlib.Core.Path.{◌≡◌, sym, ◌∙◌}
use Rattle.std.proofs.Common.{rules, tests, Err}
use Rattle.lines.proofs.Laws as laws
use Rattle.lines.proofs.Admitted as admitted
use Rattle.lines.proofs.validate_direction.Goals as goal

pub returns-in_err-validate_knots : goal.returns-in_err-validate_knots
returns-in_err-validate_knots c = let l = c.args.l in
    let r : c.from_residual.result ≡ Err c.in_err-validate_knots.field-0.0 = search (rules, tests) in
    r ∙ sym ((laws.knots_chain l.degree l.knots.now l.mults.now).1 _ _ (sym c.in_err-validate_knots.ensures))

pub validate_mults-requires : goal.validate_mults-requires
validate_mults-requires c = let l = c.args.l in
    let f = admitted.few l.degree l.knots.now l.mults.now _ (sym c.in_ok-validate_knots.ensures) in
    (f.0, f.1)

pub returns : goal.returns
returns c = let l = c.args.l in
    c.validate_mults.ensures ∙ sym ((laws.knots_chain l.degree l.knots.now l.mults.now).0 _ (sym c.in_ok-validate_knots.ensures))
