-- `admit` is the whole chain: its first half stops it, or the second goes on. Assumes nothing.
use mathlib.Core.Path.{◌≡◌, sym, ◌∙◌}
use Rattle.std.proofs.Common.{rules, tests, Err}
use Rattle.lines.proofs.Laws as laws
use Rattle.lines.proofs.Admitted as admitted
use Rattle.lines.proofs.admit.Goals as goal

pub returns-in_err-validate_direction : goal.returns-in_err-validate_direction
returns-in_err-validate_direction c = let l = c.args.l in
    let r : c.from_residual.result ≡ Err c.in_err-validate_direction.field-0.0 = search (rules, tests) in
    r ∙ sym ((laws.direction_chain l.closed l.degree l.knots.now l.mults.now).1 _ _ (sym c.in_err-validate_direction.ensures))

pub validate_poles-requires : goal.validate_poles-requires
validate_poles-requires c = let l = c.args.l in
    let f = admitted.few l.degree l.knots.now l.mults.now _ (sym c.in_ok-validate_direction.ensures) in
    ((f.0, f.1), f.2)

pub returns : goal.returns
returns c = let l = c.args.l in
    c.validate_poles.ensures ∙ sym ((laws.direction_chain l.closed l.degree l.knots.now l.mults.now).0 _ (sym c.in_ok-validate_direction.ensures))
