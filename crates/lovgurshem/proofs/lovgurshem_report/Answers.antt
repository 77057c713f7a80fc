-- The words of a report copied in. Assumes nothing.
use Rattle.std.proofs.Common.{rules, tests, ap, ◌∙◌, List, ℕ}
use Rattle.lists.specs.Parts.{patch}
use Rattle.lovgurshem.specs.Calls.{call_report}
use Rattle.lovgurshem.proofs.lovgurshem_report.Goals as goal

pub returns-in-Ok : goal.returns-in-Ok
unfolding call_report
returns-in-Ok c =
    let put = c.put_words.ensures ∙ ap (λ (l : List ℕ). patch c.args.counts.now 0 l) c.count_words.ensures in
    search (rules, tests, put)
