-- What an opening on zeros answers and prints, one return an answer. Assumes nothing.
use mathlib.Core.Path.{sym, ◌∙◌}
use lib.Ieee.{of_bits}
use Rattle.std.specs.Prelude.{Ok, Err}
use Rattle.lines.specs.Lines.{seen}
use Rattle.opening.specs.Opens.{question_of}
use Rattle.sheet.specs.Answers.{zeros, zero_depths, zero_marks}
use Rattle.sheet.proofs.Reports.{opens_on, opened_prints}
use Rattle.sheet.proofs.answer_lines.Goals as goal

pub returns-in-Ok : goal.returns-in-Ok
unfolding of_bits zeros zero_depths zero_marks
returns-in-Ok c = let args = c.args in
    let q = question_of args.q (seen args.l1) (seen args.l2) in
    (sym c.in-Ok.is ∙ opens_on q c.open-opened.ensures, opened_prints q c.open-opened.ensures args.out.now (Ok c.in-Ok.st) c.in-Ok.is c.answer_search-length.ensures)

pub returns-in-Err : goal.returns-in-Err
unfolding of_bits zeros zero_depths zero_marks
returns-in-Err c = let args = c.args in
    let q = question_of args.q (seen args.l1) (seen args.l2) in
    (sym c.in-Err.is ∙ opens_on q c.open-opened.ensures, opened_prints q c.open-opened.ensures args.out.now (Err c.in-Err.e) c.in-Err.is c.put_error-length.ensures)
