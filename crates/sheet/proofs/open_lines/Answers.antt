-- What an opening on zeros answers. Assumes nothing.
use borrow.Author.Rules.{rules}
use lib.Ieee.{of_bits}
use Rattle.lines.specs.Lines.{seen}
use Rattle.opening.specs.Opens.{question_of}
use Rattle.sheet.specs.Answers.{zeros, zero_depths}
use Rattle.sheet.proofs.Reports.{opens_on}
use Rattle.sheet.proofs.open_lines.Goals as goal

pub returns : goal.returns
unfolding of_bits zeros zero_depths
returns c = let args = c.args in
    let opened = opens_on (question_of args.q (seen args.l1) (seen args.l2)) c.«open».ensures in
    search (rules, opened)
