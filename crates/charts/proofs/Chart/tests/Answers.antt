-- `tests` is chart_met: 24, then the lines. Assumes nothing.
use mathlib.Core.Path.{◌∙◌}
use Rattle.charts.proofs.Lines.{count_none, count_many, count_fits}
use Rattle.charts.proofs.Chart.tests.Goals.{then-self-lt1-via-then-self-lt1, then-self-lt1-via-else-self-lt1+then-self-gt64}
use Rattle.charts.proofs.Chart.tests.Goals as goal

pub returns-then-self-lt1 : goal.returns-then-self-lt1
returns-then-self-lt1 c = let self = c.args.self in
    elim c.then-self-lt1.branch [
      | then-self-lt1-via-then-self-lt1 w ↦ count_none self.bytes.now self.parts w.if-self-lt1.true
      | then-self-lt1-via-else-self-lt1+then-self-gt64 w ↦ count_many self.bytes.now self.parts w.if-self-gt64.true
    ]

pub returns-in-Some : goal.returns-in-Some
returns-in-Some c = let self = c.args.self in
    c.in-Some.ensures ∙ count_fits self.bytes.now self.parts c.if-self-lt1.false c.if-self-gt64.false

pub returns-in-None : goal.returns-in-None
returns-in-None c = let self = c.args.self in
    c.in-None.ensures ∙ count_fits self.bytes.now self.parts c.if-self-lt1.false c.if-self-gt64.false
