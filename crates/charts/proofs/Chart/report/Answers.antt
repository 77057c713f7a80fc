-- `report` is the part of line k. Assumes nothing.
use mathlib.Core.Path.{sym, ap, ◌∙◌, subst}
use mathlib.Core.Bool.{Bool, ◌&&◌}
use Rattle.walks.specs.Places.{ChartLineInside}
use Rattle.charts.proofs.Lines.{inside-at, report_left}
use Rattle.charts.proofs.Chart.report.Goals as goal

pub line_report-length-requires : goal.line_report-length-requires
line_report-length-requires c = let self = c.args.self in (
  c.requires.0,
  c.requires.1.0,
  subst (ChartLineInside self.bytes.now) (sym c.line_place-at.ensures) (inside-at self.bytes.now c.args.k self.parts.lines self.parts.first.next c.requires.2 c.requires.1.1),
)

pub returns-then-good : goal.returns-then-good
returns-then-good c = let self = c.args.self in
    report_left self.bytes.now self.parts c.args.k c.args.good c.says_complete-complete.result _ c.args.out.now c.line_place-at.result c.requires.2
    c.line_place-at.ensures c.line_report-length.ensures c.says_complete-complete.ensures (ap (λ (b : Bool). b && c.says_complete-complete.result) (sym c.if-good.true))

pub returns-else-good : goal.returns-else-good
returns-else-good c = let self = c.args.self in
    report_left self.bytes.now self.parts c.args.k c.args.good c.says_complete-complete.result _ c.args.out.now c.line_place-at.result c.requires.2
    c.line_place-at.ensures c.line_report-length.ensures c.says_complete-complete.ensures (c.if-good.false ∙ ap (λ (b : Bool). b && c.says_complete-complete.result) (sym c.if-good.false))
