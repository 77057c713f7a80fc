-- `lines_met` is lines_met. The loop's invariant: what was met so far, or what the lines behind meet, is what is met first of all. Assumes nothing.
use borrow.Author.Rules.{rules}
use mathlib.Core.Path.{◌≡◌, sym, ap, ◌∙◌, subst}
use mathlib.Core.List.{List}
use Prim.Native.Nat.{ℕ, suc, ◌+◌, ◌-◌}
use native.Mathlib.Omega.{arith}
use Rattle.walks.specs.Sheets.{ChartLine}
use Rattle.walks.specs.Places.{ChartLineInside, LinesInside, behind_at}
use Rattle.charts.specs.Found.{tested_of, chart_seen, lines_met}
use Rattle.charts.proofs.Lines.{lines_of, met_start, met-turn, met_done}
use Rattle.charts.proofs.Chart.lines_met.Goals as goal

pub line_met-met-requires : goal.line_met-met-requires
line_met-met-requires c = let self = c.args.self in
    let n : self.parts.lines ≡ suc (self.parts.lines - 1) = omega (arith, c.requires.1) in
    (c.requires.0.0, (subst (λ (m : ℕ). LinesInside self.bytes.now m self.parts.first.next) n c.requires.0.1).0)

pub loop-k-init : goal.loop-k-init
loop-k-init c = let self = c.args.self in
    let n : self.parts.lines ≡ suc (self.parts.lines - 1) = omega (arith, c.requires.1) in
    (met_start self.bytes.now self.parts _ c.requires.1 c.line_met-met.ensures, subst (λ (m : ℕ). LinesInside self.bytes.now m self.parts.first.next) n c.requires.0.1)

pub behind-at-requires : goal.behind-at-requires
behind-at-requires c = c.loop-k.invariant.1.0

pub line_met-requires : goal.line_met-requires
line_met-requires c = let self = c.args.self in
    let loop = c.loop-k in
    let n : self.parts.lines - loop.k ≡ suc (self.parts.lines - (loop.k + 1)) = search rules in
    let rest = subst (λ (m : ℕ). LinesInside self.bytes.now m (behind_at self.bytes.now loop.at)) n loop.invariant.1.1 in
    (c.requires.0.0, subst (ChartLineInside self.bytes.now) (sym c.behind-at.ensures) rest.0)

pub loop-k-preserved : goal.loop-k-preserved
loop-k-preserved c = let self = c.args.self in
    let loop = c.loop-k in
    let n : self.parts.lines - loop.k ≡ suc (self.parts.lines - (loop.k + 1)) = search rules in
    let rest = subst (λ (m : ℕ). LinesInside self.bytes.now m (behind_at self.bytes.now loop.at)) n loop.invariant.1.1 in (
      met-turn self.bytes.now self.parts loop.k loop.at c.behind-at.result (tested_of loop.met) _ _ _ (search rules) c.behind-at.ensures c.line_met.ensures c.earlier-met.ensures loop.invariant.0,
      subst (LinesInside self.bytes.now (suc (self.parts.lines - (loop.k + 1)))) (sym c.behind-at.ensures) rest,
    )

pub returns : goal.returns
returns c = let self = c.args.self in
    let loop = c.loop-k in
    met_done self.bytes.now self.parts loop.k loop.at (tested_of loop.met) _ (search rules) loop.invariant.0
    ∙ sym (ap (λ (l : List ChartLine). lines_met (chart_seen self) l 2) (lines_of self.bytes.now self.parts))
