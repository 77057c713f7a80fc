-- `next` is part_of: one return an instalment. Assumes nothing.
use mathlib.Core.Bool.{true}
use Rattle.printing.specs.Printed.{refusal_line}
use Rattle.walks.specs.declared.Sheet.TheVariants.{Pair}
use Rattle.walks.specs.Places.{sheet_error_number}
use Rattle.sheet.proofs.Reports.{refused}
use Rattle.charts.proofs.Parts.{ended_left, none_left, short, start-refused, start-chart, start-pair, later_refused, later_chart, later_pair, too_short, chart_held, walk_as, inside_as}
use Rattle.charts.proofs.next.Goals as goal

pub returns-then-out-lt162446 : goal.returns-then-out-lt162446
returns-then-out-lt162446 c = let args = c.args in
    too_short args.s.now args.k args.good args.out.now c.if-out-lt162446.true (none_left args.out.now args.good c.no_more.ensures)

pub start-requires : goal.start-requires
start-requires c = let chart = c.in-Ok-Chart in
    (c.if-out-lt162446.false, chart_held _ (walk_as c.args.s.now chart.field-0-is chart.ensures.s_value) (inside_as c.args.s.now chart.field-0-is chart.ensures.sheet_inside))

pub part-requires : goal.part-requires
part-requires c = let chart = c.in-Ok-Chart in
    (c.if-out-lt162446.false, chart_held _ (walk_as c.args.s.now chart.field-0-is chart.ensures.s_value) (inside_as c.args.s.now chart.field-0-is chart.ensures.sheet_inside))

pub pair_start-requires : goal.pair_start-requires
pair_start-requires c = let pair = c.in-Ok-Pair in
    (c.if-out-lt162446.false, short c.args.s.now (Pair pair.w) (walk_as c.args.s.now pair.field-0-is pair.ensures.s_value), inside_as c.args.s.now pair.field-0-is pair.ensures.sheet_inside)

pub returns-then-k-eq0 : goal.returns-then-k-eq0
returns-then-k-eq0 c = let args = c.args in
    let chart = c.in-Ok-Chart in
    start-chart args.s.now args.k args.good args.out.now c.if-out-lt162446.false chart.parts (walk_as c.args.s.now chart.field-0-is chart.ensures.s_value) c.if-k-eq0.true c.start.ensures

pub returns-else-k-eq0 : goal.returns-else-k-eq0
returns-else-k-eq0 c = let args = c.args in
    let chart = c.in-Ok-Chart in
    later_chart args.s.now args.k args.good args.out.now c.if-out-lt162446.false chart.parts (walk_as c.args.s.now chart.field-0-is chart.ensures.s_value) c.if-k-eq0.false c.part.ensures

pub returns-then-k-eq0-2 : goal.returns-then-k-eq0-2
returns-then-k-eq0-2 c = let args = c.args in
    let pair = c.in-Ok-Pair in
    start-pair args.s.now args.k args.good args.out.now c.if-out-lt162446.false pair.w (walk_as c.args.s.now pair.field-0-is pair.ensures.s_value) c.if-k-eq0-2.true c.pair_start.ensures

pub returns-else-k-eq0-2 : goal.returns-else-k-eq0-2
returns-else-k-eq0-2 c = let args = c.args in
    let pair = c.in-Ok-Pair in
    later_pair args.s.now args.k args.good args.out.now c.if-out-lt162446.false pair.w (walk_as c.args.s.now pair.field-0-is pair.ensures.s_value) c.if-k-eq0-2.false
    (none_left args.out.now args.good c.no_more-else-k-eq0-2.ensures)

pub returns-then-k-eq0-3 : goal.returns-then-k-eq0-3
returns-then-k-eq0-3 c = let args = c.args in
    let fault = c.in-Err in
    start-refused args.s.now args.k args.good args.out.now c.if-out-lt162446.false fault.e fault.ensures.s_value c.if-k-eq0-3.true
    (ended_left args.out.now (refusal_line (sheet_error_number fault.e) 0) true (refused args.out.now _ _ 0 c.from.ensures c.put_refusal.ensures) c.no_more-then-k-eq0-3.ensures)

pub returns-else-k-eq0-3 : goal.returns-else-k-eq0-3
returns-else-k-eq0-3 c = let args = c.args in
    let fault = c.in-Err in
    later_refused args.s.now args.k args.good args.out.now c.if-out-lt162446.false fault.e fault.ensures.s_value c.if-k-eq0-3.false
    (none_left args.out.now args.good c.no_more-else-k-eq0-3.ensures)
