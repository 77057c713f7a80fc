-- `report` is report_def: the left nodes' regions, the merged list and its marks. Assumes nothing.
use borrow.Author.Rules.{rules}
use mathlib.Core.Path.{sym, ap, ◌∙◌}
use borrow.Author.Tests.{not-false}
use Rattle.states.specs.States.{memory, sizes, search_with}
use Rattle.nodes.specs.Nets.{geometry}
use Rattle.report.specs.Reports.{output}
use Rattle.report.proofs.Laws.{room-left, few_marks, report_told}
use Rattle.report.proofs.report.Goals as goal

pub list_left-requires : goal.list_left-requires
list_left-requires c = let args = c.args in
    let room = room-left args.st _ (sizes (memory args.nets1.now args.nets2.now args.ranges.now args.depths.now args.raw.now)) _ _ (sym c.has_room.ensures ∙ not-false _ c.if-not-has_room.false-raw) (sym c.has_report_room.ensures ∙ not-false _ c.if-not-has_report_room.false-raw) (sym c.is_search.ensures ∙ not-false _ c.if-not-is_search.false-raw) in
    (room.nets1, room.nets2, room.ranges, room.raw)

pub merged-n-requires : goal.merged-n-requires
merged-n-requires c = let args = c.args in
    let room = room-left args.st _ (sizes (memory args.nets1.now args.nets2.now args.ranges.now args.depths.now args.raw.now)) _ _ (sym c.has_room.ensures ∙ not-false _ c.if-not-has_room.false-raw) (sym c.has_report_room.ensures ∙ not-false _ c.if-not-has_report_room.false-raw) (sym c.is_search.ensures ∙ not-false _ c.if-not-is_search.false-raw) in
    (let r = room.raw in search rules, room.slice)

pub mark-requires : goal.mark-requires
mark-requires c = let args = c.args in
    let room = room-left args.st _ (sizes (memory args.nets1.now args.nets2.now args.ranges.now args.depths.now args.raw.now)) _ _ (sym c.has_room.ensures ∙ not-false _ c.if-not-has_room.false-raw) (sym c.has_report_room.ensures ∙ not-false _ c.if-not-has_report_room.false-raw) (sym c.is_search.ensures ∙ not-false _ c.if-not-is_search.false-raw) in
    let few = few_marks args.st _ _ (search rules) (search rules) room c.merged-n.ensures.value in
    (few.0, (let f = few.1 in search rules), few.2)

pub returns : goal.returns
returns c = let args = c.args in
    report_told geometry args.st (memory args.nets1.now args.nets2.now args.ranges.now args.depths.now args.raw.now) (output args.out.now args.marks.now)
    (sym c.ended.ensures ∙ not-false _ c.if-not-ended.false-raw)
    (sym c.has_room.ensures ∙ not-false _ c.if-not-has_room.false-raw)
    (sym c.has_report_room.ensures ∙ not-false _ c.if-not-has_report_room.false-raw)
    (ap (search_with args.st.tally) (sym c.top_depth.ensures) ∙ (sym c.is_search.ensures ∙ not-false _ c.if-not-is_search.false-raw))
    _ _ _ _ _ _ _ _ c.word_of.ensures c.result.ensures c.list_left.ensures
    c.merged-n.ensures.value c.merged-n.ensures.out_after
    c.seam_on.ensures c.seam_on-2.ensures c.mark.ensures
