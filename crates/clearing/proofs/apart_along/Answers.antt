-- `apart_along` is apart_along: the extents and the length, put together; extents that meet without the length. Assumes nothing.
use mathlib.Core.Path.{◌∙◌, sym}
use borrow.Author.Tests.{not-true}
use Rattle.clearing.proofs.Laws.{apart_along_is, meeting_is}
use Rattle.clearing.proofs.apart_along.Goals as goal

pub returns-then-not-ranges_apart : goal.returns-then-not-ranges_apart
returns-then-not-ranges_apart c = let a = c.args in
    let p = c.extent-a in
    let q = c.extent-b in
    meeting_is a.axis a.gap a.p.now a.q.now p.result q.result p.ensures q.ensures c.if-gap.true
    (sym c.ranges_apart.ensures ∙ not-true _ c.if-not-ranges_apart.true-raw)

pub returns : goal.returns
returns c = let a = c.args in
    let p = c.extent-a in
    let q = c.extent-b in
    c.ranges_apart-2.ensures
    ∙ apart_along_is a.axis a.gap c.norm.result a.p.now a.q.now p.result q.result c.norm.ensures
    p.ensures q.ensures
