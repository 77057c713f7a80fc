-- Each read takes the next bytes and puts them behind those that are there; one that is interrupted takes none.
use Rattle.std.proofs.Common.{◌-◌, length, rules}
use Rattle.streams.proofs.Fronts.{reads_more, reads_none}
use Rattle.streams.proofs.read_on.Goals as goal
use Rattle.streams.proofs.read_on.Goals.{in-Ok, in-Err+else-ne}

pub loop-preserved : goal.loop-preserved
loop-preserved g c =
    let before = c.loop.invariant in
    let room = length c.loop.buf - c.loop.done in
    elim c.match-read.branch [
      | in-Ok w ↦ (
        search rules,
        search rules,
        reads_more _ _ _ c.loop.done room w.in-Ok.n _ c.loop.buf c.read.new.buf before.1 w.in-Ok.ensures.bound.0 w.done-is before.2 w.in-Ok.ensures.bytes.0,
      )
      | in-Err+else-ne w ↦ (
        search rules,
        search rules,
        reads_none _ _ _ c.loop.done room _ c.loop.buf c.read.new.buf before.1 w.done-is before.2 w.in-Err.ensures.bytes,
      )
    ]
