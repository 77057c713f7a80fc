-- `merged` writes the report: gathered, sorted, filled up. Assumes nothing.
use mathlib.Core.Path.{◌≡◌}
use Prim.Native.Nat.{◌-◌, ◌*◌}
use lib.ListN.{replicate}
use Rattle.floats.specs.Floats.{zero64}
use Rattle.regions.proofs.Laws.{filled}
use Rattle.regions.proofs.Reports.{merged_done}
use borrow.Author.Rules.{rules}
use Rattle.regions.proofs.merged.Goals as goal

pub returns : goal.returns
returns c = let g = c.gather-m.ensures in
    let s = c.sort.ensures in
    let k = c.args.n * 10 - c.gather-m.result * 10 in
    let z : c.fill.new.self ≡ replicate k zero64 = search rules in
    let done = merged_done c.args.raw.now c.args.out.now c.gather-m.new.out c.sort.new.out _ c.args.n c.gather-m.result (search rules) g.0 g.1 g.2 s.0 s.1
    (filled zero64 (c.gather-m.result * 10) k c.sort.new.out c.fill.new.self z) in
    record { value = done.0; out_after = done.1 }
