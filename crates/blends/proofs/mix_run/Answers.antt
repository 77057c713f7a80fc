-- `mix_run` is a round in place from `at` on. Assumes nothing.
use mathlib.Core.Path.{refl, sym}
use mathlib.Core.List.{append-nil}
use lib.ListN.{length-drop, drop}
use lib.Seq.{take-length, drop-length}
use borrow.Author.Rules.{rules}
use Rattle.blends.specs.Blends.{mix_of}
use Rattle.blends.proofs.mix_run.Goals as goal

pub returns : goal.returns
returns c = let a = c.args in
    let l = drop a.at a.s.now in
    let e = c.pair_round.ensures (mix_of a.alpha) (search rules) in
    rw (e, sym (length-drop a.at a.s.now), take-length l, drop-length l, append-nil) refl
