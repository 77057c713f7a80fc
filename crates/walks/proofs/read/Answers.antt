-- `read` fills with the values one behind the other. Assumes nothing.
use borrow.Author.Rules.{rules}
use mathlib.Core.Path.{refl, ap, ◌∙◌}
use Prim.Native.Nat.{◌+◌, ◌*◌}
use lib.ListN.{length}
use Rattle.lists.specs.Parts.{part}
use Rattle.lists.proofs.Parts.{part_is}
use Rattle.walks.specs.Words.{values_from}
use Rattle.walks.proofs.Laws.{read_start, read_turn, read_done, values_length, values_whole}
use Rattle.walks.proofs.read.Goals as goal

pub loop-i-init : goal.loop-i-init
loop-i-init g c = let args = c.args in
    (refl, λ j h. read_start (values_from j args.w args.s.now) args.w args.out.now args.at (length args.out.now))

pub loop-i-preserved : goal.loop-i-preserved
unfolding values_from
loop-i-preserved g c = let args = c.args in
    let loop = c.loop-i in (
      search rules,
      λ j h. read_turn (values_from j args.w args.s.now) (λ a. j (part a args.w args.s.now)) args.w (λ a n. refl) (values_length j args.w args.s.now)
          loop.out args.at (length args.out.now) loop.i c.value.result (search rules) (search rules)
          (h _ _ c.value.ensures ∙ ap j (part_is (args.at + args.w * loop.i) args.w args.s.now)) ∙ loop.invariant.1 j h,
    )

pub returns : goal.returns
unfolding values_from
returns g c = let args = c.args in
    λ j h. read_done (values_from j args.w args.s.now) args.w (λ a. refl) c.loop-i.out args.at (length args.out.now) c.loop-i.i (search rules) (c.loop-i.invariant.1 j h)
    ∙ values_whole args.out.now _ (values_length j args.w args.s.now args.at (length args.out.now))
