-- A part, by the tests at its word: no word, another kind, a bad count, too few bytes, or found. Assumes nothing.
use borrow.Author.Rules.{rules}
use mathlib.Core.Path.{sym, ◌∙◌}
use Prim.Native.Nat.{◌+◌, ◌%◌}
use native.Mathlib.Omega.{arith}
use Rattle.walks.specs.declared.SheetError.TheVariants.{BadWord, BadEnd}
use Rattle.walks.proofs.Walks.{part_refused, part_found, no_word, other_kind, wrong_count, too_long, found, found_is}
use Rattle.walks.proofs.part_after.Goals as goal
use Rattle.walks.proofs.part_after.Goals.{then-w-kind-via-then-w-kind, then-w-kind-via-else-w-kind+then-bad_count}

pub returns-then-s-at-lt4 : goal.returns-then-s-at-lt4
returns-then-s-at-lt4 c = part_refused BadEnd (no_word c.args.s.now c.args.kind c.args.at (search rules) c.if-s-at-lt4.true)

pub returns-then-w-kind : goal.returns-then-w-kind
returns-then-w-kind c = let args = c.args in
    part_refused BadWord (elim c.then-w-kind.branch [
      | then-w-kind-via-then-w-kind w ↦ other_kind args.s.now args.kind args.at c.word-w.result c.word-w.ensures.0 c.if-s-at-lt4.false w.if-w-kind.true
      | then-w-kind-via-else-w-kind+then-bad_count w ↦
          wrong_count args.s.now args.kind args.at c.word-w.result c.word-w.ensures.0 c.if-s-at-lt4.false w.if-w-kind.false (sym w.bad_count.ensures ∙ w.if-bad_count.true)
    ])

pub returns-then-s-from : goal.returns-then-s-from
returns-then-s-from c = let args = c.args in
    part_refused BadEnd (too_long args.s.now args.kind args.at c.word-w.result c.word-w.ensures.0 c.if-s-at-lt4.false c.if-w-kind.false
    c.size-room.result c.size-room.ensures.0 (sym c.bad_count.ensures ∙ c.if-bad_count.false) c.if-s-from.true)

pub returns : goal.returns
returns c = let args = c.args in
    part_found (record { count = c.word-w.result % 268435456; at = args.at + 4; next = args.at + 4 + c.size-room.result })
    (found args.s.now args.kind args.at c.word-w.result c.word-w.ensures.0 c.if-s-at-lt4.false c.if-w-kind.false
    c.size-room.result c.size-room.ensures.0 (sym c.bad_count.ensures ∙ c.if-bad_count.false) c.if-s-from.false) (record {
      before = search rules;
      few = search rules;
      fits = omega (arith, c.size-room.ensures.0, c.if-s-from.false);
      is = found_is args.s.now args.kind args.at c.word-w.result c.size-room.result c.word-w.ensures.0 c.size-room.ensures.0;
    })
