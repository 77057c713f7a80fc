-- The instalment behind the cursor, and the cursor behind it. Assumes nothing.
use native.Mathlib.Omega.{arith}
use Rattle.lovgurshem.proofs.Instalments.{next_done, next_none, next_some, few_given}
use Rattle.lovgurshem.proofs.lovgurshem_next.Goals as goal

pub returns-then-is_done : goal.returns-then-is_done
returns-then-is_done c = let args = c.args in
    next_done args.sheet.now args.cursor.now args.out.now (omega arith) c.is_done.ensures c.if-is_done.true

pub returns-then-i-eq0 : goal.returns-then-i-eq0
returns-then-i-eq0 c = let args = c.args in
    next_none args.sheet.now args.cursor.now args.out.now (omega arith) c.is_done.ensures c.if-is_done.false c.next-i.ensures c.if-i-eq0.true

pub overflow_add-taken : goal.overflow_add-taken
overflow_add-taken c =
    let h = few_given c.args.sheet.now _ _ c.args.out.now c.next-i.ensures c.if-i-eq0.false in
    omega (arith, h)

pub returns : goal.returns
returns c = let args = c.args in
    next_some args.sheet.now args.cursor.now args.out.now (omega arith) c.is_done.ensures c.if-is_done.false c.next-i.ensures c.if-i-eq0.false
    (omega arith) c.flags_word.ensures c.put_words.ensures
