-- An instalment that is written whole is the next of the answer's bytes. Assumes nothing.
use Rattle.std.proofs.Common.{refl, rules, length, ◌≤◌, arith}
use Rattle.sheet.specs.Answers.{longest}
use Rattle.clearance.proofs.Writing.{none_yet, all_written, one_more}
use Rattle.clearance.proofs.print_answer.Goals as goal

pub loop-k-init : goal.loop-k-init
loop-k-init g c = record { room = refl; written = λ h. none_yet _ _ }

pub returns-then-not-part : goal.returns-then-not-part
returns-then-not-part g c = λ e h.
    let now = c.loop-k in
    let fits : longest ≤ length now.out = omega (arith, h, now.invariant.room) in
    all_written _ _ _ _ now.k now.good now.out c.next-part.new.out c.next-part.result _ fits (search rules) (now.invariant.written h) c.next-part.ensures c.if-not-part.true
    (search rules) (c.if-not-print_part.ensures e)

pub loop-k-preserved : goal.loop-k-preserved
loop-k-preserved g c = record {
  room = search rules;
  written = λ h.
      let now = c.loop-k in
      let fits : longest ≤ length now.out = omega (arith, h, now.invariant.room) in
      one_more _ _ _ _ now.k now.good now.out c.next-part.new.out c.next-part.result _ fits (search rules) (now.invariant.written h) c.next-part.ensures c.if-not-part.false
      (search rules) (c.if-not-print_part.ensures refl);
}
