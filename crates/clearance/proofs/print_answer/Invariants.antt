-- The answer written in instalments: each lies in the buffer, and those so far and those to come are the answer. Assumes nothing.
use Rattle.std.proofs.Common.{◌≡◌, ◌≤◌, length}
use Rattle.sheet.specs.Answers.{longest}
use Rattle.clearance.proofs.Writing.{Written}
use Rattle.clearance.proofs.print_answer.Given as goal

abbrev pub invariant-loop-k : goal.invariant-loop-k
invariant-loop-k g l = record {
  room : length l.out ≡ length l.initial.out;
  written : longest ≤ length l.initial.out → Written (g.W.Write.contents l.initial.to) (g.W.Write.contents l.to) l.s l.k l.good;
}
