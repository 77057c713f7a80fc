-- `nets` fills, one net a turn; behind them nothing changes. Assumes nothing.
use mathlib.Core.Path.{◌≡◌}
use mathlib.Core.List.{◌++◌}
use Prim.Native.Nat.{◌+◌, ◌*◌}
use lib.ListN.{take, drop}
use Rattle.pieces.specs.Pieces.{nets_of}
use Rattle.pieces.proofs.nets.Given as goal

abbrev pub invariant-loop-i : goal.invariant-loop-i
invariant-loop-i l = record {
  same : drop (l.i * (4 * (l.s.p + 1))) l.out ≡ drop (l.i * (4 * (l.s.p + 1))) l.initial.out;
  made : take (l.i * (4 * (l.s.p + 1))) l.out ++ nets_of l.s.closed l.s.p l.s.knots.now l.s.flat.now l.s.poles.now (drop l.i l.breaks)
      ≡ nets_of l.s.closed l.s.p l.s.knots.now l.s.flat.now l.s.poles.now l.breaks;
}
