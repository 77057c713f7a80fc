-- Four parts of a line, read one after the other. Assumes nothing.
use Prim.Native.Nat.{◌*◌}
use Rattle.std.specs.Int.{from_le_bytes, w32}
use Rattle.walks.proofs.Laws.{float_of, floats_front, words_front}
use Rattle.walks.proofs.read_line.Goals as goal

pub returns : goal.returns
returns c = let args = c.args in
    let l = args.l in
    let room = c.requires.count_in_bounds in (
      floats_front args.s.now l.knots.at l.knots.count args.knots.now room.0 (c.read.ensures float_of (λ _ _ p. p)),
      words_front args.s.now l.mults.at l.mults.count args.mults.now room.1 (c.read-2.ensures (from_le_bytes w32) (λ _ _ p. p)),
      floats_front args.s.now l.poles.at (3 * l.poles.count) args.coords.now room.2 (c.read-3.ensures float_of (λ _ _ p. p)),
      floats_front args.s.now l.weights.at l.weights.count args.weights.now room.3 (c.read-4.ensures float_of (λ _ _ p. p)),
    )
