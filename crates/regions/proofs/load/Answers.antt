-- `load` reads the region of ten floats: ten reads in a row. Assumes nothing.
use Prim.Native.Nat.{◌*◌}
use Rattle.regions.proofs.Laws.{ten_read}
use Rattle.regions.proofs.load.Goals as goal

pub returns : goal.returns
returns c = let args = c.args in
    ten_read args.s.now (args.i * 10)
