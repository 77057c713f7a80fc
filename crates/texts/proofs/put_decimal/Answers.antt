-- A number in decimal digits, as many as it has. Assumes nothing.
use native.Mathlib.Omega.{arith}
use Rattle.texts.proofs.Laws.{decimal_is, decimal_length}
use Rattle.texts.proofs.put_decimal.Goals as goal

pub returns : goal.returns
returns c = let args = c.args in
    let places = c.places-k in (
      omega (arith, decimal_length args.n, places.ensures.0),
      decimal_is args.out.now args.at places.result args.n places.ensures.0 c.put_digits.ensures,
    )
