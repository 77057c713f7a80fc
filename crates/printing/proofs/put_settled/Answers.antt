-- Four counts behind each other. Assumes nothing.
use borrow.Author.Rules.{rules}
use native.Mathlib.Omega.{arith}
use Rattle.printing.proofs.Laws.{settled_are}
use Rattle.printing.proofs.put_settled.Goals as goal

pub put_count-requires : goal.put_count-requires
put_count-requires c = let b = c in
    omega (
      arith,
      b.requires,
      b.put_count-settled.ensures.upper_bound,
      b.put_count-boxes.ensures.upper_bound,
      c.put_count-planes.ensures.upper_bound,
    )

pub returns : goal.returns
returns c = let b = c in
    let args = b.args in
    record {
      wrote = (settled_are args.out.now args.at args.c (search rules)
          (b.put_count-settled.ensures.wrote, b.put_count-settled.ensures.upper_bound) (b.put_count-boxes.ensures.wrote, b.put_count-boxes.ensures.upper_bound)
          (c.put_count-planes.ensures.wrote, c.put_count-planes.ensures.upper_bound) (c.put_count.ensures.wrote, c.put_count.ensures.upper_bound)).0;
      upper_bound = (settled_are args.out.now args.at args.c (search rules)
          (b.put_count-settled.ensures.wrote, b.put_count-settled.ensures.upper_bound) (b.put_count-boxes.ensures.wrote, b.put_count-boxes.ensures.upper_bound)
          (c.put_count-planes.ensures.wrote, c.put_count-planes.ensures.upper_bound) (c.put_count.ensures.wrote, c.put_count.ensures.upper_bound)).1;
    }
