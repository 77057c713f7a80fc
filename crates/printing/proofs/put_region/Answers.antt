-- A region's line, part behind part. Assumes nothing.
use borrow.Author.Rules.{rules}
use Rattle.printing.proofs.Laws.{region_is}
use Rattle.printing.proofs.put_region.Goals as goal

pub returns : goal.returns
returns c = let count = c in
    let floats = count in
    let bytes = floats in
    let args = bytes.args in
    record {
      wrote = (region_is args.out.now args.at args.region.now args.mark (search rules) (search rules)
          bytes.put_bytes-floats.ensures (floats.put_floats-place.ensures.wrote, floats.put_floats-place.ensures.value) (count.put_count-end.ensures.wrote, count.put_count-end.ensures.upper_bound) c.put_bytes.ensures).0;
      upper_bound = (region_is args.out.now args.at args.region.now args.mark (search rules) (search rules)
          bytes.put_bytes-floats.ensures (floats.put_floats-place.ensures.wrote, floats.put_floats-place.ensures.value) (count.put_count-end.ensures.wrote, count.put_count-end.ensures.upper_bound) c.put_bytes.ensures).1;
    }
