-- `insert` puts region k in its place. The invariant, Inserting, says that inserting behind j gives the wanted list; the measure is how many are behind. Assumes nothing.
use mathlib.Core.Path.{refl}
use borrow.Author.Rules.{rules}
use Rattle.regions.proofs.Sorting.{insert_turn, stop_end, stop_here, insert_done}
use Rattle.regions.proofs.insert.Goals as goal
use Rattle.regions.proofs.insert.Goals.{then-loop-j-test+else-out-j, else-loop-j-test}

pub loop-j-init : goal.loop-j-init
loop-j-init c = record { same = refl; at = search rules; follows = refl; rest = refl }

pub loop-j-preserved : goal.loop-j-preserved
loop-j-preserved c = let y = c.load in
    insert_turn _ _ _ _ _ _ c.loop-j.invariant (search rules) _
    y.result c.loop-j-test.true
    c.if-out-j.true y.ensures c.store.ensures

pub returns : goal.returns
returns c =
    let p = c.loop-j.invariant in
    let q = insert_done _ _ _ _ _ _ p (search rules) _ _
    (elim c.loop-j-test.branch [
      | then-loop-j-test+else-out-j w ↦ stop_here _ _ _ _ _ _ p (search rules) w.loop-j-test.true w.if-out-j.false
      | else-loop-j-test w ↦ stop_end _ _ _ _ _ _ p (search rules) w.loop-j-test.false
    ])
    c.store-2.ensures c.load-r.ensures in
    record { out_after = q.0; out_unchanged = q.1 }
