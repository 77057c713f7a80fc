-- The words that a step moves, in three rows. Assumes nothing.
use mathlib.Core.Path.{ap, ◌∙◌}
use Rattle.words.specs.Words.{is_state}
use Rattle.words.proofs.Laws.{rows_are, moved_state_lem}
use Rattle.words.proofs.move_state.Goals as goal

pub returns : goal.returns
returns c = let w = c.args.w.now in
    let words = c.state_words-words in
    let moved = rows_are w words.result c.args.st words.ensures.0 c.put.ensures c.put-2.ensures in
    record { w_after = moved; w_after_2 = λ t. ap is_state moved ∙ moved_state_lem w c.args.st words.ensures.1 words.ensures.2 t }
