-- The state that words are, one field a word. Assumes nothing.
use Rattle.words.proofs.Laws.{state_is}
use Rattle.words.proofs.read_state.Goals as goal

pub returns : goal.returns
returns c = let args = c.args in
    state_is args.w.now c.read_tally.ensures c.float.ensures c.read_terms.ensures
