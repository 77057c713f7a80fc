-- The seams that words are, one field a word. Assumes nothing.
use Rattle.words.proofs.Laws.{terms_are}
use Rattle.words.proofs.read_terms.Goals as goal

pub returns : goal.returns
returns c = let args = c.args in
    terms_are args.w.now c.float.ensures c.float-2.ensures
    c.float-3.ensures c.float-4.ensures
