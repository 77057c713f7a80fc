-- The words of a state copied in. Assumes nothing.
use mathlib.Core.Path.{ap, ◌∙◌}
use mathlib.Core.List.{List}
use Prim.Native.Nat.{ℕ}
use Rattle.lists.specs.Parts.{patch}
use Rattle.words.specs.Words.{is_state}
use Rattle.words.proofs.Laws.{written_state}
use Rattle.words.proofs.put_state.Goals as goal

pub returns : goal.returns
returns c = let args = c.args in
    let w = args.w.now in
    let s = c.state_words-words in
    let e = c.put_words.ensures ∙ ap (λ (l : List ℕ). patch w 0 l) s.ensures.0 in
    record { w_after = e; w_after_2 = λ f g. ap is_state e ∙ written_state w args.st s.ensures.1 s.ensures.2 f g }
