-- The opening is its two acts one after the other, so what the first tells and refuses is the opening's. Assumes nothing.
use mathlib.Core.Path.{◌≡◌, refl, sym, ap, ◌∙◌}
use mathlib.Core.List.{List, [], ◌∷◌}
use Prim.Native.Nat.{ℕ, ◌+◌, ◌≤◌}
use native.Mathlib.Omega.{arith}
use borrow.Author.Tests.{le-leb}
use lib.ListN.{length, get_or, set}
use lib.Ieee.{Float}
use Rattle.std.specs.Prelude.{Result, Ok, Err}
use Rattle.lines.specs.Lines.{Question}
use Rattle.states.specs.declared.State.{State}
use Rattle.states.specs.States.{Memory, sizes, needed, enough, first_state}
use Rattle.opening.specs.declared.OpenError.{OpenError}
use Rattle.opening.specs.Opens.{terms_of, Opening, open_def}
use Rattle.opening.specs.Examines.{push_after, examine_def}
use Rattle.opening.proofs.Acts.{two_acts, same_pairs, lent_by_pairs}
use Rattle.lovgurshem.specs.Answers.{open_answer, opened_words, examined_words}
use Rattle.lovgurshem.specs.Calls.{OpenCall, opened, call_open, ExamineCall, examined, call_examine}
use Rattle.lovgurshem.specs.Told.{PairsTold, SameRefusal, LentEnough}
use Rattle.lovgurshem.proofs.Laws.{no_zero}

-- ---- the calls with words enough
open_call_lem : (q : Question) (p1 p2 : List Float) (u : Memory) (ws : List ℕ) → 23 ≤ length ws → call_open q p1 p2 u ws ≡ opened ws (open_def q p1 p2 u)
unfolding call_open
open_call_lem q p1 p2 u ws h = rw (le-leb 23 (length ws) h) refl

examine_call_lem : (q : Question) (p1 p2 : List Float) (ps : List ℕ) → 1 ≤ length ps → call_examine q p1 p2 ps ≡ examined ps (examine_def q p1 p2)
unfolding call_examine
examine_call_lem q p1 p2 ps h = rw (le-leb 1 (length ps) h) refl

set_first : (l : List ℕ) (n : ℕ) → 1 ≤ length l → get_or (set l 0 n) 0 0 ≡ n
set_first [] n h = absurd (omega arith)
set_first (x ∷ l) n h = refl

-- ---- 0 is no refusal's number
was_ok : {A C : Type 0} (r : Result A OpenError) → open_answer r ≡ 0 → ((x : A) → r ≡ Ok x → C) → C
was_ok (Ok x) z f = f x refl
was_ok (Err e) z f = absurd (no_zero e z)

handed_on : (q : Question) (u : Memory) (a b : List Float) (r : Result ℕ OpenError) → (open_answer r ≡ 0 → ⊥) → open_answer (push_after q u r a b).answer ≡ open_answer r
handed_on q u a b (Ok n) d = absurd (d refl)
handed_on q u a b (Err e) d = refl

-- ---- the statements
module _ (q : Question) (p1 p2 : List Float) (ps : List ℕ) (k : 1 ≤ length ps) where
  -- what is told where P is n
  told_number : (n : ℕ) → (examine_def q p1 p2).answer ≡ Ok n → (call_examine q p1 p2 ps).number ≡ 0
  told_number n e = ap (λ (c : ExamineCall). c.number) (examine_call_lem q p1 p2 ps k) ∙ ap open_answer e

  told-word : (n : ℕ) → (examine_def q p1 p2).answer ≡ Ok n → get_or (call_examine q p1 p2 ps).words 0 0 ≡ n
  told-word n e =
      ap (λ (c : ExamineCall). get_or c.words 0 0) (examine_call_lem q p1 p2 ps k) ∙ ap (λ (a : Result ℕ OpenError). get_or (examined_words ps a) 0 0) e ∙ set_first ps n k

pub pairs_told : PairsTold
pairs_told q p1 p2 u ws ps h k z =
    was_ok (open_def q p1 p2 u).answer (sym (ap (λ (c : OpenCall). c.number) (open_call_lem q p1 p2 u ws h)) ∙ z) (λ x e.
    let f = same_pairs q p1 p2 u x e in
    let first = ap (λ (c : OpenCall). get_or c.words 0 0) (open_call_lem q p1 p2 u ws h) ∙ ap (λ (o : Result State OpenError). get_or (opened_words ws o) 0 0) e in
    (told_number q p1 p2 ps k x.tally.pairs f, told-word q p1 p2 ps k x.tally.pairs f ∙ sym first))

pub same_refusal : SameRefusal
same_refusal q p1 p2 u ws ps h k d =
    let e = examine_def q p1 p2 in
    let number = ap (λ (c : ExamineCall). c.number) (examine_call_lem q p1 p2 ps k) in
    ap (λ (c : OpenCall). c.number) (open_call_lem q p1 p2 u ws h) ∙ ap (λ (o : Opening). open_answer o.answer) (two_acts q p1 p2 u)
    ∙ handed_on q u e.pieces1 e.pieces2 e.answer (λ z. d (number ∙ z)) ∙ sym number

pub lent-enough : LentEnough
lent-enough q p1 p2 ps k z a b u ws h fit room =
    was_ok (examine_def q p1 p2).answer (sym (ap (λ (c : ExamineCall). c.number) (examine_call_lem q p1 p2 ps k)) ∙ z) (λ n f.
    let x : ℕ → State = λ m. first_state m q.splits (q.line1.degree + 1) (q.line2.degree + 1) q.gap (terms_of q) in
    let lent = sym (ap (λ (m : ℕ). enough (needed (x m)) (sizes u)) (told-word q p1 p2 ps k n f)) ∙ room in
    ap (λ (c : OpenCall). c.number) (open_call_lem q a b u ws h) ∙ ap open_answer (lent_by_pairs q p1 p2 n f a b u fit lent))
