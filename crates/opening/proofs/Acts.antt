-- What each test of the first act decides, and that the opening is one act after the other. Assumes nothing.
use mathlib.Core.Path.{◌≡◌, refl, sym, ap, subst, ◌∙◌}
use mathlib.Core.Bool.{Bool, true, false, cond, false≢true}
use mathlib.Core.List.{List}
use Prim.Native.Nat.{ℕ, ◌+◌, ◌≤◌}
use lib.ListN.{length}
use lib.Ieee.{Float}
use borrow.Author.Tests.{leb-true}
use Rattle.std.specs.Prelude.{Result, Ok, Err, is_ok}
use Rattle.std.proofs.lemmas.Bool.{and_parts}
use Rattle.verdicts.specs.declared.Side.TheVariants.{First, Second}
use Rattle.lines.specs.declared.LineError.{LineError}
use Rattle.lines.specs.Admit.{admit_of}
use Rattle.lines.specs.Lines.{Question}
use Rattle.lines.specs.Data.{one_datum}
use Rattle.questions.specs.declared.QuestionError.{QuestionError}
use Rattle.questions.specs.Questions.{ask_of}
use Rattle.curves.specs.Curves.{piece_count}
use Rattle.states.specs.declared.State.{State}
use Rattle.states.specs.States.{Memory, sizes, needed, enough, first_state}
use Rattle.opening.specs.declared.OpenError.{OpenError}
use Rattle.opening.specs.declared.OpenError.TheVariants.{BadLine, BadDatum, BadQuestion, NoRoom}
use Rattle.opening.specs.Asked.{pairs_of, start, state_of}
use Rattle.opening.specs.Opens.{terms_of, search_for, refused_or, pieces_need, pieces_fit, Pushing, pushing, Opening, opening, open_pieces, open_def}
use Rattle.opening.specs.Examines.{tests_of, Examining, examined_by, examine_def, after_examined, TwoActs, SamePairs, LentByPairs}
use Rattle.opening.proofs.Laws.{few_splits, few_pieces, start_state}

-- an answer that is told is no refusal
abbrev pub failed : {A E C : Type 0} {x : A} {e : E} → ◌≡◌ {A = Result A E} (Err e) (Ok x) → C
failed h = absurd (false≢true (ap is_ok h))

module _ (q : Question) (p1 p2 : List Float) where
  abbrev pub Passed : Type 0
  Passed = (admit_of q.line1 ≡ Ok tt) × (admit_of q.line2 ≡ Ok tt) × (one_datum q.line1.datum q.line2.datum ≡ true) × (ask_of q ≡ Ok tt) × (pieces_fit q p1 p2 ≡ true)

  pub all_true : tests_of q p1 p2 ≡ Ok tt → Passed
  all_true e = go (admit_of q.line1) (admit_of q.line2) (one_datum q.line1.datum q.line2.datum) (ask_of q) (pieces_fit q p1 p2) e
    where
      go : (a b : Result Unit LineError) (n : Bool) (c : Result Unit QuestionError) (d : Bool)
          → ◌≡◌ {A = Result Unit OpenError} (refused_or a (λ e. Err (BadLine First e)) (refused_or b (λ e. Err (BadLine Second e))
          (cond n (refused_or c (λ e. Err (BadQuestion e)) (cond d (Ok tt) (Err NoRoom))) (Err BadDatum)))) (Ok tt)
          → (a ≡ Ok tt) × (b ≡ Ok tt) × (n ≡ true) × (c ≡ Ok tt) × (d ≡ true)
      go (Ok x) (Ok y) true (Ok z) true e = (refl, refl, refl, refl, refl)
      go (Ok x) (Ok y) true (Ok z) false e = failed e
      go (Ok y) (Ok z) true (Err x) d e = failed e
      go (Ok x) (Ok y) false c d e = failed e
      go (Ok y) (Err x) n c d e = failed e
      go (Err x) b n c d e = failed e

  -- what the pieces are written with: both lines are admitted, their pieces have room and are at most 255
  pub all_passed : Ok tt ≡ tests_of q p1 p2
      → ((admit_of q.line1 ≡ Ok tt) × (pieces_need q.line1 q.lo1 q.hi1 ≤ length p1) × (piece_count q.line1 q.lo1 q.hi1 ≤ 255))
      × (((admit_of q.line2 ≡ Ok tt) × (pieces_need q.line2 q.lo2 q.hi2 ≤ length p2) × (piece_count q.line2 q.lo2 q.hi2 ≤ 255)) × (q.splits ≤ 256))
  all_passed e =
      let (a, b, n, g, h) = all_true (sym e) in
      let few = few_pieces q a b g in
      let fit = and_parts _ _ h in
      ((a, leb-true _ _ fit.0, few.0), ((b, leb-true _ _ fit.1, few.1), few_splits q g))

  -- ---- the opening, and the first act, by what the tests found
  abbrev pub opened_by : Memory → Result Unit OpenError → Opening
  opened_by u (Ok passed) = open_pieces q p1 p2 u
  opened_by u (Err e) = opening (Err e) p1 p2 u

  pub opened_by_lem : (u : Memory) → opened_by u (tests_of q p1 p2) ≡ open_def q p1 p2 u
  opened_by_lem u = go (admit_of q.line1) (admit_of q.line2) (one_datum q.line1.datum q.line2.datum) (ask_of q) (pieces_fit q p1 p2)
    where
      go : (a b : Result Unit LineError) (n : Bool) (c : Result Unit QuestionError) (d : Bool)
          → opened_by u (refused_or a (λ e. Err (BadLine First e)) (refused_or b (λ e. Err (BadLine Second e))
          (cond n (refused_or c (λ e. Err (BadQuestion e)) (cond d (Ok tt) (Err NoRoom))) (Err BadDatum))))
          ≡ refused_or a (λ e. opening (Err (BadLine First e)) p1 p2 u) (refused_or b (λ e. opening (Err (BadLine Second e)) p1 p2 u)
          (cond n (refused_or c (λ e. opening (Err (BadQuestion e)) p1 p2 u) (cond d (open_pieces q p1 p2 u) (opening (Err NoRoom) p1 p2 u)))
          (opening (Err BadDatum) p1 p2 u)))
      go (Ok x) (Ok y) true (Ok z) true = refl
      go (Ok x) (Ok y) true (Ok z) false = refl
      go (Ok y) (Ok z) true (Err x) d = refl
      go (Ok x) (Ok y) false c d = refl
      go (Ok y) (Err x) n c d = refl
      go (Err x) b n c d = refl

  pub opened_is : (u : Memory) (t : Result Unit OpenError) {o : Opening} → t ≡ tests_of q p1 p2 → o ≡ opened_by u t → o ≡ open_def q p1 p2 u
  opened_is u t e h = h ∙ ap (opened_by u) e ∙ opened_by_lem u

  pub examined_is : (t : Result Unit OpenError) {x : Examining} → t ≡ tests_of q p1 p2 → x ≡ examined_by q p1 p2 t → x ≡ examine_def q p1 p2
  examined_is t e h = h ∙ ap (examined_by q p1 p2) e

  -- ---- one act after the other
  acts : (u : Memory) (t : Result Unit OpenError) → opened_by u t ≡ after_examined q u (examined_by q p1 p2 t)
  acts u (Ok passed) = refl
  acts u (Err e) = refl

  -- ---- P
  abbrev pairs_in : Result State OpenError → ℕ
  pairs_in (Ok x) = x.tally.pairs
  pairs_in (Err e) = 0

  pairs_pushed : (u : Memory) (x : State) → (open_pieces q p1 p2 u).answer ≡ Ok x → pairs_of (search_for q) ≡ x.tally.pairs
  pairs_pushed u x e = go (enough (needed (state_of (search_for q) (start (search_for q)))) (sizes u)) _ e
    where
      go : (b : Bool) (m : Memory) → (cond {A = Pushing} b (pushing (Ok (state_of (search_for q) (start (search_for q)))) m) (pushing (Err NoRoom) u)).answer ≡ Ok x
          → pairs_of (search_for q) ≡ x.tally.pairs
      go true m e = ap pairs_in e
      go false m e = failed e

  same : (u : Memory) (x : State) (t : Result Unit OpenError) → (opened_by u t).answer ≡ Ok x → (examined_by q p1 p2 t).answer ≡ Ok x.tally.pairs
  same u x (Ok passed) e = ap Ok (pairs_pushed u x e)
  same u x (Err f) e = failed e

  abbrev told_pairs : Result ℕ OpenError → ℕ
  told_pairs (Ok n) = n
  told_pairs (Err e) = 0

  was_told : (n : ℕ) (t : Result Unit OpenError) → (examined_by q p1 p2 t).answer ≡ Ok n → (t ≡ Ok tt) × (pairs_of (search_for q) ≡ n)
  was_told n (Ok passed) e = (refl, ap told_pairs e)
  was_told n (Err f) e = failed e

  -- with another two slices for the pieces
  told_opens : (n : ℕ) → (examine_def q p1 p2).answer ≡ Ok n → (a b : List Float) (u : Memory) → pieces_fit q a b ≡ true
      → enough (needed (first_state n q.splits (q.line1.degree + 1) (q.line2.degree + 1) q.gap (terms_of q))) (sizes u) ≡ true
      → (open_def q a b u).answer ≡ Ok (first_state n q.splits (q.line1.degree + 1) (q.line2.degree + 1) q.gap (terms_of q))
  told_opens n e a b u fit room =
      let (p, k) = was_told n (tests_of q p1 p2) e in
      let (x, y, d, g, h) = all_true p in
      let s : first_state n q.splits (q.line1.degree + 1) (q.line2.degree + 1) q.gap (terms_of q) ≡ state_of (search_for q) (start (search_for q)) =
      ap (λ (m : ℕ). first_state m q.splits (q.line1.degree + 1) (q.line2.degree + 1) q.gap (terms_of q)) (sym k) ∙ start_state q in
      rw (x, y, d, g, fit, subst (λ (z : State). enough (needed z) (sizes u) ≡ true) s room) (ap Ok (sym s))

pub two_acts : TwoActs
two_acts q p1 p2 u = sym (opened_by_lem q p1 p2 u) ∙ acts q p1 p2 u (tests_of q p1 p2)

pub same_pairs : SamePairs
same_pairs q p1 p2 u x e = same q p1 p2 u x (tests_of q p1 p2) (ap (λ (o : Opening). o.answer) (opened_by_lem q p1 p2 u) ∙ e)

pub lent_by_pairs : LentByPairs
lent_by_pairs q p1 p2 n e a b u = told_opens q p1 p2 n e a b u
