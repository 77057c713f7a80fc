-- The walk's numbers, a line's numbers, and each test of an opening on the lent memory by the table's words. Assumes nothing.
use mathlib.Core.Path.{◌≡◌, refl, sym, ap, ◌∙◌, subst}
use mathlib.Core.Logic.{inl, inr, ◌↔◌}
use mathlib.Core.List.{List, [], ◌∷◌}
use mathlib.Core.Bool.{Bool, true, false, not, cond, false≢true}
use Prim.Native.Nat.{ℕ, zero, suc, ◌+◌, ◌<◌}
use borrow.Author.Tests.{ne_eqb}
use native.Mathlib.Omega.{arith}
use lib.Dec.{ltb, eqb, lit<}
use lib.ListN.{length}
use lib.Ieee.{Float}
use Rattle.std.specs.Prelude.{Option, Some, None, Result, Ok, Err}
use Rattle.lists.specs.Members.{All}
use Rattle.verdicts.specs.declared.Side.{Side}
use Rattle.lines.specs.declared.LineError.{LineError}
use Rattle.lines.specs.Admit.{line_error_number, admit_of}
use Rattle.lines.specs.Lines.{Line, Question}
use Rattle.lines.specs.Data.{one_datum}
use Rattle.questions.specs.declared.QuestionError.{QuestionError}
use Rattle.questions.specs.Questions.{question_error_number, question_error_line, ask_of}
use Rattle.facts.specs.Faults.{admit_number, asked_number, asked_line, side_place, asked_place, LineFault, FirstLineFault, QuestionFault, FirstQuestionFault}
use Rattle.facts.proofs.Facts.{line_table, data_table, question_table}
use Rattle.states.specs.declared.State.{State}
use Rattle.states.specs.States.{sizes, needed, enough, refusal_number}
use Rattle.opening.specs.declared.OpenError.{OpenError}
use Rattle.opening.specs.Asked.{start, state_of}
use Rattle.opening.specs.Opens.{FaultNumber, line_number, open_error_number, open_error_line, search_for, pieces_fit, open_def}
use Rattle.opening.proofs.Numbers.{bad_line, bad_question}
use Rattle.walks.specs.Words.{word_at, kind_of, count_of}
use Rattle.walks.specs.Sheets.{ChartLine, Walked, walked, charted, refused_as, bad_length, bad_count, size_of, part_of, word_stands, weights_of, line_kind, line_after, line_stands, range_after, lines_after, closing, walk_of}
use Rattle.printing.specs.Printed.{refusal_line}
use Rattle.sheet.specs.Answers.{zeros, lent, opened_text, lines_text, opened_on, lent_output}
use Rattle.charts.specs.Answers.{walked_text, answer_of}
use Rattle.charts.proofs.First.{opens, opened_by_lem}
use Rattle.whole.specs.Refusals.{OneOf, DatumFault, GoodLine, GoodData, GoodQuestion}

-- ---- the walk refuses with 1, 2 or 3
abbrev pub Few : Walked → Type 0
Few (walked x) = Unit {0}
Few (charted c) = Unit {0}
Few (refused_as n) = OneOf (1 ∷ 2 ∷ 3 ∷ []) n

module _ (s : List ℕ) where
  few_part : (kind at : ℕ) (go : ℕ → ℕ → ℕ → Walked) → ((a b c : ℕ) → Few (go a b c)) → Few (part_of s kind at go)
  unfolding part_of
  few_part kind at go f =
      by (ltb (length s) (at + 4)) (not (eqb (kind_of (word_at s at)) kind)) (bad_count kind (count_of (word_at s at)))
      (ltb (length s) (at + 4 + size_of kind (count_of (word_at s at))))
      (go (count_of (word_at s at)) (at + 4) (at + 4 + size_of kind (count_of (word_at s at))))
      (f (count_of (word_at s at)) (at + 4) (at + 4 + size_of kind (count_of (word_at s at))))
    where
      by : (a b c d : Bool) (w : Walked) → Few w → Few (cond a (refused_as 3) (cond b (refused_as 2) (cond c (refused_as 2) (cond d (refused_as 3) w))))
      by true b c d w h = inr (inr (inl refl))
      by false true c d w h = inr (inl refl)
      by false false true d w h = inr (inl refl)
      by false false false true w h = inr (inr (inl refl))
      by false false false false w h = h

  few_weights : (at : ℕ) (go : ℕ → ℕ → ℕ → Walked) → ((a b c : ℕ) → Few (go a b c)) → Few (weights_of s at go)
  unfolding weights_of
  few_weights at go f = by (word_stands s 5 at)
    where
      by : (b : Bool) → Few (cond b (part_of s 5 at go) (go 0 at at))
      by true = few_part 5 at go f
      by false = f 0 at at

  few_line : (at : ℕ) (go : Line → ℕ → Walked) → ((l : Line) (n : ℕ) → Few (go l n)) → Few (line_after s at go)
  unfolding line_after
  few_line at go f = few_part (line_kind (word_stands s 8 at)) at _ (λ a b c. few_part 2 c _ (λ d e g. few_part 3 g _ (λ h i j. few_part 4 j _ (λ k l m. few_weights m _ (λ n o p. few_part 9 p _ (λ q r t. f _ t))))))

  few_range : (l : Line) (at : ℕ) (go : ChartLine → ℕ → Walked) → ((c : ChartLine) (n : ℕ) → Few (go c n)) → Few (range_after s l at go)
  unfolding range_after
  few_range l at go f = few_part 11 at _ (λ a b c. f _ c)

  few_lines : (n at : ℕ) (go : List ChartLine → ℕ → Walked) → ((ls : List ChartLine) (e : ℕ) → Few (go ls e)) → Few (lines_after n s at go)
  unfolding lines_after
  few_lines zero at go f = f [] at
  few_lines (suc n) at go f = by (line_stands s at) _ (few_line at _ (λ l a. few_range l a _ (λ c b. few_lines n b (λ ls e. go (c ∷ ls) e) (λ ls e. f (c ∷ ls) e))))
    where
      by : (b : Bool) (w : Walked) → Few w → Few (cond b w (go [] at))
      by true w h = h
      by false w h = f [] at

  few_closing : (at : ℕ) (go : ℕ → ℕ → Walked) → ((n q : ℕ) → Few (go n q)) → Few (closing s at go)
  unfolding closing
  few_closing at go f = few_part 6 at _ (λ n q a. few_part 7 a _ (λ m h b. by (not (eqb b (length s))) (go n q) (f n q)))
    where
      by : (b : Bool) (w : Walked) → Few w → Few (cond b (refused_as 3) w)
      by true w h = inr (inr (inl refl))
      by false w h = h

  pub few_walk : Few (walk_of s)
  unfolding walk_of
  few_walk =
      by (bad_length (length s)) _
      (few_line 0 _ (λ first a. either (line_stands s a) _ _
      (few_line a _ (λ second b. either (word_stands s 11 b) _ _
      (few_range second b _ (λ l c. few_lines (length s) c _ (λ ls d. few_closing d _ (λ n q. tt))))
      (few_closing b _ (λ n q. tt))))
      (few_closing a _ (λ n q. tt))))
    where
      either : (b : Bool) (v w : Walked) → Few v → Few w → Few (cond b v w)
      either true v w g h = g
      either false v w g h = h

      by : (b : Bool) (w : Walked) → Few w → Few (cond b (refused_as 1) w)
      by true w h = inl refl
      by false w h = h

-- ---- a fault's number
-- one of a list is one of a longer one
pub walk_number : (n : ℕ) → OneOf (1 ∷ 2 ∷ 3 ∷ []) n → OneOf (1 ∷ 2 ∷ 3 ∷ 16 ∷ 17 ∷ 19 ∷ 24 ∷ []) n
walk_number n (inl e) = inl e
walk_number n (inr (inl e)) = inr (inl e)
walk_number n (inr (inr (inl e))) = inr (inr (inl e))
walk_number n (inr (inr (inr e))) = elim e [ ]

abbrev pub line_numbers : List ℕ
line_numbers = 4 ∷ 5 ∷ 6 ∷ 7 ∷ 22 ∷ 8 ∷ 9 ∷ 10 ∷ 11 ∷ 12 ∷ 13 ∷ 14 ∷ 15 ∷ 18 ∷ []

pub line_number_lem : (n : ℕ) (l : Line) → LineFault n l → OneOf line_numbers n
line_number_lem n l (inl x) = inl (sym x.0)
line_number_lem n l (inr (inl x)) = inr (inl (sym x.0))
line_number_lem n l (inr (inr (inl x))) = inr (inr (inl (sym x.0)))
line_number_lem n l (inr (inr (inr (inl x)))) = inr (inr (inr (inl (sym x.0))))
line_number_lem n l (inr (inr (inr (inr (inl x))))) = inr (inr (inr (inr (inl (sym x.0)))))
line_number_lem n l (inr (inr (inr (inr (inr (inl x)))))) = inr (inr (inr (inr (inr (inl (sym x.0))))))
line_number_lem n l (inr (inr (inr (inr (inr (inr (inl x))))))) = inr (inr (inr (inr (inr (inr (inl (sym x.0)))))))
line_number_lem n l (inr (inr (inr (inr (inr (inr (inr (inl x)))))))) = inr (inr (inr (inr (inr (inr (inr (inl (sym x.0))))))))
line_number_lem n l (inr (inr (inr (inr (inr (inr (inr (inr (inl x))))))))) = inr (inr (inr (inr (inr (inr (inr (inr (inl (sym x.0)))))))))
line_number_lem n l (inr (inr (inr (inr (inr (inr (inr (inr (inr (inl x)))))))))) = inr (inr (inr (inr (inr (inr (inr (inr (inr (inl (sym x.0))))))))))
line_number_lem n l (inr (inr (inr (inr (inr (inr (inr (inr (inr (inr (inl x))))))))))) = inr (inr (inr (inr (inr (inr (inr (inr (inr (inr (inl (sym x.0)))))))))))
line_number_lem n l (inr (inr (inr (inr (inr (inr (inr (inr (inr (inr (inr x))))))))))) = inr (inr (inr (inr (inr (inr (inr (inr (inr (inr (inr (inl (sym x.0))))))))))))

pub fst_of : (m n : ℕ × ℕ) → m ≡ n → n.0 ≡ m.0
fst_of m n e = sym (ap (λ (p : ℕ × ℕ). p.0) e)

pub snd_of : (m n : ℕ × ℕ) → m ≡ n → n.1 ≡ m.1
snd_of m n e = sym (ap (λ (p : ℕ × ℕ). p.1) e)

-- ---- numbers above 0
positive : (l : List ℕ) (n : ℕ) → All (λ (k : ℕ). 0 < k) l → OneOf l n → 0 < n
positive [] n a e = elim e [ ]
positive (k ∷ l) n a (inl e) = subst (λ (x : ℕ). 0 < x) (sym e) a.0
positive (k ∷ l) n a (inr h) = positive l n a.1 h

pub line_above : (n : ℕ) (l : Line) → LineFault n l → 0 < n
line_above n l f =
    positive line_numbers n
    (lit< tt, (lit< tt, (lit< tt, (lit< tt, (lit< tt, (lit< tt, (lit< tt, (lit< tt, (lit< tt, (lit< tt, (lit< tt, (lit< tt, (lit< tt, (lit< tt, tt))))))))))))))
    (line_number_lem n l f)

pub question_above : (n : ℕ × ℕ) (q : Question) → QuestionFault n q → 0 < n.0
question_above n q (inl x) = subst (λ (m : ℕ × ℕ). 0 < m.0) x.0 (lit< tt)
question_above n q (inr (inl x)) = subst (λ (m : ℕ × ℕ). 0 < m.0) x.0 (lit< tt)
question_above n q (inr (inr (inl x))) = subst (λ (m : ℕ × ℕ). 0 < m.0) x.0 (lit< tt)
question_above n q (inr (inr (inr (inl x)))) = subst (λ (m : ℕ × ℕ). 0 < m.0) x.0 (lit< tt)
question_above n q (inr (inr (inr (inr (inl x))))) = subst (λ (m : ℕ × ℕ). 0 < m.0) x.0 (lit< tt)
question_above n q (inr (inr (inr (inr (inr x))))) = subst (λ (m : ℕ × ℕ). 0 < m.0) x.0 (lit< tt)

pub not_zero : (n : ℕ) → 0 < n → eqb n 0 ≡ false
not_zero n h = ne_eqb n 0 (λ e. absurd (omega arith))

pub over_zero : (n : ℕ) → eqb n 0 ≡ false → 0 < n
over_zero zero e = absurd (false≢true (sym e))
over_zero (suc n) e = omega arith

-- ---- the tests, from the table's words and back
above : {n : ℕ} → FaultNumber n → 0 < n
above (inl h) = omega (arith, h.0)
above (inr h) = omega (arith, h.0)

pub good_admitted : (l : Line) → GoodLine l → admit_of l ≡ Ok tt
good_admitted l g = (line_table l).1.1 g

pub admitted_good : (l : Line) → admit_of l ≡ Ok tt → GoodLine l
admitted_good l e = (line_table l).1.0 e

pub fault_refused : (l : Line) (n : ℕ) → FirstLineFault n l → (k : LineError) × ((admit_of l ≡ Err k) × (line_error_number k ≡ n))
fault_refused l n f = let a = line_above n l f.0 in go (admit_of l) refl a (((line_table l).0 n a).1 f)
  where
    go : (r : Result Unit LineError) → admit_of l ≡ r → 0 < n → admit_number r ≡ n → (k : LineError) × ((admit_of l ≡ Err k) × (line_error_number k ≡ n))
    go (Ok x) h a e = absurd (omega (arith, a, e))
    go (Err k) h a e = (k, (h, e))

pub refused_fault : (l : Line) (k : LineError) → admit_of l ≡ Err k → FirstLineFault (line_error_number k) l
refused_fault l k e = ((line_table l).0 (line_error_number k) (above (bad_line k))).0 (ap admit_number e)

-- the same by the number alone, as a chart's test of a line gives it
admitted_number : (r : Result Unit LineError) → admit_number r ≡ refusal_number line_error_number r
admitted_number (Ok x) = refl
admitted_number (Err k) = refl

pub refused_number : (l : Line) (n : ℕ) → FirstLineFault n l → refusal_number line_error_number (admit_of l) ≡ n
refused_number l n f = sym (admitted_number (admit_of l)) ∙ ((line_table l).0 n (line_above n l f.0)).1 f

pub numbered_fault : (l : Line) → 0 < refusal_number line_error_number (admit_of l) → FirstLineFault (refusal_number line_error_number (admit_of l)) l
numbered_fault l h = ((line_table l).0 (refusal_number line_error_number (admit_of l)) h).0 (admitted_number (admit_of l))

-- two data, from the row's words and back
abbrev pub data_test : Question → Bool
data_test q = one_datum q.line1.datum q.line2.datum

pub good_one : (q : Question) → GoodData q → data_test q ≡ true
good_one q o = (data_table q.line1.datum q.line2.datum).1.1 o

pub one_good : (q : Question) → data_test q ≡ true → GoodData q
one_good q e = (data_table q.line1.datum q.line2.datum).1.0 e

pub fault_off : (q : Question) → DatumFault q → data_test q ≡ false
fault_off q f = (data_table q.line1.datum q.line2.datum).0.1 f

pub off_fault : (q : Question) → data_test q ≡ false → DatumFault q
off_fault q e = (data_table q.line1.datum q.line2.datum).0.0 e

-- the line at fault by its number, 0 for none
place_lem : (side : Option Side) → side_place side ≡ line_number side
place_lem (Some side) = refl
place_lem None = refl

abbrev pub place_of : QuestionError → ℕ × ℕ
place_of k = (question_error_number k, line_number (question_error_line k))

error_place : (k : QuestionError) → (asked_number (Err k), asked_line (Err k)) ≡ place_of k
error_place k = λ i. (question_error_number k, place_lem (question_error_line k) i)

module _ (q : Question) (g : GoodLine q.line1) (h : GoodLine q.line2) where
  table : ((n : ℕ × ℕ) → 0 < n.0 → (asked_place q ≡ n) ↔ FirstQuestionFault n q) × ((ask_of q ≡ Ok tt) ↔ GoodQuestion q)
  table = question_table q (good_admitted q.line1 g) (good_admitted q.line2 h)

  pub good_fine : GoodQuestion q → ask_of q ≡ Ok tt
  good_fine f = table.1.1 f

  pub fine_good : ask_of q ≡ Ok tt → GoodQuestion q
  fine_good e = table.1.0 e

  pub fault_asked : (n : ℕ × ℕ) → FirstQuestionFault n q → (k : QuestionError) × ((ask_of q ≡ Err k) × (place_of k ≡ n))
  fault_asked n f = let a = question_above n q f.0 in go (ask_of q) refl a ((table.0 n a).1 f)
    where
      go : (r : Result Unit QuestionError) → ask_of q ≡ r → 0 < n.0 → (asked_number r, asked_line r) ≡ n → (k : QuestionError) × ((ask_of q ≡ Err k) × (place_of k ≡ n))
      go (Ok x) h a e = absurd (let z : ◌≡◌ {A = ℕ} 0 n.0 = ap (λ (p : ℕ × ℕ). p.0) e in omega (arith, a, z))
      go (Err k) h a e = (k, (h, sym (error_place k) ∙ e))

  pub asked_fault : (k : QuestionError) → ask_of q ≡ Err k → FirstQuestionFault (place_of k) q
  asked_fault k e = (table.0 (place_of k) (above (bad_question k))).0 ((λ i. (asked_number (e i), asked_line (e i))) ∙ error_place k)

-- ---- the opening on the lent memory, by its tests
module _ (q : Question) where
  abbrev z : List Float
  z = zeros 8112

  abbrev pub x : State
  x = state_of (search_for q) (start (search_for q))

  pub tested_as : {a b : Result Unit LineError} {n : Bool} {c : Result Unit QuestionError} {d e : Bool} → admit_of q.line1 ≡ a → admit_of q.line2 ≡ b → data_test q ≡ n → ask_of q ≡ c
      → pieces_fit q z z ≡ d → enough (needed x) (sizes lent) ≡ e → (open_def q z z lent).answer ≡ opens x a b n c d e
  unfolding opened_on
  tested_as ea eb en ec ed ee = opened_by_lem q ∙ (λ i. opens x (ea i) (eb i) (en i) (ec i) (ed i) (ee i))

  -- what is printed of a refused opening
  pub said : (s : List ℕ) → walk_of s ≡ walked q → (k : OpenError) → (open_def q z z lent).answer ≡ Err k
      → answer_of s ≡ refusal_line (open_error_number k) (line_number (open_error_line k))
  unfolding answer_of lines_text
  said s walk k e = ap walked_text walk ∙ ap (λ (a : Result State OpenError). opened_text a (open_def q z z lent).memory lent_output) e
