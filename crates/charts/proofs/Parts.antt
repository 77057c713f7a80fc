-- What each instalment leaves in the buffer, by what was walked. Assumes nothing.
use mathlib.Core.Path.{◌≡◌, refl, sym, ap, ◌∙◌, subst}
use mathlib.Core.Bool.{Bool, true, false, not, ◌||◌, cond}
use mathlib.Core.List.{List, [], ◌∷◌}
use Prim.Native.Nat.{ℕ, zero, suc, ◌+◌, ◌%◌, ◌≤◌, ◌<◌}
use native.Mathlib.Omega.{arith}
use borrow.Author.Tests.{ltb-false, lt-ltb, le-ltb, le-leb, lt-leb, ne_eqb}
use lib.Dec.{T, ltb, eqb}
use lib.ListN.{length, drop}
use lib.Ieee.{Float}
use Rattle.lines.specs.Lines.{Question}
use Rattle.opening.specs.declared.Question.{Question as Asking}
use Rattle.opening.specs.Opens.{open_error_number, question_of}
use Rattle.opening.proofs.Numbers.{refused_lem}
use Rattle.sheet.proofs.Reports.{refused}
use Rattle.std.specs.Prelude.{Ok, Err}
use Rattle.walks.specs.declared.PairPlaces.{PairPlaces}
use Rattle.walks.specs.declared.ChartPlaces.{ChartPlaces}
use Rattle.walks.specs.declared.Sheet.{Sheet}
use Rattle.walks.specs.declared.Sheet.TheVariants.{Pair as PairSheet, Chart as ChartSheet}
use Rattle.walks.specs.declared.SheetError.{SheetError}
use Rattle.walks.specs.Words.{float_at}
use Rattle.walks.specs.Sheets.{ChartLine, Chart, Walked, walked, charted, refused_as, bad_length, pair_of, walk_of}
use Rattle.walks.specs.Places.{sheet_error_number, line_in, question_in, chart_in, sheet_in, ChartInside, SheetInside}
use Rattle.printing.specs.Printed.{refusal_line}
use Rattle.texts.specs.Texts.{Wrote}
use Rattle.sheet.specs.Answers.{longest, range_at, asking_at, lines_text}
use Rattle.charts.specs.declared.Instalment.{Instalment}
use Rattle.charts.specs.Charts.{first_met, tests, last_line}
use Rattle.charts.specs.declared.Chart.{Chart as Bytes}
use Rattle.charts.specs.declared.ChartError.{ChartError}
use Rattle.charts.specs.declared.ChartError.TheVariants.{LineCount, Opening}
use Rattle.charts.specs.Found.{chart_error_number, chart_error_place, HasLines, refused_of, chart_met}
use Rattle.charts.specs.Answers.{Part, last, line_part, chart_part, first_part, walked_part, part_of, Left, Given}
use Rattle.charts.proofs.First.{first_found}
use Rattle.charts.proofs.Lines.{chart-length}

-- the last instalment; and none
pub ended_left : (before : List ℕ) (text : List ℕ) (good : Bool) {after : List ℕ} {n : ℕ} {r : Instalment} → Wrote before 0 text after n
    → (r.length ≡ n) × (r.more ≡ false) × (r.good ≡ good) → Left (last text good) before after r
ended_left before text good h e = ((e.0 ∙ h.0, h.1), e.1, e.2)

pub none_left : (before : List ℕ) (good : Bool) {r : Instalment} → (r.length ≡ 0) × (r.more ≡ false) × (r.good ≡ good) → Left (last [] good) before before r
none_left before good e = ((e.0, refl), e.1, e.2)

pub left_as : (before : List ℕ) {p q : Part} {after : List ℕ} {r : Instalment} → p ≡ q → Left p before after r → Left q before after r
left_as before {p} {q} {after} {r} e h = subst (λ (x : Part). Left x before after r) e h

pub left_from : (p : Part) {before before' : List ℕ} {after : List ℕ} {r : Instalment} → before' ≡ before → Left p before' after r → Left p before after r
left_from p {before} {before'} {after} {r} e h = subst (λ (l : List ℕ). Left p l after r) e h

-- ---- a chart's instalment k
drop_all : {A : Type 0} (k : ℕ) (l : List A) → length l ≤ k → drop k l ≡ []
drop_all zero [] h = refl
drop_all zero (x ∷ l) h = absurd (omega arith)
drop_all (suc k) [] h = refl
drop_all (suc k) (x ∷ l) h = drop_all k l (omega arith)

module _ (s : List ℕ) (w : ChartPlaces) (k : ℕ) (good : Bool) where
  part_here : k ≤ w.lines → line_part (chart_in s w) (drop k (chart_in s w).lines) good ≡ chart_part (chart_in s w) k good
  part_here h =
      let n = chart-length s w in
      sym (ap (λ (b : Bool). cond b (line_part (chart_in s w) (drop k (chart_in s w).lines) good) (last [] good)) (le-leb k (length (chart_in s w).lines) (omega arith)))

  pub part_line : k < w.lines → line_part (chart_in s w) (drop k (chart_in s w).lines) good ≡ chart_part (chart_in s w) k good
  part_line h = part_here (omega arith)

  pub part_last : k ≡ w.lines → last (last_line good) good ≡ chart_part (chart_in s w) k good
  part_last e =
      let n = chart-length s w in
      ap (λ (l : List ChartLine). line_part (chart_in s w) l good) (sym (drop_all k (chart_in s w).lines (omega arith))) ∙ part_here (omega arith)

  pub part_behind : w.lines ≤ k → (k ≡ w.lines → ⊥) → last [] good ≡ chart_part (chart_in s w) k good
  part_behind h d =
      let n = chart-length s w in
      let more : length (chart_in s w).lines < k = over (length (chart_in s w).lines) k w.lines n h d in
      sym (ap (λ (b : Bool). cond b (line_part (chart_in s w) (drop k (chart_in s w).lines) good) (last [] good)) (lt-leb k (length (chart_in s w).lines) more))
    where
      over : (a b m : ℕ) → a ≡ m → m ≤ b → (b ≡ m → ⊥) → a < b
      over a b m e h d = omega arith

-- ---- its first instalment
module _ (c : Chart) where
  pub first_refused : (e : ChartError) → refused_of (Err e) ≡ chart_met c → last (refusal_line (chart_error_number e) (chart_error_place e)) true ≡ first_part c (first_met (tests c))
  first_refused e is = sym (ap (λ (b : Bool). cond b (chart_part c 0 true) (last (refusal_line (chart_error_number e) (chart_error_place e)) true)) (some e)) ∙ ap (first_part c) (is ∙ sym (first_found c))
    where
      some : (e : ChartError) → eqb (chart_error_number e) 0 ≡ false
      some LineCount = refl
      some (Opening m) = ne_eqb (open_error_number m.error) 0 (refused_lem m.error)

  pub first_report : refused_of (Ok tt) ≡ chart_met c → chart_part c 0 true ≡ first_part c (first_met (tests c))
  first_report is = ap (first_part c) (is ∙ sym (first_found c))

pub refusal_is : (out : List ℕ) {n m k j : ℕ} {o : List ℕ} {r : ℕ} → n ≡ m → k ≡ j → Wrote out 0 (refusal_line n k) o r → Wrote out 0 (refusal_line m j) o r
refusal_is out {n} {m} {k} {j} {o} {r} e f h = subst (λ (z : ℕ). Wrote out 0 (refusal_line m z) o r) f (refused out n m k e h)

-- ---- a pair
asked_same : (s : List ℕ) (r : PairPlaces)
    → question_of (asking_at s r.asked (r.asked + 16) r.splits r.first.datum r.second.datum) (line_in s r.first) (line_in s r.second) ≡ question_in s r
unfolding asking_at range_at question_in line_in pair_of
asked_same s r = ap (λ (n : ℕ). with_high (float_at s n)) (let z : r.asked + 16 + 8 ≡ r.asked + 24 = omega arith in z)
  where
    with_high : Float → Question
    with_high f =
        record {
          line1 = line_in s r.first;
          lo1 = float_at s r.asked;
          hi1 = float_at s (r.asked + 8);
          line2 = line_in s r.second;
          lo2 = float_at s (r.asked + 16);
          hi2 = f;
          gap = float_at s (r.asked + 32);
          splits = r.splits;
        }

pub pair_left : (s : List ℕ) (w : PairPlaces) (before : List ℕ) {q : Asking} {after : List ℕ} {n : ℕ} {x : Instalment}
    → q ≡ asking_at s w.asked (w.asked + 16) w.splits w.first.datum w.second.datum
    → Wrote before 0 (lines_text (question_of q (line_in s w.first) (line_in s w.second))) after n → (x.length ≡ n) × (x.more ≡ false) × (x.good ≡ true)
    → Left (last (lines_text (question_in s w)) true) before after x
pair_left s w before {q} e a f =
    left_as before (ap (λ (z : Question). last (lines_text z) true) (ap (λ (b : Asking). question_of b (line_in s w.first) (line_in s w.second)) e ∙ asked_same s w))
    (ended_left before (lines_text (question_of q (line_in s w.first) (line_in s w.second))) true a f)

-- ---- a sheet that is walked is no longer than 16,384 bytes
abbrev is_walked : Walked → Bool
is_walked (walked q) = true
is_walked (charted c) = true
is_walked (refused_as n) = false

or_last : (a b : Bool) → (a || (b || true)) ≡ true
or_last true b = refl
or_last false true = refl
or_last false false = refl

bad : (n : ℕ) → ltb 16384 n ≡ true → bad_length n ≡ true
unfolding bad_length
bad n h = ap (λ (t : Bool). eqb n 0 || (not (eqb (n % 4) 0) || t)) h ∙ or_last (eqb n 0) (not (eqb (n % 4) 0))

refused-length : (s : List ℕ) → bad_length (length s) ≡ true → walk_of s ≡ refused_as 1
unfolding walk_of
refused-length s h = rw h refl

found_walked : (s : List ℕ) (r : Sheet) → is_walked (sheet_in s r) ≡ true
found_walked s (PairSheet r) = refl
found_walked s (ChartSheet r) = refl

pub short : (s : List ℕ) (r : Sheet) → walk_of s ≡ sheet_in s r → length s ≤ 16384
short s r e = go (ltb 16384 (length s)) refl
  where
    go : (b : Bool) → ltb 16384 (length s) ≡ b → length s ≤ 16384
    go false h = ltb-false 16384 (length s) h
    go true h = absurd (subst T (sym (found_walked s r) ∙ ap is_walked (sym e ∙ refused-length s (bad (length s) h))) tt)

-- a sheet of which this is known is the chart, or the pair, that it is
pub walk_as : (s : List ℕ) {r r' : Sheet} → r ≡ r' → walk_of s ≡ sheet_in s r → walk_of s ≡ sheet_in s r'
walk_as s e h = h ∙ ap (sheet_in s) e

pub inside_as : (s : List ℕ) {r r' : Sheet} → r ≡ r' → SheetInside s r → SheetInside s r'
inside_as s e h = subst (SheetInside s) e h

pub chart_held : (c : Bytes) → walk_of c.bytes.now ≡ charted (chart_in c.bytes.now c.parts) → ChartInside c.bytes.now c.parts → HasLines c
chart_held c e h = (record { short = short c.bytes.now (ChartSheet c.parts) e; first = h.first; asked = h.asked }, h.lines)

-- ---- what is found, in a buffer that the longest fits
module _ (s : List ℕ) (k : ℕ) (good : Bool) (before : List ℕ) (room : longest ≤ length before) where
  given : (p : Part) {after : List ℕ} {x : Instalment} → p ≡ part_of s k good → Left p before after x → Given s k good before after x
  given p f h = left_as before (f ∙ sym (ap (λ (b : Bool). cond b (last [] good) (part_of s k good)) (le-ltb (length before) longest room))) h

  at-start : (w : Walked) → walk_of s ≡ w → k ≡ 0 → walked_part w 0 good ≡ part_of s k good
  unfolding part_of
  at-start w f z = sym (λ i. walked_part (f i) (z i) good)

  pub start-refused : (e : SheetError) → walk_of s ≡ refused_as (sheet_error_number e) → {after : List ℕ} {x : Instalment} → k ≡ 0
      → Left (last (refusal_line (sheet_error_number e) 0) true) before after x → Given s k good before after x
  start-refused e f z l = given (last (refusal_line (sheet_error_number e) 0) true) (at-start (refused_as (sheet_error_number e)) f z) l

  pub start-chart : (w : ChartPlaces) → walk_of s ≡ charted (chart_in s w) → {after : List ℕ} {x : Instalment} → k ≡ 0
      → Left (first_part (chart_in s w) (first_met (tests (chart_in s w)))) before after x → Given s k good before after x
  start-chart w f z l = given (first_part (chart_in s w) (first_met (tests (chart_in s w)))) (at-start (charted (chart_in s w)) f z) l

  pub start-pair : (w : PairPlaces) → walk_of s ≡ walked (question_in s w) → {after : List ℕ} {x : Instalment} → k ≡ 0
      → Left (last (lines_text (question_in s w)) true) before after x → Given s k good before after x
  start-pair w f z l = given (last (lines_text (question_in s w)) true) (at-start (walked (question_in s w)) f z) l

  at_later : (w : Walked) (f : ℕ → Part) → ((j : ℕ) → walked_part w (suc j) good ≡ f (suc j)) → walk_of s ≡ w → (k ≡ 0 → ⊥) → f k ≡ part_of s k good
  unfolding part_of
  at_later w f g h d = go k refl d
    where
      go : (j : ℕ) → k ≡ j → (k ≡ 0 → ⊥) → f k ≡ walked_part (walk_of s) k good
      go zero z d = absurd (d z)
      go (suc j) z d = ap f z ∙ sym (g j) ∙ sym (λ i. walked_part (h i) (z i) good)

  pub later_refused : (e : SheetError) → walk_of s ≡ refused_as (sheet_error_number e) → {after : List ℕ} {x : Instalment} → (k ≡ 0 → ⊥)
      → Left (last [] good) before after x → Given s k good before after x
  later_refused e f d l = given (last [] good) (at_later (refused_as (sheet_error_number e)) (λ j. last [] good) (λ j. refl) f d) l

  pub later_pair : (w : PairPlaces) → walk_of s ≡ walked (question_in s w) → {after : List ℕ} {x : Instalment} → (k ≡ 0 → ⊥)
      → Left (last [] good) before after x → Given s k good before after x
  later_pair w f d l = given (last [] good) (at_later (walked (question_in s w)) (λ j. last [] good) (λ j. refl) f d) l

  pub later_chart : (w : ChartPlaces) → walk_of s ≡ charted (chart_in s w) → {after : List ℕ} {x : Instalment} → (k ≡ 0 → ⊥)
      → Left (chart_part (chart_in s w) k good) before after x → Given s k good before after x
  later_chart w f d l = given (chart_part (chart_in s w) k good) (at_later (charted (chart_in s w)) (λ j. chart_part (chart_in s w) j good) (λ j. refl) f d) l

-- a buffer that the longest doesn't fit
pub too_short : (s : List ℕ) (k : ℕ) (good : Bool) (before : List ℕ) {x : Instalment} → length before < longest → Left (last [] good) before before x → Given s k good before before x
too_short s k good before h = left_as before (sym (ap (λ (b : Bool). cond b (last [] good) (part_of s k good)) (lt-ltb (length before) longest h)))
