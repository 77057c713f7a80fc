-- A chart's lines by their places: the question of a pair, the lines behind the first k, and what a report's first byte says. Assumes nothing.
use mathlib.Core.Path.{◌≡◌, refl, sym, ap, ◌∙◌, subst}
use mathlib.Core.List.{List, ◌∷◌}
use mathlib.Core.Bool.{Bool, true, false, ◌&&◌, cond}
use Prim.Native.Nat.{ℕ, zero, suc, ◌+◌, ◌-◌, ◌≤◌, ◌<◌}
use native.Mathlib.Omega.{arith}
use borrow.Author.Tests.{le-leb, lt-leb}
use lib.Dec.{leb, eqb}
use lib.ListN.{length, get_or, drop}
use lib.Ieee.{Float}
use Rattle.std.specs.Prelude.{Option, None, Result, Ok, Err}
use Rattle.verdicts.specs.declared.Side.{Side}
use Rattle.lines.specs.Lines.{Question}
use Rattle.opening.specs.declared.Question.{Question as Asking}
use Rattle.opening.specs.declared.OpenError.{OpenError}
use Rattle.states.specs.declared.State.{State}
use Rattle.texts.specs.Texts.{Wrote}
use Rattle.opening.specs.Opens.{open_error_number, open_error_line, line_number, opened_number, opened_line, question_of}
use Rattle.walks.specs.declared.Line.{Line}
use Rattle.walks.specs.declared.ChartPlaces.{ChartPlaces}
use Rattle.walks.specs.Words.{float_at}
use Rattle.walks.specs.Sheets.{ChartLine, Chart, chart_of}
use Rattle.walks.specs.Places.{LineInside, ChartLineInside, LinesInside, line_in, line_at, chart_line_at, behind_at, lines_at, chart_in}
use Rattle.sheet.specs.Answers.{range_at, asking_at, opened_on, lines_text}
use Rattle.charts.specs.Charts.{Tested, tested, pair_for, lines_complete}
use Rattle.charts.specs.Found.{place_of, tested_of, opened_at, earlier_of, lines_met, chart_met, line_place}
use Rattle.charts.specs.Answers.{line_part, Left}
use Rattle.charts.proofs.Laws.{earlier_nothing, earlier_assoc}
use Rattle.charts.proofs.Says.{lines_say}

module _ (s : List ℕ) (at : ℕ) {l : Line} (is : l ≡ line_at s at) where
  pub behind_is : l.next + 20 ≡ behind_at s at
  unfolding behind_at
  behind_is = ap (λ (x : Line). x.next + 20) is

  pub behind_fits : ChartLineInside s at → l.next + 20 ≤ length s
  behind_fits h = subst (λ (n : ℕ). n ≤ length s) (sym behind_is) h.range

  pub line-inside : ChartLineInside s at → LineInside (length s) l
  line-inside h = subst (LineInside (length s)) (sym is) h.line

  -- the question that the code makes is the pair's
  pub pair_is : (w : ChartPlaces) {q : Asking} → q ≡ asking_at s w.asked (l.next + 4) w.splits w.first.datum l.datum
      → question_of q (line_in s w.first) (line_in s l) ≡ pair_for (chart_in s w) (chart_line_at s at)
  unfolding asking_at range_at line_in chart_in chart_line_at chart_of
  pair_is w {q} e =
      ap (λ (a : Asking). question_of a (line_in s w.first) (line_in s l)) e
      ∙ ap (λ (x : Line). question_of (asking_at s w.asked (x.next + 4) w.splits w.first.datum x.datum) (line_in s w.first) (line_in s x)) is
      ∙ ap (λ (n : ℕ). with_high (float_at s n)) (let z : (line_at s at).next + 4 + 8 ≡ (line_at s at).next + 12 = omega arith in z)
    where
      with_high : Float → Question
      with_high f =
          record {
            line1 = line_in s w.first;
            lo1 = float_at s w.asked;
            hi1 = float_at s (w.asked + 8);
            line2 = line_in s (line_at s at);
            lo2 = float_at s ((line_at s at).next + 4);
            hi2 = f;
            gap = float_at s (w.asked + 32);
            splits = w.splits;
          }

-- ---- what the opening of a pair meets
pub met_none : (c : Chart) (l : ChartLine) (k : ℕ) {q : Question} {r : Result State OpenError} → r ≡ opened_on q → q ≡ pair_for c l → {x : State} → r ≡ Ok x → tested_of None ≡ opened_at c l k
met_none c l k e f g = ap (λ (o : Result State OpenError). tested (opened_number o) (place_of k (opened_line o))) (sym g ∙ e ∙ ap opened_on f)

pub met_some : (c : Chart) (l : ChartLine) (k : ℕ) {q : Question} {r : Result State OpenError} → r ≡ opened_on q → q ≡ pair_for c l → {x : OpenError} → r ≡ Err x
    → {side : Option Side} {place : ℕ} → side ≡ open_error_line x → place ≡ place_of k (line_number side) → tested (open_error_number x) place ≡ opened_at c l k
met_some c l k e f {x} g h p =
    ap (tested (open_error_number x)) (p ∙ ap (λ (s : Option Side). place_of k (line_number s)) h)
    ∙ ap (λ (o : Result State OpenError). tested (opened_number o) (place_of k (opened_line o))) (sym g ∙ e ∙ ap opened_on f)

pub printed_as : (before : List ℕ) {p q : Question} {after : List ℕ} {n : ℕ} → p ≡ q → Wrote before 0 (lines_text p) after n → Wrote before 0 (lines_text q) after n
printed_as before {p} {q} {after} {n} e h = subst (λ (x : Question). Wrote before 0 (lines_text x) after n) e h

-- ---- the first k of n lines
pub inside_fewer : (s : List ℕ) (k n at : ℕ) → k ≤ n → LinesInside s n at → LinesInside s k at
inside_fewer s zero n at h z = tt
inside_fewer s (suc k) zero at h z = absurd (omega arith)
inside_fewer s (suc k) (suc n) at h z = (z.0, inside_fewer s k n (behind_at s at) (omega arith) z.1)

-- one turn to the next line
pub place_turn : (s : List ℕ) (k i at from next : ℕ) → i < k → next ≡ behind_at s at → line_place s (k - i) at ≡ from → LinesInside s (k - i) at
    → (line_place s (k - (i + 1)) next ≡ from) × LinesInside s (k - (i + 1)) next
unfolding line_place
place_turn s k i at from next h e f z =
    let n : k - i ≡ suc (k - (i + 1)) = omega arith in
    (ap (line_place s (k - (i + 1))) e ∙ sym (ap (λ (m : ℕ). line_place s m at) n) ∙ f, subst (LinesInside s (k - (i + 1))) (sym e) (subst (λ (m : ℕ). LinesInside s m at) n z).1)

pub place_line : (s : List ℕ) (k i at : ℕ) → i < k → LinesInside s (k - i) at → ChartLineInside s at
place_line s k i at h z = let n : k - i ≡ suc (k - (i + 1)) = omega arith in (subst (λ (m : ℕ). LinesInside s m at) n z).0

pub place_done : (s : List ℕ) (k i at from : ℕ) → k ≤ i → line_place s (k - i) at ≡ from → at ≡ from
unfolding line_place
place_done s k i at from h f = let n : k - i ≡ 0 = omega arith in ap (λ (m : ℕ). line_place s m at) (sym n) ∙ f

-- ---- what the openings of all lines meet first, line by line
pub lines_of : (s : List ℕ) (w : ChartPlaces) → (chart_in s w).lines ≡ lines_at s w.lines w.first.next
unfolding chart_in chart_of
lines_of s w = refl

module _ (s : List ℕ) (w : ChartPlaces) where
  -- what is met of the lines behind the one at place `at`, of which k were opened
  abbrev pub behind_met : ℕ → ℕ → Tested
  behind_met k at = lines_met (chart_in s w) (lines_at s (w.lines - k) (behind_at s at)) (k + 2)

  pub met_start : (t : Tested) → 1 ≤ w.lines → t ≡ opened_at (chart_in s w) (chart_line_at s w.first.next) 2
      → earlier_of t (behind_met 1 w.first.next) ≡ lines_met (chart_in s w) (lines_at s w.lines w.first.next) 2
  unfolding lines_at
  met_start t h e =
      let n : w.lines ≡ suc (w.lines - 1) = omega arith in
      ap (λ (x : Tested). earlier_of x (behind_met 1 w.first.next)) e ∙ sym (ap (λ (m : ℕ). lines_met (chart_in s w) (lines_at s m w.first.next) 2) n)

  pub met-turn : (k at next : ℕ) (t u r all : Tested) → k < w.lines → next ≡ behind_at s at → u ≡ opened_at (chart_in s w) (chart_line_at s next) (k + 2) → r ≡ earlier_of t u
      → earlier_of t (behind_met k at) ≡ all → earlier_of r (behind_met (k + 1) next) ≡ all
  unfolding lines_at
  met-turn k at next t u r all h e f g z =
      let n : w.lines - k ≡ suc (w.lines - (k + 1)) = omega arith in
      let j : suc (k + 2) ≡ k + 1 + 2 = omega arith in
      ap (λ (x : Tested). earlier_of x (behind_met (k + 1) next)) (g ∙ ap (earlier_of t) f)
      ∙ sym (earlier_assoc t (opened_at (chart_in s w) (chart_line_at s next) (k + 2)) (behind_met (k + 1) next))
      ∙ ap (earlier_of t) (sym (ap (λ (m : ℕ). lines_met (chart_in s w) (lines_at s m next) (k + 2)) n
      ∙ ap (λ (m : ℕ). earlier_of (opened_at (chart_in s w) (chart_line_at s next) (k + 2)) (lines_met (chart_in s w) (lines_at s (w.lines - (k + 1)) (behind_at s next)) m)) j))
      ∙ ap (λ (a : ℕ). earlier_of t (lines_met (chart_in s w) (lines_at s (w.lines - k) a) (k + 2))) e ∙ z

  pub met_done : (k at : ℕ) (t all : Tested) → w.lines ≤ k → earlier_of t (behind_met k at) ≡ all → t ≡ all
  unfolding lines_at
  met_done k at t all h z =
      let n : w.lines - k ≡ 0 = omega arith in
      sym (earlier_nothing t) ∙ sym (ap (λ (m : ℕ). earlier_of t (lines_met (chart_in s w) (lines_at s m (behind_at s at)) (k + 2))) n) ∙ z

-- ---- 24, by the count of lines
pub lines_length : (s : List ℕ) (n at : ℕ) → length (lines_at s n at) ≡ n
unfolding lines_at
lines_length s zero at = refl
lines_length s (suc n) at = ap suc (lines_length s n (behind_at s at))

module _ (s : List ℕ) (w : ChartPlaces) where
  pub chart-length : length (chart_in s w).lines ≡ w.lines
  chart-length = ap length (lines_of s w) ∙ lines_length s w.lines w.first.next

  pub count_none : w.lines < 1 → tested 24 0 ≡ chart_met (chart_in s w)
  count_none h =
      let n = chart-length in
      sym (ap (λ (b : Bool). cond (b && leb (length (chart_in s w).lines) 64) (lines_met (chart_in s w) (chart_in s w).lines 2) (tested 24 0)) (lt-leb 1 (length (chart_in s w).lines) (omega arith)))

  pub count_many : 64 < w.lines → tested 24 0 ≡ chart_met (chart_in s w)
  count_many h =
      let n = chart-length in
      sym (ap (λ (b : Bool). cond (leb 1 (length (chart_in s w).lines) && b) (lines_met (chart_in s w) (chart_in s w).lines 2) (tested 24 0)) (lt-leb (length (chart_in s w).lines) 64 (omega arith))
      ∙ no (leb 1 (length (chart_in s w).lines)))
    where
      no : (b : Bool) → cond (b && false) (lines_met (chart_in s w) (chart_in s w).lines 2) (tested 24 0) ≡ tested 24 0
      no true = refl
      no false = refl

  pub count_fits : 1 ≤ w.lines → w.lines ≤ 64 → lines_met (chart_in s w) (chart_in s w).lines 2 ≡ chart_met (chart_in s w)
  count_fits h g =
      let n = chart-length in
      sym (λ i. cond (le-leb 1 (length (chart_in s w).lines) (let z : 1 ≤ length (chart_in s w).lines = omega arith in z) i
      && le-leb (length (chart_in s w).lines) 64 (let z : length (chart_in s w).lines ≤ 64 = omega arith in z) i)
      (lines_met (chart_in s w) (chart_in s w).lines 2) (tested 24 0))

-- ---- line k
module _ (s : List ℕ) where
  pub inside-at : (k n at : ℕ) → k < n → LinesInside s n at → ChartLineInside s (line_place s k at)
  unfolding line_place
  inside-at zero zero at h z = absurd (omega arith)
  inside-at zero (suc n) at h z = z.0
  inside-at (suc k) zero at h z = absurd (omega arith)
  inside-at (suc k) (suc n) at h z = inside-at k n (behind_at s at) (omega arith) z.1

  pub line_at_k : (k n at : ℕ) → k < n → drop k (lines_at s n at) ≡ chart_line_at s (line_place s k at) ∷ lines_at s (n - (k + 1)) (behind_at s (line_place s k at))
  unfolding lines_at line_place
  line_at_k zero zero at h = absurd (omega arith)
  line_at_k zero (suc n) at h = let e : suc n - (0 + 1) ≡ n = omega arith in ap (λ (m : ℕ). chart_line_at s at ∷ lines_at s m (behind_at s at)) (sym e)
  line_at_k (suc k) zero at h = absurd (omega arith)
  line_at_k (suc k) (suc n) at h =
      let e : suc n - (suc k + 1) ≡ n - (k + 1) = omega arith in
      line_at_k k n (behind_at s at) (omega arith)
      ∙ ap (λ (m : ℕ). chart_line_at s (line_place s k (behind_at s at)) ∷ lines_at s m (behind_at s (line_place s k (behind_at s at)))) (sym e)

-- ---- the report of line k
pub report_left : (s : List ℕ) (w : ChartPlaces) (k : ℕ) (good complete all : Bool) (before : List ℕ) {after : List ℕ} {n : ℕ} (at : ℕ) → k < w.lines → at ≡ line_place s k w.first.next
    → Wrote before 0 (lines_text (pair_for (chart_in s w) (chart_line_at s at))) after n → complete ≡ eqb (get_or after 0 0) 99 → all ≡ (good && complete)
    → Left (line_part (chart_in s w) (drop k (chart_in s w).lines) good) before after (record { length = n; more = true; good = all })
report_left s w k good complete all before {after} {n} at h e a f g =
    let l = chart_line_at s at in
    let first : drop k (chart_in s w).lines ≡ l ∷ lines_at s (w.lines - (k + 1)) (behind_at s at) =
    ap (drop k) (lines_of s w) ∙ line_at_k s k w.lines w.first.next h ∙ sym (ap (λ (x : ℕ). chart_line_at s x ∷ lines_at s (w.lines - (k + 1)) (behind_at s x)) e) in
    let says : complete ≡ lines_complete (pair_for (chart_in s w) l) = f ∙ ap (λ (t : List ℕ). eqb (get_or t 0 0) 99) a.1 ∙ lines_say before (pair_for (chart_in s w) l) in
    subst (λ (ls : List ChartLine). Left (line_part (chart_in s w) ls good) before after (record { length = n; more = true; good = all })) (sym first)
    (a, refl, g ∙ ap (λ (b : Bool). good && b) says)
