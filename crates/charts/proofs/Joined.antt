-- The instalments of every sheet, one after the other, are its answer. Assumes nothing.
use mathlib.Core.Path.{◌≡◌, refl, sym, ap, ◌∙◌}
use mathlib.Core.Bool.{Bool, true, false, ◌&&◌, cond, false≢true}
use mathlib.Core.List.{List, [], ◌∷◌, ◌++◌, append_assoc, append-nil}
use Prim.Native.Nat.{ℕ, zero, suc, ◌≤◌}
use native.Mathlib.Omega.{arith}
use borrow.Author.Tests.{leb-true, le-leb}
use lib.Dec.{leb, eqb}
use lib.ListN.{length, drop}
use Rattle.walks.specs.Sheets.{ChartLine, Chart, Walked, walked, charted, refused_as, walk_of}
use Rattle.printing.specs.Printed.{refusal_line}
use Rattle.sheet.specs.Answers.{lines_text}
use Rattle.charts.specs.Charts.{Tested, tested, first_met, tests, pair_for, lines_complete, last_line, all_complete, reports_text, rest_text, tested_text, chart_text}
use Rattle.charts.specs.Answers.{Part, last, line_part, chart_part, first_part, walked_part, part_of, joined, walked_text, answer_of, Instalments}

-- ---- lists
drop_next : (k : ℕ) (l : List ChartLine) (x : ChartLine) (r : List ChartLine) → drop k l ≡ x ∷ r → (drop (suc k) l ≡ r) × (suc k ≤ length l)
drop_next zero [] x r e = absurd (let z : ◌≡◌ {A = ℕ} 0 1 = cc in omega arith)
drop_next zero (y ∷ l) x r e = (cc, omega arith)
drop_next (suc k) [] x r e = absurd (let z : ◌≡◌ {A = ℕ} 0 1 = cc in omega arith)
drop_next (suc k) (y ∷ l) x r e = let h = drop_next k l x r e in (h.0, (let g = h.1 in omega arith))

and_assoc : (a b c : Bool) → (a && (b && c)) ≡ (a && b && c)
and_assoc true b c = refl
and_assoc false b c = refl

-- ---- a chart that meets no test, from the report k on
module _ (c : Chart) where
  -- it has at most 64 lines
  pub few : eqb (first_met (tests c)).number 0 ≡ true → length c.lines ≤ 65
  unfolding tests
  few h = go (leb 1 (length c.lines)) (leb (length c.lines) 64) refl (first_met (tail_of (tests c))) h
    where
      tail_of : List Tested → List Tested
      tail_of [] = []
      tail_of (t ∷ ts) = ts

      go : (a b : Bool) → leb (length c.lines) 64 ≡ b → (t : Tested)
          → eqb (cond (eqb (cond (a && b) 0 24) 0) t (tested (cond (a && b) 0 24) 0)).number 0 ≡ true → length c.lines ≤ 65
      go a true e ts h = let z = leb-true (length c.lines) 64 e in omega arith
      go true false e ts h = absurd (false≢true h)
      go false false e ts h = absurd (false≢true h)

  rest_is : (ls : List ChartLine) (good : Bool) → rest_text c ls good ≡ reports_text c ls ++ last_line (good && all_complete c ls)
  rest_is ls good = refl

  line_text : (l : ChartLine) (ls : List ChartLine) (good : Bool)
      → lines_text (pair_for c l) ++ rest_text c ls (good && lines_complete (pair_for c l)) ≡ rest_text c (l ∷ ls) good
  line_text l ls good =
      ap (λ (t : List ℕ). lines_text (pair_for c l) ++ t) (rest_is ls (good && lines_complete (pair_for c l)))
      ∙ go (lines_text (pair_for c l)) (reports_text c ls) (lines_complete (pair_for c l)) (all_complete c ls)
      ∙ sym (rest_is (l ∷ ls) good)
    where
      go : (text rest : List ℕ) (a b : Bool) → text ++ (rest ++ last_line (good && a && b)) ≡ (text ++ rest) ++ last_line (good && (a && b))
      go text rest a b = sym (append_assoc text rest (last_line (good && (a && b))) ∙ ap (λ (d : Bool). text ++ (rest ++ last_line d)) (and_assoc good a b))

  last_text : (good : Bool) → last_line good ++ [] ≡ rest_text c [] good
  last_text true = refl
  last_text false = refl

  module _ (s : List ℕ) (e : walk_of s ≡ charted c) where
    part_is : (k : ℕ) (good : Bool) → part_of s (suc k) good ≡ chart_part c (suc k) good
    unfolding part_of
    part_is k good = ap (λ (w : Walked). walked_part w (suc k) good) e

    abbrev onward : ℕ → ℕ → Part → List ℕ
    onward n k p = p.text ++ cond p.more (joined n s (suc k) p.good) []

    unfolded : (n k : ℕ) (good : Bool) (ls : List ChartLine) → drop k c.lines ≡ ls → k ≤ length c.lines → onward n k (chart_part c k good) ≡ onward n k (line_part c ls good)
    unfolded n k good ls d h =
        ap (λ (b : Bool). onward n k (cond b (line_part c (drop k c.lines) good) (last [] good))) (le-leb k (length c.lines) h)
        ∙ ap (λ (l : List ChartLine). onward n k (line_part c l good)) d

    chart-rest : (n k : ℕ) (good : Bool) (ls : List ChartLine) → drop k c.lines ≡ ls → k ≤ length c.lines → length ls ≤ n
        → onward n k (chart_part c k good) ≡ rest_text c ls good
    chart-rest n k good [] d h m = unfolded n k good [] d h ∙ last_text good
    chart-rest zero k good (l ∷ ls) d h m = absurd (omega arith)
    chart-rest (suc n) k good (l ∷ ls) d h m =
        let g = good && lines_complete (pair_for c l) in
        let z = drop_next k c.lines l ls d in
        unfolded (suc n) k good (l ∷ ls) d h
        ∙ ap (λ (t : List ℕ). lines_text (pair_for c l) ++ t) (ap (onward n (suc k)) (part_is k g) ∙ chart-rest n (suc k) g ls z.0 z.1 (omega arith))
        ∙ line_text l ls good

    -- a chart that is refused, and one that is not
    chart-joined : joined 66 s 0 true ≡ chart_text c
    unfolding part_of chart_text
    chart-joined = ap (λ (w : Walked). onward 65 0 (walked_part w 0 true)) e ∙ go (first_met (tests c)) refl
      where
        go : (t : Tested) → first_met (tests c) ≡ t → onward 65 0 (first_part c t) ≡ tested_text t (rest_text c c.lines true)
        go t f = by (eqb t.number 0) refl
          where
            by : (b : Bool) → eqb t.number 0 ≡ b → onward 65 0 (cond b (chart_part c 0 true) (last (refusal_line t.number t.place) true))
                ≡ cond b (rest_text c c.lines true) (refusal_line t.number t.place)
            by true h = chart-rest 65 0 true c.lines refl (omega arith) (few (ap (λ (x : Tested). eqb x.number 0) f ∙ h))
            by false h = append-nil (refusal_line t.number t.place)

pub instalments : Instalments
unfolding answer_of part_of
instalments s = go (walk_of s) refl
  where
    given : Part → List ℕ
    given p = p.text ++ cond p.more (joined 65 s 1 p.good) []

    go : (w : Walked) → walk_of s ≡ w → joined 66 s 0 true ≡ walked_text (walk_of s)
    go (charted c) e = chart-joined c s e ∙ ap walked_text (sym e)
    go (walked q) e = ap (λ (w : Walked). given (walked_part w 0 true)) e ∙ append-nil (lines_text q) ∙ ap walked_text (sym e)
    go (refused_as n) e = ap (λ (w : Walked). given (walked_part w 0 true)) e ∙ append-nil (refusal_line n 0) ∙ ap walked_text (sym e)
