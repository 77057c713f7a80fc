-- The calls on one cursor give the whole answer, and after it nothing. Assumes nothing.
use mathlib.Core.Path.{◌≡◌, refl, sym, ap, ◌∙◌}
use mathlib.Core.Bool.{Bool, true, false, cond, false≢true}
use mathlib.Core.List.{List, [], ◌∷◌, ◌++◌}
use Prim.Native.Nat.{ℕ, zero, suc, ◌+◌, ◌-◌, ◌≤◌, ◌<◌}
use native.Mathlib.Omega.{arith}
use borrow.Author.Tests.{le-leb, lt-leb, lt-ltb, leb-true, eqb-true}
use lib.Dec.{leb, eqb}
use lib.ListN.{length, get_or, take, drop, length-append, length-drop}
use Rattle.lists.specs.Parts.{patch}
use Rattle.walks.specs.Sheets.{ChartLine, Chart, Walked, walked, charted, refused_as, walk_of}
use Rattle.printing.specs.Printed.{refusal_line}
use Rattle.sheet.specs.Answers.{longest}
use Rattle.charts.specs.Charts.{Tested, first_met, tests, pair_for}
use Rattle.charts.specs.Answers.{Part, last, line_part, chart_part, walked_part, part_of, joined, answer_of}
use Rattle.charts.proofs.Joined.{few, instalments}
use Rattle.lovgurshem.specs.Sheets.{flags_word, next_part, NextCall, next_call, gave, call_next, calls_text, SomeBytes, WholeByCalls}
use Rattle.lovgurshem.proofs.Answered.{some_lines}
use Rattle.lovgurshem.proofs.Instalments.{no_bytes}

-- ---- parts of a chart
line_part_some : (c : Chart) (ls : List ChartLine) (good : Bool) → (line_part c ls good).more ≡ true → 1 ≤ length (line_part c ls good).text
line_part_some c [] good h = absurd (false≢true h)
line_part_some c (l ∷ ls) good h = some_lines (pair_for c l)

chart_part_some : (c : Chart) (k : ℕ) (good : Bool) → (chart_part c k good).more ≡ true → (k ≤ length c.lines) × (1 ≤ length (chart_part c k good).text)
chart_part_some c k good = by (leb k (length c.lines)) refl
  where
    by : (b : Bool) → leb k (length c.lines) ≡ b → (cond b (line_part c (drop k c.lines) good) (last [] good)).more ≡ true
        → (k ≤ length c.lines) × (1 ≤ length (cond b (line_part c (drop k c.lines) good) (last [] good)).text)
    by true e h = (leb-true _ _ e, line_part_some c (drop k c.lines) good h)
    by false e h = absurd (false≢true h)

pub some_bytes : SomeBytes
unfolding part_of
some_bytes s k good = by (walk_of s) k
  where
    at_first : (c : Chart) (t : Tested) (b : Bool) → let p = cond b (chart_part c 0 true) (last (refusal_line t.number t.place) true) in p.more ≡ true → 1 ≤ length p.text
    at_first c t true h = (chart_part_some c 0 true h).1
    at_first c t false h = absurd (false≢true h)

    by : (w : Walked) (k : ℕ) → (walked_part w k good).more ≡ true → 1 ≤ length (walked_part w k good).text
    by (charted c) zero h = at_first c (first_met (tests c)) (eqb (first_met (tests c)).number 0) h
    by (charted c) (suc k) h = (chart_part_some c (suc k) good h).1
    by (walked q) zero h = absurd (false≢true h)
    by (walked q) (suc k) h = absurd (false≢true h)
    by (refused_as n) zero h = absurd (false≢true h)
    by (refused_as n) (suc k) h = absurd (false≢true h)

-- ---- as many parts as there are: one more adds nothing
module _ (s : List ℕ) (c : Chart) (e : walk_of s ≡ charted c) where
  later_part : (k : ℕ) (good : Bool) → part_of s (suc k) good ≡ chart_part c (suc k) good
  unfolding part_of
  later_part k good = ap (λ (w : Walked). walked_part w (suc k) good) e

  abbrev onward : ℕ → ℕ → Part → List ℕ
  onward n k p = p.text ++ cond p.more (joined n s (suc k) p.good) []

  no_later : (n k : ℕ) (good : Bool) → length c.lines < n + suc k → joined (suc n) s (suc k) good ≡ joined n s (suc k) good
  no_later zero k good h =
      ap (onward zero (suc k)) (later_part k good ∙ ap (λ (b : Bool). cond b (line_part c (drop (suc k) c.lines) good) (last [] good)) (lt-leb (suc k) (length c.lines) (omega arith)))
  no_later (suc n) k good h = by (part_of s (suc k) good).more (no_later n (suc k) (part_of s (suc k) good).good (omega arith))
    where
      by : (b : Bool) → joined (suc n) s (suc (suc k)) (part_of s (suc k) good).good ≡ joined n s (suc (suc k)) (part_of s (suc k) good).good
          → (part_of s (suc k) good).text ++ cond b (joined (suc n) s (suc (suc k)) (part_of s (suc k) good).good) []
          ≡ (part_of s (suc k) good).text ++ cond b (joined n s (suc (suc k)) (part_of s (suc k) good).good) []
      by true i = ap (λ (t : List ℕ). (part_of s (suc k) good).text ++ t) i
      by false i = refl

-- the whole, with any number of calls that is enough
more_parts : (n : ℕ) (s : List ℕ) → 65 ≤ n → joined (suc (suc n)) s 0 true ≡ joined (suc n) s 0 true
unfolding part_of
more_parts n s h = go (walk_of s) refl
  where
    first : ℕ → Part → List ℕ
    first n p = p.text ++ cond p.more (joined n s 1 p.good) []

    go : (w : Walked) → walk_of s ≡ w → joined (suc (suc n)) s 0 true ≡ joined (suc n) s 0 true
    go (walked q) e = ap (λ (w : Walked). first (suc n) (walked_part w 0 true)) e ∙ sym (ap (λ (w : Walked). first n (walked_part w 0 true)) e)
    go (refused_as k) e = ap (λ (w : Walked). first (suc n) (walked_part w 0 true)) e ∙ sym (ap (λ (w : Walked). first n (walked_part w 0 true)) e)
    go (charted c) e =
        ap (λ (w : Walked). first (suc n) (walked_part w 0 true)) e ∙ by (eqb (first_met (tests c)).number 0) refl
        ∙ sym (ap (λ (w : Walked). first n (walked_part w 0 true)) e)
      where
        same : (p : Part) → length c.lines ≤ 65 → first (suc n) p ≡ first n p
        same p f = ap (λ (t : List ℕ). p.text ++ cond p.more t []) (no_later s c e n 0 p.good (omega arith))

        by : (b : Bool) → eqb (first_met (tests c)).number 0 ≡ b
            → let t = first_met (tests c) in
            first (suc n) (cond b (chart_part c 0 true) (last (refusal_line t.number t.place) true))
            ≡ first n (cond b (chart_part c 0 true) (last (refusal_line t.number t.place) true))
        by true f = same (chart_part c 0 true) (few c f)
        by false f = refl

enough_parts : (d : ℕ) (s : List ℕ) → joined (d + 66) s 0 true ≡ answer_of s
enough_parts zero s = instalments s
enough_parts (suc d) s =
    ap (λ (m : ℕ). joined m s 0 true) (let z : suc d + 66 ≡ suc (suc (d + 65)) = omega arith in z) ∙ more_parts (d + 65) s (omega arith)
    ∙ ap (λ (m : ℕ). joined m s 0 true) (let z : suc (d + 65) ≡ d + 66 = omega arith in z) ∙ enough_parts d s

-- ---- the calls
take_front : (t r : List ℕ) → take (length t) (t ++ r) ≡ t
take_front [] r = refl
take_front (x ∷ t) r = ap (λ (l : List ℕ). x ∷ l) (take_front t r)

no_shorter : (l t : List ℕ) → length l ≤ length (patch l 0 t)
no_shorter l t = simp (length-append, length-drop) (omega arith)

module _ (s : List ℕ) where
  -- a cursor with these words, in a buffer that is long enough
  called : (ws out : List ℕ) (p : Part) → 2 ≤ length ws → longest ≤ length out → next_part s (get_or ws 0 0) (get_or ws 1 0) ≡ p → call_next s ws out ≡ gave ws out p
  unfolding call_next
  called ws out p h r e = rw (le-leb 2 (length ws) h, le-leb longest (length out) r) (ap (gave ws out) e)

  -- behind the last instalment there is none
  none_behind : (n : ℕ) (ws out : List ℕ) → 2 ≤ length ws → longest ≤ length out → next_part s (get_or ws 0 0) (get_or ws 1 0) ≡ last [] true → calls_text n s ws out ≡ []
  none_behind zero ws out h r e = refl
  none_behind (suc n) ws out h r e =
      ap (λ (x : NextCall). cond (eqb x.length 0) [] (take x.length x.out ++ calls_text n s x.cursor x.out)) (called ws out (last [] true) h r e)

  flags_read : (k : ℕ) (good : Bool) → next_part s (suc k) (flags_word true good) ≡ part_of s (suc k) good
  unfolding next_part
  flags_read k true = rw (lt-ltb 0 (suc k) (omega arith)) refl
  flags_read k false = rw (lt-ltb 0 (suc k) (omega arith)) refl

  flags_end : (k : ℕ) (good : Bool) → next_part s (suc k) (flags_word false good) ≡ last [] true
  unfolding next_part
  flags_end k good = rw (lt-ltb 0 (suc k) (omega arith)) refl

  -- what n calls more give behind this one
  abbrev from : ℕ → NextCall → List ℕ
  from n x = cond (eqb x.length 0) [] (take x.length x.out ++ calls_text n s x.cursor x.out)

  -- a call, given what the calls behind it give
  module _ (n k : ℕ) (ws out : List ℕ) (h : 2 ≤ length ws) (r : longest ≤ length out) (z : get_or ws 0 0 ≡ k) (text : List ℕ) (good : Bool) where
    abbrev part : Bool → Part
    part more = record { text = text; more = more; good = good }

    abbrev words : Bool → List ℕ
    words more = patch ws 0 (suc (get_or ws 0 0) ∷ flags_word more good ∷ [])

    none_given : (more : Bool) → eqb (length text) 0 ≡ true → (more ≡ true → 1 ≤ length text) → from n (gave ws out (part more)) ≡ text ++ cond more (joined n s (suc k) good) []
    none_given true e some = absurd (let a = eqb-true (length text) 0 e in let b = some refl in omega (arith, a, b))
    none_given false e some =
        ap (λ (b : Bool). from n (cond b (next_call 0 ws out) (next_call (length text) (words false) (patch out 0 text)))) e
        ∙ sym (ap (λ (t : List ℕ). t ++ []) (no_bytes text (eqb-true (length text) 0 e)))

    some_given : (more : Bool) → eqb (length text) 0 ≡ false → calls_text n s (words more) (patch out 0 text) ≡ cond more (joined n s (suc k) good) []
        → from n (gave ws out (part more)) ≡ text ++ cond more (joined n s (suc k) good) []
    some_given more e i =
        ap (λ (b : Bool). from n (cond b (next_call 0 ws out) (next_call (length text) (words more) (patch out 0 text)))) e
        ∙ ap (λ (b : Bool). cond b [] (take (length text) (patch out 0 text) ++ calls_text n s (words more) (patch out 0 text))) e
        ∙ (λ j. take_front text (drop (0 + length text) out) j ++ i j)

    given : (more : Bool) → (more ≡ true → 1 ≤ length text)
        → ((ws' out' : List ℕ) → 2 ≤ length ws' → longest ≤ length out' → get_or ws' 0 0 ≡ suc k → next_part s (get_or ws' 0 0) (get_or ws' 1 0) ≡ part_of s (suc k) good
        → calls_text n s ws' out' ≡ joined n s (suc k) good)
        → from n (gave ws out (part more)) ≡ text ++ cond more (joined n s (suc k) good) []
    given more some next = by (eqb (length text) 0) refl
      where
        long : longest ≤ length (patch out 0 text)
        long = let a = no_shorter out text in omega (arith, a, r)

        two : (more : Bool) → 2 ≤ length (words more)
        two more = let a = no_shorter ws (suc (get_or ws 0 0) ∷ flags_word more good ∷ []) in omega (arith, a, h)

        behind : (more : Bool) → calls_text n s (words more) (patch out 0 text) ≡ cond more (joined n s (suc k) good) []
        behind true = next (words true) (patch out 0 text) (two true) long (ap suc z) (ap (λ (m : ℕ). next_part s (suc m) (flags_word true good)) z ∙ flags_read k good)
        behind false = none_behind n (words false) (patch out 0 text) (two false) long (flags_end (get_or ws 0 0) good)

        by : (b : Bool) → eqb (length text) 0 ≡ b → from n (gave ws out (part more)) ≡ text ++ cond more (joined n s (suc k) good) []
        by true e = none_given more e some
        by false e = some_given more e (behind more)

  calls_parts : (n k : ℕ) (good : Bool) (ws out : List ℕ) → 2 ≤ length ws → longest ≤ length out → get_or ws 0 0 ≡ k
      → next_part s (get_or ws 0 0) (get_or ws 1 0) ≡ part_of s k good → calls_text n s ws out ≡ joined n s k good
  calls_parts zero k good ws out h r z e = refl
  calls_parts (suc n) k good ws out h r z e =
      let p = part_of s k good in
      ap (from n) (called ws out p h r e)
      ∙ given n k ws out h r z p.text p.good p.more (some_bytes s k good) (λ ws' out' h' r' z' e'. calls_parts n (suc k) p.good ws' out' h' r' z' e')

-- the first instalment doesn't read what was said before
first_any : (s : List ℕ) (k w : ℕ) → k ≡ 0 → next_part s k w ≡ part_of s 0 true
unfolding next_part part_of
first_any s k w e = rw e (by (walk_of s))
  where
    by : (v : Walked) → walked_part v 0 (eqb w 1) ≡ walked_part v 0 true
    by (walked q) = refl
    by (charted c) = refl
    by (refused_as n) = refl

pub whole_by_calls : WholeByCalls
whole_by_calls n s ws out m h z r =
    calls_parts s n 0 true ws out h r z (first_any s (get_or ws 0 0) (get_or ws 1 0) z)
    ∙ ap (λ (k : ℕ). joined k s 0 true) (let e : n ≡ n - 66 + 66 = omega arith in e) ∙ enough_parts (n - 66) s
