-- Laws of charts: a line with its range, lines one behind the other, the question and the end, and the sheet of these. Assumes nothing.
use mathlib.Core.Path.{◌≡◌, refl, sym, ap, ◌∙◌, subst}
use mathlib.Core.Bool.{Bool, true, false, cond, not, ◌&&◌, ◌||◌}
use mathlib.Core.List.{List, ◌∷◌}
use Prim.Native.Nat.{ℕ, zero, suc, ◌+◌, ◌≤◌}
use native.Mathlib.Omega.{arith}
use lib.Dec.{T, eqb, ltb}
use lib.ListN.{length}
use borrow.Author.Tests.{ltb-false, eq-eqb, ne_eqb}
use Rattle.walks.specs.Words.{word_at, kind_of, float_at}
use Rattle.walks.specs.Sheets.{ChartLine, Walked, charted, refused_as, bad_length, size_of, part_of, word_stands, line_kind, line_stands, line_after, range_after, lines_after, closing, chart_of, walk_of}
use Rattle.walks.specs.Places.{sheet_error_number, onward, line_in, part_at, weights_at, line_at, chart_line_at, behind_at, lines_at, question_in, chart_in, sheet_in, LineInside, LinesInside, PartFits, LineFits, ChartLineFits, LinesFound, LinesFits, ClosingFits}
use Rattle.walks.specs.declared.Part.{Part}
use Rattle.walks.specs.declared.Line.{Line}
use Rattle.walks.specs.declared.Lines.{Lines}
use Rattle.walks.specs.declared.Closing.{Closing}
use Rattle.walks.specs.declared.Sheet.{Sheet}
use Rattle.walks.specs.declared.Sheet.TheVariants.{Pair, Chart}
use Rattle.walks.specs.declared.SheetError.{SheetError}
use Rattle.walks.specs.declared.SheetError.TheVariants.{BadLength, BadEnd}
use Rattle.std.specs.Prelude.{Result, Ok, Err, IfOk}

-- ---- a line takes more than one byte
part_further : (s : List ℕ) (kind at : ℕ) → at ≤ (part_at s kind at).next
unfolding part_at
part_further s kind at = omega arith

weights_further : (s : List ℕ) (at : ℕ) → at ≤ (weights_at s at).next
unfolding weights_at
weights_further s at = by (word_stands s 5 at)
  where
    by : (b : Bool) → at ≤ (cond b (part_at s 5 at) (record { count = 0; at = at; next = at })).next
    by true = part_further s 5 at
    by false = omega arith

pub behind_further : (s : List ℕ) (at : ℕ) → at + 20 ≤ behind_at s at
unfolding behind_at line_at
behind_further s at =
    let degree = part_at s (line_kind (word_stands s 8 at)) at in
    let knots = part_at s 2 degree.next in
    let mults = part_at s 3 knots.next in
    let poles = part_at s 4 mults.next in
    let weights = weights_at s poles.next in
    omega (
      arith,
      part_further s (line_kind (word_stands s 8 at)) at,
      part_further s 2 degree.next,
      part_further s 3 knots.next,
      part_further s 4 mults.next,
      weights_further s poles.next,
      part_further s 9 weights.next,
    )

-- ---- a line and the part of kind 11 behind it are a chart's line
chart_line_is : (s : List ℕ) (at : ℕ) {l : Line} {p : Part} → l ≡ line_at s at → p ≡ part_at s 11 l.next
    → ◌≡◌ {A = ChartLine} (record { line = line_in s l; lo = float_at s p.at; hi = float_at s (p.at + 8) }) (chart_line_at s at)
unfolding chart_line_at part_at
chart_line_is s at e f =
    let k : (line_at s at).next + 4 + 8 ≡ (line_at s at).next + 12 = omega arith in
    rw (f, e, k) refl

range_behind : (s : List ℕ) (at : ℕ) {l : Line} {p : Part} → l ≡ line_at s at → p ≡ part_at s 11 l.next → p.next ≡ behind_at s at
unfolding behind_at part_at size_of
range_behind s at e f = rw (f, e) (omega arith)

module _ (s : List ℕ) (at : ℕ) where
  pub chart_line_none : {e : SheetError} → LineFits s at (Err e) → ChartLineFits s at (Err e)
  chart_line_none f = record { says = λ go. f.says _; found = tt }

  pub chart_line_fits : (l : Line) (r : Result Part SheetError) → at ≤ length s → LineFits s at (Ok l)
      → PartFits s (part_of s 11 l.next) (size_of 11) (part_at s 11 l.next) r → ChartLineFits s at r
  unfolding range_after
  chart_line_fits l (Err e) h f r = record { says = λ go. f.says _ ∙ r.says _; found = tt }
  chart_line_fits l (Ok p) h f r =
      let e = f.found.is in
      let b = range_behind s at e r.found.is in
      record {
        says = λ go. f.says _ ∙ r.says _ ∙ ap (λ c. go c p.next) (chart_line_is s at e r.found.is);
        found = record {
          before = r.found.before;
          fits = record {
            starts = h;
            walks = λ go. f.says go ∙ ap (λ k. go (line_in s k) k.next) e;
            line = subst (λ k. LineInside (length s) k) e f.found.fits;
            range = subst (λ k. k ≤ length s) b r.found.before;
          };
          behind = b;
        };
      }

-- ---- no line, or one more
stands_room : (s : List ℕ) (at : ℕ) → line_stands s at ≡ true → at + 4 ≤ length s
unfolding line_stands word_stands
stands_room s at e = by (ltb (length s) (at + 4)) refl e
  where
    by : (b : Bool) → ltb (length s) (at + 4) ≡ b
        → ((not b && eqb (kind_of (word_at s at)) 1) || (not b && eqb (kind_of (word_at s at)) 8)) ≡ true → at + 4 ≤ length s
    by true h k = absurd (subst T (sym k) tt)
    by false h k = omega (arith, ltb-false)

pub no_line : (s : List ℕ) (at : ℕ) → at ≤ length s → line_stands s at ≡ false → LinesFits s at (Ok (record { count = 0; next = at }))
unfolding lines_after lines_at
no_line s at h e = record { says = says; found = record { before = h; fits = tt } }
  where
    says : (bound : ℕ) → length s ≤ bound + at → (go : List ChartLine → ℕ → Walked) → lines_after bound s at go ≡ go (lines_at s 0 at) at
    says zero b go = refl
    says (suc n) b go = rw e refl

module _ (s : List ℕ) (at : ℕ) (r : Result Part SheetError) (stands : line_stands s at ≡ true) (f : ChartLineFits s at r) where
  -- one turn: what follows the line, or its refusal
  turn : (n : ℕ) (go : List ChartLine → ℕ → Walked)
      → lines_after (suc n) s at go ≡ onward r (λ (p : Part). lines_after n s p.next (λ ls e. go (chart_line_at s at ∷ ls) e))
  unfolding lines_after
  turn n go = rw stands (f.says _)

line_refused : (s : List ℕ) (at : ℕ) (e : SheetError) → line_stands s at ≡ true → ChartLineFits s at (Err e) → LinesFits s at (Err e)
line_refused s at e stands f = record { says = says; found = tt }
  where
    says : (bound : ℕ) → length s ≤ bound + at → (go : List ChartLine → ℕ → Walked) → lines_after bound s at go ≡ refused_as (sheet_error_number e)
    says zero b go = absurd (omega (arith, stands_room s at stands))
    says (suc n) b go = turn s at (Err e) stands f n go

-- so many lines more
abbrev add : ℕ → Lines → Lines
add n r = record { count = n + r.count; next = r.next }

abbrev more : ℕ → Result Lines SheetError → Result Lines SheetError
more n (Ok r) = Ok (add n r)
more n (Err e) = Err e

line_more : (s : List ℕ) (at : ℕ) (p : Part) → line_stands s at ≡ true → ChartLineFits s at (Ok p) → (r : Result Lines SheetError) → LinesFits s p.next r
    → LinesFits s at (more 1 r)
unfolding lines_at
line_more s at p stands f r g = record { says = says; found = found r g.found }
  where
    one : (n : ℕ) → 1 + n ≡ suc n
    one n = omega arith

    found : (r : Result Lines SheetError) → IfOk r (LinesFound s p.next) → IfOk (more 1 r) (LinesFound s at)
    found (Err e) k = tt
    found (Ok q) k = record { before = k.before; fits = subst (λ z. LinesInside s z at) (sym (one q.count)) (f.found.fits, subst (LinesInside s q.count) f.found.behind k.fits) }

    join : (r : Result Lines SheetError) (go : List ChartLine → ℕ → Walked)
        → onward r (λ (q : Lines). go (chart_line_at s at ∷ lines_at s q.count p.next) q.next) ≡ onward (more 1 r) (λ (q : Lines). go (lines_at s q.count at) q.next)
    join (Err e) go = refl
    join (Ok q) go = rw (f.found.behind, one q.count) refl

    says : (bound : ℕ) → length s ≤ bound + at → (go : List ChartLine → ℕ → Walked) → lines_after bound s at go ≡ onward (more 1 r) (λ (q : Lines). go (lines_at s q.count at) q.next)
    says zero b go = absurd (omega (arith, stands_room s at stands))
    says (suc n) b go =
        turn s at (Ok p) stands f n go
        ∙ g.says n (omega (arith, f.found.behind, behind_further s at)) (λ ls e. go (chart_line_at s at ∷ ls) e)
        ∙ join r go

-- ---- from place `at` to `place`, over `count` lines: what fits from there on fits from `at` on, with so many lines more
abbrev pub Passed : List ℕ → ℕ → ℕ → ℕ → Type 0
Passed s at place count = (r : Result Lines SheetError) → LinesFits s place r → LinesFits s at (more count r)

pub passed_none : (s : List ℕ) (at : ℕ) → Passed s at at 0
passed_none s at (Err e) f = f
passed_none s at (Ok r) f = let e : r.count ≡ 0 + r.count = omega arith in subst (λ k. LinesFits s at (Ok (record { count = k; next = r.next }))) e f

module _ (s : List ℕ) (at place count : ℕ) (passed : Passed s at place count) where
  pub passed_more : (p : Part) → line_stands s place ≡ true → ChartLineFits s place (Ok p) → Passed s at p.next (count + 1)
  passed_more p stands f (Err e) g = passed (Err e) (line_more s place p stands f (Err e) g)
  passed_more p stands f (Ok r) g =
      let e : count + (1 + r.count) ≡ count + 1 + r.count = omega arith in
      subst (λ k. LinesFits s at (Ok (record { count = k; next = r.next }))) e (passed (Ok (add 1 r)) (line_more s place p stands f (Ok r) g))

  pub passed-refused : (e : SheetError) → line_stands s place ≡ true → ChartLineFits s place (Err e) → LinesFits s at (Err e)
  passed-refused e stands f = passed (Err e) (line_refused s place e stands f)

  pub passed_all : place ≤ length s → line_stands s place ≡ false → LinesFits s at (Ok (record { count = count; next = place }))
  passed_all h e =
      let z : count + 0 ≡ count = omega arith in
      subst (λ k. LinesFits s at (Ok (record { count = k; next = place }))) z (passed (Ok (record { count = 0; next = place })) (no_line s place h e))

-- a bound of one more: the line that stands there, and the others
one_more : (s : List ℕ) (n at : ℕ) → line_stands s at ≡ true → (go : List ChartLine → ℕ → Walked)
    → lines_after (suc n) s at go ≡ line_after s at (λ l a. range_after s l a (λ c b. lines_after n s b (λ cs e. go (c ∷ cs) e)))
unfolding lines_after
one_more s n at e go = rw e refl

-- ---- the question and the end
module _ {s : List ℕ} {at : ℕ} where
  pub no_question : {e : SheetError} → PartFits s (part_of s 6 at) (size_of 6) (part_at s 6 at) (Err e) → ClosingFits s at (Err e)
  unfolding closing
  no_question f = record { says = λ go. f.says _; found = tt }

  module _ {q : Part} (fq : PartFits s (part_of s 6 at) (size_of 6) (part_at s 6 at) (Ok q)) where
    pub no_end : {e : SheetError} → PartFits s (part_of s 7 q.next) (size_of 7) (part_at s 7 q.next) (Err e) → ClosingFits s at (Err e)
    unfolding closing
    no_end f = record { says = λ go. fq.says _ ∙ f.says _; found = tt }

    module _ {e : Part} (fe : PartFits s (part_of s 7 q.next) (size_of 7) (part_at s 7 q.next) (Ok e)) where
      pub goes_on : (e.next ≡ length s → ⊥) → ClosingFits s at (Err BadEnd)
      unfolding closing
      goes_on h = record { says = λ go. fq.says _ ∙ fe.says _ ∙ simp (ne_eqb e.next (length s) h); found = tt }

      pub closing_fits : e.next ≡ length s → ClosingFits s at (Ok (record { splits = q.count; asked = q.at }))
      unfolding closing size_of
      closing_fits h = record { says = λ go. fq.says _ ∙ fe.says _ ∙ simp (eq-eqb e.next (length s) h); found = fq.found.fits }

-- ---- the three forms of a sheet: no line follows the track, a kind 11 word follows the second line, or neither
abbrev Walks : List ℕ → Result Sheet SheetError → Type 0
Walks s r = walk_of s ≡ onward r (sheet_in s)

pub not_long : (s : List ℕ) → bad_length (length s) ≡ true → Walks s (Err BadLength)
unfolding walk_of
not_long s h = rw h refl

module _ (s : List ℕ) (good : bad_length (length s) ≡ false) where
  pub no_track : {e : SheetError} → LineFits s 0 (Err e) → Walks s (Err e)
  unfolding walk_of
  no_track f = rw good (f.says _)

  module _ {f : Line} (lf : LineFits s 0 (Ok f)) where
    module _ (none : line_stands s f.next ≡ false) where
      pub alone_refused : {e : SheetError} → ClosingFits s f.next (Err e) → Walks s (Err e)
      unfolding walk_of
      alone_refused fe = rw good (lf.says _ ∙ rw none (fe.says _))

      pub track_alone : {e : Closing} → ClosingFits s f.next (Ok e) → Walks s (Ok (Chart (record { first = f; lines = 0; splits = e.splits; asked = e.asked })))
      unfolding walk_of chart_in lines_at
      track_alone fe = rw good (lf.says _ ∙ rw none (fe.says _))

    module _ (stands : line_stands s f.next ≡ true) where
      pub no_second : {e : SheetError} → LineFits s f.next (Err e) → Walks s (Err e)
      unfolding walk_of
      no_second lg = rw good (lf.says _ ∙ rw stands (lg.says _))

      module _ {g : Line} (lg : LineFits s f.next (Ok g)) where
        module _ (none : word_stands s 11 g.next ≡ false) where
          pub pair_refused : {e : SheetError} → ClosingFits s g.next (Err e) → Walks s (Err e)
          unfolding walk_of
          pair_refused fe = rw good (lf.says _ ∙ rw stands (lg.says _ ∙ rw none (fe.says _)))

          pub pair_sheet : {e : Closing} → ClosingFits s g.next (Ok e) → Walks s (Ok (Pair (record { first = f; second = g; splits = e.splits; asked = e.asked })))
          unfolding walk_of question_in
          pair_sheet fe = rw good (lf.says _ ∙ rw stands (lg.says _ ∙ rw none (fe.says _)))

        module _ (range : word_stands s 11 g.next ≡ true) where
          -- the second line is the first of the chart's lines
          again : (go : List ChartLine → ℕ → Walked)
              → range_after s (line_in s g) g.next (λ c b. lines_after (length s) s b (λ cs d. go (c ∷ cs) d)) ≡ lines_after (suc (length s)) s f.next go
          again go = sym (lg.says _) ∙ sym (one_more s (length s) f.next stands go)

          walks : {r : Result Lines SheetError} → LinesFits s f.next r
              → walk_of s ≡ onward r (λ (r : Lines). closing s r.next (λ n q. charted (chart_of s (line_in s f) (lines_at s r.count f.next) n q)))
          unfolding walk_of
          walks fl =
              rw good (lf.says _ ∙ rw stands (lg.says _ ∙ rw range (
              again (λ cs d. closing s d (λ n q. charted (chart_of s (line_in s f) cs n q))) ∙ fl.says (suc (length s)) (omega arith) _)))

          pub lines_refused : {e : SheetError} → LinesFits s f.next (Err e) → Walks s (Err e)
          lines_refused fl = walks fl

          module _ {ls : Lines} (fl : LinesFits s f.next (Ok ls)) where
            pub chart_refused : {e : SheetError} → ClosingFits s ls.next (Err e) → Walks s (Err e)
            chart_refused fe = walks fl ∙ fe.says _

            pub chart_sheet : {e : Closing} → ClosingFits s ls.next (Ok e) → Walks s (Ok (Chart (record { first = f; lines = ls.count; splits = e.splits; asked = e.asked })))
            unfolding chart_in
            chart_sheet fe = walks fl ∙ fe.says _
