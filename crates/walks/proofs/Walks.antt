-- Laws of the walk: what each test at a word gives, and how parts join to lines. Assumes nothing.
use mathlib.Core.Path.{◌≡◌, refl, sym, ap, ◌∙◌, subst}
use mathlib.Core.Bool.{Bool, true, false}
use mathlib.Core.List.{List}
use Prim.Native.Nat.{ℕ, ◌+◌, ◌-◌, ◌≤◌, ◌<◌}
use native.Mathlib.Omega.{arith}
use lib.Dec.{eqb}
use lib.ListN.{length}
use borrow.Author.Tests.{lt-ltb, le-ltb, eq-eqb, ne_eqb}
use Rattle.walks.specs.Words.{word_at, kind_of, count_of}
use Rattle.walks.specs.Sheets.{Walked, refused_as, bad_count, size_of, part_of, word_stands, weights_of, line_kind, line_after, line_stands}
use Rattle.walks.specs.Places.{sheet_error_number, line_in, part_at, weights_at, line_at, ChartLineInside, PartFound, PartFits, LineFits}
use Rattle.walks.specs.declared.Part.{Part}
use Rattle.walks.specs.declared.Line.{Line}
use Rattle.walks.specs.declared.SheetError.{SheetError}
use Rattle.walks.specs.declared.SheetError.TheVariants.{BadLength, BadWord, BadEnd}
use Rattle.std.specs.Prelude.{Result, Ok, Err, IfOk, IsOk}

-- ---- the tests at one word
module _ (s : List ℕ) (kind at : ℕ) where
  pub no_word : at ≤ length s → length s - at < 4 → (go : ℕ → ℕ → ℕ → Walked) → part_of s kind at go ≡ refused_as 3
  unfolding part_of
  no_word h k go = simp (lt-ltb (length s) (at + 4) (omega arith))

  module _ (w : ℕ) (is : w ≡ word_at s at) (room : 4 ≤ length s - at) where
    pub other_kind : (kind_of w ≡ kind → ⊥) → (go : ℕ → ℕ → ℕ → Walked) → part_of s kind at go ≡ refused_as 2
    unfolding part_of
    other_kind k go = rw (← is) (simp (le-ltb (length s) (at + 4) (omega arith), ne_eqb (kind_of w) kind k))

    module _ (same : kind_of w ≡ kind) where
      pub wrong_count : bad_count kind (count_of w) ≡ true → (go : ℕ → ℕ → ℕ → Walked) → part_of s kind at go ≡ refused_as 2
      unfolding part_of
      wrong_count b go = rw (← is) (simp (le-ltb (length s) (at + 4) (omega arith), eq-eqb (kind_of w) kind same, b))

      module _ (r : ℕ) (size : r ≡ size_of kind (count_of w)) (good : bad_count kind (count_of w) ≡ false) where
        pub too_long : length s - (at + 4) < r → (go : ℕ → ℕ → ℕ → Walked) → part_of s kind at go ≡ refused_as 3
        unfolding part_of
        too_long l go =
            rw (← is, ← size)
            (simp (le-ltb (length s) (at + 4) (omega arith), eq-eqb (kind_of w) kind same, good, lt-ltb (length s) (at + 4 + r) (omega arith)))

        pub found : r ≤ length s - (at + 4) → (go : ℕ → ℕ → ℕ → Walked) → part_of s kind at go ≡ go (count_of w) (at + 4) (at + 4 + r)
        unfolding part_of
        found l go = rw (← is, ← size) (simp (le-ltb (length s) (at + 4) (omega arith), eq-eqb (kind_of w) kind same, good, le-ltb (length s) (at + 4 + r) (omega arith)))

-- the part that was found is the one that stands there
pub found_is : (s : List ℕ) (kind at w r : ℕ) → w ≡ word_at s at → r ≡ size_of kind (count_of w)
    → ◌≡◌ {A = Part} (record { count = count_of w; at = at + 4; next = at + 4 + r }) (part_at s kind at)
unfolding part_at
found_is s kind at w r is size = rw (← is, ← size) refl

-- ---- a word of this kind stands there, or another, or none
module _ (s : List ℕ) (kind at : ℕ) where
  pub word-left : (w : ℕ) → w ≡ word_at s at → 4 ≤ length s - at → eqb (kind_of w) kind ≡ word_stands s kind at
  unfolding word_stands
  word-left w is h = rw (← is) (simp (le-ltb (length s) (at + 4) (omega arith)))

  pub none_left : at ≤ length s → length s - at < 4 → false ≡ word_stands s kind at
  unfolding word_stands
  none_left h k = simp (lt-ltb (length s) (at + 4) (omega arith))

-- ---- a line starts there, open or closed
module _ (s : List ℕ) (at : ℕ) {one : Bool} (is : one ≡ word_stands s 1 at) where
  pub line_open : one ≡ true → one ≡ line_stands s at
  unfolding line_stands
  line_open e = rw (← is, e) refl

  pub line_other : {other : Bool} → one ≡ false → other ≡ word_stands s 8 at → other ≡ line_stands s at
  unfolding line_stands
  line_other e f = rw (← is, e, f) refl

-- ---- weights, there or not
module _ (s : List ℕ) (at : ℕ) {stands : Bool} (is : stands ≡ word_stands s 5 at) where
  pub weights_there : stands ≡ true → (go : ℕ → ℕ → ℕ → Walked) → weights_of s at go ≡ part_of s 5 at go
  unfolding weights_of
  weights_there e go = rw (← is, e) refl

  pub weights_there_is : stands ≡ true → part_at s 5 at ≡ weights_at s at
  unfolding weights_at
  weights_there_is e = rw (← is, e) refl

  pub weights_absent : stands ≡ false → (go : ℕ → ℕ → ℕ → Walked) → weights_of s at go ≡ go 0 at at
  unfolding weights_of
  weights_absent e go = rw (← is, e) refl

  pub weights_absent_is : stands ≡ false → ◌≡◌ {A = Part} (record { count = 0; at = at; next = at }) (weights_at s at)
  unfolding weights_at
  weights_absent_is e = rw (← is, e) refl

-- ---- a part by what the walk says of it, refused or found
module _ {s : List ℕ} {walk : (ℕ → ℕ → ℕ → Walked) → Walked} {size : ℕ → ℕ} {there : Part} where
  pub part_refused : (e : SheetError) → ((go : ℕ → ℕ → ℕ → Walked) → walk go ≡ refused_as (sheet_error_number e)) → PartFits s walk size there (Err e)
  part_refused e f = record { says = f; found = tt }

  pub part_found : (p : Part) → ((go : ℕ → ℕ → ℕ → Walked) → walk go ≡ go p.count p.at p.next) → PartFound s size there p → PartFits s walk size there (Ok p)
  part_found p f g = record { says = f; found = g }

-- the same walk in other words
pub part_over : (s : List ℕ) (walk walk' : (ℕ → ℕ → ℕ → Walked) → Walked) (size : ℕ → ℕ) (there there' : Part) (r : Result Part SheetError)
    → ((go : ℕ → ℕ → ℕ → Walked) → walk go ≡ walk' go) → there' ≡ there → PartFits s walk' size there' r → PartFits s walk size there r
part_over s walk walk' size there there' r f e h = record { says = λ go. f go ∙ h.says go; found = subst (λ t. IfOk r (PartFound s size t)) e h.found }

-- ---- five parts and the datum are a line
line_is : (s : List ℕ) (at : ℕ) {D K M P W N : Part} → D ≡ part_at s (line_kind (word_stands s 8 at)) at → K ≡ part_at s 2 D.next → M ≡ part_at s 3 K.next
    → P ≡ part_at s 4 M.next → W ≡ weights_at s P.next → N ≡ part_at s 9 W.next
    → ◌≡◌ {A = Line} (record { closed = word_stands s 8 at; degree = D.count; knots = K; mults = M; poles = P; weights = W; datum = N.count; next = N.next }) (line_at s at)
unfolding line_at part_at
line_is s at d k m p w n = rw (n, w, p, m, k, d) refl

abbrev Fits : List ℕ → ℕ → ℕ → Result Part SheetError → Type 0
Fits s kind at r = PartFits s (part_of s kind at) (size_of kind) (part_at s kind at) r

opening : {s : List ℕ} (at : ℕ) {kind : ℕ} {closed : Bool} {r : Result Part SheetError} → closed ≡ word_stands s 8 at → kind ≡ line_kind closed → Fits s kind at r
    → Fits s (line_kind (word_stands s 8 at)) at r
opening {s} at {kind} {closed} {r} is opens d = subst (λ z. Fits s z at r) (opens ∙ ap line_kind is) d

-- the first part that is refused refuses the line
module _ {s : List ℕ} {at kind : ℕ} {closed : Bool} (is : closed ≡ word_stands s 8 at) (opens : kind ≡ line_kind closed) where
  pub no_degree : {e : SheetError} → Fits s kind at (Err e) → LineFits s at (Err e)
  unfolding line_after
  no_degree d = record { says = λ go. (opening at is opens d).says _; found = tt }

  module _ {D : Part} (d : Fits s kind at (Ok D)) where
    pub no_knots : {e : SheetError} → Fits s 2 D.next (Err e) → LineFits s at (Err e)
    unfolding line_after
    no_knots k = record { says = λ go. (opening at is opens d).says _ ∙ k.says _; found = tt }

    module _ {K : Part} (k : Fits s 2 D.next (Ok K)) where
      pub no_mults : {e : SheetError} → Fits s 3 K.next (Err e) → LineFits s at (Err e)
      unfolding line_after
      no_mults m = record { says = λ go. (opening at is opens d).says _ ∙ k.says _ ∙ m.says _; found = tt }

      module _ {M : Part} (m : Fits s 3 K.next (Ok M)) where
        pub no_poles : {e : SheetError} → Fits s 4 M.next (Err e) → LineFits s at (Err e)
        unfolding line_after
        no_poles p = record { says = λ go. (opening at is opens d).says _ ∙ k.says _ ∙ m.says _ ∙ p.says _; found = tt }

        module _ {P : Part} (p : Fits s 4 M.next (Ok P)) where
          pub no_weights : {e : SheetError} → PartFits s (weights_of s P.next) (size_of 5) (weights_at s P.next) (Err e) → LineFits s at (Err e)
          unfolding line_after
          no_weights w = record { says = λ go. (opening at is opens d).says _ ∙ k.says _ ∙ m.says _ ∙ p.says _ ∙ w.says _; found = tt }

          module _ {W : Part} (w : PartFits s (weights_of s P.next) (size_of 5) (weights_at s P.next) (Ok W)) where
            pub no_datum : {e : SheetError} → Fits s 9 W.next (Err e) → LineFits s at (Err e)
            unfolding line_after
            no_datum t = record { says = λ go. (opening at is opens d).says _ ∙ k.says _ ∙ m.says _ ∙ p.says _ ∙ w.says _ ∙ t.says _; found = tt }

            pub line_fits : {N : Part} → Fits s 9 W.next (Ok N)
                → LineFits s at (Ok (record { closed = closed; degree = D.count; knots = K; mults = M; poles = P; weights = W; datum = N.count; next = N.next }))
            unfolding line_after line_in size_of
            line_fits {N} t =
                subst (λ c. LineFits s at (Ok (record { closed = c; degree = D.count; knots = K; mults = M; poles = P; weights = W; datum = N.count; next = N.next }))) (sym is) (record {
                  says = λ go. (opening at is opens d).says _ ∙ k.says _ ∙ m.says _ ∙ p.says _ ∙ w.says _ ∙ t.says _;
                  found = record {
                    before = t.found.before;
                    fits = record { knots = k.found.fits; mults = m.found.fits; poles = p.found.fits; weights = w.found.fits };
                    is = line_is s at (opening at is opens d).found.is k.found.is m.found.is p.found.is w.found.is t.found.is;
                  };
                })

-- ---- a line that a walk has passed is not refused
refusing : (e : SheetError) → refused_as (sheet_error_number e) ≡ refused_as 0 → ⊥
refusing BadLength e = cc
refusing BadWord e = cc
refusing BadEnd e = cc

pub line_there : (s : List ℕ) (at : ℕ) (r : Result Line SheetError) → ChartLineInside s at → LineFits s at r → IsOk r
line_there s at (Ok l) h f = refl
line_there s at (Err e) h f = absurd (refusing e (sym (f.says (λ _ _. refused_as 0)) ∙ h.walks (λ _ _. refused_as 0)))
