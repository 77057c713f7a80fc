-- The call for the next instalment from what `charts::next` gives. Assumes nothing.
use mathlib.Core.Path.{◌≡◌, refl, sym, ap, ◌∙◌}
use mathlib.Core.Bool.{Bool, true, false, ◌&&◌, cond}
use mathlib.Core.List.{List, [], ◌∷◌}
use Prim.Native.Nat.{ℕ, suc, ◌+◌, ◌≤◌}
use native.Mathlib.Omega.{arith}
use borrow.Author.Tests.{eq-eqb, ne_eqb, le-leb, lt-leb, ltb-true, ltb-false}
use lib.Dec.{ltb, leb, eqb}
use lib.ListN.{length, get_or}
use Rattle.lists.specs.Parts.{patch}
use Rattle.sheet.specs.Answers.{longest}
use Rattle.charts.specs.declared.Instalment.{Instalment}
use Rattle.charts.specs.Answers.{Part, last, part_of, Left, Given}
use Rattle.lovgurshem.specs.Sheets.{flags_word, next_part, NextCall, next_call, gave, call_next}
use Rattle.lovgurshem.proofs.Few.{few_taken}

-- ---- what a call gives
pub no_bytes : (l : List ℕ) → length l ≡ 0 → l ≡ []
no_bytes [] h = refl
no_bytes (x ∷ l) h = absurd (omega arith)

module _ (s ws out : List ℕ) where
  module _ (p : Part) {after : List ℕ} {i : Instalment} (l : Left p out after i) where
    abbrev given : Bool → NextCall
    given b = cond b (next_call 0 ws out) (next_call (length p.text) (patch ws 0 (suc (get_or ws 0 0) ∷ flags_word p.more p.good ∷ [])) (patch out 0 p.text))

    bytes : i.length ≡ length p.text
    bytes = let a = l.0.0 in omega (arith, a)

    gave_none : i.length ≡ 0 → next_call 0 ws after ≡ gave ws out p
    gave_none z =
        let e : length p.text ≡ 0 = sym bytes ∙ z in
        ap (next_call 0 ws) (l.0.1 ∙ ap (λ (t : List ℕ). patch out 0 t) (no_bytes p.text e)) ∙ sym (ap given (eq-eqb _ 0 e))

    gave_some : {k f : ℕ} {ws' : List ℕ} → (i.length ≡ 0 → ⊥) → k ≡ suc (get_or ws 0 0) → f ≡ flags_word i.more i.good → ws' ≡ patch ws 0 (k ∷ f ∷ [])
        → next_call i.length ws' after ≡ gave ws out p
    gave_some {k} {f} d a e g =
        (λ j. next_call (bytes j) (g j) (l.0.1 j))
        ∙ (λ j. next_call (length p.text) (patch ws 0 (a j ∷ (e ∙ (λ j. flags_word (l.1 j) (l.2 j))) j ∷ [])) (patch out 0 p.text))
        ∙ sym (ap given (ne_eqb (length p.text) 0 (λ z. d (bytes ∙ z))))

  module _ (h : 2 ≤ length ws) where
    pub next_done : {b : Bool} → b ≡ (ltb 0 (get_or ws 0 0) && ltb 1 (get_or ws 1 0)) → b ≡ true → next_call 0 ws out ≡ call_next s ws out
    unfolding call_next next_part
    next_done e t = rw (le-leb 2 (length ws) h, sym e ∙ t) (by (leb longest (length out)))
      where
        by : (b : Bool) → next_call 0 ws out ≡ cond b (next_call 0 ws out) (next_call 0 ws out)
        by true = refl
        by false = refl

    module _ {b : Bool} (e : b ≡ (ltb 0 (get_or ws 0 0) && ltb 1 (get_or ws 1 0))) (f : b ≡ false) where
      abbrev there : Bool → Part
      there b = cond b (last [] (eqb (get_or ws 1 0) 1)) (part_of s (get_or ws 0 0) (eqb (get_or ws 1 0) 1))

      next_part_lem : gave ws out (there (ltb (length out) longest)) ≡ call_next s ws out
      unfolding call_next next_part
      next_part_lem = rw (le-leb 2 (length ws) h, sym e ∙ f) (by (ltb (length out) longest) refl)
        where
          by : (b : Bool) → ltb (length out) longest ≡ b
              → gave ws out (there b) ≡ cond (leb longest (length out)) (gave ws out (there false)) (next_call 0 ws out)
          by true t = rw (lt-leb longest (length out) (ltb-true _ _ t)) refl
          by false t = rw (le-leb longest (length out) (ltb-false _ _ t)) refl

      module _ {after : List ℕ} {i : Instalment} (g : Given s (get_or ws 0 0) (eqb (get_or ws 1 0) 1) out after i) where
        pub next_none : i.length ≡ 0 → next_call 0 ws after ≡ call_next s ws out
        next_none z = gave_none (there (ltb (length out) longest)) g z ∙ next_part_lem

        pub next_some : {k f : ℕ} {ws' : List ℕ} → (i.length ≡ 0 → ⊥) → k ≡ suc (get_or ws 0 0) → f ≡ flags_word i.more i.good → ws' ≡ patch ws 0 (k ∷ f ∷ [])
            → next_call i.length ws' after ≡ call_next s ws out
        next_some d a e g' = gave_some (there (ltb (length out) longest)) g d a e g' ∙ next_part_lem

-- an instalment of some bytes isn't so late that its count overflows
pub few_given : (s : List ℕ) (k : ℕ) (good : Bool) (out : List ℕ) {after : List ℕ} {i : Instalment} → Given s k good out after i → (i.length ≡ 0 → ⊥) → k ≤ 16385
few_given s k good out {after} {i} g d = by (ltb (length out) longest) g
  where
    by : (b : Bool) → Left (cond b (last [] good) (part_of s k good)) out after i → k ≤ 16385
    by true l = absurd (d l.0.0)
    by false l = few_taken s k good (some i.length (length (part_of s k good).text) l.0.0 d)
      where
        some : (m n : ℕ) → m ≡ 0 + n → (m ≡ 0 → ⊥) → 1 ≤ n
        some m n e d = omega arith
