-- A chain of tests answers the first row that is met: rows in order, each with its place and its test. Assumes nothing.
use mathlib.Core.Path.{◌≡◌, refl, sym, ◌∙◌, subst}
use mathlib.Core.Logic.{◌⊎◌, inl, inr}
use mathlib.Core.Bool.{Bool, true, false, cond}
use mathlib.Core.List.{List, [], ◌∷◌}
use Rattle.facts.proofs.Reflect.{Tests, never}

-- a function of a chosen value
pub push : {A B : Type 0} (f : A → B) (b : Bool) (x y : A) → f (cond b x y) ≡ cond b (f x) (f y)
push f true x y = refl
push f false x y = refl

module _ {K : Type 0} where
  -- the place of the first row whose test is true
  abbrev pub first_row : K → List (K × Bool) → K
  first_row none [] = none
  first_row none (r ∷ l) = cond r.1 r.0 (first_row none l)

  -- the row of place n is met
  abbrev pub Met : K → List (K × Bool) → Type 0
  Met n [] = ⊥
  Met n (r ∷ l) = ((r.0 ≡ n) × (r.1 ≡ true)) ⊎ Met n l

  -- each row's place is before the next one's
  abbrev pub InOrder : (K → K → Type 0) → List (K × Bool) → Type 0
  InOrder R [] = Unit {0}
  InOrder R (r ∷ []) = Unit {0}
  InOrder R (r ∷ s ∷ l) = R r.0 s.0 × InOrder R (s ∷ l)

  -- no row has the place that stands for none
  abbrev pub Apart : K → List (K × Bool) → Type 0
  Apart none [] = Unit {0}
  Apart none (r ∷ l) = (r.0 ≡ none → ⊥) × Apart none l

module _ {K : Type 0} (R : K → K → Type 0) (irreflexive : (k : K) → R k k → ⊥) (transitive : (a b c : K) → R a b → R b c → R a c) where
  tail : (r : K × Bool) (l : List (K × Bool)) → InOrder R (r ∷ l) → InOrder R l
  tail r [] o = tt
  tail r (s ∷ l) o = o.1

  later : (r : K × Bool) (l : List (K × Bool)) (n : K) → InOrder R (r ∷ l) → Met n l → R r.0 n
  later r [] n o m = absurd m
  later r (s ∷ l) n o (inl m) = subst (λ k. R r.0 k) m.0 o.0
  later r (s ∷ l) n o (inr m) = transitive r.0 s.0 n o.0 (later s l n o.1 m)

  module _ (none : K) where
    pub first_met_lem : (l : List (K × Bool)) (n : K) → InOrder R l → (n ≡ none → ⊥) → first_row none l ≡ n → Met n l × ((k : K) → R k n → Met k l → ⊥)
    first_met_lem [] n o some e = absurd (some (sym e))
    first_met_lem ((k, b) ∷ l) n o some e = go b refl e (first_met_lem l n (tail (k, b) l o) some)
      where
        go : (c : Bool) → b ≡ c → cond c k (first_row none l) ≡ n → (first_row none l ≡ n → Met n l × ((j : K) → R j n → Met j l → ⊥))
            → (((k ≡ n) × (b ≡ true)) ⊎ Met n l) × ((j : K) → R j n → ((k ≡ j) × (b ≡ true)) ⊎ Met j l → ⊥)
        go true eb e f = (
          inl (e, eb),
          λ j r s. elim s
              [ inl m ↦ irreflexive n (subst (λ z. R z n) (sym m.0 ∙ e) r) | inr m ↦ irreflexive n (transitive n j n (subst (λ z. R z j) e (later (k, b) l j o m)) r) ],
        )
        go false eb e f =
            let g = f e in
            (inr g.0, λ j r s. elim s [ inl m ↦ never (sym eb ∙ m.1) | inr m ↦ g.1 j r m ])

    pub met_first : (l : List (K × Bool)) (n : K) → InOrder R l → Met n l → ((k : K) → R k n → Met k l → ⊥) → first_row none l ≡ n
    met_first [] n o m h = absurd m
    met_first ((k, b) ∷ l) n o m h = go b refl (met_first l n (tail (k, b) l o))
      where
        go : (c : Bool) → b ≡ c → (Met n l → ((j : K) → R j n → Met j l → ⊥) → first_row none l ≡ n) → cond c k (first_row none l) ≡ n
        go true eb f = elim m [ inl x ↦ x.0 | inr y ↦ absurd (h k (later (k, b) l n o y) (inl (refl, eb))) ]
        go false eb f = elim m [ inl x ↦ absurd (never (sym eb ∙ x.1)) | inr y ↦ f y (λ j r z. h j r (inr z)) ]

    pub none_met : (l : List (K × Bool)) → Apart none l → first_row none l ≡ none → (k : K) → Met k l → ⊥
    none_met [] a e k m = m
    none_met ((k, b) ∷ l) a e j m = go b refl e (none_met l a.1)
      where
        go : (c : Bool) → b ≡ c → cond c k (first_row none l) ≡ none → (first_row none l ≡ none → (i : K) → Met i l → ⊥) → ⊥
        go true eb e f = a.0 e
        go false eb e f = elim m [ inl x ↦ never (sym eb ∙ x.1) | inr y ↦ f e j y ]

    pub met_none : (l : List (K × Bool)) → ((k : K) → Met k l → ⊥) → first_row none l ≡ none
    met_none [] h = refl
    met_none ((k, b) ∷ l) h = go b refl (met_none l (λ j m. h j (inr m)))
      where
        go : (c : Bool) → b ≡ c → first_row none l ≡ none → cond c k (first_row none l) ≡ none
        go true eb f = absurd (h k (inl (refl, eb)))
        go false eb f = f

-- ---- a row's sentence for its test, in a sum of rows
pub row : {E P X Y : Type 0} {b : Bool} → Tests P b → (X → Y) → (E × P) ⊎ X → (E × (b ≡ true)) ⊎ Y
row t f (inl x) = inl (x.0, t.holds x.1)
row t f (inr y) = inr (f y)

pub of_row : {E P X Y : Type 0} {b : Bool} → Tests P b → (Y → X) → (E × (b ≡ true)) ⊎ Y → (E × P) ⊎ X
of_row t f (inl x) = inl (x.0, t.yes x.1)
of_row t f (inr y) = inr (f y)
