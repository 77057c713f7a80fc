-- A test is true if and only if what it tests holds: for numbers, for `or` and `not`, for some element and for some two neighbours of a list. Assumes nothing.
use mathlib.Core.Path.{◌≡◌, refl}
use mathlib.Core.Logic.{◌⊎◌, inl, inr}
use mathlib.Core.Bool.{Bool, true, false, cond, not, ◌||◌}
use mathlib.Core.List.{List, [], ◌∷◌}
use Prim.Native.Nat.{ℕ, ◌<◌, ◌≤◌}
use native.Mathlib.Omega.{arith}
use borrow.Author.Tests.{ltb-true, lt-ltb, leb-true, leb-false, eqb-true, eq-eqb}
use lib.Dec.{T, ltb, leb, eqb}
use Rattle.lists.specs.Members.{Any}
use Rattle.lists.specs.Tests.{every, each_two}
use Rattle.facts.specs.Faults.{AnyTwo, ByClosed}

-- the test b decides P
pub record Tests (P : Type 0) (b : Bool) : Type 0 where
  pub yes : b ≡ true → P
  pub holds : P → b ≡ true

pub never : false ≡ true → ⊥
never e = let z : ◌≡◌ {A = ℕ} 0 1 = cc in omega arith

pub is_true : (b : Bool) → b ≡ true → T b
is_true true e = tt
is_true false e = absurd (never e)

pub as_true : (b : Bool) → T b → b ≡ true
as_true true x = refl
as_true false x = absurd x

-- a test passed by cond b x false
pub both : (b x : Bool) → cond b x false ≡ true → T b × (x ≡ true)
both true x e = (tt, e)
both false x e = absurd (never e)

pub of_T : (b : Bool) → Tests (T b) b
of_T b = record { yes = is_true b; holds = as_true b }

pub of_lt : (a b : ℕ) → Tests (a < b) (ltb a b)
of_lt a b = record { yes = ltb-true a b; holds = lt-ltb a b }

pub of_eq : (a b : ℕ) → Tests (a ≡ b) (eqb a b)
of_eq a b = record { yes = eqb-true a b; holds = eq-eqb a b }

-- another way to say the same
pub same : {P Q : Type 0} {b : Bool} → (P → Q) → (Q → P) → Tests P b → Tests Q b
same f g t = record { yes = λ e. f (t.yes e); holds = λ q. t.holds (g q) }

pub of_or : {P Q : Type 0} (a b : Bool) → Tests P a → Tests Q b → Tests (P ⊎ Q) (a || b)
of_or true b p q = record { yes = λ e. inl (p.yes refl); holds = λ s. refl }
of_or false b p q = record { yes = λ e. inr (q.yes e); holds = λ s. elim s [ inl x ↦ absurd (never (p.holds x)) | inr y ↦ q.holds y ] }

pub of_not : {P : Type 0} (b : Bool) → Tests P b → Tests (P → ⊥) (not b)
of_not true p = record { yes = λ e. absurd (never e); holds = λ h. absurd (h (p.yes refl)) }
of_not false p = record { yes = λ e x. never (p.holds x); holds = λ h. refl }

pub of_both : {P Q : Type 0} (a b : Bool) → Tests P a → Tests Q b → Tests (P × Q) (cond a b false)
of_both true b p q = record { yes = λ e. (p.yes refl, q.yes e); holds = λ s. q.holds s.1 }
of_both false b p q = record { yes = λ e. absurd (never e); holds = λ s. absurd (never (p.holds s.0)) }

-- some element fails a test
pub of_any : {A : Type 0} (P : A → Type 0) (t : A → Bool) → ((x : A) → Tests (P x) (not (t x))) → (l : List A) → Tests (Any P l) (not (every t l))
unfolding every
of_any P t f [] = record { yes = λ e. absurd (never e); holds = λ h. absurd h }
of_any P t f (x ∷ l) = go (t x) (f x) (of_any P t f l)
  where
    go : (b : Bool) → Tests (P x) (not b) → Tests (Any P l) (not (every t l)) → Tests (P x ⊎ Any P l) (not (cond b (every t l) false))
    go true h r = record { yes = λ e. inr (r.yes e); holds = λ s. elim s [ inl p ↦ absurd (never (h.holds p)) | inr q ↦ r.holds q ] }
    go false h r = record { yes = λ e. inl (h.yes e); holds = λ s. refl }

-- some two neighbours fail a test
pub of_two : {A : Type 0} (R : A → A → Type 0) (t : A → A → Bool) → ((x y : A) → Tests (R x y) (not (t x y))) → (l : List A) → Tests (AnyTwo R l) (not (each_two t l))
unfolding each_two
of_two R t f [] = record { yes = λ e. absurd (never e); holds = λ h. absurd h }
of_two R t f (x ∷ []) = record { yes = λ e. absurd (never e); holds = λ h. absurd h }
of_two R t f (x ∷ y ∷ l) = go (t x y) (f x y) (of_two R t f (y ∷ l))
  where
    go : (b : Bool) → Tests (R x y) (not b) → Tests (AnyTwo R (y ∷ l)) (not (each_two t (y ∷ l)))
        → Tests (R x y ⊎ AnyTwo R (y ∷ l)) (not (cond b (each_two t (y ∷ l)) false))
    go true h r = record { yes = λ e. inr (r.yes e); holds = λ s. elim s [ inl p ↦ absurd (never (h.holds p)) | inr q ↦ r.holds q ] }
    go false h r = record { yes = λ e. inl (h.yes e); holds = λ s. refl }

-- `a || b || c` groups to the left
pub of_or3 : {P Q R : Type 0} (a b c : Bool) → Tests P a → Tests Q b → Tests R c → Tests (P ⊎ (Q ⊎ R)) (a || b || c)
of_or3 {P} {Q} {R} a b c p q r = same to from (of_or (a || b) c (of_or a b p q) r)
  where
    to : (P ⊎ Q) ⊎ R → P ⊎ (Q ⊎ R)
    to (inl (inl x)) = inl x
    to (inl (inr y)) = inr (inl y)
    to (inr z) = inr (inr z)

    from : P ⊎ (Q ⊎ R) → (P ⊎ Q) ⊎ R
    from (inl x) = inl (inl x)
    from (inr (inl y)) = inl (inr y)
    from (inr (inr z)) = inr z

-- neither of two
pub of_neither : {P Q : Type 0} (a b : Bool) → Tests P a → Tests Q b → Tests ((P → ⊥) × (Q → ⊥)) (not (a || b))
of_neither a b p q = same (λ h. (λ x. h (inl x), λ y. h (inr y))) (λ h s. elim s [ inl x ↦ h.0 x | inr y ↦ h.1 y ]) (of_not (a || b) (of_or a b p q))

pub of_over : (a b : ℕ) → Tests (b < a) (not (leb a b))
of_over a b = go (leb a b) (leb-true a b) (leb-false a b)
  where
    go : (c : Bool) → (c ≡ true → a ≤ b) → (c ≡ false → b < a) → Tests (b < a) (not c)
    go true f g = record { yes = λ e. absurd (never e); holds = λ h. let k = f refl in absurd (omega arith) }
    go false f g = record { yes = λ e. g refl; holds = λ h. refl }

-- one test of a closed line, another of an open one
pub of_kind : {P Q : Type 0} (closed a b : Bool) → Tests P a → Tests Q b → Tests (ByClosed closed P Q) (cond closed a b)
of_kind true a b p q = p
of_kind false a b p q = q
