-- The first test met, row by row: the line whose own first comes earliest, the first line of several. Assumes nothing.
use mathlib.Core.Path.{◌≡◌, refl, sym, ap, ◌∙◌}
use mathlib.Core.Bool.{Bool, true, false, cond}
use mathlib.Core.List.{List, [], ◌∷◌, ◌++◌}
use Prim.Native.Nat.{ℕ, suc}
use native.Mathlib.Omega.{arith}
use borrow.Author.Tests.{ltb-true, ltb-false, lt-ltb, le-ltb}
use lib.Dec.{ltb, eqb}
use lib.ListN.{length}
use Rattle.charts.specs.Charts.{Tested, tested, first_met}

abbrev pub met : Tested → Bool
met t = eqb t.number 0

pub first_append : (xs ys : List Tested) → first_met (xs ++ ys) ≡ cond (met (first_met xs)) (first_met ys) (first_met xs)
first_append [] ys = refl
first_append (t ∷ xs) ys = go (first_append xs ys) (met t) refl
  where
    go : first_met (xs ++ ys) ≡ cond (met (first_met xs)) (first_met ys) (first_met xs)
        → (b : Bool) → met t ≡ b → cond (met t) (first_met (xs ++ ys)) t ≡ cond (met (cond (met t) (first_met xs) t)) (first_met ys) (cond (met t) (first_met xs) t)
    go h true e = rw e h
    go h false e = rw (e, e) refl

-- how many are passed before the first that is met
abbrev pub passed : List Tested → ℕ
passed [] = 0
passed (t ∷ ts) = cond (met t) (suc (passed ts)) 0

-- what is found of one line, and how many tests of it were passed
pub record Found : Type 0 where
  pub test : Tested
  pub after : ℕ

abbrev pub found : Tested → ℕ → Found
found t n = record { test = t; after = n }

abbrev pub sooner : Found → Found → Found
sooner a b = cond (ltb b.after a.after) b a

later : Found → Found
later f = found f.test (suc f.after)

less_suc : (a b : ℕ) → ltb (suc a) (suc b) ≡ ltb a b
less_suc a b = go (ltb a b) refl
  where
    go : (c : Bool) → ltb a b ≡ c → ltb (suc a) (suc b) ≡ ltb a b
    go true e = let h = ltb-true a b e in lt-ltb (suc a) (suc b) (omega arith) ∙ sym e
    go false e = let h = ltb-false a b e in le-ltb (suc a) (suc b) (omega arith) ∙ sym e

later_sooner : (a b : Found) → sooner (later a) (later b) ≡ later (sooner a b)
unfolding later
later_sooner a b = rw (less_suc b.after a.after) (go (ltb b.after a.after))
  where
    go : (c : Bool) → cond c (later b) (later a) ≡ later (cond c b a)
    go true = refl
    go false = refl

-- none is found before the first test
sooner_none : (t : Tested) (b : Found) → sooner (found t 0) b ≡ found t 0
sooner_none t b = rw (le-ltb b.after 0 (omega arith)) refl

module _ {A : Type 0} where
  abbrev pub row : (A → ℕ → Tested) → List A → ℕ → List Tested
  row f [] k = []
  row f (l ∷ ls) k = f l k ∷ row f ls (suc k)

  abbrev pub rows : List (A → ℕ → Tested) → List A → ℕ → List Tested
  rows [] ls k = []
  rows (f ∷ fs) ls k = row f ls k ++ rows fs ls k

  abbrev pub column : List (A → ℕ → Tested) → A → ℕ → List Tested
  column [] l k = []
  column (f ∷ fs) l k = f l k ∷ column fs l k

  abbrev pub in_line : List (A → ℕ → Tested) → A → ℕ → Found
  in_line fs l k = found (first_met (column fs l k)) (passed (column fs l k))

  abbrev pub soonest : List (A → ℕ → Tested) → List A → ℕ → Found
  soonest fs [] k = found (tested 0 0) (length fs)
  soonest fs (l ∷ ls) k = sooner (in_line fs l k) (soonest fs ls (suc k))

  -- one stage more, before the others
  soonest_stage : (f : A → ℕ → Tested) (fs : List (A → ℕ → Tested)) (ls : List A) (k : ℕ)
      → soonest (f ∷ fs) ls k ≡ cond (met (first_met (row f ls k))) (later (soonest fs ls k)) (found (first_met (row f ls k)) 0)
  unfolding later
  soonest_stage f fs [] k = refl
  soonest_stage f fs (l ∷ ls) k = go (soonest_stage f fs ls (suc k)) (met (f l k)) refl
    where
      t : Tested
      t = f l k

      a : Found
      a = in_line fs l k

      r : Tested
      r = first_met (row f ls (suc k))

      behind : (c : Bool) → met r ≡ c
          → sooner (later a) (cond c (later (soonest fs ls (suc k))) (found r 0)) ≡ cond c (later (soonest fs (l ∷ ls) k)) (found r 0)
      behind true e = later_sooner a (soonest fs ls (suc k))
      behind false e = rw (lt-ltb 0 (suc a.after) (omega arith)) refl

      go : soonest (f ∷ fs) ls (suc k) ≡ cond (met r) (later (soonest fs ls (suc k))) (found r 0)
          → (b : Bool) → met t ≡ b
          → sooner (found (cond (met t) (first_met (column fs l k)) t) (cond (met t) (suc (passed (column fs l k))) 0)) (soonest (f ∷ fs) ls (suc k))
          ≡ cond (met (cond (met t) r t)) (later (soonest fs (l ∷ ls) k)) (found (cond (met t) r t) 0)
      go h true e = rw e (ap (sooner (later a)) h ∙ behind (met r) refl)
      go h false e = rw (e, e) (sooner_none t (soonest (f ∷ fs) ls (suc k)))

  soonest_none : (ls : List A) (k : ℕ) → (soonest [] ls k).test ≡ tested 0 0
  soonest_none [] k = refl
  soonest_none (l ∷ ls) k = ap (λ (x : Found). x.test) (sooner_none (tested 0 0) (soonest [] ls (suc k)))

  -- row by row the same is found first
  pub rows_soonest : (fs : List (A → ℕ → Tested)) (ls : List A) (k : ℕ) → first_met (rows fs ls k) ≡ (soonest fs ls k).test
  unfolding later
  rows_soonest [] ls k = sym (soonest_none ls k)
  rows_soonest (f ∷ fs) ls k =
      first_append (row f ls k) (rows fs ls k) ∙ go (rows_soonest fs ls k) (met (first_met (row f ls k))) ∙ ap (λ (x : Found). x.test) (sym (soonest_stage f fs ls k))
    where
      go : first_met (rows fs ls k) ≡ (soonest fs ls k).test
          → (c : Bool) → cond c (first_met (rows fs ls k)) (first_met (row f ls k)) ≡ (cond c (later (soonest fs ls k)) (found (first_met (row f ls k)) 0)).test
      go h true = h
      go h false = refl
