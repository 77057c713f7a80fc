-- The breaks of a range: each lies in it, and, where they pass 18, no knot lies strictly between two neighbours. The knots around a parameter are those between which it lies. Assumes nothing.
use mathlib.Core.Path.{◌≡◌, refl, ◌∙◌, subst}
use mathlib.Core.Logic.{◌⊎◌, inl, inr, dite}
use mathlib.Core.Bool.{Bool, true, false, cond}
use mathlib.Core.List.{List, [], ◌∷◌}
use Prim.Native.Nat.{ℕ, zero, suc, ◌+◌, ◌-◌, ◌≤◌, ◌<◌}
use native.Mathlib.Decide.{dec_lt}
use borrow.Author.Tests.{ltb-true}
use native.Mathlib.Omega.{arith}
use lib.Dec.{T, ltb}
use lib.ListN.{length, get_or}
use lib.Ieee.{Float, nan, le, lt}
use Rattle.lists.specs.Members.{Any}
use Rattle.lists.specs.Tests.{every, each_two}
use Rattle.floats.specs.Sizes.{Number}
use Rattle.floats.specs.Floats.{middle}
use Rattle.floats.proofs.Order.{left_number, right_number, le_self, le_trans_float}
use Rattle.floats.proofs.Bounds.{lt_not_le}
use Rattle.floats.proofs.Sums.{not_le_lt}
use Rattle.knots.specs.Knots.{repeated, flat_knots, inside, between, breaks_in}
use Rattle.questions.specs.Questions.{parted}
use Rattle.spans.specs.Spans.{reach_of, passed_of, span_end, span_around}
use Rattle.facts.specs.Spans.{AllTwo}
use Rattle.facts.proofs.Reflect.{as_true, is_true, both}
use Rattle.facts.proofs.Cover.{lt_le}
use Rattle.facts.proofs.Spans.{never, reach_in, reach_low, reach_high}

-- ---- each two neighbours
pub both_two : {A : Type 0} {P Q R : A → A → Type 0} → ((x y : A) → P x y → Q x y → R x y) → (l : List A) → AllTwo P l → AllTwo Q l → AllTwo R l
both_two f [] p q = tt
both_two f (x ∷ []) p q = tt
both_two f (x ∷ y ∷ l) p q = (f x y p.0 q.0, both_two f (y ∷ l) p.1 q.1)

pub for_all : {A : Type 0} (P : ℕ → A → A → Type 0) (n : ℕ) (l : List A) → ((i : ℕ) → i < n → AllTwo (P i) l) → AllTwo (λ x y. (i : ℕ) → i < n → P i x y) l
for_all P n [] p = tt
for_all P n (x ∷ []) p = tt
for_all P n (x ∷ y ∷ l) p = (λ i h. (p i h).0, for_all P n (y ∷ l) (λ i h. (p i h).1))

pub passed-two : {A : Type 0} (t : A → A → Bool) (l : List A) → each_two t l ≡ true → AllTwo (λ x y. T (t x y)) l
unfolding each_two
passed-two t [] e = tt
passed-two t (x ∷ []) e = tt
passed-two t (x ∷ y ∷ l) e = let h = both (t x y) (each_two t (y ∷ l)) e in (h.0, passed-two t (y ∷ l) h.1)

-- ---- the breaks
-- j isn't strictly between
abbrev pub Outside : Float → Float → Float → Type 0
Outside j t0 t1 = T (le j t0) ⊎ T (le t1 j)

pub less_than_most : (x y z : Float) → T (lt x y) → T (le y z) → T (lt x z)
less_than_most x y z h g = not_le_lt x z (left_number x y (lt_le x y h)) (right_number y z g) (λ t. lt_not_le x y h (le_trans_float y z x g t))

-- breaks that pass 18 climb
abbrev Climbing : List Float → Type 0
Climbing l = AllTwo (λ x y. T (lt x y)) l

apart_climb : (l : List Float) → each_two parted l ≡ true → Climbing l
unfolding parted
apart_climb l e = both_two (λ x y p q. less x y p) l (passed-two parted l e) (passed-two parted l e)
  where
    less : (x y : Float) → T (parted x y) → T (lt x y)
    less x y p = let h = both (lt x (middle x y)) (lt (middle x y) y) (as_true _ p) in less_than_most x (middle x y) y h.0 (lt_le (middle x y) y (is_true _ h.1))

-- what is at most the first of a climbing list, and what is one of them, lies strictly between no two neighbours
first_outside : (j x : Float) (l : List Float) → T (le j x) → Climbing (x ∷ l) → AllTwo (Outside j) (x ∷ l)
first_outside j x [] h c = tt
first_outside j x (y ∷ l) h c = (inl h, first_outside j y l (le_trans_float j x y h (lt_le x y c.0)) c.1)

first_least : (j x : Float) (l : List Float) → Number j → Climbing (x ∷ l) → Any (λ (y : Float). j ≡ y) (x ∷ l) → T (le x j)
first_least j x [] n c m = elim m [ inl e ↦ subst (λ (y : Float). T (le y j)) e (le_self j n) | inr k ↦ absurd k ]
first_least j x (y ∷ l) n c m =
    elim m [ inl e ↦ subst (λ (z : Float). T (le z j)) e (le_self j n) | inr k ↦ le_trans_float x y j (lt_le x y c.0) (first_least j y l n c.1 k) ]

one_outside : (j x : Float) (l : List Float) → Number j → Climbing (x ∷ l) → Any (λ (y : Float). j ≡ y) (x ∷ l) → AllTwo (Outside j) (x ∷ l)
one_outside j x [] n c m = tt
one_outside j x (y ∷ l) n c m =
    elim m [
      | inl e ↦ first_outside j x (y ∷ l) (subst (λ (z : Float). T (le j z)) e (le_self j n)) c
      | inr k ↦ (inr (first_least j y l n c.1 k), one_outside j y l n c.1 k)
    ]

module _ (lo hi : Float) (nl : Number lo) (nh : Number hi) where
  in_both : (k : Float) → inside lo hi k ≡ true → T (lt lo k) × T (lt k hi)
  unfolding inside
  in_both k e = let h = both (lt lo k) (lt k hi) e in (h.0, is_true _ h.1)

  out_either : (k : Float) → Number k → inside lo hi k ≡ false → T (le k lo) ⊎ T (le hi k)
  unfolding inside
  out_either k n e = at (le k lo) (le hi k) refl refl
    where
      at : (a b : Bool) → le k lo ≡ a → le hi k ≡ b → T (le k lo) ⊎ T (le hi k)
      at true b f g = inl (is_true _ f)
      at false true f g = inr (is_true _ g)
      at false false f g =
          let x : lt lo k ≡ true = as_true _ (not_le_lt lo k nl n (never _ f)) in
          let y : lt k hi ≡ true = as_true _ (not_le_lt k hi n nh (never _ g)) in
          let z : inside lo hi k ≡ true = rw (x, y) refl in
          absurd (never _ e (is_true _ z))

  -- the breaks lie in the range
  pub in_range : (t : Float) (ks : List Float) → T (le lo t) → AllTwo (λ t0 t1. T (le lo t0) × T (le t1 hi)) (t ∷ between lo hi ks (hi ∷ []))
  unfolding between
  in_range t [] g = ((g, le_self hi nh), tt)
  in_range t (k ∷ ks) g = go (inside lo hi k) (in_both k) (in_range k ks) (in_range t ks g)
    where
      go : (b : Bool) → (b ≡ true → T (lt lo k) × T (lt k hi)) → (T (le lo k) → AllTwo (λ t0 t1. T (le lo t0) × T (le t1 hi)) (k ∷ between lo hi ks (hi ∷ [])))
          → AllTwo (λ t0 t1. T (le lo t0) × T (le t1 hi)) (t ∷ between lo hi ks (hi ∷ []))
          → AllTwo (λ t0 t1. T (le lo t0) × T (le t1 hi)) (t ∷ cond b (k ∷ between lo hi ks (hi ∷ [])) (between lo hi ks (hi ∷ [])))
      go true p on skip = ((g, lt_le k hi (p refl).1), on (lt_le lo k (p refl).0))
      go false p on skip = skip

  -- a knot strictly between lo and hi is a break
  is_break : (ks : List Float) (i : ℕ) → i < length ks → inside lo hi (get_or ks i nan) ≡ true → Any (λ (y : Float). get_or ks i nan ≡ y) (between lo hi ks (hi ∷ []))
  unfolding between
  is_break [] i h e = absurd (omega arith)
  is_break (k ∷ ks) zero h e = rw e (inl refl)
  is_break (k ∷ ks) (suc i) h e = go (inside lo hi k) (is_break ks i (omega arith) e)
    where
      go : (b : Bool) → Any (λ (y : Float). get_or ks i nan ≡ y) (between lo hi ks (hi ∷ []))
          → Any (λ (y : Float). get_or ks i nan ≡ y) (cond b (k ∷ between lo hi ks (hi ∷ [])) (between lo hi ks (hi ∷ [])))
      go true a = inr a
      go false a = a

  -- No knot lies strictly between two neighbouring breaks, if they pass 18, whatever the order of the knots.
  pub none_between : (ks : List Float) → each_two parted (breaks_in lo hi ks) ≡ true → (i : ℕ) → i < length ks → Number (get_or ks i nan)
      → AllTwo (Outside (get_or ks i nan)) (breaks_in lo hi ks)
  none_between ks e i h n = go (inside lo hi (get_or ks i nan)) (is_break ks i h) (out_either (get_or ks i nan) n)
    where
      c : Climbing (breaks_in lo hi ks)
      c = apart_climb (breaks_in lo hi ks) e

      go : (b : Bool) → (b ≡ true → Any (λ (y : Float). get_or ks i nan ≡ y) (between lo hi ks (hi ∷ []))) → (b ≡ false → T (le (get_or ks i nan) lo) ⊎ T (le hi (get_or ks i nan)))
          → AllTwo (Outside (get_or ks i nan)) (breaks_in lo hi ks)
      go true f g = one_outside (get_or ks i nan) lo (between lo hi ks (hi ∷ [])) n c (inr (f refl))
      go false f g =
          elim (g refl) [
            | inl x ↦ first_outside (get_or ks i nan) lo (between lo hi ks (hi ∷ [])) x c
            | inr y ↦ both_two {P = λ (t0 t1 : Float). T (le lo t0) × T (le t1 hi)} {Q = λ (t0 t1 : Float). T (le lo t0) × T (le t1 hi)} {R = Outside (get_or ks i nan)} (λ t0 t1 p q. inr (le_trans_float t1 hi (get_or ks i nan) p.1 y)) (breaks_in lo hi ks)
                (in_range lo ks (le_self lo nl)) (in_range lo ks (le_self lo nl))
          ]

-- ---- the knots around a parameter
pass_reach : (n s : ℕ) (t : Float) (l : List Float) → passed_of n (suc s) t l ≡ suc (reach_of n s t l)
unfolding passed_of reach_of
pass_reach zero s t l = refl
pass_reach (suc n) s t l = let q : s + 1 ≡ suc s = omega arith in rw q (go (le (get_or l (suc s) nan) t) (pass_reach n (suc s) t l))
  where
    go : (b : Bool) → passed_of n (suc (suc s)) t l ≡ suc (reach_of n (suc s) t l) → cond b (passed_of n (suc (suc s)) t l) (suc s) ≡ suc (cond b (reach_of n (suc s) t l) s)
    go true e = e
    go false e = refl

-- the number of the last knot but one that is at most t, or of the first
abbrev pub knot_at : List Float → Float → ℕ
knot_at knots t = reach_of (length knots - 2) 0 t knots

module _ (knots : List Float) (t : Float) (two : 2 ≤ length knots) (low : T (le (get_or knots 0 nan) t)) (high : le (get_or knots (length knots - 1) nan) t ≡ false) where
  pub end_is : span_end knots t ≡ suc (knot_at knots t)
  unfolding span_end passed_of
  end_is =
      let q : length knots - 1 ≡ suc (length knots - 2) = omega arith in
      let e : le (get_or knots 0 nan) t ≡ true = as_true _ low in
      let p = pass_reach (length knots - 2) 0 t knots in
      rw (q, e, p) refl

  pub around_is : span_around knots t ≡ record { lo = get_or knots (knot_at knots t) nan; hi = get_or knots (suc (knot_at knots t)) nan }
  unfolding span_around
  around_is = let q : suc (knot_at knots t) - 1 ≡ knot_at knots t = omega arith in rw (end_is, q) refl

  pub around_in : suc (knot_at knots t) < length knots
  around_in = let b = reach_in (length knots - 2) 0 t knots in omega (arith, b.1)

  pub around_low : T (le (get_or knots (knot_at knots t) nan) t)
  around_low = reach_low (length knots - 2) 0 t knots low

  pub around_high : le (get_or knots (suc (knot_at knots t)) nan) t ≡ false
  around_high =
      let b = reach_in (length knots - 2) 0 t knots in
      let s : knot_at knots t + 1 ≡ suc (knot_at knots t) = omega arith in
      dite (dec_lt (knot_at knots t) (0 + (length knots - 2)))
      (λ k. let h = reach_high (length knots - 2) 0 t knots k in rw s at h)
      (λ k. let q : suc (knot_at knots t) ≡ length knots - 1 = omega (arith, b.1) in rw q high)

-- ---- where a knot and the next stand among the flat knots
pub behind_repeated : (m : ℕ) (x : Float) (l : List Float) (k : ℕ) → get_or (repeated m x l) (m + k) nan ≡ get_or l k nan
unfolding repeated
behind_repeated zero x l k = let q : 0 + k ≡ k = omega arith in rw q refl
behind_repeated (suc m) x l k = let q : suc m + k ≡ suc (m + k) = omega arith in rw q (behind_repeated m x l k)

last-repeated : (m : ℕ) (x : Float) (l : List Float) → get_or (repeated (suc m) x l) m nan ≡ x
unfolding repeated
last-repeated zero x l = refl
last-repeated (suc m) x l = last-repeated m x l

-- place k of a flat list has knot i, and place k + 1 the next knot
pub record Meeting (ks : List Float) (ms : List ℕ) (i : ℕ) : Type 0 where
  pub place : ℕ
  pub here : get_or (flat_knots ks ms) place nan ≡ get_or ks i nan
  pub next : get_or (flat_knots ks ms) (place + 1) nan ≡ get_or ks (suc i) nan

-- a multiplicity of 1 or more
pub some : (m : ℕ) (ms : List ℕ) → every (λ n. ltb 0 n) (m ∷ ms) ≡ true → (0 < m) × (every (λ n. ltb 0 n) ms ≡ true)
unfolding every
some m ms e = let h = both (ltb 0 m) (every (λ n. ltb 0 n) ms) e in (ltb-true 0 m (as_true _ h.0), h.1)

pub first_flat : (k : Float) (ks : List Float) (m : ℕ) (ms : List ℕ) → 0 < m → get_or (flat_knots (k ∷ ks) (m ∷ ms)) 0 nan ≡ k
unfolding flat_knots repeated
first_flat k ks zero ms h = absurd (omega arith)
first_flat k ks (suc m) ms h = refl

meet_first : (k : Float) (ks : List Float) (m : ℕ) (ms : List ℕ) → 0 < m → get_or (flat_knots ks ms) 0 nan ≡ get_or ks 0 nan → Meeting (k ∷ ks) (m ∷ ms) 0
unfolding flat_knots
meet_first k ks zero ms h e = absurd (omega arith)
meet_first k ks (suc m) ms h e =
    let q : m + 1 ≡ suc m + 0 = omega arith in
    record { place = m; here = last-repeated m k (flat_knots ks ms); next = rw q (behind_repeated (suc m) k (flat_knots ks ms) 0 ∙ e) }

meet_later : (k : Float) (ks : List Float) (m : ℕ) (ms : List ℕ) (i : ℕ) → Meeting ks ms i → Meeting (k ∷ ks) (m ∷ ms) (suc i)
unfolding flat_knots
meet_later k ks m ms i r =
    let q : m + r.place + 1 ≡ m + (r.place + 1) = omega arith in
    record {
      place = m + r.place;
      here = behind_repeated m k (flat_knots ks ms) r.place ∙ r.here;
      next = rw q (behind_repeated m k (flat_knots ks ms) (r.place + 1) ∙ r.next);
    }

pub start-flat : (ks : List Float) (ms : List ℕ) → length ms ≡ length ks → every (λ n. ltb 0 n) ms ≡ true → 0 < length ks → get_or (flat_knots ks ms) 0 nan ≡ get_or ks 0 nan
start-flat [] ms l e h = absurd (omega arith)
start-flat (k ∷ ks) [] l e h = absurd (omega arith)
start-flat (k ∷ ks) (m ∷ ms) l e h = first_flat k ks m ms (some m ms e).0

pub meeting : (ks : List Float) (ms : List ℕ) → length ms ≡ length ks → every (λ n. ltb 0 n) ms ≡ true → (i : ℕ) → suc i < length ks → Meeting ks ms i
meeting [] ms l e i h = absurd (omega arith)
meeting (k ∷ ks) [] l e i h = absurd (omega arith)
meeting (k ∷ ks) (m ∷ ms) l e zero h =
    let s = some m ms e in
    meet_first k ks m ms s.0 (start-flat ks ms (omega arith) s.1 (omega arith))
meeting (k ∷ ks) (m ∷ ms) l e (suc i) h = meet_later k ks m ms i (meeting ks ms (omega arith) (some m ms e).1 i (omega arith))
