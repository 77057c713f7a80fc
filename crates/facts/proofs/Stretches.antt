-- The span that is found for a parameter of an admitted line holds it, and the breaks of a range lie in the spans of their nets. Assumes nothing.
use mathlib.Core.Path.{◌≡◌, refl, ap, sym, ◌∙◌, subst}
use mathlib.Core.Logic.{inl, inr, dite}
use mathlib.Core.Bool.{Bool, true, false}
use mathlib.Core.List.{List, [], ◌∷◌}
use Prim.Native.Nat.{ℕ, suc, ◌+◌, ◌*◌, ◌-◌, ◌≤◌, ◌<◌}
use native.Mathlib.Decide.{dec_lt}
use native.Mathlib.Omega.{arith}
use lib.Dec.{T}
use lib.ListN.{length, get_or, get_or-eq_default}
use lib.Ieee.{Float, nan, le, lt, neg}
use Rattle.lists.specs.Tests.{every, each_two, total}
use Rattle.floats.specs.Floats.{within, middle}
use Rattle.floats.specs.Sizes.{Number}
use Rattle.floats.proofs.Order.{left_number, right_number, le_self, le_trans_float}
use Rattle.floats.proofs.Bounds.{lt_not_le, none_below_nan}
use Rattle.floats.proofs.Sums.{not_le_lt}
use Rattle.lines.specs.Lines.{Line, line_of, with_datum}
use Rattle.lines.specs.Admit.{two20, beyond_of, admit_of}
use Rattle.lines.specs.Counts.{Counts}
use Rattle.std.specs.Prelude.{Ok}
use Rattle.lines.proofs.Admitted.{counts}
use Rattle.points.specs.declared.Interval.{Interval}
use Rattle.knots.specs.Knots.{flat_knots, open_bounds, last_of, bounds_in, unrolled_of, line_flat, breaks_in, flat_of, bounds_of, breaks_of}
use Rattle.spans.specs.Spans.{clamp_of, span_of, span_end, span_around, place_of}
use Rattle.pieces.specs.Pieces.{held}
use Rattle.questions.specs.Questions.{range_fits, parted}
use Rattle.facts.specs.Faults.{poles}
use Rattle.facts.specs.Spans.{AllTwo, InSpan, span_number, net_span, own_span, InOneSpan}
use Rattle.facts.proofs.Reflect.{as_true, is_true, both}
use Rattle.lines.proofs.Admitted.{every_at}
use Rattle.facts.proofs.Cover.{lt_le, length-flat, every_flat}
use Rattle.facts.proofs.Climbs.{Sorted, above_knots, rising_tail, numbers_of, sorted_at, climbs}
use Rattle.facts.proofs.Spans.{false_of, never, span_opens, span_in, only_span}
use Rattle.facts.proofs.Breaks.{both_two, for_all, passed-two, Outside, less_than_most, none_between, in_range, knot_at, end_is, around_is, around_in, around_low, around_high, meeting}

sorted_knots : (ks : List Float) → each_two lt ks ≡ true → Sorted ks
sorted_knots [] r = tt
sorted_knots (k ∷ ks) r = (above_knots k ks r, sorted_knots ks (rising_tail k ks r))

every_of : (t : Float → Bool) (l : List Float) → ((i : ℕ) → i < length l → T (t (get_or l i nan))) → every t l ≡ true
unfolding every
every_of t [] h = refl
every_of t (x ∷ l) h = let e = as_true (t x) (h 0 (omega arith)) in rw e (every_of t l (λ i g. h (suc i) (omega arith)))

-- ---- knots that passed 6 and 7
module _ (knots : List Float) (six : every (within (neg two20) two20) knots ≡ true) (seven : each_two lt knots ≡ true) where
  pub knot_number : (i : ℕ) → i < length knots → Number (get_or knots i nan)
  knot_number i h = numbers_of _ (every_at nan (within (neg two20) two20) knots i h six)

  pub knots_climb : (i j : ℕ) → i ≤ j → j < length knots → T (le (get_or knots i nan) (get_or knots j nan))
  knots_climb i j a b = sorted_at knots i j (sorted_knots knots seven) knot_number a b

  pub flat_number : (mults : List ℕ) (i : ℕ) → i < length (flat_knots knots mults) → Number (get_or (flat_knots knots mults) i nan)
  flat_number mults i h = numbers_of _ (every_at nan (within (neg two20) two20) (flat_knots knots mults) i h (every_flat (within (neg two20) two20) knots mults six))

-- ---- the span of a parameter u among flat knots, u from number p on and below number length − 1 − p
module _ (p : ℕ) (flat : List Float) (u : Float) (room : 2 * p + 2 ≤ length flat) (low : T (le (get_or flat p nan) u)) (high : T (lt u (get_or flat (length flat - 1 - p) nan))) where
  pub below_end : le (get_or flat (length flat - 1 - p) nan) u ≡ false
  below_end = false_of _ (lt_not_le u _ high)

  pub numbered : (p ≤ span_of p flat u) × (span_of p flat u + p + 2 ≤ length flat)
  numbered = span_in p flat u room low below_end

  pub holds : Number (get_or flat (span_of p flat u + 1) nan) → T (le (get_or flat (span_of p flat u) nan) u) × T (lt u (get_or flat (span_of p flat u + 1) nan))
  holds n = let o = span_opens p flat u room low below_end in (o.0, not_le_lt u _ (right_number _ u low) n (never _ o.1))

  pub only : (a b : ℕ) → ((i j : ℕ) → a ≤ i → i ≤ j → j ≤ b → T (le (get_or flat i nan) (get_or flat j nan))) → a ≤ p → length flat - 1 - p ≤ b
      → (s : ℕ) → a ≤ s → s < b → T (le (get_or flat s nan) u) × T (lt u (get_or flat (s + 1) nan)) → s ≡ span_of p flat u
  only a b climbs ap pb s sa sb o =
      let n = numbered in
      only_span p flat u room low below_end a b climbs s sa sb o.0 (false_of _ (lt_not_le u _ o.1)) (omega (arith, n.0)) (omega (arith, n.1))

  pub held_is : held p flat u ≡ u
  unfolding held clamp_of
  held_is =
      let a : lt u (get_or flat p nan) ≡ false = false_of _ (λ t. lt_not_le u _ t low) in
      let b : lt (get_or flat (length flat - 1 - p) nan) u ≡ false = false_of _ (λ t. never _ below_end (lt_le _ u t)) in
      rw (a, b) refl

-- ---- two breaks and their middle m, none of the knots strictly between the breaks: the knots around m are around both
module _ (knots : List Float) (t0 t1 m : Float) (two : 2 ≤ length knots) (low : T (le (get_or knots 0 nan) m)) (high : le (last_of knots) m ≡ false)
    (left : T (lt t0 m)) (right : T (lt m t1)) (none : (i : ℕ) → i < length knots → Outside (get_or knots i nan) t0 t1) where
  -- the number of the last knot up to the middle
  abbrev at : ℕ
  at = knot_at knots m

  pub at_in : suc at < length knots
  at_in = around_in knots m two low high

  pub at_low : T (le (get_or knots at nan) m)
  at_low = around_low knots m two low high

  pub at_high : le (get_or knots (suc at) nan) m ≡ false
  at_high = around_high knots m two low high

  pub at_is : span_end knots m ≡ suc at
  at_is = end_is knots m two low high

  pub knots_around : span_around knots m ≡ record { lo = get_or knots at nan; hi = get_or knots (suc at) nan }
  knots_around = around_is knots m two low high

  starts_before : T (le (get_or knots at nan) t0)
  starts_before =
      let h = at_in in
      elim (none at (omega arith)) [ inl x ↦ x | inr y ↦ absurd (lt_not_le m t1 right (le_trans_float t1 _ m y at_low)) ]

  ends_behind : T (le t1 (get_or knots (suc at) nan))
  ends_behind = elim (none (suc at) at_in) [ inl x ↦ absurd (never _ at_high (le_trans_float _ t0 m x (lt_le t0 m left))) | inr y ↦ y ]

  pub around_from : T (le (span_around knots m).lo t0)
  around_from = subst (λ (a : Interval). T (le a.lo t0)) (sym knots_around) starts_before

  pub around_to : T (le t1 (span_around knots m).hi)
  around_to = subst (λ (a : Interval). T (le t1 a.hi)) (sym knots_around) ends_behind

-- what 18 says of two neighbouring breaks
pub middle-between : (t0 t1 : Float) → T (parted t0 t1) → T (lt t0 (middle t0 t1)) × T (lt (middle t0 t1) t1)
unfolding parted
middle-between t0 t1 p = let h = both (lt t0 (middle t0 t1)) (lt (middle t0 t1) t1) (as_true _ p) in (h.0, is_true _ h.1)

-- each two neighbouring breaks with all that is known of them
pub of_breaks_lem : (lo hi : Float) (knots : List Float) → T (lt lo hi) → ((i : ℕ) → i < length knots → Number (get_or knots i nan)) → each_two parted (breaks_in lo hi knots) ≡ true
    → {R : Float → Float → Type 0}
    → ((t0 t1 : Float) → T (le lo t0) → T (le t1 hi) → T (lt t0 (middle t0 t1)) → T (lt (middle t0 t1) t1) → ((i : ℕ) → i < length knots → Outside (get_or knots i nan) t0 t1) → R t0 t1)
    → AllTwo R (breaks_in lo hi knots)
of_breaks_lem lo hi knots less n e {R} f = both_two each b (in_range lo hi nl nh lo knots (le_self lo nl)) told
  where
    nl : Number lo
    nl = left_number lo hi (lt_le lo hi less)

    nh : Number hi
    nh = right_number lo hi (lt_le lo hi less)

    b : List Float
    b = breaks_in lo hi knots

    outside : AllTwo (λ t0 t1. (i : ℕ) → i < length knots → Outside (get_or knots i nan) t0 t1) b
    outside = for_all (λ i. Outside (get_or knots i nan)) (length knots) b (λ i h. none_between lo hi nl nh knots e i h (n i h))

    with_outside : (t0 t1 : Float) → T (parted t0 t1) → ((i : ℕ) → i < length knots → Outside (get_or knots i nan) t0 t1)
        → T (parted t0 t1) × ((i : ℕ) → i < length knots → Outside (get_or knots i nan) t0 t1)
    with_outside t0 t1 p q = (p, q)

    told : AllTwo (λ t0 t1. T (parted t0 t1) × ((i : ℕ) → i < length knots → Outside (get_or knots i nan) t0 t1)) b
    told = both_two with_outside b (passed-two parted b e) outside

    each : (t0 t1 : Float) → T (le lo t0) × T (le t1 hi) → T (parted t0 t1) × ((i : ℕ) → i < length knots → Outside (get_or knots i nan) t0 t1) → R t0 t1
    each t0 t1 r q = let m = middle-between t0 t1 q.0 in f t0 t1 r.0 r.1 m.0 m.1 q.1

-- ---- an open line
module _ (degree : ℕ) (knots : List Float) (mults : List ℕ) (coords weights : List Float) (datum : ℕ) (ok : admit_of (line_of false degree knots mults coords weights) ≡ Ok tt) where
  abbrev l : Line
  l = with_datum datum (line_of false degree knots mults coords weights)

  known : Counts l
  known = counts l ok

  flat-total : length (flat_of l) ≡ total mults
  unfolding line_flat
  flat-total = length-flat knots mults known.as_many

  flat-length : length (flat_of l) ≡ poles l + degree + 1
  unfolding beyond_of
  flat-length = let e = flat-total in let c = known.count in omega arith

  room : 2 * degree + 2 ≤ length (flat_of l)
  room = let e = flat-length in omega (arith, known.enough)

  numbers : (i : ℕ) → i < length knots → Number (get_or knots i nan)
  numbers = knot_number knots known.knots_fit known.increasing

  -- the bounds are flat knots
  lower_is : (bounds_of l).lo ≡ get_or (flat_of l) degree nan
  unfolding bounds_in open_bounds line_flat
  lower_is = refl

  upper_is : (bounds_of l).hi ≡ get_or (flat_of l) (length (flat_of l) - 1 - degree) nan
  unfolding bounds_in open_bounds line_flat
  upper_is = ap (λ n. get_or (flat_of l) n nan) (let e = flat-total in let q : total mults - degree - 1 ≡ length (flat_of l) - 1 - degree = omega arith in q)

  -- the span of a parameter
  module _ (u : Float) (from : T (le (bounds_of l).lo u)) (to : T (lt u (bounds_of l).hi)) where
    low : T (le (get_or (flat_of l) degree nan) u)
    low = subst (λ x. T (le x u)) lower_is from

    high : T (lt u (get_or (flat_of l) (length (flat_of l) - 1 - degree) nan))
    high = subst (λ x. T (lt u x)) upper_is to

    pub span_numbered : (degree ≤ span_number l u) × (span_number l u < poles l)
    span_numbered = let n = numbered degree (flat_of l) u room low high in let e = flat-length in (n.0, omega (arith, n.1))

    pub span_holds : InSpan l u (span_number l u)
    unfolding line_flat
    span_holds =
        let n = numbered degree (flat_of l) u room low high in
        holds degree (flat_of l) u room low high (flat_number knots known.knots_fit known.increasing mults (span_number l u + 1) (omega (arith, n.1)))

    pub span_only : (s : ℕ) → InSpan l u s → s ≡ span_number l u
    unfolding line_flat
    span_only s o =
        let r = room in
        dite (dec_lt (s + 1) (length (flat_of l)))
        (λ h. only degree (flat_of l) u room low high 0 (length (flat_of l) - 1)
        (λ i j a b c. climbs knots mults known.increasing known.knots_fit i j b (omega arith)) (omega arith) (omega arith) s (omega arith) (omega arith) o)
        (λ h. absurd (none_below_nan u (subst (λ x. T (lt u x)) (get_or-eq_default (flat_of l) nan (omega arith)) o.1)))

    first_low : T (le (get_or knots 0 nan) u)
    unfolding line_flat
    first_low =
        let e = every_of (λ y. le (get_or knots 0 nan) y) knots (λ i h. knots_climb knots known.knots_fit known.increasing 0 i (omega arith) h) in
        let g = every_at nan (λ y. le (get_or knots 0 nan) y) (flat_of l) degree (let q = room in omega arith) (every_flat _ knots mults e) in
        le_trans_float _ _ u (is_true _ g) low

    last_high : le (last_of knots) u ≡ false
    unfolding line_flat
    last_high =
        let w = known.two_knots in
        let e = every_of (λ y. le y (last_of knots)) knots (λ i h. knots_climb knots known.knots_fit known.increasing i (length knots - 1) (omega arith) (omega arith)) in
        let g = every_at nan (λ y. le y (last_of knots)) (flat_of l) (length (flat_of l) - 1 - degree) (let q = room in omega arith) (every_flat _ knots mults e) in
        false_of _ (λ t. lt_not_le u _ high (le_trans_float _ _ u (is_true _ g) t))

  -- ---- two breaks
  module _ (t0 t1 : Float) (from : T (le (bounds_of l).lo t0)) (to : T (le t1 (bounds_of l).hi)) (left : T (lt t0 (middle t0 t1))) (right : T (lt (middle t0 t1) t1))
      (none : (i : ℕ) → i < length knots → Outside (get_or knots i nan) t0 t1) where
    abbrev m : Float
    m = middle t0 t1

    m_low : T (le (bounds_of l).lo m)
    m_low = le_trans_float _ t0 m from (lt_le t0 m left)

    m_high : T (lt m (bounds_of l).hi)
    m_high = less_than_most m t1 _ right to

    abbrev here : ℕ
    here = knot_at knots m

    own_is : own_span l t0 t1 ≡ here
    unfolding unrolled_of
    own_is =
        let e = at_is knots t0 t1 m known.two_knots (first_low m m_low m_high) (last_high m m_low m_high) left right none in
        let q : suc here - 1 ≡ here = omega arith in
        ap (λ (n : ℕ). n - 1) e ∙ q

    -- the span of the middle, by its place among the flat knots
    found : (q : ℕ) → get_or (flat_of l) q nan ≡ get_or knots here nan → get_or (flat_of l) (q + 1) nan ≡ get_or knots (suc here) nan → q ≡ span_number l m
    unfolding line_flat
    found q e f =
        let h = at_in knots t0 t1 m known.two_knots (first_low m m_low m_high) (last_high m m_low m_high) left right none in
        let a = at_low knots t0 t1 m known.two_knots (first_low m m_low m_high) (last_high m m_low m_high) left right none in
        let b = at_high knots t0 t1 m known.two_knots (first_low m m_low m_high) (last_high m m_low m_high) left right none in
        span_only m m_low m_high q (
          subst (λ x. T (le x m)) (sym e) a,
          subst (λ x. T (lt m x)) (sym f) (not_le_lt m _ (right_number _ m m_low) (numbers (suc here) h) (never _ b)),
        )

    one_span : InOneSpan l t0 t1
    unfolding place_of line_flat unrolled_of
    one_span =
        let two = known.two_knots in
        let low = first_low m m_low m_high in
        let high = last_high m m_low m_high in
        let g = meeting knots mults known.as_many known.some_mults here (at_in knots t0 t1 m two low high left right none) in
        let e : net_span l t0 t1 ≡ g.place =
        ap (span_number l) (held_is degree (flat_of l) m room (subst (λ x. T (le x m)) lower_is m_low) (subst (λ x. T (lt m x)) upper_is m_high)) ∙ sym (found g.place g.here g.next) in
        let o = own_is in
        let a = knots_around knots t0 t1 m two low high left right none in
        let q : suc here ≡ here + 1 = omega arith in
        record {
          from = around_from knots t0 t1 m two low high left right none;
          to = around_to knots t0 t1 m two low high left right none;
          same = inl (rw (a, o) (refl, ap (λ n. get_or knots n nan) q));
          starts = rw (e, o) g.here;
          ends = rw (e, o) (g.next ∙ ap (λ n. get_or knots n nan) q);
        }

  pub breaks_in_spans : (lo hi : Float) → range_fits false (bounds_of l) lo hi ≡ true → each_two parted (breaks_of l lo hi) ≡ true → AllTwo (InOneSpan l) (breaks_of l lo hi)
  unfolding range_fits unrolled_of
  breaks_in_spans lo hi fits e =
      let h = both (lt lo hi) _ fits in
      let g = both (le (bounds_of l).lo lo) _ h.1 in
      of_breaks_lem lo hi knots h.0 numbers e
      (λ t0 t1 a b left right none. one_span t0 t1 (le_trans_float _ lo t0 g.0 a) (le_trans_float t1 hi _ b (is_true _ g.1)) left right none)
