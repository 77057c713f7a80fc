-- A closed line: its unrolled knots and the flat knots of a turn, the span that is found in the turn, and where a net of its is made. Assumes nothing.
use mathlib.Core.Path.{◌≡◌, refl, ap, sym, ◌∙◌, subst}
use mathlib.Core.Logic.{inl, inr, dite}
use mathlib.Core.Bool.{Bool, true, false, cond}
use mathlib.Core.List.{List, [], ◌∷◌, ◌++◌}
use Prim.Native.Nat.{ℕ, zero, suc, ◌+◌, ◌*◌, ◌-◌, ◌%◌, ◌^◌, ◌≤◌, ◌<◌}
use native.Mathlib.Nat.{le_trans, le_of_eq, mul-pos, mul_right_comm, mul-le-mul_right, le_of_mul-le-mul_right, mod-lt, mod-eq_of_lt, mod-eq-sub-mod}
use native.Mathlib.Decide.{dec_lt}
use native.Mathlib.Omega.{arith}
use lib.Dec.{T, ltb}
use lib.ListN.{length, get_or, take, drop, length-append, length-drop, get_or-append, get_or-eq_default}
use lib.Seq.{get_or-append-add, length-take-le}
use lib.Ieee.{Float, nan, inf, fin, binary64, up, down, add, sub, neg, le, lt, fits}
use lib.Ieee.Fits.{down_pos, mul-fits}
use Rattle.lists.specs.Members.{All}
use Rattle.lists.specs.Tests.{every, each_two, total}
use Rattle.floats.specs.Floats.{middle}
use Rattle.floats.specs.Sizes.{Number, Within}
use Rattle.floats.proofs.Order.{of_fin, left_number, right_number, le_self, le_trans_float}
use Rattle.floats.proofs.Bounds.{lt_not_le}
use Rattle.floats.proofs.Sums.{not_le_lt}
use Rattle.floats.proofs.Middle.{within_number}
use Rattle.lines.specs.Lines.{Line, line_of, with_datum}
use Rattle.lines.specs.Admit.{beyond_of, admit_of}
use Rattle.lines.specs.Counts.{Counts}
use Rattle.std.specs.Prelude.{Ok}
use Rattle.lines.proofs.Admitted.{counts, few_beyond}
use Rattle.knots.specs.Knots.{flat_knots, last_of, bounds_in, period_of, shifted, unrolled_of, turn_flat, line_flat, flat_of, bounds_of, knots_of, breaks_of}
use Rattle.knots.proofs.Laws.{length-shifted}
use Rattle.spans.specs.Spans.{span_end, start_unless, in_period, turn_of, turn_span, place_in, place_of}
use Rattle.pieces.specs.Pieces.{held}
use Rattle.questions.specs.Questions.{turn_fits, range_fits, parted}
use Rattle.facts.specs.Faults.{poles}
use Rattle.facts.specs.Spans.{AllTwo, InSpan, span_number, net_pole_count, comes_again, IsSpan, InOneSpan, Doubles}
use Rattle.facts.proofs.Reflect.{as_true, is_true, both}
use Rattle.facts.proofs.Cover.{lt_le, length-flat, wider, period_within, unrolled_within, range_fine}
use Rattle.facts.proofs.Climbs.{climbs}
use Rattle.facts.proofs.Spans.{false_of}
use Rattle.facts.proofs.Breaks.{Outside, less_than_most, knot_at, first_flat, behind_repeated, some, start-flat, meeting}
use Rattle.facts.proofs.Stretches.{knot_number, knots_climb, flat_number, numbered, holds, only, held_is, at_in, at_is, knots_around, around_from, around_to, of_breaks_lem}
use Rattle.facts.proofs.Units.{past_end}

-- ---- lists
pub all_at : (P : Float → Type 0) (l : List Float) (i : ℕ) → All P l → i < length l → P (get_or l i nan)
all_at P [] i a h = absurd (omega arith)
all_at P (x ∷ l) zero a h = a.0
all_at P (x ∷ l) (suc i) a h = all_at P l i a.1 (omega arith)

-- behind the list stands no number
in_list : (l : List Float) (i : ℕ) → Number (get_or l i nan) → i < length l
in_list l i n = dite (dec_lt i (length l)) (λ h. h) (λ h. absurd (subst Number (get_or-eq_default l nan (omega arith)) n))

rising_at : (ks : List Float) (i : ℕ) → each_two lt ks ≡ true → suc i < length ks → T (lt (get_or ks i nan) (get_or ks (suc i) nan))
unfolding each_two
rising_at [] i r h = absurd (omega arith)
rising_at (x ∷ []) i r h = absurd (omega arith)
rising_at (x ∷ y ∷ l) zero r h = (both (lt x y) (each_two lt (y ∷ l)) r).0
rising_at (x ∷ y ∷ l) (suc i) r h = rising_at (y ∷ l) i (both (lt x y) (each_two lt (y ∷ l)) r).1 (omega arith)

shifted_at : (d : Float) (ks : List Float) (i : ℕ) → i < length ks → get_or (shifted d ks) i nan ≡ add binary64 (get_or ks i nan) d
unfolding shifted
shifted_at d [] i h = absurd (omega arith)
shifted_at d (k ∷ ks) zero h = refl
shifted_at d (k ∷ ks) (suc i) h = shifted_at d ks i (omega arith)

behind_first : (ks : List Float) (i : ℕ) → get_or (drop 1 ks) i nan ≡ get_or ks (suc i) nan
behind_first [] i = refl
behind_first (k ∷ ks) i = refl

at_most_less : (x y z : Float) → T (le x y) → T (lt y z) → T (lt x z)
at_most_less x y z h g = not_le_lt x z (left_number x y h) (right_number y z (lt_le y z g)) (λ t. lt_not_le y z g (le_trans_float z x y t h))

-- ---- a number between two that are within C
no_size : (x d : ℕ) → 0 < d → x * d ≡ 0 → x ≡ 0
no_size zero d h e = refl
no_size (suc x) d h e = let w : 0 < suc x * d = mul-pos (let z : 0 < suc x = omega arith in z) h in absurd (omega arith)

over_size : (C x de y dd : ℕ) → 0 < dd → x * dd ≤ y * de → y ≤ C * dd → x ≤ C * de
over_size C x de y dd p h g = le_of_mul-le-mul_right (le_trans h (le_trans (mul-le-mul_right de g) (le_of_eq (mul_right_comm C dd de)))) p

between-within : (C : ℕ) (lo x hi : Float) → Within C lo → Within C hi → T (le lo x) → T (le x hi) → Within C x
between-within C lo nan hi a b h g = absurd (right_number lo nan h)
between-within C nan (inf s) hi a b h g = absurd a
between-within C (inf t) (inf s) hi a b h g = absurd a
between-within C (fin t n d) (inf true) hi a b h g = absurd (unfold le in h)
between-within C (fin t n d) (inf false) nan a b h g = absurd b
between-within C (fin t n d) (inf false) (inf s) a b h g = absurd b
between-within C (fin t n d) (inf false) (fin s m e) a b h g = absurd (unfold le in g)
between-within C lo (fin false m e) nan a b h g = absurd b
between-within C lo (fin false m e) (inf s) a b h g = absurd b
between-within C lo (fin false m e) (fin false n d) a b h g = over_size C (m * up e) (down e) (n * up d) (down d) (down_pos d) (of_fin false m e false n d g) b
between-within C lo (fin false m e) (fin true n d) a b h g = let z = no_size (m * up e) (down d) (down_pos d) (of_fin false m e true n d g).0 in omega (arith, z)
between-within C nan (fin true m e) hi a b h g = absurd a
between-within C (inf s) (fin true m e) hi a b h g = absurd a
between-within C (fin true n d) (fin true m e) hi a b h g = over_size C (m * up e) (down e) (n * up d) (down d) (down_pos d) (of_fin true n d true m e h) a
between-within C (fin false n d) (fin true m e) hi a b h g = let z = no_size (m * up e) (down d) (down_pos d) (of_fin false n d true m e h).1 in omega (arith, z)

-- ---- the last knot's run among the flat knots
last_in : (m : ℕ) (ms : List ℕ) → get_or (m ∷ ms) (length ms) 0 ≤ total (m ∷ ms)
unfolding total
last_in m [] = omega arith
last_in m (k ∷ ms) = let r = last_in k ms in omega (arith, r)

last_flat : (k : Float) (ks : List Float) (m : ℕ) (ms : List ℕ) → length ms ≡ length ks → every (λ n. ltb 0 n) (m ∷ ms) ≡ true
    → get_or (flat_knots (k ∷ ks) (m ∷ ms)) (total (m ∷ ms) - get_or (m ∷ ms) (length ms) 0) nan ≡ get_or (k ∷ ks) (length ks) nan
unfolding total flat_knots
last_flat k [] m [] l e = let q : m + 0 - m ≡ 0 = omega arith in rw q (first_flat k [] m [] (some m [] e).0)
last_flat k [] m (n ∷ ms) l e = absurd (omega arith)
last_flat k (j ∷ ks) m [] l e = absurd (omega arith)
last_flat k (j ∷ ks) m (n ∷ ms) l e =
    let r = last_in n ms in
    let q : m + total (n ∷ ms) - get_or (n ∷ ms) (length ms) 0 ≡ m + (total (n ∷ ms) - get_or (n ∷ ms) (length ms) 0) = omega (arith, r) in
    ap (λ z. get_or (flat_knots (k ∷ j ∷ ks) (m ∷ n ∷ ms)) z nan) q ∙ behind_repeated m k (flat_knots (j ∷ ks) (n ∷ ms)) (total (n ∷ ms) - get_or (n ∷ ms) (length ms) 0)
    ∙ last_flat j ks n ms (omega arith) (some m (n ∷ ms) e).1

end_flat : (ks : List Float) (ms : List ℕ) → length ms ≡ length ks → every (λ n. ltb 0 n) ms ≡ true → 0 < length ks
    → get_or (flat_knots ks ms) (total ms - get_or ms (length ms - 1) 0) nan ≡ last_of ks
end_flat [] ms l e h = absurd (omega arith)
end_flat (k ∷ ks) [] l e h = absurd (omega arith)
end_flat (k ∷ ks) (m ∷ ms) l e h =
    let a : suc (length ms) - 1 ≡ length ms = omega arith in
    let b : suc (length ks) - 1 ≡ length ks = omega arith in
    rw (a, b) (last_flat k ks m ms (omega arith) e)

some_at : (ms : List ℕ) (i : ℕ) → every (λ n. ltb 0 n) ms ≡ true → i < length ms → 1 ≤ get_or ms i 0
some_at [] i e h = absurd (omega arith)
some_at (m ∷ ms) zero e h = (some m ms e).0
some_at (m ∷ ms) (suc i) e h = some_at ms i (some m ms e).1 (omega arith)

-- ---- x where it lies in [a, b), else a: in [a, b) either way
start_in : (a b x : Float) → T (lt a b) → T (le a (start_unless a b x)) × T (lt (start_unless a b x) b)
unfolding start_unless
start_in a b x h = go (le a x) (lt x b) refl refl
  where
    own : T (le a a)
    own = le_self a (left_number a b (lt_le a b h))

    go : (c d : Bool) → le a x ≡ c → lt x b ≡ d → T (le a (cond c (cond d x a) a)) × T (lt (cond c (cond d x a) a) b)
    go true true e f = (is_true _ e, is_true _ f)
    go true false e f = (own, h)
    go false d e f = (own, h)

start_kept : (a b x : Float) → T (le a x) → T (lt x b) → start_unless a b x ≡ x
unfolding start_unless
start_kept a b x h g = let e = as_true (le a x) h in let f = as_true (lt x b) g in rw (e, f) refl

module _ (degree : ℕ) (knots : List Float) (mults : List ℕ) (coords weights : List Float) (datum : ℕ) (ok : admit_of (line_of true degree knots mults coords weights) ≡ Ok tt) where
  abbrev l : Line
  l = with_datum datum (line_of true degree knots mults coords weights)

  known : Counts l
  known = counts l ok

  -- ---- the unrolled knots
  -- how many spans a turn has
  abbrev spans : ℕ
  spans = length knots - 1

  unrolled_length : length (knots_of l) ≡ 2 * spans + 1
  unfolding unrolled_of
  unrolled_length =
      let a = length-append knots (shifted (period_of knots) (drop 1 knots)) in
      let b = length-shifted (period_of knots) (drop 1 knots) in
      let c = length-drop 1 knots in
      omega (arith, a, b, c, known.two_knots)

  turn_of_lem : turn_of (knots_of l) ≡ spans
  turn_of_lem = let e = unrolled_length in omega (arith, e)

  first_turn : (i : ℕ) → i < length knots → get_or (knots_of l) i nan ≡ get_or knots i nan
  unfolding unrolled_of
  first_turn i h = get_or-append knots (shifted (period_of knots) (drop 1 knots)) nan i h

  second_turn : (i : ℕ) → i ≤ spans → get_or (knots_of l) (spans + i) nan ≡ comes_again knots i
  unfolding unrolled_of
  second_turn zero h = let q : spans + 0 ≡ spans = omega arith in ap (λ n. get_or (knots_of l) n nan) q ∙ first_turn spans (omega (arith, known.two_knots))
  second_turn (suc i) h =
      let q : spans + suc i ≡ length knots + i = omega (arith, known.two_knots) in
      let c = length-drop 1 knots in
      ap (λ n. get_or (knots_of l) n nan) q ∙ get_or-append-add knots (shifted (period_of knots) (drop 1 knots)) i nan
      ∙ shifted_at (period_of knots) (drop 1 knots) i (omega (arith, c)) ∙ ap (λ k. add binary64 k (period_of knots)) (behind_first knots i)

  pub unrolled_number : (i : ℕ) → i < length (knots_of l) → Number (get_or (knots_of l) i nan)
  unrolled_number i h = within_number (2 ^ 22) (get_or (knots_of l) i nan) (all_at (Within (2 ^ 22)) (knots_of l) i (unrolled_within true knots known.two_knots known.knots_fit) h)

  -- ---- the flat knots of a turn
  abbrev flat : List Float
  flat = flat_knots knots mults

  abbrev count : ℕ
  count = total mults - beyond_of true degree mults

  flat-total : length flat ≡ total mults
  flat-total = length-flat knots mults known.as_many

  count_is : count ≡ poles l
  count_is = omega (arith, known.count)

  before_length : length (shifted (neg (period_of knots)) (take degree (drop (count - degree) flat))) ≡ degree
  before_length =
      let c = count_is in
      let e = flat-total in
      let d = length-drop (count - degree) flat in
      length-shifted (neg (period_of knots)) (take degree (drop (count - degree) flat))
      ∙ length-take-le degree (drop (count - degree) flat) (omega (arith, c, d, e, known.enough, known.count))

  turn-length : length (flat_of l) ≡ poles l + degree + degree + 1
  unfolding turn_flat line_flat
  turn-length =
      let c = count_is in
      let e = flat-total in
      let b = few_beyond true degree mults known.small_mults in
      let d = length-drop (length flat - count) flat in
      let k : length (take (degree + 1 - (length flat - count)) (drop (length flat - count) flat)) ≡ degree + 1 - (length flat - count) =
      length-take-le (degree + 1 - (length flat - count)) (drop (length flat - count) flat) (omega (arith, c, d, e, known.enough, known.count)) in
      let s = length-shifted (period_of knots) (take (degree + 1 - (length flat - count)) (drop (length flat - count) flat)) in
      let x = length-append (shifted (neg (period_of knots)) (take degree (drop (count - degree) flat))) (flat ++ shifted (period_of knots) (take (degree + 1 - (length flat - count)) (drop (length flat - count) flat))) in
      let y = length-append flat (shifted (period_of knots) (take (degree + 1 - (length flat - count)) (drop (length flat - count) flat))) in
      let z = before_length in
      omega (arith, x, y, z, s, k, b, c, e, known.count)

  turn_at : (i : ℕ) → i < length flat → get_or (flat_of l) (degree + i) nan ≡ get_or flat i nan
  unfolding turn_flat line_flat
  turn_at i h =
      subst (λ (n : ℕ). get_or (flat_of l) (n + i) nan ≡ get_or flat i nan) before_length
      (get_or-append-add (shifted (neg (period_of knots)) (take degree (drop (count - degree) flat))) _ i nan ∙ get_or-append flat _ nan i h)

  -- ---- its bounds, and the span of a parameter from the first knot on and below the last
  room : 2 * degree + 2 ≤ length (flat_of l)
  room = let e = turn-length in omega (arith, e, known.enough)

  seam : 1 ≤ beyond_of true degree mults
  unfolding beyond_of
  seam = some_at mults (length mults - 1) known.some_mults (omega (arith, known.two_knots, known.as_many))

  flat_more : poles l + 1 ≤ length flat
  flat_more = let e = flat-total in let c = count_is in let z = seam in omega (arith, e, c, z, known.count)

  lower_is : get_or (flat_of l) degree nan ≡ get_or knots 0 nan
  lower_is =
      let q : degree + 0 ≡ degree = omega arith in
      let h = flat_more in
      sym (ap (λ n. get_or (flat_of l) n nan) q) ∙ turn_at 0 (omega arith) ∙ start-flat knots mults known.as_many known.some_mults (omega (arith, known.two_knots))

  upper_is : get_or (flat_of l) (length (flat_of l) - 1 - degree) nan ≡ last_of knots
  unfolding beyond_of
  upper_is =
      let e = turn-length in
      let c = count_is in
      let h = flat_more in
      let q : length (flat_of l) - 1 - degree ≡ degree + count = omega (arith, e, c) in
      ap (λ n. get_or (flat_of l) n nan) q ∙ turn_at count (omega (arith, c, h)) ∙ end_flat knots mults known.as_many known.some_mults (omega (arith, known.two_knots))

  -- the flat knots of the turn climb
  turn_climbs : (i j : ℕ) → degree ≤ i → i ≤ j → j ≤ degree + length flat - 1 → T (le (get_or (flat_of l) i nan) (get_or (flat_of l) j nan))
  turn_climbs i j a b c =
      let h = flat_more in
      let x : degree + (i - degree) ≡ i = omega arith in
      let y : degree + (j - degree) ≡ j = omega arith in
      let e = sym (ap (λ n. get_or (flat_of l) n nan) x) ∙ turn_at (i - degree) (omega arith) in
      let f = sym (ap (λ n. get_or (flat_of l) n nan) y) ∙ turn_at (j - degree) (omega arith) in
      rw (e, f) (climbs knots mults known.increasing known.knots_fit (i - degree) (j - degree) (omega arith) (omega arith))

  module _ (u : Float) (from : T (le (get_or knots 0 nan) u)) (to : T (lt u (last_of knots))) where
    low : T (le (get_or (flat_of l) degree nan) u)
    low = subst (λ x. T (le x u)) (sym lower_is) from

    high : T (lt u (get_or (flat_of l) (length (flat_of l) - 1 - degree) nan))
    high = subst (λ x. T (lt u x)) (sym upper_is) to

    pub span_numbered : (degree ≤ span_number l u) × (span_number l u < net_pole_count l)
    span_numbered = let n = numbered degree (flat_of l) u room low high in let e = turn-length in (n.0, omega (arith, n.1, e))

    pub span_holds : InSpan l u (span_number l u)
    span_holds =
        let n = numbered degree (flat_of l) u room low high in
        let e = turn-length in
        let h = flat_more in
        let s = span_number l u + 1 - degree in
        let q : degree + (span_number l u + 1 - degree) ≡ span_number l u + 1 = omega (arith, n.0) in
        let f = turn_at (span_number l u + 1 - degree) (omega (arith, n.1, e, h)) in
        holds degree (flat_of l) u room low high
        (subst Number (sym f ∙ ap (λ z. get_or (flat_of l) z nan) q)
        (flat_number knots known.knots_fit known.increasing mults (span_number l u + 1 - degree) (omega (arith, n.1, e, h))))

    span_only : (s : ℕ) → degree ≤ s → s < degree + length flat - 1 → InSpan l u s → s ≡ span_number l u
    span_only s a b o =
        let e = turn-length in
        let h = flat_more in
        only degree (flat_of l) u room low high degree (degree + length flat - 1) turn_climbs (omega arith) (omega (arith, e, h)) s a b o

    pub span_only_turn : (s : ℕ) → degree ≤ s → s < net_pole_count l → InSpan l u s → s ≡ span_number l u
    span_only_turn s a b o = let h = flat_more in span_only s a (omega (arith, b, h)) o

    held-turn : held degree (flat_of l) u ≡ u
    held-turn = held_is degree (flat_of l) u room low high

  -- ---- a net is made in the span of the turn, wherever in_period would leave it
  module _ (t : Float) where
    abbrev own : ℕ
    own = turn_span (knots_of l) t

    abbrev place : Float
    place = place_of true (knots_of l) t

    own_in : suc (turn_span (knots_of l) t) < length knots
    unfolding turn_span
    own_in =
        let e = turn_of_lem in
        let h = mod-lt (span_end (knots_of l) t - 1) {m = turn_of (knots_of l)} (omega (arith, e, known.two_knots)) in
        omega (arith, h, e)

    place_is : place_of true (knots_of l) t ≡ start_unless (get_or knots own nan) (get_or knots (own + 1) nan) (in_period (get_or knots 0 nan) (last_of knots) t)
    unfolding place_of place_in
    place_is =
        let h = own_in in
        let e = first_turn own (omega arith) in
        let f = first_turn (own + 1) (omega arith) in
        let g = first_turn 0 (omega arith) in
        let k = ap (λ n. get_or (knots_of l) n nan) turn_of_lem ∙ first_turn spans (omega arith) in
        rw (e, f, g, k) refl

    place_in_lem : T (le (get_or knots own nan) place) × T (lt place (get_or knots (own + 1) nan))
    place_in_lem =
        let h = own_in in
        let q : suc own ≡ own + 1 = omega arith in
        rw place_is (start_in _ _ _ (subst (λ (n : ℕ). T (lt (get_or knots own nan) (get_or knots n nan))) q (rising_at knots own known.increasing h)))

    place_first : T (le (get_or knots 0 nan) place)
    place_first = let h = own_in in le_trans_float _ _ _ (knots_climb knots known.knots_fit known.increasing 0 own (omega arith) (omega arith)) place_in_lem.0

    place_last : T (lt place (last_of knots))
    place_last = let h = own_in in less_than_most _ _ _ place_in_lem.1 (knots_climb knots known.knots_fit known.increasing (own + 1) spans (omega arith) (omega arith))

    -- where that span stands among the flat knots of the turn
    span_place : (get_or (flat_of l) (span_number l place) nan ≡ get_or knots own nan) × (get_or (flat_of l) (span_number l place + 1) nan ≡ get_or knots (own + 1) nan)
    span_place =
        let g = meeting knots mults known.as_many known.some_mults own own_in in
        let h = own_in in
        let q : suc own ≡ own + 1 = omega arith in
        let next = g.next ∙ ap (λ n. get_or knots n nan) q in
        let b = in_list flat (g.place + 1) (subst Number (sym next) (knot_number knots known.knots_fit known.increasing (own + 1) (omega arith))) in
        let x = turn_at g.place (omega arith) ∙ g.here in
        let z : degree + (g.place + 1) ≡ degree + g.place + 1 = omega arith in
        let y = sym (ap (λ n. get_or (flat_of l) n nan) z) ∙ turn_at (g.place + 1) b ∙ next in
        let s = span_only place place_first place_last (degree + g.place) (omega arith) (omega (arith, b))
        (rw x place_in_lem.0, rw y place_in_lem.1) in
        (ap (λ n. get_or (flat_of l) n nan) (sym s) ∙ x, ap (λ n. get_or (flat_of l) (n + 1) nan) (sym s) ∙ y)

  -- ---- two breaks, the unrolled knots not ending before their middle
  module _ (t0 t1 : Float) (from : T (le (get_or knots 0 nan) t0)) (short : le (last_of (knots_of l)) (middle t0 t1) ≡ false) (left : T (lt t0 (middle t0 t1))) (right : T (lt (middle t0 t1) t1))
      (none : (i : ℕ) → i < length (knots_of l) → Outside (get_or (knots_of l) i nan) t0 t1) where
    abbrev m : Float
    m = middle t0 t1

    more : 2 ≤ length (knots_of l)
    more = let e = unrolled_length in omega (arith, e, known.two_knots)

    m_low : T (le (get_or (knots_of l) 0 nan) m)
    m_low = rw (first_turn 0 (omega (arith, known.two_knots))) (le_trans_float _ t0 m from (lt_le t0 m left))

    -- the number of the span around the middle, in the unrolled knots
    abbrev here : ℕ
    here = knot_at (knots_of l) m

    here_in : suc here < length (knots_of l)
    here_in = at_in (knots_of l) t0 t1 m more m_low short left right none

    own_is : turn_span (knots_of l) m ≡ here % spans
    unfolding turn_span
    own_is =
        let e = at_is (knots_of l) t0 t1 m more m_low short left right none in
        let f = turn_of_lem in
        let q : suc here - 1 ≡ here = omega arith in
        rw (e, f, q) refl

    -- it is that span of the turn, or the same a turn later
    same_span : IsSpan l (turn_span (knots_of l) m) (record { lo = get_or (knots_of l) here nan; hi = get_or (knots_of l) (suc here) nan })
    same_span =
        let b = here_in in
        let e = unrolled_length in
        dite (dec_lt here spans)
        (λ h. let o = own_is ∙ mod-eq_of_lt h in
        let q : suc here ≡ here + 1 = omega arith in
        inl (rw o (first_turn here (omega arith), first_turn (suc here) (omega arith) ∙ ap (λ n. get_or knots n nan) q)))
        (λ h. let o = own_is ∙ mod-eq-sub-mod {n = here} {m = spans} (omega arith) ∙ mod-eq_of_lt {n = here - spans} {m = spans} (omega (arith, b, e)) in
        let x : spans + (here - spans) ≡ here = omega arith in
        let y : spans + (here - spans + 1) ≡ suc here = omega arith in
        inr (rw o (
          refl,
          sym (ap (λ n. get_or (knots_of l) n nan) x) ∙ second_turn (here - spans) (omega (arith, b, e)),
          sym (ap (λ n. get_or (knots_of l) n nan) y) ∙ second_turn (here - spans + 1) (omega (arith, b, e)),
        )))

    pub one_span : InOneSpan l t0 t1
    one_span =
        let p = span_place m in
        let h = held-turn (place_of true (knots_of l) m) (place_first m) (place_last m) in
        record {
          from = around_from (knots_of l) t0 t1 m more m_low short left right none;
          to = around_to (knots_of l) t0 t1 m more m_low short left right none;
          same = subst (IsSpan l (turn_span (knots_of l) m)) (sym (knots_around (knots_of l) t0 t1 m more m_low short left right none)) same_span;
          starts = ap (λ (u : Float). get_or (flat_of l) (span_number l u) nan) h ∙ p.0;
          ends = ap (λ (u : Float). get_or (flat_of l) (span_number l u + 1) nan) h ∙ p.1;
        }

  pub place_kept : (t u : Float) → u ≡ in_period (get_or knots 0 nan) (last_of knots) t → T (le (get_or knots (turn_span (knots_of l) t) nan) u)
      → T (lt u (get_or knots (turn_span (knots_of l) t + 1) nan)) → place_of true (knots_of l) t ≡ u
  place_kept t u is a b =
      place_is t ∙ ap (start_unless (get_or knots (turn_span (knots_of l) t) nan) (get_or knots (turn_span (knots_of l) t + 1) nan)) (sym is)
      ∙ start_kept (get_or knots (turn_span (knots_of l) t) nan) (get_or knots (turn_span (knots_of l) t + 1) nan) u a b

  -- ---- the unrolled knots don't end before the middle of two breaks that pass 18: past the end no double would lie between them
  module _ (lo hi : Float) (doubles : Doubles l lo hi) (fifteen : range_fits true (bounds_of l) lo hi ≡ true) where
    range : T (lt lo hi) × T (le (get_or knots 0 nan) lo) × T (lt lo (last_of knots)) × T (le (sub binary64 hi lo) (period_of knots))
    unfolding range_fits bounds_in turn_fits
    range =
        let a = both (lt lo hi) _ fifteen in
        let b = both (le (get_or knots 0 nan) lo) _ a.1 in
        let c = both (lt lo (last_of knots)) _ b.1 in
        (a.0, b.0, c.0, is_true _ c.1)

    end_is : get_or (knots_of l) (spans + spans) nan ≡ add binary64 (last_of knots) (period_of knots)
    end_is = second_turn spans (omega arith) ∙ go spans (omega (arith, known.two_knots))
      where
        go : (i : ℕ) → 0 < i → comes_again knots i ≡ add binary64 (get_or knots i nan) (period_of knots)
        go zero h = absurd (omega arith)
        go (suc i) h = refl

    knot_within : (i : ℕ) → i < length knots → Within (2 ^ 22) (get_or knots i nan)
    unfolding unrolled_of
    knot_within i h = all_at (Within (2 ^ 22)) knots i (unrolled_within false knots known.two_knots known.knots_fit) h

    not_past : (t0 t1 : Float) → T (le lo t0) → T (le t1 hi) → T (lt t0 (middle t0 t1)) → T (lt (middle t0 t1) t1)
        → ((i : ℕ) → i < length (knots_of l) → Outside (get_or (knots_of l) i nan) t0 t1) → le (last_of (knots_of l)) (middle t0 t1) ≡ false
    unfolding middle
    not_past t0 t1 a b left right none =
        let e = unrolled_length in
        let q : length (knots_of l) - 1 ≡ spans + spans = omega (arith, e) in
        let r = range in
        let w = range_fine l lo hi ok fifteen in
        let low = wider lo w.0 in
        let m = middle t0 t1 in
        let two = known.two_knots in
        let after : T (le lo m) = le_trans_float lo t0 m a (lt_le t0 m left) in
        let ahead : T (lt m hi) = less_than_most m t1 hi right b in
        false_of _ (λ t. elim (none (length (knots_of l) - 1) (omega (arith, e))) [
          | inl x ↦ past_end binary64 (get_or knots 0 nan) lo (last_of knots) m hi
              (all_at (λ (x : Float). T (fits binary64 x)) knots 0 doubles.0 (omega arith)) doubles.1 (all_at (λ (x : Float). T (fits binary64 x)) knots spans doubles.0 (omega arith))
              (mul-fits binary64 _ _) doubles.2
              (knot_within 0 (omega arith)) low (knot_within spans (omega arith)) (between-within (2 ^ 22) lo m hi low w.1 after (lt_le m hi ahead)) w.1
              (period_within knots two known.knots_fit)
              (less_than_most _ _ _ (rising_at knots 0 known.increasing (omega arith)) (knots_climb knots known.knots_fit known.increasing 1 spans (omega arith) (omega arith)))
              r.2 ahead r.0
              (subst (λ (z : Float). T (lt z m)) (ap (λ (n : ℕ). get_or (knots_of l) n nan) q ∙ end_is) (at_most_less _ t0 m x left))
              r.3
          | inr y ↦ lt_not_le m t1 right (le_trans_float t1 _ m y t)
        ])

    pub breaks_in_spans : each_two parted (breaks_of l lo hi) ≡ true → AllTwo (InOneSpan l) (breaks_of l lo hi)
    breaks_in_spans e =
        of_breaks_lem lo hi (knots_of l) range.0 unrolled_number e
        (λ t0 t1 a b left right none. one_span t0 t1 (le_trans_float _ lo t0 range.1 a) (not_past t0 t1 a b left right none) left right none)
