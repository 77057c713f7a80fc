-- The pieces of an admitted line over a range that question 15 passes: their ranges are neighbouring breaks within ±2^22, they hold every double of the range, and what is written is their nets. Assumes nothing.
use mathlib.Core.Path.{◌≡◌, refl, ap, ◌∙◌}
use mathlib.Core.Logic.{inl, inr}
use mathlib.Core.Bool.{Bool, true, false, cond, ◌||◌}
use mathlib.Core.List.{List, [], ◌∷◌, ◌++◌}
use Prim.Native.Nat.{ℕ, zero, suc, ◌+◌, ◌*◌, ◌-◌, ◌≤◌, ◌<◌, ◌^◌}
use native.Mathlib.Omega.{arith}
use lib.Dec.{T, lit<}
use lib.ListN.{length, get_or, drop}
use lib.Ieee.{Float, nan, inf, fin, binary64, le, lt, eq, neg, sub}
use Rattle.floats.specs.Stations.{InRange, Piece, Cut, pieces_from, end_from}
use Rattle.lists.specs.Members.{Any, All}
use Rattle.lists.specs.Tests.{every, total}
use Rattle.floats.specs.Floats.{within}
use Rattle.floats.specs.Sizes.{Within}
use Rattle.floats.proofs.Middle.{within_number, add_within}
use Rattle.floats.proofs.Reach.{reach_within}
use Rattle.floats.proofs.Order.{le_total, right_number, le_trans_float}
use Rattle.std.specs.Prelude.{Ok}
use Rattle.lines.specs.Admit.{two20, admit_of}
use Rattle.lines.proofs.Admitted.{counts, every_at}
use Rattle.knots.specs.Knots.{repeated, flat_knots, open_bounds, bounds_in, period_of, shifted, unrolled_of, inside, between, bounds_of, knots_of, breaks_of}
use Rattle.pieces.specs.Pieces.{net_of, nets_of}
use Rattle.pieces.proofs.Lengths.{length_net, length_nets}
use Rattle.curves.specs.Curves.{piece_count, pieces_of, cuts_from, cuts_of, nets_in}
use Rattle.questions.specs.Questions.{turn_fits, range_fits}
use Rattle.lines.specs.Lines.{Line}
use Rattle.facts.proofs.Reflect.{is_true, as_true, both}
use Rattle.facts.proofs.Sizes.{of_within20}

-- within ±2^20, as the test has it
abbrev pub Fits : Float → Type 0
Fits x = T (le (neg two20) x) × T (le x two20)

pub fits_of : (x : Float) → within (neg two20) two20 x ≡ true → Fits x
unfolding within
fits_of x e = let h = both (le (neg two20) x) (le x two20) e in (h.0, is_true _ h.1)

fits_within : (x : Float) → Fits x → Within (2 ^ 20) x
unfolding within
fits_within x h = (of_within20 x).yes (go (le (neg two20) x) (le x two20) h.0 h.1)
  where
    go : (a b : Bool) → T a → T b → cond a b false ≡ true
    go true b x y = as_true b y
    go false b x y = absurd x

-- what is written is these nets, one after the other
pub nets_are : (closed : Bool) (p : ℕ) (knots flat poles : List Float) (t0 : Float) (ts : List Float) → nets_of closed p knots flat poles (t0 ∷ ts) ≡ nets_in (cuts_from closed p knots flat poles t0 ts)
unfolding nets_of cuts_from
nets_are closed p knots flat poles t0 [] = refl
nets_are closed p knots flat poles t0 (t1 ∷ ts) = ap (λ l. net_of closed p knots flat poles t0 t1 ++ l) (nets_are closed p knots flat poles t1 ts)

length_cuts : (closed : Bool) (p : ℕ) (knots flat poles : List Float) (t0 : Float) (ts : List Float) → length (cuts_from closed p knots flat poles t0 ts) ≡ length (t0 ∷ ts) - 1
unfolding cuts_from
length_cuts closed p knots flat poles t0 [] = refl
length_cuts closed p knots flat poles t0 (t1 ∷ ts) = let r = length_cuts closed p knots flat poles t1 ts in omega arith

-- ---- the end is hi
end_is : (closed : Bool) (p : ℕ) (knots flat poles : List Float) (lo hi t : Float) (ks : List Float) → end_from t (cuts_from closed p knots flat poles t (between lo hi ks (hi ∷ []))) ≡ hi
unfolding cuts_from between
end_is closed p knots flat poles lo hi t [] = refl
end_is closed p knots flat poles lo hi t (k ∷ ks) = go (inside lo hi k) (end_is closed p knots flat poles lo hi k ks) (end_is closed p knots flat poles lo hi t ks)
  where
    go : (b : Bool) → end_from k (cuts_from closed p knots flat poles k (between lo hi ks (hi ∷ []))) ≡ hi
        → end_from t (cuts_from closed p knots flat poles t (between lo hi ks (hi ∷ []))) ≡ hi
        → end_from t (cuts_from closed p knots flat poles t (cond b (k ∷ between lo hi ks (hi ∷ [])) (between lo hi ks (hi ∷ [])))) ≡ hi
    go true x y = x
    go false x y = y

-- ---- what passes a test on every knot
every_repeated : (t : Float → Bool) (m : ℕ) (k : Float) (l : List Float) → t k ≡ true → every t l ≡ true → every t (repeated m k l) ≡ true
unfolding every repeated
every_repeated t zero k l h e = e
every_repeated t (suc m) k l h e = rw h (every_repeated t m k l h e)

pub every_flat : (t : Float → Bool) (ks : List Float) (ms : List ℕ) → every t ks ≡ true → every t (flat_knots ks ms) ≡ true
unfolding every flat_knots
every_flat t [] ms e = refl
every_flat t (k ∷ ks) [] e = refl
every_flat t (k ∷ ks) (m ∷ ms) e =
    let h = both (t k) (every t ks) e in
    every_repeated t m k (flat_knots ks ms) (as_true (t k) h.0) (every_flat t ks ms h.1)

length-repeated : (m : ℕ) (k : Float) (l : List Float) → length (repeated m k l) ≡ m + length l
unfolding repeated
length-repeated zero k l = omega arith
length-repeated (suc m) k l = let r = length-repeated m k l in omega arith

pub length-flat : (ks : List Float) (ms : List ℕ) → length ms ≡ length ks → length (flat_knots ks ms) ≡ total ms
unfolding flat_knots total
length-flat [] [] h = refl
length-flat [] (m ∷ ms) h = absurd (omega arith)
length-flat (k ∷ ks) [] h = absurd (omega arith)
length-flat (k ∷ ks) (m ∷ ms) h = length-repeated m k (flat_knots ks ms) ∙ ap (λ n. m + n) (length-flat ks ms (omega arith))

-- ---- the chain of pieces
chained : (closed : Bool) (p : ℕ) (knots flat poles : List Float) (lo hi t : Float) (ks : List Float) (s : Float) → All (Within (2 ^ 22)) ks → InRange t hi s
    → Any (λ (q : Piece). InRange q.lo q.hi s) (pieces_from t (cuts_from closed p knots flat poles t (between lo hi ks (hi ∷ []))))
unfolding cuts_from between
chained closed p knots flat poles lo hi t [] s a h = inl h
chained closed p knots flat poles lo hi t (k ∷ ks) s a h =
    go (inside lo hi k) (λ y. chained closed p knots flat poles lo hi k ks s a.1 (y, h.1)) (chained closed p knots flat poles lo hi t ks s a.1 h)
  where
    go : (b : Bool)
        → (T (le k s) → Any (λ (q : Piece). InRange q.lo q.hi s) (pieces_from k (cuts_from closed p knots flat poles k (between lo hi ks (hi ∷ [])))))
        → Any (λ (q : Piece). InRange q.lo q.hi s) (pieces_from t (cuts_from closed p knots flat poles t (between lo hi ks (hi ∷ []))))
        → Any (λ (q : Piece). InRange q.lo q.hi s)
        (pieces_from t (cuts_from closed p knots flat poles t (cond b (k ∷ between lo hi ks (hi ∷ [])) (between lo hi ks (hi ∷ [])))))
    go true on skip = elim (le_total s k (right_number t s h.0) (within_number (2 ^ 22) k a.0)) [ inl x ↦ inl (h.0, x) | inr y ↦ inr (on y) ]
    go false on skip = skip

-- ---- the ends of the range
pub lt_le : (x y : Float) → T (lt x y) → T (le x y)
unfolding le
lt_le x y h = go (lt x y) (eq x y) h
  where
    go : (a b : Bool) → T a → T (a || b)
    go true b u = tt
    go false b u = absurd u

-- ---- numbers within bounds
pub wider : (x : Float) → Within (2 ^ 20) x → Within (2 ^ 22) x
wider nan h = h
wider (inf s) h = h
wider (fin s m e) h = omega arith

a_bit_wider : (x : Float) → Within (2 ^ 20) x → Within (2 ^ 21) x
a_bit_wider nan h = h
a_bit_wider (inf s) h = h
a_bit_wider (fin s m e) h = omega arith

neg_within : (C : ℕ) (x : Float) → Within C x → Within C (neg x)
unfolding neg
neg_within C nan h = h
neg_within C (inf s) h = h
neg_within C (fin s m e) h = h

sub_within : (x y : Float) → Within (2 ^ 20) x → Within (2 ^ 20) y → Within (2 ^ 21) (sub binary64 x y)
unfolding sub
sub_within x y h g = add_within 20 x (neg y) (lit< tt) h (neg_within (2 ^ 20) y g)

all_within_lem : (ks : List Float) → every (within (neg two20) two20) ks ≡ true → All (Within (2 ^ 20)) ks
unfolding every
all_within_lem [] e = tt
all_within_lem (k ∷ ks) e = let h = both (within (neg two20) two20 k) (every (within (neg two20) two20) ks) e in ((of_within20 k).yes (as_true _ h.0), all_within_lem ks h.1)

all_wider : (ks : List Float) → All (Within (2 ^ 20)) ks → All (Within (2 ^ 22)) ks
all_wider [] a = tt
all_wider (k ∷ ks) a = (wider k a.0, all_wider ks a.1)

shifted-within : (d : Float) (ks : List Float) → Within (2 ^ 21) d → All (Within (2 ^ 20)) ks → All (Within (2 ^ 22)) (shifted d ks)
unfolding shifted
shifted-within d [] h a = tt
shifted-within d (k ∷ ks) h a = (add_within 21 k d (lit< tt) (a_bit_wider k a.0) h, shifted-within d ks h a.1)

all_both : (P : Float → Type 0) (ks js : List Float) → All P ks → All P js → All P (ks ++ js)
all_both P [] js a b = b
all_both P (k ∷ ks) js a b = (a.0, all_both P ks js a.1 b)

all_rest : (P : Float → Type 0) (ks : List Float) → All P ks → All P (drop 1 ks)
all_rest P [] a = tt
all_rest P (k ∷ ks) a = a.1

pub period_within : (knots : List Float) → 2 ≤ length knots → every (within (neg two20) two20) knots ≡ true → Within (2 ^ 21) (period_of knots)
period_within knots two six = sub_within _ _ (knot_within (length knots - 1) (omega arith)) (knot_within 0 (omega arith))
  where
    knot_within : (i : ℕ) → i < length knots → Within (2 ^ 20) (get_or knots i nan)
    knot_within i h = (of_within20 (get_or knots i nan)).yes (every_at nan (within (neg two20) two20) knots i h six)

-- the knots of a line, unrolled if it is closed
pub unrolled_within : (closed : Bool) (knots : List Float) → 2 ≤ length knots → every (within (neg two20) two20) knots ≡ true → All (Within (2 ^ 22)) (unrolled_of closed knots)
unfolding unrolled_of
unrolled_within false knots two six = all_wider knots (all_within_lem knots six)
unrolled_within true knots two six =
    let a = all_within_lem knots six in
    all_both (Within (2 ^ 22)) knots (shifted (period_of knots) (drop 1 knots)) (all_wider knots a)
    (shifted-within (period_of knots) (drop 1 knots) (period_within knots two six) (all_rest (Within (2 ^ 20)) knots a))

-- ---- the ends of a range
module _ (degree : ℕ) (knots : List Float) (mults : List ℕ) (lo hi : Float) (two : 2 ≤ length knots) (lm : length mults ≡ length knots) (room : degree + 1 ≤ total mults)
    (six : every (within (neg two20) two20) knots ≡ true) where
  knot_fits : (i : ℕ) → i < length knots → Fits (get_or knots i nan)
  knot_fits i h = fits_of _ (every_at nan (within (neg two20) two20) knots i h six)

  flat_fits : (i : ℕ) → i < total mults → Fits (get_or (flat_knots knots mults) i nan)
  flat_fits i h =
      fits_of _ (every_at nan (within (neg two20) two20) (flat_knots knots mults) i (let l = length-flat knots mults lm in omega arith)
      (every_flat (within (neg two20) two20) knots mults six))

  between_bounds : (a b : Float) → Fits a → Fits b → T (le a lo) → T (le lo b) → Within (2 ^ 20) lo
  between_bounds a b fa fb h g = fits_within lo (le_trans_float (neg two20) a lo fa.0 h, le_trans_float lo b two20 g fb.1)

  ends : (closed : Bool) → range_fits closed (bounds_in closed degree knots mults) lo hi ≡ true → Within (2 ^ 20) lo × Within (2 ^ 22) hi
  unfolding range_fits turn_fits bounds_in open_bounds
  ends false fifteen =
      let h = both (lt lo hi) _ fifteen in
      let g = both (le (get_or (flat_knots knots mults) degree nan) lo) _ h.1 in
      let upper = flat_fits (total mults - degree - 1) (omega arith) in
      let below = is_true _ g.1 in
      let f = flat_fits degree (omega arith) in (
        between_bounds _ _ f upper g.0 (le_trans_float lo hi _ (lt_le lo hi h.0) below),
        wider hi (fits_within hi (
          le_trans_float (neg two20) lo hi (le_trans_float (neg two20) _ lo f.0 g.0) (lt_le lo hi h.0),
          le_trans_float hi _ two20 below upper.1,
        )),
      )
  ends true fifteen =
      let h = both (lt lo hi) _ fifteen in
      let g = both (le (get_or knots 0 nan) lo) _ h.1 in
      let k = both (lt lo (get_or knots (length knots - 1) nan)) _ g.1 in
      let w = between_bounds _ _ (knot_fits 0 (omega arith)) (knot_fits (length knots - 1) (omega arith)) g.0 (lt_le lo _ k.0) in (
        w,
        reach_within lo hi (period_of knots) w
            (sub_within _ _ (fits_within _ (knot_fits (length knots - 1) (omega arith))) (fits_within _ (knot_fits 0 (omega arith)))) h.0 (is_true _ k.1),
      )

between-within : (lo hi : Float) (ks : List Float) → Within (2 ^ 22) hi → All (Within (2 ^ 22)) ks → All (Within (2 ^ 22)) (between lo hi ks (hi ∷ []))
unfolding between
between-within lo hi [] h a = (h, tt)
between-within lo hi (k ∷ ks) h a = go (inside lo hi k) (between-within lo hi ks h a.1)
  where
    go : (b : Bool) → All (Within (2 ^ 22)) (between lo hi ks (hi ∷ [])) → All (Within (2 ^ 22)) (cond b (k ∷ between lo hi ks (hi ∷ [])) (between lo hi ks (hi ∷ [])))
    go true r = (a.0, r)
    go false r = r

cuts_fine : (closed : Bool) (p : ℕ) (knots flat poles : List Float) (t : Float) (ts : List Float) → All (Within (2 ^ 22)) ts
    → All (λ (c : Cut). Within (2 ^ 22) c.to × (length c.net ≡ 4 * (p + 1))) (cuts_from closed p knots flat poles t ts)
unfolding cuts_from
cuts_fine closed p knots flat poles t [] a = tt
cuts_fine closed p knots flat poles t (t1 ∷ ts) a = ((a.0, length_net closed p knots flat poles t t1), cuts_fine closed p knots flat poles t1 ts a.1)

-- ---- of an admitted line and a range that fits
module _ (l : Line) (lo hi : Float) (ok : admit_of l ≡ Ok tt) (fits : range_fits l.closed (bounds_of l) lo hi ≡ true) where
  knots_within : All (Within (2 ^ 22)) (knots_of l)
  knots_within = let k = counts l ok in unrolled_within l.closed l.knots k.two_knots k.knots_fit

  pub range_fine : Within (2 ^ 20) lo × Within (2 ^ 22) hi
  range_fine =
      let k = counts l ok in
      ends l.degree l.knots l.mults lo hi k.two_knots k.as_many (omega (arith, k.count, k.enough)) k.knots_fit l.closed fits

  -- each double of the range lies in some piece's range
  pub pieces_cover : (s : Float) → InRange lo hi s → Any (λ (p : Piece). InRange p.lo p.hi s) (pieces_from lo (cuts_of l lo hi))
  pieces_cover s h = chained l.closed l.degree (knots_of l) _ _ lo hi lo (knots_of l) s knots_within h

  -- each break is finite and within ±2^22, each net has four numbers a point
  pub pieces_fine : Within (2 ^ 22) lo × All (λ (c : Cut). Within (2 ^ 22) c.to × (length c.net ≡ 4 * (l.degree + 1))) (cuts_of l lo hi)
  pieces_fine = (
    wider lo range_fine.0,
    cuts_fine l.closed l.degree (knots_of l) _ _ lo (between lo hi (knots_of l) (hi ∷ [])) (between-within lo hi (knots_of l) range_fine.1 knots_within),
  )

-- ---- of any line and range
module _ (l : Line) (lo hi : Float) where
  -- the last piece ends at hi
  pub pieces_end : end_from lo (cuts_of l lo hi) ≡ hi
  pieces_end = end_is l.closed l.degree (knots_of l) _ _ lo hi lo (knots_of l)

  -- one piece fewer than breaks
  pub pieces_count : length (cuts_of l lo hi) ≡ piece_count l lo hi
  pieces_count = length_cuts l.closed l.degree (knots_of l) _ _ lo (between lo hi (knots_of l) (hi ∷ []))

  -- what `curve_pieces` writes is the nets of these, one after the other, and so many numbers
  pub pieces-written : pieces_of l lo hi ≡ nets_in (cuts_of l lo hi)
  unfolding pieces_of
  pieces-written = nets_are l.closed l.degree (knots_of l) _ _ lo (between lo hi (knots_of l) (hi ∷ []))

  pub pieces-length : length (pieces_of l lo hi) ≡ piece_count l lo hi * (4 * (l.degree + 1))
  unfolding pieces_of
  pieces-length = length_nets l.closed l.degree (knots_of l) _ _ (breaks_of l lo hi)
