-- The opening's tests, one a return, and the room of what is pushed. Assumes nothing.
use mathlib.Core.Path.{◌≡◌, refl, sym, ap, ◌∙◌, subst}
use Rattle.std.specs.Prelude.{Result, Ok, Err, is_ok}
use Rattle.curves.proofs.Few.{few_open, few_closed}
use Rattle.points.specs.declared.Interval.{Interval}
use Rattle.lines.proofs.Admitted.{counts}
use mathlib.Core.Bool.{Bool, true, false, cond, false≢true}
use mathlib.Core.List.{List, [], ◌∷◌}
use Prim.Native.Nat.{ℕ, ◌+◌, ◌-◌, ◌*◌, ◌≤◌}
use native.Mathlib.Nat.{le_trans, mul-le-mul, mul-le-mul_right}
use native.Mathlib.Omega.{arith}
use lib.Dec.{T}
use borrow.Author.Tests.{ltb-false, not-false}
use lib.ListN.{length, take, length-reverse}
use lib.Seq.{length-take-le}
use lib.Ieee.{Float, le, lt}
use Rattle.lists.specs.Parts.{patch}
use Rattle.verdicts.specs.declared.Side.TheVariants.{First, Second}
use Rattle.questions.specs.declared.QuestionError.{QuestionError}
use Rattle.questions.specs.declared.QuestionError.TheVariants.{RangeOutOfBounds, GapOutOfRange, TooManySplits}
use Rattle.lines.specs.Admit.{admit_of}
use Rattle.questions.specs.Questions.{range_fits, ask_within, ask_of}
use Rattle.knots.specs.Knots.{bounds_of, breaks_of, bounds_in, unrolled_of}
use Rattle.curves.specs.Curves.{piece_count, count_in}
use Rattle.lines.specs.Lines.{Question, Line}
use Rattle.lines.specs.Data.{one_datum}
use Rattle.pairs.specs.Nodes.{HasPieces}
use Rattle.pairs.specs.Pairs.{Pieces, pieces, pairs_from, nets1_of, nets2_of, ranges_of, depths_of}
use Rattle.states.specs.declared.State.{State}
use Rattle.terms.specs.declared.Terms.{Terms}
use Rattle.states.specs.States.{Memory, memory, Sizes, sizes, needed, enough, first_state}
use Rattle.states.proofs.Tests.{room_all}
use Rattle.opening.specs.declared.OpenError.{OpenError}
use Rattle.opening.specs.declared.OpenError.TheVariants.{BadDatum, NoRoom}
use Rattle.opening.specs.Asked.{pushed_pairs, pairs_of, start, state_of}
use Rattle.opening.specs.Opens.{terms_of, search_for, pieces_in, pushing, push_def, push_pairs, opening, open_pieces, open_def}
use Rattle.opening.proofs.Pushed.{one, other, numbered, pairs_are, memory_is}

-- so many pairs as pieces allow
pub few_pairs : (r n m : ℕ) → n ≤ 255 → m ≤ 255 → r ≤ n * m → r ≤ 65025
few_pairs r n m h k l = let w = mul-le-mul h k in omega arith

pub push_room : (x : State) (n S w1 w2 : ℕ) (gap : Float) (t : Terms) (s : Sizes) → x ≡ first_state n S w1 w2 gap t → enough (needed x) s ≡ true
    → (n * (4 * w1) ≤ s.nets1) × (n * (4 * w2) ≤ s.nets2) × (n * 4 ≤ s.ranges) × (n * 2 ≤ s.depths)
push_room x n S w1 w2 gap t s e f =
    let R = room_all (first_state n S w1 w2 gap t) s (subst (λ (y : State). enough (needed y) s ≡ true) e f) in
    let more : n ≤ n + 64 = omega arith in (
      le_trans (mul-le-mul_right (4 * w1) more) R.nets1,
      le_trans (mul-le-mul_right (4 * w2) more) R.nets2,
      le_trans (mul-le-mul_right 4 more) R.ranges,
      le_trans (mul-le-mul_right 2 more) R.depths,
    )

module _ (S : ℕ) (gap : Float) (t : Terms) (p q : Pieces) (n1 n2 : ℕ) (u : Memory) (x : State) (n : ℕ) (en : n ≡ length (pairs_from gap p q n2 n1 0))
    (ex : x ≡ first_state n S p.w q.w gap t) where
  state_is : x ≡ first_state (length (pairs_from gap p q n2 n1 0)) S p.w q.w gap t
  state_is = ex ∙ ap (λ (k : ℕ). first_state k S p.w q.w gap t) en

  pub push_short : enough (needed x) (sizes u) ≡ false → pushing (Err NoRoom) u ≡ push_pairs S gap t p q n1 n2 u
  push_short e = rw (subst (λ (y : State). enough (needed y) (sizes u) ≡ false) state_is e) refl

  pub push_done : enough (needed x) (sizes u) ≡ true → (a b r : List Float) (d : List ℕ)
      → a ≡ patch u.nets1 0 (nets1_of p (pairs_from gap p q n2 n1 0)) → b ≡ patch u.nets2 0 (nets2_of q (pairs_from gap p q n2 n1 0))
      → r ≡ patch u.ranges 0 (ranges_of p q (pairs_from gap p q n2 n1 0)) → d ≡ patch u.depths 0 (depths_of (pairs_from gap p q n2 n1 0))
      → pushing (Ok x) (memory a b r d u.raw) ≡ push_pairs S gap t p q n1 n2 u
  push_done e a b r d ea eb er ed =
      rw (subst (λ (y : State). enough (needed y) (sizes u) ≡ true) state_is e)
      (λ i. pushing (Ok (state_is i)) (memory (ea i) (eb i) (er i) (ed i) u.raw))

-- ---- the state of the fresh search, by P
pub start_state : (q : Question) → first_state (pairs_of (search_for q)) q.splits (q.line1.degree + 1) (q.line2.degree + 1) q.gap (terms_of q) ≡ state_of (search_for q) (start (search_for q))
start_state q =
    let n = pairs_of (search_for q) in
    let w = sym (length-reverse (pushed_pairs (search_for q))) in
    λ i. record {
      tally = record {
        pairs = n;
        quota = q.splits;
        waiting = w i;
        visits = 0;
        splits = 0;
        unspent = q.splits * n;
        settled = 0;
        boxes = 0;
        planes = 0;
        lines = 0;
        given = 0;
        stopped = false;
      };
      width1 = q.line1.degree + 1;
      width2 = q.line2.degree + 1;
      gap = q.gap;
      terms = terms_of q;
    }

-- ---- pushed by the numbers of the pieces, or as the machine has it
module _ (q : Question) (p1 p2 : List Float) (u : Memory) where
  fresh_state : first_state (length (numbered q p1 p2)) q.splits (q.line1.degree + 1) (q.line2.degree + 1) q.gap (terms_of q) ≡ state_of (search_for q) (start (search_for q))
  fresh_state =
      ap (λ (n : ℕ). first_state n q.splits (q.line1.degree + 1) (q.line2.degree + 1) q.gap (terms_of q)) (sym (pairs_are q p1 p2)) ∙ start_state q

  pub push_is : push_pairs q.splits q.gap (terms_of q) (one q p1 p2) (other q p1 p2) (piece_count q.line1 q.lo1 q.hi1)
      (piece_count q.line2 q.lo2 q.hi2) u ≡ push_def (search_for q) u
  push_is =
      let m = memory_is q p1 p2 u _ _ _ _ refl refl refl refl in
      λ i. cond (enough (needed (fresh_state i)) (sizes u)) (pushing (Ok (fresh_state i)) (m i)) (pushing (Err NoRoom) u)

  -- the pieces written, then the pairs pushed
  pub pieces-opened : (r : Result State OpenError) (a b : List Float) (m : Memory) → a ≡ pieces_in q.line1 q.lo1 q.hi1 p1 → b ≡ pieces_in q.line2 q.lo2 q.hi2 p2
      → pushing r m
      ≡ push_pairs q.splits q.gap (terms_of q) (pieces (q.line1.degree + 1) a (breaks_of q.line1 q.lo1 q.hi1))
      (pieces (q.line2.degree + 1) b (breaks_of q.line2 q.lo2 q.hi2))
      (piece_count q.line1 q.lo1 q.hi1) (piece_count q.line2 q.lo2 q.hi2) u
      → opening r a b m ≡ open_pieces q p1 p2 u
  pieces-opened r a b m ea eb e =
      let f = e
      ∙ (λ i. push_pairs q.splits q.gap (terms_of q) (pieces (q.line1.degree + 1) (ea i) (breaks_of q.line1 q.lo1 q.hi1))
      (pieces (q.line2.degree + 1) (eb i) (breaks_of q.line2 q.lo2 q.hi2))
      (piece_count q.line1 q.lo1 q.hi1) (piece_count q.line2 q.lo2 q.hi2) u) ∙ push_is in
      λ i. opening (f i).answer (ea i) (eb i) (f i).memory

  -- 23
  pub bad_datum : admit_of q.line1 ≡ Ok tt → admit_of q.line2 ≡ Ok tt → one_datum q.line1.datum q.line2.datum ≡ false
      → opening (Err BadDatum) p1 p2 u ≡ open_def q p1 p2 u
  bad_datum e f n = rw (e, f, n) refl

-- ---- P, counted in the slices that hold the pieces
module _ (q : Question) (p1 p2 a b : List Float) (n : ℕ) (ea : a ≡ pieces_in q.line1 q.lo1 q.hi1 p1) (eb : b ≡ pieces_in q.line2 q.lo2 q.hi2 p2) where
  abbrev in_slices : ℕ
  in_slices =
      length (pairs_from q.gap (pieces (q.line1.degree + 1) a (breaks_of q.line1 q.lo1 q.hi1)) (pieces (q.line2.degree + 1) b (breaks_of q.line2 q.lo2 q.hi2))
      (piece_count q.line2 q.lo2 q.hi2) (piece_count q.line1 q.lo1 q.hi1) 0)

  in_slices_lem : in_slices ≡ pairs_of (search_for q)
  in_slices_lem =
      (λ i. length (pairs_from q.gap (pieces (q.line1.degree + 1) (ea i) (breaks_of q.line1 q.lo1 q.hi1))
      (pieces (q.line2.degree + 1) (eb i) (breaks_of q.line2 q.lo2 q.hi2)) (piece_count q.line2 q.lo2 q.hi2) (piece_count q.line1 q.lo1 q.hi1) 0))
      ∙ sym (pairs_are q p1 p2)

  pub pairs_told : n ≡ in_slices → n ≡ pairs_of (search_for q)
  pairs_told e = e ∙ in_slices_lem

  pub pairs_held : n ≡ pairs_of (search_for q) → n ≡ in_slices
  pairs_held e = e ∙ sym in_slices_lem

-- ---- a line's breaks in a local array, of which m are used
pub used_length : (m : ℕ) (out : List Float) → m ≤ length out → m ≡ length (take m out)
used_length m out h = sym (length-take-le m out h)

pub has_pieces_lem : (m w d : ℕ) (P out B : List Float) → m ≡ length B → take m out ≡ B → 2 ≤ m → w ≡ d + 1 → (length B - 1) * (4 * (d + 1)) ≤ length P
    → HasPieces (pieces w P (take m out)) (m - 1)
has_pieces_lem m w d P out B e f h ew r =
    (rw (e, ew) r, let l : length (take m out) ≡ m = ap length f ∙ sym e in omega arith)

-- ---- from the tests to their meaning
pub passed : (b : Bool) (e : QuestionError) (c : Result Unit QuestionError) → cond b (Err e) c ≡ Ok tt → (b ≡ false) × (c ≡ Ok tt)
passed true e c h = absurd (false≢true (ap is_ok h))
passed false e c h = (refl, h)

-- a fine question has at most 256 splits a pair, and both ranges fit
pub few_splits : (q : Question) → ask_of q ≡ Ok tt → q.splits ≤ 256
unfolding ask_within
few_splits q e =
    let a = passed _ (RangeOutOfBounds First) _ e in
    let b = passed _ (RangeOutOfBounds Second) _ a.1 in
    let c = passed _ GapOutOfRange _ b.1 in
    let d = passed _ TooManySplits _ c.1 in
    ltb-false 256 q.splits d.0

pub ranges_fit : (q : Question) → ask_of q ≡ Ok tt
    → (range_fits q.line1.closed (bounds_of q.line1) q.lo1 q.hi1 ≡ true) × (range_fits q.line2.closed (bounds_of q.line2) q.lo2 q.hi2 ≡ true)
unfolding ask_within
ranges_fit q e =
    let a = passed _ (RangeOutOfBounds First) _ e in
    let b = passed _ (RangeOutOfBounds Second) _ a.1 in
    (not-false _ a.0, not-false _ b.0)

-- and each line's range has at most 255 pieces
starts : (bounds : Interval) (lo hi : Float) → range_fits true bounds lo hi ≡ true → T (le bounds.lo lo)
unfolding range_fits
starts bounds lo hi e = go (lt lo hi) (le bounds.lo lo) _ e
  where
    go : (a b x : Bool) → cond a (cond b x false) false ≡ true → T b
    go true true x e = tt
    go true false x e = absurd (false≢true e)
    go false b x e = absurd (false≢true e)

line_few : (l : Line) (lo hi : Float) → admit_of l ≡ Ok tt → range_fits l.closed (bounds_of l) lo hi ≡ true → piece_count l lo hi ≤ 255
unfolding bounds_in
line_few l lo hi ok e = let C = counts l ok in go l.closed l.knots C.two_knots C.few_knots e
  where
    go : (b : Bool) (ks : List Float) → 2 ≤ length ks → length ks ≤ 128 → range_fits b (bounds_in b l.degree ks l.mults) lo hi ≡ true → count_in lo hi (unrolled_of b ks) ≤ 255
    go false ks two few e = few_open lo hi ks few
    go true [] two few e = absurd (omega arith)
    go true (k ∷ ks) two few e = few_closed lo hi k ks few (starts (bounds_in true l.degree (k ∷ ks) l.mults) lo hi e)

pub few_pieces : (q : Question) → admit_of q.line1 ≡ Ok tt → admit_of q.line2 ≡ Ok tt → ask_of q ≡ Ok tt
    → (piece_count q.line1 q.lo1 q.hi1 ≤ 255) × (piece_count q.line2 q.lo2 q.hi2 ≤ 255)
few_pieces q a1 a2 e =
    let fit = ranges_fit q e in
    (line_few q.line1 q.lo1 q.hi1 a1 fit.0, line_few q.line2 q.lo2 q.hi2 a2 fit.1)
