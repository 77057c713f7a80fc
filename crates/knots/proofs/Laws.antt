-- Laws of the loops: repeated knots, flat knots, breaks, and what stays behind them. Assumes nothing.
use mathlib.Core.Path.{◌≡◌, refl, sym, ap, ◌∙◌, subst}
use mathlib.Core.Bool.{Bool, true, false}
use mathlib.Core.List.{List, [], ◌∷◌, ◌++◌, append_assoc, append-nil}
use Prim.Native.Nat.{ℕ, zero, suc, ◌+◌, ◌-◌, ◌≤◌, ◌<◌}
use native.Mathlib.Nat.{add-zero, zero-add, le_of_eq, le_trans}
use native.Mathlib.Numerals.{add-one}
use native.Mathlib.Omega.{arith}
use lib.ListN.{length, get_or, take, drop, set, replicate, take-append-drop, length-drop}
use lib.Seq.{take-suc-set, drop-set-lt, drop-cons, drop-drop, take-append-add, length-take-le, get_or-take, take_all}
use Rattle.std.proofs.lemmas.List.{length-replicate}
use lib.Ieee.{Float, binary64, add, neg, nan}
use Rattle.lists.proofs.Loops.{nothing_left}
use Rattle.knots.specs.Knots.{repeated, flat_knots, open_bounds, period_of, shifted, unrolled_of, turn_flat, line_flat, turn_poles, inside, between, breaks_in}
use Rattle.lists.specs.Parts.{patch}
use Rattle.lines.specs.Admit.{beyond_of}
use Rattle.lists.specs.Tests.{total}
use Rattle.points.specs.declared.Interval.{Interval}

-- ---- a start that was written, and the rest as it was
pub patched : {A : Type 0} (n : ℕ) (out out₀ l : List A) → n ≤ length out → take n out ≡ l → drop n out ≡ drop n out₀ → out ≡ patch out₀ 0 l
patched n out out₀ l h e f =
    let k : length l ≡ n = sym (ap length e) ∙ length-take-le n out h in
    rw (zero-add, k) (sym (take-append-drop n out) ∙ ap (λ z. z ++ drop n out) e ∙ ap (λ z. l ++ z) f)

-- equal from number a on, so also further on
pub further : {A : Type 0} (a m : ℕ) (s t : List A) → drop a s ≡ drop a t → drop (a + m) s ≡ drop (a + m) t
further a m s t e = sym (drop-drop m a s) ∙ ap (drop m) e ∙ drop-drop m a t

-- ---- flat
repeated_is : (m : ℕ) (k : Float) (l : List Float) → replicate m k ++ l ≡ repeated m k l
unfolding repeated
repeated_is zero k l = refl
repeated_is (suc m) k l = ap (λ z. k ∷ z) (repeated_is m k l)

-- the m places that a knot of multiplicity m is stored in
pub places : (out new : List Float) (k : Float) (at m : ℕ) → at + m ≤ length out → new ≡ replicate (length (take (at + m - at) (drop at out))) k
    → (new ≡ replicate m k) × (length new ≡ m)
places out new k at m h e =
    let d = length-drop at out in
    let j : length (take (at + m - at) (drop at out)) ≡ at + m - at = length-take-le (at + m - at) (drop at out) (omega (arith, d)) in
    let n : at + m - at ≡ m = omega arith in
    let f : new ≡ replicate m k = e ∙ ap (λ z. replicate z k) (j ∙ n) in
    (f, ap length f ∙ length-replicate m k)

pub flat-turn : (ks : List Float) (ms : List ℕ) (s new : List Float) (i : ℕ) → i < length ks → i < length ms → new ≡ replicate (get_or ms i 0) (get_or ks i nan)
    → (s ++ new) ++ flat_knots (drop (i + 1) ks) (drop (i + 1) ms) ≡ s ++ flat_knots (drop i ks) (drop i ms)
unfolding flat_knots
flat-turn ks ms s new i lk lm e =
    rw (e, append_assoc, repeated_is (get_or ms i 0) (get_or ks i nan), drop-cons ks i nan lk, drop-cons ms i 0 lm, add-one i) refl

pub flat_done : (ks : List Float) (ms : List ℕ) (out r : List Float) (at i : ℕ) → length ks ≤ i → take at out ++ flat_knots (drop i ks) (drop i ms) ≡ r → take at out ≡ r
unfolding flat_knots
flat_done ks ms out r at i h e = sym (append-nil (take at out)) ∙ (rw (nothing_left ks i h) at e)

-- ---- bounds
at-start : (n i : ℕ) (f l : List Float) → take n f ≡ l → i < n → get_or f i nan ≡ get_or l i nan
at-start n i f l e h = sym (get_or-take n f i nan h) ∙ ap (λ z. get_or z i nan) e

pub bounds_are : (degree : ℕ) (knots : List Float) (mults : List ℕ) (f : List Float) (n d : ℕ) → n ≡ total mults → d ≡ degree
    → take n f ≡ flat_knots knots mults → degree + 1 ≤ total mults
    → ◌≡◌ {A = Interval} (record { lo = get_or f d nan; hi = get_or f (n - d - 1) nan }) (open_bounds degree knots mults)
unfolding open_bounds
bounds_are degree knots mults f n d en ed ef h =
    rw (ed, at-start n degree f (flat_knots knots mults) ef (omega arith), at-start n (n - degree - 1) f (flat_knots knots mults) ef (omega arith), en) refl

-- ---- breaks
pub breaks_start : (lo : Float) (s l : List Float) → 0 < length s → take 1 (set s 0 lo) ++ l ≡ lo ∷ l
breaks_start lo [] l h = absurd (omega arith)
breaks_start lo (x ∷ s) l h = refl

pub breaks_turn : (lo hi : Float) (ks t s : List Float) (n i : ℕ) → i < length ks → n < length s → inside lo hi (get_or ks i nan) ≡ true
    → take (n + 1) (set s n (get_or ks i nan)) ++ between lo hi (drop (i + 1) ks) t ≡ take n s ++ between lo hi (drop i ks) t
unfolding between
breaks_turn lo hi ks t s n i lk h e = rw (drop-cons ks i nan lk, e, add-one n, add-one i, take-suc-set s n (get_or ks i nan) h, append_assoc) refl

pub breaks_skip : (lo hi : Float) (ks t : List Float) (i : ℕ) → i < length ks → inside lo hi (get_or ks i nan) ≡ false
    → between lo hi (drop (i + 1) ks) t ≡ between lo hi (drop i ks) t
unfolding between
breaks_skip lo hi ks t i lk e = rw (drop-cons ks i nan lk, e, add-one i) refl

pub breaks_done : (lo hi : Float) (ks s r : List Float) (n i : ℕ) → length ks ≤ i → n < length s → take n s ++ between lo hi (drop i ks) (hi ∷ []) ≡ r
    → take (n + 1) (set s n hi) ≡ r
unfolding between
breaks_done lo hi ks s r n i h g e = rw (add-one, take-suc-set s n hi g) (rw (nothing_left ks i h) at e)

-- behind a break that is stored all is as it was
pub behind : (s s₀ : List Float) (v : Float) (n : ℕ) → drop n s ≡ drop n s₀ → drop (n + 1) (set s n v) ≡ drop (n + 1) s₀
behind s s₀ v n e = drop-set-lt (n + 1) s n v (omega arith) ∙ further n 1 s s₀ e

-- behind the last break, which is stored last, all is as it was before the first was stored
pub breaks_behind : (s s₀ : List Float) (lo hi : Float) (n : ℕ) → 1 ≤ n → drop n s ≡ drop n (set s₀ 0 lo) → drop (n + 1) (set s n hi) ≡ drop (n + 1) s₀
breaks_behind s s₀ lo hi n h e = behind s (set s₀ 0 lo) hi n e ∙ drop-set-lt (n + 1) s₀ 0 lo (omega arith)

-- ---- a shift
pub shift_turn : (d : Float) (s out : List Float) (i : ℕ) → i < length s → i < length out
    → take (i + 1) (set out i (add binary64 (get_or s i nan) d)) ++ shifted d (drop (i + 1) s) ≡ take i out ++ shifted d (drop i s)
unfolding shifted
shift_turn d s out i h g = rw (drop-cons s i nan h, add-one, take-suc-set out i (add binary64 (get_or s i nan) d) g, append_assoc) refl

pub shift_done : (d : Float) (s out r : List Float) (i : ℕ) → length s ≤ i → length out ≤ i → take i out ++ shifted d (drop i s) ≡ r → out ≡ r
unfolding shifted
shift_done d s out r i h g e = sym (append-nil out) ∙ ap (λ z. z ++ []) (sym (take_all i out g)) ∙ (rw (nothing_left s i h) at e)

pub length-shifted : (d : Float) (s : List Float) → length (shifted d s) ≡ length s
unfolding shifted
length-shifted d [] = refl
length-shifted d (k ∷ ks) = ap suc (length-shifted d ks)

-- ---- knots unrolled
front : (n : ℕ) (a l : List Float) → length a ≡ n → take n (a ++ l) ≡ a
front n a l e = subst (λ (k : ℕ). take k (a ++ l) ≡ a) (add-zero (length a) ∙ e) (take-append-add a l 0 ∙ append-nil a)

pub unrolled_built : (knots first second l m : List Float) → first ≡ knots → second ≡ shifted (period_of knots) (take (length knots - 1) (drop 1 knots))
    → take (length knots + (length knots - 1)) (take (length knots) (first ++ l) ++ (second ++ m)) ≡ unrolled_of true knots
unfolding unrolled_of
unrolled_built knots first second l m e f =
    let g : take (length knots - 1) (drop 1 knots) ≡ drop 1 knots = take_all (length knots - 1) (drop 1 knots) (le_of_eq (length-drop 1 knots)) in
    let k : length (shifted (period_of knots) (drop 1 knots)) ≡ length knots - 1 = length-shifted (period_of knots) (drop 1 knots) ∙ length-drop 1 knots in
    rw (e, f, g, front (length knots) knots l refl)
    (take-append-add knots (shifted (period_of knots) (drop 1 knots) ++ m) (length knots - 1)
    ∙ ap (λ z. knots ++ z) (front (length knots - 1) (shifted (period_of knots) (drop 1 knots)) m k))

pub unrolled_open : (closed : Bool) (knots : List Float) → closed ≡ false → knots ≡ unrolled_of closed knots
unfolding unrolled_of
unrolled_open closed knots e = rw e refl

-- the breaks of equal knots
abbrev Broken : ℕ → List Float → List Float → Float → Float → List Float → Type 0
Broken r s s₀ lo hi ks = (r ≡ length (breaks_in lo hi ks)) × (s ≡ patch s₀ 0 (breaks_in lo hi ks)) × (take r s ≡ breaks_in lo hi ks)

pub broken_same : (r : ℕ) (s s₀ : List Float) (lo hi : Float) {ks ks' : List Float} → ks ≡ ks' → Broken r s s₀ lo hi ks → Broken r s s₀ lo hi ks'
broken_same r s s₀ lo hi e b = subst (Broken r s s₀ lo hi) e b

-- ---- the flat knots around a turn, written in three parts
pub turn_built : (p n : ℕ) (d : Float) (flat a b c l m : List Float) → p + 1 ≤ n → n ≤ length flat
    → a ≡ shifted (neg d) (take (n - (n - p)) (drop (n - p) flat)) → b ≡ flat → c ≡ shifted d (take (p + 1 - (length flat - n)) (drop (length flat - n) flat))
    → take (p + length flat) (take p (a ++ l) ++ (b ++ m))
    ++ (c ++ drop (length (take p (a ++ l) ++ (b ++ m)) - (p + length flat)) (drop (p + length flat) (take p (a ++ l) ++ (b ++ m)))) ≡ turn_flat p n d flat
unfolding turn_flat
turn_built p n d flat a b c l m h g ea eb ec =
    let k : n - (n - p) ≡ p = omega arith in
    let e : a ≡ shifted (neg d) (take p (drop (n - p) flat)) = ea ∙ ap (λ (j : ℕ). shifted (neg d) (take j (drop (n - p) flat))) k in
    let la : length a ≡ p = ap length e ∙ length-shifted (neg d) (take p (drop (n - p) flat)) ∙ length-take-le p (drop (n - p) flat) (le_trans (le_of_eq (sym k)) (le_trans (sub_le_sub_right n (length flat) (n - p) g) (le_of_eq (sym (length-drop (n - p) flat))))) in
    let t : take (p + length flat) (a ++ (flat ++ m)) ≡ a ++ flat =
    subst (λ (j : ℕ). take (j + length flat) (a ++ (flat ++ m)) ≡ a ++ flat) la
    (take-append-add a (flat ++ m) (length flat) ∙ ap (λ z. a ++ z) (front (length flat) flat m refl)) in
    let o : drop (length (a ++ (flat ++ m)) - (p + length flat)) (drop (p + length flat) (a ++ (flat ++ m))) ≡ [] =
    nothing_left (drop (p + length flat) (a ++ (flat ++ m))) (length (a ++ (flat ++ m)) - (p + length flat)) (le_of_eq (length-drop (p + length flat) (a ++ (flat ++ m)))) in
    rw (front p a l la, eb, t, o, append-nil, append_assoc) (ap (λ z. z ++ (flat ++ c)) e ∙ ap (λ z. shifted (neg d) (take p (drop (n - p) flat)) ++ (flat ++ z)) ec)
  where
    sub_le_sub_right : (x y z : ℕ) → x ≤ y → x - z ≤ y - z
    sub_le_sub_right x y z h = omega arith

pub turn_before : (n p : ℕ) (flat out : List Float) → p + 1 ≤ n → n ≤ length flat → p ≤ length out → length (take (n - (n - p)) (drop (n - p) flat)) ≡ length (take p out)
turn_before n p flat out h g k =
    let d = length-drop (n - p) flat in
    length-take-le (n - (n - p)) (drop (n - p) flat) (omega (arith, d)) ∙ go ∙ sym (length-take-le p out k)
  where
    go : n - (n - p) ≡ p
    go = omega arith

-- ---- the flat knots of a line's nets
pub beyond_last : (degree : ℕ) (knots : List Float) (mults : List ℕ) → length mults ≡ length knots → beyond_of true degree mults ≡ get_or mults (length knots - 1) 0
unfolding beyond_of
beyond_last degree knots mults e = ap (λ (n : ℕ). get_or mults (n - 1) 0) e

pub flat-closed : (degree p n e : ℕ) (knots : List Float) (mults : List ℕ) (flat out l : List Float) → p ≡ degree → n ≡ total mults - beyond_of true degree mults
    → flat ≡ flat_knots knots mults → out ≡ turn_flat p n (period_of knots) flat → length out ≡ e → take e (out ++ l) ≡ line_flat true degree knots mults
unfolding line_flat
flat-closed degree p n e knots mults flat out l ep en ef eo le = front e out l le ∙ eo ∙ rw (ep, en, ef) refl

pub flat_open : (closed : Bool) (degree : ℕ) (knots : List Float) (mults : List ℕ) (l : List Float) → closed ≡ false → l ≡ flat_knots knots mults
    → l ≡ line_flat closed degree knots mults
unfolding line_flat
flat_open closed degree knots mults l c e = rw c e

pub open_beyond : (closed : Bool) (degree : ℕ) (mults : List ℕ) → closed ≡ false → beyond_of closed degree mults ≡ degree + 1
unfolding beyond_of
open_beyond closed degree mults e = rw e refl

pub open_poles : (closed : Bool) (degree n : ℕ) → closed ≡ false → turn_poles closed degree n ≡ n
open_poles closed degree n e = rw e refl
