-- Laws of digits, of decimals and of the patterns of floats, and what one turn of each loop does. Assumes nothing.
use mathlib.Core.Path.{◌≡◌, refl, sym, ap, ◌∙◌}
use mathlib.Core.Bool.{cond}
use mathlib.Core.List.{List, [], ◌∷◌, ◌++◌, append_assoc}
use Prim.Native.Nat.{ℕ, zero, suc, ◌+◌, ◌*◌, ◌-◌, ◌/◌, ◌%◌, ◌^◌, ◌≤◌, ◌<◌}
use mathlib.Core.Logic.{dite}
use native.Mathlib.Decide.{dec_le}
use native.Mathlib.Nat.{lt_of_lt_of_le, add-zero, pow-suc}
use native.Mathlib.Numerals.{add-one}
use native.Mathlib.Omega.{arith}
use lib.Dec.{lit≤}
use lib.ListN.{length, set, length-append, length-set, take-append-drop}
use lib.Seq.{drop-cons, drop-set-lt, take-set-le, get_or-set_same, set_split}
use lib.Ieee.{Float, nan, inf, fin, is_nan, binary64, to_bits}
use borrow.Author.Tests.{lt-ltb, le-ltb}
use Rattle.lists.specs.Parts.{patch}
use Rattle.lists.proofs.Parts.{patch_twice}
use Rattle.texts.specs.Texts.{hex_digit, digits_of, places_in, decimal_of, hex_of, bits_of, float_text}

-- ---- digits, from the last one on
pub digits_length : (base k n : ℕ) → length (digits_of base k n) ≡ k
unfolding digits_of
digits_length base zero n = refl
digits_length base (suc k) n = rw (length-append, digits_length base k (n / base)) (omega arith)

-- a byte written behind the last of vs
written_last : (l vs : List ℕ) (i j d : ℕ) → i + length vs ≡ j → j < length l → patch (set l j d) i vs ≡ patch l i (vs ++ (d ∷ []))
written_last l vs i j d e h =
    let f : i + length (vs ++ (d ∷ [])) ≡ suc j = rw length-append (omega arith) in
    let lt : j < length (set l j d) = simp length-set h in
    rw (e, f, append_assoc, take-set-le i l j d (omega arith), drop-cons (set l j d) j 0 lt, get_or-set_same l j d 0 h, drop-set-lt (suc j) l j d (omega arith)) refl

pub digits_turn : (out : List ℕ) (at i base left d : ℕ) → at < i → i ≤ length out → d ≡ hex_digit (left % base)
    → patch (set out (i - 1) d) at (digits_of base (i - 1 - at) (left / base)) ≡ patch out at (digits_of base (i - at) left)
unfolding digits_of
digits_turn out at i base left d lt h e =
    let k : i - at ≡ suc (i - 1 - at) = omega arith in
    let n = digits_length base (i - 1 - at) (left / base) in
    rw (k, ← e) (written_last out (digits_of base (i - 1 - at) (left / base)) at (i - 1) d (omega arith) (omega arith))

pub digits_start : (out : List ℕ) (at k base n : ℕ) → patch out at (digits_of base (at + k - at) n) ≡ patch out at (digits_of base k n)
digits_start out at k base n = let e : at + k - at ≡ k = omega arith in rw e refl

pub digits_none : (out : List ℕ) (at i base left : ℕ) {r : List ℕ} → i ≤ at → patch out at (digits_of base (i - at) left) ≡ r → out ≡ r
unfolding digits_of
digits_none out at i base left h e =
    let z : i - at ≡ 0 = omega arith in
    sym (take-append-drop at out) ∙ (rw (z, add-zero) at e)

-- ---- how many decimal digits
pub places_end : (f n : ℕ) → n < 10 → places_in f n ≡ 1
unfolding places_in
places_end zero n h = refl
places_end (suc f) n h = simp (lt-ltb n 10 h)

places_more : (f n : ℕ) → 10 ≤ n → places_in (suc f) n ≡ suc (places_in f (n / 10))
unfolding places_in
places_more f n h = simp (le-ltb n 10 h)

-- any bound that is enough gives the same
rounds : (f g n : ℕ) → n ≤ f → n ≤ g → places_in f n ≡ places_in g n
unfolding places_in
rounds zero g n h k = sym (places_end g n (omega arith))
rounds (suc f) zero n h k = places_end (suc f) n (omega arith)
rounds (suc f) (suc g) n h k = dite (dec_le 10 n)
    (λ l. places_more f n l ∙ ap suc (rounds f g (n / 10) (omega arith) (omega arith)) ∙ sym (places_more g n l))
    (λ l. places_end (suc f) n (omega arith) ∙ sym (places_end (suc g) n (omega arith)))

pub places_turn : (n : ℕ) → 10 ≤ n → places_in n n ≡ suc (places_in (n / 10) (n / 10))
places_turn zero h = absurd (omega arith)
places_turn (suc f) h = places_more f (suc f) h ∙ ap suc (rounds f (suc f / 10) (suc f / 10) (omega arith) (omega arith))

pub places_least : (f n : ℕ) → 1 ≤ places_in f n
unfolding places_in
places_least zero n = omega arith
places_least (suc f) n = dite (dec_le 10 n) (λ l. omega (arith, places_more f n l)) (λ l. omega (arith, places_end (suc f) n (omega arith)))

-- a number below 10^k has at most k digits
pub places_most : (k f n : ℕ) → n < 10 ^ suc k → places_in f n ≤ suc k
unfolding places_in
places_most k zero n h = omega arith
places_most zero (suc f) n h = omega (arith, places_end (suc f) n h)
places_most (suc k) (suc f) n h = dite (dec_le 10 n)
    (λ l. let p : 10 ^ suc (suc k) ≡ 10 ^ suc k * 10 = pow-suc 10 (suc k) in
    let d : n / 10 < 10 ^ suc k = omega arith in
    omega (arith, places_more f n l, places_most k f (n / 10) d))
    (λ l. omega (arith, places_end (suc f) n (omega arith)))

pub places_fit : (n : ℕ) → n < 2 ^ 64 → places_in n n ≤ 20
places_fit n h = places_most 19 n n (lt_of_lt_of_le h (lit≤ tt))

-- ---- the length of a decimal and of a float's text
pub decimal_length : (n : ℕ) → length (decimal_of n) ≡ places_in n n
unfolding decimal_of
decimal_length n = digits_length 10 (places_in n n) n

pub decimal_most : (k n : ℕ) → 1 ≤ k → n < 10 ^ k → length (decimal_of n) ≤ k
decimal_most zero n h l = absurd (omega arith)
decimal_most (suc k) n h l = rw decimal_length (places_most k n n l)

pub decimal_fits : (n : ℕ) → n < 2 ^ 64 → length (decimal_of n) ≤ 20
decimal_fits n h = rw decimal_length (places_fit n h)

pub float_length : (x : Float) → length (float_text x) ≡ 17
unfolding float_text hex_of
float_length x = ap suc (digits_length 16 16 (bits_of x))

-- ---- what the two writers leave
pub decimal_is : (out : List ℕ) (at k n : ℕ) {r : List ℕ} → k ≡ places_in n n → r ≡ patch out at (digits_of 10 k n) → r ≡ patch out at (decimal_of n)
unfolding decimal_of
decimal_is out at k n e h = rw e at h

pub float_is : (out : List ℕ) (at n : ℕ) (x : Float) {r : List ℕ} → at + 17 ≤ length out → n ≡ bits_of x
    → r ≡ patch (set out at 32) (at + 1) (digits_of 16 16 n) → r ≡ patch out at (float_text x)
unfolding float_text hex_of
float_is out at n x h e f =
    let l = digits_length 16 16 n in
    let one : set out at 32 ≡ patch out at (32 ∷ []) = set_split out at 32 (omega arith) ∙ rw add-one refl in
    f ∙ ap (λ z. patch z (at + 1) (digits_of 16 16 n)) one ∙ patch_twice out at (at + 1) (32 ∷ []) (digits_of 16 16 n) refl (omega arith)
    ∙ ap (λ (m : ℕ). patch out at (32 ∷ digits_of 16 16 m)) e

-- ---- patterns: a NaN's is the quiet one of positive sign
pub pattern_of : (x : Float) → cond (is_nan x) 0x7ff8_0000_0000_0000 (to_bits binary64 x) ≡ to_bits binary64 x
unfolding is_nan to_bits
pattern_of nan = refl
pattern_of (inf s) = refl
pattern_of (fin s m e) = refl
