-- Laws of words, floats and parts: what each case of a test and each turn of a loop gives. Assumes nothing.
use mathlib.Core.Path.{◌≡◌, refl, sym, ap, ◌∙◌}
use mathlib.Core.List.{List, [], ◌∷◌, ◌++◌, append-nil}
use Prim.Native.Nat.{ℕ, zero, suc, ◌+◌, ◌*◌, ◌-◌, ◌≤◌, ◌<◌}
use native.Mathlib.Nat.{add-zero}
use native.Mathlib.Numerals.{add-one}
use native.Mathlib.Omega.{arith}
use lib.Ieee.{Float, binary64, of_bits}
use Rattle.std.proofs.lemmas.List.{drop_all, length-take-le}
use lib.ListN.{length, get_or, take, drop, set, take-append-drop}
use lib.Seq.{set_split, get_or-take, get_or-drop}
use Rattle.std.specs.Int.{from_le_bytes, w32, w64}
use Rattle.std.specs.List.{slice_index}
use Rattle.lists.specs.Parts.{part, patch}
use Rattle.lists.proofs.Parts.{patch_twice}
use Rattle.walks.specs.Words.{word_at, float_at, values_from, words_from, floats_from}

-- ---- a loop that reads elements of w bytes from place `at` on into the start of a list, f n a being the n elements from place a on
pub read_start : {A : Type 0} (f : ℕ → ℕ → List A) (w : ℕ) (out : List A) (at n : ℕ) → patch out 0 (f (at + w * 0) (n - 0)) ≡ patch out 0 (f at n)
read_start f w out at n =
    let e : at + w * 0 ≡ at = omega arith in
    let k : n - 0 ≡ n = omega arith in
    rw (e, k) refl

pub read_turn : {A : Type 0} (f : ℕ → ℕ → List A) (g : ℕ → A) (w : ℕ) → ((a n : ℕ) → f a (suc n) ≡ g a ∷ f (a + w) n) → ((a n : ℕ) → length (f a n) ≡ n)
    → (out : List A) (at n i : ℕ) (v : A) → i < n → n ≤ length out → v ≡ g (at + w * i)
    → patch (set out i v) (i + 1) (f (at + w * (i + 1)) (n - (i + 1))) ≡ patch out i (f (at + w * i) (n - i))
read_turn f g w step len out at n i v lt h e =
    let k : n - i ≡ suc (n - (i + 1)) = omega arith in
    let p : at + w * (i + 1) ≡ at + w * i + w = omega arith in
    let one : set out i v ≡ patch out i (v ∷ []) = set_split out i v (omega arith) ∙ rw add-one refl in
    let l = len (at + w * (i + 1)) (n - (i + 1)) in
    ap (λ z. patch z (i + 1) (f (at + w * (i + 1)) (n - (i + 1)))) one
    ∙ patch_twice out i (i + 1) (v ∷ []) (f (at + w * (i + 1)) (n - (i + 1))) refl (omega arith)
    ∙ rw (p, k, step (at + w * i) (n - (i + 1)), ← e) refl

pub read_done : {A : Type 0} (f : ℕ → ℕ → List A) (w : ℕ) → ((a : ℕ) → f a 0 ≡ []) → (out : List A) (at n i : ℕ) {r : List A} → n ≤ i
    → patch out i (f (at + w * i) (n - i)) ≡ r → out ≡ r
read_done f w end out at n i h e =
    let z : n - i ≡ 0 = omega arith in
    sym (take-append-drop i out) ∙ (rw (z, end (at + w * i), add-zero) at e)

pub values_length : {A : Type 0} (value : List ℕ → A) (w : ℕ) (s : List ℕ) (a n : ℕ) → length (values_from value w s a n) ≡ n
unfolding values_from
values_length value w s a zero = refl
values_length value w s a (suc n) = ap suc (values_length value w s (a + w) n)

-- values that fill the list
pub values_whole : {A : Type 0} (out vs : List A) → length vs ≡ length out → patch out 0 vs ≡ vs
values_whole out vs h = ap (λ l. vs ++ l) (drop_all (0 + length vs) out (omega arith)) ∙ append-nil vs

-- values that fill the front of the list
pub front : {A : Type 0} (out vs : List A) (n : ℕ) {new : List A} → new ≡ vs → length vs ≡ n → new ++ drop n out ≡ patch out 0 vs
front out vs n e h = let k : n ≡ 0 + length vs = omega arith in rw (e, k) refl

pub floats-length : (s : List ℕ) (a n : ℕ) → length (floats_from s a n) ≡ n
unfolding floats_from
floats-length s a zero = refl
floats-length s a (suc n) = ap suc (floats-length s (a + 8) n)

pub words_length : (s : List ℕ) (a n : ℕ) → length (words_from s a n) ≡ n
unfolding words_from
words_length s a zero = refl
words_length s a (suc n) = ap suc (words_length s (a + 4) n)

-- ---- four bytes are a word, and eight are two, the low one first
pub four_bytes : (s : List ℕ) (at : ℕ) → from_le_bytes w32 (part at 4 s) ≡ word_at s at
unfolding word_at
four_bytes s at =
    let none : at + 0 ≡ at = omega arith in
    let b0 : slice_index (part at 4 s) 0 ≡ get_or s at 0 = byte 4 s at 0 (omega arith) ∙ ap (λ k. get_or s k 0) none in
    omega (arith, byte 4 s at 1 (omega arith), byte 4 s at 2 (omega arith), byte 4 s at 3 (omega arith))
  where
    byte : (n : ℕ) (s : List ℕ) (at k : ℕ) → k < n → slice_index (part at n s) k ≡ get_or s (at + k) 0
    byte n s at k h = get_or-take n (drop at s) k 0 h ∙ get_or-drop at s k 0

pub eight_bytes : (s : List ℕ) (at : ℕ) → from_le_bytes w64 (part at 8 s) ≡ word_at s at + word_at s (at + 4) * 4294967296
unfolding word_at
eight_bytes s at =
    let none : at + 0 ≡ at = omega arith in
    let b0 : slice_index (part at 8 s) 0 ≡ get_or s at 0 = byte s at 0 (omega arith) ∙ ap (λ k. get_or s k 0) none in
    let b1 = byte s at 1 (omega arith) in
    let b2 = byte s at 2 (omega arith) in
    let b3 = byte s at 3 (omega arith) in
    let b4 = byte s at 4 (omega arith) in
    let b5 : slice_index (part at 8 s) 5 ≡ get_or s (at + 4 + 1) 0 = byte s at 5 (omega arith) ∙ ap (λ k. get_or s k 0) (omega arith) in
    let b6 : slice_index (part at 8 s) 6 ≡ get_or s (at + 4 + 2) 0 = byte s at 6 (omega arith) ∙ ap (λ k. get_or s k 0) (omega arith) in
    let b7 : slice_index (part at 8 s) 7 ≡ get_or s (at + 4 + 3) 0 = byte s at 7 (omega arith) ∙ ap (λ k. get_or s k 0) (omega arith) in
    omega arith
  where
    byte : (s : List ℕ) (at k : ℕ) → k < 8 → slice_index (part at 8 s) k ≡ get_or s (at + k) 0
    byte s at k h = get_or-take 8 (drop at s) k 0 h ∙ get_or-drop at s k 0

pub words_are : (s : List ℕ) (at n : ℕ) → values_from (from_le_bytes w32) 4 s at n ≡ words_from s at n
unfolding values_from words_from
words_are s at zero = refl
words_are s at (suc n) = ap (λ v. v ∷ values_from (from_le_bytes w32) 4 s (at + 4) n) (four_bytes s at) ∙ ap (λ l. word_at s at ∷ l) (words_are s (at + 4) n)

abbrev pub float_of : List ℕ → Float
float_of b = of_bits binary64 (from_le_bytes w64 b)

pub floats_are : (s : List ℕ) (at n : ℕ) → values_from float_of 8 s at n ≡ floats_from s at n
unfolding values_from floats_from float_at
floats_are s at zero = refl
floats_are s at (suc n) =
    ap (λ v. v ∷ values_from float_of 8 s (at + 8) n) (ap (of_bits binary64) (eight_bytes s at)) ∙ ap (λ l. float_at s at ∷ l) (floats_are s (at + 8) n)

-- what is read into the front of a list
pub floats_front : (s : List ℕ) (at n : ℕ) (out : List Float) {new : List Float} → n ≤ length out
    → new ≡ values_from float_of 8 s at (length (take n out)) → new ++ drop n out ≡ patch out 0 (floats_from s at n)
floats_front s at n out h e = front out (floats_from s at n) n (e ∙ ap (values_from float_of 8 s at) (length-take-le n out h) ∙ floats_are s at n) (floats-length s at n)

pub words_front : (s : List ℕ) (at n : ℕ) (out : List ℕ) {new : List ℕ} → n ≤ length out
    → new ≡ values_from (from_le_bytes w32) 4 s at (length (take n out)) → new ++ drop n out ≡ patch out 0 (words_from s at n)
words_front s at n out h e = front out (words_from s at n) n (e ∙ ap (values_from (from_le_bytes w32) 4 s at) (length-take-le n out h) ∙ words_are s at n) (words_length s at n)
