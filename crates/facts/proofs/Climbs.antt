-- The flat knots of an admitted line climb. Assumes nothing.
use mathlib.Core.Path.{◌≡◌, refl}
use mathlib.Core.Bool.{true}
use mathlib.Core.List.{List, [], ◌∷◌}
use Prim.Native.Nat.{ℕ, zero, suc, ◌≤◌, ◌<◌}
use native.Mathlib.Omega.{arith}
use lib.Dec.{T}
use lib.ListN.{length, get_or}
use lib.Ieee.{Float, nan, le, lt, neg}
use Rattle.lists.specs.Tests.{every, each_two}
use Rattle.lists.specs.Members.{All, Pairwise}
use Rattle.floats.specs.Floats.{within}
use Rattle.lines.specs.Admit.{two20}
use Rattle.knots.specs.Knots.{repeated, flat_knots}
use Rattle.floats.specs.Sizes.{Number}
use Rattle.floats.proofs.Order.{le_self, le_trans_float, right_number}
use Rattle.facts.proofs.Reflect.{both, as_true}
use Rattle.lines.proofs.Admitted.{every_at}
use Rattle.facts.proofs.Cover.{fits_of, lt_le, every_flat}

abbrev pub Above : Float → List Float → Type 0
Above k l = All (λ (y : Float). T (le k y)) l

abbrev pub Sorted : List Float → Type 0
Sorted l = Pairwise (λ x y. T (le x y)) l

lower : (k x : Float) (l : List Float) → T (le k x) → Above x l → Above k l
lower k x [] h a = tt
lower k x (y ∷ l) h a = (le_trans_float k x y h a.0, lower k x l h a.1)

pub above_knots : (k : Float) (ks : List Float) → each_two lt (k ∷ ks) ≡ true → Above k ks
unfolding each_two
above_knots k [] e = tt
above_knots k (y ∷ ys) e =
    let h = both (lt k y) (each_two lt (y ∷ ys)) e in
    let g = lt_le k y h.0 in
    (g, lower k y ys g (above_knots y ys h.1))

pub rising_tail : (k : Float) (ks : List Float) → each_two lt (k ∷ ks) ≡ true → each_two lt ks ≡ true
unfolding each_two
rising_tail k [] e = refl
rising_tail k (y ∷ ys) e = (both (lt k y) (each_two lt (y ∷ ys)) e).1

above_repeated : (x k : Float) (m : ℕ) (l : List Float) → T (le x k) → Above x l → Above x (repeated m k l)
unfolding repeated
above_repeated x k zero l h a = a
above_repeated x k (suc m) l h a = (h, above_repeated x k m l h a)

above_flat : (x : Float) (ks : List Float) (ms : List ℕ) → Above x ks → Above x (flat_knots ks ms)
unfolding flat_knots
above_flat x [] ms a = tt
above_flat x (k ∷ ks) [] a = tt
above_flat x (k ∷ ks) (m ∷ ms) a = above_repeated x k m (flat_knots ks ms) a.0 (above_flat x ks ms a.1)

sorted_repeated : (k : Float) (m : ℕ) (l : List Float) → Number k → Above k l → Sorted l → Sorted (repeated m k l)
unfolding repeated
sorted_repeated k zero l n a s = s
sorted_repeated k (suc m) l n a s = (above_repeated k k m l (le_self k n) a, sorted_repeated k m l n a s)

pub numbers_of : (k : Float) → within (neg two20) two20 k ≡ true → Number k
numbers_of k e = right_number (neg two20) k (fits_of k e).0

sorted_flat : (ks : List Float) (ms : List ℕ) → each_two lt ks ≡ true → every (within (neg two20) two20) ks ≡ true → Sorted (flat_knots ks ms)
unfolding flat_knots every
sorted_flat [] ms r f = tt
sorted_flat (k ∷ ks) [] r f = tt
sorted_flat (k ∷ ks) (m ∷ ms) r f =
    let h = both (within (neg two20) two20 k) (every (within (neg two20) two20) ks) f in
    sorted_repeated k m (flat_knots ks ms) (numbers_of k (as_true _ h.0)) (above_flat k ks ms (above_knots k ks r)) (sorted_flat ks ms (rising_tail k ks r) h.1)

pub above_at : (x : Float) (l : List Float) (j : ℕ) → Above x l → j < length l → T (le x (get_or l j nan))
above_at x [] j a h = absurd (omega arith)
above_at x (y ∷ l) zero a h = a.0
above_at x (y ∷ l) (suc j) a h = above_at x l j a.1 (omega arith)

pub sorted_at : (l : List Float) (i j : ℕ) → Sorted l → ((k : ℕ) → k < length l → Number (get_or l k nan)) → i ≤ j → j < length l → T (le (get_or l i nan) (get_or l j nan))
sorted_at [] i j s n a b = absurd (omega arith)
sorted_at (x ∷ l) zero zero s n a b = le_self x (n 0 (omega arith))
sorted_at (x ∷ l) zero (suc j) s n a b = above_at x l j s.0 (omega arith)
sorted_at (x ∷ l) (suc i) zero s n a b = absurd (omega arith)
sorted_at (x ∷ l) (suc i) (suc j) s n a b = sorted_at l i j s.1 (λ k h. n (suc k) (omega arith)) (omega arith) (omega arith)

pub climbs : (ks : List Float) (ms : List ℕ) → each_two lt ks ≡ true → every (within (neg two20) two20) ks ≡ true
    → (i j : ℕ) → i ≤ j → j < length (flat_knots ks ms) → T (le (get_or (flat_knots ks ms) i nan) (get_or (flat_knots ks ms) j nan))
climbs ks ms r f i j a b =
    sorted_at (flat_knots ks ms) i j (sorted_flat ks ms r f)
    (λ k h. numbers_of _ (every_at nan (within (neg two20) two20) (flat_knots ks ms) k h (every_flat (within (neg two20) two20) ks ms f))) a b
