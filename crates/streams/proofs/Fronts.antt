-- The front of a buffer after a read into its rest.
use Rattle.std.proofs.Common.{◌≡◌, ℕ, ◌+◌, ◌-◌, ◌≤◌, List, ◌++◌, arith, length, take, slice_range, sym, ap, ◌∙◌, subst, le_refl, drop_at, length-take-le, Option}
use Rattle.std.proofs.lemmas.Slice.{take-put_mid_below}
use Rattle.std.proofs.KnownBytes.{Consumes-trans, Consumes-kept}
use Rattle.std.specs.Io.KnownBytes.{Consumes, Keeps}
use borrow.Rule.Slice.PartMut.{put_mid, post_of}
use lib.Seq.{take-add, take-append-le}

take_split : (a b : ℕ) (old new : List ℕ) → a ≤ b → take a new ≡ take a old → take a old ++ slice_range new a b ≡ take b new
take_split a b old new h front =
    let same : a + (b - a) ≡ b = omega arith in
    ap (λ l. l ++ slice_range new a b) (sym front) ∙ sym (take-add a (b - a) new) ∙ ap (λ n. take n new) same

range_put : (a k n : ℕ) (xs ys : List ℕ) → a ≤ length xs → n ≤ length ys → slice_range (put_mid a k xs ys) a (a + n) ≡ take n ys
range_put a k n xs ys within fits =
    let same : (a + n) - a ≡ n = omega arith in
    let after = post_of a k xs in
    ap (take ((a + n) - a)) (drop_at (take a xs) (ys ++ after) a (length-take-le a xs within)) ∙ ap (λ m. take m (ys ++ after)) same ∙ take-append-le n ys after fits

front_put : (a k n : ℕ) (xs ys : List ℕ) → a ≤ length xs → n ≤ length ys → take a xs ++ take n ys ≡ take (a + n) (put_mid a k xs ys)
front_put a k n xs ys within fits =
    ap (λ l. take a xs ++ l) (sym (range_put a k n xs ys within fits))
    ∙ take_split a (a + n) xs (put_mid a k xs ys) (omega arith) (take-put_mid_below _ _ _ _ _ (le_refl _) within)

-- n bytes more, behind the first a
pub reads_more : (p q r : Option (List ℕ)) (a k n m : ℕ) (xs ys : List ℕ) → a ≤ length xs → n ≤ length ys → m ≡ a + n
    → Consumes p q (take a xs) → Consumes q r (take n ys) → Consumes p r (take m (put_mid a k xs ys))
reads_more p q r a k n m xs ys within fits e h i =
    subst (Consumes p r) (front_put a k n xs ys within fits ∙ ap (λ x. take x (put_mid a k xs ys)) (sym e)) (Consumes-trans p q r _ _ h i)

-- nothing more
pub reads_none : (p q r : Option (List ℕ)) (a k m : ℕ) (xs ys : List ℕ) → a ≤ length xs → m ≡ a
    → Consumes p q (take a xs) → Keeps q r → Consumes p r (take m (put_mid a k xs ys))
reads_none p q r a k m xs ys within e h i =
    subst (Consumes p r) (sym (take-put_mid_below _ _ _ _ _ (le_refl _) within) ∙ ap (λ x. take x (put_mid a k xs ys)) (sym e)) (Consumes-kept p q r _ h i)
