-- Regions in a list of floats: ten floats read and written, and the list of regions that stands there. Assumes nothing.
use mathlib.Core.Path.{◌≡◌, refl, ap, sym, ◌∙◌}
use mathlib.Core.List.{List, [], ◌∷◌, ◌++◌, append_assoc, append-nil}
use Prim.Native.Nat.{ℕ, zero, suc, ◌+◌, ◌-◌, ◌*◌, ◌≤◌, ◌<◌}
use native.Mathlib.Nat.{add-zero}
use native.Mathlib.Numerals.{add-one}
use native.Mathlib.Omega.{arith}
use lib.ListN.{length, get_or, take, drop, set, replicate, length-replicate, length-append, length-drop}
use lib.Seq.{get_or-take, get_or-drop, length-take-le, take-add, drop-drop, drop_at, take_at, set_split, ext_get_or}
use lib.Ieee.{Float, nan}
use Rattle.lists.specs.Parts.{block, patch}
use Rattle.regions.specs.declared.Region.{Region}
use Rattle.regions.specs.Regions.{flat, flats, region_at, regions_in}
use Rattle.lists.proofs.Loops.{nothing_left}
use Rattle.lists.proofs.Parts.{block_take, given_back}

-- ---- ten floats
-- a region reads ten floats and no more
pub region_start : (n : ℕ) (l : List Float) → 10 ≤ n → region_at (take n l) ≡ region_at l
region_start n l h =
    cc (
      get_or-take n l 0 nan (omega arith),
      get_or-take n l 1 nan (omega arith),
      get_or-take n l 2 nan (omega arith),
      get_or-take n l 3 nan (omega arith),
      get_or-take n l 4 nan (omega arith),
      get_or-take n l 5 nan (omega arith),
      get_or-take n l 6 nan (omega arith),
      get_or-take n l 7 nan (omega arith),
      get_or-take n l 8 nan (omega arith),
      get_or-take n l 9 nan (omega arith),
    )

-- ten reads in a row are the region in its place
pub ten_read : (l : List Float) (i : ℕ)
    → ◌≡◌ {A = Region} (record {
      a0 = get_or l i nan;
      a1 = get_or l (i + 1) nan;
      b0 = get_or l (i + 2) nan;
      b1 = get_or l (i + 3) nan;
      x0 = get_or l (i + 4) nan;
      y0 = get_or l (i + 5) nan;
      z0 = get_or l (i + 6) nan;
      x1 = get_or l (i + 7) nan;
      y1 = get_or l (i + 8) nan;
      z1 = get_or l (i + 9) nan;
    })
    (region_at (take 10 (drop i l)))
ten_read l i =
    let z : get_or (drop i l) 0 nan ≡ get_or l i nan = get_or-drop i l 0 nan ∙ rw add-zero refl in
    let e = region_start 10 (drop i l) (omega arith) in
    cc (
      get_or-drop i l 1 nan,
      get_or-drop i l 2 nan,
      get_or-drop i l 3 nan,
      get_or-drop i l 4 nan,
      get_or-drop i l 5 nan,
      get_or-drop i l 6 nan,
      get_or-drop i l 7 nan,
      get_or-drop i l 8 nan,
      get_or-drop i l 9 nan,
    )

-- the ten floats of a region that is read are the list's first ten
pub flat_read : (l : List Float) → 10 ≤ length l → flat (region_at l) ≡ take 10 l
flat_read (a ∷ b ∷ c ∷ d ∷ e ∷ f ∷ g ∷ h ∷ i ∷ j ∷ l) k = refl
flat_read [] k = absurd (omega arith)
flat_read (a ∷ []) k = absurd (omega arith)
flat_read (a ∷ b ∷ []) k = absurd (omega arith)
flat_read (a ∷ b ∷ c ∷ []) k = absurd (omega arith)
flat_read (a ∷ b ∷ c ∷ d ∷ []) k = absurd (omega arith)
flat_read (a ∷ b ∷ c ∷ d ∷ e ∷ []) k = absurd (omega arith)
flat_read (a ∷ b ∷ c ∷ d ∷ e ∷ f ∷ []) k = absurd (omega arith)
flat_read (a ∷ b ∷ c ∷ d ∷ e ∷ f ∷ g ∷ []) k = absurd (omega arith)
flat_read (a ∷ b ∷ c ∷ d ∷ e ∷ f ∷ g ∷ h ∷ []) k = absurd (omega arith)
flat_read (a ∷ b ∷ c ∷ d ∷ e ∷ f ∷ g ∷ h ∷ i ∷ []) k = absurd (omega arith)

-- ---- the regions in a list
pub regions_length : (n : ℕ) (l : List Float) → length (regions_in n l) ≡ n
regions_length zero l = refl
regions_length (suc n) l = ap suc (regions_length n (drop 10 l))

pub flats-length : (rs : List Region) → length (flats rs) ≡ length rs * 10
flats-length [] = refl
flats-length (r ∷ rs) = let e = flats-length rs in omega arith

pub regions_take : (k n : ℕ) (l : List Float) → k ≤ n → take k (regions_in n l) ≡ regions_in k l
regions_take zero n l h = refl
regions_take (suc k) zero l h = absurd (omega arith)
regions_take (suc k) (suc n) l h = ap (λ (z : List Region). region_at l ∷ z) (regions_take k n (drop 10 l) (omega arith))

pub region_get : (i n : ℕ) (l : List Float) (d : Region) → i < n → get_or (regions_in n l) i d ≡ region_at (block 10 i l)
region_get i zero l d h = absurd (omega arith)
region_get zero (suc n) l d h = sym (region_start 10 l (omega arith))
region_get (suc i) (suc n) l d h =
    let e : 10 + i * 10 ≡ suc i * 10 = omega arith in
    region_get i n (drop 10 l) d (omega arith)
    ∙ ap (λ (z : List Float). region_at (take 10 z)) (drop-drop (i * 10) 10 l ∙ ap (λ (z : ℕ). drop z l) e)

-- a region written further on leaves the first ten floats
patch_later : (l vs : List Float) (j : ℕ) → patch l (10 + j) vs ≡ take 10 l ++ patch (drop 10 l) j vs
patch_later l vs j =
    let e : 10 + (j + length vs) ≡ 10 + j + length vs = omega arith in
    rw (take-add 10 j l, append_assoc, drop-drop (j + length vs) 10 l, e) refl

regions_join : (n : ℕ) (l m : List Float) → 10 ≤ length l → regions_in (suc n) (take 10 l ++ m) ≡ region_at l ∷ regions_in n m
regions_join n l m h =
    let k = length-take-le 10 l h in
    let a : region_at (take 10 l ++ m) ≡ region_at l =
    sym (region_start 10 (take 10 l ++ m) (omega arith)) ∙ ap region_at (take_at (take 10 l) m 10 k) ∙ region_start 10 l (omega arith) in
    rw (a, drop_at (take 10 l) m 10 k) refl

pub regions_set : (i n : ℕ) (l : List Float) (r : Region) → i < n → n * 10 ≤ length l → regions_in n (patch l (i * 10) (flat r)) ≡ set (regions_in n l) i r
regions_set i zero l r h f = absurd (omega arith)
regions_set zero (suc n) l r h f = refl
regions_set (suc i) (suc n) l r h f =
    let e : suc i * 10 ≡ 10 + i * 10 = omega arith in
    let d = length-drop 10 l in
    rw (e, patch_later l (flat r) (i * 10))
    (regions_join n l (patch (drop 10 l) (i * 10) (flat r)) (omega arith)
    ∙ ap (λ (z : List Region). region_at l ∷ z) (regions_set i n (drop 10 l) r (omega arith) (omega arith)))

-- the floats of the first m regions are the list's first m * 10
pub flats_read : (m : ℕ) (l : List Float) → m * 10 ≤ length l → flats (regions_in m l) ≡ take (m * 10) l
flats_read zero l h = refl
flats_read (suc m) l h =
    let e : suc m * 10 ≡ 10 + m * 10 = omega arith in
    let d = length-drop 10 l in
    ap (λ (z : List Float). z ++ flats (regions_in m (drop 10 l))) (flat_read l (omega arith))
    ∙ ap (λ (z : List Float). take 10 l ++ z) (flats_read m (drop 10 l) (omega arith))
    ∙ sym (take-add 10 (m * 10) l) ∙ ap (λ (z : ℕ). take z l) (sym e)

-- what stands behind the first n regions stays where one of these is written
pub rest-set : (i n : ℕ) (l : List Float) (r : Region) → i < n → n * 10 ≤ length l → drop (n * 10) (patch l (i * 10) (flat r)) ≡ drop (n * 10) l
rest-set i n l r h f =
    let m : ℕ = n * 10 - (i * 10 + 10) in
    let e : n * 10 ≡ i * 10 + 10 + m = omega arith in
    let t = length-take-le (i * 10) l (omega arith) in
    let a : drop (i * 10 + 10) (patch l (i * 10) (flat r)) ≡ drop (i * 10 + 10) l =
    ap (drop (i * 10 + 10)) (sym (append_assoc (take (i * 10) l) (flat r) (drop (i * 10 + 10) l)))
    ∙ drop_at (take (i * 10) l ++ flat r) (drop (i * 10 + 10) l) (i * 10 + 10) (length-append (take (i * 10) l) (flat r) ∙ ap (λ (z : ℕ). z + 10) t) in
    ap (λ (z : ℕ). drop z (patch l (i * 10) (flat r))) e ∙ sym (drop-drop m (i * 10 + 10) (patch l (i * 10) (flat r))) ∙ ap (drop m) a
    ∙ drop-drop m (i * 10 + 10) l ∙ ap (λ (z : ℕ). drop z l) (sym e)

-- a region stored behind the first k
pub regions_snoc : (k : ℕ) (l : List Float) (r : Region) → (k + 1) * 10 ≤ length l → regions_in (k + 1) (patch l (k * 10) (flat r)) ≡ regions_in k l ++ (r ∷ [])
regions_snoc k l r h =
    let n = regions_length (suc k) l in
    rw (
      add-one,
      regions_set k (suc k) l r (omega arith) (omega arith),
      set_split (regions_in (suc k) l) k r (omega arith),
      regions_take k (suc k) l (omega arith),
      nothing_left (regions_in (suc k) l) (suc k) (omega arith),
    ) refl

-- regions are their floats, whatever stands behind, and only these are read
pub regions_flats : (rs : List Region) (l : List Float) → regions_in (length rs) (flats rs ++ l) ≡ rs
regions_flats [] l = refl
regions_flats (r ∷ rs) l = ap (λ (z : List Region). r ∷ z) (regions_flats rs l)

pub regions_same : (n : ℕ) (l l' : List Float) → ((i : ℕ) → i < n → region_at (block 10 i l) ≡ region_at (block 10 i l')) → regions_in n l ≡ regions_in n l'
regions_same n l l' f =
    let a = regions_length n l in
    let b = regions_length n l' in
    ext_get_or (region_at l) (regions_in n l) (regions_in n l') (a ∙ sym b)
    (λ (i : ℕ) (h : i < length (regions_in n l)). region_get i n l (region_at l) (omega arith) ∙ f i (omega arith) ∙ sym (region_get i n l' (region_at l) (omega arith)))

pub regions_start : (n m : ℕ) (l : List Float) → n * 10 ≤ m → regions_in n (take m l) ≡ regions_in n l
regions_start n m l h = regions_same n (take m l) l (λ (i : ℕ) (k : i < n). ap region_at (block_take 10 i m l (omega arith)))

-- the list of regions that stands in a list, from its floats
pub regions_read : (m : ℕ) (l : List Float) (rs : List Region) → length rs ≡ m → take (m * 10) l ≡ flats rs → regions_in m l ≡ rs
regions_read m l rs k e =
    sym (regions_start m (m * 10) l (omega arith)) ∙ ap (regions_in m) (e ∙ sym (append-nil (flats rs)))
    ∙ ap (λ (z : ℕ). regions_in z (flats rs ++ [])) (sym k) ∙ regions_flats rs []

-- ---- lists: what stands further on, and a part filled with one value
pub drop_more : {A : Type 0} (a b : ℕ) (l l' : List A) → a ≤ b → drop a l ≡ drop a l' → drop b l ≡ drop b l'
drop_more a b l l' h e =
    let k : b ≡ a + (b - a) = omega arith in
    rw (k, ← drop-drop (b - a) a l, ← drop-drop (b - a) a l', e) refl

-- a part filled with one value
pub filled : {A : Type 0} (v : A) (a n : ℕ) (xs ys : List A) → ys ≡ replicate n v → take a xs ++ (ys ++ drop n (drop a xs)) ≡ patch xs a (replicate n v)
filled v a n xs ys e =
    let w : a + n - a ≡ n = omega arith in
    rw w at (given_back a n {xs = xs} {xs' = xs} {ys = ys} {zs = replicate n v} e refl (length-replicate n v))
