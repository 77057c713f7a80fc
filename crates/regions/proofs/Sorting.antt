-- A region put in its place and all regions sorted: what one turn and the last one of `insert` and `sort` do. Assumes nothing.
use mathlib.Core.Path.{◌≡◌, refl, ap, sym, ◌∙◌}
use mathlib.Core.List.{List, [], ◌∷◌, ◌++◌, append_assoc}
use mathlib.Core.Bool.{Bool, true, false, cond}
use Prim.Native.Nat.{ℕ, suc, ◌+◌, ◌-◌, ◌*◌, ◌≤◌, ◌<◌}
use native.Mathlib.Nat.{add-zero}
use native.Mathlib.Numerals.{add-one}
use native.Mathlib.Omega.{arith}
use lib.ListN.{length, get_or, take, drop, set}
use lib.Seq.{get_or-take, get_or-drop, length-take-le, drop_at, take_at, drop-cons, drop-set-lt, take-suc-set, take-take, set_split}
use lib.Ieee.{Float, nan, lt}
use Rattle.lists.specs.Parts.{block, patch}
use Rattle.regions.specs.declared.Region.{Region}
use Rattle.regions.specs.Regions.{merging, flat, region_at, regions_in}
use Rattle.machine.specs.Merge.{insert, ordered}
use Rattle.lists.proofs.Parts.{patch_length}
use Rattle.lists.proofs.Loops.{nothing_left}
use Rattle.regions.proofs.Laws.{regions_length, region_get, regions_set, rest-set}

-- ---- a region put in its place by first start
start_read : (i : ℕ) (l : List Float) → (region_at (block 10 i l)).a0 ≡ get_or l (i * 10) nan
start_read i l = get_or-take 10 (drop (i * 10) l) 0 nan (omega arith) ∙ get_or-drop (i * 10) l 0 nan ∙ rw add-zero refl

-- what is known when the loop of `insert` has found that r stands at j or behind
pub record Inserting (k n : ℕ) (r : Region) (l₀ l : List Float) (j : ℕ) : Type 0 where
  pub same : length l ≡ length l₀
  pub at : j < n
  pub follows : take j (regions_in n l) ++ insert merging r (drop (j + 1) (regions_in n l)) ≡ take k (regions_in n l₀) ++ insert merging r (drop (k + 1) (regions_in n l₀))
  pub rest : drop (n * 10) l ≡ drop (n * 10) l₀

module _ (k n : ℕ) (r : Region) (l₀ l : List Float) (j : ℕ) (p : Inserting k n r l₀ l j) (room : n * 10 ≤ length l₀) where
  -- the region behind j, and what inserting r there makes of it
  next : (y : Region) → j + 1 < n → y ≡ region_at (block 10 (j + 1) l) → drop (j + 1) (regions_in n l) ≡ y ∷ drop (suc (j + 1)) (regions_in n l)
  next y h e =
      drop-cons (regions_in n l) (j + 1) y (rw regions_length h) ∙ ap (λ (z : Region). z ∷ drop (suc (j + 1)) (regions_in n l)) (region_get (j + 1) n l y h ∙ sym e)

  inserted : (y : Region) (b : Bool) → j + 1 < n → y ≡ region_at (block 10 (j + 1) l) → lt (get_or l ((j + 1) * 10) nan) r.a0 ≡ b
      → insert merging r (drop (j + 1) (regions_in n l)) ≡ cond b (y ∷ insert merging r (drop (suc (j + 1)) (regions_in n l))) (r ∷ y ∷ drop (suc (j + 1)) (regions_in n l))
  inserted y b h e q =
      let t : lt y.a0 r.a0 ≡ b = ap (λ (z : Region). lt z.a0 r.a0) e ∙ ap (λ (z : Float). lt z r.a0) (start_read (j + 1) l) ∙ q in
      ap (insert merging r) (next y h e)
      ∙ ap (λ (z : Bool). cond z (y ∷ insert merging r (drop (suc (j + 1)) (regions_in n l))) (r ∷ y ∷ drop (suc (j + 1)) (regions_in n l))) t

  pub insert_turn : (l' : List Float) (y : Region) → j + 1 < n → lt (get_or l ((j + 1) * 10) nan) r.a0 ≡ true → y ≡ region_at (block 10 (j + 1) l)
      → l' ≡ patch l (j * 10) (flat y)
      → Inserting k n r l₀ l' (j + 1)
  insert_turn l' y h q ey el =
      let s = p.same in
      let n' = regions_length n l in
      let v : regions_in n l' ≡ set (regions_in n l) j y = ap (regions_in n) el ∙ regions_set j n l y (omega arith) (omega arith) in
      let t : take (j + 1) (set (regions_in n l) j y) ≡ take j (regions_in n l) ++ (y ∷ []) = rw add-one (take-suc-set (regions_in n l) j y (omega arith)) in
      let d : drop (j + 1 + 1) (set (regions_in n l) j y)
      ≡ drop (suc (j + 1)) (regions_in n l) = rw add-one (drop-set-lt (suc (j + 1)) (regions_in n l) j y (omega arith)) in
      record {
        same = ap length el ∙ patch_length l (j * 10) (flat y) (omega arith) ∙ p.same;
        at = h;
        follows = rw (v, t, d, append_assoc) (ap (λ (z : List Region). take j (regions_in n l) ++ z) (sym (inserted y true h ey q)) ∙ p.follows);
        rest = ap (drop (n * 10)) el ∙ rest-set j n l y (omega arith) (omega arith) ∙ p.rest;
      }

  -- r does not go further: no region is behind j, or the one there does not start before r
  pub stop_end : n ≤ j + 1 → insert merging r (drop (j + 1) (regions_in n l)) ≡ r ∷ drop (j + 1) (regions_in n l)
  stop_end h = rw (nothing_left (regions_in n l) (j + 1) (rw regions_length h)) refl

  pub stop_here : j + 1 < n → lt (get_or l ((j + 1) * 10) nan) r.a0 ≡ false → insert merging r (drop (j + 1) (regions_in n l)) ≡ r ∷ drop (j + 1) (regions_in n l)
  stop_here h q =
      let y = region_at (block 10 (j + 1) l) in
      inserted y false h refl q ∙ ap (λ (z : List Region). r ∷ z) (sym (next y h refl))

  pub insert_done : (l' : List Float) (x : Region) → insert merging r (drop (j + 1) (regions_in n l)) ≡ r ∷ drop (j + 1) (regions_in n l)
      → l' ≡ patch l (j * 10) (flat r) → r ≡ x
      → (regions_in n l' ≡ take k (regions_in n l₀) ++ insert merging x (drop (k + 1) (regions_in n l₀))) × (drop (n * 10) l' ≡ drop (n * 10) l₀)
  insert_done l' x e el ex =
      let s = p.same in
      let q = p.at in
      let n' = regions_length n l in
      let c : r ∷ drop (suc j) (regions_in n l) ≡ insert merging r (drop (j + 1) (regions_in n l)) = rw (← add-one j) (sym e) in (
        ap (regions_in n) el ∙ regions_set j n l r (omega arith) (omega arith) ∙ set_split (regions_in n l) j r (omega arith)
            ∙ ap (λ (z : List Region). take j (regions_in n l) ++ z) c ∙ p.follows
            ∙ ap (λ (z : Region). take k (regions_in n l₀) ++ insert merging z (drop (k + 1) (regions_in n l₀))) ex,
        ap (drop (n * 10)) el ∙ rest-set j n l r (omega arith) (omega arith) ∙ p.rest,
      )

-- ---- sorting from the last region to the first
-- what is known when the loop of `sort` has ordered the regions from k on
pub record Sorting (n : ℕ) (l₀ l : List Float) (k : ℕ) : Type 0 where
  pub same : length l ≡ length l₀
  pub at : k ≤ n
  pub before : take k (regions_in n l) ≡ take k (regions_in n l₀)
  pub behind : drop k (regions_in n l) ≡ ordered merging (drop k (regions_in n l₀))
  pub rest : drop (n * 10) l ≡ drop (n * 10) l₀

pub sort_start : (n : ℕ) (l : List Float) → Sorting n l l n
sort_start n l =
    let e = nothing_left (regions_in n l) n (rw regions_length (omega arith)) in
    record { same = refl; at = omega arith; before = refl; behind = rw e refl; rest = refl }

module _ (n : ℕ) (l₀ l : List Float) (k : ℕ) (p : Sorting n l₀ l k) where
  pub sort_turn : (l' : List Float) → 0 < k → length l' ≡ length l
      → regions_in n l' ≡ take (k - 1) (regions_in n l) ++ insert merging (region_at (block 10 (k - 1) l)) (drop (k - 1 + 1) (regions_in n l))
      → drop (n * 10) l' ≡ drop (n * 10) l
      → Sorting n l₀ l' (k - 1)
  sort_turn l' pos same es er =
      let a = p.at in
      let d = region_at l in
      let n1 = regions_length n l in
      let n0 = regions_length n l₀ in
      let ek : k - 1 + 1 ≡ k = omega arith in
      let ej : suc (k - 1) ≡ k = omega arith in
      let lj = length-take-le (k - 1) (regions_in n l) (omega arith) in
      let x : region_at (block 10 (k - 1) l) ≡ get_or (regions_in n l₀) (k - 1) d =
      sym (region_get (k - 1) n l d (omega arith)) ∙ sym (get_or-take k (regions_in n l) (k - 1) d (omega arith))
      ∙ ap (λ (z : List Region). get_or z (k - 1) d) p.before ∙ get_or-take k (regions_in n l₀) (k - 1) d (omega arith) in
      let t : drop (k - 1) (regions_in n l₀) ≡ get_or (regions_in n l₀) (k - 1) d ∷ drop k (regions_in n l₀) =
      drop-cons (regions_in n l₀) (k - 1) d (omega arith) ∙ ap (λ (z : ℕ). get_or (regions_in n l₀) (k - 1) d ∷ drop z (regions_in n l₀)) ej in
      record {
        same = same ∙ p.same;
        at = omega arith;
        before = ap (take (k - 1)) es ∙ take_at (take (k - 1) (regions_in n l)) _ (k - 1) lj
            ∙ sym (take-take (k - 1) k (regions_in n l) (omega arith)) ∙ ap (take (k - 1)) p.before ∙ take-take (k - 1) k (regions_in n l₀) (omega arith);
        behind = ap (drop (k - 1)) es ∙ drop_at (take (k - 1) (regions_in n l)) _ (k - 1) lj
            ∙ ap (λ (z : ℕ). insert merging (region_at (block 10 (k - 1) l)) (drop z (regions_in n l))) ek
            ∙ ap (insert merging (region_at (block 10 (k - 1) l))) p.behind
            ∙ ap (λ (z : Region). insert merging z (ordered merging (drop k (regions_in n l₀)))) x
            ∙ ap (ordered merging) (sym t);
        rest = er ∙ p.rest;
      }

  pub sort_done : k ≤ 0 → regions_in n l ≡ ordered merging (regions_in n l₀)
  sort_done h = let z : k ≡ 0 = omega arith in rw z at p.behind
