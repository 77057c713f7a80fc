-- Passes over the regions and the raw list from its end: what one turn and the last one of `sweep`, `absorb` and `gather` do. Assumes nothing.
use mathlib.Core.Path.{◌≡◌, refl, ap, sym, ◌∙◌}
use mathlib.Core.List.{List, [], ◌∷◌, ◌++◌, reverse, append_assoc, append-nil, reverse-append}
use mathlib.Core.Bool.{Bool, true, false, cond}
use Prim.Native.Nat.{ℕ, zero, suc, ◌+◌, ◌-◌, ◌*◌, ◌≤◌, ◌<◌}
use native.Mathlib.Numerals.{add-one}
use native.Mathlib.Omega.{arith}
use lib.Dec.{eqb}
use borrow.Author.Tests.{eq-eqb, ne_eqb}
use lib.ListN.{length, take, drop}
use lib.Seq.{drop-cons, drop-set-lt, take-suc-set, take-suc, take_all}
use lib.Ieee.{Float, lt}
use Rattle.lists.specs.Parts.{block, patch}
use Rattle.regions.specs.declared.Region.{Region}
use Rattle.regions.specs.declared.Swept.{Swept}
use Rattle.regions.specs.Regions.{touches_of, merging, flat, region_at, regions_in}
use Rattle.machine.specs.Merge.{Grown, take1, keep1, grown, remaining, grow, take_in, gather}
use Rattle.lists.proofs.Parts.{patch_length}
use Rattle.lists.proofs.Loops.{nothing_left}
use Rattle.regions.proofs.Laws.{regions_length, regions_take, region_get, regions_set, rest-set, regions_snoc, drop_more}

-- ---- one pass
-- what is known when the loop of `sweep` is at region i
pub record Pass (n : ℕ) (r : Region) (l₀ l : List Float) (s : Swept) (i : ℕ) : Type 0 where
  pub same : length l ≡ length l₀
  pub at : i ≤ n
  pub behind : s.kept ≤ i
  pub grows : grown merging s.grown (drop i (regions_in n l)) ≡ grown merging r (regions_in n l₀)
  pub stays : take s.kept (regions_in n l) ++ remaining merging s.grown (drop i (regions_in n l)) ≡ remaining merging r (regions_in n l₀)
  pub rest : drop (n * 10) l ≡ drop (n * 10) l₀

module _ (n : ℕ) (r : Region) (l₀ l : List Float) (s : Swept) (i : ℕ) (p : Pass n r l₀ l s i) where
  -- r was tested
  pub pass_turn : (l' : List Float) (w : Swept) (x : Region) → n * 10 ≤ length l₀ → i < n → x ≡ region_at (block 10 i l)
      → w.grown ≡ take1 merging (touches_of s.grown x) s.grown x → w.kept ≡ cond (touches_of s.grown x) s.kept (s.kept + 1)
      → l' ≡ cond (touches_of s.grown x) l (patch l (s.kept * 10) (flat x)) → Pass n r l₀ l' w (i + 1)
  pass_turn l' w x room lt ex eg ek el =
      let head : drop i (regions_in n l) ≡ x ∷ drop (suc i) (regions_in n l) =
      drop-cons (regions_in n l) i x (rw regions_length lt) ∙ ap (λ (z : Region). z ∷ drop (suc i) (regions_in n l)) (region_get i n l x lt ∙ sym ex) in
      go (touches_of s.grown x) eg ek el (sym (ap (grown merging s.grown) head) ∙ p.grows)
      (sym (ap (λ (z : List Region). take s.kept (regions_in n l) ++ remaining merging s.grown z) head) ∙ p.stays)
    where
      go : (b : Bool) → w.grown ≡ take1 merging b s.grown x → w.kept ≡ cond b s.kept (s.kept + 1) → l' ≡ cond b l (patch l (s.kept * 10) (flat x))
          → grown merging (take1 merging b s.grown x) (drop (suc i) (regions_in n l)) ≡ grown merging r (regions_in n l₀)
          → take s.kept (regions_in n l) ++ keep1 merging b x (remaining merging (take1 merging b s.grown x) (drop (suc i) (regions_in n l)))
          ≡ remaining merging r (regions_in n l₀)
          → Pass n r l₀ l' w (i + 1)
      go true eg ek el a b = record {
        same = ap length el ∙ p.same;
        at = omega arith;
        behind = let z = p.behind in omega arith;
        grows = rw (eg, el, add-one) a;
        stays = rw (eg, ek, el, add-one) b;
        rest = rw el p.rest;
      }
      go false eg ek el a b =
          let k = p.behind in
          let q = p.same in
          let v = regions_set s.kept n l x (omega arith) (omega arith) in
          let len = regions_length n l in
          record {
            same = ap length el ∙ patch_length l (s.kept * 10) (flat x) (omega arith) ∙ p.same;
            at = omega arith;
            behind = omega arith;
            grows = rw (eg, el, v, add-one, drop-set-lt (suc i) (regions_in n l) s.kept x (omega arith)) a;
            stays =
                rw (
                  eg,
                  ek,
                  el,
                  v,
                  add-one s.kept,
                  add-one i,
                  drop-set-lt (suc i) (regions_in n l) s.kept x (omega arith),
                  take-suc-set (regions_in n l) s.kept x (omega arith),
                  append_assoc,
                ) b;
            rest = rw el (rest-set s.kept n l x (omega arith) (omega arith)) ∙ p.rest;
          }

  -- all were tested
  module _ (end : n ≤ i) where
    none_left : drop i (regions_in n l) ≡ []
    none_left = nothing_left (regions_in n l) i (rw regions_length end)

    pub pass_grown : s.grown ≡ grown merging r (regions_in n l₀)
    pass_grown = rw none_left at p.grows

    pub pass_stays : regions_in s.kept l ≡ remaining merging r (regions_in n l₀)
    pass_stays =
        let k = p.behind in let a = p.at in sym (regions_take s.kept n l (omega arith)) ∙ sym (append-nil (take s.kept (regions_in n l)))
        ∙ (rw none_left at p.stays)

    pub pass_kept : s.kept ≡ length (remaining merging r (regions_in n l₀))
    pass_kept = sym (regions_length s.kept l) ∙ ap length pass_stays

-- ---- passes until one takes in nothing
-- one pass against one clause of `grow`
grow_pass : (f k k' : ℕ) (g g' : Region) (l l' : List Region) → k ≡ length l → k' ≡ length (remaining merging g l) → g' ≡ grown merging g l → l' ≡ remaining merging g l
    → grow merging f (eqb k' k) g' l' ≡ grow merging (suc f) false g l
grow_pass f k k' g g' l l' a b c d = λ i. grow merging f (eqb (b i) (a i)) (c i) (d i)

grow_still : (f : ℕ) (g : Region) (l : List Region) → grow merging f true g l ≡ record { region = g; rest = l }
grow_still zero g l = refl
grow_still (suc f) g l = refl

-- what is known when the loop of `absorb` has made a pass over `had` regions
pub record Passes (l₀ : List Float) (had₀ : ℕ) (s₀ : Swept) (l : List Float) (had : ℕ) (s : Swept) : Type 0 where
  pub same : length l ≡ length l₀
  pub fewer : had ≤ had₀
  pub kept : s.kept ≤ had
  pub fuel : ℕ
  pub enough : had ≤ fuel
  pub follows : grow merging fuel (eqb s.kept had) s.grown (regions_in s.kept l) ≡ grow merging had₀ (eqb s₀.kept had₀) s₀.grown (regions_in s₀.kept l₀)
  pub rest : drop (had₀ * 10) l ≡ drop (had₀ * 10) l₀

module _ (l₀ : List Float) (had₀ : ℕ) (s₀ : Swept) (l : List Float) (had : ℕ) (s : Swept) (p : Passes l₀ had₀ s₀ l had s) where
  pub passes-turn : (l' : List Float) (w : Swept) → s.kept < had → length l' ≡ length l
      → w.grown ≡ grown merging s.grown (regions_in s.kept l) → w.kept ≡ length (remaining merging s.grown (regions_in s.kept l)) → w.kept ≤ s.kept
      → regions_in w.kept l' ≡ remaining merging s.grown (regions_in s.kept l) → drop (s.kept * 10) l' ≡ drop (s.kept * 10) l
      → Passes l₀ had₀ s₀ l' s.kept w
  passes-turn l' w lt same eg ek le es er = go p.fuel p.enough p.follows
    where
      go : (f : ℕ) → had ≤ f
          → grow merging f (eqb s.kept had) s.grown (regions_in s.kept l) ≡ grow merging had₀ (eqb s₀.kept had₀) s₀.grown (regions_in s₀.kept l₀)
          → Passes l₀ had₀ s₀ l' s.kept w
      go zero h e = absurd (omega arith)
      go (suc f) h e =
          let k = p.fewer in
          record {
            same = same ∙ p.same;
            fewer = omega arith;
            kept = le;
            fuel = f;
            enough = omega arith;
            follows = grow_pass f s.kept w.kept s.grown w.grown (regions_in s.kept l) (regions_in w.kept l') (sym (regions_length s.kept l)) ek eg es
                ∙ (rw (ne_eqb s.kept had (λ (z : s.kept ≡ had). omega arith)) at e);
            rest = drop_more (s.kept * 10) (had₀ * 10) l' l (omega arith) er ∙ p.rest;
          }

  -- the last pass took in nothing
  module _ (end : had ≤ s.kept) where
    pub settled : record { region = s.grown; rest = regions_in had l } ≡ grow merging had₀ (eqb s₀.kept had₀) s₀.grown (regions_in s₀.kept l₀)
    settled =
        let k = p.kept in
        let e : s.kept ≡ had = omega arith in
        sym (grow_still p.fuel s.grown (regions_in had l)) ∙ (rw (eq-eqb s.kept had e, e) at p.follows)

-- the first pass over the n regions of e, the passes of the loop, and the region stored
pub absorbed : (n : ℕ) (r : Region) (e l₀ : List Float) (s₀ : Swept) (l : List Float) (had : ℕ) (s : Swept) (l' : List Float)
    → (n + 1) * 10 ≤ length e → length l₀ ≡ length e
    → s₀.grown ≡ grown merging r (regions_in n e) → s₀.kept ≡ length (remaining merging r (regions_in n e))
    → regions_in s₀.kept l₀ ≡ remaining merging r (regions_in n e)
    → drop (n * 10) l₀ ≡ drop (n * 10) e → Passes l₀ n s₀ l had s → had ≤ s.kept → l' ≡ patch l (had * 10) (flat s.grown)
    → ((had + 1 ≡ length (take_in merging r (regions_in n e))) × (had + 1 ≤ n + 1))
    × ((regions_in (had + 1) l' ≡ take_in merging r (regions_in n e)) × (drop ((n + 1) * 10) l' ≡ drop ((n + 1) * 10) e))
absorbed n r e l₀ s₀ l had s l' room same eg ek es er p end el =
    let q = p.same in
    let f = p.fewer in
    let w : record { region = s.grown; rest = regions_in had l } ≡ grow merging (suc (length (regions_in n e))) false r (regions_in n e) =
    settled l₀ n s₀ l had s p end
    ∙ grow_pass n n s₀.kept r s₀.grown (regions_in n e) (regions_in s₀.kept l₀) (sym (regions_length n e)) ek eg es
    ∙ ap (λ (z : ℕ). grow merging (suc z) false r (regions_in n e)) (sym (regions_length n e)) in
    let a : regions_in (had + 1) l' ≡ take_in merging r (regions_in n e) =
    ap (regions_in (had + 1)) el ∙ regions_snoc had l s.grown (omega arith) ∙ ap (λ (z : Grown merging). z.rest ++ (z.region ∷ [])) w in (
      (sym (regions_length (had + 1) l') ∙ ap length a, omega arith),
      (
        a,
        ap (drop ((n + 1) * 10)) el
            ∙ drop_more ((had + 1) * 10) ((n + 1) * 10) (patch l (had * 10) (flat s.grown)) l (omega arith)
            (rest-set had (had + 1) l s.grown (omega arith) (omega arith))
            ∙ drop_more (n * 10) ((n + 1) * 10) l e (omega arith) (p.rest ∙ er),
      ),
    )

-- ---- from the end of the raw list
pub last_first : (i : ℕ) (l : List Float) → reverse (regions_in (suc i) l) ≡ region_at (block 10 i l) ∷ reverse (regions_in i l)
last_first i l =
    let d = region_at l in
    let n = regions_length (suc i) l in
    let e : regions_in (suc i) l ≡ regions_in i l ++ (region_at (block 10 i l) ∷ []) =
    sym (take_all (suc i) (regions_in (suc i) l) (omega arith)) ∙ take-suc (regions_in (suc i) l) i d (omega arith)
    ∙ rw (regions_take i (suc i) l (omega arith), region_get i (suc i) l d (omega arith)) refl in
    ap reverse e ∙ reverse-append (regions_in i l) (region_at (block 10 i l) ∷ [])

-- what is known when the loop of `gather` has i raw regions to take and m merged ones
pub record Gathering (raw : List Float) (n : ℕ) (l₀ l : List Float) (m i : ℕ) : Type 0 where
  pub same : length l ≡ length l₀
  pub at : m + i ≤ n
  pub follows : gather merging (reverse (regions_in i raw)) (regions_in m l) ≡ gather merging (reverse (regions_in n raw)) []
  pub rest : drop (n * 10) l ≡ drop (n * 10) l₀

module _ (raw : List Float) (n : ℕ) (l₀ l : List Float) (m i : ℕ) (p : Gathering raw n l₀ l m i) where
  pub gather_turn : (l' : List Float) (m' : ℕ) (x : Region) → 0 < i → length l' ≡ length l → x ≡ region_at (block 10 (i - 1) raw) → m' ≤ m + 1
      → regions_in m' l' ≡ take_in merging x (regions_in m l) → drop ((m + 1) * 10) l' ≡ drop ((m + 1) * 10) l → Gathering raw n l₀ l' m' (i - 1)
  gather_turn l' m' x lt same ex le es er =
      let a = p.at in
      let k : i ≡ suc (i - 1) = omega arith in
      record {
        same = same ∙ p.same;
        at = omega arith;
        follows = ap (gather merging (reverse (regions_in (i - 1) raw))) es
            ∙ ap (λ (z : List Region). gather merging z (regions_in m l)) (ap (λ (z : Region). z ∷ reverse (regions_in (i - 1) raw)) ex
            ∙ sym (last_first (i - 1) raw) ∙ ap (λ (z : ℕ). reverse (regions_in z raw)) (sym k))
            ∙ p.follows;
        rest = drop_more ((m + 1) * 10) (n * 10) l' l (omega arith) er ∙ p.rest;
      }

  pub gather_done : i ≤ 0 → regions_in m l ≡ gather merging (reverse (regions_in n raw)) []
  gather_done h = let z : i ≡ 0 = omega arith in rw z at p.follows
