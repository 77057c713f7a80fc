-- Marks made by joining neighbours two by two are equal exactly where a chain of neighbours leads, and each is its group's lowest place. Assumes nothing.
use mathlib.Core.Path.{◌≡◌, refl, ap, sym, ◌∙◌, subst}
use mathlib.Core.List.{List, [], ◌∷◌}
use mathlib.Core.Logic.{◌⊎◌, inl, inr, dite}
use mathlib.Core.Bool.{Bool, true, false, not, cond}
use Prim.Native.Nat.{ℕ, zero, suc, ◌+◌, ◌≤◌, ◌<◌}
use native.Mathlib.Omega.{arith}
use native.Mathlib.Decide.{dec_le}
use lib.Dec.{T, eqb, ltb, eqb→eq, ltb→lt, nltb→le}
use lib.ListN.{length, get_or, take, drop}
use lib.Seq.{ext_get_or, take_at, drop_at}
use lib.Ieee.Fits.{eq→eqb}
use Rattle.lists.specs.Parts.{patch}
use Rattle.machine.specs.Marks.{Chain, here, next, Marked, relabel, unite, link, link_if, row_marks, all_marks, count_from, marks_of}

-- what holds of both sides of a test holds of the side that is taken
either : (P : List ℕ → Type 0) (b : Bool) (x y : List ℕ) → (T b → P x) → (T (not b) → P y) → P (cond b x y)
either P true x y f g = f tt
either P false x y f g = g tt

-- ---- one relabelling, place by place
abbrev becomes : ℕ → ℕ → ℕ → ℕ
becomes from to m = cond (eqb m from) to m

relabel-length : (from to : ℕ) (l : List ℕ) → length (relabel from to l) ≡ length l
relabel-length from to [] = refl
relabel-length from to (m ∷ l) = ap suc (relabel-length from to l)

relabel_get : (from to : ℕ) (l : List ℕ) (i : ℕ) → i < length l → get_or (relabel from to l) i 0 ≡ becomes from to (get_or l i 0)
relabel_get from to [] i h = absurd (omega arith)
relabel_get from to (m ∷ l) zero h = refl
relabel_get from to (m ∷ l) (suc i) h = relabel_get from to l i (omega arith)

-- a mark is `from` and becomes `to`, or is another and stays
abbrev Case : ℕ → ℕ → ℕ → ℕ → Type 0
Case from to m z = ((m ≡ from) × (z ≡ to)) ⊎ ((m ≡ from → ⊥) × (z ≡ m))

no_of : (b : Bool) → T (not b) → T b → ⊥
no_of true n y = n
no_of false n y = y

case : (from to m : ℕ) → Case from to m (becomes from to m)
case from to m = go (eqb m from) (eqb→eq m from) (λ n e. no_of (eqb m from) n (eq→eqb e))
  where
    go : (b : Bool) → (T b → m ≡ from) → (T (not b) → m ≡ from → ⊥) → Case from to m (cond b to m)
    go true f g = inl (f tt, refl)
    go false f g = inr (g tt, refl)

-- ---- chains
module _ (n : ℕ) (near : ℕ → ℕ → Bool) where
  pub chain_trans : {i j k : ℕ} → Chain n near i j → Chain n near j k → Chain n near i k
  chain_trans here d = d
  chain_trans (next x h t c) d = next x h t (chain_trans c d)

  module _ (symm : (i j : ℕ) → T (near i j) → T (near j i)) where
    pub chain_sym : {i k : ℕ} → i < n → Chain n near i k → Chain n near k i
    chain_sym b here = here
    chain_sym {i} b (next x h t c) = chain_trans (chain_sym h c) (next i b (symm i x t) here)

    -- ---- what marks keep: a mark is no more than its place, a place's mark marks itself, and equal marks are joined
    record Good (l : List ℕ) : Type 0 where
      count : length l ≡ n
      below : (i : ℕ) → i < n → get_or l i 0 ≤ i
      root : (i : ℕ) → i < n → get_or l (get_or l i 0) 0 ≡ get_or l i 0
      joined : (i j : ℕ) → i < n → j < n → get_or l i 0 ≡ get_or l j 0 → Chain n near i j

    -- one mark becomes a lower one that a chain joins to it
    relabel_good : (hi lo : ℕ) (l : List ℕ) → Good l → lo ≤ hi → hi < n → get_or l hi 0 ≡ hi → get_or l lo 0 ≡ lo → Chain n near hi lo → Good (relabel hi lo l)
    relabel_good hi lo l g le lt eh el ch =
        record {
          count = relabel-length hi lo l ∙ g.count;
          below = λ i h. subst (λ (z : ℕ). z ≤ i) (sym (at i h)) (under i (get_or l i 0) (becomes hi lo (get_or l i 0)) (g.below i h) (case hi lo (get_or l i 0)));
          root = λ i h. subst (λ (z : ℕ). get_or (relabel hi lo l) z 0 ≡ z) (sym (at i h)) (rooted i h (becomes hi lo (get_or l i 0)) (case hi lo (get_or l i 0)));
          joined = λ i j h k e. joins i j h k (becomes hi lo (get_or l i 0)) (becomes hi lo (get_or l j 0)) (case hi lo (get_or l i 0)) (case hi lo (get_or l j 0)) (sym (at i h) ∙ e ∙ at j k);
        }
      where
        at : (i : ℕ) → i < n → get_or (relabel hi lo l) i 0 ≡ becomes hi lo (get_or l i 0)
        at i h = relabel_get hi lo l i (let z = g.count in omega arith)

        under : (i m z : ℕ) → m ≤ i → Case hi lo m z → z ≤ i
        under i m z h (inl e) = let u = e.0 in let v = e.1 in omega arith
        under i m z h (inr f) = let u = f.1 in omega arith

        fixed : (m z : ℕ) → get_or l m 0 ≡ m → (m ≡ hi → m ≡ lo) → Case hi lo m z → z ≡ m
        fixed m z e f (inl q) = q.1 ∙ sym (f q.0)
        fixed m z e f (inr q) = q.1

        self : (m : ℕ) → m < n → get_or l m 0 ≡ m → (m ≡ hi → m ≡ lo) → get_or (relabel hi lo l) m 0 ≡ m
        self m h e f = at m h ∙ ap (becomes hi lo) e ∙ fixed m (becomes hi lo m) e f (case hi lo m)

        rooted : (i : ℕ) → i < n → (z : ℕ) → Case hi lo (get_or l i 0) z → get_or (relabel hi lo l) z 0 ≡ z
        rooted i h z (inl e) = subst (λ (x : ℕ). get_or (relabel hi lo l) x 0 ≡ x) (sym e.1) (self lo (omega arith) el (λ q. refl))
        rooted i h z (inr f) =
            subst (λ (x : ℕ). get_or (relabel hi lo l) x 0 ≡ x) (sym f.1)
            (self (get_or l i 0) (let z = g.below i h in omega arith) (g.root i h) (λ q. absurd (f.0 q)))

        joins : (i j : ℕ) → i < n → j < n → (x y : ℕ) → Case hi lo (get_or l i 0) x → Case hi lo (get_or l j 0) y → x ≡ y → Chain n near i j
        joins i j h k x y (inl p) (inl q) e = g.joined i j h k (p.0 ∙ sym q.0)
        joins i j h k x y (inl p) (inr q) e =
            chain_trans (g.joined i hi h lt (p.0 ∙ sym eh))
            (chain_trans ch (g.joined lo j (omega arith) k (el ∙ sym p.1 ∙ e ∙ q.1)))
        joins i j h k x y (inr p) (inl q) e =
            chain_trans (g.joined i lo h (omega arith) (sym p.1 ∙ e ∙ q.1 ∙ sym el))
            (chain_trans (chain_sym lt ch) (g.joined hi j lt k (eh ∙ sym q.0)))
        joins i j h k x y (inr p) (inr q) e = g.joined i j h k (sym p.1 ∙ e ∙ q.1)

    -- ---- two neighbours
    unite_good : (a b : ℕ) (l : List ℕ) → a < n → b < n → get_or l a 0 ≡ a → get_or l b 0 ≡ b → Chain n near a b → Good l → Good (unite a b l)
    unite_good a b l au bu ea eb c g =
        either Good (ltb a b) _ _
        (λ t. relabel_good _ _ l g (let z = ltb→lt a b t in omega arith) bu eb ea (chain_sym au c))
        (λ f. either Good (ltb b a) _ _ (λ t. relabel_good _ _ l g (let z = ltb→lt b a t in omega arith) au ea eb c) (λ e. g))

    link_good : (i j : ℕ) (l : List ℕ) → i < n → j < n → T (near i j) → Good l → Good (link i j l)
    link_good i j l h k t g =
        let au : get_or l i 0 < n = let z = g.below i h in omega arith in
        let bu : get_or l j 0 < n = let z = g.below j k in omega arith in
        unite_good (get_or l i 0) (get_or l j 0) l au bu (g.root i h) (g.root j k)
        (chain_trans (g.joined (get_or l i 0) i au h (g.root i h))
        (next j k t (g.joined j (get_or l j 0) k bu (sym (g.root j k))))) g

    row_good : (i j : ℕ) (l : List ℕ) → i < n → j ≤ i → Good l → Good (row_marks near i j l)
    row_good i zero l h k g = g
    row_good i (suc j) l h k g = row_good i j _ h (omega arith) (either Good (near i j) _ _ (λ t. link_good _ _ l h (omega arith) t g) (λ f. g))

    all_good : (i : ℕ) (l : List ℕ) → i ≤ n → Good l → Good (all_marks near i l)
    all_good zero l h g = g
    all_good (suc i) l h g = all_good i _ (omega arith) (row_good i i l (omega arith) (omega arith) g)

-- ---- equal marks stay equal, and neighbours' become equal
abbrev Same : List ℕ → ℕ → ℕ → Type 0
Same l i j = get_or l i 0 ≡ get_or l j 0

relabel_same : (from to : ℕ) (l : List ℕ) (i j : ℕ) → i < length l → j < length l → Same l i j → Same (relabel from to l) i j
relabel_same from to l i j h k e = relabel_get from to l i h ∙ ap (becomes from to) e ∙ sym (relabel_get from to l j k)

unite-length : (a b : ℕ) (l : List ℕ) → length (unite a b l) ≡ length l
unite-length a b l = either Long (ltb a b) _ _ (λ t. relabel-length _ _ l) (λ f. either Long (ltb b a) _ _ (λ t. relabel-length _ _ l) (λ e. refl))
  where
    Long : List ℕ → Type 0
    Long z = length z ≡ length l

unite_same : (a b : ℕ) (l : List ℕ) (i j : ℕ) → i < length l → j < length l → Same l i j → Same (unite a b l) i j
unite_same a b l i j h k e =
    either (λ z. Same z i j) (ltb a b) _ _
    (λ t. relabel_same _ _ l i j h k e)
    (λ f. either (λ z. Same z i j) (ltb b a) _ _ (λ t. relabel_same _ _ l i j h k e) (λ g. e))

-- from becomes to, to stays
becomes_from : (from to : ℕ) → becomes from to from ≡ to
becomes_from from to = go (eqb from from) (eq→eqb {a = from} {b = from} refl)
  where
    go : (b : Bool) → T b → cond b to from ≡ to
    go true t = refl
    go false t = absurd t

becomes_to : (from to : ℕ) → becomes from to to ≡ to
becomes_to from to = go (eqb to from)
  where
    go : (b : Bool) → cond b to to ≡ to
    go true = refl
    go false = refl

linked : (i j : ℕ) (l : List ℕ) → i < length l → j < length l → Same (link i j l) i j
linked i j l h k =
    let a = get_or l i 0 in
    let b = get_or l j 0 in
    either (λ z. Same z i j) (ltb a b) _ _
    (λ t. relabel_get b a l i h ∙ becomes_to b a ∙ sym (relabel_get b a l j k ∙ becomes_from b a))
    (λ f. either (λ z. Same z i j) (ltb b a) _ _
    (λ t. relabel_get a b l i h ∙ becomes_from a b ∙ sym (relabel_get a b l j k ∙ becomes_to a b))
    (λ e. let u = nltb→le a b f in let v = nltb→le b a e in omega arith))

module _ (near : ℕ → ℕ → Bool) where
  link_if_length : (b : Bool) (i j : ℕ) (l : List ℕ) → length (link_if b i j l) ≡ length l
  link_if_length true i j l = unite-length (get_or l i 0) (get_or l j 0) l
  link_if_length false i j l = refl

  link_if_same : (b : Bool) (u v : ℕ) (l : List ℕ) (i j : ℕ) → i < length l → j < length l → Same l i j → Same (link_if b u v l) i j
  link_if_same true u v l i j h k e = unite_same (get_or l u 0) (get_or l v 0) l i j h k e
  link_if_same false u v l i j h k e = e

  row_length : (i j : ℕ) (l : List ℕ) → length (row_marks near i j l) ≡ length l
  row_length i zero l = refl
  row_length i (suc j) l = row_length i j _ ∙ link_if_length (near i j) _ _ l

  row_same : (u v : ℕ) (l : List ℕ) (i j : ℕ) → i < length l → j < length l → Same l i j → Same (row_marks near u v l) i j
  row_same u zero l i j h k e = e
  row_same u (suc v) l i j h k e =
      let z = link_if_length (near u v) u v l in
      row_same u v (link_if (near u v) u v l) i j (omega arith) (omega arith) (link_if_same (near u v) u v l i j h k e)

  pub all_length : (i : ℕ) (l : List ℕ) → length (all_marks near i l) ≡ length l
  all_length zero l = refl
  all_length (suc i) l = all_length i (row_marks near i i l) ∙ row_length i i l

  all_same : (u : ℕ) (l : List ℕ) (i j : ℕ) → i < length l → j < length l → Same l i j → Same (all_marks near u l) i j
  all_same zero l i j h k e = e
  all_same (suc u) l i j h k e =
      let z = row_length u u l in
      all_same u (row_marks near u u l) i j (omega arith) (omega arith) (row_same u u l i j h k e)

  row_links : (i v : ℕ) (l : List ℕ) (j : ℕ) → i < length l → v ≤ i → j < v → T (near i j) → Same (row_marks near i v l) i j
  row_links i zero l j h b k t = absurd (omega arith)
  row_links i (suc v) l j h b k t =
      let z = link_if_length (near i v) i v l in
      dite (dec_le v j)
      (λ p. let e : j ≡ v = omega arith in row_same i v (link_if (near i v) i v l) i j (omega arith) (omega arith) (go v e (near i v) (subst (λ (x : ℕ). T (near i x)) e t)))
      (λ p. row_links i v (link_if (near i v) i v l) j (omega arith) (omega arith) (omega arith) t)
    where
      go : (v : ℕ) → j ≡ v → (b : Bool) → T b → Same (link_if b i v l) i j
      go v e true t = subst (λ (x : ℕ). Same (link i v l) i x) (sym e) (linked i v l h (omega arith))
      go v e false t = absurd t

  all_links : (u : ℕ) (l : List ℕ) (i j : ℕ) → u ≤ length l → i < u → j < i → T (near i j) → Same (all_marks near u l) i j
  all_links zero l i j b h k t = absurd (omega arith)
  all_links (suc u) l i j b h k t =
      let z = row_length u u l in
      dite (dec_le u i)
      (λ p. let e : i ≡ u = omega arith in
      all_same u (row_marks near u u l) i j (omega arith) (omega arith)
      (subst (λ (x : ℕ). Same (row_marks near u u l) x j) (sym e) (row_links u u l j (omega arith) (omega arith) (omega arith) (subst (λ (x : ℕ). T (near x j)) e t))))
      (λ p. all_links u (row_marks near u u l) i j (omega arith) (omega arith) k t)

-- ---- each place its own mark
pub count_length : (k n : ℕ) → length (count_from k n) ≡ n
count_length k zero = refl
count_length k (suc n) = ap suc (count_length (suc k) n)

count_get : (k n i : ℕ) → i < n → get_or (count_from k n) i 0 ≡ k + i
count_get k zero i h = absurd (omega arith)
count_get k (suc n) zero h = omega arith
count_get k (suc n) (suc i) h = let z = count_get (suc k) n i (omega arith) in omega arith

pub marks_length : (n : ℕ) (near : ℕ → ℕ → Bool) → length (marks_of n near) ≡ n
marks_length n near = all_length near n _ ∙ count_length _ n

module _ (n : ℕ) (near : ℕ → ℕ → Bool) (symm : (i j : ℕ) → T (near i j) → T (near j i)) where
  -- counted from 0, each place has its own mark
  start_good : (first : ℕ) → first ≡ 0 → Good n near symm (count_from first n)
  start_good first z =
      record {
        count = count_length first n;
        below = λ i h. let e = own i h in omega arith;
        root = λ i h. ap (λ (m : ℕ). get_or (count_from first n) m 0) (own i h);
        joined = λ i j h k e. subst (λ (m : ℕ). Chain n near i m) (sym (own i h) ∙ e ∙ own j k) here;
      }
    where
      own : (i : ℕ) → i < n → get_or (count_from first n) i 0 ≡ i
      own i h = let e = count_get first n i h in omega arith

  good : Good n near symm (marks_of n near)
  good = all_good n near symm n _ (omega arith) (start_good _ refl)

  nears : (i j : ℕ) → i < n → j < n → T (near i j) → Same (marks_of n near) i j
  nears i j h k t =
      let z = count_length 0 n in
      dite (dec_le i j)
      (λ p. dite (dec_le j i)
      (λ q. let e : i ≡ j = omega arith in ap (λ (x : ℕ). get_or (marks_of n near) x 0) e)
      (λ q. sym (all_links near n (count_from 0 n) j i (omega arith) k (omega arith) (symm i j t))))
      (λ p. all_links near n (count_from 0 n) i j (omega arith) h (omega arith) t)

  chained : {i k : ℕ} → i < n → Chain n near i k → Same (marks_of n near) i k
  chained h here = refl
  chained {i} h (next j b t c) = nears i j h b t ∙ chained b c

  -- marks are equal exactly where a chain of neighbours leads, and each is its group's lowest place
  pub marked : Marked n near (marks_of n near)
  marked =
      record {
        count = marks_length n near;
        equal = λ i j h k. (λ e. good.joined i j h k e, λ c. chained h c);
        member = λ i h. let z = good.below i h in (omega arith, good.joined i (get_or (marks_of n near) i 0) h (omega arith) (sym (good.root i h)));
        lowest = λ i j h k c. let e = chained h c in let z = good.below j k in omega arith;
      }

-- ---- nothing else is so: whoever has these properties has these marks
pub marked_only : (n : ℕ) (near : ℕ → ℕ → Bool) (l l' : List ℕ) → Marked n near l → Marked n near l' → l ≡ l'
marked_only n near l l' m m' =
    let a = m.count in
    let b = m'.count in
    ext_get_or 0 l l' (a ∙ sym b)
    (λ i h.
    let k : i < n = omega arith in
    let x = m.member i k in
    let y = m'.member i k in
    let u = m.lowest i (get_or l' i 0) k y.0 y.1 in
    let v = m'.lowest i (get_or l i 0) k x.0 x.1 in
    omega arith)

-- ---- only the places under n are looked at
module _ (n : ℕ) (near near' : ℕ → ℕ → Bool) (agree : (i j : ℕ) → i < n → j < n → near i j ≡ near' i j) where
  row_agree : (i j : ℕ) (l : List ℕ) → i < n → j ≤ i → row_marks near i j l ≡ row_marks near' i j l
  row_agree i zero l h k = refl
  row_agree i (suc j) l h k =
      row_agree i j (link_if (near i j) i j l) h (omega arith) ∙ ap (λ (b : Bool). row_marks near' i j (link_if b i j l)) (agree i j h (omega arith))

  all_agree : (i : ℕ) (l : List ℕ) → i ≤ n → all_marks near i l ≡ all_marks near' i l
  all_agree zero l h = refl
  all_agree (suc i) l h = all_agree i (row_marks near i i l) (omega arith) ∙ ap (all_marks near' i) (row_agree i i l (omega arith) (omega arith))

  pub marks_agree : marks_of n near ≡ marks_of n near'
  marks_agree = all_agree n (count_from 0 n) (omega arith)

-- ---- marks written to the front of a list: read back, and the list unchanged past them
module _ (n : ℕ) (near : ℕ → ℕ → Bool) (l : List ℕ) where
  pub marks_read : take n (patch l 0 (marks_of n near)) ≡ marks_of n near
  marks_read = take_at (marks_of n near) (drop (0 + length (marks_of n near)) l) n (marks_length n near)

  pub marks_rest : drop n (patch l 0 (marks_of n near)) ≡ drop n l
  marks_rest =
      drop_at (marks_of n near) (drop (0 + length (marks_of n near)) l) n (marks_length n near)
      ∙ ap (λ (z : ℕ). drop z l) (let e = marks_length n near in let z : 0 + length (marks_of n near) ≡ n = omega arith in z)
