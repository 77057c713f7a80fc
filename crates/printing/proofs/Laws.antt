-- Texts written behind each other, their lengths, and a loop's turns. Assumes nothing.
use mathlib.Core.Path.{◌≡◌, refl, sym, ap, ◌∙◌}
use mathlib.Core.List.{List, [], ◌∷◌, ◌++◌, append_assoc, append-nil}
use Prim.Native.Nat.{ℕ, ◌+◌, ◌-◌, ◌*◌, ◌^◌, ◌≤◌, ◌<◌}
use native.Mathlib.Numerals.{add-one}
use native.Mathlib.Omega.{arith}
use lib.Dec.{lit≤}
use lib.ListN.{length, get_or, take, drop, length-append, take-append-drop}
use lib.Seq.{take-length, length-take-le, take-suc}
use lib.Ieee.{Float, nan}
use Rattle.lists.specs.Parts.{patch, block}
use Rattle.lists.proofs.Parts.{patch_twice, part_is}
use Rattle.texts.specs.Texts.{Wrote, decimal_of, float_text}
use Rattle.texts.proofs.Laws.{decimal_fits, float_length}
use Rattle.regions.specs.declared.Word.{Word}
use Rattle.regions.specs.declared.Word.TheVariants.{Complete, Budget, Unseparated}
use Rattle.states.specs.declared.Counts.{Counts}
use Rattle.printing.specs.Printed.{counts_length, region_length, pairs_name, visits_name, splits_name, settled_name, box_name, plane_name, line_name, given_name, left_name, regions_name, refused_text, space, newline, word_text, counted, steps_text, settled_text, listed_text, count_line, refusal_line, float_texts, region_line, region_lines, region_text}

-- the same text, said otherwise
pub moved : (l : List ℕ) (at : ℕ) {xs ys : List ℕ} {l' : List ℕ} {r : ℕ} → xs ≡ ys → Wrote l at xs l' r → Wrote l at ys l' r
moved l at e (a, b) = (a ∙ ap (λ (t : List ℕ). at + length t) e, b ∙ ap (patch l at) e)

-- a text written behind another
pub joined : (l : List ℕ) (at : ℕ) (xs ys : List ℕ) {l1 l2 : List ℕ} {r1 r2 : ℕ} → (r1 ≡ at + length xs) × (l1 ≡ patch l at xs)
    → (r2 ≡ r1 + length ys) × (l2 ≡ patch l1 r1 ys) → r2 ≤ length l
    → (r2 ≡ at + length (xs ++ ys)) × (l2 ≡ patch l at (xs ++ ys))
joined l at xs ys {l1} {l2} {r1} {r2} (a, b) (e, f) h =
    let n = length-append xs ys in
    (omega arith, f ∙ ap (λ (z : List ℕ). patch z r1 ys) b ∙ patch_twice l at r1 xs ys a (omega arith))

-- a name and a number
pub counted_is : (l : List ℕ) (at : ℕ) (name : List ℕ) (n : ℕ) {l1 l2 : List ℕ} {r1 r2 : ℕ} → at + length name + 20 ≤ length l → n < 2 ^ 64
    → (r1 ≡ at + length name) × (l1 ≡ patch l at name) → (r2 ≡ r1 + length (decimal_of n)) × (l2 ≡ patch l1 r1 (decimal_of n))
    → ((r2 ≡ at + length (counted name n)) × (l2 ≡ patch l at (counted name n))) × (r2 ≤ at + length name + 20)
unfolding counted
counted_is l at name n h b e f =
    let d = decimal_fits n b in
    (joined l at name (decimal_of n) e f (omega (arith, e.0, f.0)), omega (arith, e.0, f.0))

-- ---- the first word
word-length : (w : Word) → length (word_text w) ≤ 11
word-length Complete = lit≤ tt
word-length Budget = lit≤ tt
word-length Unseparated = lit≤ tt

pub word_is : (out : List ℕ) (w v : Word) {out' : List ℕ} {r : ℕ} → w ≡ v → Wrote out 0 (word_text v) out' r → Wrote out 0 (word_text w) out' r × (r ≤ 11)
word_is out w v e h =
    let k = word-length v in
    let a = h.0 in
    (moved out 0 (ap word_text (sym e)) h, omega arith)

-- ---- the counts
-- a count, which has at most twenty digits
abbrev Counted : List ℕ → ℕ → List ℕ → ℕ → List ℕ → ℕ → Type 0
Counted out at name n out' r = Wrote out at (counted name n) out' r × (r ≤ at + length name + 20)

three : (l : List ℕ) (at : ℕ) (xs ys zs : List ℕ) {l1 l2 l3 : List ℕ} {r1 r2 r3 : ℕ} → Wrote l at xs l1 r1 → Wrote l1 r1 ys l2 r2 → Wrote l2 r2 zs l3 r3 → r3 ≤ length l
    → Wrote l at (xs ++ ys ++ zs) l3 r3
three l at xs ys zs {l1} {l2} {l3} {r1} {r2} {r3} a b c h = joined l at (xs ++ ys) zs (joined l at xs ys a b (omega (arith, c.0))) c h

pub steps_are : (out : List ℕ) (at : ℕ) (c : Counts) {o1 o2 o3 : List ℕ} {r1 r2 r3 : ℕ} → at + 83 ≤ length out
    → Counted out at pairs_name c.pairs o1 r1 → Counted o1 r1 visits_name c.visits o2 r2 → Counted o2 r2 splits_name c.splits o3 r3
    → Wrote out at (steps_text c) o3 r3 × (r3 ≤ at + 83)
unfolding steps_text
steps_are out at c h a b d = (
  three out at (counted pairs_name c.pairs) (counted visits_name c.visits) (counted splits_name c.splits) a.0 b.0 d.0
      (omega (arith, a.1, b.1, d.1)),
  omega (arith, a.1, b.1, d.1),
)

pub settled_are : (out : List ℕ) (at : ℕ) (c : Counts) {o1 o2 o3 o4 : List ℕ} {r1 r2 r3 r4 : ℕ} → at + 107 ≤ length out
    → Counted out at settled_name c.settled o1 r1 → Counted o1 r1 box_name c.boxes o2 r2 → Counted o2 r2 plane_name c.planes o3 r3
    → Counted o3 r3 line_name c.lines o4 r4 → Wrote out at (settled_text c) o4 r4 × (r4 ≤ at + 107)
unfolding settled_text
settled_are out at c h (a, a') (b, b') (d, d') (e, e') =
    let settled = counted settled_name c.settled in
    let boxes = counted box_name c.boxes in
    let planes = counted plane_name c.planes in
    (joined out at (settled ++ boxes ++ planes) (counted line_name c.lines) (three out at settled boxes planes a b d (omega arith)) e (omega arith), omega arith)

pub listed_are : (out : List ℕ) (at : ℕ) (c : Counts) {o1 o2 : List ℕ} {r1 r2 : ℕ} → at + 53 ≤ length out
    → Counted out at given_name c.given o1 r1 → Counted o1 r1 left_name c.left o2 r2 → Wrote out at (listed_text c) o2 r2 × (r2 ≤ at + 53)
unfolding listed_text
listed_are out at c h (a, a') (b, b') = (joined out at (counted given_name c.given) (counted left_name c.left) a b (omega arith), omega arith)

pub counts_are : (out : List ℕ) (w : Word) (c : Counts) (n : ℕ) {o1 o2 o3 o4 o5 o6 : List ℕ} {r1 r2 r3 r4 r5 r6 : ℕ} → counts_length ≤ length out
    → Wrote out 0 (word_text w) o1 r1 × (r1 ≤ 11) → Wrote o1 r1 (steps_text c) o2 r2 × (r2 ≤ r1 + 83) → Wrote o2 r2 (settled_text c) o3 r3 × (r3 ≤ r2 + 107)
    → Wrote o3 r3 (listed_text c) o4 r4 × (r4 ≤ r3 + 53) → Counted o4 r4 regions_name n o5 r5 → Wrote o5 r5 newline o6 r6
    → Wrote out 0 (count_line w c n) o6 r6 × (r6 ≤ counts_length)
unfolding count_line
counts_are out w c n h (a, a') (b, b') (d, d') (e, e') (f, f') g =
    let k = g.0 in
    let nodes = word_text w ++ steps_text c ++ settled_text c in (
      joined out 0 (nodes ++ listed_text c ++ counted regions_name n) newline
          (three out 0 nodes (listed_text c) (counted regions_name n) (three out 0 (word_text w) (steps_text c) (settled_text c) a b d (omega arith)) e f (omega arith))
          g (omega arith),
      omega arith,
    )

pub refusal_is : (out : List ℕ) (number line : ℕ) {o1 o2 o3 : List ℕ} {r1 r2 r3 : ℕ} → 50 ≤ length out
    → Counted out 0 refused_text number o1 r1 → Counted o1 r1 space line o2 r2 → Wrote o2 r2 newline o3 r3 → Wrote out 0 (refusal_line number line) o3 r3
unfolding refusal_line
refusal_is out number line h (a, a') (b, b') c = let k = c.0 in three out 0 (counted refused_text number) (counted space line) newline a b c (omega arith)

-- ---- floats
texts_snoc : (xs : List Float) (x : Float) → float_texts (xs ++ (x ∷ [])) ≡ float_texts xs ++ float_text x
unfolding float_texts
texts_snoc [] x = append-nil (float_text x)
texts_snoc (y ∷ xs) x = ap (λ (l : List ℕ). float_text y ++ l) (texts_snoc xs x) ∙ sym (append_assoc (float_text y) (float_texts xs) (float_text x))

texts_length : (xs : List Float) → length (float_texts xs) ≡ 17 * length xs
unfolding float_texts
texts_length [] = refl
texts_length (x ∷ xs) = let a = float_length x in let b = texts_length xs in length-append (float_text x) (float_texts xs) ∙ omega arith

pub texts_start : (out : List ℕ) (at : ℕ) (xs : List Float) → out ≡ patch out at (float_texts (take 0 xs))
unfolding float_texts
texts_start out at xs = let z : at + 0 ≡ at = omega arith in sym (rw z (take-append-drop at out))

pub texts_turn : (out₀ : List ℕ) (at : ℕ) (xs : List Float) (i : ℕ) {out out' : List ℕ} {here here' : ℕ} → i < length xs → at + 17 * length xs ≤ length out₀
    → here ≡ at + 17 * i → out ≡ patch out₀ at (float_texts (take i xs))
    → (here' ≡ here + length (float_text (get_or xs i nan))) × (out' ≡ patch out here (float_text (get_or xs i nan)))
    → (here' ≡ at + 17 * (i + 1)) × (out' ≡ patch out₀ at (float_texts (take (i + 1) xs)))
texts_turn out₀ at xs i {out} {out'} {here} {here'} h room e f g =
    let k = float_length (get_or xs i nan) in
    let n = texts_length (take i xs) in
    let m : length (take i xs) ≡ i = length-take-le i xs (omega arith) in
    let t : take (i + 1) xs ≡ take i xs ++ (get_or xs i nan ∷ []) = rw add-one (take-suc xs i nan h) in
    let j = joined out₀ at (float_texts (take i xs)) (float_text (get_or xs i nan)) {l1 = out} {l2 = out'} {r1 = here} {r2 = here'} (omega arith, f) g
    (omega (arith, g.0)) in
    (omega (arith, g.0), j.1 ∙ ap (patch out₀ at) (sym (texts_snoc (take i xs) (get_or xs i nan)) ∙ ap float_texts (sym t)))

pub texts_done : (out₀ : List ℕ) (at : ℕ) (xs : List Float) (i : ℕ) {out : List ℕ} {here : ℕ} → length xs ≤ i → i ≤ length xs
    → here ≡ at + 17 * i → out ≡ patch out₀ at (float_texts (take i xs))
    → ((here ≡ at + length (float_texts xs)) × (out ≡ patch out₀ at (float_texts xs))) × (here ≡ at + 17 * length xs)
texts_done out₀ at xs i {out} {here} h h' e f =
    let n = texts_length xs in
    let z : i ≡ length xs = omega arith in
    ((omega arith, f ∙ ap (λ (l : List Float). patch out₀ at (float_texts l)) (ap (λ (k : ℕ). take k xs) z ∙ take-length xs)), omega arith)

-- ---- regions
pub region_is : (out : List ℕ) (at : ℕ) (region : List Float) (mark : ℕ) {o1 o2 o3 o4 : List ℕ} {r1 r2 r3 r4 : ℕ} → length region ≡ 10 → at + region_length ≤ length out
    → Wrote out at region_text o1 r1 → Wrote o1 r1 (float_texts region) o2 r2 × (r2 ≡ r1 + 17 * length region) → Counted o2 r2 space mark o3 r3 → Wrote o3 r3 newline o4 r4
    → Wrote out at (region_line region mark) o4 r4 × (r4 ≤ at + region_length)
unfolding region_line
region_is out at region mark e h a (b, b') (d, d') f =
    let i = a.0 in
    let k = f.0 in (
      three out at (region_text ++ float_texts region) (counted space mark) newline (joined out at region_text (float_texts region) a b (omega arith)) d f (omega arith),
      omega arith,
    )

pub regions_start : (out : List ℕ) (at : ℕ) (list : List Float) (marks : List ℕ) → Wrote out at (region_lines 0 list marks) out at
unfolding region_lines
regions_start out at list marks = let z : at + 0 ≡ at = omega arith in (sym z, sym (rw z (take-append-drop at out)))

lines_next : (n : ℕ) (list : List Float) (marks : List ℕ) → region_lines (n + 1) list marks ≡ region_lines n list marks ++ region_line (block 10 n list) (get_or marks n 0)
unfolding region_lines
lines_next n list marks = rw add-one refl

pub regions_turn : (out₀ : List ℕ) (at : ℕ) (list : List Float) (marks : List ℕ) (k n : ℕ) {out out' : List ℕ} {here here' : ℕ} → k < n → at + region_length * n ≤ length out₀
    → Wrote out₀ at (region_lines k list marks) out here → here ≤ at + region_length * k
    → Wrote out here (region_line (take (k * 10 + 10 - k * 10) (drop (k * 10) list)) (get_or marks k 0)) out' here' × (here' ≤ here + region_length)
    → Wrote out₀ at (region_lines (k + 1) list marks) out' here' × (here' ≤ at + region_length * (k + 1))
regions_turn out₀ at list marks k n {out} {out'} {here} {here'} h room e f (g, g') =
    let line : List Float → List ℕ = λ (l : List Float). region_line l (get_or marks k 0) in
    let w = moved out here (ap line (part_is (k * 10) 10 list)) g in
    (moved out₀ at (sym (lines_next k list marks)) (joined out₀ at (region_lines k list marks) (line (block 10 k list)) e w (omega arith)), omega arith)
