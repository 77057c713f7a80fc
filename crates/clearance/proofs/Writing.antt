-- The instalments that were written and those to come: joined they are the answer. Assumes nothing.
use Rattle.std.proofs.Common.{◌≡◌, ℕ, suc, ◌+◌, ◌-◌, ◌<◌, ◌≤◌, List, [], ◌++◌, Bool, true, false, not, cond, Option, nat_lt, refl, sym, ap, ◌∙◌, subst, append_assoc, append-nil, length, take, drop, zero-add, add-one, arith}
use Rattle.std.specs.Io.KnownBytes.{Appends}
use Rattle.std.proofs.KnownBytes.{Appends-nil, Appends-trans}
use lib.Seq.{take-append_seam}
use borrow.Author.Tests.{le-ltb}
use Rattle.sheet.specs.Answers.{longest}
use Rattle.charts.specs.declared.Instalment.{Instalment}
use Rattle.charts.specs.Answers.{answer_of, Part, last, part_of, joined, Left, Given}
use Rattle.charts.proofs.Joined.{instalments}

-- from old to new these bytes were written, and the instalments from k on are what is left
abbrev pub Written : Option (List ℕ) → Option (List ℕ) → List ℕ → ℕ → Bool → Type 0
Written old new s k good = (w : List ℕ) × Appends old new w × (answer_of s ≡ w ++ joined (66 - k) s k good)

pub none_yet : (a : Option (List ℕ)) (s : List ℕ) → Written a a s 0 true
none_yet a s = ([], Appends-nil a, sym (instalments s))

-- in a buffer that fits the longest `next` gives the instalment
given : (s : List ℕ) (k : ℕ) (good : Bool) (before after : List ℕ) (r : Instalment) → longest ≤ length before → Given s k good before after r → Left (part_of s k good) before after r
given s k good before after r h g =
    let no : nat_lt (length before) longest ≡ false = le-ltb _ _ h in
    subst (λ (b : Bool). Left (cond b (last [] good) (part_of s k good)) before after r) no g

front : (p : Part) (before after : List ℕ) (r : Instalment) → Left p before after r → take r.length after ≡ p.text
front p before after r l =
    let text = p.text in
    ap (λ n. take n after) (l.0.0 ∙ zero-add (length text)) ∙ ap (take (length text)) l.0.1 ∙ take-append_seam text (drop (0 + length text) before)

-- one more of them
onward : (m : ℕ) (s : List ℕ) (k : ℕ) (good : Bool) → joined (suc m) s k good ≡ (part_of s k good).text ++ cond (part_of s k good).more (joined m s (k + 1) (part_of s k good).good) []
onward m s k good = ap (λ j. (part_of s k good).text ++ cond (part_of s k good).more (joined m s j (part_of s k good).good) []) (sym (add-one k))

left : (a b : Option (List ℕ)) (s : List ℕ) (k : ℕ) (good : Bool) → k < 66 → Written a b s k good
    → (w : List ℕ) × Appends a b w × (answer_of s ≡ (w ++ (part_of s k good).text) ++ cond (part_of s k good).more (joined (66 - (k + 1)) s (k + 1) (part_of s k good).good) [])
left a b s k good h (w, x, e) =
    let q : 66 - k ≡ suc (66 - (k + 1)) = omega arith in
    (w, x, e ∙ ap (λ n. w ++ joined n s k good) q ∙ ap (λ t. w ++ t) (onward (66 - (k + 1)) s k good) ∙ sym (append_assoc w _ _))

is_false : (b : Bool) → not b ≡ true → b ≡ false
is_false true h = sym h
is_false false h = refl

is_true : (b : Bool) → not b ≡ false → b ≡ true
is_true true h = refl
is_true false h = sym h

-- the last of them was written
pub all_written : (a b c : Option (List ℕ)) (s : List ℕ) (k : ℕ) (good : Bool) (before after : List ℕ) (r : Instalment) (t : List ℕ) → longest ≤ length before → k < 66
    → Written a b s k good → Given s k good before after r → not r.more ≡ true → t ≡ take r.length after → Appends b c t → Appends a c (answer_of s)
all_written a b c s k good before after r t fits h w g none e put =
    let l = given s k good before after r fits g in
    let x = left a b s k good h w in
    let p = part_of s k good in
    let rest = joined (66 - (k + 1)) s (k + 1) p.good in
    let text = e ∙ front p before after r l in
    let none' = ap (λ (b : Bool). cond b rest []) (sym l.1 ∙ is_false r.more none) in
    let whole = ap (λ m. x.0 ++ m) text ∙ sym (append-nil (x.0 ++ p.text)) ∙ ap (λ m. (x.0 ++ p.text) ++ m) (sym none') ∙ sym x.2 in
    subst (Appends a c) whole (Appends-trans a b c x.0 t x.1 put)

-- one was written, and more follow
pub one_more : (a b c : Option (List ℕ)) (s : List ℕ) (k : ℕ) (good : Bool) (before after : List ℕ) (r : Instalment) (t : List ℕ) → longest ≤ length before → k < 66
    → Written a b s k good → Given s k good before after r → not r.more ≡ false → t ≡ take r.length after → Appends b c t → Written a c s (k + 1) r.good
one_more a b c s k good before after r t fits h w g some e put =
    let l = given s k good before after r fits g in
    let x = left a b s k good h w in
    let p = part_of s k good in
    let rest = joined (66 - (k + 1)) s (k + 1) p.good in
    let text = e ∙ front p before after r l in
    let some' = ap (λ (b : Bool). cond b rest []) (sym l.1 ∙ is_true r.more some) in
    let same = ap (λ y. joined (66 - (k + 1)) s (k + 1) y) (sym l.2) in
    (x.0 ++ t, Appends-trans a b c x.0 t x.1 put, x.2 ∙ ap (λ m. (x.0 ++ p.text) ++ m) (some' ∙ same) ∙ ap (λ m. (x.0 ++ m) ++ joined (66 - (k + 1)) s (k + 1) r.good) (sym text))

-- 66 of them are all
pub sixty_six : (a b : Option (List ℕ)) (s : List ℕ) (k : ℕ) (good : Bool) → 66 ≤ k → Written a b s k good → Appends a b (answer_of s)
sixty_six a b s k good h (w, x, e) =
    let z : 66 - k ≡ 0 = omega arith in
    subst (Appends a b) (sym (e ∙ ap (λ n. w ++ joined n s k good) z ∙ append-nil w)) x
