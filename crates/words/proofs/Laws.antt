-- The words of a state: what the tests say, and words written. Assumes nothing.
use mathlib.Core.Path.{◌≡◌, refl, ◌∙◌}
use mathlib.Core.Bool.{Bool, true, false, ◌&&◌}
use mathlib.Core.List.{List, [], ◌∷◌}
use Prim.Native.Nat.{ℕ, ◌≤◌}
use native.Mathlib.Omega.{arith}
use borrow.Author.Tests.{leb-true, le-leb}
use mir.Syntax.{w16, w32, w64}
use mir.Val.{Fits}
use lib.Dec.{T, leb, eqb}
use lib.ListN.{length, get_or, set}
use lib.Ieee.{Float, binary64, fits, of_bits, to_bits}
use lib.Ieee.Bits.{of_bits-to_bits}
use Rattle.lists.specs.Parts.{patch}
use Rattle.lists.specs.Tests.{every}
use Rattle.states.proofs.Tests.{and_first, and_second}
use Rattle.states.specs.declared.Tally.{Tally}
use Rattle.states.specs.declared.State.{State}
use Rattle.terms.specs.declared.Terms.{Terms}
use Rattle.words.specs.Words.{flag_of, last_words, words_of, moved_words, tally_in, word_terms, state_of, counts_fit, is_width, tags_fit, turns_fit, is_state, Within}

-- ---- the tests of the words, as facts on numbers
and_both : (a b : Bool) → a ≡ true → b ≡ true → a && b ≡ true
and_both a b f g = rw (f, g) refl

pub within : (ws : List ℕ) → is_state ws ≡ true → Within ws
within ws t =
    let t' = and_second (leb 23 (length ws)) _ t in
    let c0 = and_first (counts_fit ws) _ t' in
    let t'' = and_second (counts_fit ws) _ t' in
    let g0 = and_first (tags_fit ws) _ t'' in
    let w1 = and_second (tags_fit ws) _ t'' in
    let w2 = and_second (is_width (get_or ws 8 0)) _ w1 in
    let c1 = and_second (leb (get_or ws 0 0) 65535) _ c0 in
    let c2 = and_second (leb (get_or ws 1 0) 65535) _ c1 in
    let c3 = and_second (leb (get_or ws 2 0) 4294967295) _ c2 in
    let c4 = and_second (leb (get_or ws 4 0) 4294967295) _ c3 in
    let c5 = and_second (leb (get_or ws 5 0) 4294967295) _ c4 in
    let c6 = and_second (leb (get_or ws 6 0) 4294967295) _ c5 in
    let g1 = and_second (leb (get_or ws 12 0) 4294967295) _ g0 in
    record {
      long = leb-true _ _ (and_first (leb 23 (length ws)) _ t);
      pairs = leb-true _ _ (and_first (leb (get_or ws 0 0) 65535) _ c0);
      quota = leb-true _ _ (and_first (leb (get_or ws 1 0) 65535) _ c1);
      waiting = leb-true _ _ (and_first (leb (get_or ws 2 0) 4294967295) _ c2);
      splits = leb-true _ _ (and_first (leb (get_or ws 4 0) 4294967295) _ c3);
      unspent = leb-true _ _ (and_first (leb (get_or ws 5 0) 4294967295) _ c4);
      settled = leb-true _ _ (and_first (leb (get_or ws 6 0) 4294967295) _ c5);
      given = leb-true _ _ (and_first (leb (get_or ws 7 0) 4294967295) _ c6);
      stopped = leb-true _ _ (and_second (leb (get_or ws 7 0) 4294967295) _ c6);
      boxes = leb-true _ _ (and_first (leb (get_or ws 12 0) 4294967295) _ g0);
      planes = leb-true _ _ (and_first (leb (get_or ws 13 0) 4294967295) _ g1);
      lines = leb-true _ _ (and_second (leb (get_or ws 13 0) 4294967295) _ g1);
      width1 = leb-true _ _ (and_second (leb 2 (get_or ws 8 0)) _ (and_first (is_width (get_or ws 8 0)) _ w1));
      width2 = leb-true _ _ (and_second (leb 2 (get_or ws 9 0)) _ (and_first (is_width (get_or ws 9 0)) _ w2));
    }

flag_fits : (b : Bool) → leb (flag_of b) 1 ≡ true
flag_fits true = refl
flag_fits false = refl

-- what the check knows of a tally's fields: each number is within its bits
abbrev pub Held : Tally → Type 0
Held t =
    Fits w16 t.pairs × (Fits w16 t.quota × (Fits w32 t.waiting × (Fits w64 t.visits × (Fits w32 t.splits × (Fits w32 t.unspent
    × (Fits w32 t.settled × (Fits w32 t.given × (Unit {0} × (Fits w32 t.boxes × (Fits w32 t.planes × (Fits w32 t.lines × Unit {0})))))))))))

in16 : {n : ℕ} → Fits w16 n → leb n 65535 ≡ true
in16 {n} h = le-leb n 65535 (omega (arith, h))

in32 : {n : ℕ} → Fits w32 n → leb n 4294967295 ≡ true
in32 {n} h = le-leb n 4294967295 (omega (arith, h))

-- a state's numbers fit the words
pub counts_fit_lem : (x : State) → Held x.tally → counts_fit (words_of x) ≡ true
counts_fit_lem x k =
    simp (
      in16 k.0,
      in16 k.1.0,
      in32 k.1.1.0,
      in32 k.1.1.1.1.0,
      in32 k.1.1.1.1.1.0,
      in32 k.1.1.1.1.1.1.0,
      in32 k.1.1.1.1.1.1.1.0,
      flag_fits x.tally.stopped,
    )

pub tags_fit_lem : (x : State) → Held x.tally → tags_fit (words_of x) ≡ true
tags_fit_lem x k =
    simp (
      in32 k.1.1.1.1.1.1.1.1.1.0,
      in32 k.1.1.1.1.1.1.1.1.1.1.0,
      in32 k.1.1.1.1.1.1.1.1.1.1.1.0,
    )

-- all words of a state of such widths are a state's; words behind the last change nothing
pub written_state : (ws : List ℕ) (x : State) → counts_fit (words_of x) ≡ true → tags_fit (words_of x) ≡ true → is_width x.width1 ≡ true
    → is_width x.width2 ≡ true → is_state (patch ws 0 (words_of x)) ≡ true
unfolding every
written_state ws x e t f g =
    and_both (leb 23 (length (patch ws 0 (words_of x)))) _ (le-leb 23 (length (patch ws 0 (words_of x))) (omega arith))
    (and_both (counts_fit (words_of x)) _ e
    (and_both (tags_fit (words_of x)) _ t
    (and_both (is_width x.width1) _ f
    (and_both (is_width x.width2) _ g
    (and_both (turns_fit (words_of x)) true (and_both (leb (flag_of x.terms.turn1) 1) _ (flag_fits x.terms.turn1) (flag_fits x.terms.turn2)) refl)))))

-- ---- words written
pub words_are : (x : State) {a b c d : ℕ} {l : List ℕ} → a ≡ x.width1 → b ≡ x.width2 → c ≡ flag_of x.tally.stopped → d ≡ to_bits binary64 x.gap
    → l ≡ last_words x
    → x.tally.pairs ∷ x.tally.quota ∷ x.tally.waiting ∷ x.tally.visits ∷ x.tally.splits ∷ x.tally.unspent ∷ x.tally.settled ∷ x.tally.given
    ∷ a ∷ b ∷ c ∷ d ∷ l ≡ words_of x
words_are x e f g h k = λ i. (
    let t = x.tally in
    t.pairs ∷ t.quota ∷ t.waiting ∷ t.visits ∷ t.splits ∷ t.unspent ∷ t.settled ∷ t.given ∷ e i ∷ f i ∷ g i ∷ h i ∷ k i)

pub last_words_lem : (x : State) {a b c d e f : ℕ} → a ≡ flag_of x.terms.turn1 → b ≡ flag_of x.terms.turn2 → c ≡ to_bits binary64 x.terms.lo1
    → d ≡ to_bits binary64 x.terms.hi1 → e ≡ to_bits binary64 x.terms.lo2 → f ≡ to_bits binary64 x.terms.hi2
    → x.tally.boxes ∷ x.tally.planes ∷ x.tally.lines ∷ 0 ∷ 0 ∷ a ∷ b ∷ c ∷ d ∷ e ∷ f ∷ [] ≡ last_words x
last_words_lem x g h k l m n = λ i. x.tally.boxes ∷ x.tally.planes ∷ x.tally.lines ∷ 0 ∷ 0 ∷ g i ∷ h i ∷ k i ∷ l i ∷ m i ∷ n i ∷ []

-- what holds of five words and what follows them holds of every list that is long enough; and of fifteen
five : (P : List ℕ → Type 0) → ((a b c d e : ℕ) (l : List ℕ) → P (a ∷ b ∷ c ∷ d ∷ e ∷ l)) → (ws : List ℕ) → 5 ≤ length ws → P ws
five P p (a ∷ b ∷ c ∷ d ∷ e ∷ l) n = p a b c d e l
five P p (a ∷ b ∷ c ∷ d ∷ []) n = absurd (omega arith)
five P p (a ∷ b ∷ c ∷ []) n = absurd (omega arith)
five P p (a ∷ b ∷ []) n = absurd (omega arith)
five P p (a ∷ []) n = absurd (omega arith)
five P p [] n = absurd (omega arith)

fifteen : (P : List ℕ → Type 0)
    → ((a b c d e f g h i j k m n o p : ℕ) (l : List ℕ) → P (a ∷ b ∷ c ∷ d ∷ e ∷ f ∷ g ∷ h ∷ i ∷ j ∷ k ∷ m ∷ n ∷ o ∷ p ∷ l))
    → (ws : List ℕ) → 15 ≤ length ws → P ws
fifteen P q ws long =
    five (λ (l : List ℕ). 15 ≤ length l → P l)
    (λ a b c d e l r. five (λ (l : List ℕ). 10 ≤ length l → P (a ∷ b ∷ c ∷ d ∷ e ∷ l))
    (λ f g h i j l r. five (λ (l : List ℕ). P (a ∷ b ∷ c ∷ d ∷ e ∷ f ∷ g ∷ h ∷ i ∷ j ∷ l)) (q a b c d e f g h i j) l (omega arith)) l (omega arith) (omega arith))
    ws (omega arith) long

-- three rows of a state's words in their places
pub rows_are : (ws l : List ℕ) (x : State) {a b : List ℕ} → l ≡ words_of x
    → a ≡ patch ws 2 (get_or l 2 0 ∷ get_or l 3 0 ∷ get_or l 4 0 ∷ get_or l 5 0 ∷ get_or l 6 0 ∷ get_or l 7 0 ∷ [])
    → b ≡ patch (set a 10 (get_or l 10 0)) 12 (get_or l 12 0 ∷ get_or l 13 0 ∷ get_or l 14 0 ∷ []) → b ≡ moved_words ws x
rows_are ws l x e f g = g ∙ rw (f, e) refl

-- a state's words stay a state's: those that move have a state's numbers
pub moved_state_lem : (ws : List ℕ) (x : State) → counts_fit (words_of x) ≡ true → tags_fit (words_of x) ≡ true → is_state ws ≡ true → is_state (moved_words ws x) ≡ true
moved_state_lem ws x e f t = fifteen (λ (l : List ℕ). is_state l ≡ true → is_state (moved_words l x) ≡ true) go ws (omega (arith, (within ws t).long)) t
  where
    go : (p q c d e f g h i j k m n o r : ℕ) (l : List ℕ) → is_state (p ∷ q ∷ c ∷ d ∷ e ∷ f ∷ g ∷ h ∷ i ∷ j ∷ k ∷ m ∷ n ∷ o ∷ r ∷ l) ≡ true
        → is_state (moved_words (p ∷ q ∷ c ∷ d ∷ e ∷ f ∷ g ∷ h ∷ i ∷ j ∷ k ∷ m ∷ n ∷ o ∷ r ∷ l) x) ≡ true
    go p q c d e' f' g h i j k m n o r l t =
        let ws = p ∷ q ∷ c ∷ d ∷ e' ∷ f' ∷ g ∷ h ∷ i ∷ j ∷ k ∷ m ∷ n ∷ o ∷ r ∷ l in
        let fit = and_second (leb 23 (length ws)) _ t in
        let counts = and_first (counts_fit ws) _ fit in
        let moved = and_second (leb x.tally.quota 65535) _ (and_second (leb x.tally.pairs 65535) _ e) in
        and_both (leb 23 (length ws)) _ (and_first (leb 23 (length ws)) _ t)
        (and_both (counts_fit (moved_words ws x)) _
        (and_both (leb p 65535) _ (and_first (leb p 65535) _ counts)
        (and_both (leb q 65535) _ (and_first (leb q 65535) _ (and_second (leb p 65535) _ counts)) moved))
        (and_both (tags_fit (words_of x)) _ f (and_second (tags_fit ws) _ (and_second (counts_fit ws) _ fit))))

-- ---- words and state are each other's
flag_back : (b : Bool) → eqb (flag_of b) 1 ≡ b
flag_back true = refl
flag_back false = refl

-- the seams whose ends were read from words 19 to 22
pub terms_are : (ws : List ℕ) {a b c d : Float} → a ≡ of_bits binary64 (get_or ws 19 0) → b ≡ of_bits binary64 (get_or ws 20 0) → c ≡ of_bits binary64 (get_or ws 21 0)
    → d ≡ of_bits binary64 (get_or ws 22 0)
    → ◌≡◌ {A = Terms} (record { turn1 = eqb (get_or ws 17 0) 1; turn2 = eqb (get_or ws 18 0) 1; lo1 = a; hi1 = b; lo2 = c; hi2 = d }) (word_terms ws)
terms_are ws e f g h = λ i. record { turn1 = eqb (get_or ws 17 0) 1; turn2 = eqb (get_or ws 18 0) 1; lo1 = e i; hi1 = f i; lo2 = g i; hi2 = h i }

-- a state of numbers, gap and terms read from words
pub state_is : (ws : List ℕ) {a : Tally} {g : Float} {t : Terms} → a ≡ tally_in ws → g ≡ of_bits binary64 (get_or ws 11 0) → t ≡ word_terms ws
    → ◌≡◌ {A = State} (record { tally = a; width1 = get_or ws 8 0; width2 = get_or ws 9 0; gap = g; terms = t }) (state_of ws)
state_is ws e f g = λ i. record { tally = e i; width1 = get_or ws 8 0; width2 = get_or ws 9 0; gap = f i; terms = g i }

-- a tally with such pairs, quota and stopped
abbrev tally_with : Tally → ℕ → ℕ → Bool → Tally
tally_with t pairs quota stopped = record {
  pairs = pairs;
  quota = quota;
  waiting = t.waiting;
  visits = t.visits;
  splits = t.splits;
  unspent = t.unspent;
  settled = t.settled;
  given = t.given;
  stopped = stopped;
  boxes = t.boxes;
  planes = t.planes;
  lines = t.lines;
}

-- the words of an open state, whose gap and asked ends are doubles, are read as that state
pub reads_back : (ws : List ℕ) (x : State) → T (fits binary64 x.gap) → T (fits binary64 x.terms.lo1) → T (fits binary64 x.terms.hi1)
    → T (fits binary64 x.terms.lo2) → T (fits binary64 x.terms.hi2) → state_of (patch ws 0 (words_of x)) ≡ x
reads_back ws x f a b c d = λ i. record {
  tally = tally_with x.tally x.tally.pairs x.tally.quota (flag_back x.tally.stopped i);
  width1 = x.width1;
  width2 = x.width2;
  gap = of_bits-to_bits binary64 x.gap f i;
  terms = record {
    turn1 = flag_back x.terms.turn1 i;
    turn2 = flag_back x.terms.turn2 i;
    lo1 = of_bits-to_bits binary64 x.terms.lo1 a i;
    hi1 = of_bits-to_bits binary64 x.terms.hi1 b i;
    lo2 = of_bits-to_bits binary64 x.terms.lo2 c i;
    hi2 = of_bits-to_bits binary64 x.terms.hi2 d i;
  };
}

-- moved words are read as the state that moved, where what stays is its own
pub reads_moved : (ws : List ℕ) (x : State) → 23 ≤ length ws → get_or ws 0 0 ≡ x.tally.pairs → get_or ws 1 0 ≡ x.tally.quota → get_or ws 8 0 ≡ x.width1
    → get_or ws 9 0 ≡ x.width2 → of_bits binary64 (get_or ws 11 0) ≡ x.gap → word_terms ws ≡ x.terms → state_of (moved_words ws x) ≡ x
reads_moved ws x n =
    fifteen (λ (l : List ℕ). get_or l 0 0 ≡ x.tally.pairs → get_or l 1 0 ≡ x.tally.quota → get_or l 8 0 ≡ x.width1 → get_or l 9 0 ≡ x.width2
    → of_bits binary64 (get_or l 11 0) ≡ x.gap → word_terms l ≡ x.terms → state_of (moved_words l x) ≡ x)
    (λ _ _ _ _ _ _ _ _ _ _ _ _ _ _ _ _ p q v w g t i. record {
      tally = tally_with x.tally (p i) (q i) (flag_back x.tally.stopped i);
      width1 = v i;
      width2 = w i;
      gap = g i;
      terms = t i;
    }) ws (omega arith)
