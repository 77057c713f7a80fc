-- Stretch marks (document 02, M-101), over any neighbour test: groups of list places that a chain of neighbours joins, each known by its lowest place. Definitions only.
use Rattle.std.specs.Prelude.{◌≡◌, List, [], ◌∷◌, ◌↔◌, Bool, cond, ℕ, zero, suc, ◌≤◌, ◌<◌, T, eqb, ltb, length, get_or}

-- ---- what marks are
-- a chain of neighbours leads from place i to place k; each place after i is one of the n
pub data Chain (n : ℕ) (near : ℕ → ℕ → Bool) : ℕ → ℕ → Type 0 where
  here : {i : ℕ} → Chain n near i i
  next : {i : ℕ} (j : ℕ) {k : ℕ} → j < n → T (near i j) → Chain n near j k → Chain n near i k

-- "Marks are equal exactly when a chain of neighbours joins two regions"; each is "the lowest list index of its group, counted from 0"
pub record Marked (n : ℕ) (near : ℕ → ℕ → Bool) (marks : List ℕ) : Type 0 where
  pub count : length marks ≡ n
  pub equal : (i j : ℕ) → i < n → j < n → (get_or marks i 0 ≡ get_or marks j 0) ↔ Chain n near i j
  -- the mark is a place of the group, and no place of the group is lower
  pub member : (i : ℕ) → i < n → (get_or marks i 0 < n) × Chain n near i (get_or marks i 0)
  pub lowest : (i j : ℕ) → i < n → j < n → Chain n near i j → get_or marks i 0 ≤ j

-- ---- how they are made: each place has its own mark; then for each two neighbours the larger mark becomes the smaller, wherever it stands
-- each `from` becomes `to` (`lower`)
abbrev pub relabel : ℕ → ℕ → List ℕ → List ℕ
relabel from to [] = []
relabel from to (m ∷ l) = cond (eqb m from) to m ∷ relabel from to l

-- marks a and b are one: the larger becomes the smaller (`unite`)
abbrev pub unite : ℕ → ℕ → List ℕ → List ℕ
unite a b l = cond (ltb a b) (relabel b a l) (cond (ltb b a) (relabel a b l) l)

-- places i and j are neighbours (`link`)
abbrev pub link : ℕ → ℕ → List ℕ → List ℕ
link i j l = unite (get_or l i 0) (get_or l j 0) l

abbrev pub link_if : Bool → ℕ → ℕ → List ℕ → List ℕ
link_if b i j l = cond b (link i j l) l

module _ (near : ℕ → ℕ → Bool) where
  -- place i with each of the places under j, the last first (`mark_row`)
  abbrev pub row_marks : ℕ → ℕ → List ℕ → List ℕ
  row_marks i zero l = l
  row_marks i (suc j) l = row_marks i j (link_if (near i j) i j l)

  -- each of the places under n with each place before it, the last first (`mark_all`)
  abbrev pub all_marks : ℕ → List ℕ → List ℕ
  all_marks zero l = l
  all_marks (suc i) l = all_marks i (row_marks i i l)

-- k, k + 1, .. : n numbers (`number`)
abbrev pub count_from : ℕ → ℕ → List ℕ
count_from k zero = []
count_from k (suc n) = k ∷ count_from (suc k) n

abbrev pub marks_of : ℕ → (ℕ → ℕ → Bool) → List ℕ
marks_of n near = all_marks near n (count_from 0 n)
