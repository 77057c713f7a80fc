-- The pairs pushed by their numbers are the machine's pushed pairs. Assumes nothing.
use mathlib.Core.Path.{◌≡◌, refl, sym, ap, ◌∙◌}
use mathlib.Core.Bool.{Bool, true, false, cond}
use mathlib.Core.List.{List, [], ◌∷◌, ◌++◌, map}
use Prim.Native.Nat.{ℕ, zero, suc, ◌+◌, ◌-◌, ◌<◌}
use native.Mathlib.Numerals.{add-one}
use native.Mathlib.Omega.{arith}
use lib.ListN.{length, get_or, drop}
use lib.Ieee.{Float, nan}
use Rattle.lists.specs.Parts.{patch, joined}
use Rattle.floats.specs.Stations.{Piece, pieces_from}
use Rattle.boxes.specs.Boxes.{boxes_apart}
use Rattle.knots.specs.Knots.{between, flat_of, knots_of, breaks_of}
use Rattle.pieces.specs.Pieces.{net_of}
use Rattle.curves.specs.Curves.{piece_count, net_poles, pieces_of, cuts_from, cuts_of}
use Rattle.curves.proofs.Laws.{piece_at}
use Rattle.lines.specs.Lines.{Line, Question}
use Rattle.pairs.specs.Pairs.{Pair, Pieces, pieces, net_at, box_at, row_from, pairs_from, nets1_of, nets2_of, ranges_of, depths_of}
use Rattle.machine.specs.Machine.{Node, at_pieces, row, pushed}
use Rattle.states.specs.States.{Memory, memory}
use Rattle.nodes.specs.Geometry.{floats}
use Rattle.nodes.specs.Nets.{geometry}
use Rattle.opening.specs.Asked.{pushed_pairs, pairs_of, net_of1, net_of2, ranges_of as node_ranges, depth_of, open_memory}
use Rattle.opening.specs.Opens.{search_for, pieces_in}

-- ---- a list by its numbers: n elements from number i on
abbrev indexed : (ℕ → Piece) → ℕ → ℕ → List Piece
indexed f zero i = []
indexed f (suc n) i = f i ∷ indexed f n (suc i)

indexed_same : (f g : ℕ → Piece) (n i : ℕ) → ((j : ℕ) → j < i + n → f j ≡ g j) → indexed f n i ≡ indexed g n i
indexed_same f g zero i h = refl
indexed_same f g (suc n) i h = λ k. h i (omega arith) k ∷ indexed_same f g n (suc i) (λ j l. h j (omega arith)) k

-- piece i of the breaks L
abbrev piece_of : Bool → ℕ → List Float → List Float → List Float → List Float → ℕ → Piece
piece_of closed p knots flat poles L i = record { lo = get_or L i nan; hi = get_or L (suc i) nan; net = net_of closed p knots flat poles (get_or L i nan) (get_or L (suc i) nan) }

shift : (closed : Bool) (p : ℕ) (knots flat poles : List Float) (t : Float) (L : List Float) (n i : ℕ)
    → indexed (piece_of closed p knots flat poles (t ∷ L)) n (suc i) ≡ indexed (piece_of closed p knots flat poles L) n i
shift closed p knots flat poles t L zero i = refl
shift closed p knots flat poles t L (suc n) i = ap (λ (l : List Piece). piece_of closed p knots flat poles L i ∷ l) (shift closed p knots flat poles t L n (suc i))

chained : (closed : Bool) (p : ℕ) (knots flat poles : List Float) (t : Float) (ts : List Float)
    → pieces_from t (cuts_from closed p knots flat poles t ts) ≡ indexed (piece_of closed p knots flat poles (t ∷ ts)) (length ts) 0
unfolding cuts_from
chained closed p knots flat poles t [] = refl
chained closed p knots flat poles t (t1 ∷ ts) =
    ap (λ (l : List Piece). piece_of closed p knots flat poles (t ∷ t1 ∷ ts) 0 ∷ l) (chained closed p knots flat poles t1 ts ∙ sym (shift closed p knots flat poles t (t1 ∷ ts) (length ts) 0))

-- ---- one line's pieces, read from the slice that holds them
abbrev pub line_pieces : Line → Float → Float → List Float → Pieces
line_pieces l lo hi p = pieces (l.degree + 1) (pieces_in l lo hi p) (breaks_of l lo hi)

abbrev slot_piece : Pieces → ℕ → Piece
slot_piece p i = record { lo = get_or p.breaks i nan; hi = get_or p.breaks (suc i) nan; net = net_at p i }

line-pieces : (l : Line) (lo hi : Float) (p : List Float) → pieces_from lo (cuts_of l lo hi) ≡ indexed (slot_piece (line_pieces l lo hi p)) (piece_count l lo hi) 0
line-pieces l lo hi p =
    let ts = between lo hi (knots_of l) (hi ∷ []) in
    let flat = flat_of l in
    let poles = net_poles l in
    let n : length (lo ∷ ts) - 1 ≡ length ts = omega arith in
    chained l.closed l.degree (knots_of l) flat poles lo ts
    ∙ indexed_same (piece_of l.closed l.degree (knots_of l) flat poles (lo ∷ ts)) (slot_piece (line_pieces l lo hi p)) (length ts) 0
    (λ j h. λ i. record {
      lo = get_or (lo ∷ ts) j nan;
      hi = get_or (lo ∷ ts) (suc j) nan;
      net =
          sym (piece_at l lo hi (drop (0 + length (pieces_of l lo hi)) p) j
          (let g : j + 1 < length (lo ∷ ts) = omega arith in g)
          ∙ (let e = add-one j in ap (λ (k : ℕ). net_of l.closed l.degree (knots_of l) flat poles (get_or (lo ∷ ts) j nan) (get_or (lo ∷ ts) k nan)) e)) i;
    })
    ∙ ap (λ (k : ℕ). indexed (slot_piece (line_pieces l lo hi p)) k 0) (sym n)

-- ---- the pushed pairs
module _ (gap : Float) (p q : Pieces) where
  abbrev node_of : Pair → Node (floats geometry gap)
  node_of k = at_pieces (floats geometry gap) (slot_piece p k.i) (slot_piece q k.j)

  row_is : (i m j : ℕ) → row (floats geometry gap) (slot_piece p i) (indexed (slot_piece q) m j) ≡ map node_of (row_from gap p q i m j)
  unfolding row_from
  row_is i zero j = refl
  row_is i (suc m) j = go (boxes_apart gap (box_at p i) (box_at q j)) (row_is i m (suc j))
    where
      go : (b : Bool) → row (floats geometry gap) (slot_piece p i) (indexed (slot_piece q) m (suc j)) ≡ map node_of (row_from gap p q i m (suc j))
          → cond b (row (floats geometry gap) (slot_piece p i) (indexed (slot_piece q) m (suc j)))
          (node_of (record { i = i; j = j }) ∷ row (floats geometry gap) (slot_piece p i) (indexed (slot_piece q) m (suc j)))
          ≡ map node_of (cond b (row_from gap p q i m (suc j)) (record { i = i; j = j } ∷ row_from gap p q i m (suc j)))
      go true e = e
      go false e = ap (λ (l : List (Node (floats geometry gap))). node_of (record { i = i; j = j }) ∷ l) e

  map_join : (a b : List Pair) → map node_of a ++ map node_of b ≡ map node_of (a ++ b)
  map_join [] b = refl
  map_join (k ∷ a) b = ap (λ (l : List (Node (floats geometry gap))). node_of k ∷ l) (map_join a b)

  pushed_is : (m n i : ℕ) → pushed (floats geometry gap) (indexed (slot_piece p) n i) (indexed (slot_piece q) m 0) ≡ map node_of (pairs_from gap p q m n i)
  unfolding pairs_from
  pushed_is m zero i = refl
  pushed_is m (suc n) i = (λ k. row_is i m 0 k ++ pushed_is m n (suc i) k) ∙ map_join (row_from gap p q i m 0) (pairs_from gap p q m n (suc i))

mapped_length : {A B : Type 0} (f : A → B) (l : List A) → length (map f l) ≡ length l
mapped_length f [] = refl
mapped_length f (x ∷ l) = ap suc (mapped_length f l)

-- ---- of a question, and the slices that hold its pieces
module _ (q : Question) (p1 p2 : List Float) where
  abbrev pub one : Pieces
  one = line_pieces q.line1 q.lo1 q.hi1 p1

  abbrev pub other : Pieces
  other = line_pieces q.line2 q.lo2 q.hi2 p2

  abbrev pub numbered : List Pair
  numbered = pairs_from q.gap one other (piece_count q.line2 q.lo2 q.hi2) (piece_count q.line1 q.lo1 q.hi1) 0

  all_pushed : pushed_pairs (search_for q) ≡ map (node_of q.gap one other) numbered
  all_pushed =
      (λ i. pushed (floats geometry q.gap) (line-pieces q.line1 q.lo1 q.hi1 p1 i) (line-pieces q.line2 q.lo2 q.hi2 p2 i))
      ∙ pushed_is q.gap one other (piece_count q.line2 q.lo2 q.hi2) (piece_count q.line1 q.lo1 q.hi1) 0

  pub pairs_are : pairs_of (search_for q) ≡ length numbered
  pairs_are = ap length all_pushed ∙ mapped_length (node_of q.gap one other) numbered

  nets1_join : (ks : List Pair) → joined (map (net_of1 (search_for q)) (map (node_of q.gap one other) ks)) ≡ nets1_of one ks
  nets1_join [] = refl
  nets1_join (k ∷ ks) = ap (λ (l : List Float). net_at one k.i ++ l) (nets1_join ks)

  nets2_join : (ks : List Pair) → joined (map (net_of2 (search_for q)) (map (node_of q.gap one other) ks)) ≡ nets2_of other ks
  nets2_join [] = refl
  nets2_join (k ∷ ks) = ap (λ (l : List Float). net_at other k.j ++ l) (nets2_join ks)

  ranges_join : (ks : List Pair) → joined (map (node_ranges (search_for q)) (map (node_of q.gap one other) ks)) ≡ ranges_of one other ks
  ranges_join [] = refl
  ranges_join (k ∷ ks) = rw (add-one k.i, add-one k.j) (ap (λ (l : List Float). node_ranges (search_for q) (node_of q.gap one other k) ++ l) (ranges_join ks))

  depths_join : (ks : List Pair) → joined (map (depth_of (search_for q)) (map (node_of q.gap one other) ks)) ≡ depths_of ks
  depths_join [] = refl
  depths_join (k ∷ ks) = ap (λ (l : List ℕ). 0 ∷ 0 ∷ l) (depths_join ks)

  -- what `push_pairs` leaves is the memory after the opening
  pub memory_is : (u : Memory) (n1 n2 r : List Float) (d : List ℕ) → n1 ≡ patch u.nets1 0 (nets1_of one numbered) → n2 ≡ patch u.nets2 0 (nets2_of other numbered)
      → r ≡ patch u.ranges 0 (ranges_of one other numbered) → d ≡ patch u.depths 0 (depths_of numbered)
      → memory n1 n2 r d u.raw ≡ open_memory (search_for q) u
  memory_is u n1 n2 r d e1 e2 e3 e4 =
      let f1 = e1 ∙ ap (patch u.nets1 0) (sym (nets1_join numbered) ∙ (λ i. joined (map (net_of1 (search_for q)) (sym all_pushed i)))) in
      let f2 = e2 ∙ ap (patch u.nets2 0) (sym (nets2_join numbered) ∙ (λ i. joined (map (net_of2 (search_for q)) (sym all_pushed i)))) in
      let f3 = e3 ∙ ap (patch u.ranges 0) (sym (ranges_join numbered) ∙ (λ i. joined (map (node_ranges (search_for q)) (sym all_pushed i)))) in
      let f4 = e4 ∙ ap (patch u.depths 0) (sym (depths_join numbered) ∙ (λ i. joined (map (depth_of (search_for q)) (sym all_pushed i)))) in
      λ i. memory (f1 i) (f2 i) (f3 i) (f4 i) u.raw
