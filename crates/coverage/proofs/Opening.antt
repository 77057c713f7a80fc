-- The memory after the opening holds the pushed pairs, node k in slot k. Assumes nothing.
use mathlib.Core.Path.{◌≡◌, refl, ap, sym, ◌∙◌, subst}
use mathlib.Core.List.{List, [], ◌∷◌, ◌++◌, map, reverse_aux, append_assoc}
use mathlib.Core.Bool.{Bool, true, false, cond}
use Prim.Native.Nat.{ℕ, suc, ◌+◌, ◌*◌, ◌≤◌, ◌^◌}
use native.Mathlib.Nat.{suc-mul}
use native.Mathlib.Omega.{arith}
use lib.Dec.{T}
use lib.ListN.{length, take, drop, length-append}
use lib.Seq.{take_at, drop_at}
use lib.Ieee.{Float}
use Rattle.floats.specs.Stations.{Piece, Cut, pieces_from}
use Rattle.lists.specs.Members.{All}
use Rattle.lists.proofs.Members.{all_append}
use Rattle.lists.specs.Parts.{block, joined}
use Rattle.lists.proofs.Parts.{patch_length}
use Rattle.machine.specs.Machine.{Shape, Node, at_pieces, row, pushed}
use Rattle.machine.proofs.Cover.{count_fresh}
use Rattle.floats.specs.Sizes.{Within}
use Rattle.states.specs.States.{spare, Memory, sizes, needed, enough}
use Rattle.opening.specs.Asked.{Asked, shape, pieces1, pieces2, pushed_pairs, pairs_of, start, state_of, net_of1, net_of2, ranges_of, depth_of, open_memory, allowance_for}
use Rattle.coverage.specs.Claim.{bound, FineLine, Stored, AllStored, Fine}
use Rattle.coverage.proofs.Refine.{room_of, fits_in}
use Rattle.coverage.proofs.Chain.{Inv}

-- ---- what holds of each pushed pair
module _ (S : Shape) (P P' : S.Part → Type 0) (Q : Node S → Type 0) (f : (p p' : S.Part) → P p → P' p' → Q (at_pieces S p p')) where
  all_row : (p : S.Part) (qs : List S.Part) → P p → All P' qs → All Q (row S p qs)
  all_row p [] k w = tt
  all_row p (p' ∷ qs) k w = go (S.apart p p') (all_row p qs k w.1)
    where
      go : (b : Bool) → All Q (row S p qs) → All Q (cond b (row S p qs) (at_pieces S p p' ∷ row S p qs))
      go true z = z
      go false z = (f p p' k w.0, z)

  pub all_pushed : (ps qs : List S.Part) → All P ps → All P' qs → All Q (pushed S ps qs)
  all_pushed [] qs k w = tt
  all_pushed (p ∷ ps) qs k w = all_append Q (row S p qs) (pushed S ps qs) (all_row p qs k.0 w) (all_pushed ps qs k.1 w)

-- what holds of each piece
pub all_pieces : (P : Piece → Type 0) (w : ℕ) (from : Float) (cs : List Cut)
    → ((lo hi : Float) (l : List Float) → Within (2 ^ bound) lo → Within (2 ^ bound) hi → length l ≡ 4 * w → P (record { lo = lo; hi = hi; net = l }))
    → FineLine w from cs → All P (pieces_from from cs)
all_pieces P w from [] f h = tt
all_pieces P w from (c ∷ cs) f h = (f from c.to c.net h.0 h.1.0.0 h.1.0.1, all_pieces P w c.to cs f (h.1.0.0, h.1.1))

-- ---- blocks end to end
module _ {A B : Type 0} (w : ℕ) (f : B → List A) where
  abbrev Blk : ℕ → List B → List A → Type 0
  Blk j [] L = Unit {0}
  Blk j (n ∷ r) L = (block w j L ≡ f n) × Blk (suc j) r L

  blk : (j : ℕ) (pre : List A) (ns : List B) (rest : List A) → length pre ≡ j * w → All (λ (n : B). length (f n) ≡ w) ns → Blk j ns (pre ++ (joined (map f ns) ++ rest))
  blk j pre [] rest e h = tt
  blk j pre (n ∷ r) rest e h =
      let C = joined (map f r) in
      let L = pre ++ ((f n ++ C) ++ rest) in
      let p : (f n ++ C) ++ rest ≡ f n ++ (C ++ rest) = append_assoc (f n) C rest in
      let move : (pre ++ f n) ++ (C ++ rest) ≡ L = append_assoc pre (f n) (C ++ rest) ∙ ap (λ (z : List A). pre ++ z) (sym p) in (
        ap (take w) (drop_at pre ((f n ++ C) ++ rest) (j * w) e ∙ p) ∙ take_at (f n) (C ++ rest) w h.0,
        subst (Blk (suc j) r) move (blk (suc j) (pre ++ f n) r rest (length-append pre (f n) ∙ (λ i. e i + h.0 i) ∙ sym (suc-mul j w)) h.1),
      )

  joined_length : (ns : List B) → All (λ (n : B). length (f n) ≡ w) ns → length (joined (map f ns)) ≡ length ns * w
  joined_length [] h = omega (arith, native.Mathlib.Nat.zero-mul w)
  joined_length (n ∷ r) h =
      length-append (f n) (joined (map f r)) ∙ (λ i. h.0 i + joined_length r h.1 i) ∙ native.Mathlib.Nat.add_comm w (length r * w)
      ∙ sym (suc-mul (length r) w)

module _ (q : Asked) (u : Memory) where
  abbrev Up : ℕ → List (Node (shape q)) → Type 0
  Up j [] = Unit {0}
  Up j (n ∷ r) = Stored q u j n × Up (suc j) r

  up_of : (j : ℕ) (l : List (Node (shape q))) → Blk (4 * q.width1) (net_of1 q) j l u.nets1 → Blk (4 * q.width2) (net_of2 q) j l u.nets2
      → Blk 4 (ranges_of q) j l u.ranges → Blk 2 (depth_of q) j l u.depths → Up j l
  up_of j [] a b c d = tt
  up_of j (n ∷ r) a b c d = (record { net1 = a.0; net2 = b.0; ranges = c.0; depth = d.0 }, up_of (suc j) r a.1 b.1 c.1 d.1)

  rev_stored : (l acc : List (Node (shape q))) → Up (length acc) l → AllStored q u acc → AllStored q u (reverse_aux l acc)
  rev_stored [] acc h k = k
  rev_stored (n ∷ l) acc h k = rev_stored l (n ∷ acc) h.1 (h.0, k)

pub all_same : {B : Type 0} (P : B → Type 0) → ((n : B) → P n) → (l : List B) → All P l
all_same P f [] = tt
all_same P f (n ∷ l) = (f n, all_same P f l)

pub open_inv : (q : Asked) (u : Memory) → Fine q → T (enough (needed (state_of q (start q))) (sizes u)) → Inv q (sizes u) (start q) (open_memory q u)
open_inv q u O room =
    let N = pushed_pairs q in
    let R = room_of q (sizes u) room in
    let la : All (λ (n : Node (shape q)). length (net_of1 q n) ≡ 4 * q.width1) N =
    all_pushed (shape q) (λ (p : Piece). length p.net ≡ 4 * q.width1) (λ (p : Piece). Unit {0})
    (λ (n : Node (shape q)). length (net_of1 q n) ≡ 4 * q.width1) (λ p p' a b. a) (pieces1 q) (pieces2 q)
    (all_pieces (λ (p : Piece). length p.net ≡ 4 * q.width1) q.width1 q.lo1 q.cuts1 (λ lo hi l x y e. e) O.fine1)
    (all_same (λ (p : Piece). Unit {0}) (λ (p : Piece). tt) (pieces2 q)) in
    let lb : All (λ (n : Node (shape q)). length (net_of2 q n) ≡ 4 * q.width2) N =
    all_pushed (shape q) (λ (p : Piece). Unit {0}) (λ (p : Piece). length p.net ≡ 4 * q.width2)
    (λ (n : Node (shape q)). length (net_of2 q n) ≡ 4 * q.width2) (λ p p' a b. b) (pieces1 q) (pieces2 q)
    (all_same (λ (p : Piece). Unit {0}) (λ (p : Piece). tt) (pieces1 q))
    (all_pieces (λ (p : Piece). length p.net ≡ 4 * q.width2) q.width2 q.lo2 q.cuts2 (λ lo hi l x y e. e) O.fine2) in
    let lr : All (λ (n : Node (shape q)). length (ranges_of q n) ≡ 4) N = all_same (λ (n : Node (shape q)). length (ranges_of q n) ≡ 4) (λ n. refl) N in
    let ld : All (λ (n : Node (shape q)). length (depth_of q n) ≡ 2) N = all_same (λ (n : Node (shape q)). length (depth_of q n) ≡ 2) (λ n. refl) N in
    record {
      numbers = record { counts = count_fresh (shape q) (pieces1 q) (pieces2 q) (allowance_for q); allowance = omega arith; visited = omega arith };
      held = record {
        nodes = rev_stored q (open_memory q u) N [] (up_of q (open_memory q u) 0 N
            (blk (4 * q.width1) (net_of1 q) 0 [] N (drop (0 + length (joined (map (net_of1 q) N))) u.nets1) (sym (native.Mathlib.Nat.zero-mul (4 * q.width1))) la)
            (blk (4 * q.width2) (net_of2 q) 0 [] N (drop (0 + length (joined (map (net_of2 q) N))) u.nets2) (sym (native.Mathlib.Nat.zero-mul (4 * q.width2))) lb)
            (blk 4 (ranges_of q) 0 [] N (drop (0 + length (joined (map (ranges_of q) N))) u.ranges) refl lr)
            (blk 2 (depth_of q) 0 [] N (drop (0 + length (joined (map (depth_of q) N))) u.depths) refl ld)) tt;
        raw = refl;
      };
      lengths = λ i. record {
        nets1 = patch_length u.nets1 0 (joined (map (net_of1 q) N)) (fits (4 * q.width1) (joined_length (4 * q.width1) (net_of1 q) N la) R.nets1) i;
        nets2 = patch_length u.nets2 0 (joined (map (net_of2 q) N)) (fits (4 * q.width2) (joined_length (4 * q.width2) (net_of2 q) N lb) R.nets2) i;
        ranges = patch_length u.ranges 0 (joined (map (ranges_of q) N)) (fits 4 (joined_length 4 (ranges_of q) N lr) R.ranges) i;
        depths = patch_length u.depths 0 (joined (map (depth_of q) N)) (fits 2 (joined_length 2 (depth_of q) N ld) R.depths) i;
        raw = length u.raw;
      };
    }
  where
    fits : {x len : ℕ} (w : ℕ) → x ≡ pairs_of q * w → (pairs_of q + spare) * w ≤ len → 0 + x ≤ len
    fits {x} {len} w e h = let f = fits_in (pairs_of q) (pairs_of q + spare) w len (omega arith) h in omega arith
