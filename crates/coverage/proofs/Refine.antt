-- The calls on state and memory answer as the rules on the search do: a step. Assumes nothing.
use mathlib.Core.Path.{◌≡◌, refl, ap, sym, ◌∙◌, subst}
use mathlib.Core.List.{List, [], ◌∷◌, ◌++◌, map, append_assoc}
use mathlib.Core.Bool.{Bool, true, false, ◌&&◌, ◌||◌, cond}
use Prim.Native.Nat.{ℕ, zero, suc, ◌+◌, ◌*◌, ◌≤◌, ◌<◌}
use native.Mathlib.Nat.{le_refl, le_trans, mul-le-mul_right, suc-mul, add-mul}
use native.Mathlib.Omega.{arith}
use lib.Dec.{T, leb, eqb, leb→le, le→leb}
use lib.ListN.{length, take, drop, get_or, length-append, length-take, length-drop, take-append-drop}
use lib.Seq.{length-take-le, take_at}
use lib.Ieee.{Float, nan}
use lib.Ieee.Fits.{and_l, and_r, and_i, eq→eqb}
use Rattle.std.proofs.lemmas.List.{map-append}
use Rattle.floats.specs.Stations.{Piece}
use Rattle.lists.specs.Parts.{block, patch}
use Rattle.lists.proofs.Parts.{patch_length, block_take, block_append, block_before, block_first, block_second}
use Rattle.verdicts.specs.declared.Test.TheVariants.{Box, Plane, Line}
use Rattle.verdicts.specs.declared.Verdict.{Verdict}
use Rattle.verdicts.specs.declared.Verdict.TheVariants.{Settled, Split, Unseparated}
use Rattle.machine.specs.Machine.{Shape, Node, OwnVerdict, Settling, Search, part_of, depth1, depth2, choice_of, child, none, ended, give_up, split_along, divide, advance, tagged, is_first, is_second}
use Rattle.machine.proofs.Cover.{Deep, Below, Chosen, chosen_below, tags_sum_lem, Counts as Balance, count_advance}
use Rattle.regions.specs.declared.Region.{Region}
use Rattle.regions.specs.Regions.{flat, flats}
use Rattle.states.specs.declared.State.{State}
use Rattle.facts.proofs.Reflect.{as_true}
use Rattle.states.proofs.Tests.{RoomAll, room_all}
use Rattle.nodes.specs.Geometry.{region_of}
use Rattle.states.specs.declared.Depths.{Depths}
use Rattle.states.specs.States.{limit, spare, Memory, Sizes, sizes, needed, enough, enough_own, top_depth, is_zero, top_fits, is_search, over, counts_of, depths_of, depth_at, pair_of, deepened, allowance_of}
use Rattle.search.specs.Steps.{part1, part2}
use Rattle.nodes.specs.Moves.{given_state}
use Rattle.search.specs.Steps.{Stepping, stepping, halves, choice_at, split_memory, give_up_at, split_at, divide_at, act_on, step_def}
use Rattle.coverage.specs.Calls.{stepped, Outcome, lend, give_back, step_outcome}
use Rattle.opening.specs.Asked.{Asked, shape, pairs_of, start, state_of, result_of, depth_of, allowance_for, records_for}
use Rattle.coverage.specs.Rules.{Ruled, lent}
use Rattle.coverage.specs.Claim.{Stored, AllStored}
use Rattle.verdicts.specs.declared.Side.{Side}
use Rattle.verdicts.specs.declared.Side.TheVariants.{First, Second}
use Rattle.states.specs.declared.StepError.TheVariants.{Ended, NoRoom}
use Rattle.std.proofs.Common.{Option, Some, None, Ok, Err}

-- ---- two memories whose first K nodes are the same
pub record Agree (q : Asked) (K : ℕ) (u w : Memory) : Type 0 where
  pub net1 : (k : ℕ) → k < K → block (4 * q.width1) k w.nets1 ≡ block (4 * q.width1) k u.nets1
  pub net2 : (k : ℕ) → k < K → block (4 * q.width2) k w.nets2 ≡ block (4 * q.width2) k u.nets2
  pub ranges : (k : ℕ) → k < K → block 4 k w.ranges ≡ block 4 k u.ranges
  pub depth : (k : ℕ) → k < K → block 2 k w.depths ≡ block 2 k u.depths

pub agree_stored : (q : Asked) (K : ℕ) (u w : Memory) (l : List (Node (shape q))) → Agree q K u w → length l ≤ K → AllStored q u l → AllStored q w l
agree_stored q K u w [] a h z = tt
agree_stored q K u w (n ∷ r) a h z = (
  record {
    net1 = a.net1 (length r) h ∙ z.0.net1;
    net2 = a.net2 (length r) h ∙ z.0.net2;
    ranges = a.ranges (length r) h ∙ z.0.ranges;
    depth = a.depth (length r) h ∙ z.0.depth;
  },
  agree_stored q K u w r a (omega arith) z.1,
)

-- ---- what a sufficient size gives
abbrev pub Room : Asked → Sizes → Type 0
Room q s = RoomAll (state_of q (start q)) s

pub room_of : (q : Asked) (s : Sizes) → T (enough (needed (state_of q (start q))) s) → Room q s
room_of q s t = room_all (state_of q (start q)) s (as_true _ t)

-- k slots fit
pub fits_in : (k K n len : ℕ) → k ≤ K → K * n ≤ len → k * n ≤ len
fits_in k K n len h r = le_trans (mul-le-mul_right n h) r

-- what a size that suffices for the own verdict gives
pub record RoomOwn (q : Asked) (s : Sizes) : Type 0 where
  pub nets1 : (pairs_of q + spare) * (4 * q.width1) ≤ s.nets1
  pub nets2 : (pairs_of q + spare) * (4 * q.width2) ≤ s.nets2
  pub depths : (pairs_of q + spare) * 2 ≤ s.depths

pub room_own : (q : Asked) (s : Sizes) → T (enough_own (needed (state_of q (start q))) s) → RoomOwn q s
room_own q s t =
    let P = pairs_of q in
    let b1 = leb ((P + spare) * (4 * q.width1)) s.nets1 in
    let b2 = leb ((P + spare) * (4 * q.width2)) s.nets2 in
    let b4 = leb ((P + spare) * 2) s.depths in
    let t2 : T (b2 && b4) = and_r b1 (b2 && b4) t in
    record {
      nets1 = leb→le ((P + spare) * (4 * q.width1)) s.nets1 (and_l b1 (b2 && b4) t);
      nets2 = leb→le ((P + spare) * (4 * q.width2)) s.nets2 (and_l b2 b4 t2);
      depths = leb→le ((P + spare) * 2) s.depths (and_r b2 b4 t2);
    }

-- the slot k of a start that is long enough
pub start_block : {A : Type 0} (q : Asked) (N : ℕ) (l : List A) (w k : ℕ) → k < pairs_of q + spare → (pairs_of q + spare) * w ≤ length (take N l)
    → block w k (take N l) ≡ block w k l
start_block q N l w k h r = let m = length-take N l in let f : suc k * w ≤ (pairs_of q + spare) * w = mul-le-mul_right w h in block_take w k N l (omega arith)

-- ---- a start that is long enough holds the same nodes; and so does a memory given back
pub agree_lend : (q : Asked) (n : Sizes) (u : Memory) → Room q (sizes (lend n u)) → Agree q (pairs_of q + spare) u (lend n u)
agree_lend q n u r = record {
  net1 = λ k h. block_take (4 * q.width1) k n.nets1 u.nets1 (go n.nets1 u.nets1 (4 * q.width1) k h r.nets1);
  net2 = λ k h. block_take (4 * q.width2) k n.nets2 u.nets2 (go n.nets2 u.nets2 (4 * q.width2) k h r.nets2);
  ranges = λ k h. block_take 4 k n.ranges u.ranges (go n.ranges u.ranges 4 k h r.ranges);
  depth = λ k h. block_take 2 k n.depths u.depths (go n.depths u.depths 2 k h r.depths);
}
  where
    go : {A : Type 0} (N : ℕ) (l : List A) (w k : ℕ) → k < pairs_of q + spare → (pairs_of q + spare) * w ≤ length (take N l) → suc k * w ≤ N
    go N l w k h r = let m = length-take N l in let f : suc k * w ≤ (pairs_of q + spare) * w = mul-le-mul_right w h in omega arith

pub agree_back : (q : Asked) (n : Sizes) (w u : Memory) → Room q (sizes w) → Agree q (pairs_of q + spare) w (give_back n w u)
agree_back q n w u r = record {
  net1 =
      λ k h. block_append (4 * q.width1) k w.nets1 (drop n.nets1 u.nets1)
      (fits_in (suc k) (pairs_of q + spare) (4 * q.width1) (length w.nets1) h r.nets1);
  net2 =
      λ k h. block_append (4 * q.width2) k w.nets2 (drop n.nets2 u.nets2)
      (fits_in (suc k) (pairs_of q + spare) (4 * q.width2) (length w.nets2) h r.nets2);
  ranges = λ k h. block_append 4 k w.ranges (drop n.ranges u.ranges) (fits_in (suc k) (pairs_of q + spare) 4 (length w.ranges) h r.ranges);
  depth = λ k h. block_append 2 k w.depths (drop n.depths u.depths) (fits_in (suc k) (pairs_of q + spare) 2 (length w.depths) h r.depths);
}

pub lend_back : (n : Sizes) (u : Memory) → give_back n (lend n u) u ≡ u
lend_back n u = λ i. record {
  nets1 = take-append-drop n.nets1 u.nets1 i;
  nets2 = take-append-drop n.nets2 u.nets2 i;
  ranges = take-append-drop n.ranges u.ranges i;
  depths = take-append-drop n.depths u.depths i;
  raw = take-append-drop n.raw u.raw i;
}

pub lend-sizes : (n : Sizes) (u : Memory) → sizes (lend n u) ≡ lent n (sizes u)
lend-sizes n u = λ i. record {
  nets1 = length-take n.nets1 u.nets1 i;
  nets2 = length-take n.nets2 u.nets2 i;
  ranges = length-take n.ranges u.ranges i;
  depths = length-take n.depths u.depths i;
  raw = length-take n.raw u.raw i;
}

-- a memory given back has the lengths of the one that was lent from
back_length : {A : Type 0} (N : ℕ) (l w : List A) → length w ≡ length (take N l) → length (w ++ drop N l) ≡ length l
back_length N l w e = let a = length-append w (drop N l) in let b = length-take N l in let c = length-drop N l in omega arith

pub back_sizes : (n : Sizes) (w u : Memory) → sizes w ≡ sizes (lend n u) → sizes (give_back n w u) ≡ sizes u
back_sizes n w u e = λ i. record {
  nets1 = back_length n.nets1 u.nets1 w.nets1 (ap (λ (s : Sizes). s.nets1) e) i;
  nets2 = back_length n.nets2 u.nets2 w.nets2 (ap (λ (s : Sizes). s.nets2) e) i;
  ranges = back_length n.ranges u.ranges w.ranges (ap (λ (s : Sizes). s.ranges) e) i;
  depths = back_length n.depths u.depths w.depths (ap (λ (s : Sizes). s.depths) e) i;
  raw = back_length n.raw u.raw w.raw (ap (λ (s : Sizes). s.raw) e) i;
}

-- ---- the numbers of a search, and what the memory holds of it
pub record Numbers (q : Asked) (m : Search (shape q)) : Type 0 where
  pub counts : Balance (shape q) (pairs_of q) m
  pub allowance : m.splits + m.unspent ≡ allowance_for q
  pub visited : m.visits ≡ m.splits + length m.settled + length m.given + cond m.stopped 1 0

pub record Held (q : Asked) (m : Search (shape q)) (u : Memory) : Type 0 where
  pub nodes : AllStored q u m.stack
  pub raw : take (length m.given * 10) u.raw ≡ flats (map (region_of q.geometry q.gap) m.given)

-- ---- a node read from its slot
pub part1_is : (q : Asked) (m : Search (shape q)) (u : Memory) (k : ℕ) (n : Node (shape q)) → Stored q u k n → part1 (state_of q m) u k ≡ part_of (shape q) n.a
part1_is q m u k n z = λ i. record { lo = get_or (z.ranges i) 0 nan; hi = get_or (z.ranges i) 1 nan; net = z.net1 i }

pub part2_is : (q : Asked) (m : Search (shape q)) (u : Memory) (k : ℕ) (n : Node (shape q)) → Stored q u k n → part2 (state_of q m) u k ≡ part_of (shape q) n.b
part2_is q m u k n z = λ i. record { lo = get_or (z.ranges i) 2 nan; hi = get_or (z.ranges i) 3 nan; net = z.net2 i }

-- a node's two depths
abbrev pub depths : (q : Asked) → Node (shape q) → Depths
depths q n = depths_of (depth1 (shape q) n) (depth2 (shape q) n)

pub depth_is : (q : Asked) (u : Memory) (k : ℕ) (n : Node (shape q)) → Stored q u k n → depth_at u.depths k ≡ depths q n
depth_is q u k n z = ap (λ (l : List ℕ). depths_of (get_or l 0 0) (get_or l 1 0)) z.depth

block_length : {A : Type 0} (w k : ℕ) (l : List A) → suc k * w ≤ length l → length (block w k l) ≡ w
block_length w k l h = let m : suc k * w ≡ k * w + w = suc-mul k w in let d = length-drop (k * w) l in length-take-le w (drop (k * w) l) (omega arith)

-- ---- the two halves of a node
child_a : (q : Asked) (b : Side) (u : Bool) (n : Node (shape q)) → halves q.geometry (is_first b) u (part_of (shape q) n.a) ≡ part_of (shape q) (child (shape q) b u n).a
child_a q Second true n = refl
child_a q Second false n = refl
child_a q First true n = refl
child_a q First false n = refl

child_b : (q : Asked) (b : Side) (u : Bool) (n : Node (shape q)) → halves q.geometry (is_second b) u (part_of (shape q) n.b) ≡ part_of (shape q) (child (shape q) b u n).b
child_b q Second true n = refl
child_b q Second false n = refl
child_b q First true n = refl
child_b q First false n = refl

-- the memory after a split of node n in slot k along a line
abbrev pub split_in : (q : Asked) → Side → ℕ → Memory → Node (shape q) → Memory
split_in q b k u n = split_memory q.geometry b k (state_of q (start q)) u (part_of (shape q) n.a) (part_of (shape q) n.b) (depths q n)

-- what the lower (false) and the upper (true) half's slot receives
abbrev pub new_net1 : (q : Asked) → Side → Node (shape q) → Bool → List Float
new_net1 q b n c = (halves q.geometry (is_first b) c (part_of (shape q) n.a)).net

abbrev pub new_net2 : (q : Asked) → Side → Node (shape q) → Bool → List Float
new_net2 q b n c = (halves q.geometry (is_second b) c (part_of (shape q) n.b)).net

abbrev pub new_ranges : (q : Asked) → Side → Node (shape q) → Bool → List Float
new_ranges q b n c =
    let p = halves q.geometry (is_first b) c (part_of (shape q) n.a) in
    let r = halves q.geometry (is_second b) c (part_of (shape q) n.b) in
    p.lo ∷ p.hi ∷ r.lo ∷ r.hi ∷ []

abbrev pub new_depth : (q : Asked) → Side → Node (shape q) → List ℕ
new_depth q b n = pair_of (deepened b (depths q n))

child_depths : (q : Asked) (b : Side) (u : Bool) (n : Node (shape q)) → pair_of (deepened b (depths q n)) ≡ depth_of q (child (shape q) b u n)
child_depths q Second u n = refl
child_depths q First u n = refl

module _ (q : Asked) (low : (w : ℕ) (l : List Float) → length l ≡ 4 * w → length (q.geometry.lower_net l) ≡ 4 * w)
    (upp : (w : ℕ) (l : List Float) → length l ≡ 4 * w → length (q.geometry.upper_net l) ≡ 4 * w) where
  half_length : (w : ℕ) (b u : Bool) (p : Piece) → length p.net ≡ 4 * w → length (halves q.geometry b u p).net ≡ 4 * w
  half_length w true true p h = upp w p.net h
  half_length w true false p h = low w p.net h
  half_length w false u p h = h

  room2 : (k w len : ℕ) → suc (suc k) ≤ pairs_of q + spare → (pairs_of q + spare) * w ≤ len → k * w + (w + w) ≤ len
  room2 k w len h r = let f = fits_in (suc (suc k)) (pairs_of q + spare) w len h r in let a = suc-mul (suc k) w in let b = suc-mul k w in omega arith

  pair-length : {A : Type 0} (w : ℕ) (a b : List A) → length a ≡ w → length b ≡ w → length (a ++ b) ≡ w + w
  pair-length w a b e f = length-append a b ∙ ap (λ (z : ℕ). z + length b) e ∙ ap (λ (z : ℕ). w + z) f

  module _ (b : Side) (k : ℕ) (u : Memory) (n : Node (shape q)) (fit : suc (suc k) ≤ pairs_of q + spare) (r : Room q (sizes u)) (z : Stored q u k n) where
    la : (c : Bool) → length (halves q.geometry (is_first b) c (part_of (shape q) n.a)).net ≡ 4 * q.width1
    la c =
        half_length q.width1 (is_first b) c (part_of (shape q) n.a)
        (ap length (sym z.net1)
        ∙ block_length (4 * q.width1) k u.nets1 (fits_in (suc k) (pairs_of q + spare) (4 * q.width1) (length u.nets1) (omega arith) r.nets1))

    lb : (c : Bool) → length (halves q.geometry (is_second b) c (part_of (shape q) n.b)).net ≡ 4 * q.width2
    lb c =
        half_length q.width2 (is_second b) c (part_of (shape q) n.b)
        (ap length (sym z.net2)
        ∙ block_length (4 * q.width2) k u.nets2 (fits_in (suc k) (pairs_of q + spare) (4 * q.width2) (length u.nets2) (omega arith) r.nets2))

    start_fits : (w len : ℕ) → (pairs_of q + spare) * w ≤ len → k * w ≤ len
    start_fits w len h = fits_in k (pairs_of q + spare) w len (omega arith) h

    pub split_upper : Stored q (split_in q b k u n) k (child (shape q) b true n)
    split_upper =
        let pa = child_a q b true n in
        let pb = child_b q b true n in
        record {
          net1 =
              block_first (4 * q.width1) k u.nets1 (new_net1 q b n true) (new_net1 q b n false)
              (start_fits (4 * q.width1) (length u.nets1) r.nets1) (la true) ∙ ap (λ (p : Piece). p.net) pa;
          net2 =
              block_first (4 * q.width2) k u.nets2 (new_net2 q b n true) (new_net2 q b n false)
              (start_fits (4 * q.width2) (length u.nets2) r.nets2) (lb true) ∙ ap (λ (p : Piece). p.net) pb;
          ranges =
              block_first 4 k u.ranges (new_ranges q b n true) (new_ranges q b n false) (start_fits 4 (length u.ranges) r.ranges) refl
              ∙ (λ i. (pa i).lo ∷ (pa i).hi ∷ (pb i).lo ∷ (pb i).hi ∷ []);
          depth =
              block_first 2 k u.depths (new_depth q b n) (new_depth q b n) (start_fits 2 (length u.depths) r.depths) refl
              ∙ child_depths q b true n;
        }

    pub split_lower : Stored q (split_in q b k u n) (suc k) (child (shape q) b false n)
    split_lower =
        let pa = child_a q b false n in
        let pb = child_b q b false n in
        record {
          net1 =
              block_second (4 * q.width1) k u.nets1 (new_net1 q b n true) (new_net1 q b n false)
              (start_fits (4 * q.width1) (length u.nets1) r.nets1) (la true) (la false) ∙ ap (λ (p : Piece). p.net) pa;
          net2 =
              block_second (4 * q.width2) k u.nets2 (new_net2 q b n true) (new_net2 q b n false)
              (start_fits (4 * q.width2) (length u.nets2) r.nets2) (lb true) (lb false) ∙ ap (λ (p : Piece). p.net) pb;
          ranges =
              block_second 4 k u.ranges (new_ranges q b n true) (new_ranges q b n false) (start_fits 4 (length u.ranges) r.ranges) refl refl
              ∙ (λ i. (pa i).lo ∷ (pa i).hi ∷ (pb i).lo ∷ (pb i).hi ∷ []);
          depth =
              block_second 2 k u.depths (new_depth q b n) (new_depth q b n) (start_fits 2 (length u.depths) r.depths) refl refl
              ∙ child_depths q b false n;
        }

    -- the slots below stay
    pub split_below : Agree q k u (split_in q b k u n)
    split_below = record {
      net1 =
          λ j h. block_before (4 * q.width1) j (k * (4 * q.width1)) u.nets1 (new_net1 q b n true ++ new_net1 q b n false)
          (mul-le-mul_right (4 * q.width1) h) (start_fits (4 * q.width1) (length u.nets1) r.nets1);
      net2 =
          λ j h. block_before (4 * q.width2) j (k * (4 * q.width2)) u.nets2 (new_net2 q b n true ++ new_net2 q b n false)
          (mul-le-mul_right (4 * q.width2) h) (start_fits (4 * q.width2) (length u.nets2) r.nets2);
      ranges =
          λ j h. block_before 4 j (k * 4) u.ranges (new_ranges q b n true ++ new_ranges q b n false) (mul-le-mul_right 4 h)
          (start_fits 4 (length u.ranges) r.ranges);
      depth = λ j h. block_before 2 j (k * 2) u.depths (new_depth q b n ++ new_depth q b n) (mul-le-mul_right 2 h) (start_fits 2 (length u.depths) r.depths);
    }

    pub split_sizes : sizes (split_in q b k u n) ≡ sizes u
    split_sizes = λ i. record {
      nets1 =
          patch_length u.nets1 (k * (4 * q.width1)) (new_net1 q b n true ++ new_net1 q b n false)
          (subst (λ (x : ℕ). k * (4 * q.width1) + x ≤ length u.nets1)
          (sym (pair-length (4 * q.width1) (new_net1 q b n true) (new_net1 q b n false) (la true) (la false)))
          (room2 k (4 * q.width1) (length u.nets1) fit r.nets1)) i;
      nets2 =
          patch_length u.nets2 (k * (4 * q.width2)) (new_net2 q b n true ++ new_net2 q b n false)
          (subst (λ (x : ℕ). k * (4 * q.width2) + x ≤ length u.nets2)
          (sym (pair-length (4 * q.width2) (new_net2 q b n true) (new_net2 q b n false) (lb true) (lb false)))
          (room2 k (4 * q.width2) (length u.nets2) fit r.nets2)) i;
      ranges = patch_length u.ranges (k * 4) (new_ranges q b n true ++ new_ranges q b n false) (room2 k 4 (length u.ranges) fit r.ranges) i;
      depths = patch_length u.depths (k * 2) (new_depth q b n ++ new_depth q b n) (room2 k 2 (length u.depths) fit r.depths) i;
      raw = length u.raw;
    }

-- ---- raw regions
flats_append : (a b : List Region) → flats (a ++ b) ≡ flats a ++ flats b
flats_append [] b = refl
flats_append (r ∷ a) b = ap (λ (l : List Float). flat r ++ l) (flats_append a b) ∙ sym (append_assoc (flat r) (flats a) (flats b))

pub flats-length : (l : List Region) → length (flats l) ≡ length l * 10
flats-length [] = refl
flats-length (r ∷ l) = let h = flats-length l in let a = length-append (flat r) (flats l) in let m = suc-mul (length l) 10 in omega arith

patch_take : {A : Type 0} (l : List A) (i : ℕ) (vs : List A) → i ≤ length l → take (i + length vs) (patch l i vs) ≡ take i l ++ vs
patch_take l i vs h =
    ap (take (i + length vs)) (sym (append_assoc (take i l) vs (drop (i + length vs) l)))
    ∙ take_at (take i l ++ vs) (drop (i + length vs) l) (i + length vs)
    (length-append (take i l) vs ∙ ap (λ (z : ℕ). z + length vs) (length-take-le i l h))

-- regions written behind those that are there
pub raw_more : (q : Asked) (g : List (Node (shape q))) (more : List Region) (raw : List Float) → length g * 10 ≤ length raw
    → take (length g * 10) raw ≡ flats (map (region_of q.geometry q.gap) g)
    → take (length g * 10 + length (flats more)) (patch raw (length g * 10) (flats more)) ≡ flats (map (region_of q.geometry q.gap) g ++ more)
raw_more q g more raw h e =
    patch_take raw (length g * 10) (flats more) h ∙ ap (λ (l : List Float). l ++ flats more) e ∙ sym (flats_append (map (region_of q.geometry q.gap) g) more)

give_raw : (q : Asked) (g : List (Node (shape q))) (n : Node (shape q)) (raw : List Float) → length g * 10 ≤ length raw
    → take (length g * 10) raw ≡ flats (map (region_of q.geometry q.gap) g)
    → take (length (g ++ (n ∷ [])) * 10) (patch raw (length g * 10) (flat (region_of q.geometry q.gap n)))
    ≡ flats (map (region_of q.geometry q.gap) (g ++ (n ∷ [])))
give_raw q g n raw h e =
    let f = region_of q.geometry q.gap in
    let c : length (g ++ (n ∷ [])) * 10 ≡ length g * 10 + 10 = ap (λ (z : ℕ). z * 10) (length-append g (n ∷ [])) ∙ add-mul (length g) 1 10 in
    ap (λ (z : ℕ). take z (patch raw (length g * 10) (flat (f n)))) c ∙ raw_more q g (f n ∷ []) raw h e ∙ ap flats (sym (map-append f g (n ∷ [])))

-- ---- counts
zero_none : (S : Shape) (l : List (Node S)) → is_zero (length l) ≡ none S l
zero_none S [] = refl
zero_none S (n ∷ r) = refl

pub over_ended : (q : Asked) (m : Search (shape q)) → over (state_of q m).tally ≡ ended (shape q) m
over_ended q m = ap (λ (b : Bool). m.stopped || b) (zero_none (shape q) m.stack)

pub counts_result : (q : Asked) (m : Search (shape q)) → counts_of (state_of q m).tally ≡ result_of q m
counts_result q m =
    λ i. record {
      pairs = pairs_of q;
      visits = m.visits;
      splits = m.splits;
      settled = length m.settled;
      boxes = tagged (shape q) Box m.settled;
      planes = tagged (shape q) Plane m.settled;
      lines = tagged (shape q) Line m.settled;
      given = length m.given;
      left = cond (over_ended q m i) (length m.stack) 0;
      unspent = m.unspent;
    }

-- ---- a step: either nothing changes, or the search moves on and the memory holds it
pub data StepSim (q : Asked) (o : Outcome) (r : Ruled q) (m : Search (shape q)) (w : Memory) : Type 0 where
  unchanged : o.answer ≡ r.answer → o.state ≡ state_of q m → o.memory ≡ w → r.search ≡ m → StepSim q o r m w
  moved : o.answer ≡ r.answer → o.state ≡ state_of q r.search → Held q r.search o.memory → sizes o.memory ≡ sizes w → Room q (sizes w)
      → Numbers q r.search → StepSim q o r m w

abbrev pub search : (q : Asked) → List (Node (shape q)) → List (Settling (shape q)) → List (Node (shape q)) → ℕ → ℕ → ℕ → Bool → OwnVerdict → Search (shape q)
search q l se gi vi sp un st ow = record { stack = l; settled = se; given = gi; visits = vi; splits = sp; unspent = un; stopped = st; own = ow }

abbrev pub rule_with : (q : Asked) → Bool → Verdict → Search (shape q) → Ruled q
rule_with q e v m =
    cond (ended (shape q) m) (record { answer = stepped (Err Ended); search = m })
    (cond e (record { answer = stepped (Ok (state_of q (advance (shape q) v m))); search = advance (shape q) v m }) (record { answer = stepped (Err NoRoom); search = m }))

abbrev accepted : (q : Asked) → Search (shape q) → Ruled q
accepted q m = record { answer = stepped (Ok (state_of q m)); search = m }

module _ (q : Asked) (low : (w : ℕ) (l : List Float) → length l ≡ 4 * w → length (q.geometry.lower_net l) ≡ 4 * w)
    (upp : (w : ℕ) (l : List Float) → length l ≡ 4 * w → length (q.geometry.upper_net l) ≡ 4 * w) where
  module _ (n : Node (shape q)) (r : List (Node (shape q))) (se : List (Settling (shape q))) (gi : List (Node (shape q))) (vi sp un : ℕ) (ow : OwnVerdict) (w : Memory)
      (N : Numbers q (search q (n ∷ r) se gi vi sp un false ow)) (R : Room q (sizes w)) (H : Held q (search q (n ∷ r) se gi vi sp un false ow) w) where
    given_fits : suc (length gi) ≤ records_for q
    given_fits = let b = N.counts.balance in let a = N.allowance in omega arith

    raw_fits : suc (length gi) * 10 ≤ length w.raw
    raw_fits = fits_in (suc (length gi)) (records_for q) 10 (length w.raw) given_fits R.raw

    give_sim : StepSim q (step_outcome (state_of q (search q (n ∷ r) se gi vi sp un false ow))
        (give_up_at q.geometry (length r) (state_of q (search q (n ∷ r) se gi vi sp un false ow)) w (part_of (shape q) n.a)
        (part_of (shape q) n.b)))
        (accepted q (give_up (shape q) n r (search q (n ∷ r) se gi vi sp un false ow))) (search q (n ∷ r) se gi vi sp un false ow) w
    give_sim =
        let m' = give_up (shape q) n r (search q (n ∷ r) se gi vi sp un false ow) in
        let g1 : length (gi ++ (n ∷ [])) ≡ suc (length gi) = length-append gi (n ∷ []) ∙ native.Mathlib.Numerals.add-one (length gi) in
        let c10 : suc (length gi) * 10 ≡ length gi * 10 + 10 = suc-mul (length gi) 10 in
        let rf = raw_fits in
        let st : given_state (length r) (state_of q (search q (n ∷ r) se gi vi sp un false ow)) ≡ state_of q m' =
        λ i. record {
          tally = record {
            pairs = pairs_of q;
            quota = q.quota;
            waiting = length r;
            visits = suc vi;
            splits = sp;
            unspent = un;
            settled = length se;
            boxes = tagged (shape q) Box se;
            planes = tagged (shape q) Plane se;
            lines = tagged (shape q) Line se;
            given = sym g1 i;
            stopped = false;
          };
          width1 = q.width1;
          width2 = q.width2;
          gap = q.gap;
          terms = q.terms;
        } in
        moved
        (ap (λ (x : State). stepped (Ok x)) st)
        st
        (record {
          nodes =
              agree_stored q (length r) w _ r (record { net1 = λ k h. refl; net2 = λ k h. refl; ranges = λ k h. refl; depth = λ k h. refl })
              (le_refl (length r)) H.nodes.1;
          raw = give_raw q gi n w.raw (omega arith) H.raw;
        })
        (λ i. record {
          nets1 = length w.nets1;
          nets2 = length w.nets2;
          ranges = length w.ranges;
          depths = length w.depths;
          raw = patch_length w.raw (length gi * 10) (flat (region_of q.geometry q.gap n)) (omega arith) i;
        })
        R
        (record {
          counts = count_advance (shape q) (pairs_of q) Unseparated (search q (n ∷ r) se gi vi sp un false ow) N.counts;
          allowance = N.allowance;
          visited = let v = N.visited in omega arith;
        })

    -- where a line can still be halved, the depths sum to under 64
    below_sum : (b : Side) → Below (shape q) b n → depth1 (shape q) n ≤ limit → depth2 (shape q) n ≤ limit → depth1 (shape q) n + depth2 (shape q) n < spare
    below_sum Second h f g = omega arith
    below_sum First h f g = omega arith

    stop_sim : (b : Side) → Numbers q (split_along (shape q) b zero n r (search q (n ∷ r) se gi vi sp un false ow))
        → StepSim q (step_outcome (state_of q (search q (n ∷ r) se gi vi sp un false ow))
        (split_at q.geometry b zero (length r) (state_of q (search q (n ∷ r) se gi vi sp un false ow)) w (part_of (shape q) n.a)
        (part_of (shape q) n.b) (depths q n)))
        (accepted q (split_along (shape q) b zero n r (search q (n ∷ r) se gi vi sp un false ow))) (search q (n ∷ r) se gi vi sp un false ow) w
    stop_sim b K = moved refl refl (record { nodes = H.nodes; raw = H.raw }) refl R K

    halve_sim : (b : Side) (s : ℕ) → Below (shape q) b n → Numbers q (split_along (shape q) b (suc s) n r (search q (n ∷ r) se gi vi sp un false ow))
        → StepSim q (step_outcome (state_of q (search q (n ∷ r) se gi vi sp un false ow))
        (split_at q.geometry b (suc s) (length r) (state_of q (search q (n ∷ r) se gi vi sp un false ow)) w (part_of (shape q) n.a)
        (part_of (shape q) n.b) (depths q n)))
        (accepted q (split_along (shape q) b (suc s) n r (search q (n ∷ r) se gi vi sp un false ow))) (search q (n ∷ r) se gi vi sp un false ow) w
    halve_sim b s d K =
        let dp = N.counts.steep.0 in
        let hp = dp.height in
        let sp = below_sum b d dp.shallow.first dp.shallow.second in
        let fit : suc (suc (length r)) ≤ pairs_of q + spare = omega arith in
        let z = H.nodes.0 in
        moved refl refl
        (record {
          nodes = (
            split_lower q low upp b (length r) w n fit R z,
            (
              split_upper q low upp b (length r) w n fit R z,
              agree_stored q (length r) w (split_in q b (length r) w n) r (split_below q low upp b (length r) w n fit R z) (le_refl (length r)) H.nodes.1,
            ),
          );
          raw = H.raw;
        })
        (split_sizes q low upp b (length r) w n fit R z) R K

    -- the numbers after a Split
    split_numbers : (b : Side) (k : ℕ) → un ≡ k → Balance (shape q) (pairs_of q) (split_along (shape q) b k n r (search q (n ∷ r) se gi vi sp un false ow))
        → Numbers q (split_along (shape q) b k n r (search q (n ∷ r) se gi vi sp un false ow))
    split_numbers b zero e c = record { counts = c; allowance = let a = N.allowance in omega arith; visited = let v = N.visited in omega arith }
    split_numbers b (suc k) e c = record { counts = c; allowance = let a = N.allowance in omega arith; visited = let v = N.visited in omega arith }

    split_sim : (b : Side) (k : ℕ) → un ≡ k → Below (shape q) b n
        → Balance (shape q) (pairs_of q) (split_along (shape q) b k n r (search q (n ∷ r) se gi vi sp un false ow))
        → StepSim q (step_outcome (state_of q (search q (n ∷ r) se gi vi sp un false ow))
        (split_at q.geometry b k (length r) (state_of q (search q (n ∷ r) se gi vi sp un false ow)) w (part_of (shape q) n.a)
        (part_of (shape q) n.b) (depths q n)))
        (accepted q (split_along (shape q) b k n r (search q (n ∷ r) se gi vi sp un false ow))) (search q (n ∷ r) se gi vi sp un false ow) w
    split_sim b zero e f c = stop_sim b (split_numbers b zero e c)
    split_sim b (suc k) e f c = halve_sim b k f (split_numbers b (suc k) e c)

    divide_sim : (c : Option Side) (k : ℕ) → un ≡ k → Chosen (shape q) c n
        → Balance (shape q) (pairs_of q) (divide (shape q) c k n r (search q (n ∷ r) se gi vi sp un false ow))
        → StepSim q (step_outcome (state_of q (search q (n ∷ r) se gi vi sp un false ow))
        (divide_at q.geometry c k (length r) (state_of q (search q (n ∷ r) se gi vi sp un false ow)) w (part_of (shape q) n.a)
        (part_of (shape q) n.b) (depths q n)))
        (accepted q (divide (shape q) c k n r (search q (n ∷ r) se gi vi sp un false ow))) (search q (n ∷ r) se gi vi sp un false ow) w
    divide_sim (Some line) k e f c = split_sim line k e f c
    divide_sim None k e f c = give_sim

    -- the top node's parts and depth, as read
    at_parts : (F : Piece → Piece → Depths → Stepping) (R' : Ruled q)
        → StepSim q (step_outcome (state_of q (search q (n ∷ r) se gi vi sp un false ow))
        (F (part_of (shape q) n.a) (part_of (shape q) n.b) (depths q n))) R' (search q (n ∷ r) se gi vi sp un false ow) w
        → StepSim q (step_outcome (state_of q (search q (n ∷ r) se gi vi sp un false ow))
        (F (part1 (state_of q (search q (n ∷ r) se gi vi sp un false ow)) w (length r))
        (part2 (state_of q (search q (n ∷ r) se gi vi sp un false ow)) w (length r)) (depth_at w.depths (length r)))) R'
        (search q (n ∷ r) se gi vi sp un false ow) w
    at_parts F R' h =
        let m = search q (n ∷ r) se gi vi sp un false ow in
        let z = H.nodes.0 in
        subst (λ (o : Stepping). StepSim q (step_outcome (state_of q (search q (n ∷ r) se gi vi sp un false ow)) o) R' m w)
        (λ i. F (sym (part1_is q m w (length r) n z) i) (sym (part2_is q m w (length r) n z) i) (sym (depth_is q w (length r) n z) i))
        h

    act_sim : (v : Verdict)
        → StepSim q (step_outcome (state_of q (search q (n ∷ r) se gi vi sp un false ow))
        (act_on q.geometry (suc (length r)) v (state_of q (search q (n ∷ r) se gi vi sp un false ow)) w))
        (accepted q (advance (shape q) v (search q (n ∷ r) se gi vi sp un false ow))) (search q (n ∷ r) se gi vi sp un false ow) w
    act_sim (Settled by) =
        let m = search q (n ∷ r) se gi vi sp un false ow in
        moved refl refl (record { nodes = H.nodes.1; raw = H.raw }) refl R
        (record { counts = count_advance (shape q) (pairs_of q) (Settled by) m N.counts; allowance = N.allowance; visited = let v = N.visited in omega arith })
    act_sim Unseparated =
        at_parts (λ p p' d. give_up_at q.geometry (length r) (state_of q (search q (n ∷ r) se gi vi sp un false ow)) w p p')
        (accepted q (give_up (shape q) n r (search q (n ∷ r) se gi vi sp un false ow))) give_sim
    act_sim Split =
        let m = search q (n ∷ r) se gi vi sp un false ow in
        at_parts (λ p p' d. divide_at q.geometry (choice_at q.geometry p p' d) un (length r) (state_of q m) w p p' d)
        (accepted q (divide (shape q) (choice_of (shape q) n) un n r m))
        (divide_sim (choice_of (shape q) n) un refl (chosen_below (shape q) n) (count_advance (shape q) (pairs_of q) Split m N.counts))

-- ---- the test of a state passes for a search
-- the top node's depths are in its slot
abbrev pub TopDepth : (q : Asked) → Memory → List (Node (shape q)) → Type 0
TopDepth q w [] = Unit {0}
TopDepth q w (n ∷ r) = block 2 (length r) w.depths ≡ depth_of q n

pub top_depth_lem : (q : Asked) (w : Memory) (l : List (Node (shape q))) → AllStored q w l → TopDepth q w l
top_depth_lem q w [] z = tt
top_depth_lem q w (n ∷ r) z = z.0.depth

top_fits_is : (q : Asked) (l : List (Node (shape q))) (w : Memory) → Deep (shape q) (pairs_of q) l → TopDepth q w l
    → T (top_fits (pairs_of q) (length l) (top_depth (length l) w.depths))
top_fits_is q [] w d z = tt
top_fits_is q (n ∷ r) w d z =
    let d1 = depth1 (shape q) n in
    let d2 = depth2 (shape q) n in
    let h = d.0 in
    subst (λ (x : Depths). T (leb (suc (length r)) (pairs_of q + (x.first + x.second)) && (leb x.first limit && leb x.second limit)))
    (sym (ap (λ (l : List ℕ). depths_of (get_or l 0 0) (get_or l 1 0)) z))
    (and_i (leb (suc (length r)) (pairs_of q + (d1 + d2))) (leb d1 limit && leb d2 limit) (le→leb (suc (length r)) (pairs_of q + (d1 + d2)) h.height)
    (and_i (leb d1 limit) (leb d2 limit) (le→leb d1 limit h.shallow.first) (le→leb d2 limit h.shallow.second)))

one_at_most : (b : Bool) → cond b 1 0 ≤ 1
one_at_most true = omega arith
one_at_most false = omega arith

pub is_search_lem : (q : Asked) (m : Search (shape q)) (w : Memory) → Numbers q m → TopDepth q w m.stack → T (is_search (state_of q m) w)
is_search_lem q m w N z =
    let x = state_of q m in
    let b1 = top_fits x.tally.pairs x.tally.waiting (top_depth x.tally.waiting w.depths) in
    let b2 = eqb (x.tally.pairs + x.tally.splits) (x.tally.settled + x.tally.given + x.tally.waiting) in
    let b3 = eqb (x.tally.splits + x.tally.unspent) (allowance_of x.tally) in
    let b4 = eqb x.tally.settled (x.tally.boxes + x.tally.planes + x.tally.lines) in
    let b5 = leb x.tally.visits (x.tally.splits + x.tally.settled + x.tally.given + 1) in
    and_i b1 (b2 && (b3 && (b4 && b5))) (top_fits_is q m.stack w N.counts.steep z)
    (and_i b2 (b3 && (b4 && b5)) (eq→eqb N.counts.balance)
    (and_i b3 (b4 && b5) (eq→eqb N.allowance)
    (and_i b4 b5 (eq→eqb (sym (tags_sum_lem (shape q) m.settled)))
    (le→leb m.visits (m.splits + length m.settled + length m.given + 1) (let v = N.visited in let h = one_at_most m.stopped in omega arith)))))

-- ---- a step on the memory that is lent
module _ (q : Asked) (low : (w : ℕ) (l : List Float) → length l ≡ 4 * w → length (q.geometry.lower_net l) ≡ 4 * w)
    (upp : (w : ℕ) (l : List Float) → length l ≡ 4 * w → length (q.geometry.upper_net l) ≡ 4 * w) where
  step_fields : (l : List (Node (shape q))) (se : List (Settling (shape q))) (gi : List (Node (shape q))) (vi sp un : ℕ) (st : Bool) (ow : OwnVerdict) (w : Memory) (v : Verdict)
      → Numbers q (search q l se gi vi sp un st ow) → (Room q (sizes w) → Held q (search q l se gi vi sp un st ow) w)
      → StepSim q
      (step_outcome (state_of q (search q l se gi vi sp un st ow)) (step_def q.geometry (state_of q (search q l se gi vi sp un st ow)) w v))
      (rule_with q (enough (needed (state_of q (start q))) (sizes w)) v (search q l se gi vi sp un st ow)) (search q l se gi vi sp un st ow) w
  step_fields l se gi vi sp un true ow w v N H = unchanged refl refl refl refl
  step_fields [] se gi vi sp un false ow w v N H = unchanged refl refl refl refl
  step_fields (n ∷ r) se gi vi sp un false ow w v N H =
      go (enough (needed (state_of q (start q))) (sizes w)) (is_search (state_of q m) w) (room_of q (sizes w))
      (λ (R : Room q (sizes w)). is_search_lem q m w N (top_depth_lem q w m.stack (H R).nodes))
    where
      m : Search (shape q)
      m = search q (n ∷ r) se gi vi sp un false ow

      go : (e s : Bool) → (T e → Room q (sizes w)) → (Room q (sizes w) → T s)
          → StepSim q (step_outcome (state_of q (search q (n ∷ r) se gi vi sp un false ow))
          (cond (e && s) (act_on q.geometry (suc (length r)) v (state_of q (search q (n ∷ r) se gi vi sp un false ow)) w) (stepping (Err NoRoom) w)))
          (cond e (accepted q (advance (shape q) v (search q (n ∷ r) se gi vi sp un false ow)))
          (record { answer = stepped (Err NoRoom); search = search q (n ∷ r) se gi vi sp un false ow })) (search q (n ∷ r) se gi vi sp un false ow) w
      go false s f g = unchanged refl refl refl refl
      go true false f g = absurd (g (f tt))
      go true true f g = act_sim q low upp n r se gi vi sp un ow w N (f tt) (H (f tt)) v

  pub step_sim : (m : Search (shape q)) (w : Memory) (v : Verdict) → Numbers q m → (Room q (sizes w) → Held q m w)
      → StepSim q (step_outcome (state_of q m) (step_def q.geometry (state_of q m) w v)) (rule_with q (enough (needed (state_of q (start q))) (sizes w)) v m) m w
  step_sim m w v N H = step_fields m.stack m.settled m.given m.visits m.splits m.unspent m.stopped m.own w v N H
