-- What is claimed of every list of calls. Definitions only.
use Rattle.std.specs.Prelude.{Result, Ok, Err, ◌≡◌, ◌⊎◌, ◌↔◌, cond, List, [], ◌∷◌, map, ℕ, ◌+◌, ◌*◌, ◌^◌, ◌≤◌, T, length, take, Float}
use Rattle.lists.specs.Members.{Any, All, Pairwise}
use Rattle.lists.specs.Parts.{block}
use Rattle.verdicts.specs.declared.Test.{Test}
use Rattle.verdicts.specs.declared.Verdict.TheVariants.{Settled}
use Rattle.floats.specs.Sizes.{Within}
use Rattle.machine.specs.Machine.{Node, settled_by, Settling, Search, depth1, depth2, InNode, ended}
use Rattle.machine.specs.Merge.{merged}
use Rattle.machine.specs.Covered.{SetApart, Covered, Off}
use Rattle.regions.specs.declared.Region.{Region}
use Rattle.regions.specs.declared.Word.{Word}
use Rattle.regions.specs.declared.Word.TheVariants.{Complete}
use Rattle.regions.specs.Regions.{merging, flats}
use Rattle.regions.specs.Reports.{word_for}
use Rattle.states.specs.declared.Counts.{Counts}
use Rattle.floats.specs.Stations.{InRange, Piece, Cut}
use Rattle.regions.specs.Stations.{InRegion}
use Rattle.nodes.specs.Geometry.{region_of}
use Rattle.states.specs.States.{Memory, allowance_of}
use Rattle.report.specs.Reports.{Output}
use Rattle.terms.specs.Terms.{seam_of}
use Rattle.machine.specs.Marks.{Marked}
use Rattle.stretches.specs.Stretches.{near_at}
use Rattle.coverage.specs.Calls.{Answer, stepped, judged, reported, Ran}
use Rattle.opening.specs.Asked.{Asked, shape, pieces1, pieces2, In1, In2, state_of, result_of, raw_list, net_of1, net_of2, ranges_of, depth_of}
use Rattle.report.specs.declared.Summary.{Summary}
use Rattle.report.specs.declared.ReportError.{ReportError}
use Rattle.verdicts.specs.declared.Side.TheVariants.{First, Second}

-- ---- what admission and an unrefused opening give
-- ends of pieces are finite and at most 2 ^ bound in size; nets have the line's width
abbrev pub bound : ℕ
bound = 22

abbrev pub FineLine : ℕ → Float → List Cut → Type 0
FineLine w from cs = Within (2 ^ bound) from × All (λ (c : Cut). Within (2 ^ bound) c.to × (length c.net ≡ 4 * w)) cs

pub record Fine (q : Asked) : Type 0 where
  pub fine1 : FineLine q.width1 q.lo1 q.cuts1
  pub fine2 : FineLine q.width2 q.lo2 q.cuts2
  -- each station of an asked range lies in some piece's range
  pub covers1 : (s : Float) → In1 q s → Any (λ (p : Piece). InRange p.lo p.hi s) (pieces1 q)
  pub covers2 : (t : Float) → In2 q t → Any (λ (p : Piece). InRange p.lo p.hi t) (pieces2 q)
  pub lower_length : (w : ℕ) (l : List Float) → length l ≡ 4 * w → length (q.geometry.lower_net l) ≡ 4 * w
  pub upper_length : (w : ℕ) (l : List Float) → length l ≡ 4 * w → length (q.geometry.upper_net l) ≡ 4 * w

-- ---- the nodes that the memory holds: slot k has node k's nets, ranges and depths
pub record Stored (q : Asked) (u : Memory) (k : ℕ) (n : Node (shape q)) : Type 0 where
  pub net1 : block (4 * q.width1) k u.nets1 ≡ net_of1 q n
  pub net2 : block (4 * q.width2) k u.nets2 ≡ net_of2 q n
  pub ranges : block 4 k u.ranges ≡ ranges_of q n
  pub depth : block 2 k u.depths ≡ depth_of q n

-- the top of n ∷ r is node number length r, from the bottom
abbrev pub AllStored : (q : Asked) → Memory → List (Node (shape q)) → Type 0
AllStored q u [] = Unit {0}
AllStored q u (n ∷ r) = Stored q u (length r) n × AllStored q u r

-- ---- a report that is not refused
-- the pair of stations lies in a piece pair set apart by its boxes, a settled node or a reported region
abbrev pub Accounted : (q : Asked) → Search (shape q) → List Region → Float → Float → Type 0
Accounted q m out s t =
    SetApart (shape q) (pieces1 q) (pieces2 q) s t ⊎
    (Any (λ (e : Settling (shape q)). InNode (shape q) s t e.node) m.settled ⊎ Any (InRegion s t) out)

-- the word w, the counts c, k regions, and the two slices afterwards
pub record GoodReport (q : Asked) (m : Search (shape q)) (w : Word) (c : Counts) (k : ℕ) (o : Output) : Type 0 where
  -- the regions, as they stand in the slice
  pub out : List Region
  pub read : take (k * 10) o.regions ≡ flats out
  pub number : k ≡ length out
  -- the search has ended, and the counts are its
  pub finished : T (ended (shape q) m)
  pub tallied : c ≡ result_of q m
  -- the regions are its raw list merged, and the word is its: complete if the list is empty, budget if a node is left, else unseparated
  pub listed : out ≡ merged merging (raw_list q m)
  pub named : w ≡ word_for (length m.given) (length m.stack)
  -- nothing is lost, no two regions touch, and "complete" comes exactly when given up and left are 0
  pub accounted : (s t : Float) → In1 q s → In2 q t → Accounted q m out s t
  pub disjoint : Pairwise (Off merging) out
  -- equal marks exactly where a chain of neighbours joins two regions, each the lowest list index of its group
  pub marked : Marked k (near_at (seam_of First q.terms) (seam_of Second q.terms) out) (take k o.marks)
  -- "The three sum to settled"
  pub tags : c.settled ≡ c.boxes + c.planes + c.lines
  pub exact : (w ≡ Complete) ↔ ((c.given ≡ 0) × (c.left ≡ 0))

abbrev pub GoodReported : (q : Asked) → Search (shape q) → Result Summary ReportError → Output → Type 0
GoodReported q m (Ok s) o = GoodReport q m s.word s.counts s.regions o
GoodReported q m (Err e) o = Unit {0}

abbrev pub GoodAnswer : (q : Asked) → Search (shape q) → Answer → Type 0
GoodAnswer q m (stepped a) = Unit {0}
GoodAnswer q m (judged a) = Unit {0}
GoodAnswer q m (reported a o) = GoodReported q m a o

-- each line of a node was halved at most 32 times
abbrev pub DepthsFit : (q : Asked) → Node (shape q) → Type 0
DepthsFit q n = (depth1 (shape q) n ≤ 32) × (depth2 (shape q) n ≤ 32)

-- ---- after the list: m is the search that the rules make, r what the calls left
pub record After (q : Asked) (m : Search (shape q)) (r : Ran) : Type 0 where
  -- each pair of stations lies in a piece pair set apart by its boxes, a settled node, a region given up or a waiting node
  pub covered : (s t : Float) → In1 q s → In2 q t → Covered (shape q) (pieces1 q) (pieces2 q) m s t
  -- pairs + splits = settled + given up + waiting; at most pairs + 64 nodes wait
  pub balance : r.state.tally.pairs + r.state.tally.splits ≡ r.state.tally.settled + r.state.tally.given + r.state.tally.waiting
  pub at_most : r.state.tally.waiting ≤ r.state.tally.pairs + 64
  -- the nodes settled by box, plane and line sum to settled
  pub tags : r.state.tally.settled ≡ r.state.tally.boxes + r.state.tally.planes + r.state.tally.lines
  -- "two depths, each at most 32": of the nodes that wait, that were given up and that were settled
  pub waiting_depths : All (DepthsFit q) m.stack
  pub given_depths : All (DepthsFit q) m.given
  pub settled_depths : All (λ (e : Settling (shape q)). DepthsFit q e.node) m.settled
  -- each split spends one of S × P, and nothing else does; each visit splits, settles or gives up a node, but the one that ends the search at no allowance
  pub allowance : r.state.tally.splits + r.state.tally.unspent ≡ allowance_of r.state.tally
  pub visited : r.state.tally.visits ≡ r.state.tally.splits + r.state.tally.settled + r.state.tally.given + cond r.state.tally.stopped 1 0
  -- the state's counts are the search's, the memory holds its nodes, the raw slice its given-up regions
  pub state : r.state ≡ state_of q m
  pub nodes : AllStored q r.memory m.stack
  pub given_up : take (length m.given * 10) r.memory.raw ≡ flats (map (region_of q.geometry q.gap) m.given)
  pub reports : All (GoodAnswer q m) r.answers
  -- a node settled on the search's own verdict has nets that pass the clearing tests, by the test that the own verdict named: its pieces' nets, halved as its splits went
  pub cleared : All (λ (e : Settling (shape q)). (t : Test) → e.own ≡ settled_by t → q.geometry.clearing q.gap (net_of1 q e.node) (net_of2 q e.node) ≡ Settled t) m.settled
