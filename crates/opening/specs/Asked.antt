-- What was asked, and the search that it starts: the pieces of both lines, the pushed pairs, and where the memory keeps each node. Definitions only.
use Rattle.std.specs.Prelude.{List, [], ◌∷◌, ◌++◌, map, reverse, cond, ℕ, ◌+◌, ◌*◌, length, Float}
use Rattle.lists.specs.Parts.{patch, joined}
use Rattle.machine.specs.Machine.{Shape, Node, Search, part_of, depth1, depth2, pushed, fresh, ended, tagged}
use Rattle.regions.specs.declared.Region.{Region}
use Rattle.verdicts.specs.declared.Test.TheVariants.{Box, Plane, Line}
use Rattle.states.specs.declared.Tally.{Tally}
use Rattle.states.specs.declared.State.{State}
use Rattle.states.specs.declared.Counts.{Counts}
use Rattle.terms.specs.declared.Terms.{Terms}
use Rattle.floats.specs.Stations.{InRange, Piece, Cut, pieces_from}
use Rattle.nodes.specs.Geometry.{Geometry, floats, region_of}
use Rattle.states.specs.States.{Memory}

-- for each line the asked range and its pieces; the gap, the splits per pair, the widths of the nets, and what the report reads
pub record Asked : Type 0 where
  pub geometry : Geometry
  pub lo1 : Float
  pub hi1 : Float
  pub cuts1 : List Cut
  pub lo2 : Float
  pub hi2 : Float
  pub cuts2 : List Cut
  pub gap : Float
  pub quota : ℕ
  pub width1 : ℕ
  pub width2 : ℕ
  pub terms : Terms

abbrev pub shape : Asked → Shape
shape q = floats q.geometry q.gap

abbrev pub pieces1 : Asked → List Piece
pieces1 q = pieces_from q.lo1 q.cuts1

abbrev pub pieces2 : Asked → List Piece
pieces2 q = pieces_from q.lo2 q.cuts2

-- a station in the asked range of a line
abbrev pub In1 : Asked → Float → Type 0
In1 q s = InRange q.lo1 q.hi1 s

abbrev pub In2 : Asked → Float → Type 0
In2 q t = InRange q.lo2 q.hi2 t

abbrev pub pushed_pairs : (q : Asked) → List (Node (shape q))
pushed_pairs q = pushed (shape q) (pieces1 q) (pieces2 q)

abbrev pub pairs_of : Asked → ℕ
pairs_of q = length (pushed_pairs q)

-- the allowance, S × P, and how many regions there can be
abbrev pub allowance_for : Asked → ℕ
allowance_for q = q.quota * pairs_of q

abbrev pub records_for : Asked → ℕ
records_for q = pairs_of q + allowance_for q

-- the fresh search, with this allowance
abbrev pub start : (q : Asked) → Search (shape q)
start q = fresh (shape q) (pieces1 q) (pieces2 q) (allowance_for q)

-- ---- the numbers of a search, as a tally, as a state and as counts
abbrev pub tally_of : (q : Asked) → Search (shape q) → Tally
tally_of q m =
    record {
      pairs = pairs_of q;
      quota = q.quota;
      waiting = length m.stack;
      visits = m.visits;
      splits = m.splits;
      unspent = m.unspent;
      settled = length m.settled;
      boxes = tagged (shape q) Box m.settled;
      planes = tagged (shape q) Plane m.settled;
      lines = tagged (shape q) Line m.settled;
      given = length m.given;
      stopped = m.stopped;
    }

abbrev pub state_of : (q : Asked) → Search (shape q) → State
state_of q m = record { tally = tally_of q m; width1 = q.width1; width2 = q.width2; gap = q.gap; terms = q.terms }

-- left: the nodes waiting at the end
abbrev pub result_of : (q : Asked) → Search (shape q) → Counts
result_of q m =
    record {
      pairs = pairs_of q;
      visits = m.visits;
      splits = m.splits;
      settled = length m.settled;
      boxes = tagged (shape q) Box m.settled;
      planes = tagged (shape q) Plane m.settled;
      lines = tagged (shape q) Line m.settled;
      given = length m.given;
      left = cond (ended (shape q) m) (length m.stack) 0;
      unspent = m.unspent;
    }

-- the raw list: given-up regions in order, then the waiting nodes from the bottom
abbrev pub raw_list : (q : Asked) → Search (shape q) → List Region
raw_list q m = map (region_of q.geometry q.gap) (m.given ++ reverse m.stack)

-- ---- the memory after the opening: node k of the pushed list owns slot k
abbrev pub net_of1 : (q : Asked) → Node (shape q) → List Float
net_of1 q n = (part_of (shape q) n.a).net

abbrev pub net_of2 : (q : Asked) → Node (shape q) → List Float
net_of2 q n = (part_of (shape q) n.b).net

abbrev pub ranges_of : (q : Asked) → Node (shape q) → List Float
ranges_of q n = let p = part_of (shape q) n.a in let r = part_of (shape q) n.b in p.lo ∷ p.hi ∷ r.lo ∷ r.hi ∷ []

abbrev pub depth_of : (q : Asked) → Node (shape q) → List ℕ
depth_of q n = depth1 (shape q) n ∷ depth2 (shape q) n ∷ []

abbrev pub open_memory : Asked → Memory → Memory
open_memory q u = record {
  nets1 = patch u.nets1 0 (joined (map (net_of1 q) (pushed_pairs q)));
  nets2 = patch u.nets2 0 (joined (map (net_of2 q) (pushed_pairs q)));
  ranges = patch u.ranges 0 (joined (map (ranges_of q) (pushed_pairs q)));
  depths = patch u.depths 0 (joined (map (depth_of q) (pushed_pairs q)));
  raw = u.raw;
}
