-- The search as a machine over parts of two lines. A part is one line's range and net; what a range, a net and a station are is left open,
-- so that the float search and a whole-number search are two shapes of one machine. Definitions only.
use Rattle.std.specs.Prelude.{List, [], ◌∷◌, ◌++◌, reverse, Option, Some, None, Bool, true, false, ◌||◌, cond, ℕ, zero, suc, ◌+◌, ◌≤◌, leb, length}
use Rattle.verdicts.specs.declared.Test.{Test}
use Rattle.verdicts.specs.declared.Test.TheVariants.{Box, Plane, Line}
use Rattle.verdicts.specs.declared.Side.{Side}
use Rattle.verdicts.specs.declared.Side.TheVariants.{First, Second}
use Rattle.verdicts.specs.declared.Verdict.{Verdict}
use Rattle.verdicts.specs.declared.Verdict.TheVariants.{Settled, Split, Unseparated}

pub record Shape : Type 1 where
  pub Part : Type 0
  pub Station : Type 0
  pub Holds : Part → Station → Type 0
  pub lower : Part → Part
  pub upper : Part → Part
  -- the boxes are apart by the gap; the second line is the one to halve
  pub apart : Part → Part → Bool
  pub second : Part → Part → Bool
  -- the most halvings of one line between its piece and a node
  pub limit : ℕ

-- "If the line chosen by box size is at 32, the other is halved; with both at 32 the node is given up": which line is halved, if one is, by the boxes' choice (`second`: the second line) and by whether the first and the second line are at the limit
abbrev pub choose : Bool → Bool → Bool → Option Side
choose second end1 end2 = cond end1 (cond end2 None (Some Second)) (cond end2 (Some First) (cond second (Some Second) (Some First)))

abbrev pub is_first : Side → Bool
is_first First = true
is_first Second = false

abbrev pub is_second : Side → Bool
is_second First = false
is_second Second = true

-- A place on one line: one of its pieces, and the halves taken of it, the last first (true: the upper half).
pub record Spot (S : Shape) : Type 0 where
  pub piece : S.Part
  pub halves : List Bool

pub record Node (S : Shape) : Type 0 where
  pub a : Spot S
  pub b : Spot S

-- what is remembered of the search's own verdict since the last step that was not refused: that it was not asked, or not Settled; or that it was Settled by this test
pub data OwnVerdict : Type 0 where
  not_settled : OwnVerdict
  settled_by : Test → OwnVerdict

-- a settled node, the tag that the step gave it, and what the search's own verdict on it had been
pub record Settling (S : Shape) : Type 0 where
  pub node : Node S
  pub tag : Test
  pub own : OwnVerdict

-- `stack` has the top node first; `settled` the last first; `given` the first first.
pub record Search (S : Shape) : Type 0 where
  pub stack : List (Node S)
  pub settled : List (Settling S)
  pub given : List (Node S)
  pub visits : ℕ
  pub splits : ℕ
  pub unspent : ℕ
  pub stopped : Bool
  -- the own verdict since the last step that was not refused
  pub own : OwnVerdict

-- 1 where two tags are the same, else 0
abbrev pub is_tag : Test → Test → ℕ
is_tag Box Box = 1
is_tag Box Plane = 0
is_tag Box Line = 0
is_tag Plane Box = 0
is_tag Plane Plane = 1
is_tag Plane Line = 0
is_tag Line Box = 0
is_tag Line Plane = 0
is_tag Line Line = 1

module _ (S : Shape) where
  abbrev pub half : Bool → S.Part → S.Part
  half true p = S.upper p
  half false p = S.lower p

  -- the part at the end of the halvings: "its pieces' nets, halved as its splits went"
  abbrev pub descend : S.Part → List Bool → S.Part
  descend p [] = p
  descend p (u ∷ us) = half u (descend p us)

  abbrev pub part_of : Spot S → S.Part
  part_of x = descend x.piece x.halves

  -- "A node shall carry two depths": how often each line was halved; at the limit a line is halved no more
  abbrev pub depth1 : Node S → ℕ
  depth1 n = length n.a.halves

  abbrev pub depth2 : Node S → ℕ
  depth2 n = length n.b.halves

  abbrev pub end1 : Node S → Bool
  end1 n = leb S.limit (depth1 n)

  abbrev pub end2 : Node S → Bool
  end2 n = leb S.limit (depth2 n)

  -- "each at most 32"
  pub record Shallow (n : Node S) : Type 0 where
    pub first : depth1 n ≤ S.limit
    pub second : depth2 n ≤ S.limit

  abbrev pub InNode : S.Station → S.Station → Node S → Type 0
  InNode s t n = S.Holds (part_of n.a) s × S.Holds (part_of n.b) t

  -- ---- opening: the pairs of pieces whose boxes are not apart, in order
  abbrev pub at_pieces : S.Part → S.Part → Node S
  at_pieces p q = record { a = record { piece = p; halves = [] }; b = record { piece = q; halves = [] } }

  abbrev pub row : S.Part → List S.Part → List (Node S)
  row p [] = []
  row p (q ∷ qs) = cond (S.apart p q) (row p qs) (at_pieces p q ∷ row p qs)

  abbrev pub pushed : List S.Part → List S.Part → List (Node S)
  pushed [] qs = []
  pushed (p ∷ ps) qs = row p qs ++ pushed ps qs

  abbrev pub fresh : List S.Part → List S.Part → ℕ → Search S
  fresh ps qs allowance = record { stack = reverse (pushed ps qs); settled = []; given = []; visits = 0; splits = 0; unspent = allowance; stopped = false; own = not_settled }

  -- ---- a step
  abbrev pub deeper : Bool → Spot S → Spot S
  deeper u x = record { piece = x.piece; halves = u ∷ x.halves }

  -- the lower or the upper half of a node along one of its lines
  abbrev pub child : Side → Bool → Node S → Node S
  child Second u n = record { a = n.a; b = deeper u n.b }
  child First u n = record { a = deeper u n.a; b = n.b }

  abbrev pub choice_of : Node S → Option Side
  choice_of n = choose (S.second (part_of n.a) (part_of n.b)) (end1 n) (end2 n)

  abbrev pub none : List (Node S) → Bool
  none [] = true
  none (n ∷ r) = false

  abbrev pub ended : Search S → Bool
  ended m = m.stopped || none m.stack

  abbrev pub give_up : Node S → List (Node S) → Search S → Search S
  give_up n r m =
      record {
        stack = r;
        settled = m.settled;
        given = m.given ++ (n ∷ []);
        visits = suc m.visits;
        splits = m.splits;
        unspent = m.unspent;
        stopped = m.stopped;
        own = not_settled;
      }

  -- the search ends, with these nodes left
  abbrev pub stop_with : List (Node S) → Search S → Search S
  stop_with l m =
      record {
        stack = l;
        settled = m.settled;
        given = m.given;
        visits = suc m.visits;
        splits = m.splits;
        unspent = zero;
        stopped = true;
        own = not_settled;
      }

  -- a split along a line, with so much allowance: at none the node stays, and the search ends; else its halves are put in its place, the lower on top
  abbrev pub split_along : Side → ℕ → Node S → List (Node S) → Search S → Search S
  split_along line zero n r m = stop_with m.stack m
  split_along line (suc u) n r m =
      record {
        stack = child line false n ∷ child line true n ∷ r;
        settled = m.settled;
        given = m.given;
        visits = suc m.visits;
        splits = suc m.splits;
        unspent = u;
        stopped = m.stopped;
        own = not_settled;
      }

  -- "with both at 32 the node is given up and nothing is spent"
  abbrev pub divide : Option Side → ℕ → Node S → List (Node S) → Search S → Search S
  divide (Some line) u n r m = split_along line u n r m
  divide None u n r m = give_up n r m

  -- what a verdict for the top node does; nothing where no node waits
  abbrev pub on_top : Verdict → List (Node S) → Search S → Search S
  on_top (Settled tag) [] m = m
  on_top Split [] m = m
  on_top Unseparated [] m = m
  on_top (Settled tag) (n ∷ r) m =
      record {
        stack = r;
        settled = record { node = n; tag = tag; own = m.own } ∷ m.settled;
        given = m.given;
        visits = suc m.visits;
        splits = m.splits;
        unspent = m.unspent;
        stopped = m.stopped;
        own = not_settled;
      }
  on_top Split (n ∷ r) m = divide (choice_of n) m.unspent n r m
  on_top Unseparated (n ∷ r) m = give_up n r m

  abbrev pub advance : Verdict → Search S → Search S
  advance v m = on_top v m.stack m

  -- the own verdict was asked and answered
  abbrev pub remembered_as : Verdict → OwnVerdict
  remembered_as (Settled tag) = settled_by tag
  remembered_as Split = not_settled
  remembered_as Unseparated = not_settled

  abbrev pub remember : Verdict → Search S → Search S
  remember v m =
      record {
        stack = m.stack;
        settled = m.settled;
        given = m.given;
        visits = m.visits;
        splits = m.splits;
        unspent = m.unspent;
        stopped = m.stopped;
        own = remembered_as v;
      }

  -- ---- how many of the settled nodes have a tag
  abbrev pub tagged : Test → List (Settling S) → ℕ
  tagged t [] = 0
  tagged t (e ∷ l) = is_tag t e.tag + tagged t l
