-- Laws of the nets' room, of the lists that the nets are made of, and of one piece among all. Assumes nothing.
use mathlib.Core.Path.{◌≡◌, refl, ap}
use mathlib.Core.Bool.{Bool, true, false}
use mathlib.Core.List.{List, ◌++◌}
use Prim.Native.Nat.{ℕ, ◌+◌, ◌-◌, ◌*◌, ◌/◌, ◌≤◌, ◌<◌}
use native.Mathlib.Omega.{arith}
use lib.ListN.{length, get_or}
use lib.Ieee.{Float, nan}
use Rattle.lists.specs.Parts.{patch, block}
use Rattle.lists.specs.Tests.{total}
use Rattle.lines.specs.Lines.{Line}
use Rattle.lines.specs.Admit.{beyond_of}
use Rattle.knots.specs.Knots.{turn_poles, unrolled_of, breaks_in, flat_of, knots_of, breaks_of}
use Rattle.pieces.specs.Pieces.{net_of, nets_of}
use Rattle.pieces.proofs.Lengths.{net_at_lem}
use Rattle.curves.specs.Curves.{count_in, poles_of, around_of, turn_of_poles, net_poles, pieces_of}

-- room for the pieces of equal knots
pub count_at : {l l' : List Float} (lo hi : Float) (k m : ℕ) → l ≡ l' → count_in lo hi l' * k ≤ m → count_in lo hi l * k ≤ m
count_at lo hi k m e h = rw e h

-- ---- `with_poles` on a closed line, and on an open one
module _ (closed : Bool) (d : ℕ) where
  pub turn_count : (n k : ℕ) → closed ≡ true → k ≡ turn_poles closed d n + (d + 1) → k ≡ n + d + (d + 1)
  turn_count n k c h = rw c at h

  pub open_count : (n k : ℕ) → closed ≡ false → k ≡ turn_poles closed d n + (d + 1) → k ≡ n + (d + 1)
  open_count n k c h = rw c at h

  pub last_is : (mults : List ℕ) → closed ≡ true → get_or mults (length mults - 1) 0 ≡ beyond_of closed d mults
  unfolding beyond_of
  last_is mults c = rw c refl

  pub turned : {n n' m m' : ℕ} {flat flat' : List Float} (lo hi : Float) (knots poles out : List Float) → closed ≡ true → n ≡ n' → m ≡ m' → flat ≡ flat'
      → patch out 0 (nets_of true d (unrolled_of true knots) flat (around_of n m (n + d) 0 poles) (breaks_in lo hi (unrolled_of true knots)))
      ≡ patch out 0 (nets_of closed d (unrolled_of closed knots) flat' (turn_of_poles closed d n' m' poles) (breaks_in lo hi (unrolled_of closed knots)))
  unfolding turn_of_poles
  turned lo hi knots poles out c f g h = rw (c, f, g, h) refl

  pub opened : (n m : ℕ) {flat flat' : List Float} (lo hi : Float) (knots poles out : List Float) → closed ≡ false → flat ≡ flat'
      → patch out 0 (nets_of closed d knots flat poles (breaks_in lo hi knots))
      ≡ patch out 0 (nets_of closed d (unrolled_of closed knots) flat' (turn_of_poles closed d n m poles) (breaks_in lo hi (unrolled_of closed knots)))
  unfolding turn_of_poles unrolled_of
  opened n m lo hi knots poles out c h = rw (c, h) refl

-- the nets from a line's poles, as many as its multiplicities say, are the line's pieces
pub pieces_of_lem : (l : Line) (lo hi : Float) (h out : List Float)
    → let m = beyond_of l.closed l.degree l.mults in
    length l.coords / 3 + m ≡ total l.mults → h ≡ poles_of l
    → patch out 0 (nets_of l.closed l.degree (knots_of l) (flat_of l) (turn_of_poles l.closed l.degree (total l.mults - m) m h) (breaks_of l lo hi)) ≡ patch out 0 (pieces_of l lo hi)
unfolding pieces_of
pieces_of_lem l lo hi h out count e =
    let m = beyond_of l.closed l.degree l.mults in
    let n : total l.mults - m ≡ length l.coords / 3 = omega arith in
    ap (λ (ps : List Float). patch out 0 (nets_of l.closed l.degree (knots_of l) (flat_of l) ps (breaks_of l lo hi)))
    (rw n (ap (turn_of_poles l.closed l.degree (length l.coords / 3) m) e))

-- ---- piece i, read from the pieces with anything behind, is the net of breaks i and i + 1
pub piece_at : (l : Line) (lo hi : Float) (rest : List Float) (i : ℕ) → i + 1 < length (breaks_of l lo hi)
    → block (4 * (l.degree + 1)) i (pieces_of l lo hi ++ rest)
    ≡ net_of l.closed l.degree (knots_of l) (flat_of l) (net_poles l) (get_or (breaks_of l lo hi) i nan) (get_or (breaks_of l lo hi) (i + 1) nan)
unfolding pieces_of
piece_at l lo hi rest i h = net_at_lem l.closed l.degree (knots_of l) _ _ (breaks_of l lo hi) rest i h
