-- Stations and pieces: what a range holds, and a line cut into pieces (document 01: "A station is any double in the asked range; a range holds both its ends"). Definitions only.
use Rattle.std.specs.Prelude.{List, [], ◌∷◌, T, Float}
use Rattle.std.specs.Float.Ieee.{le}

-- the station s lies from lo to hi, both ends included; no NaN does
abbrev pub InRange : Float → Float → Float → Type 0
InRange lo hi s = T (le lo s) × T (le s hi)

-- one line's range and net
pub record Piece : Type 0 where
  pub lo : Float
  pub hi : Float
  pub net : List Float

-- where a piece ends, and its net; it starts where the one before ends
pub record Cut : Type 0 where
  pub to : Float
  pub net : List Float

abbrev pub pieces_from : Float → List Cut → List Piece
pieces_from from [] = []
pieces_from from (c ∷ cs) = record { lo = from; hi = c.to; net = c.net } ∷ pieces_from c.to cs

-- where the last piece ends
abbrev pub end_from : Float → List Cut → Float
end_from from [] = from
end_from from (c ∷ cs) = end_from c.to cs
