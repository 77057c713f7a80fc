-- Document 01's table, numbers 4 to 14, and document 02's 22 of a closed line: what is wrong with a line. Definitions only.
use Rattle.std.specs.Prelude.{ℕ, ◌+◌, ◌-◌, ◌/◌, ◌%◌, ◌≤◌, Bool, cond, not, ◌&&◌, ◌||◌, List, get_or, length, take, drop, ltb, leb, eqb, Float, Result, Ok, Err}
use Rattle.std.specs.Float.{binary64}
use Rattle.std.specs.Float.Ieee.{lt, neg, of_bits}
use Rattle.lists.specs.Tests.{every, each_two, total}
use Rattle.floats.specs.Floats.{within}
use Rattle.lines.specs.Lines.{Line}
use Rattle.lines.specs.declared.LineError.{LineError}
use Rattle.lines.specs.declared.LineError.TheVariants.{InvalidDegree, KnotCount, KnotOutOfRange, KnotsNotIncreasing, EndMultiplicitiesDiffer, MultiplicityTooLarge, ZeroMultiplicity, PoleCountMismatch, PoleCountOutOfRange, WeightCountMismatch, WeightOutOfRange, CoordinateOutOfRange}

-- the table's number for each case
abbrev pub line_error_number : LineError → ℕ
line_error_number InvalidDegree = 4
line_error_number KnotCount = 5
line_error_number KnotOutOfRange = 6
line_error_number KnotsNotIncreasing = 7
line_error_number EndMultiplicitiesDiffer = 22
line_error_number MultiplicityTooLarge = 8
line_error_number ZeroMultiplicity = 9
line_error_number PoleCountMismatch = 10
line_error_number PoleCountOutOfRange = 11
line_error_number WeightCountMismatch = 12
line_error_number WeightOutOfRange = 13
line_error_number CoordinateOutOfRange = 14

-- a degree of at most 25, and two multiplicities or more: what the tests after number 5 rest on
abbrev pub HasMults : ℕ → List ℕ → Type 0
HasMults degree mults = (degree ≤ 25) × (2 ≤ length mults)

-- 2^20, 2^24, 2^10 and 2^−10
abbrev pub two20 : Float
two20 = of_bits binary64 0x4130_0000_0000_0000

abbrev pub two24 : Float
two24 = of_bits binary64 0x4170_0000_0000_0000

abbrev pub two10 : Float
two10 = of_bits binary64 0x4090_0000_0000_0000

abbrev pub one1024th : Float
one1024th = of_bits binary64 0x3f50_0000_0000_0000

-- all but the first and the last: `mults[1..last]` of `validate_direction`
abbrev pub inner : List ℕ → List ℕ
inner l = take (length l - 1 - 1) (drop 1 l)

-- 4: degree isn't 1 to 25
abbrev pub degree_out : ℕ → Bool
degree_out degree = ltb degree 1 || ltb 25 degree

-- 5: fewer than 2 or over 128 distinct knots, or as many multiplicities don't come
abbrev pub knot_count_out : List Float → List ℕ → Bool
knot_count_out knots mults = ltb (length knots) 2 || ltb 128 (length knots) || not (eqb (length mults) (length knots))

-- 6: a knot isn't finite or is beyond ±2^20
abbrev pub knot_out : List Float → Bool
knot_out knots = not (every (within (neg two20) two20) knots)

-- 7: a knot is not above the one before
abbrev pub not_increasing : List Float → Bool
not_increasing knots = not (each_two lt knots)

-- 22: the end multiplicities of a closed line differ
unfoldable pub ends_differ : Bool → List ℕ → Bool
ends_differ closed mults = closed && not (eqb (get_or mults 0 0) (get_or mults (length mults - 1) 0))

-- 8 of an open line: an end multiplicity is over degree + 1, or an inner one over degree
unfoldable pub ends_too_large : ℕ → List ℕ → Bool
ends_too_large degree mults =
    ltb (degree + 1) (get_or mults 0 0) || ltb (degree + 1) (get_or mults (length mults - 1) 0) || not (every (λ m. leb m degree) (inner mults))

-- 8: on a closed line none may be over the degree
unfoldable pub too_large : Bool → ℕ → List ℕ → Bool
too_large closed degree mults = cond closed (not (every (λ m. leb m degree) mults)) (ends_too_large degree mults)

-- 9: a multiplicity is 0
abbrev pub zero_mult : List ℕ → Bool
zero_mult mults = not (every (λ m. ltb 0 m) mults)

-- what the sum of the multiplicities exceeds the poles by: degree + 1, on a closed line the last multiplicity
unfoldable pub beyond_of : Bool → ℕ → List ℕ → ℕ
beyond_of closed degree mults = cond closed (get_or mults (length mults - 1) 0) (degree + 1)

-- 10: coordinates are no multiple of 3, or poles ≠ sum of multiplicities − degree − 1, on a closed line sum − last multiplicity
abbrev pub pole_mismatch : Bool → ℕ → List ℕ → List Float → Bool
pole_mismatch closed degree mults coords = not (eqb (length coords % 3) 0) || not (eqb (length coords / 3 + beyond_of closed degree mults) (total mults))

-- 11: poles are fewer than degree + 1 or over 128
abbrev pub pole_count_out : ℕ → List Float → Bool
pole_count_out degree coords = ltb (length coords / 3) (degree + 1) || ltb 128 (length coords / 3)

-- 12: there are weights, but not one a pole
abbrev pub weight_mismatch : List Float → List Float → Bool
weight_mismatch coords weights = not (eqb (length weights) 0 || eqb (length weights) (length coords / 3))

-- 13: a weight isn't from 2^−10 to 2^10
abbrev pub weight_out : List Float → Bool
weight_out weights = not (every (within one1024th two10) weights)

-- 14: a coordinate isn't within ±2^24
abbrev pub coord_out : List Float → Bool
coord_out coords = not (every (within (neg two24) two24) coords)

-- numbers 4 to 7 in the table's order; `next` where none of them is met
unfoldable pub validate_knots : ℕ → List Float → List ℕ → Result Unit LineError → Result Unit LineError
validate_knots degree knots mults next =
    cond (degree_out degree) (Err InvalidDegree)
    (cond (knot_count_out knots mults) (Err KnotCount)
    (cond (knot_out knots) (Err KnotOutOfRange)
    (cond (not_increasing knots) (Err KnotsNotIncreasing) next)))

-- "22 when the end multiplicities differ, tested after 7", then 8 and 9; `next` where none of them is met
unfoldable pub validate_mults : Bool → ℕ → List ℕ → Result Unit LineError → Result Unit LineError
validate_mults closed degree mults next =
    cond (ends_differ closed mults) (Err EndMultiplicitiesDiffer)
    (cond (too_large closed degree mults) (Err MultiplicityTooLarge)
    (cond (zero_mult mults) (Err ZeroMultiplicity) next))

-- both, one after the other (`validate_direction`; 6 and 9 added)
abbrev pub validate_direction : Bool → ℕ → List Float → List ℕ → Result Unit LineError → Result Unit LineError
validate_direction closed degree knots mults next = validate_knots degree knots mults (validate_mults closed degree mults next)

-- numbers 10 to 14 in the table's order (the pole count of `validate_direction`, the weights of `BSplineCurve3D`'s constructors, the added limits)
unfoldable pub validate_poles : Bool → ℕ → List ℕ → List Float → List Float → Result Unit LineError
validate_poles closed degree mults coords weights =
    cond (pole_mismatch closed degree mults coords) (Err PoleCountMismatch)
    (cond (pole_count_out degree coords) (Err PoleCountOutOfRange)
    (cond (weight_mismatch coords weights) (Err WeightCountMismatch)
    (cond (weight_out weights) (Err WeightOutOfRange)
    (cond (coord_out coords) (Err CoordinateOutOfRange) (Ok tt)))))

-- 4 to 14 and 22: `admit`
abbrev pub admit_of : Line → Result Unit LineError
admit_of l = validate_direction l.closed l.degree l.knots l.mults (validate_poles l.closed l.degree l.mults l.coords l.weights)
