-- All that the pieces of a line, an opening, a search and a report compute with, by one name: `unfolding computed` is enough for a proof by computation.
use lib.Ieee.{of_int, add, sub, mul, div, neg, le, lt, eq, of_bits, sum, round, size, units, is_nan, to_bits}
use Rattle.blends.specs.Blends.{added, alpha_of, coefficient, end_of, knot_of, mix_of, point_of, points_from, summed}
use Rattle.boxes.specs.Boxes.{apart_by, bounding_box, box_size, boxes_apart, second_halved}
use Rattle.boxes.specs.Nets.{box_of, has_width, measured, measured_box, measured_in, out_of_measure, room}
use Rattle.boxes.specs.Points.{vectors}
use Rattle.clearing.specs.Chords.{apart_by_normal, chord_of, is_null, normal_of, separated_of}
use Rattle.clearing.specs.Extents.{apart_along, extent_of}
use Rattle.clearing.specs.Lines.{along_axis, along_one_line, is_length, is_near}
use Rattle.clearing.specs.Verdicts.{measured_verdict, tests_of, verdict_of}
use Rattle.curves.specs.Curves.{pieces_of, cuts_from, around_of, turn_of_poles}
use Rattle.cuts.specs.Cuts.{lerp_of, lower_part, rest_of, restricted, upper_part}
use Rattle.floats.specs.Floats.{floor_of, greatest, least, middle, within}
use Rattle.floats.specs.Vectors.{dot_of, norm_of}
use Rattle.knots.specs.Knots.{between, bounds_in, open_bounds, flat_knots, inside, repeated, shifted, turn_flat, line_flat, unrolled_of}
use Rattle.lines.specs.Data.{datum_out, one_datum}
use Rattle.lines.specs.Admit.{beyond_of, ends_differ, ends_too_large, too_large, validate_knots, validate_mults, validate_poles}
use Rattle.lists.specs.Rounds.{firsts, paired, remains}
use Rattle.lists.specs.Tests.{each_two, every, total}
use Rattle.nets.specs.Points.{points_of}
use Rattle.nets.specs.Slots.{copy_slot, split_slot}
use Rattle.pieces.specs.Pieces.{cut_to, held, net_at, net_of, nets_of, share, span_bezier}
use Rattle.poles.specs.Poles.{homogeneous_of, homogeneous_poles, weight_of}
use Rattle.questions.specs.Questions.{ask_within, parted, range_fits, turn_fits, whole_turn}
use Rattle.roots.specs.Root.{isqrt, root_in, root_units, rounded}
use Rattle.spans.specs.Spans.{back_of, clamp_of, passed_of, place_in, place_of, in_period, start_unless, turned_back, turn_span, reach_of, span_around, span_end, span_of}

unfoldable pub computed : Unit {0}
unfolding one_datum datum_out turn_fits turn_flat shifted around_of place_in turn_span start_unless in_period turned_back floor_of of_int beyond_of whole_turn unrolled_of line_flat turn_of_poles added along_axis along_one_line alpha_of apart_along apart_by apart_by_normal ask_within back_of between bounding_box bounds_in open_bounds box_of box_size boxes_apart chord_of clamp_of coefficient copy_slot cut_to cuts_from dot_of each_two end_of every extent_of firsts flat_knots greatest has_width held homogeneous_of homogeneous_poles inside is_length is_near is_null isqrt knot_of least lerp_of lower_part measured measured_box measured_in measured_verdict middle mix_of net_at net_of place_of nets_of norm_of normal_of out_of_measure paired parted passed_of pieces_of point_of points_from points_of range_fits reach_of remains repeated rest_of restricted room root_in root_units rounded second_halved separated_of share span_around span_bezier span_end span_of split_slot summed tests_of too_large total upper_part validate_knots validate_mults ends_differ ends_too_large validate_poles vectors verdict_of weight_of within add sub mul div neg le lt eq of_bits sum round size units is_nan to_bits
computed = tt
