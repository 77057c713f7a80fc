-- Document 01's example is printed as it says, by computation. Assumes nothing.
use mathlib.Core.Path.{refl}
use lib.Ieee.{add, sub, mul, div, neg, le, lt, eq, of_bits, sum, round, size, units, is_nan, to_bits}
use Rattle.blends.specs.Blends.{added, alpha_of, coefficient, end_of, knot_of, mix_of, point_of, points_from, summed}
use Rattle.boxes.specs.Boxes.{apart_by, bounding_box, box_size, boxes_apart, second_halved}
use Rattle.boxes.specs.Nets.{box_of, has_width, measured, measured_box, measured_in, out_of_measure}
use Rattle.boxes.specs.Points.{vectors}
use Rattle.clearing.specs.Chords.{apart_by_normal, chord_of, is_null, normal_of, separated_of}
use Rattle.clearing.specs.Extents.{apart_along, extent_of}
use Rattle.clearing.specs.Lines.{along_axis, along_one_line, is_length, is_near}
use Rattle.clearing.specs.Verdicts.{measured_verdict, tests_of, verdict_of}
use Rattle.curves.specs.Curves.{pieces_of, cuts_from, turn_of_poles}
use Rattle.cuts.specs.Cuts.{lerp_of, lower_part, rest_of, restricted, upper_part}
use Rattle.floats.specs.Floats.{greatest, least, middle, within}
use Rattle.floats.specs.Vectors.{dot_of, norm_of}
use Rattle.knots.specs.Knots.{between, bounds_in, open_bounds, flat_knots, inside, repeated, line_flat, unrolled_of}
use Rattle.lines.specs.Data.{datum_out, one_datum}
use Rattle.lines.specs.Admit.{beyond_of, ends_differ, ends_too_large, too_large, validate_knots, validate_mults, validate_poles}
use Rattle.lists.specs.Rounds.{firsts, paired, remains}
use Rattle.lists.specs.Tests.{each_two, every, total}
use Rattle.nets.specs.Points.{points_of}
use Rattle.nets.specs.Slots.{copy_slot, split_slot}
use Rattle.pieces.specs.Pieces.{cut_to, held, net_at, net_of, nets_of, share, span_bezier}
use Rattle.poles.specs.Poles.{homogeneous_of, homogeneous_poles, weight_of}
use Rattle.questions.specs.Questions.{ask_within, parted, range_fits, whole_turn}
use Rattle.roots.specs.Root.{isqrt, root_in, root_units, rounded}
use Rattle.spans.specs.Spans.{back_of, clamp_of, passed_of, reach_of, span_around, span_end, span_of, place_of}
use Rattle.walks.specs.Words.{word_at, float_at, words_from, floats_from}
use Rattle.walks.specs.Sheets.{line_kind, word_stands, bad_length, bad_count, size_of, part_of, weights_of, line_after, line_stands, closing, pair_of, walk_of}
use Rattle.texts.specs.Texts.{hex_digit, digits_of, places_in, decimal_of, hex_of, bits_of, float_text}
use Rattle.printing.specs.Printed.{counted, steps_text, settled_text, listed_text, count_line, float_texts, region_line, region_lines, refusal_line}
use Rattle.sheet.specs.Answers.{zeros, zero_depths, report_text, search_text, lines_text, zero_marks}
use Rattle.charts.specs.Answers.{answer_of}
use Rattle.whole.specs.Example.{ExamplePrinted}

pub example_printed : ExamplePrinted
unfolding one_datum datum_out zero_marks whole_turn word_stands line_kind unrolled_of line_flat turn_of_poles added along_axis along_one_line alpha_of apart_along apart_by apart_by_normal ask_within back_of between bounding_box bounds_in open_bounds box_of box_size boxes_apart chord_of clamp_of coefficient copy_slot cut_to cuts_from dot_of each_two end_of every extent_of firsts flat_knots greatest has_width held homogeneous_of homogeneous_poles inside is_length is_near is_null isqrt knot_of least lerp_of lower_part measured measured_box measured_in measured_verdict middle mix_of net_at net_of place_of nets_of norm_of normal_of out_of_measure paired parted passed_of pieces_of point_of points_from points_of range_fits reach_of remains repeated rest_of restricted root_in root_units rounded second_halved separated_of share span_around span_bezier span_end span_of split_slot summed tests_of too_large total upper_part validate_knots validate_mults ends_differ ends_too_large beyond_of validate_poles vectors verdict_of weight_of within add sub mul div neg le lt eq of_bits sum round size units is_nan to_bits word_at float_at words_from floats_from bad_length bad_count size_of part_of weights_of line_after line_stands closing pair_of walk_of hex_digit digits_of places_in decimal_of hex_of bits_of float_text counted steps_text settled_text listed_text count_line float_texts region_line region_lines refusal_line zeros zero_depths report_text search_text lines_text answer_of
example_printed = refl
