-- Each of the sheets is walked as it says, by computation. Assumes nothing.
use mathlib.Core.Path.{refl}
use Rattle.walks.specs.Words.{word_at, float_at, words_from, floats_from}
use Rattle.walks.specs.Sheets.{bad_length, bad_count, size_of, part_of, word_stands, weights_of, line_kind, line_after, line_stands, range_after, lines_after, closing, pair_of, chart_of, walk_of}
use Rattle.walks.specs.Examples.{SheetsWalked}
use lib.Ieee.{of_bits}

pub sheets_walked : SheetsWalked
unfolding walk_of chart_of pair_of closing lines_after range_after line_stands line_after line_kind weights_of word_stands part_of size_of bad_count bad_length floats_from words_from float_at word_at of_bits
sheets_walked = (refl, (refl, (refl, (refl, (refl, (refl, (refl, (refl, (refl, (refl, (refl, (refl, (refl, (refl, (refl, (refl, (refl, (refl, (refl, (refl, (refl, (refl, (refl, (refl, (refl, (refl, (refl, (refl, (refl, (refl, (refl, (refl, (refl, (refl, (refl, (refl, (refl, (refl, tt))))))))))))))))))))))))))))))))))))))
