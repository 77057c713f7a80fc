-- Words and floats in a list of bytes, by the place of their first byte; past the list's end a byte reads as 0. Definitions only.
use Rattle.std.specs.Prelude.{ℕ, zero, suc, ◌+◌, ◌*◌, ◌/◌, ◌%◌, List, [], ◌∷◌, get_or, Float}
use Rattle.lists.specs.Parts.{part}
use Rattle.std.specs.Float.{binary64}
use Rattle.std.specs.Float.Ieee.{of_bits}

-- "words of 32 bits, little-endian" (`word`)
unfoldable pub word_at : List ℕ → ℕ → ℕ
word_at s at = get_or s at 0 + get_or s (at + 1) 0 * 256 + get_or s (at + 2) 0 * 65536 + get_or s (at + 3) 0 * 16777216

-- "the top 4 bits the kind, the other 28 a count N"
abbrev pub kind_of : ℕ → ℕ
kind_of w = w / 268435456

abbrev pub count_of : ℕ → ℕ
count_of w = w % 268435456

-- "N floats follow, low word first"; every NaN pattern is `nan` (`float_at`)
unfoldable pub float_at : List ℕ → ℕ → Float
float_at s at = of_bits binary64 (word_at s at + word_at s (at + 4) * 4294967296)

-- `read`: n values of w bytes each, from place `at` on, each what `value` says of its bytes
unfoldable pub values_from : {A : Type 0} → (List ℕ → A) → ℕ → List ℕ → ℕ → ℕ → List A
values_from value w s at zero = []
values_from value w s at (suc n) = value (part at w s) ∷ values_from value w s (at + w) n

-- n words, and n floats, from place `at` on (`read_words`, `read_floats`)
unfoldable pub words_from : List ℕ → ℕ → ℕ → List ℕ
words_from s at zero = []
words_from s at (suc n) = word_at s at ∷ words_from s (at + 4) n

unfoldable pub floats_from : List ℕ → ℕ → ℕ → List Float
floats_from s at zero = []
floats_from s at (suc n) = float_at s at ∷ floats_from s (at + 8) n
