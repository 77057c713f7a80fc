-- Document 01's printed example, from the sheet's bytes to the printed ones. Definitions only.
use Rattle.std.specs.Prelude.{◌≡◌, List, [], ◌∷◌, ◌++◌, map, ℕ, ◌/◌, ◌%◌, replicate}
use Rattle.lists.specs.Parts.{joined}
use Rattle.charts.specs.Answers.{answer_of}

-- "Words of 32 bits, little-endian"
abbrev pub word_bytes : ℕ → List ℕ
word_bytes w = w % 256 ∷ w / 256 % 256 ∷ w / 65536 % 256 ∷ w / 16777216 ∷ []

-- "the line (0,0,0) to (1,0,0), degree 1, knots 0 and 1 doubled", a float's low word first; "Document 01's printed sheet carries datum 1 twice"
abbrev pub line_words : List ℕ
line_words =
    0x1000_0001
    ∷ 0x2000_0002 ∷ 0 ∷ 0 ∷ 0 ∷ 0x3ff0_0000
    ∷ 0x3000_0002 ∷ 2 ∷ 2
    ∷ 0x4000_0002 ∷ 0 ∷ 0 ∷ 0 ∷ 0 ∷ 0 ∷ 0 ∷ 0 ∷ 0x3ff0_0000 ∷ 0 ∷ 0 ∷ 0 ∷ 0
    ∷ 0x9000_0001 ∷ []

-- "given twice, whole ranges, gap 0, S 0"
abbrev pub example : List ℕ
example = joined (map word_bytes (line_words ++ (line_words ++ (0x6000_0000 ∷ 0 ∷ 0 ∷ 0 ∷ 0x3ff0_0000 ∷ 0 ∷ 0 ∷ 0 ∷ 0x3ff0_0000 ∷ 0 ∷ 0 ∷ 0x7000_0000 ∷ []))))

-- "unseparated pairs=1 visits=1 splits=0 settled=0 box=0 plane=0 line=0 given=1 left=0 regions=1" and the line's end
abbrev pub count_bytes : List ℕ
count_bytes =
    117 ∷ 110 ∷ 115 ∷ 101 ∷ 112 ∷ 97 ∷ 114 ∷ 97 ∷ 116 ∷ 101 ∷ 100
    ∷ 32 ∷ 112 ∷ 97 ∷ 105 ∷ 114 ∷ 115 ∷ 61 ∷ 49
    ∷ 32 ∷ 118 ∷ 105 ∷ 115 ∷ 105 ∷ 116 ∷ 115 ∷ 61 ∷ 49
    ∷ 32 ∷ 115 ∷ 112 ∷ 108 ∷ 105 ∷ 116 ∷ 115 ∷ 61 ∷ 48
    ∷ 32 ∷ 115 ∷ 101 ∷ 116 ∷ 116 ∷ 108 ∷ 101 ∷ 100 ∷ 61 ∷ 48
    ∷ 32 ∷ 98 ∷ 111 ∷ 120 ∷ 61 ∷ 48
    ∷ 32 ∷ 112 ∷ 108 ∷ 97 ∷ 110 ∷ 101 ∷ 61 ∷ 48
    ∷ 32 ∷ 108 ∷ 105 ∷ 110 ∷ 101 ∷ 61 ∷ 48
    ∷ 32 ∷ 103 ∷ 105 ∷ 118 ∷ 101 ∷ 110 ∷ 61 ∷ 49
    ∷ 32 ∷ 108 ∷ 101 ∷ 102 ∷ 116 ∷ 61 ∷ 48
    ∷ 32 ∷ 114 ∷ 101 ∷ 103 ∷ 105 ∷ 111 ∷ 110 ∷ 115 ∷ 61 ∷ 49 ∷ 10 ∷ []

-- " 0000000000000000"
abbrev pub zero_bytes : List ℕ
zero_bytes = 32 ∷ replicate 16 48

-- " 3FF0000000000000"
abbrev pub one_bytes : List ℕ
one_bytes = 32 ∷ 51 ∷ 70 ∷ 70 ∷ replicate 13 48

-- "region", four ends of ranges, the lowest and the highest x, y, z, and " 0", the mark
abbrev pub region_bytes : List ℕ
region_bytes =
    (114 ∷ 101 ∷ 103 ∷ 105 ∷ 111 ∷ 110 ∷ [])
    ++ (joined (zero_bytes ∷ one_bytes ∷ zero_bytes ∷ one_bytes ∷ zero_bytes ∷ zero_bytes ∷ zero_bytes ∷ one_bytes ∷ zero_bytes ∷ zero_bytes ∷ []) ++ (32 ∷ 48 ∷ 10 ∷ []))

abbrev pub ExamplePrinted : Type 0
ExamplePrinted = answer_of example ≡ count_bytes ++ region_bytes
