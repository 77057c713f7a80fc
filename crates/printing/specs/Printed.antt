-- What is printed, byte by byte in ASCII: the line of counts, a region's line, a refusal's line. Definitions only.
use Rattle.std.specs.Prelude.{ℕ, zero, suc, List, [], ◌∷◌, ◌++◌, get_or, Float}
use Rattle.lists.specs.Parts.{block}
use Rattle.texts.specs.Texts.{decimal_of, float_text}
use Rattle.regions.specs.declared.Word.{Word}
use Rattle.regions.specs.declared.Word.TheVariants.{Complete, Budget, Unseparated}
use Rattle.states.specs.declared.Counts.{Counts}

-- ---- the words of 01's printed example

-- "complete"
abbrev pub complete_text : List ℕ
complete_text = 99 ∷ 111 ∷ 109 ∷ 112 ∷ 108 ∷ 101 ∷ 116 ∷ 101 ∷ []

-- "budget"
abbrev pub budget_text : List ℕ
budget_text = 98 ∷ 117 ∷ 100 ∷ 103 ∷ 101 ∷ 116 ∷ []

-- "unseparated"
abbrev pub unseparated_text : List ℕ
unseparated_text = 117 ∷ 110 ∷ 115 ∷ 101 ∷ 112 ∷ 97 ∷ 114 ∷ 97 ∷ 116 ∷ 101 ∷ 100 ∷ []

-- " pairs="
abbrev pub pairs_name : List ℕ
pairs_name = 32 ∷ 112 ∷ 97 ∷ 105 ∷ 114 ∷ 115 ∷ 61 ∷ []

-- " visits="
abbrev pub visits_name : List ℕ
visits_name = 32 ∷ 118 ∷ 105 ∷ 115 ∷ 105 ∷ 116 ∷ 115 ∷ 61 ∷ []

-- " splits="
abbrev pub splits_name : List ℕ
splits_name = 32 ∷ 115 ∷ 112 ∷ 108 ∷ 105 ∷ 116 ∷ 115 ∷ 61 ∷ []

-- " settled="
abbrev pub settled_name : List ℕ
settled_name = 32 ∷ 115 ∷ 101 ∷ 116 ∷ 116 ∷ 108 ∷ 101 ∷ 100 ∷ 61 ∷ []

-- " box="
abbrev pub box_name : List ℕ
box_name = 32 ∷ 98 ∷ 111 ∷ 120 ∷ 61 ∷ []

-- " plane="
abbrev pub plane_name : List ℕ
plane_name = 32 ∷ 112 ∷ 108 ∷ 97 ∷ 110 ∷ 101 ∷ 61 ∷ []

-- " line="
abbrev pub line_name : List ℕ
line_name = 32 ∷ 108 ∷ 105 ∷ 110 ∷ 101 ∷ 61 ∷ []

-- " given="
abbrev pub given_name : List ℕ
given_name = 32 ∷ 103 ∷ 105 ∷ 118 ∷ 101 ∷ 110 ∷ 61 ∷ []

-- " left="
abbrev pub left_name : List ℕ
left_name = 32 ∷ 108 ∷ 101 ∷ 102 ∷ 116 ∷ 61 ∷ []

-- " regions="
abbrev pub regions_name : List ℕ
regions_name = 32 ∷ 114 ∷ 101 ∷ 103 ∷ 105 ∷ 111 ∷ 110 ∷ 115 ∷ 61 ∷ []

-- "region"
abbrev pub region_text : List ℕ
region_text = 114 ∷ 101 ∷ 103 ∷ 105 ∷ 111 ∷ 110 ∷ []

-- "refused "
abbrev pub refused_text : List ℕ
refused_text = 114 ∷ 101 ∷ 102 ∷ 117 ∷ 115 ∷ 101 ∷ 100 ∷ 32 ∷ []

-- a space, and a line's end
abbrev pub space : List ℕ
space = 32 ∷ []

abbrev pub newline : List ℕ
newline = 10 ∷ []

-- ---- how long a line can be, twenty digits for each number
abbrev pub counts_length : ℕ
counts_length = 284

abbrev pub region_length : ℕ
region_length = 198

abbrev pub refusal_length : ℕ
refusal_length = 50

-- ---- lines

-- a name and a number (`put_count`)
unfoldable pub counted : List ℕ → ℕ → List ℕ
counted name n = name ++ decimal_of n

-- "The first word is complete, budget or unseparated" (`put_word`)
abbrev pub word_text : Word → List ℕ
word_text Complete = complete_text
word_text Budget = budget_text
word_text Unseparated = unseparated_text

-- "pairs=1 visits=1 splits=0" (`put_steps`)
unfoldable pub steps_text : Counts → List ℕ
steps_text c = counted pairs_name c.pairs ++ counted visits_name c.visits ++ counted splits_name c.splits

-- "settled=0", and "The three sum to settled and are printed as box=, plane= and line= after it" (`put_settled`)
unfoldable pub settled_text : Counts → List ℕ
settled_text c = counted settled_name c.settled ++ counted box_name c.boxes ++ counted plane_name c.planes ++ counted line_name c.lines

-- "given=1 left=0" (`put_listed`)
unfoldable pub listed_text : Counts → List ℕ
listed_text c = counted given_name c.given ++ counted left_name c.left

-- the line of counts, n the number of regions (`put_counts`)
unfoldable pub count_line : Word → Counts → ℕ → List ℕ
count_line w c n = word_text w ++ steps_text c ++ settled_text c ++ listed_text c ++ counted regions_name n ++ newline

-- floats one after the other, a space before each (`put_floats`)
unfoldable pub float_texts : List Float → List ℕ
float_texts [] = []
float_texts (x ∷ l) = float_text x ++ float_texts l

-- "A region gives first lo, hi, second lo, hi, lowest x, y, z, highest x, y, z: bits in hexadecimal"; "A region's printed line ends with its mark in decimal" (`put_region`)
unfoldable pub region_line : List Float → ℕ → List ℕ
region_line r mark = region_text ++ float_texts r ++ counted space mark ++ newline

-- the lines of the first n regions of a list of ten floats each, and of their marks (`put_regions`)
unfoldable pub region_lines : ℕ → List Float → List ℕ → List ℕ
region_lines zero l marks = []
region_lines (suc n) l marks = region_lines n l marks ++ region_line (block 10 n l) (get_or marks n 0)

-- "A refusal prints one line, parted by single spaces: "refused", the number, and 1 or 2 for a line's fault, range or breaks, else 0" (`put_refusal`)
unfoldable pub refusal_line : ℕ → ℕ → List ℕ
refusal_line number line = counted refused_text number ++ counted space line ++ newline
