-- What a report says: the word, and the report slice afterwards (document 01, module Merging and the paragraph on number 19). Definitions only.
use Rattle.std.specs.Prelude.{List, ◌++◌, ℕ, zero, suc, ◌-◌, ◌*◌, length, replicate, Float}
use Rattle.lists.specs.Parts.{patch}
use Rattle.floats.specs.Floats.{zero64}
use Rattle.regions.specs.declared.Region.{Region}
use Rattle.regions.specs.declared.Word.{Word}
use Rattle.regions.specs.declared.Word.TheVariants.{Complete, Budget, Unseparated}
use Rattle.regions.specs.Regions.{flats}

-- complete if nothing was given up or left; budget if a node is left; else unseparated
abbrev pub word_for : ℕ → ℕ → Word
word_for zero zero = Complete
word_for (suc given) zero = Unseparated
word_for given (suc left) = Budget

abbrev pub word_number : Word → ℕ
word_number Complete = 0
word_number Budget = 1
word_number Unseparated = 2

-- the merged regions, then +0 up to the raw list's length of n regions; the rest of the slice as it was
abbrev pub report_slice : ℕ → List Region → List Float → List Float
report_slice n out slice = patch slice 0 (flats out ++ replicate (n * 10 - length out * 10) zero64)
