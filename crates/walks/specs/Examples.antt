-- Sheets that are walked by computation: the paper's example, closed lines in the place of open ones, charts, and small sheets with one fault each. Definitions only.
use Rattle.std.specs.Prelude.{◌≡◌, Bool, true, false, List, [], ◌∷◌, ◌++◌, ℕ, ◌+◌, ◌*◌, ◌/◌, ◌%◌, Float}
use Rattle.std.specs.Float.{binary64}
use Rattle.std.specs.Float.Ieee.{of_bits}
use Rattle.lists.specs.Members.{All}
use Rattle.lines.specs.Lines.{Line, line_of, with_datum}
use Rattle.walks.specs.Sheets.{ChartLine, Walked, walked, charted, refused_as, walk_of}

-- words as bytes; a word of kind k and count n; the floats 0, 1 and 2 as words
abbrev pub bytes : List ℕ → List ℕ
bytes [] = []
bytes (w ∷ l) = w % 256 ∷ w / 256 % 256 ∷ w / 65536 % 256 ∷ w / 16777216 ∷ bytes l

abbrev pub head : ℕ → ℕ → ℕ
head k n = k * 268435456 + n

abbrev pub nought : List ℕ
nought = 0 ∷ 0 ∷ []

abbrev pub one : List ℕ
one = 0 ∷ 0x3ff00000 ∷ []

abbrev pub two : List ℕ
two = 0 ∷ 0x40000000 ∷ []

-- the line (0,0,0) to (1,0,0), degree 1, knots 0 and 1 doubled, opened by a word of kind k: up to its poles, with a datum, with datum 1
abbrev pub undated : ℕ → List ℕ
undated k = (head k 1 ∷ head 2 2 ∷ []) ++ nought ++ one ++ (head 3 2 ∷ 2 ∷ 2 ∷ head 4 2 ∷ []) ++ nought ++ nought ++ nought ++ one ++ nought ++ nought

abbrev pub dated : ℕ → List ℕ
dated n = undated 1 ++ (head 9 n ∷ [])

abbrev pub opened : ℕ → List ℕ
opened k = undated k ++ (head 9 1 ∷ [])

abbrev pub straight : List ℕ
straight = opened 1

-- the question of S n and the range 0 to 1, with the second range and the gap as given, and the end; of whole ranges, gap 0, S 0; of a chart, gap 2, S 3
abbrev pub asking : ℕ → List ℕ → List ℕ → List ℕ
asking n second gap = (head 6 n ∷ []) ++ nought ++ one ++ second ++ gap ++ (head 7 0 ∷ [])

abbrev pub asked : List ℕ
asked = asking 0 (nought ++ one) nought

abbrev pub chart_asked : List ℕ
chart_asked = asking 3 (nought ++ nought) two

-- a line of a chart, with the range 1 to 2
abbrev pub ranged : List ℕ → List ℕ
ranged l = l ++ (head 11 0 ∷ []) ++ one ++ two

abbrev pub zero_f : Float
zero_f = of_bits binary64 0

abbrev pub one_f : Float
one_f = of_bits binary64 0x3ff0000000000000

abbrev pub two_f : Float
two_f = of_bits binary64 0x4000000000000000

abbrev pub line : Bool → Line
line closed = line_of closed 1 (zero_f ∷ one_f ∷ []) (2 ∷ 2 ∷ []) (zero_f ∷ zero_f ∷ zero_f ∷ one_f ∷ zero_f ∷ zero_f ∷ []) []

-- the same with two weights of 1
abbrev pub weighed : List ℕ
weighed = (head 5 2 ∷ []) ++ one ++ one

abbrev pub heavy : Line
heavy = line_of false 1 (zero_f ∷ one_f ∷ []) (2 ∷ 2 ∷ []) (zero_f ∷ zero_f ∷ zero_f ∷ one_f ∷ zero_f ∷ zero_f ∷ []) (one_f ∷ one_f ∷ [])

abbrev pub about : Line → Line → Walked
about a b = walked (record { line1 = a; lo1 = zero_f; hi1 = one_f; line2 = b; lo2 = zero_f; hi2 = one_f; gap = zero_f; splits = 0 })

-- the chart of the open line as track, and these lines
abbrev pub over : Line → ChartLine
over l = record { line = l; lo = one_f; hi = two_f }

abbrev pub chart : List ChartLine → Walked
chart ls = charted (record { track = record { line = line false; lo = zero_f; hi = one_f }; lines = ls; gap = two_f; splits = 3 })

-- a sheet's words, and what is read of it
pub record Sheet : Type 0 where
  pub words : List ℕ
  pub gives : Walked

abbrev pub gives : List ℕ → Walked → Sheet
gives words w = record { words = words; gives = w }

abbrev pub sheets : List Sheet
sheets =
    -- "given twice, whole ranges, gap 0, S 0"
    gives (straight ++ straight ++ asked) (about (line false) (line false))
    -- kind 8 in the place of kind 1: on the first line, on the second, on both
    ∷ gives (opened 8 ++ straight ++ asked) (about (line true) (line false))
    ∷ gives (straight ++ opened 8 ++ asked) (about (line false) (line true))
    ∷ gives (opened 8 ++ opened 8 ++ asked) (about (line true) (line true))
    -- kind 9 there: 2; kind 8 where the knots are due: 2
    ∷ gives (straight ++ opened 9 ++ asked) (refused_as 2)
    ∷ gives ((head 8 1 ∷ []) ++ opened 8 ++ straight ++ asked) (refused_as 2)
    -- the first word of another kind, with a count that nothing could meet: 2
    ∷ gives (head 2 0xfffffff ∷ []) (refused_as 2)
    -- poles of a count whose 24-fold needs 33 bits: 3
    ∷ gives (head 1 1 ∷ head 2 0 ∷ head 3 0 ∷ head 4 0xfffffff ∷ []) (refused_as 3)
    -- weights of count 0 as the last word: 2
    ∷ gives (head 1 1 ∷ head 2 0 ∷ head 3 0 ∷ head 4 0 ∷ head 5 0 ∷ []) (refused_as 2)
    -- the track alone, and no word behind it: 3; the end word where the question is due: 2
    ∷ gives straight (refused_as 3)
    ∷ gives (straight ++ (head 7 0 ∷ [])) (refused_as 2)
    -- charts of 0, 1 and 2 lines; of a closed line, of lines with weights and another datum
    ∷ gives (straight ++ chart_asked) (chart [])
    ∷ gives (straight ++ ranged straight ++ chart_asked) (chart (over (line false) ∷ []))
    ∷ gives (straight ++ ranged straight ++ ranged (dated 2) ++ chart_asked) (chart (over (line false) ∷ over (with_datum 2 (line false)) ∷ []))
    ∷ gives (straight ++ ranged (opened 8) ++ chart_asked) (chart (over (line true) ∷ []))
    ∷ gives (straight ++ ranged (undated 1 ++ weighed ++ (head 9 1 ∷ [])) ++ ranged (opened 8) ++ chart_asked) (chart (over heavy ∷ over (line true) ∷ []))
    -- a second range in the question that isn't 0, 0 is unread
    ∷ gives (straight ++ ranged straight ++ asking 3 (two ++ one) two) (chart (over (line false) ∷ []))
    ∷ gives (straight ++ asking 3 (nought ++ one) two) (chart [])
    -- kind 11 after the track, or missing after the third line: 2
    ∷ gives (ranged straight ++ chart_asked) (refused_as 2)
    ∷ gives (ranged straight ++ ranged straight ++ chart_asked) (refused_as 2)
    ∷ gives (straight ++ ranged straight ++ straight ++ chart_asked) (refused_as 2)
    -- kind 11 of count 1, on the second line and on the third: 2
    ∷ gives (straight ++ straight ++ (head 11 1 ∷ []) ++ one ++ two ++ chart_asked) (refused_as 2)
    ∷ gives (straight ++ ranged straight ++ straight ++ (head 11 1 ∷ []) ++ one ++ two ++ chart_asked) (refused_as 2)
    -- a range cut short, and no word behind a range: 3
    ∷ gives (straight ++ straight ++ (head 11 0 ∷ []) ++ one) (refused_as 3)
    ∷ gives (straight ++ ranged straight) (refused_as 3)
    -- a third line where the second has no range, with a range or without: 2
    ∷ gives (straight ++ straight ++ straight ++ asked) (refused_as 2)
    ∷ gives (straight ++ straight ++ ranged straight ++ asked) (refused_as 2)
    -- words behind the end of a chart: 3
    ∷ gives (straight ++ ranged straight ++ chart_asked ++ straight) (refused_as 3)
    -- a datum of any count is read, behind the weights where there are any
    ∷ gives (dated 9999 ++ dated 2 ++ asked) (about (with_datum 9999 (line false)) (with_datum 2 (line false)))
    ∷ gives (dated 0 ++ dated 0xfffffff ++ asked) (about (with_datum 0 (line false)) (with_datum 0xfffffff (line false)))
    ∷ gives (undated 1 ++ weighed ++ (head 9 1 ∷ []) ++ straight ++ asked) (about heavy (line false))
    -- another word in its place: 2, on either line, a weights word behind it too; no word: 3
    ∷ gives (undated 1 ++ undated 1 ++ asked) (refused_as 2)
    ∷ gives (straight ++ undated 1 ++ asked) (refused_as 2)
    ∷ gives (straight ++ weighed ++ straight ++ asked) (refused_as 2)
    ∷ gives (undated 1) (refused_as 3)
    ∷ gives (straight ++ undated 8) (refused_as 3)
    -- an end word of count 1 with a word behind it: 2; of count 0: 3
    ∷ gives (straight ++ straight ++ (head 6 0 ∷ []) ++ nought ++ one ++ nought ++ one ++ nought ++ (head 7 1 ∷ 0 ∷ [])) (refused_as 2)
    ∷ gives (straight ++ straight ++ (head 6 0 ∷ []) ++ nought ++ one ++ nought ++ one ++ nought ++ (head 7 0 ∷ 0 ∷ [])) (refused_as 3)
    ∷ []

abbrev pub SheetsWalked : Type 0
SheetsWalked = All (λ (s : Sheet). walk_of (bytes s.words) ≡ s.gives) sheets
