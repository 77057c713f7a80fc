-- Document 01's starred lines as one list of cases: roots, the pieces of a line, and whole searches (the opening, the loop with the own verdicts, the report, in as much memory
-- as they need). A second list has nets with the Rust's bits and the bounds of a line with free ends; last, searches with several pieces. Definitions only.
use Rattle.std.specs.Prelude.{◌≡◌, Bool, true, false, List, [], ◌∷◌, map, ℕ, suc, ◌*◌, replicate, take, Float, Result, Ok, Err}
use Rattle.std.specs.Float.{binary64}
use Rattle.std.specs.Float.Ieee.{of_bits, to_bits}
use Rattle.roots.specs.Root.{root_of}
use Rattle.floats.specs.Floats.{zero64, one64, half64}
use Rattle.regions.specs.Reports.{word_number}
use Rattle.lines.specs.Lines.{Line, Question, with_datum}
use Rattle.curves.specs.Curves.{pieces_of}
use Rattle.facts.specs.Faults.{asked_place}
use Rattle.states.specs.declared.State.{State}
use Rattle.states.specs.declared.StepError.{StepError}
use Rattle.states.specs.States.{Memory, memory, step_error_number}
use Rattle.nodes.specs.Nets.{geometry}
use Rattle.search.specs.Runs.{run_def}
use Rattle.questions.specs.Questions.{whole_turn}
use Rattle.report.specs.declared.Summary.{Summary}
use Rattle.report.specs.declared.ReportError.{ReportError}
use Rattle.report.specs.Reports.{Output, output, report_error_number, report_def}
use Rattle.opening.specs.declared.OpenError.{OpenError}
use Rattle.opening.specs.Opens.{open_error_number, open_def}

-- 2, 3, 4, 4.5, 5, 6, 7, 9, 10 and 12
abbrev pub two64 : Float
two64 = of_bits binary64 0x4000_0000_0000_0000

abbrev pub three64 : Float
three64 = of_bits binary64 0x4008_0000_0000_0000

abbrev pub four64 : Float
four64 = of_bits binary64 0x4010_0000_0000_0000

abbrev pub four_and_half64 : Float
four_and_half64 = of_bits binary64 0x4012_0000_0000_0000

abbrev pub five64 : Float
five64 = of_bits binary64 0x4014_0000_0000_0000

abbrev pub six64 : Float
six64 = of_bits binary64 0x4018_0000_0000_0000

abbrev pub seven64 : Float
seven64 = of_bits binary64 0x401c_0000_0000_0000

abbrev pub nine64 : Float
nine64 = of_bits binary64 0x4022_0000_0000_0000

abbrev pub ten64 : Float
ten64 = of_bits binary64 0x4024_0000_0000_0000

abbrev pub twelve64 : Float
twelve64 = of_bits binary64 0x4028_0000_0000_0000

-- the straight line from (x0, y0, 0) to (x1, y1, 0), degree 1, knots 0 and 1 doubled
abbrev pub straight : Float → Float → Float → Float → Line
straight x0 y0 x1 y1 = record { closed = false; degree = 1; knots = zero64 ∷ one64 ∷ []; mults = 2 ∷ 2 ∷ []; coords = x0 ∷ y0 ∷ zero64 ∷ x1 ∷ y1 ∷ zero64 ∷ []; weights = []; datum = 1 }

-- both whole ranges of two such lines
abbrev pub question : Line → Line → Float → ℕ → Question
question a b gap splits = record { line1 = a; lo1 = zero64; hi1 = one64; line2 = b; lo2 = zero64; hi2 = one64; gap = gap; splits = splits }

-- memory for one pair
abbrev pub room : ℕ → Memory
room splits = memory (replicate 520 zero64) (replicate 520 zero64) (replicate 260 zero64) (replicate 130 0) (replicate (suc splits * 10) zero64)

-- an answer in numbers: the word's; pairs, visits, splits, settled, of these by box, plane and line, given, left and the allowance unspent; the regions' floats and marks; the range ends of the nodes left. Or a refusal's number.
pub record Answer : Type 0 where
  pub word : ℕ
  pub counts : List ℕ
  pub regions : List Float
  pub marks : List ℕ
  pub left : List Float

abbrev pub refused : ℕ → Answer
refused n = record { word = n; counts = []; regions = []; marks = []; left = [] }

abbrev pub told : Result Summary ReportError → Output → List Float → Answer
told (Ok r) o ranges =
    let c = r.counts in
    record {
      word = word_number r.word;
      counts = c.pairs ∷ c.visits ∷ c.splits ∷ c.settled ∷ c.boxes ∷ c.planes ∷ c.lines ∷ c.given ∷ c.left ∷ c.unspent ∷ [];
      regions = take (r.regions * 10) o.regions;
      marks = take r.regions o.marks;
      left = take (c.left * 4) ranges;
    }
told (Err e) o ranges = refused (report_error_number e)

abbrev pub reported_of : ℕ → Result State StepError → Memory → Answer
reported_of splits (Ok x) u = let r = report_def geometry x u (output (replicate (suc splits * 10) zero64) (replicate (suc splits) 0)) in told r.answer r.output r.memory.ranges
reported_of splits (Err e) u = refused (step_error_number e)

abbrev pub ran_from : ℕ → Result State OpenError → Memory → Answer
ran_from splits (Ok x) u = let o = run_def geometry x u in reported_of splits o.answer o.memory
ran_from splits (Err e) u = refused (open_error_number e)

abbrev pub search : Question → Answer
search q = let o = open_def q (replicate 8 zero64) (replicate 8 zero64) (room q.splits) in ran_from q.splits o.answer o.memory

-- A case: a number and its root by their patterns; a line, a range of it and its pieces' nets, four numbers a point; a question with the number and the line of what is wrong with
-- it, 0 and 0 if nothing is; a question and its answer.
pub data Case : Type 0 where
  root : ℕ → ℕ → Case
  pieces : Line → Float → Float → List Float → Case
  testing : Question → ℕ × ℕ → Case
  searching : Question → Answer → Case

-- it comes out as it says
abbrev pub Holds : Case → Type 0
Holds (root x r) = (to_bits binary64 (root_of (of_bits binary64 x)) ≡ r)
Holds (pieces l lo hi nets) = (pieces_of l lo hi ≡ nets)
Holds (testing q n) = (asked_place q ≡ n)
Holds (searching q a) = (search q ≡ a)

-- degree 2, knots 0, 1, 2 with multiplicities 3, 1, 3, poles (0,0,0), (0,2,0), (2,2,0), (2,0,0)
abbrev pub line_of_two : Line
line_of_two = record {
  closed = false;
  degree = 2;
  knots = zero64 ∷ one64 ∷ two64 ∷ [];
  mults = 3 ∷ 1 ∷ 3 ∷ [];
  coords = zero64 ∷ zero64 ∷ zero64 ∷ zero64 ∷ two64 ∷ zero64 ∷ two64 ∷ two64 ∷ zero64 ∷ two64 ∷ zero64 ∷ zero64 ∷ [];
  weights = [];
  datum = 1;
}

-- (x, y, 0) with weight 1
abbrev pub at : Float → Float → List Float → List Float
at x y l = x ∷ y ∷ zero64 ∷ one64 ∷ l

-- A = (0,0,0) to (2,2,0)
abbrev pub line_a : Line
line_a = straight zero64 zero64 two64 two64

-- a region of whole ranges, and the box from (0,0,0) to (x,2,0)
abbrev pub whole_region : Float → List Float
whole_region x = zero64 ∷ one64 ∷ zero64 ∷ one64 ∷ zero64 ∷ zero64 ∷ zero64 ∷ x ∷ two64 ∷ zero64 ∷ []

-- "Lines drawn for checking", the starred ones
abbrev pub starred : List Case
starred =
    -- the roots of 2, of 4 and of 2^−1074
    root 0x4000_0000_0000_0000 0x3FF6_A09E_667F_3BCD
    ∷ root 0x4010_0000_0000_0000 0x4000_0000_0000_0000
    ∷ root 1 0x1E60_0000_0000_0000
    -- pieces (0,0), (0,2), (1,2) and (1,2), (2,2), (2,0), z 0
    ∷ pieces line_of_two zero64 two64 (at zero64 zero64 (at zero64 two64 (at one64 two64 (at one64 two64 (at two64 two64 (at two64 zero64 []))))))
    -- A with (0,2,0) to (2,0,0), gap 0: S 0 gives budget, left 1
    ∷ searching (question line_a (straight zero64 two64 two64 zero64) zero64 0)
    (record { word = 1; counts = 1 ∷ 1 ∷ 0 ∷ 0 ∷ 0 ∷ 0 ∷ 0 ∷ 0 ∷ 1 ∷ 0 ∷ []; regions = whole_region two64; marks = 0 ∷ []; left = zero64 ∷ one64 ∷ zero64 ∷ one64 ∷ [] })
    -- S 1 halves the second, visits 2, splits 1, left 2, one region of whole ranges
    ∷ searching (question line_a (straight zero64 two64 two64 zero64) zero64 1)
    (record { word = 1; counts = 1 ∷ 2 ∷ 1 ∷ 0 ∷ 0 ∷ 0 ∷ 0 ∷ 0 ∷ 2 ∷ 0 ∷ []; regions = whole_region two64; marks = 0 ∷ []; left = zero64 ∷ one64 ∷ half64 ∷ one64 ∷ zero64 ∷ one64 ∷ zero64 ∷ half64 ∷ [] })
    -- with (1,0,0) to (3,2,0): gap 0.5 complete, settled 1 (by a plane)
    ∷ searching (question line_a (straight one64 zero64 three64 two64) half64 0)
    (record { word = 0; counts = 1 ∷ 1 ∷ 0 ∷ 1 ∷ 0 ∷ 1 ∷ 0 ∷ 0 ∷ 0 ∷ 0 ∷ []; regions = []; marks = []; left = [] })
    -- gap 1 unseparated, given 1
    ∷ searching (question line_a (straight one64 zero64 three64 two64) one64 0)
    (record { word = 2; counts = 1 ∷ 1 ∷ 0 ∷ 0 ∷ 0 ∷ 0 ∷ 0 ∷ 1 ∷ 0 ∷ 0 ∷ []; regions = whole_region three64; marks = 0 ∷ []; left = [] })
    -- with (10,0,0) to (12,2,0), gap 0: pairs 0, complete
    ∷ searching (question line_a (straight ten64 zero64 twelve64 two64) zero64 0)
    (record { word = 0; counts = 0 ∷ 0 ∷ 0 ∷ 0 ∷ 0 ∷ 0 ∷ 0 ∷ 0 ∷ 0 ∷ 0 ∷ []; regions = []; marks = []; left = [] })
    ∷ []

-- ---- which test cleared it (document 02, M-103)
-- (0,0,0) to (4,4,0) with (4.5,4.5,0) to (6,6,0), gap 0.5: only the line test passes. (0,0,0) to (10,10,0) with (7,9,0) to (9,7,0), gap 0, S 1: the first line is halved, its lower half
-- is settled by the boxes, and the upper is left.
abbrev pub cleared : List Case
cleared =
    searching (question (straight zero64 zero64 four64 four64) (straight four_and_half64 four_and_half64 six64 six64) half64 0)
    (record { word = 0; counts = 1 ∷ 1 ∷ 0 ∷ 1 ∷ 0 ∷ 0 ∷ 1 ∷ 0 ∷ 0 ∷ 0 ∷ []; regions = []; marks = []; left = [] })
    ∷ searching (question (straight zero64 zero64 ten64 ten64) (straight seven64 nine64 nine64 seven64) zero64 1)
    (record {
      word = 1;
      counts = 1 ∷ 3 ∷ 1 ∷ 1 ∷ 1 ∷ 0 ∷ 0 ∷ 0 ∷ 1 ∷ 0 ∷ [];
      regions = half64 ∷ one64 ∷ zero64 ∷ one64 ∷ five64 ∷ five64 ∷ zero64 ∷ ten64 ∷ ten64 ∷ zero64 ∷ [];
      marks = 0 ∷ [];
      left = half64 ∷ one64 ∷ zero64 ∷ one64 ∷ [];
    })
    ∷ []

-- ---- one datum (document 02, M-104: "23 when either number is outside that span or the two differ, tested after the second line's 14")
abbrev pub dated : ℕ → ℕ → Line → Float → Question
dated a b l hi =
    record { line1 = with_datum a line_a; lo1 = zero64; hi1 = hi; line2 = with_datum b l; lo2 = zero64; hi2 = one64; gap = zero64; splits = 0 }

-- data 1 and 2; 0 twice; 10,000 twice; 9,999 twice with a line far away; 1 and 2 with a range that leaves the line
abbrev pub datum_cases : List Case
datum_cases =
    searching (dated 1 2 line_a one64) (refused 23)
    ∷ searching (dated 0 0 line_a one64) (refused 23)
    ∷ searching (dated 10000 10000 line_a one64) (refused 23)
    ∷ searching (dated 9999 9999 (straight ten64 zero64 twelve64 two64) one64)
    (record { word = 0; counts = 0 ∷ 0 ∷ 0 ∷ 0 ∷ 0 ∷ 0 ∷ 0 ∷ 0 ∷ 0 ∷ 0 ∷ []; regions = []; marks = []; left = [] })
    ∷ searching (dated 1 2 line_a two64) (refused 23)
    ∷ searching (dated 1 1 line_a two64) (refused 15)
    ∷ []

-- ---- further cases
abbrev pub floats : List ℕ → List Float
floats l = map (of_bits binary64) l

-- degree 3 with weights, cut on one side of either piece
abbrev pub weighted : Case
weighted = pieces
    (record {
      closed = false;
      degree = 3;
      knots = floats (0 ∷ 0x3ff0_0000_0000_0000 ∷ 0x4004_0000_0000_0000 ∷ []);
      mults = 4 ∷ 1 ∷ 4 ∷ [];
      coords = floats (
          0xbff0_0000_0000_0000 ∷ 0x4000_0000_0000_0000 ∷ 0x401c_0000_0000_0000 ∷ 0xc022_0000_0000_0000 ∷ 0x4014_0000_0000_0000 ∷ 0xc000_0000_0000_0000 ∷
          0xc020_0000_0000_0000 ∷ 0xc010_0000_0000_0000 ∷ 0xc018_0000_0000_0000 ∷ 0x4000_0000_0000_0000 ∷ 0x4018_0000_0000_0000 ∷ 0xc000_0000_0000_0000 ∷
          0x4008_0000_0000_0000 ∷ 0x4020_0000_0000_0000 ∷ 0xc018_0000_0000_0000 ∷ []);
      weights = floats (0x3ff0_0000_0000_0000 ∷ 0x3fe0_0000_0000_0000 ∷ 0x3ff0_0000_0000_0000 ∷ 0x4008_0000_0000_0000 ∷ 0x4000_0000_0000_0000 ∷ []);
      datum = 1;
    })
    (of_bits binary64 0x3fd0_0000_0000_0000) (of_bits binary64 0x3ffc_0000_0000_0000)
    (floats (
    0xc009_c333_3333_3333 ∷ 0x3ffe_9d70_a3d7_0a3d ∷ 0x4000_5999_9999_999a ∷ 0x3fe7_f851_eb85_1eb8 ∷
    0xc014_1999_9999_999a ∷ 0x3ff7_c28f_5c28_f5c3 ∷ 0xbfff_3333_3333_3334 ∷ 0x3fe3_ae14_7ae1_47ae ∷
    0xc016_3333_3333_3334 ∷ 0x3fd8_f5c2_8f5c_28f8 ∷ 0xc00a_6666_6666_6667 ∷ 0x3fe9_eb85_1eb8_51ec ∷
    0xc012_0000_0000_0000 ∷ 0x3ffd_c28f_5c28_f5c6 ∷ 0xc010_cccc_cccc_cccd ∷ 0x3ff2_3d70_a3d7_0a3e ∷
    0xc012_0000_0000_0000 ∷ 0x3ffd_c28f_5c28_f5c6 ∷ 0xc010_cccc_cccc_cccd ∷ 0x3ff2_3d70_a3d7_0a3e ∷
    0xc00b_9999_9999_9999 ∷ 0x400a_a3d7_0a3d_70a6 ∷ 0xc014_6666_6666_6666 ∷ 0x3ff7_851e_b851_eb86 ∷
    0xbfea_6666_6666_6664 ∷ 0x401d_75c2_8f5c_28f7 ∷ 0xc016_3333_3333_3333 ∷ 0x3ffe_f5c2_8f5c_28f7 ∷
    0x3ff8_9999_9999_999a ∷ 0x4025_90a3_d70a_3d71 ∷ 0xc01a_1999_9999_999a ∷ 0x4001_8a3d_70a3_d70b ∷ []))

-- degree 3 with weights, cut on both sides of its one piece: α, a blend, a share, a cut or g made in another order of operations changes a bit
abbrev pub cut_twice : Case
cut_twice = pieces
    (record {
      closed = false;
      degree = 3;
      knots = floats (0 ∷ 0x3fec_cccc_cccc_cccd ∷ 0x3ffe_6666_6666_6666 ∷ []);
      mults = 4 ∷ 1 ∷ 4 ∷ [];
      coords = floats (
          0xc018_0000_0000_0000 ∷ 0xc014_0000_0000_0000 ∷ 0xc01c_0000_0000_0000 ∷ 0xc020_0000_0000_0000 ∷ 0xc022_0000_0000_0000 ∷ 0x4020_0000_0000_0000 ∷
          0xc000_0000_0000_0000 ∷ 0xc010_0000_0000_0000 ∷ 0x4008_0000_0000_0000 ∷ 0xbff0_0000_0000_0000 ∷ 0xbff0_0000_0000_0000 ∷ 0xc01c_0000_0000_0000 ∷
          0x4014_0000_0000_0000 ∷ 0x4000_0000_0000_0000 ∷ 0x4022_0000_0000_0000 ∷ []);
      weights = floats (0x4000_0000_0000_0000 ∷ 0x4008_0000_0000_0000 ∷ 0x4000_0000_0000_0000 ∷ 0x3ff0_0000_0000_0000 ∷ 0x4000_0000_0000_0000 ∷ []);
      datum = 1;
    })
    (of_bits binary64 0x3fc7_0a3d_70a3_d70b) (of_bits binary64 0x3fe9_eb85_1eb8_51ec)
    (floats (
    0xc030_d351_8467_ba3e ∷ 0xc031_4f3e_063a_a619 ∷ 0x400c_c8c2_bf49_5ee0 ∷ 0x4003_7ac5_af96_cc28 ∷
    0xc033_ebbf_f063_3632 ∷ 0xc036_bba1_5978_8f48 ∷ 0x4032_813b_275a_c0c8 ∷ 0x4006_1bcf_4776_e44d ∷
    0xc02d_f1e6_415d_a57a ∷ 0xc032_3a6a_8d7f_cc73 ∷ 0x402e_9102_0f31_5109 ∷ 0x4004_1dbf_f919_fa2f ∷
    0xc025_4ed4_5e32_57e8 ∷ 0xc02b_4610_e503_4eb8 ∷ 0x4024_8d9d_3546_bfe8 ∷ 0x4001_8bcd_8df5_6fc7 ∷ []))

-- degree 2, two pieces whose common point is rounded differently from either side, since the knots are taken relative to the middle of each
abbrev pub from_either_side : Case
from_either_side = pieces
    (record {
      closed = false;
      degree = 2;
      knots = floats (0x3fc9_9999_9999_999a ∷ 0x3fe9_9999_9999_999a ∷ 0x3ff0_0000_0000_0000 ∷ []);
      mults = 3 ∷ 1 ∷ 3 ∷ [];
      coords = floats (
          0x4010_0000_0000_0000 ∷ 0x4010_0000_0000_0000 ∷ 0 ∷ 0xbff0_0000_0000_0000 ∷ 0xbff0_0000_0000_0000 ∷ 0 ∷
          0 ∷ 0x4000_0000_0000_0000 ∷ 0 ∷ 0xc010_0000_0000_0000 ∷ 0x4000_0000_0000_0000 ∷ 0 ∷ []);
      weights = [];
      datum = 1;
    })
    (of_bits binary64 0x3fc9_9999_9999_999a) one64
    (floats (
    0x4010_0000_0000_0000 ∷ 0x4010_0000_0000_0000 ∷ 0 ∷ 0x3ff0_0000_0000_0000 ∷
    0xbff0_0000_0000_0000 ∷ 0xbff0_0000_0000_0000 ∷ 0 ∷ 0x3ff0_0000_0000_0000 ∷
    0xbfcf_ffff_ffff_fffc ∷ 0x3ff4_0000_0000_0002 ∷ 0 ∷ 0x3ff0_0000_0000_0000 ∷
    0xbfd0_0000_0000_0000 ∷ 0x3ff4_0000_0000_0000 ∷ 0 ∷ 0x3ff0_0000_0000_0000 ∷
    0xbca0_0000_0000_0000 ∷ 0x3fff_ffff_ffff_fffe ∷ 0 ∷ 0x3ff0_0000_0000_0000 ∷
    0xc010_0000_0000_0000 ∷ 0x4000_0000_0000_0000 ∷ 0 ∷ 0x3ff0_0000_0000_0000 ∷ []))

-- degree 2 with free ends, knots 0 to 5 once each, poles (0,0,0), (1,2,0), (3,1,0): its bounds are 2 and 3
abbrev pub free_ends : Line
free_ends = record {
  closed = false;
  degree = 2;
  knots = zero64 ∷ one64 ∷ two64 ∷ three64 ∷ floats (0x4010_0000_0000_0000 ∷ 0x4014_0000_0000_0000 ∷ []);
  mults = 1 ∷ 1 ∷ 1 ∷ 1 ∷ 1 ∷ 1 ∷ [];
  coords = zero64 ∷ zero64 ∷ zero64 ∷ one64 ∷ two64 ∷ zero64 ∷ three64 ∷ one64 ∷ zero64 ∷ [];
  weights = [];
  datum = 1;
}

-- a range of it, against all of A
abbrev pub of_free_ends : Float → Float → Question
of_free_ends lo hi = record { line1 = free_ends; lo1 = lo; hi1 = hi; line2 = line_a; lo2 = zero64; hi2 = one64; gap = zero64; splits = 0 }

-- 2 and 3, the one lower and the other higher by one double
abbrev pub below_two64 : Float
below_two64 = of_bits binary64 0x3fff_ffff_ffff_ffff

abbrev pub above_three64 : Float
above_three64 = of_bits binary64 0x4008_0000_0000_0001

-- Nets with the bits that the Rust gives, and the bounds of a line with free ends.
abbrev pub further : List Case
further =
    weighted
    ∷ cut_twice
    ∷ from_either_side
    -- half-way to three quarters of (0,0,0) to (8,0,0): the second cut is at half of what the first leaves
    ∷ pieces (straight zero64 zero64 (of_bits binary64 0x4020_0000_0000_0000) zero64) half64 (of_bits binary64 0x3fe8_0000_0000_0000)
    (at (of_bits binary64 0x4010_0000_0000_0000) zero64 (at (of_bits binary64 0x4018_0000_0000_0000) zero64 []))
    -- (0.5,1), (1,2), (2,1.5)
    ∷ pieces free_ends two64 three64 (at half64 one64 (at one64 two64 (at two64 (of_bits binary64 0x3ff8_0000_0000_0000) [])))
    -- up to its bounds and no further
    ∷ testing (of_free_ends two64 three64) (0, 0)
    ∷ testing (of_free_ends two64 above_three64) (15, 1)
    ∷ testing (of_free_ends below_two64 three64) (15, 1)
    ∷ []

-- ---- closed lines (document 02, M-100), each asked for a turn from an inner knot on, over the seam
-- degree 2, poles (0,0,0), (2,0,0), (2,2,0), with these knots and multiplicities
abbrev pub ring : List Float → List ℕ → Line
ring knots mults =
    record {
      closed = true;
      degree = 2;
      knots = knots;
      mults = mults;
      coords = zero64 ∷ zero64 ∷ zero64 ∷ two64 ∷ zero64 ∷ zero64 ∷ two64 ∷ two64 ∷ zero64 ∷ [];
      weights = [];
      datum = 1;
    }

-- Knots 0, 1, 2, 3 once each: from 2 to 4 the pieces (1,1), (0,0), (1,0) and (1,0), (2,0), (2,1). Knots 0, 1, 2 with multiplicities 2, 1, 2, so that it goes through its first pole at the
-- seam: from 1 to 3 the pieces (2,1), (2,2), (0,0) and (0,0), (2,0), (2,1).
abbrev pub closed : List Case
closed =
    pieces (ring (zero64 ∷ one64 ∷ two64 ∷ three64 ∷ []) (1 ∷ 1 ∷ 1 ∷ 1 ∷ [])) two64 (of_bits binary64 0x4010_0000_0000_0000)
    (at one64 one64 (at zero64 zero64 (at one64 zero64 (at one64 zero64 (at two64 zero64 (at two64 one64 []))))))
    ∷ pieces (ring (zero64 ∷ one64 ∷ two64 ∷ []) (2 ∷ 1 ∷ 2 ∷ [])) one64 three64
    (at two64 one64 (at two64 two64 (at zero64 zero64 (at zero64 zero64 (at two64 zero64 (at two64 one64 []))))))
    ∷ []

-- ---- several pieces: their ranges, and regions of more than one pair
-- at S 0, in memory for two pairs, with a report slice for two regions
abbrev pub search_of_two : Question → Answer
search_of_two q =
    let u = memory (replicate 528 zero64) (replicate 528 zero64) (replicate 264 zero64) (replicate 132 0) (replicate 20 zero64) in
    let o = open_def q (replicate 32 zero64) (replicate 8 zero64) u in
    ran_from 1 o.answer o.memory

-- a range of a line from 0, against all of a straight one, at gap 0 and S 0
abbrev pub up_to : Line → Float → Line → Question
up_to l hi k = record { line1 = l; lo1 = zero64; hi1 = hi; line2 = k; lo2 = zero64; hi2 = one64; gap = zero64; splits = 0 }

-- degree 1: (0,0,−1), (1,4,3), (8,4,3), (10,−2,−3), knots 0, 1, 2, 3
abbrev pub line_of_three : Line
line_of_three = record {
  closed = false;
  degree = 1;
  knots = zero64 ∷ one64 ∷ two64 ∷ three64 ∷ [];
  mults = 2 ∷ 1 ∷ 1 ∷ 2 ∷ [];
  coords = floats (
      0 ∷ 0 ∷ 0xbff0_0000_0000_0000 ∷ 0x3ff0_0000_0000_0000 ∷ 0x4010_0000_0000_0000 ∷ 0x4008_0000_0000_0000 ∷
      0x4020_0000_0000_0000 ∷ 0x4010_0000_0000_0000 ∷ 0x4008_0000_0000_0000 ∷ 0x4024_0000_0000_0000 ∷ 0xc000_0000_0000_0000 ∷ 0xc008_0000_0000_0000 ∷ []);
  weights = [];
  datum = 1;
}

-- Against (−1,1,0) to (10,1,0) the middle piece is set apart by its boxes. The pairs of the other two wait, each with its own piece's range, and are two regions in the order of their starts.
abbrev pub ThreePieces : Type 0
ThreePieces =
    search_of_two (up_to line_of_three three64 (straight (of_bits binary64 0xbff0_0000_0000_0000) one64 ten64 one64))
    ≡ (record {
      word = 1;
      counts = 2 ∷ 1 ∷ 0 ∷ 0 ∷ 0 ∷ 0 ∷ 0 ∷ 0 ∷ 2 ∷ 0 ∷ [];
      regions = floats (
          0 ∷ 0x3ff0_0000_0000_0000 ∷ 0 ∷ 0x3ff0_0000_0000_0000 ∷ 0xbff0_0000_0000_0000 ∷ 0 ∷ 0xbff0_0000_0000_0000 ∷ 0x4024_0000_0000_0000 ∷ 0x4010_0000_0000_0000 ∷ 0x4008_0000_0000_0000 ∷
          0x4000_0000_0000_0000 ∷ 0x4008_0000_0000_0000 ∷ 0 ∷ 0x3ff0_0000_0000_0000 ∷ 0xbff0_0000_0000_0000 ∷ 0xc000_0000_0000_0000 ∷ 0xc008_0000_0000_0000 ∷ 0x4024_0000_0000_0000 ∷ 0x4010_0000_0000_0000 ∷ 0x4008_0000_0000_0000 ∷ []);
      marks = 0 ∷ 1 ∷ [];
      left = zero64 ∷ one64 ∷ zero64 ∷ one64 ∷ two64 ∷ three64 ∷ zero64 ∷ one64 ∷ [];
    })

-- degree 1: (0,0,0), (2,2,0), (4,0,0), knots 0, 1, 2
abbrev pub up_and_down : Line
up_and_down = record {
  closed = false;
  degree = 1;
  knots = zero64 ∷ one64 ∷ two64 ∷ [];
  mults = 2 ∷ 1 ∷ 2 ∷ [];
  coords = floats (0 ∷ 0 ∷ 0 ∷ 0x4000_0000_0000_0000 ∷ 0x4000_0000_0000_0000 ∷ 0 ∷ 0x4010_0000_0000_0000 ∷ 0 ∷ 0 ∷ []);
  weights = [];
  datum = 1;
}

-- Against (0,1,0) to (4,1,0) both pieces' pairs wait; their ranges touch, and they are one region with the box of both.
abbrev pub TwoPieces : Type 0
TwoPieces =
    search_of_two (up_to up_and_down two64 (straight zero64 one64 (of_bits binary64 0x4010_0000_0000_0000) one64))
    ≡ (record {
      word = 1;
      counts = 2 ∷ 1 ∷ 0 ∷ 0 ∷ 0 ∷ 0 ∷ 0 ∷ 0 ∷ 2 ∷ 0 ∷ [];
      regions = zero64 ∷ two64 ∷ zero64 ∷ one64 ∷ zero64 ∷ zero64 ∷ zero64 ∷ of_bits binary64 0x4010_0000_0000_0000 ∷ two64 ∷ zero64 ∷ [];
      marks = 0 ∷ [];
      left = zero64 ∷ one64 ∷ zero64 ∷ one64 ∷ one64 ∷ two64 ∷ zero64 ∷ one64 ∷ [];
    })

-- degree 1, closed: (0,0,0), (8,0,0), (8,8,0), (0,8,0), knots 0 to 4
abbrev pub square : Line
square = record {
  closed = true;
  degree = 1;
  knots = zero64 ∷ one64 ∷ two64 ∷ three64 ∷ of_bits binary64 0x4010_0000_0000_0000 ∷ [];
  mults = 1 ∷ 1 ∷ 1 ∷ 1 ∷ 1 ∷ [];
  coords = floats (0 ∷ 0 ∷ 0 ∷ 0x4020_0000_0000_0000 ∷ 0 ∷ 0 ∷ 0x4020_0000_0000_0000 ∷ 0x4020_0000_0000_0000 ∷ 0 ∷ 0 ∷ 0x4020_0000_0000_0000 ∷ 0 ∷ []);
  weights = [];
  datum = 1;
}

-- A whole turn of it against (−1,1,0) to (1,−1,0), across the corner where it starts: the first and the last side wait, two regions that meet over the seam, so one mark.
abbrev pub OverTheSeam : Type 0
OverTheSeam =
    let minus = of_bits binary64 0xbff0_0000_0000_0000 in
    search_of_two (up_to square (of_bits binary64 0x4010_0000_0000_0000) (straight minus one64 one64 minus))
    ≡ (record {
      word = 1;
      counts = 2 ∷ 1 ∷ 0 ∷ 0 ∷ 0 ∷ 0 ∷ 0 ∷ 0 ∷ 2 ∷ 0 ∷ [];
      regions = floats (
          0 ∷ 0x3ff0_0000_0000_0000 ∷ 0 ∷ 0x3ff0_0000_0000_0000 ∷ 0xbff0_0000_0000_0000 ∷ 0xbff0_0000_0000_0000 ∷ 0 ∷ 0x4020_0000_0000_0000 ∷ 0x3ff0_0000_0000_0000 ∷ 0 ∷
          0x4008_0000_0000_0000 ∷ 0x4010_0000_0000_0000 ∷ 0 ∷ 0x3ff0_0000_0000_0000 ∷ 0xbff0_0000_0000_0000 ∷ 0xbff0_0000_0000_0000 ∷ 0 ∷ 0x3ff0_0000_0000_0000 ∷ 0x4020_0000_0000_0000 ∷ 0 ∷ []);
      marks = 0 ∷ 0 ∷ [];
      left = zero64 ∷ one64 ∷ zero64 ∷ one64 ∷ three64 ∷ of_bits binary64 0x4010_0000_0000_0000 ∷ zero64 ∷ one64 ∷ [];
    })

-- The same as second line, a turn from inside a side, 0.5 to 4.5, against (4,−1,0) to (4,1,0), across the place where the turn starts and ends: that line's asked ends, no knots.
abbrev pub SeamInside : Type 0
SeamInside =
    let minus = of_bits binary64 0xbff0_0000_0000_0000 in
    let four = of_bits binary64 0x4010_0000_0000_0000 in
    let end = of_bits binary64 0x4012_0000_0000_0000 in
    let u = memory (replicate 528 zero64) (replicate 528 zero64) (replicate 264 zero64) (replicate 132 0) (replicate 20 zero64) in
    let q : Question = record { line1 = straight four minus four one64; lo1 = zero64; hi1 = one64; line2 = square; lo2 = half64; hi2 = end; gap = zero64; splits = 0 } in
    let o = open_def q (replicate 8 zero64) (replicate 40 zero64) u in
    ran_from 1 o.answer o.memory
    ≡ (record {
      word = 1;
      counts = 2 ∷ 1 ∷ 0 ∷ 0 ∷ 0 ∷ 0 ∷ 0 ∷ 0 ∷ 2 ∷ 0 ∷ [];
      regions = floats (
          0 ∷ 0x3ff0_0000_0000_0000 ∷ 0x4010_0000_0000_0000 ∷ 0x4012_0000_0000_0000 ∷ 0 ∷ 0xbff0_0000_0000_0000 ∷ 0 ∷ 0x4010_0000_0000_0000 ∷ 0x3ff0_0000_0000_0000 ∷ 0 ∷
          0 ∷ 0x3ff0_0000_0000_0000 ∷ 0x3fe0_0000_0000_0000 ∷ 0x3ff0_0000_0000_0000 ∷ 0x4010_0000_0000_0000 ∷ 0xbff0_0000_0000_0000 ∷ 0 ∷ 0x4020_0000_0000_0000 ∷ 0x3ff0_0000_0000_0000 ∷ 0 ∷ []);
      marks = 0 ∷ 0 ∷ [];
      left = zero64 ∷ one64 ∷ half64 ∷ one64 ∷ zero64 ∷ one64 ∷ four ∷ end ∷ [];
    })

-- ---- whole turns (document 02, M-101), over the knots 0 and 1
abbrev pub turn_of : Bool → Float → Float → Bool
turn_of closed lo hi = whole_turn closed (zero64 ∷ one64 ∷ []) lo hi

-- 0.25 + 2^−53 to 1.25 + 2^−52 is one, as rounded, though lo + 1 rounds to another double than hi; the same of an open line, and 0.25 to an ulp below 1.25, are none
abbrev pub Turns : Type 0
Turns =
    (turn_of true (of_bits binary64 0x3fd0_0000_0000_0002) (of_bits binary64 0x3ff4_0000_0000_0001) ≡ true)
    × (turn_of false (of_bits binary64 0x3fd0_0000_0000_0002) (of_bits binary64 0x3ff4_0000_0000_0001) ≡ false)
    × (turn_of true (of_bits binary64 0x3fd0_0000_0000_0000) (of_bits binary64 0x3ff3_ffff_ffff_ffff) ≡ false)
