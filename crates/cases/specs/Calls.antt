-- A list of calls after an opening, with steps, own verdicts, reports and each refusal, by the definitions alone. Definitions only.
use Rattle.std.specs.Prelude.{◌≡◌, List, [], ◌∷◌, map, ℕ, replicate, Float, Result, Ok, Err}
use Rattle.floats.specs.Floats.{zero64, one64, half64}
use Rattle.verdicts.specs.declared.Test.TheVariants.{Box, Line}
use Rattle.verdicts.specs.declared.Verdict.TheVariants.{Settled, Split, Unseparated}
use Rattle.verdicts.specs.Verdicts.{verdict_number}
use Rattle.regions.specs.Reports.{word_number}
use Rattle.states.specs.declared.State.{State}
use Rattle.states.specs.States.{Memory, Sizes, step_error_number}
use Rattle.nodes.specs.Nets.{geometry}
use Rattle.report.specs.Reports.{output, report_error_number}
use Rattle.opening.specs.declared.OpenError.{OpenError}
use Rattle.opening.specs.Opens.{open_def}
use Rattle.coverage.specs.Calls.{Call, step, own, report, Answer, stepped, judged, reported, run_all}
use Rattle.cases.specs.Cases.{two64, three64, line_a, straight, question, room}

-- all of a memory for one pair at S 1; a raw slice too short by one, and depths
abbrev pub whole : Sizes
whole = record { nets1 = 520; nets2 = 520; ranges = 260; depths = 130; raw = 20 }

abbrev pub short_raw : Sizes
short_raw = record { nets1 = 520; nets2 = 520; ranges = 260; depths = 130; raw = 19 }

abbrev pub short_depths : Sizes
short_depths = record { nets1 = 520; nets2 = 520; ranges = 260; depths = 129; raw = 20 }

-- an answer in numbers: a refusal's; of a step visits, splits, settled, of these by box, plane and line, given, waiting and the allowance unspent; the verdict's; of a report the word's, the counts and how many regions
abbrev pub said : Answer → List ℕ
said (stepped (Ok x)) = x.tally.visits ∷ x.tally.splits ∷ x.tally.settled ∷ x.tally.boxes ∷ x.tally.planes ∷ x.tally.lines ∷ x.tally.given ∷ x.tally.waiting ∷ x.tally.unspent ∷ []
said (stepped (Err e)) = step_error_number e ∷ []
said (judged (Ok v)) = verdict_number v ∷ []
said (judged (Err e)) = step_error_number e ∷ []
said (reported (Ok r) o) =
    let c = r.counts in word_number r.word ∷ c.pairs ∷ c.visits ∷ c.splits ∷ c.settled ∷ c.boxes ∷ c.planes ∷ c.lines ∷ c.given ∷ c.left ∷ r.regions ∷ []
said (reported (Err e) o) = report_error_number e ∷ []

-- a report's slice
abbrev pub slice_of : Answer → List Float
slice_of (stepped a) = []
slice_of (judged a) = []
slice_of (reported a o) = o.regions

-- the calls, each with what it answers
pub record Asking : Type 0 where
  pub call : Call
  pub answer : List ℕ

abbrev pub asking : Call → List ℕ → Asking
asking c a = record { call = c; answer = a }

abbrev pub askings : List Asking
askings =
    -- before the end a report is refused
    asking (report whole (output (replicate 20 zero64) (replicate 2 0))) (21 ∷ [])
    -- the tests say Split; a step and an own verdict that are lent too little are refused
    ∷ asking (own whole) (2 ∷ [])
    ∷ asking (step (Settled Box) short_raw) (19 ∷ [])
    ∷ asking (own short_depths) (19 ∷ [])
    -- the second line is halved; the lower half is given up; a split comes due at allowance 0, and its node is left
    ∷ asking (step Split whole) (1 ∷ 1 ∷ 0 ∷ 0 ∷ 0 ∷ 0 ∷ 0 ∷ 2 ∷ 0 ∷ [])
    ∷ asking (own short_raw) (2 ∷ [])
    ∷ asking (step Unseparated whole) (2 ∷ 1 ∷ 0 ∷ 0 ∷ 0 ∷ 0 ∷ 1 ∷ 1 ∷ 0 ∷ [])
    ∷ asking (step Split whole) (3 ∷ 1 ∷ 0 ∷ 0 ∷ 0 ∷ 0 ∷ 1 ∷ 1 ∷ 0 ∷ [])
    -- after the end
    ∷ asking (step (Settled Box) short_raw) (20 ∷ [])
    ∷ asking (own whole) (20 ∷ [])
    ∷ asking (report whole (output (replicate 19 zero64) (replicate 2 0))) (19 ∷ [])
    ∷ asking (report whole (output (replicate 20 zero64) (replicate 1 0))) (19 ∷ [])
    -- budget; the two halves touch and are one region; a second report says the same
    ∷ asking (report whole (output (replicate 20 zero64) (replicate 2 0))) (1 ∷ 1 ∷ 3 ∷ 1 ∷ 0 ∷ 0 ∷ 0 ∷ 0 ∷ 1 ∷ 1 ∷ 1 ∷ [])
    ∷ asking (report whole (output (replicate 20 two64) (replicate 2 7))) (1 ∷ 1 ∷ 3 ∷ 1 ∷ 0 ∷ 0 ∷ 0 ∷ 0 ∷ 1 ∷ 1 ∷ 1 ∷ [])
    ∷ []

abbrev pub answered : List Asking → Result State OpenError → Memory → List Answer
answered l (Ok x) u = (run_all geometry (map (λ (a : Asking). a.call) l) x u).answers
answered l (Err e) u = []

-- A with (0,2,0) to (2,0,0), gap 0, S 1
abbrev pub answers : List Answer
answers = let o = open_def (question line_a (straight zero64 two64 two64 zero64) zero64 1) (replicate 8 zero64) (replicate 8 zero64) (room 1) in answered askings o.answer o.memory

abbrev pub AllAnswered : Type 0
AllAnswered = (map said answers ≡ map (λ (a : Asking). a.answer) askings)

-- the last report's slice: one region of whole ranges, then +0 up to the raw list's length of two
abbrev pub last_of : List Answer → List Float
last_of [] = []
last_of (a ∷ []) = slice_of a
last_of (a ∷ (b ∷ l)) = last_of (b ∷ l)

abbrev pub LastSlice : Type 0
LastSlice = last_of answers ≡ (zero64 ∷ one64 ∷ zero64 ∷ one64 ∷ zero64 ∷ zero64 ∷ zero64 ∷ two64 ∷ two64 ∷ zero64 ∷ replicate 10 zero64)

-- and its marks: the region's, and behind it what was there
abbrev pub marks_in : Answer → List ℕ
marks_in (stepped a) = []
marks_in (judged a) = []
marks_in (reported a o) = o.marks

abbrev pub last_marks : List Answer → List ℕ
last_marks [] = []
last_marks (a ∷ []) = marks_in a
last_marks (a ∷ (b ∷ l)) = last_marks (b ∷ l)

abbrev pub LastMarks : Type 0
LastMarks = (last_marks answers ≡ 0 ∷ 7 ∷ [])

-- ---- "A verdict given by a caller is tagged box, plane or line by that caller": A with (1,0,0) to (3,2,0), gap 0.5, S 0; the tests say Settled by a plane, and the step by the line
abbrev pub taggings : List Asking
taggings =
    asking (own whole) (4 ∷ [])
    ∷ asking (step (Settled Line) whole) (1 ∷ 0 ∷ 1 ∷ 0 ∷ 0 ∷ 1 ∷ 0 ∷ 0 ∷ 0 ∷ [])
    ∷ asking (report whole (output (replicate 10 zero64) (replicate 1 0))) (0 ∷ 1 ∷ 1 ∷ 0 ∷ 1 ∷ 0 ∷ 0 ∷ 1 ∷ 0 ∷ 0 ∷ 0 ∷ [])
    ∷ []

abbrev pub tag_answers : List Answer
tag_answers = let o = open_def (question line_a (straight one64 zero64 three64 two64) half64 0) (replicate 8 zero64) (replicate 8 zero64) (room 0) in answered taggings o.answer o.memory

abbrev pub TaggedByCaller : Type 0
TaggedByCaller = (map said tag_answers ≡ map (λ (a : Asking). a.answer) taggings)
