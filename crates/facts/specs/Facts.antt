-- The theorems of this crate. Definitions only.
use Rattle.std.specs.Prelude.{◌≡◌, ◌↔◌, true, false, ℕ, ◌+◌, ◌<◌, ◌≤◌, T, get_or, Float, Ok}
use Rattle.std.specs.Float.{nan}
use Rattle.std.specs.Float.Ieee.{le, lt}
use Rattle.lists.specs.Members.{Any, All}
use Rattle.lists.specs.Tests.{each_two}
use Rattle.floats.specs.Floats.{middle}
use Rattle.floats.specs.Stations.{InRange, Piece, pieces_from}
use Rattle.lines.specs.Lines.{Line, Question, with_datum}
use Rattle.lines.specs.Data.{one_datum}
use Rattle.lines.specs.Admit.{admit_of}
use Rattle.knots.specs.Knots.{last_of, bounds_of, knots_of, breaks_of}
use Rattle.spans.specs.Spans.{in_period, place_of}
use Rattle.questions.specs.Questions.{range_fits, parted, ask_of}
use Rattle.curves.specs.Curves.{pieces_of, cuts_of, nets_in}
use Rattle.facts.specs.Faults.{admit_number, LineFault, FirstLineFault, Fault23, OneDatum, asked_place, QuestionFault, FirstQuestionFault}
use Rattle.facts.specs.Spans.{AllTwo, InSpan, span_number, net_pole_count, own_span, InOneSpan, Doubles, OfOneSpan}

-- "When, and only then", numbers 4 to 14 and 22: a line gets a number exactly if that row is the first that it meets, and is admitted exactly if it meets none.
abbrev pub LineTable : Type 0
LineTable = (l : Line) →
    ((n : ℕ) → 0 < n → (admit_number (admit_of l) ≡ n) ↔ FirstLineFault n l)
    × ((admit_of l ≡ Ok tt) ↔ ((n : ℕ) → LineFault n l → ⊥))

-- The same of two data, number 23: the test fails exactly if that row is met, and passes exactly if both are one number from 1 to 9,999.
abbrev pub DataTable : Type 0
DataTable = (a b : ℕ) → ((one_datum a b ≡ false) ↔ Fault23 a b) × ((one_datum a b ≡ true) ↔ OneDatum a b)

-- Nothing else reads a datum: neither a line's admission nor its pieces.
abbrev pub DatumUnread : Type 0
DatumUnread = (l : Line) (n : ℕ) → (admit_of (with_datum n l) ≡ admit_of l) × ((lo hi : Float) → (pieces_of (with_datum n l) lo hi ≡ pieces_of l lo hi) × (cuts_of (with_datum n l) lo hi ≡ cuts_of l lo hi))

-- The same of a question about two admitted lines, numbers 15 to 18, each with the line at fault.
abbrev pub QuestionTable : Type 0
QuestionTable = (q : Question) → admit_of q.line1 ≡ Ok tt → admit_of q.line2 ≡ Ok tt →
    ((n : ℕ × ℕ) → 0 < n.0 → (asked_place q ≡ n) ↔ FirstQuestionFault n q)
    × ((ask_of q ≡ Ok tt) ↔ ((n : ℕ × ℕ) → QuestionFault n q → ⊥))

-- Each double of a range that passes 15 lies in the range of some piece.
abbrev pub PiecesCover : Type 0
PiecesCover = (l : Line) (lo hi : Float) → admit_of l ≡ Ok tt → range_fits l.closed (bounds_of l) lo hi ≡ true
    → (s : Float) → InRange lo hi s → Any (λ (p : Piece). InRange p.lo p.hi s) (pieces_from lo (cuts_of l lo hi))

-- What is written for a line are the nets of these pieces, one after the other.
abbrev pub PiecesWritten : Type 0
PiecesWritten = (l : Line) (lo hi : Float) → pieces_of l lo hi ≡ nets_in (cuts_of l lo hi)

-- From an admitted line's lower bound on and below its upper one, u lies in the span that is found for it and in no other, on a closed line no other of its turn; the span is one of those from
-- number degree to number poles − 1, on a closed line poles + degree − 1.
abbrev pub HoldsAt : Line → Float → Type 0
HoldsAt l u =
    admit_of l ≡ Ok tt → T (le (bounds_of l).lo u) → T (lt u (bounds_of l).hi)
    → InSpan l u (span_number l u)
    × ((s : ℕ) → (l.closed ≡ true → (l.degree ≤ s) × (s < net_pole_count l)) → InSpan l u s → s ≡ span_number l u)
    × (l.degree ≤ span_number l u) × (span_number l u < net_pole_count l)

abbrev pub SpanHolds : Type 0
SpanHolds = (l : Line) (u : Float) → HoldsAt l u

-- A net belongs to its stretch: each two neighbouring breaks of a range that passes 15, if they pass 18, lie in one span, and the net between them is made of that span. A closed line's
-- knots come again at rounded sums, so there it is said of doubles.
abbrev pub InSpansOf : Line → Float → Float → Type 0
InSpansOf l lo hi =
    (l.closed ≡ true → Doubles l lo hi) → admit_of l ≡ Ok tt → range_fits l.closed (bounds_of l) lo hi ≡ true
    → each_two parted (breaks_of l lo hi) ≡ true → AllTwo (InOneSpan l) (breaks_of l lo hi)

abbrev pub BreaksInSpans : Type 0
BreaksInSpans = (l : Line) (lo hi : Float) → InSpansOf l lo hi

-- The same of the pieces that the search gets, each with its net: a piece's range is no wider than the stretch that its net covers.
abbrev pub PiecesInSpans : Type 0
PiecesInSpans = (l : Line) (lo hi : Float) → (l.closed ≡ true → Doubles l lo hi) → admit_of l ≡ Ok tt → range_fits l.closed (bounds_of l) lo hi ≡ true
    → each_two parted (breaks_of l lo hi) ≡ true → All (OfOneSpan l) (pieces_from lo (cuts_of l lo hi))

-- A closed line's net is made at `in_period` of the middle wherever that lies in the span.
abbrev pub KeptAt : Line → Float → Float → Type 0
KeptAt l t0 t1 =
    admit_of l ≡ Ok tt → l.closed ≡ true → (u : Float) → u ≡ in_period (get_or l.knots 0 nan) (last_of l.knots) (middle t0 t1)
    → T (le (get_or l.knots (own_span l t0 t1) nan) u) → T (lt u (get_or l.knots (own_span l t0 t1 + 1) nan)) → place_of l.closed (knots_of l) (middle t0 t1) ≡ u

abbrev pub PlaceKept : Type 0
PlaceKept = (l : Line) (t0 t1 : Float) → KeptAt l t0 t1
