-- The theorems of this crate hold. Assumes nothing.
use mathlib.Core.Path.{refl, sym}
use Rattle.facts.specs.Spans.{AllTwo, InOneSpan, OfOneSpan}
use Rattle.curves.specs.Curves.{net_poles, cuts_from}
use Rattle.pieces.specs.Pieces.{net_of, span_bezier}
use Rattle.floats.specs.Stations.{pieces_from}
use Rattle.lists.specs.Members.{All}
use mathlib.Core.Bool.{Bool, true, false, true≢false}
use mathlib.Core.List.{List, [], ◌∷◌}
use Prim.Native.Nat.{ℕ}
use lib.Ieee.{Float}
use Rattle.floats.specs.Floats.{middle}
use Rattle.lines.specs.Lines.{line_of, with_datum, Line}
use Rattle.knots.specs.Knots.{bounds_in, between, flat_of, knots_of}
use Rattle.facts.specs.Facts.{LineTable, DataTable, DatumUnread, QuestionTable, PiecesCover, PiecesWritten, HoldsAt, SpanHolds, InSpansOf, BreaksInSpans, KeptAt, PlaceKept, PiecesInSpans}
use Rattle.facts.proofs.Admission as lines
use Rattle.facts.proofs.Data as data_of
use Rattle.facts.proofs.Questions as questions
use Rattle.facts.proofs.Cover as cover
use Rattle.facts.proofs.Stretches as stretches
use Rattle.facts.proofs.Turns as turns

pub line_table : LineTable
line_table l = (λ n h. (lines.refused l n h, lines.refuses l n), (lines.admitted l, lines.admits l))

pub data_table : DataTable
data_table = data_of.data_table

pub datum_unread : DatumUnread
datum_unread = data_of.datum_unread

pub question_table : QuestionTable
question_table q a b = (λ n h. (questions.refused q a b n h, questions.refuses q a b n), (questions.passes q a b, questions.passed q a b))

pub pieces_cover : PiecesCover
pieces_cover = cover.pieces_cover

pub pieces-written : PiecesWritten
pieces-written = cover.pieces-written

-- ---- of a line by its parts, whose first says its kind
span_of : (closed : Bool) (degree : ℕ) (knots : List Float) (mults : List ℕ) (coords weights : List Float) (u : Float) → HoldsAt (line_of closed degree knots mults coords weights) u
unfolding bounds_in
span_of true degree knots mults coords weights u ok low high =
    let n = turns.span_numbered degree knots mults coords weights 1 ok u low high in (
      turns.span_holds degree knots mults coords weights 1 ok u low high,
      λ s w o. let i = w refl in turns.span_only_turn degree knots mults coords weights 1 ok u low high s i.0 i.1 o,
      n.0,
      n.1,
    )
span_of false degree knots mults coords weights u ok low high =
    let n = stretches.span_numbered degree knots mults coords weights 1 ok u low high in (
      stretches.span_holds degree knots mults coords weights 1 ok u low high,
      λ s w o. stretches.span_only degree knots mults coords weights 1 ok u low high s o,
      n.0,
      n.1,
    )

pub span_holds : SpanHolds
span_holds l u = span_of l.closed l.degree l.knots l.mults l.coords l.weights u

breaks_of_lem : (closed : Bool) (degree : ℕ) (knots : List Float) (mults : List ℕ) (coords weights : List Float) (datum : ℕ) (lo hi : Float)
    → InSpansOf (with_datum datum (line_of closed degree knots mults coords weights)) lo hi
breaks_of_lem true degree knots mults coords weights datum lo hi d ok fits e = turns.breaks_in_spans degree knots mults coords weights datum ok lo hi (d refl) fits e
breaks_of_lem false degree knots mults coords weights datum lo hi d ok fits e = stretches.breaks_in_spans degree knots mults coords weights datum ok lo hi fits e

pub breaks_in_spans : BreaksInSpans
breaks_in_spans l lo hi = breaks_of_lem l.closed l.degree l.knots l.mults l.coords l.weights l.datum lo hi

of_breaks_lem : (l : Line) (t0 : Float) (ts : List Float) → AllTwo (InOneSpan l) (t0 ∷ ts)
    → All (OfOneSpan l) (pieces_from t0 (cuts_from l.closed l.degree (knots_of l) (flat_of l) (net_poles l) t0 ts))
unfolding cuts_from net_of span_bezier
of_breaks_lem l t0 [] h = tt
of_breaks_lem l t0 (t1 ∷ ts) h = (record { range = h.0; net = refl }, of_breaks_lem l t1 ts h.1)

pub pieces_in_spans : PiecesInSpans
pieces_in_spans l lo hi d ok fits e = of_breaks_lem l lo (between lo hi (knots_of l) (hi ∷ [])) (breaks_in_spans l lo hi d ok fits e)

place_of : (closed : Bool) (degree : ℕ) (knots : List Float) (mults : List ℕ) (coords weights : List Float) (t0 t1 : Float) → KeptAt (line_of closed degree knots mults coords weights) t0 t1
place_of true degree knots mults coords weights t0 t1 ok c u is low high = turns.place_kept degree knots mults coords weights 1 ok (middle t0 t1) u is low high
place_of false degree knots mults coords weights t0 t1 ok c u is low high = absurd (true≢false (sym c))

pub place_kept : PlaceKept
place_kept l t0 t1 = place_of l.closed l.degree l.knots l.mults l.coords l.weights t0 t1
