-- Every sheet gets the refusal of its first fault, a report, or the reports of its chart. Assumes nothing.
use mathlib.Core.Path.{◌≡◌, refl, sym, ap, ◌∙◌}
use mathlib.Core.Logic.{◌↔◌}
use mathlib.Core.Bool.{true, ◌&&◌, false≢true}
use mathlib.Core.List.{List, [], ◌∷◌}
use Prim.Native.Nat.{ℕ, ◌*◌, ◌≤◌}
use lib.ListN.{length, get_or, length-replicate}
use native.Mathlib.Omega.{arith}
use Rattle.std.specs.Prelude.{Result, Ok}
use Rattle.std.proofs.lemmas.Bool.{and_parts}
use Rattle.lists.specs.Members.{All}
use Rattle.floats.specs.Floats.{zero64}
use Rattle.lines.specs.Lines.{Question}
use Rattle.regions.specs.declared.Word.{Word}
use Rattle.regions.specs.declared.Word.TheVariants.{Complete, Budget, Unseparated}
use Rattle.states.specs.declared.State.{State}
use Rattle.states.specs.States.{Memory, sizes, records_of}
use Rattle.states.specs.declared.StepError.{StepError}
use Rattle.nodes.specs.Nets.{geometry}
use Rattle.search.specs.Runs.{run_def}
use Rattle.report.specs.declared.Summary.{Summary}
use Rattle.report.specs.declared.ReportError.{ReportError}
use Rattle.report.specs.Reports.{summary_of, report_def}
use Rattle.opening.specs.declared.OpenError.{OpenError}
use Rattle.opening.specs.Asked.{state_of}
use Rattle.opening.specs.Opens.{search_for, Opening, open_def}
use Rattle.coverage.specs.Complete.{looped, Clear}
use Rattle.coverage.proofs.Refine.{room_of}
use Rattle.coverage.proofs.Demand3.{opened_fresh}
use Rattle.coverage.proofs.Complete.{loop_ends, complete_is_clear, loop_reports}
use Rattle.walks.specs.Sheets.{ChartLine, Chart, charted, walk_of}
use Rattle.sheet.specs.Answers.{zeros, zero_marks, lent, lent_output, reported_text, report_text, stepped_text, search_text, opened_text, lines_text}
use Rattle.charts.specs.Charts.{Tested, pair_for, is_complete, lines_complete, all_complete, rest_text, tested_text, chart_text}
use Rattle.charts.specs.Answers.{walked_text, answer_of}
use Rattle.charts.proofs.Says.{starts, word_says, lines_say}
use Rattle.whole.specs.Whole.{PairReport, LineReports, EachComplete, Printed, refused, reported, chart_reported, Whole, LastLinesDiffer, LineAlone}
use Rattle.whole.specs.Refusals.{Faultless}
use Rattle.whole.proofs.Charts.{Passed}
use Rattle.whole.proofs.Refusals.{Met, faulty, opens, passes, opens_faultless, met, fault_numbered, fault_printed}

-- ---- an open search: the loop ends, and its report is printed
few_records : (q : Question) (x : State) → (open_def q (zeros 8112) (zeros 8112) lent).answer ≡ Ok x → records_of x.tally * 10 ≤ length (zeros 8190)
few_records q x e =
    opened_fresh q (zeros 8112) (zeros 8112) lent x (λ (y : State) (m : Memory). records_of y.tally * 10 ≤ length (zeros 8190))
    (λ F room. (room_of (search_for q) (sizes lent) room).raw) e

marks_room : (n : ℕ) → n * 10 ≤ length (zeros 8190) → n ≤ length zero_marks
unfolding zeros zero_marks
marks_room n h =
    let a = length-replicate 8190 zero64 in
    let b = length-replicate {A = ℕ} 819 0 in
    omega (arith, h, a, b)

module _ (q : Question) (good : Faultless q) (x : State) (e : (open_def q (zeros 8112) (zeros 8112) lent).answer ≡ Ok x) where
  abbrev o : Opening
  o = open_def q (zeros 8112) (zeros 8112) lent

  pair_report : PairReport q
  unfolding lines_text search_text report_text
  pair_report =
      let L = loop_ends q (zeros 8112) (zeros 8112) lent x e in
      let y = state_of (search_for q) (looped (search_for q) (sizes lent)) in
      let m = (run_def geometry x o.memory).memory in
      let r = report_def geometry y m lent_output in
      let R = loop_reports q (zeros 8112) (zeros 8112) lent x y e L.answer lent_output (few_records q x e) (marks_room _ (few_records q x e)) in
      record {
        faultless = good;
        reporting = r;
        report = R;
        text =
            ap (λ (a : Result State OpenError). opened_text a o.memory lent_output) e ∙ ap (λ (a : Result State StepError). stepped_text a m lent_output) L.answer
            ∙ ap (λ (a : Result Summary ReportError). reported_text a r.output) R.told;
        clear =
            λ c. complete_is_clear q (zeros 8112) (zeros 8112) lent x y e L.answer lent_output R.counts R.regions
            (R.told ∙ ap (λ (w : Word). summary_of w R.counts R.regions) c);
      }

-- ---- a chart
-- a report that says complete starts with the word
complete_word : (w : Word) → (is_complete w ≡ true) ↔ (w ≡ Complete)
complete_word Complete = (λ e. refl, λ e. refl)
complete_word Budget = (λ e. absurd (false≢true e), λ e. absurd (let z : ◌≡◌ {A = ℕ} 0 1 = cc in omega arith))
complete_word Unseparated = (λ e. absurd (false≢true e), λ e. absurd (let z : ◌≡◌ {A = ℕ} 0 1 = cc in omega arith))

-- `lines_complete` is read off the first byte of the printed text
says : (q : Question) (r : PairReport q) → lines_complete q ≡ is_complete r.report.word
says q r = sym (lines_say [] q) ∙ ap (starts []) r.text ∙ word_says [] r.report.word r.report.counts r.report.regions _

module _ (c : Chart) where
  each_complete : (ls : List ChartLine) (rs : LineReports c ls) → (all_complete c ls ≡ true) ↔ EachComplete c ls rs
  each_complete [] rs = (λ e. tt, λ e. refl)
  each_complete (l ∷ ls) rs =
      let i = each_complete ls rs.1 in
      let q = pair_for c l in
      let w = complete_word rs.0.report.word in (
        λ e. let z = and_parts (lines_complete q) (all_complete c ls) e in (w.0 (sym (says q rs.0) ∙ z.0), i.0 z.1),
        λ h. (λ j. (says q rs.0 ∙ w.1 h.0) j && i.1 h.1 j),
      )

  each_clear : (ls : List ChartLine) (rs : LineReports c ls) → EachComplete c ls rs → All (λ (l : ChartLine). Clear (search_for (pair_for c l)) (sizes lent)) ls
  each_clear [] rs h = tt
  each_clear (l ∷ ls) rs h = (rs.0.clear h.0, each_clear ls rs.1 h.1)

  line_reports : (ls : List ChartLine) → All (λ (l : ChartLine). Faultless (pair_for c l)) ls → LineReports c ls
  line_reports [] h = tt
  line_reports (l ∷ ls) h = (pair_report (pair_for c l) h.0 _ (opens_faultless (pair_for c l) h.0), line_reports ls h.1)

  chart_printed : (s : List ℕ) → walk_of s ≡ charted c → Passed c → Printed s
  unfolding answer_of chart_text
  chart_printed s w p =
      let rs = line_reports c.lines p.lines in
      chart_reported c w p.some p.few rs (all_complete c c.lines)
      (ap walked_text w ∙ ap (λ (t : Tested). tested_text t (rest_text c c.lines true)) p.none) (each_complete c.lines rs)
      (λ e. each_clear c.lines rs ((each_complete c.lines rs).0 e))

-- ---- every sheet
pub whole : Whole
unfolding answer_of
whole s = go (met s)
  where
    go : Met s → Printed s
    go (faulty n place f) = refused n place (fault_numbered s n place f) f (fault_printed s n place f)
    go (opens q e g h) = reported q e (pair_report q g _ h) (ap walked_text e)
    go (passes c e p) = chart_printed c s e p

pub last_lines_differ : LastLinesDiffer
last_lines_differ e = let z : ◌≡◌ {A = ℕ} 99 105 = ap (λ (l : List ℕ). get_or l 6 0) e in omega (arith, z)

pub line_alone : LineAlone
unfolding answer_of
line_alone c l s w = ap walked_text w
