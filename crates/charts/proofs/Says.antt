-- A report's first byte tells whether it says complete. Assumes nothing.
use mathlib.Core.Path.{◌≡◌, refl}
use mathlib.Core.Bool.{Bool, false}
use mathlib.Core.List.{List, ◌++◌}
use Prim.Native.Nat.{ℕ}
use lib.Dec.{eqb}
use lib.ListN.{get_or}
use Rattle.lists.specs.Parts.{patch}
use Rattle.lines.specs.Lines.{Question}
use Rattle.regions.specs.declared.Word.{Word}
use Rattle.regions.specs.declared.Word.TheVariants.{Complete, Budget, Unseparated}
use Rattle.states.specs.declared.Counts.{Counts}
use Rattle.states.specs.States.{Memory}
use Rattle.std.specs.Prelude.{Result, Ok, Err}
use Rattle.states.specs.declared.State.{State}
use Rattle.states.specs.declared.StepError.{StepError}
use Rattle.search.specs.Runs.{run_def}
use Rattle.nodes.specs.Nets.{geometry}
use Rattle.report.specs.declared.Summary.{Summary}
use Rattle.report.specs.declared.ReportError.{ReportError}
use Rattle.report.specs.Reports.{Output, report_def}
use Rattle.opening.specs.declared.OpenError.{OpenError}
use Rattle.opening.specs.Opens.{open_def}
use Rattle.printing.specs.Printed.{counted, count_line, region_lines, refusal_line}
use Rattle.sheet.specs.Answers.{zeros, lent, lent_output, reported_text, report_text, stepped_text, search_text, opened_text, lines_text}
use Rattle.charts.specs.Charts.{is_complete, reported_complete, stepped_complete, opened_complete, lines_complete}

module _ (out : List ℕ) where
  -- the first byte of a buffer in which this text was written is c
  abbrev pub starts : List ℕ → Bool
  starts text = eqb (get_or (patch out 0 text) 0 0) 99

  refused_says : (n k : ℕ) → starts (refusal_line n k) ≡ false
  unfolding refusal_line counted
  refused_says n k = refl

  pub word_says : (w : Word) (c : Counts) (n : ℕ) (r : List ℕ) → starts (count_line w c n ++ r) ≡ is_complete w
  unfolding count_line
  word_says Complete c n r = refl
  word_says Budget c n r = refl
  word_says Unseparated c n r = refl

  reported_says : (a : Result Summary ReportError) (o : Output) → starts (reported_text a o) ≡ reported_complete a
  reported_says (Ok r) o = word_says r.word r.counts r.regions (region_lines r.regions o.regions o.marks)
  reported_says (Err e) o = refused_says _ _

  stepped_says : (a : Result State StepError) (u : Memory) → starts (stepped_text a u lent_output) ≡ stepped_complete a u
  unfolding report_text
  stepped_says (Ok x) u = let r = report_def geometry x u lent_output in reported_says r.answer r.output
  stepped_says (Err e) u = refused_says _ _

  opened_says : (a : Result State OpenError) (u : Memory) → starts (opened_text a u lent_output) ≡ opened_complete a u
  unfolding search_text
  opened_says (Ok x) u = let o = run_def geometry x u in stepped_says o.answer o.memory
  opened_says (Err e) u = refused_says _ _

  pub lines_say : (q : Question) → starts (lines_text q) ≡ lines_complete q
  unfolding lines_text lines_complete
  lines_say q = let o = open_def q (zeros 8112) (zeros 8112) lent in opened_says o.answer o.memory
