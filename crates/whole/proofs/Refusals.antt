-- Each fault of a sheet has its number and place, and is printed with them; a sheet without one is opened, or each pair of its chart. Assumes nothing.
use mathlib.Core.Path.{◌≡◌, refl, sym, ap, ◌∙◌, subst}
use mathlib.Core.Logic.{◌⊎◌, inl, inr}
use mathlib.Core.List.{List}
use mathlib.Core.Bool.{Bool, true, false, cond, false≢true}
use Prim.Native.Nat.{ℕ, ◌≤◌}
use native.Mathlib.Omega.{arith}
use Rattle.std.specs.Prelude.{Result, Ok, Err}
use Rattle.std.proofs.lemmas.Bool.{true_from_ne_false}
use Rattle.verdicts.specs.declared.Side.TheVariants.{First, Second}
use Rattle.lines.specs.declared.LineError.{LineError}
use Rattle.lines.specs.Admit.{line_error_number, admit_of}
use Rattle.lines.specs.Lines.{Question}
use Rattle.questions.specs.declared.QuestionError.{QuestionError}
use Rattle.questions.specs.Questions.{ask_of}
use Rattle.facts.specs.Faults.{QuestionFault}
use Rattle.states.specs.declared.State.{State}
use Rattle.states.specs.States.{sizes, needed, enough}
use Rattle.opening.specs.declared.OpenError.{OpenError}
use Rattle.opening.specs.declared.OpenError.TheVariants.{BadLine, BadDatum, BadQuestion, NoRoom}
use Rattle.opening.specs.Opens.{pieces_fit, open_def}
use Rattle.walks.specs.Sheets.{Chart, Walked, walked, charted, refused_as, walk_of}
use Rattle.printing.specs.Printed.{refusal_line}
use Rattle.sheet.specs.Answers.{zeros, lent}
use Rattle.charts.specs.Charts.{Tested, order, rest_text, tested_text, chart_text}
use Rattle.charts.specs.Answers.{walked_text, answer_of}
use Rattle.whole.specs.Refusals.{Numbered, Short, Faultless, FirstOf, Fault, in_sheet, in_first, in_second, in_data, in_question, in_memory, in_chart, FaultPrinted}
use Rattle.whole.proofs.Tests.{x, Few, few_walk, walk_number, line_number_lem, fst_of, snd_of, not_zero, good_admitted, admitted_good, fault_refused, refused_fault, data_test, good_one, one_good, fault_off, off_fault, good_fine, fine_good, place_of, fault_asked, asked_fault, tested_as, said}
use Rattle.whole.proofs.Charts.{chart_first, Passed, chart-met, chart_numbered}

-- the places of a pair's lines
one_place : (place : ℕ) → place ≡ 1 → (1 ≤ place) × (place ≤ 65)
one_place place e = (omega arith, omega arith)

two_place : (place : ℕ) → place ≡ 2 → (1 ≤ place) × (place ≤ 65)
two_place place e = (omega arith, omega arith)

second_place : (place : ℕ) → place ≡ 2 → 2 ≤ place
second_place place e = omega arith

question_number : (n place : ℕ) (q : Question) → QuestionFault (n, place) q → Numbered n place
question_number n place q (inl x) =
    inr (inl ((one_place place (snd_of (15, 1) (n, place) x.0)).0, (one_place place (snd_of (15, 1) (n, place) x.0)).1, inr (inr (inr (inr (inr (inr (inr (inr (inr (inr (inr (inr (inl (fst_of (15, 1) (n, place) x.0)))))))))))))))
question_number n place q (inr (inl x)) =
    inr (inl ((two_place place (snd_of (15, 2) (n, place) x.0)).0, (two_place place (snd_of (15, 2) (n, place) x.0)).1, inr (inr (inr (inr (inr (inr (inr (inr (inr (inr (inr (inr (inl (fst_of (15, 2) (n, place) x.0)))))))))))))))
question_number n place q (inr (inr (inl x))) = inl (snd_of (16, 0) (n, place) x.0, inr (inr (inr (inl (fst_of (16, 0) (n, place) x.0)))))
question_number n place q (inr (inr (inr (inl x)))) = inl (snd_of (17, 0) (n, place) x.0, inr (inr (inr (inr (inl (fst_of (17, 0) (n, place) x.0))))))
question_number n place q (inr (inr (inr (inr (inl x))))) =
    inr (inl ((one_place place (snd_of (18, 1) (n, place) x.0)).0, (one_place place (snd_of (18, 1) (n, place) x.0)).1, inr (inr (inr (inr (inr (inr (inr (inr (inr (inr (inr (inr (inr (inl (fst_of (18, 1) (n, place) x.0))))))))))))))))
question_number n place q (inr (inr (inr (inr (inr x))))) =
    inr (inl ((two_place place (snd_of (18, 2) (n, place) x.0)).0, (two_place place (snd_of (18, 2) (n, place) x.0)).1, inr (inr (inr (inr (inr (inr (inr (inr (inr (inr (inr (inr (inr (inl (fst_of (18, 2) (n, place) x.0))))))))))))))))

pub fault_numbered : (s : List ℕ) (n place : ℕ) → Fault s n place → Numbered n place
fault_numbered s n place (in_sheet e p) = inl (p, walk_number n (subst Few e (few_walk s)))
fault_numbered s n place (in_first q e f p) = inr (inl ((one_place place p).0, (one_place place p).1, line_number_lem n q.line1 f.0))
fault_numbered s n place (in_second q e g f p) = inr (inl ((two_place place p).0, (two_place place p).1, line_number_lem n q.line2 f.0))
fault_numbered s n place (in_data q e g h f m p) = inr (inr (second_place place p, (two_place place p).1, m))
fault_numbered s n place (in_question q e g h o f) = question_number n place q f.0
fault_numbered s n place (in_memory q e g h o f l m p) = inl (p, inr (inr (inr (inr (inr (inl m))))))
fault_numbered s n place (in_chart c e f) = chart_numbered c n place f

chart-refused : (c : Chart) (n place : ℕ) → FirstOf c (order c) n place → chart_text c ≡ refusal_line n place
unfolding chart_text
chart-refused c n place f =
    let z = chart_first c n place f in
    ap (λ (t : Tested). tested_text t (rest_text c c.lines true)) z.1 ∙ ap (λ (b : Bool). cond b (rest_text c c.lines true) (refusal_line n place)) (not_zero n z.0)

pub fault_printed : FaultPrinted
unfolding answer_of
fault_printed s n place (in_sheet e p) = ap walked_text e ∙ ap (refusal_line n) (sym p)
fault_printed s n place (in_first q w f p) =
    let (k, (e, m)) = fault_refused q.line1 n f in
    said q s w (BadLine First k) (tested_as q e refl refl refl refl refl) ∙ (λ i. refusal_line (m i) (sym p i))
fault_printed s n place (in_second q w g f p) =
    let (k, (e, m)) = fault_refused q.line2 n f in
    said q s w (BadLine Second k) (tested_as q (good_admitted q.line1 g) e refl refl refl refl) ∙ (λ i. refusal_line (m i) (sym p i))
fault_printed s n place (in_data q w g h f m p) =
    said q s w BadDatum (tested_as q (good_admitted q.line1 g) (good_admitted q.line2 h) (fault_off q f) refl refl refl) ∙ (λ i. refusal_line (sym m i) (sym p i))
fault_printed s n place (in_question q w g h o f) =
    let (k, (e, m)) = fault_asked q g h (n, place) f in
    said q s w (BadQuestion k) (tested_as q (good_admitted q.line1 g) (good_admitted q.line2 h) (good_one q o) e refl refl) ∙ (λ i. refusal_line (m i).0 (m i).1)
fault_printed s n place (in_memory q w g h o f l m p) = said q s w NoRoom (short l) ∙ (λ i. refusal_line (sym m i) (sym p i))
  where
    either : (d : Bool) → ◌≡◌ {A = Result State OpenError} (cond d (cond false (Ok (x q)) (Err NoRoom)) (Err NoRoom)) (Err NoRoom)
    either true = refl
    either false = refl

    short : Short q → (open_def q (zeros 8112) (zeros 8112) lent).answer ≡ Err NoRoom
    short (inl e) = tested_as q (good_admitted q.line1 g) (good_admitted q.line2 h) (good_one q o) (good_fine q g h f) e refl
    short (inr e) =
        tested_as q (good_admitted q.line1 g) (good_admitted q.line2 h) (good_one q o) (good_fine q g h f) refl e ∙ either (pieces_fit q (zeros 8112) (zeros 8112))
fault_printed s n place (in_chart c w f) = ap walked_text w ∙ chart-refused c n place f

-- ---- every sheet has a fault, or is opened, or each pair of its chart is
pub opens_faultless : (q : Question) → Faultless q → (open_def q (zeros 8112) (zeros 8112) lent).answer ≡ Ok (x q)
opens_faultless q f =
    tested_as q (good_admitted q.line1 f.first) (good_admitted q.line2 f.second) (good_one q f.datum) (good_fine q f.first f.second f.question)
    (true_from_ne_false _ (λ e. f.room (inl e))) (true_from_ne_false _ (λ e. f.room (inr e)))

pub data Met (s : List ℕ) : Type 0 where
  faulty : (n place : ℕ) → Fault s n place → Met s
  opens : (q : Question) → walk_of s ≡ walked q → Faultless q → (open_def q (zeros 8112) (zeros 8112) lent).answer ≡ Ok (x q) → Met s
  passes : (c : Chart) → walk_of s ≡ charted c → Passed c → Met s

met_walked : (s : List ℕ) (q : Question) → walk_of s ≡ walked q → Met s
met_walked s q w =
    go (admit_of q.line1) refl (admit_of q.line2) refl (data_test q) refl (ask_of q) refl (pieces_fit q (zeros 8112) (zeros 8112)) refl (enough (needed (x q)) (sizes lent)) refl
  where
    go : (a : Result Unit LineError) → admit_of q.line1 ≡ a → (b : Result Unit LineError) → admit_of q.line2 ≡ b → (n : Bool) → data_test q ≡ n → (c : Result Unit QuestionError) → ask_of q ≡ c
        → (d : Bool) → pieces_fit q (zeros 8112) (zeros 8112) ≡ d → (e : Bool) → enough (needed (x q)) (sizes lent) ≡ e → Met s
    go (Err k) ea b eb n en c ec d ed e ee = faulty (line_error_number k) 1 (in_first q w (refused_fault q.line1 k ea) refl)
    go (Ok y) ea (Err k) eb n en c ec d ed e ee = faulty (line_error_number k) 2 (in_second q w (admitted_good q.line1 ea) (refused_fault q.line2 k eb) refl)
    go (Ok y) ea (Ok z) eb false en c ec d ed e ee = faulty 23 2 (in_data q w (admitted_good q.line1 ea) (admitted_good q.line2 eb) (off_fault q en) refl refl)
    go (Ok y) ea (Ok z) eb true en (Err k) ec d ed e ee =
        let g = admitted_good q.line1 ea in
        let h = admitted_good q.line2 eb in
        faulty (place_of k).0 (place_of k).1 (in_question q w g h (one_good q en) (asked_fault q g h k ec))
    go (Ok y) ea (Ok z) eb true en (Ok t) ec false ed e ee =
        let g = admitted_good q.line1 ea in
        let h = admitted_good q.line2 eb in
        faulty 19 0 (in_memory q w g h (one_good q en) (fine_good q g h ec) (inl ed) refl refl)
    go (Ok y) ea (Ok z) eb true en (Ok t) ec true ed false ee =
        let g = admitted_good q.line1 ea in
        let h = admitted_good q.line2 eb in
        faulty 19 0 (in_memory q w g h (one_good q en) (fine_good q g h ec) (inr ee) refl refl)
    go (Ok y) ea (Ok z) eb true en (Ok t) ec true ed true ee =
        let g = admitted_good q.line1 ea in
        let h = admitted_good q.line2 eb in
        opens q w (record { first = g; second = h; datum = one_good q en; question = fine_good q g h ec; room = never ed ee }) (tested_as q ea eb en ec ed ee)
      where
        never : pieces_fit q (zeros 8112) (zeros 8112) ≡ true → enough (needed (x q)) (sizes lent) ≡ true → Short q → ⊥
        never ed ee (inl e) = false≢true (sym e ∙ ed)
        never ed ee (inr e) = false≢true (sym e ∙ ee)

pub met : (s : List ℕ) → Met s
met s = go (walk_of s) refl
  where
    go : (w : Walked) → walk_of s ≡ w → Met s
    go (walked q) e = met_walked s q e
    go (charted c) e = chart (chart-met c)
      where
        chart : ((n : ℕ) × ((place : ℕ) × FirstOf c (order c) n place)) ⊎ Passed c → Met s
        chart (inl m) = faulty m.0 m.1.0 (in_chart c e m.1.1)
        chart (inr p) = passes c e p
    go (refused_as n) e = faulty n 0 (in_sheet e refl)
