-- The regions of the nodes left, one a turn, and the tests of a report. Assumes nothing.
use mathlib.Core.Path.{◌≡◌, refl, sym, ap, ◌∙◌}
use mathlib.Core.Bool.{true, ◌&&◌}
use mathlib.Core.List.{List, [], ◌∷◌, ◌++◌, append_assoc}
use Prim.Native.Nat.{ℕ, zero, suc, ◌+◌, ◌*◌, ◌≤◌}
use native.Mathlib.Nat.{le_trans, mul-le-mul, mul-le-mul_right}
use native.Mathlib.Numerals.{add-one}
use native.Mathlib.Omega.{arith}
use lib.Dec.{leb, eqb}
use lib.ListN.{length, length-append}
use lib.Ieee.{Float}
use borrow.Author.Tests.{leb-true, eqb-true}
use Rattle.lists.specs.Parts.{patch}
use Rattle.lists.proofs.Parts.{patch_twice}
use Rattle.machine.specs.Merge.{merged}
use Rattle.machine.specs.Marks.{marks_of}
use Rattle.terms.specs.declared.Seam.{Seam}
use Rattle.terms.specs.Terms.{seam_of}
use Rattle.stretches.specs.Stretches.{near_in}
use Rattle.stretches.proofs.Marked.{report_marks}
use Rattle.regions.specs.declared.Region.{Region}
use Rattle.regions.specs.declared.Word.{Word}
use Rattle.regions.specs.Regions.{merging, flat, flats, regions_in}
use Rattle.regions.specs.Reports.{word_for, report_slice}
use Rattle.machine.proofs.Merged.{merged_length}
use Rattle.regions.proofs.Laws.{flats-length, regions_length}
use Rattle.states.specs.declared.State.{State}
use Rattle.states.specs.declared.Depths.{Depths}
use Rattle.states.specs.declared.Counts.{Counts}
use Rattle.states.specs.States.{Memory, memory, Sizes, sizes, needed, enough, top_fits, search_with, is_search, over, counts_of, allowance_of, records_of}
use Rattle.nodes.specs.Geometry.{Geometry}
use Rattle.states.proofs.Tests.{and_first, and_second, slots_fit, room_all}
use Rattle.verdicts.specs.declared.Side.TheVariants.{First, Second}
use Rattle.report.specs.Reports.{Output, output, summary_of, out_room, reporting, slot_region, left_regions, raw_after, write_report, report_def}

flats_snoc : (rs : List Region) (r : Region) → flats (rs ++ (r ∷ [])) ≡ flats rs ++ flat r
flats_snoc [] r = refl
flats_snoc (x ∷ rs) r = ap (λ (l : List Float). flat x ++ l) (flats_snoc rs r) ∙ sym (append_assoc (flat x) (flats rs) (flat r))

module _ (G : Geometry) (x : State) (nets1 nets2 ranges : List Float) where
  pub left-length : (k : ℕ) → length (left_regions G x nets1 nets2 ranges k) ≡ k
  left-length zero = refl
  left-length (suc k) = length-append (left_regions G x nets1 nets2 ranges k) (slot_region G x nets1 nets2 ranges k ∷ []) ∙ (let e = left-length k in omega arith)

  pub left-turn : (raw₀ raw raw' : List Float) (g k : ℕ) (r : Region) → (g + k + 1) * 10 ≤ length raw₀
      → raw ≡ patch raw₀ (g * 10) (flats (left_regions G x nets1 nets2 ranges k)) → r ≡ slot_region G x nets1 nets2 ranges k → raw' ≡ patch raw ((g + k) * 10) (flat r)
      → raw' ≡ patch raw₀ (g * 10) (flats (left_regions G x nets1 nets2 ranges (k + 1)))
  left-turn raw₀ raw raw' g k r h e f e' =
      let L = left_regions G x nets1 nets2 ranges k in
      let n : (g + k) * 10 ≡ g * 10 + length (flats L) = (let a = flats-length L in let b = left-length k in omega arith) in
      e' ∙ ap (λ (l : List Float). patch l ((g + k) * 10) (flat r)) e
      ∙ patch_twice raw₀ (g * 10) ((g + k) * 10) (flats L) (flat r) n (omega arith)
      ∙ ap (λ (z : Region). patch raw₀ (g * 10) (flats L ++ flat z)) f
      ∙ ap (patch raw₀ (g * 10))
      (sym (flats_snoc L (slot_region G x nets1 nets2 ranges k)) ∙ ap (λ (j : ℕ). flats (left_regions G x nets1 nets2 ranges j)) (sym (add-one k)))

-- ---- the room of an accepted report
few_waiting : (P n : ℕ) (d : Depths) → top_fits P n d ≡ true → n ≤ P + 64
few_waiting P zero d e = omega arith
few_waiting P (suc n) d e =
    let b1 = leb (suc n) (P + (d.first + d.second)) in
    let b2 = leb d.first 32 in
    let b3 = leb d.second 32 in
    let f = and_second b1 (b2 && b3) e in
    let a = leb-true (suc n) (P + (d.first + d.second)) (and_first b1 (b2 && b3) e) in
    let b = leb-true d.first 32 (and_first b2 b3 f) in
    let c = leb-true d.second 32 (and_second b2 b3 f) in
    omega arith

-- n floats for the regions and k marks
pub record RoomLeft (x : State) (s : Sizes) (n k : ℕ) : Type 0 where
  pub nets1 : x.tally.waiting * (4 * x.width1) ≤ s.nets1
  pub nets2 : x.tally.waiting * (4 * x.width2) ≤ s.nets2
  pub ranges : x.tally.waiting * 4 ≤ s.ranges
  pub raw : (x.tally.given + x.tally.waiting) * 10 ≤ s.raw
  pub slice : (x.tally.given + x.tally.waiting) * 10 ≤ n
  pub marks : x.tally.given + x.tally.waiting ≤ k
  pub few : x.tally.pairs ≤ 65535 → x.tally.quota ≤ 65535 → x.tally.given + x.tally.waiting ≤ 4294967295

pub room-left : (x : State) (d : Depths) (s : Sizes) (n k : ℕ) → enough (needed x) s ≡ true → leb (records_of x.tally * 10) n && leb (records_of x.tally) k ≡ true
    → search_with x.tally d ≡ true → RoomLeft x s n k
room-left x d s n k e l f =
    let b1 = top_fits x.tally.pairs x.tally.waiting d in
    let b2 = eqb (x.tally.pairs + x.tally.splits) (x.tally.settled + x.tally.given + x.tally.waiting) in
    let b3 = eqb (x.tally.splits + x.tally.unspent) (allowance_of x.tally) in
    let b4 = eqb x.tally.settled (x.tally.boxes + x.tally.planes + x.tally.lines) in
    let b5 = leb x.tally.visits (x.tally.splits + x.tally.settled + x.tally.given + 1) in
    let f2 = and_second b1 (b2 && (b3 && (b4 && b5))) f in
    let w = few_waiting x.tally.pairs x.tally.waiting d (and_first b1 (b2 && (b3 && (b4 && b5))) f) in
    let bal = eqb-true (x.tally.pairs + x.tally.splits) (x.tally.settled + x.tally.given + x.tally.waiting) (and_first b2 (b3 && (b4 && b5)) f2) in
    let all = eqb-true (x.tally.splits + x.tally.unspent) (allowance_of x.tally) (and_first b3 (b4 && b5) (and_second b2 (b3 && (b4 && b5)) f2)) in
    let R = room_all x s e in
    let floats = leb-true (records_of x.tally * 10) n (and_first (leb (records_of x.tally * 10) n) (leb (records_of x.tally) k) l) in
    let marks = leb-true (records_of x.tally) k (and_second (leb (records_of x.tally * 10) n) (leb (records_of x.tally) k) l) in
    let g : x.tally.given + x.tally.waiting ≤ records_of x.tally = omega arith in
    record {
      nets1 = slots_fit x.tally.pairs x.tally.waiting (4 * x.width1) s.nets1 w R.nets1;
      nets2 = slots_fit x.tally.pairs x.tally.waiting (4 * x.width2) s.nets2 w R.nets2;
      ranges = slots_fit x.tally.pairs x.tally.waiting 4 s.ranges w R.ranges;
      raw = le_trans (mul-le-mul_right 10 g) R.raw;
      slice = le_trans (mul-le-mul_right 10 g) floats;
      marks = le_trans g marks;
      few = λ p q. let w = mul-le-mul q p in omega (arith, g, w);
    }

-- there are no more merged regions than raw ones, so each has room for its mark
pub few_marks : (x : State) {s : Sizes} {n k : ℕ} (m : ℕ) (l : List Float) → x.tally.pairs ≤ 65535 → x.tally.quota ≤ 65535 → RoomLeft x s n k
    → m ≡ length (merged merging (regions_in (x.tally.given + x.tally.waiting) l)) → (m ≤ 4294967295) × (m * 10 ≤ n) × (m ≤ k)
few_marks x m l p q r e =
    let a = merged_length merging (regions_in (x.tally.given + x.tally.waiting) l) in
    let b = regions_length (x.tally.given + x.tally.waiting) l in
    let g : m ≤ x.tally.given + x.tally.waiting = omega (arith, a, b, e) in
    (le_trans g (r.few p q), le_trans (mul-le-mul_right 10 g) r.slice, le_trans g r.marks)

-- ---- a report: one test a return
module _ (G : Geometry) (x : State) (u : Memory) (o : Output) where
  pub report_told : over x.tally ≡ true → enough (needed x) (sizes u) ≡ true → out_room (records_of x.tally) o ≡ true → is_search x u ≡ true
      → (w : Word) (c : Counts) (n : ℕ) (raw out : List Float) (marks : List ℕ) (a b : Seam) → w ≡ word_for x.tally.given x.tally.waiting → c ≡ counts_of x.tally
      → raw ≡ raw_after G x u → n ≡ length (merged merging (regions_in (x.tally.given + x.tally.waiting) raw))
      → out ≡ report_slice (x.tally.given + x.tally.waiting) (merged merging (regions_in (x.tally.given + x.tally.waiting) raw)) o.regions
      → a ≡ seam_of First x.terms → b ≡ seam_of Second x.terms → marks ≡ patch o.marks 0 (marks_of n (near_in a b out))
      → reporting (summary_of w c n) (memory u.nets1 u.nets2 u.ranges u.depths raw) (output out marks) ≡ report_def G x u o
  report_told e f l s w c n raw out marks a b ew ec er en eo ea eb em =
      let fn = en ∙ ap (λ (r : List Float). length (merged merging (regions_in (x.tally.given + x.tally.waiting) r))) er in
      let fo = eo ∙ ap (λ (r : List Float). report_slice (x.tally.given + x.tally.waiting) (merged merging (regions_in (x.tally.given + x.tally.waiting) r)) o.regions) er in
      let fm = report_marks (seam_of First x.terms) (seam_of Second x.terms) (x.tally.given + x.tally.waiting) n (merged merging (regions_in (x.tally.given + x.tally.waiting) (raw_after G x u)))
      o.regions out o.marks marks fn fo (em ∙ (λ i. patch o.marks 0 (marks_of n (near_in (ea i) (eb i) out)))) in
      (λ i. reporting (summary_of (ew i) (ec i) (fn i)) (memory u.nets1 u.nets2 u.ranges u.depths (er i)) (output (fo i) (fm i)))
      ∙ accepted
    where
      accepted : write_report G x u o ≡ report_def G x u o
      accepted = rw (e, f, l, s) refl
