-- The marks of a list of regions are equal exactly where a chain of neighbours joins two of them, and each is its group's lowest place; what a report writes. Assumes nothing.
use mathlib.Core.Path.{◌≡◌, refl, ap, sym, ◌∙◌, subst}
use mathlib.Core.List.{List, []}
use Prim.Native.Nat.{ℕ, ◌*◌}
use lib.Dec.{T}
use lib.ListN.{length, get_or, take}
use lib.Ieee.{Float}
use Rattle.lists.specs.Parts.{block, patch}
use Rattle.machine.specs.Marks.{Marked, marks_of}
use Rattle.machine.proofs.Marks.{marked, marks_agree, marks_read}
use Rattle.terms.specs.declared.Seam.{Seam}
use Rattle.regions.specs.declared.Region.{Region}
use Rattle.regions.specs.Regions.{flats, region_at, regions_in}
use Rattle.regions.specs.Reports.{report_slice}
use Rattle.regions.proofs.Laws.{region_get, regions_read}
use Rattle.regions.proofs.Reports.{report_read}
use Rattle.stretches.specs.Stretches.{neighbours_of, near_at, near_in}
use Rattle.stretches.proofs.Laws.{neighbours_comm}

module _ (s1 s2 : Seam) where
  pub region_marks : (rs : List Region) → Marked (length rs) (near_at s1 s2 rs) (marks_of (length rs) (near_at s1 s2 rs))
  region_marks rs =
      marked (length rs) (near_at s1 s2 rs) (λ i j t. subst T (neighbours_comm s1 s2 (get_or rs i (region_at [])) (get_or rs j (region_at []))) t)

  -- ---- the regions as their floats stand in a slice
  slice_marks : (n : ℕ) (l : List Float) → marks_of n (near_in s1 s2 l) ≡ marks_of n (near_at s1 s2 (regions_in n l))
  slice_marks n l =
      marks_agree n (near_in s1 s2 l) (near_at s1 s2 (regions_in n l))
      (λ i j h k.
      let p = region_get i n l (region_at []) h in
      let q = region_get j n l (region_at []) k in
      sym (ap (λ (z : Region). neighbours_of s1 s2 z (get_or (regions_in n l) j (region_at []))) p ∙ ap (neighbours_of s1 s2 (region_at (block 10 i l))) q))

  pub flat_marks : (rs : List Region) (l : List Float) → take (length rs * 10) l ≡ flats rs
      → marks_of (length rs) (near_in s1 s2 l) ≡ marks_of (length rs) (near_at s1 s2 rs)
  flat_marks rs l e = slice_marks (length rs) l ∙ ap (λ (z : List Region). marks_of (length rs) (near_at s1 s2 z)) (regions_read (length rs) l rs refl e)

  -- ---- a report
  -- the marks that `mark` writes of the first m regions of a report's slice are those of the list that stands there
  pub report_marks : (n m : ℕ) (rs : List Region) (slice out : List Float) (marks marks' : List ℕ) → m ≡ length rs → out ≡ report_slice n rs slice
      → marks' ≡ patch marks 0 (marks_of m (near_in s1 s2 out)) → marks' ≡ patch marks 0 (marks_of (length rs) (near_at s1 s2 rs))
  report_marks n m rs slice out marks marks' k f e =
      e ∙ (λ i. patch marks 0 (marks_of (k i) (near_in s1 s2 (f i))))
      ∙ ap (patch marks 0) (flat_marks rs (report_slice n rs slice) (report_read n rs slice))

  -- the marks that stand in the slice then; past them it is unchanged by `marks_rest`
  pub report_marked : (rs : List Region) (marks : List ℕ)
      → Marked (length rs) (near_at s1 s2 rs) (take (length rs) (patch marks 0 (marks_of (length rs) (near_at s1 s2 rs))))
  report_marked rs marks = subst (Marked (length rs) (near_at s1 s2 rs)) (sym (marks_read (length rs) (near_at s1 s2 rs) marks)) (region_marks rs)
