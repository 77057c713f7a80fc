-- A report's word and its slice. Assumes nothing.
use mathlib.Core.Path.{◌≡◌, refl, ap, sym, ◌∙◌}
use mathlib.Core.List.{List, [], ◌++◌, reverse, append_assoc}
use Prim.Native.Nat.{ℕ, zero, suc, ◌+◌, ◌-◌, ◌*◌, ◌≤◌}
use native.Mathlib.Omega.{arith}
use lib.ListN.{length, take, drop, replicate, length-replicate, length-append}
use lib.Seq.{take_at}
use lib.Ieee.{Float}
use Rattle.lists.specs.Parts.{patch}
use Rattle.floats.specs.Floats.{zero64}
use Rattle.regions.specs.declared.Region.{Region}
use Rattle.regions.specs.declared.Word.TheVariants.{Complete}
use Rattle.regions.specs.Reports.{word_for, report_slice}
use Rattle.regions.specs.Regions.{merging, flats, regions_in}
use Rattle.machine.specs.Merge.{gather, ordered, merged}
use mathlib.Core.Logic.{◌↔◌}
use Rattle.regions.proofs.Laws.{regions_length, flats-length, flats_read, drop_more}

-- ---- the report
report_is : (n m : ℕ) (rs : List Region) (l₀ l₂ l₃ : List Float) → m ≤ n → length rs ≡ m → take (m * 10) l₂ ≡ flats rs → drop (n * 10) l₂ ≡ drop (n * 10) l₀
    → l₃ ≡ patch l₂ (m * 10) (replicate (n * 10 - m * 10) zero64) → l₃ ≡ report_slice n rs l₀
report_is n m rs l₀ l₂ l₃ le k f d el =
    let c = length-replicate (n * 10 - m * 10) zero64 in
    let a = length-append (flats rs) (replicate (n * 10 - m * 10) zero64) in
    let fl = flats-length rs in
    let d1 : m * 10 + length (replicate (n * 10 - m * 10) zero64) ≡ n * 10 = omega arith in
    let d2 : 0 + length (flats rs ++ replicate (n * 10 - m * 10) zero64) ≡ n * 10 = omega arith in
    rw k (el ∙ rw (f, d1, d2, d, append_assoc) refl)

-- gathered in l₁, sorted in l₂, filled up in l₃
pub merged_done : (raw l₀ l₁ l₂ l₃ : List Float) (n m : ℕ) → n * 10 ≤ length l₂ → m ≤ n
    → regions_in m l₁ ≡ gather merging (reverse (regions_in n raw)) [] → drop (n * 10) l₁ ≡ drop (n * 10) l₀
    → regions_in m l₂ ≡ ordered merging (regions_in m l₁) → drop (m * 10) l₂ ≡ drop (m * 10) l₁
    → l₃ ≡ patch l₂ (m * 10) (replicate (n * 10 - m * 10) zero64)
    → (m ≡ length (merged merging (regions_in n raw))) × (l₃ ≡ report_slice n (merged merging (regions_in n raw)) l₀)
merged_done raw l₀ l₁ l₂ l₃ n m room le eg er es et el =
    let e : regions_in m l₂ ≡ merged merging (regions_in n raw) = es ∙ ap (ordered merging) eg in
    let k : length (merged merging (regions_in n raw)) ≡ m = sym (ap length e) ∙ regions_length m l₂ in (
      sym k,
      report_is n m (merged merging (regions_in n raw)) l₀ l₂ l₃ le k (sym (flats_read m l₂ (omega arith)) ∙ ap flats e)
          (drop_more (m * 10) (n * 10) l₂ l₁ (omega arith) et ∙ er) el,
    )

-- the regions of a report are read back from its slice
pub report_read : (n : ℕ) (rs : List Region) (l : List Float) → take (length rs * 10) (report_slice n rs l) ≡ flats rs
report_read n rs l =
    ap (take (length rs * 10)) (append_assoc (flats rs) (replicate (n * 10 - length rs * 10) zero64)
    (drop (0 + length (flats rs ++ replicate (n * 10 - length rs * 10) zero64)) l))
    ∙ take_at (flats rs) (replicate (n * 10 - length rs * 10) zero64 ++ drop (0 + length (flats rs ++ replicate (n * 10 - length rs * 10) zero64)) l)
    (length rs * 10) (flats-length rs)

-- the word is complete exactly where nothing was given up and nothing is left
pub word_exact : (g l : ℕ) → (word_for g l ≡ Complete) ↔ ((g ≡ 0) × (l ≡ 0))
word_exact zero zero = (λ e. (refl, refl), λ e. refl)
word_exact (suc g) zero = (λ e. absurd (let z : ◌≡◌ {A = ℕ} 0 1 = cc in omega arith), λ e. absurd (let z = e.0 in omega arith))
word_exact zero (suc l) = (λ e. absurd (let z : ◌≡◌ {A = ℕ} 0 1 = cc in omega arith), λ e. absurd (let z = e.1 in omega arith))
word_exact (suc g) (suc l) = (λ e. absurd (let z : ◌≡◌ {A = ℕ} 0 1 = cc in omega arith), λ e. absurd (let z = e.1 in omega arith))
