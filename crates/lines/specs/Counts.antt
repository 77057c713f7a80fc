-- What an admitted line's tests say, one field a test. Definitions only.
use Rattle.std.specs.Prelude.{◌≡◌, true, false, ◌||◌, ◌+◌, ◌/◌, ◌%◌, ◌≤◌, length, ltb, eqb}
use Rattle.std.specs.Float.Ieee.{lt, neg}
use Rattle.lists.specs.Tests.{every, each_two, total}
use Rattle.floats.specs.Floats.{within}
use Rattle.lines.specs.Lines.{Line}
use Rattle.lines.specs.Admit.{two20, two24, two10, one1024th, ends_differ, too_large, beyond_of}

pub record Counts (l : Line) : Type 0 where
  pub least : 1 ≤ l.degree
  pub most : l.degree ≤ 25
  pub two_knots : 2 ≤ length l.knots
  pub few_knots : length l.knots ≤ 128
  pub as_many : length l.mults ≡ length l.knots
  pub knots_fit : every (within (neg two20) two20) l.knots ≡ true
  pub increasing : each_two lt l.knots ≡ true
  pub same_ends : ends_differ l.closed l.mults ≡ false
  pub small_mults : too_large l.closed l.degree l.mults ≡ false
  pub some_mults : every (λ m. ltb 0 m) l.mults ≡ true
  pub thirds : length l.coords % 3 ≡ 0
  pub count : length l.coords / 3 + beyond_of l.closed l.degree l.mults ≡ total l.mults
  pub enough : l.degree + 1 ≤ length l.coords / 3
  pub few_poles : length l.coords / 3 ≤ 128
  pub weights_count : (eqb (length l.weights) 0 || eqb (length l.weights) (length l.coords / 3)) ≡ true
  pub weights_fit_lem : every (within one1024th two10) l.weights ≡ true
  pub coords_fit : every (within (neg two24) two24) l.coords ≡ true
