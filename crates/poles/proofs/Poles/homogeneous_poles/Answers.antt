-- A turn fills one pole more, and the last leaves none to come. Assumes nothing.
use mathlib.Core.Path.{refl, ap, ◌∙◌}
use mathlib.Core.List.{◌∷◌, ◌++◌, append-nil}
use Rattle.std.proofs.Common.{rules, ◌≡◌, ◌+◌, ◌*◌, ◌-◌, take, drop, ℕ}
use native.Mathlib.Omega.{arith}
use Rattle.lists.proofs.Loops.{fill4_turn}
use Rattle.points.specs.declared.Point4D.{Point4D}
use Rattle.poles.specs.Poles.{pole_count, homogeneous_of, homogeneous_poles}
use Rattle.poles.proofs.Poles.homogeneous_poles.Goals as goal

pub loop-i-preserved : goal.loop-i-preserved
unfolding homogeneous_poles
loop-i-preserved c =
    let s = c.args.self in
    let n = pole_count s.coords.now in
    let at = homogeneous_of s.coords.now s.weights.now in
    let l = c.loop-i in
    let e = c.put.ensures ∙ ap (λ (p : Point4D). take (4 * l.i) l.out ++ (p.x ∷ p.y ∷ p.z ∷ p.w ∷ drop (4 * l.i + 4) l.out)) c.homogeneous.ensures in
    record {
      room = search rules;
      filled = fill4_turn (λ (n i : ℕ). homogeneous_poles s.coords.now s.weights.now n i)
          (λ (k : ℕ). (at k).x) (λ (k : ℕ). (at k).y) (λ (k : ℕ). (at k).z) (λ (k : ℕ). (at k).w) (λ (n i : ℕ). refl)
          l.out c.put.new.s n l.i (omega arith) (omega arith) e
          ∙ l.invariant.filled;
    }

pub returns : goal.returns
unfolding homogeneous_poles
returns c =
    let n = pole_count c.args.self.coords.now in
    let all : c.loop-i.i ≡ n = omega arith in
    let none : n - c.loop-i.i ≡ 0 = omega arith in
    (c.loop-i.invariant.room, rw (none, all, append-nil) at c.loop-i.invariant.filled)
