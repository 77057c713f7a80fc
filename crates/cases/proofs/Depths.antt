-- Each node is halved as the list says, by computation. Assumes nothing.
use mathlib.Core.Path.{refl}
use Rattle.cases.specs.Depths.{Divisions}
use Rattle.cases.proofs.Values.{computed}

pub divisions_made : Divisions
unfolding computed
divisions_made = ((refl, refl), ((refl, refl), ((refl, refl), ((refl, refl), ((refl, refl), ((refl, refl), ((refl, refl), ((refl, refl), ((refl, refl), ((refl, refl), ((refl, refl), ((refl, refl), ((refl, refl), tt)))))))))))))
