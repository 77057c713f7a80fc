-- States that are no search's are refused, by computation. Assumes nothing.
use mathlib.Core.Path.{refl}
use Rattle.cases.specs.Forged.{Forgeries}

pub forgeries-answered : Forgeries
forgeries-answered = (refl, (refl, (refl, (refl, (refl, (refl, (refl, (refl, (refl, (refl, (refl, (refl, (refl, (refl, (refl, (refl, (refl, (refl, (refl, (refl, (refl, tt)))))))))))))))))))))
