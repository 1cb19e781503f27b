-- `pricing::simplex::Tableau::entering` meets its contract: the place found is one of the places. Assumes nothing.
use Rattle.std.proofs.Common.{◌<◌, IfSome}
use Rattle.arrayvec.specs.ArrayVec.{array_vec_len}
use Rattle.pricing.proofs.simplex.Tableau.entering.Given as goal

abbrev pub invariant-loop-q : goal.invariant-loop-q
invariant-loop-q l = IfSome l.best (λ found. found.0 < array_vec_len l.self.places)
