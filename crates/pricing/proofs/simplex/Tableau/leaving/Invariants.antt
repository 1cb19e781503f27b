-- `pricing::simplex::Tableau::leaving` meets its contract: the row found is one of the rows. Assumes nothing.
use Rattle.std.proofs.Common.{◌<◌, IfSome}
use Rattle.arrayvec.specs.ArrayVec.{array_vec_len}
use Rattle.pricing.proofs.simplex.Tableau.leaving.Given as goal

abbrev pub invariant-loop-p : goal.invariant-loop-p
invariant-loop-p l = IfSome l.best (λ found. found.0 < array_vec_len l.self.rows)
