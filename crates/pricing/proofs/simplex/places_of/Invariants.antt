-- `pricing::simplex::places_of` is safe: no more places are taken than columns passed. Assumes nothing.
use Rattle.std.proofs.Common.{◌≤◌}
use Rattle.arrayvec.specs.ArrayVec.{array_vec_len}
use Rattle.numbers.specs.Ascending.{passed}
use Rattle.pricing.proofs.simplex.places_of.Given as goal

abbrev pub invariant-loop-c : goal.invariant-loop-c
invariant-loop-c l = array_vec_len l.places ≤ passed l.yielded
