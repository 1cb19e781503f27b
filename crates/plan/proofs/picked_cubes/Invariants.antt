-- `plan::picked_cubes` meets its contract: the cubes of the picked rows so far. Assumes nothing.
use Rattle.std.proofs.Common.{◌≡◌, ℕ, map, get_or}
use Rattle.numbers.specs.Below.{those}
use Rattle.numbers.specs.Ascending.{passed}
use Rattle.matrix.specs.Sets.{member}
use Rattle.plan.specs.Steps.{cubes_of}
use Rattle.plan.proofs.picked_cubes.Given as goal

abbrev pub invariant-loop-i : goal.invariant-loop-i
invariant-loop-i l = l.cubes.items ≡ map (λ (k : ℕ). get_or (cubes_of l.rows) k 0) (those (passed l.yielded) (member l.fn.picked))
