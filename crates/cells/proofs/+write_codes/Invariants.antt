-- The measure of `cells::write_codes` is the number of untested digits, which both halves have fewer of.
use Prim.Native.Nat.{◌-◌}
use Rattle.cube.specs.Words.{cube_literals}
use Rattle.cells.proofs.+write_codes.Given as goal

abbrev pub decreases-write_codes : goal.decreases-write_codes
decreases-write_codes l = l.cube.width - cube_literals l.cube.width l.cube.number
