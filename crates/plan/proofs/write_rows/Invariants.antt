-- `plan::write_rows` meets its contract: the rows before place i are written, and what follows is as it was. Assumes nothing.
use Rattle.std.proofs.Common.{◌≡◌, ◌++◌, map, take, drop}
use Rattle.cube.specs.Words.{value_of, care_of}
use Rattle.plan.proofs.write_rows.Given as goal

abbrev pub invariant-loop-i : goal.invariant-loop-i
invariant-loop-i l = record {
  values : l.values ≡ map (value_of l.width) (take l.i l.cubes) ++ drop l.i l.initial.values;
  cares : l.cares ≡ map (care_of l.width) (take l.i l.cubes) ++ drop l.i l.initial.cares;
}
