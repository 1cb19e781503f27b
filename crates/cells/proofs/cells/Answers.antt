-- `cells::cells` meets its contract: a cube has at most 2^n codes. Assumes nothing.
use native.Mathlib.Omega.{arith}
use Rattle.cube.proofs.Codes.{codes_length}
use Rattle.cube.proofs.Calls.{refusals, listed_done}
use Rattle.cells.proofs.cells.Goals as goal

pub write_codes-requires : goal.write_codes-requires
write_codes-requires c =
    let given = c.in_ok-cube.ensures.cube in
    rw (given.0, given.1) (omega (arith, codes_length c.args.n c.args.q))

pub returns : goal.returns
returns c =
    let given = c.in_ok-cube.ensures.cube in
    listed_done (grind (arith, refusals)) (rw (given.0, given.1) at c.write_codes.ensures) (omega (arith, codes_length c.args.n c.args.q))
