-- `neighbours::vicinities::with_bit` meets its contract: the neighbour is a code of the table. Assumes nothing.
use native.Mathlib.Omega.{arith}
use Rattle.neighbours.proofs.Flipping.{neighbour_lt}
use Rattle.neighbours.proofs.vicinities.with_bit.Goals as goal

pub bounds-table-c : goal.bounds-table-c
bounds-table-c c =
    let t = c.args.table in
    rw c.codes-weight.ensures (omega (arith, neighbour_lt t.width c.args.k c.args.c c.requires.bit (omega (arith, t.sized, c.requires.code)), t.sized))
