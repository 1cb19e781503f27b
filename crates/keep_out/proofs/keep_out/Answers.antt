-- `keep_out::keep_out` meets its contract: it refuses as Plan does, or is Plan for the exchanged table. Assumes nothing.
use Rattle.std.proofs.Common.{ap, ◌∙◌, arith}
use Rattle.cube.proofs.Calls.{codes_most}
use Rattle.keep_out.specs.Theorems.{exchanged}
use Rattle.keep_out.proofs.Theorems.{keep_out_done}
use Rattle.keep_out.proofs.keep_out.Goals as goal

pub exchange-cells-requires : goal.exchange-cells-requires
exchange-cells-requires c = let table = c.in_ok-accepted.accepted in omega (arith, table.sized, codes_most table.width table.narrow)

pub returns : goal.returns
returns c =
    keep_out_done c.args.n c.args.table.now c.args.values.now c.args.cares.now c.plan.result
    (c.as_slice.ensures.value ∙ c.exchange-cells.ensures ∙ ap exchanged c.in_ok-accepted.ensures.table.1) c.plan.ensures
