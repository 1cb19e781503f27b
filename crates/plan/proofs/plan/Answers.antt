-- `plan::plan` meets its contract: it refuses, or writes the chosen list. Assumes nothing.
use Rattle.std.proofs.Common.{ℕ, List, subst₂, arith}
use Rattle.plan.specs.Steps.{Chosen}
use Rattle.plan.proofs.Endings.{cubes_most, plan_done}
use Rattle.plan.proofs.plan.Goals as goal

pub write_rows-requires : goal.write_rows-requires
write_rows-requires c =
    let list = c.shortest-list.result in
    let table = c.in_ok-table.ensures.table in
    let chosen = subst₂ (λ (n : ℕ) (t : List ℕ). Chosen n t list.cubes.items list.bits) table.0 table.1 c.shortest-list.ensures in
    let most = cubes_most c.args.n c.args.table.now list.cubes.items list.bits chosen in
    let places = c.in_ok-table.ensures.places in
    rw c.as_slice.ensures.value
    (record { width = omega (arith, table.0, c.in_ok-table.table.narrow); values_long = omega (arith, most, places.0); cares_long = omega (arith, most, places.1); below = chosen.below })

pub returns : goal.returns
returns c =
    let list = c.shortest-list.result in
    let table = c.in_ok-table.ensures.table in
    let chosen = subst₂ (λ (n : ℕ) (t : List ℕ). Chosen n t list.cubes.items list.bits) table.0 table.1 c.shortest-list.ensures in
    rw c.len.ensures.value
    (plan_done c.args.n c.args.table.now c.args.values.now c.args.cares.now list.cubes.items list.bits chosen c.in_ok-table.ensures.refusal _ _
    (rw c.as_slice.ensures.value at c.write_rows.ensures.values_are) (rw c.as_slice.ensures.value at c.write_rows.ensures.cares_are))
