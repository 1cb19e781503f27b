-- `plan::shortest` meets its contract: the picked rows of the chart are those of a shortest list. Assumes nothing.
use Rattle.std.proofs.Common.{◌∙◌}
use Rattle.plan.proofs.Choice.{chart_covers, picked_rows}
use Rattle.plan.proofs.shortest.Goals as goal

pub lightest-found-requires-clause-coverable : goal.lightest-found-requires-clause-coverable
lightest-found-requires-clause-coverable c =
    chart_covers c.args.table.width c.args.table.cells.now _ _ (c.as_slice-rows.ensures.value ∙ c.list_rows.ensures) c.wanted.ensures

pub picked_cubes-cubes-requires-clause-room : goal.picked_cubes-cubes-requires-clause-room
picked_cubes-cubes-requires-clause-room c =
    (picked_rows c.args.table.width c.args.table.cells.now c.args.table.narrow _ (c.as_slice-rows.ensures.value ∙ c.list_rows.ensures) _ c.wanted.ensures
    c.lightest-found.result c.lightest-found.ensures).room

pub overflow_sub-bits : goal.overflow_sub-bits
overflow_sub-bits c =
    rw (c.len.ensures.value, c.picked_cubes-cubes.ensures)
    (picked_rows c.args.table.width c.args.table.cells.now c.args.table.narrow _ (c.as_slice-rows.ensures.value ∙ c.list_rows.ensures) _ c.wanted.ensures
    c.lightest-found.result c.lightest-found.ensures).weighs

pub returns : goal.returns
returns c =
    rw (c.len.ensures.value, c.picked_cubes-cubes.ensures)
    (picked_rows c.args.table.width c.args.table.cells.now c.args.table.narrow _ (c.as_slice-rows.ensures.value ∙ c.list_rows.ensures) _ c.wanted.ensures
    c.lightest-found.result c.lightest-found.ensures).chosen
