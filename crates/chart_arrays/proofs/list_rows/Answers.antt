-- `chart_arrays::list_rows` meets its contract: the primes that serve are listed, and each of them is a cube. Assumes nothing.
use Rattle.std.proofs.Common.{map, refl, sym, ap, ◌∙◌, take_all}
use Rattle.std.proofs.Math.Seq.{length-take-le}
use Rattle.cube.proofs.Calls.{cubes_most}
use Rattle.chart_arrays.specs.Rows.{chart_row}
use Rattle.chart_arrays.proofs.Rows.{listed, inside, is_cube}
use Rattle.chart_arrays.proofs.list_rows.Goals as goal

pub list_serving_primes-count-requires : goal.list_serving_primes-count-requires
list_serving_primes-count-requires c = cubes_most _ c.args.table.narrow

pub slice_bounds-cubes-end : goal.slice_bounds-cubes-end
slice_bounds-cubes-end c = inside c.args.table.width c.args.table.cells.now _ _ _ c.args.table.narrow refl c.list_serving_primes-count.ensures

pub slice_bounds-q-items-end : goal.slice_bounds-q-items-end
slice_bounds-q-items-end c =
    sym (length-take-le _ _ (inside c.args.table.width c.args.table.cells.now _ _ _ c.args.table.narrow refl c.list_serving_primes-count.ensures))

pub row-requires : goal.row-requires
row-requires c =
    is_cube c.args.table.width c.args.table.cells.now _ _ _ c.args.table.narrow refl c.list_serving_primes-count.ensures c.loop-q.q-index c.loop-q-test.true

pub returns : goal.returns
returns c =
    c.loop-q.invariant ∙ ap (map (chart_row c.args.table.width c.args.table.cells.now))
    (take_all c.loop-q.q-index _ c.loop-q-test.false ∙ listed c.args.table.width c.args.table.cells.now _ _ _ c.args.table.narrow refl c.list_serving_primes-count.ensures)
