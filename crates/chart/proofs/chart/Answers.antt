-- `chart::chart` meets its contract: the primes that serve are listed, and the row of each is written. Assumes nothing.
use Rattle.std.proofs.Common.{refl, sym}
use Rattle.std.proofs.Math.Seq.{length-take-le}
use Rattle.cube.proofs.Calls.{cubes_most}
use Rattle.chart_arrays.proofs.Rows.{listed, inside, is_cube}
use Rattle.chart.proofs.Written.{charted, fits}
use Rattle.chart.proofs.chart.Goals as goal

pub list_serving_primes-count-requires : goal.list_serving_primes-count-requires
list_serving_primes-count-requires c = cubes_most _ c.in_ok-table.table.narrow

pub slice_bounds-cubes-end : goal.slice_bounds-cubes-end
slice_bounds-cubes-end c =
    let table = c.in_ok-table.table in inside table.width table.cells.now _ _ _ table.narrow refl c.list_serving_primes-count.ensures

pub slice_bounds-fill-end : goal.slice_bounds-fill-end
slice_bounds-fill-end c =
    let table = c.in_ok-table.table in
    sym (length-take-le _ _ (inside table.width table.cells.now _ _ _ table.narrow refl c.list_serving_primes-count.ensures))

pub fill-requires : goal.fill-requires
fill-requires c =
    let table = c.in_ok-table.table in
    let put = c.list_serving_primes-count.ensures in record {
      fits = fits c.args.n table.width c.args.table.now table.cells.now _ c.args.rows.now c.in_ok-table.ensures.table
          (listed table.width table.cells.now _ _ _ table.narrow refl put) c.in_ok-table.ensures.enough;
      cubes = is_cube table.width table.cells.now _ _ _ table.narrow refl put;
    }

pub returns : goal.returns
returns c =
    let table = c.in_ok-table.table in
    let put = c.list_serving_primes-count.ensures in
    charted c.args.n table.width c.args.table.now table.cells.now _ c.args.rows.now c.in_ok-table.ensures.table
    (listed table.width table.cells.now _ _ _ table.narrow refl put) _ _ c.in_ok-table.ensures.refusal
    (sym (length-take-le _ _ (inside table.width table.cells.now _ _ _ table.narrow refl put))) c.fill.ensures
