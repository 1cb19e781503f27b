-- `essentials::list_essentials` meets its contract: the marked cubes are listed. Assumes nothing.
use Rattle.cube.specs.Words.{essential, essentials_of}
use Rattle.primes.proofs.Marking.{marked_listed}
use Rattle.essentials.proofs.list_essentials.Goals as goal

pub returns : goal.returns
unfolding essentials_of
returns c =
    let n = c.args.table.width in
    marked_listed n (essential n c.args.table.cells.now) c.mark_essentials.new.marks c.args.out.now c.mark_essentials.ensures c.list_marked.ensures
