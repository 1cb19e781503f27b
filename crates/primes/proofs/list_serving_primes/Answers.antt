-- `primes::list_serving_primes` meets its contract: the marked cubes are listed. Assumes nothing.
use Rattle.cube.specs.Words.{serving_prime, serving_primes_of}
use Rattle.primes.proofs.Marking.{marked_listed}
use Rattle.primes.proofs.list_serving_primes.Goals as goal

pub returns : goal.returns
unfolding serving_primes_of
returns c =
    let t = c.args.table in
    marked_listed t.width (serving_prime t.width t.cells.now) c.mark_serving_primes.new.marks c.args.out.now c.mark_serving_primes.ensures.marks
    c.list_marked.ensures
