-- `primes::primes` meets its contract: there is a place for each cube. Assumes nothing.
use Rattle.cube.specs.Words.{serving_primes_of}
use Rattle.cube.proofs.Calls.{primes_most}
use Rattle.tables.proofs.Listing.{listing_done}
use Rattle.primes.proofs.primes.Goals as goal

pub returns : goal.returns
returns c = listing_done serving_primes_of primes_most c.in_ok-table.ensures.refusal c.in_ok-table.ensures.table c.list_serving_primes.ensures
