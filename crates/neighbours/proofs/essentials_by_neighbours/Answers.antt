-- `neighbours::essentials_by_neighbours` meets its contract: where nothing is refused the essential primes are listed. Assumes nothing.
use Rattle.cube.specs.Words.{essentials_of}
use Rattle.cube.proofs.Calls.{essentials_most}
use Rattle.tables.proofs.Listing.{listing_done}
use Rattle.neighbours.proofs.essentials_by_neighbours.Goals as goal

pub returns : goal.returns
returns c = listing_done essentials_of essentials_most c.in_ok-table.ensures.refusal c.in_ok-table.ensures.table c.list_essentials.ensures
