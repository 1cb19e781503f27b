-- `neighbours::insert_at` meets its contract: the numbers from place `at` on go one place on. Assumes nothing.
use Rattle.neighbours.proofs.Inserting.{put_in}
use Rattle.neighbours.proofs.insert_at.Goals as goal

pub returns : goal.returns
returns c = rw c.copy_within.ensures.after (put_in c.args.q c.args.at c.args.count c.args.list.now c.requires.0 c.requires.1)
