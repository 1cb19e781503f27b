-- `spelling::rows::of_six` meets its contract: the checker computes the base-3 rule at each of the 729 places, once. Assumes nothing.
use Rattle.std.proofs.Common.{zero-add}
use Rattle.std.proofs.lemmas.List.FromFn.{get_or-map-range_with_len}
use Rattle.cube.specs.Words.{value_of, care_of, row_of}
use Rattle.cube.specs.Calls.{widest}
use Rattle.spelling.proofs.rows.of_six.Goals as goal

pub returns : goal.returns
unfolding value_of care_of
returns c = get_or-map-range_with_len (row_of widest) 0 729 c.args.q c.args.q (record { value = 0; care = 0 }) c.requires (zero-add c.args.q)
