-- `matrix::rows::Set::union` meets its contract: each word is joined from two. Assumes nothing.
use Rattle.std.proofs.Common.{refl, rules}
use mathlib.Core.Bool.{◌||◌}
use Rattle.matrix.proofs.Members.{joined}
use Rattle.matrix.proofs.rows.Set.union.Goals as goal

pub returns : goal.returns
returns c = joined ◌||◌ c.args.self.now c.args.other.now refl _ _ _ c.from_fn.ensures.items (λ k w q h. search rules)
