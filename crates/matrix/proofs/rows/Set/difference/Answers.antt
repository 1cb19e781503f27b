-- `matrix::rows::Set::difference` meets its contract: each word is joined from two. Assumes nothing.
use Rattle.std.proofs.Common.{refl, rules}
use Rattle.matrix.proofs.Members.{joined, lacking}
use Rattle.matrix.proofs.rows.Set.difference.Goals as goal

pub returns : goal.returns
returns c = joined lacking c.args.self.now c.args.other.now refl _ _ _ c.from_fn.ensures.items (λ k w q h. search rules)
