-- `matrix::rows::Set::remove` meets its contract: the word of the row loses its bit. Assumes nothing.
use mathlib.Core.Path.{ap, ◌∙◌}
use mathlib.Core.Bool.{not, ◌&&◌, and-true}
use Prim.Native.Nat.{ℕ}
use native.Mathlib.Omega.{arith}
use mathlib.Core.List.{List}
use lib.Dec.{eqb}
use Rattle.matrix.specs.Sets.{member}
use Rattle.matrix.proofs.Members.{member_put}
use Rattle.matrix.proofs.rows.Set.remove.Goals as goal

pub returns : goal.returns
returns c j =
    let i = c.args.i in
    member_put (λ t b. b && not t) and-true c.self.inside.words i _ (omega (arith, c.self.invariant)) (λ x. grind (arith, c.self.view_is)) j
    ∙ ap (λ (s : List ℕ). member s j && not (eqb j i)) c.self.view_is
