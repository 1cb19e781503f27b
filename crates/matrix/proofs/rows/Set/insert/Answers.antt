-- `matrix::rows::Set::insert` meets its contract: the word of the row gets one bit more. Assumes nothing.
use mathlib.Core.Path.{refl, ap, ◌∙◌}
use mathlib.Core.Bool.{◌||◌}
use Prim.Native.Nat.{ℕ}
use native.Mathlib.Omega.{arith}
use mathlib.Core.List.{List}
use lib.Dec.{eqb}
use Rattle.matrix.specs.Sets.{member}
use Rattle.matrix.proofs.Members.{member_put}
use Rattle.matrix.proofs.rows.Set.insert.Goals as goal

pub returns : goal.returns
returns c j =
    let i = c.args.i in
    member_put ◌||◌ (λ b. refl) c.self.inside.words i _ (omega (arith, c.self.invariant)) (λ x. grind (arith, c.self.view_is)) j
    ∙ ap (λ (s : List ℕ). eqb j i || member s j) c.self.view_is
