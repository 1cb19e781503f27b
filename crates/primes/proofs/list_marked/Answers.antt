-- `primes::list_marked` meets its contract: there are 3^n cubes, and the first marks are theirs. Assumes nothing.
use mathlib.Core.Path.{◌≡◌, ap, ◌∙◌}
use mathlib.Core.Bool.{Bool, false}
use mathlib.Core.List.{List}
use Prim.Native.Nat.{ℕ, ◌≤◌}
use native.Mathlib.Omega.{arith}
use lib.ListN.{length, take}
use lib.Seq.{length-take-le, get_or-take}
use Rattle.numbers.specs.Below.{those}
use Rattle.numbers.proofs.Below.{those_same}
use Rattle.numbers.proofs.Lent.{puts_same}
use Rattle.cube.proofs.Calls.{cubes_most}
use Rattle.primes.specs.Steps.{is_marked}
use Rattle.primes.proofs.list_marked.Goals as goal

module _ {A : Type 0} (is_mark : A → Bool) (none : A) (marks : List A) (m : ℕ) (l : m ≤ length marks) where
  long : length (take m marks) ≡ m
  long = length-take-le m marks l

  first_marked : those (length (take m marks)) (is_marked is_mark none (take m marks)) ≡ those m (is_marked is_mark none marks)
  first_marked =
      ap (λ (k : ℕ). those k (is_marked is_mark none (take m marks))) long
      ∙ those_same m (is_marked is_mark none (take m marks)) (is_marked is_mark none marks) (λ q h. ap is_mark (get_or-take m marks q none h))

pub list_all_marked-requires : goal.list_all_marked-requires
list_all_marked-requires g c =
    let e = length-take-le c.cubes.result c.args.marks.now (omega (arith, c.cubes.ensures)) in omega (arith, e, c.cubes.ensures, cubes_most c.args.n c.requires.0)

pub returns : goal.returns
returns g c =
    let is_mark = g.T.Mark.is_mark in
    let none = g.T.Mark.mark_of false in
    puts_same
    (first_marked is_mark none c.args.marks.now c.cubes.result (omega (arith, c.cubes.ensures))
    ∙ ap (λ (k : ℕ). those k (is_marked is_mark none c.args.marks.now)) c.cubes.ensures)
    c.list_all_marked.ensures
