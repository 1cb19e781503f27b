-- `primes::cube_kind` meets its contract: a cube that is an implicant splits as its codes do, and so does one that serves. Assumes nothing.
use mathlib.Core.Path.{◌≡◌, sym, ap, ap₂, ◌∙◌}
use mathlib.Core.Bool.{not}
use mathlib.Core.List.{List, [], ◌∷◌}
use Prim.Native.Nat.{ℕ}
use lib.Dec.{eqb}
use lib.ListN.{get_or}
use Rattle.cube.specs.Words.{codes_of, implicant, serves}
use Rattle.cube.proofs.Codes.{implicant_one, implicant_two, serves_one, serves_two}
use Rattle.spelling.specs.declared.Cube.{Cube}
use Rattle.cells.specs.Steps.{Splits}
use Rattle.cells.specs.declared.Split.TheVariants.{Halves}
use Rattle.primes.specs.Steps.{kind, kind_of, Kinds, Joins}
use Rattle.primes.specs.declared.Kind.{Kind}
use Rattle.primes.specs.declared.Kind.TheVariants.{NoImplicant}
use Rattle.primes.proofs.cube_kind.Goals as goal

module _ (n : ℕ) (t : List ℕ) (q : ℕ) (r : Kind) where
  of_code : (c : ℕ) → codes_of n q ≡ c ∷ [] → r ≡ kind (not (eqb (get_or t c 0) 0)) (eqb (get_or t c 0) 1) → r ≡ kind_of n t q
  of_code c e h = h ∙ sym (ap₂ kind (implicant_one n t q c e) (serves_one n t q c e))

  of_halves : (kinds : List Kind) → Kinds n t kinds q → (low high : Cube) → Splits n q (Halves low high)
      → Joins (get_or kinds low.number NoImplicant) (get_or kinds high.number NoImplicant) r → r ≡ kind_of n t q
  of_halves kinds k low high s h =
      let a : ℕ = low.number in
      let b : ℕ = high.number in
      h (implicant n t a) (serves n t a) (implicant n t b) (serves n t b) (k a s.0.lower) (k b s.1.lower)
      ∙ sym (ap₂ kind (implicant_two n t q a b s.2) (serves_two n t q a b s.2))

pub returns-in-Code : goal.returns-in-Code
returns-in-Code c = of_code _ c.args.table.cells.now _ _ _ (c.in-Code.ensures.1 ∙ ap (λ (i : ℕ). i ∷ []) (sym c.from.ensures)) c.code_kind.ensures

pub returns-in-Halves : goal.returns-in-Halves
returns-in-Halves c = of_halves _ c.args.table.cells.now _ _ c.args.kinds.now c.requires.lower.right _ _ c.in-Halves.ensures c.joined_kind.ensures
