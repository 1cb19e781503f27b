-- `primes::CubeKinds::is_serving_prime` meets its contract: each literal is tried. Assumes nothing.
use Rattle.std.proofs.Common.{◌≡◌, ◌∙◌, ap, refl, Bool, ℕ, arith, rules, tests, zero-add}
use Rattle.std.specs.List.{list_any, range_with_len}
use Rattle.std.proofs.lemmas.Iterator.{YieldsList-from_range}
use Rattle.std.proofs.lemmas.Iterator.Search.{any_from_yields_List}
use Rattle.std.proofs.lemmas.List.FromFn.{length-range_with_len, get_or-range_with_len}
use Rattle.numbers.specs.Below.{some}
use Rattle.numbers.proofs.Below.{any_is_some}
use Rattle.primes.specs.Steps.{expands_by, serving_prime_by}
use Rattle.primes.proofs.CubeKinds.is_serving_prime.Goals as goal

-- one of the numbers below m passes
any_in_range : (f : ℕ → Bool) (m : ℕ) → list_any f (range_with_len 0 m) ≡ some m f
any_in_range f m = any_is_some f f 0 (range_with_len 0 m) (length-range_with_len 0 m) (λ i l. ap f (get_or-range_with_len 0 m i 0 l ∙ zero-add i))

pub returns-then-eq : goal.returns-then-eq
unfolding serving_prime_by
returns-then-eq c =
    let n = c.args.self.width in
    let tried =
    any_from_yields_List (expands_by c.args.self.kinds.now c.args.cube.number) _ _ _ c.any.ensures.ran (YieldsList-from_range 0 n n refl (omega arith)) (λ x b q k. search (rules, tests))
    ∙ any_in_range _ n in
    grind (arith, tried)
