-- `cells::first_untested` meets its contract. Assumes nothing.
use mathlib.Core.Path.{◌≡◌}
use Rattle.std.proofs.Common.{rules, tests}
use Rattle.cube.specs.Words.{digit}
use Rattle.cells.proofs.FromEnd.{last_from_end}
use Rattle.cells.proofs.first_untested.Goals as goal

pub returns : goal.returns
returns c =
    let n = c.args.cube.width in
    let q = c.args.cube.number in
    last_from_end n _ _ _ _ (λ k. digit k q ≡ 2) (λ k. digit k q ≡ 2 → ⊥) c.rev.ensures.source c.find.ensures.ran
    (λ x q k. search (rules, tests)) (λ x q k. search (rules, tests))
