-- `gathering::gather` meets its contract: at each turn every row before this one is formed, and the set holds the codes that one of them matches.
-- Assumes nothing.
use mathlib.Core.Path.{◌≡◌, refl, sym, ◌∙◌}
use mathlib.Core.Bool.{true, false}
use Rattle.std.proofs.Common.{rules, tests}
use Rattle.cube.specs.Words.{formed}
use Rattle.gathering.proofs.Sets.{all_left, none_left, unformed_row, row_joined}
use Rattle.gathering.proofs.gather.Goals as goal

pub loop-row-init : goal.loop-row-init
loop-row-init c = all_left _ _ c.into_iter-row-iterator.ensures.into_iter_gives

pub returns-then-not-is_formed : goal.returns-then-not-is_formed
returns-then-not-is_formed c =
    let no : formed c.args.n c.in-Some.row ≡ false = sym c.is_formed.ensures ∙ search (rules, tests) in
    (unformed_row _ _ c.loop-row.invariant c.in-Some.ensures.steps no, refl)

pub loop-row-preserved : goal.loop-row-preserved
loop-row-preserved c =
    let yes : formed c.args.n c.in-Some.row ≡ true = sym c.is_formed.ensures ∙ search (rules, tests) in
    row_joined _ _ c.loop-row.invariant c.in-Some.ensures.steps yes c.row_codes.ensures c.bitor_assign.ensures.after

pub returns : goal.returns
returns c = none_left _ _ c.loop-row.invariant c.in-None.ensures.steps.0
