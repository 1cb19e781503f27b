-- `neighbours::vicinities::matches_barred` meets its contract: what `any` answers over the codes, each with its cell. Assumes nothing.
use Rattle.std.proofs.Common.{◌≡◌, ◌∙◌, ap, tests, rules, ℕ, Bool, List, length, eqb, ◌&&◌, bit_and, get_or, zero-add}
use Rattle.std.specs.List.{list_any, enumerate_from}
use Rattle.std.proofs.lemmas.List.FromFn.{length-enumerate_from, get_or-enumerate_from}
use Rattle.std.proofs.lemmas.Iterator.{YieldsList-from_slice}
use Rattle.std.proofs.lemmas.Iterator.Consumers.{YieldsList-from_enumerate}
use Rattle.std.proofs.lemmas.Iterator.Search.{any_from_yields_List}
use Rattle.numbers.specs.Below.{some}
use Rattle.numbers.proofs.Below.{any_is_some}
use Rattle.neighbours.proofs.vicinities.matches_barred.Goals as goal

-- some code with its cell passes
some_cell : (f : ℕ × ℕ → Bool) (t : List ℕ) → list_any f (enumerate_from 0 t) ≡ some (length t) (λ x. f (x, get_or t x 0))
some_cell f t =
    any_is_some f _ (0, 0) (enumerate_from 0 t) (length-enumerate_from 0 t)
    (λ x l. ap f (get_or-enumerate_from 0 t x (0, 0) l ∙ ap (λ (k : ℕ). (k, get_or t x 0)) (zero-add x)))

pub returns : goal.returns
returns c =
    any_from_yields_List (λ p. eqb p.1 0 && eqb (bit_and p.0 c.args.bits) (bit_and c.args.c c.args.bits)) _ _ _ c.any.ensures.ran
    (YieldsList-from_enumerate (YieldsList-from_slice c.args.table.cells.now cc) cc) (λ x b q k. search (rules, tests))
    ∙ some_cell _ c.args.table.cells.now
