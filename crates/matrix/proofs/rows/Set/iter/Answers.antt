-- `matrix::rows::Set::iter` meets its contract: at first each row of the set is left. Assumes nothing.
use Rattle.std.proofs.Common.{List, ℕ, ◌∙◌, ap, sym, refl, rules, take, drop}
use Rattle.std.proofs.Math.Seq.{take-length}
use Rattle.std.proofs.lemmas.List.{length-drop}
use Rattle.numbers.proofs.Loops.{runs_below}
use Rattle.matrix.specs.Walks.{rows_end, rows_left}
use Rattle.matrix.proofs.Members.{left_first}
use Rattle.matrix.proofs.rows.Set.iter.Goals as goal

pub returns-clause-runs : goal.returns-clause-runs
returns-clause-runs c =
    let words = c.self.inside.words in
    runs_below rows_end rows_left _ refl
    (left_first c.args.self.now _ _ (search rules)
    (ap (λ (n : ℕ). take n (drop 1 words)) (sym (length-drop 1 words)) ∙ take-length (drop 1 words) ∙ ap (λ (s : List ℕ). drop 1 s) c.self.view_is))
