-- Column dominance: of the columns d stays, and all that come along with it go. Assumes nothing.
use Rattle.std.proofs.Common.{◌≡◌, ℕ, ◌<◌, not, ◌&&◌, eqb, List, length, get_or, ◌∙◌, refl, inl, inr, arith}
use mathlib.Core.Logic.{⊎_elim}
use borrow.Author.Tests.{eq-eqb}
use Rattle.std.proofs.lemmas.List.{get_or_default}
use Rattle.numbers.proofs.Flags.{kept_of_lem, kept_or}
use Rattle.covering.proofs.Reductions.{drop_columns}
use Rattle.matrix.specs.Sets.{ColumnSet, RowSet, row_limit, has, In, Member}
use Rattle.matrix.specs.Matrix.{row_count, CoversColumn, weight_of}
use Rattle.matrix.proofs.Without.{each_row_lem}
use Rattle.reduction.specs.Reduction.{Keeps}
use Rattle.reduction.specs.Steps.{Companions, Along}

pub drop_along : (words weights : List ℕ) (live : RowSet) (along : Companions) (u kept : ColumnSet) (d : ℕ) (w one spare rest : ColumnSet)
    → d < length along → Along words live u (row_count words) along → ((x : ℕ) → In kept x → In u x) → In kept d → ((x : ℕ) → has one x ≡ eqb x d)
    → ((x : ℕ) → has spare x ≡ (has (get_or along d w) x && not (has one x))) → ((x : ℕ) → has rest x ≡ (has kept x && not (has spare x)))
    → Keeps words weights live kept live rest
drop_along words weights live along u kept d w one spare rest l a sub is eo es er =
    drop_columns (CoversColumn words) (weight_of weights) row_limit (λ c h. (kept_of_lem (has kept c) (has spare c) (er c) h).0)
    (λ c h. ⊎_elim (λ y. inr (d, stays, λ i m k. brings i m k c y)) inl (kept_or (has kept c) (has spare c) (er c) h))
  where
    stays : In rest d
    stays = ⊎_elim (λ y. absurd ((kept_of_lem (has (get_or along d w) d) (has one d) (es d) y).1 (eo d ∙ eq-eqb d d refl))) (λ y. y) (kept_or (has kept d) (has spare d) (er d) is)

    brings : (i : ℕ) → Member live i → CoversColumn words i d → (c : ℕ) → In spare c → CoversColumn words i c
    brings i m k c y = each_row_lem words (λ i. Member live i → CoversColumn words i c) d (row_count words) (omega arith)
        (λ i n k m. a i n m d (sub d is) k c (rw (get_or_default along d w 0 l) at (kept_of_lem (has (get_or along d w) c) (has one c) (es c) y).0)) i k m
