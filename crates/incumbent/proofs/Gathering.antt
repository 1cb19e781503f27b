-- Rows gathered one by one: each row adds its columns and its weight, which no later row changes. In the end a set that the columns gathered include is
-- covered. Assumes nothing.
use Rattle.std.proofs.Common.{◌≡◌, ℕ, ◌+◌, ◌<◌, ◌≤◌, Bool, true, false, not, ◌&&◌, ◌||◌, eqb, List, length, sym, refl, ap, ◌∙◌, subst, inl, inr, ⊎_elim, arith, eq-eqb, eqb-true}
use native.Mathlib.Decide.{dec_lt}
use lib.ListN.{get_or-eq_default}
use Rattle.std.specs.Prelude.{Option, None, Some, IfNone}
use Rattle.std.proofs.lemmas.Bool.{false_from_ne_true, or_left, or_right}
use Rattle.covering.specs.Sum.{if_set, sum}
use Rattle.covering.specs.Weighted.{set_size}
use Rattle.numbers.proofs.Flags.{clash, either_of, kept_of_lem, kept_or}
use Rattle.covering.proofs.Sums.{sum_same, sum_skip, sum_with, if_set_false, if_set_le}
use Rattle.matrix.specs.Sets.{ColumnSet, RowSet, row_limit, has, In, member, Member}
use Rattle.matrix.specs.Matrix.{row_count, covered, CoversColumn, weight_of, weight_limit}
use Rattle.matrix.proofs.Bits.{has_zero}
use Rattle.matrix.proofs.Without.{size_most, each_row_lem}
use Rattle.incumbent.specs.Incumbent.{IsCover, above_all, Uncovered}
use Rattle.incumbent.specs.Steps.{Counted, Spent}
use Rattle.incumbent.specs.declared.Gathered.{Gathered}

-- two flags that are set together
same : (a b : Bool) → (a ≡ true → b ≡ true) → (b ≡ true → a ≡ true) → a ≡ b
same true b f g = sym (f refl)
same false true f g = clash (g refl) refl
same false false f g = refl

module _ (words weights : List ℕ) where
  pub counted_none : (g : Gathered) → ((j : ℕ) → member g.rows j ≡ false) → g.columns ≡ 0 → g.weight ≡ 0 → Counted words weights g
  unfolding sum
  counted_none g e z w = record {
    covered = λ c h. clash h (ap (λ (x : ℕ). has x c) z ∙ has_zero c);
    covers = λ i c m k. clash m (e i);
    weighs = sum_skip 0 row_limit (omega arith) (λ i l m. if_set_false (weight_of weights i) (e i)) ∙ sym w;
    small = nothing g.weight w;
  }
    where
      nothing : {n : ℕ} (k : ℕ) → k ≡ 0 → k ≤ n
      nothing k e = omega arith

  -- the row i is gathered
  pub counted_more : (i w : ℕ) (g t : Gathered) → i < row_limit → member g.rows i ≡ false → w ≡ weight_of weights i → w < weight_limit
      → ((j : ℕ) → member t.rows j ≡ (eqb j i || member g.rows j)) → ((c : ℕ) → has t.columns c ≡ (has g.columns c || has (covered words i) c))
      → t.weight ≡ g.weight + w → Counted words weights g → Counted words weights t
  counted_more i w g t l out d k e f v h = record {
    covered = λ c y. ⊎_elim (λ m. let r = h.covered c m in (r.0, e r.0 ∙ or_right _ _ r.1, r.2))
        (λ m. (i, e i ∙ or_left _ _ (eq-eqb i i refl), m))
        (either_of (has g.columns c) (has (covered words i) c) (sym (f c) ∙ y));
    covers = λ j c m y. ⊎_elim (λ z. f c ∙ or_right _ _ (subst (λ (x : ℕ). has (covered words x) c ≡ true) (eqb-true j i z) y))
        (λ n. f c ∙ or_left _ _ (h.covers j c n y)) (either_of (eqb j i) (member g.rows j) (sym (e j) ∙ m));
    weighs = omega (arith, sum_with row_limit i (weight_of weights) (member g.rows) (member t.rows) l out e, h.weighs);
    small = omega (arith, sum_with row_limit i (λ j. 1) (member g.rows) (member t.rows) l out e, h.small);
  }

  -- all rows together weigh less than this
  pub counted_below : (g : Gathered) → Counted words weights g → g.weight < above_all
  counted_below g h = omega (arith, h.small, size_most row_limit g.rows)

  -- a row that covers an open column is not gathered
  pub row_new : (u left : ColumnSet) (g : Gathered) (i : ℕ) → Counted words weights g → ((c : ℕ) → has left c ≡ (has u c && not (has g.columns c)))
      → (c : ℕ) × CoversColumn words i c × In left c → member g.rows i ≡ false
  row_new u left g i h e o = false_from_ne_true (member g.rows i) (λ m. (kept_of_lem (has u o.0) (has g.columns o.0) (e o.0) o.2).1 (h.covers i o.0 m o.1))

  -- the rows picked before the end that are live are gathered: where those picked are a cover, these are one of the same weight
  module _ (live : RowSet) (u : ColumnSet) (picked : RowSet) (g : Gathered) (within : (j : ℕ) → Member g.rows j → Member picked j)
      (all : (j : ℕ) → j < row_count words → Member picked j → Member live j → Member g.rows j) (h : Counted words weights g) {k : ℕ} (c : IsCover words weights live u picked k) where
    pub all_covered : (x : ℕ) → In u x → In g.columns x
    all_covered x v =
        let r = c.covers x v in
        each_row_lem words (λ i. Member picked i → In g.columns x) x (row_count words) (omega arith) (λ i l d m. h.covers i x (all i l m (c.live i m)) d) r.0 r.2 r.1

    pub all_weighed : length weights ≡ row_count words → g.weight ≡ k
    all_weighed e = sym h.weighs ∙ sum_same row_limit (λ i l. at i (dec_lt i (row_count words))) ∙ c.weighs
      where
        at : (i : ℕ) → Dec (i < row_count words) → if_set (member g.rows i) (weight_of weights i) ≡ if_set (member picked i) (weight_of weights i)
        at i (yes l) = ap (λ (b : Bool). if_set b (weight_of weights i)) (same (member g.rows i) (member picked i) (within i) (λ m. all i l m (c.live i m)))
        at i (no n) =
            let none : weight_of weights i ≡ 0 = get_or-eq_default weights 0 (omega arith) in
            omega (arith, if_set_le (member g.rows i) (weight_of weights i), if_set_le (member picked i) (weight_of weights i))

-- the columns gathered, where no live row covers an open column any more
module _ (words : List ℕ) (live : RowSet) (u columns : ColumnSet) where
  pub spent : (left : ColumnSet) → ((c : ℕ) → has left c ≡ (has u c && not (has columns c)))
      → ((i : ℕ) → i < row_count words → Member live i → (c : ℕ) → CoversColumn words i c → In left c → ⊥) → Spent words live u columns
  spent left e none c v =
      ⊎_elim inl (λ o. inr (λ i m k. each_row_lem words (λ i. Member live i → ⊥) c (row_count words) (omega arith) (λ i l k m. none i l m c k o) i k m))
      (kept_or (has u c) (has columns c) (e c) v)

  -- a column that they miss has no live row
  pub spent_misses : Spent words live u columns → (c : ℕ) × In u c × (In columns c → ⊥) → Uncovered words live u
  spent_misses s o = (o.0, o.1, ⊎_elim (λ y. absurd (o.2 y)) (λ n. n) (s o.0 o.1))

-- one row more
pub size_more : (i : ℕ) (s t : RowSet) → i < row_limit → member s i ≡ false → ((j : ℕ) → member t j ≡ (eqb j i || member s j))
    → set_size row_limit (member t) ≡ 1 + set_size row_limit (member s)
size_more i s t l out e = sum_with row_limit i (λ j. 1) (member s) (member t) l out e

-- what follows where there is no value
pub if_none : {X P Q : Type 0} (o : Option X) → IfNone o P → (P → Q) → IfNone o Q
if_none None h f = f h
if_none (Some x) h f = h
