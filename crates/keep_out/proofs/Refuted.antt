-- Wrong answers of the keep-out call, each on a named table: a list that keeps the same codes out is better than the one answered, no list with these counts
-- keeps them out, or the refusal is another one. Assumes nothing.
use mathlib.Core.Path.{◌≡◌, refl, ap, subst₂}
use mathlib.Core.Logic.{⊎_elim}
use mathlib.Core.List.{List, [], ◌∷◌}
use Prim.Native.Nat.{ℕ}
use native.Mathlib.Omega.{arith}
use lib.Dec.{lit<}
use lib.ListN.{length, get_or}
use Rattle.std.specs.Prelude.{Result, Err}
use Rattle.numbers.specs.Below.{every, some}
use Rattle.cube.specs.Words.{Cover, row_matches, formed, each_row, cover_matches, rows_of, cover_literals, ones, implements}
use Rattle.cube.specs.Calls.{bad_cell}
use Rattle.cube.specs.Minimum.{NoBetter}
use Rattle.cube.specs.declared.Refusal.{Refusal}
use Rattle.cube.specs.declared.Refusal.TheVariants.{ShortOutput}
use Rattle.plan.specs.declared.Totals.{Totals}
use Rattle.plan.proofs.Answers.{refused_by}
use Rattle.plan.proofs.Refuted.{with_totals}
use Rattle.keep_out.specs.KeepOut.{KeepsOut, PlansKeepOut}
use Rattle.keep_out.proofs.Exchanging.{right_keeps}
use Rattle.keep_out.proofs.Theorems.{plans_exchanged, arrays_keep_out}

-- no list that keeps the same codes out is better than the counts answered
no_better : (n : ℕ) (t values cares values' cares' : List ℕ) (rows bits : ℕ) → PlansKeepOut n t values cares values' cares' (with_totals rows bits) → (rival : Cover)
    → KeepsOut n t rival → NoBetter (length rival) (cover_literals n rival) rows bits
no_better n t values cares values' cares' rows bits p rival k =
    let h = (arrays_keep_out n t values cares values' cares').counted (record { rows = rows; bits = bits }) p in
    subst₂ (λ (r b : ℕ). NoBetter (length rival) (cover_literals n rival) r b) h.held.row_count h.held.bit_count (h.minimum.least rival k)

-- 00 is barred, all others are wanted: "`2` and `0111`"
abbrev pub all_but_zero : List ℕ
all_but_zero = 0 ∷ 1 ∷ 1 ∷ 1 ∷ []

-- the row 00
abbrev pub zero_alone : Cover
zero_alone = record { value = 0; care = 3 } ∷ []

pub zero_kept_out : KeepsOut 2 all_but_zero zero_alone
unfolding every row_matches formed each_row cover_matches implements
zero_kept_out = right_keeps 2 all_but_zero refl zero_alone tt tt

module _ (values cares values' cares' : List ℕ) where
  -- the counts of Plan's own list, 1- and -1
  pub ordinary_list : PlansKeepOut 2 all_but_zero values cares values' cares' (with_totals 2 2) → ⊥
  unfolding cover_literals ones
  ordinary_list p = ⊎_elim (λ l. omega arith) (λ e. omega (arith, e.0)) (no_better 2 all_but_zero values cares values' cares' 2 2 p zero_alone zero_kept_out)

  -- code 0 barred, code 1 free, with the free code counted as wanted: the row 0, where one without tested bits does
  pub free_as_wanted : PlansKeepOut 1 (0 ∷ 2 ∷ []) values cares values' cares' (with_totals 1 1) → ⊥
  unfolding every row_matches formed each_row cover_matches implements cover_literals ones
  free_as_wanted p =
      let row : Cover = record { value = 0; care = 0 } ∷ [] in
      ⊎_elim (λ l. omega arith) (λ e. omega (arith, e.1)) (no_better 1 (0 ∷ 2 ∷ []) values cares values' cares' 1 1 p row (right_keeps 1 (0 ∷ 2 ∷ []) refl row tt tt))

  -- code 0 wanted, code 1 free, with the free code counted as barred: a row, where none is needed
  pub free_as_barred : (bits : ℕ) → PlansKeepOut 1 (1 ∷ 2 ∷ []) values cares values' cares' (with_totals 1 bits) → ⊥
  unfolding every each_row cover_matches implements cover_literals
  free_as_barred bits p =
      ⊎_elim (λ l. omega arith) (λ e. omega (arith, e.0)) (no_better 1 (1 ∷ 2 ∷ []) values cares values' cares' 1 bits p [] (right_keeps 1 (1 ∷ 2 ∷ []) refl [] tt tt))

  -- nothing written and zero rows
  pub no_rows : (bits : ℕ) → PlansKeepOut 1 (0 ∷ 1 ∷ []) values cares values' cares' (with_totals 0 bits) → ⊥
  unfolding cover_matches rows_of
  no_rows bits p = ((arrays_keep_out 1 (0 ∷ 1 ∷ []) values cares values' cares').counted (record { rows = 0; bits = bits }) p).minimum.keeps_out.every_barred 0 (lit< tt) tt

  -- 4 for arrays of any length, where a cell is 3
  pub four_before_three : PlansKeepOut 1 (3 ∷ 1 ∷ []) values cares values' cares' (Err ShortOutput) → ⊥
  unfolding some bad_cell
  four_before_three p =
      let z : ◌≡◌ {A = ℕ} 3 4 = refused_by ((plans_exchanged 1 (3 ∷ 1 ∷ []) values cares values' cares' (Err ShortOutput)).0 p) in
      omega arith

-- a place written though the width is refused
pub written_on_refusal : (r : Result Totals Refusal) → PlansKeepOut 0 (0 ∷ []) (7 ∷ []) (7 ∷ []) (0 ∷ []) (7 ∷ []) r → ⊥
written_on_refusal r p = let z : ◌≡◌ {A = ℕ} 0 7 = ap (λ (l : List ℕ). get_or l 0 0) p.values_are in omega arith
