-- Wrong answers of the call that builds both lists, each on a named table: a list of the other kind is better, or is as good though the keep-out list was
-- written; the counts are not those of the list; or a place is changed that should not be. Assumes nothing.
use mathlib.Core.Path.{◌≡◌, refl, ap}
use mathlib.Core.Logic.{⊎_elim}
use mathlib.Core.List.{List, [], ◌∷◌}
use Prim.Native.Nat.{ℕ}
use native.Mathlib.Omega.{arith}
use lib.Dec.{lit<}
use lib.ListN.{get_or}
use Rattle.std.specs.Prelude.{Result, Ok}
use Rattle.cube.specs.declared.Refusal.{Refusal}
use Rattle.numbers.specs.Below.{every}
use Rattle.cube.specs.Words.{Cover, row_matches, formed, each_row, cover_matches, rows_of, cover_literals, ones, implements}
use Rattle.keep_out.proofs.Exchanging.{right_keeps}
use Rattle.keep_out.proofs.Refuted.{all_but_zero, zero_alone, zero_kept_out}
use Rattle.better.specs.Better.{Builds}
use Rattle.better.specs.declared.Built.{Built}
use Rattle.better.specs.declared.Built.TheVariants.{Ordinary, KeepOut}
use Rattle.better.proofs.Theorems.{better_held}

-- 000 and 011 are barred, all others are wanted: the ordinary lists have at least 3 rows, with 5 bits, and the keep-out list has 2 rows, with 6
abbrev fewer_rows_more_bits : List ℕ
fewer_rows_more_bits = 0 ∷ 1 ∷ 1 ∷ 0 ∷ 1 ∷ 1 ∷ 1 ∷ 1 ∷ []

module _ (values cares values' cares' : List ℕ) where
  -- the ordinary list, 1- and -1, where the keep-out list, 00, has fewer rows
  pub ordinary_always : Builds 2 all_but_zero values cares values' cares' (Ok (Ordinary (record { rows = 2; bits = 2 }))) → ⊥
  unfolding cover_literals ones
  ordinary_always p =
      ⊎_elim (λ l. omega arith) (λ e. omega (arith, e.0)) ((better_held 2 all_but_zero values cares values' cares').no_better_keep_out (record { rows = 2; bits = 2 }) p zero_alone zero_kept_out)

  -- bits compared before rows
  pub bits_before_rows : Builds 3 fewer_rows_more_bits values cares values' cares' (Ok (Ordinary (record { rows = 3; bits = 5 }))) → ⊥
  unfolding every row_matches formed each_row cover_matches implements cover_literals ones
  bits_before_rows p =
      let out : Cover = record { value = 0; care = 7 } ∷ record { value = 3; care = 7 } ∷ [] in
      ⊎_elim (λ l. omega arith) (λ e. omega (arith, e.0))
      ((better_held 3 fewer_rows_more_bits values cares values' cares').no_better_keep_out (record { rows = 3; bits = 5 }) p out (right_keeps 3 fewer_rows_more_bits refl out tt tt))

  -- the keep-out list at equal counts: code 0 barred, code 1 wanted
  pub keep_out_at_equal_counts : Builds 1 (0 ∷ 1 ∷ []) values cares values' cares' (Ok (KeepOut (record { rows = 1; bits = 1 }))) → ⊥
  unfolding every row_matches formed each_row cover_matches implements cover_literals ones
  keep_out_at_equal_counts p =
      ⊎_elim (λ l. omega arith) (λ e. omega (arith, e.1))
      ((better_held 1 (0 ∷ 1 ∷ []) values cares values' cares').worse_ordinary (record { rows = 1; bits = 1 }) p (record { value = 1; care = 1 } ∷ []) tt tt)

  -- the keep-out list with the counts of the ordinary one
  pub counts_of_the_other : Builds 2 all_but_zero values cares values' cares' (Ok (KeepOut (record { rows = 2; bits = 2 }))) → ⊥
  unfolding cover_literals ones
  counts_of_the_other p =
      let h = (better_held 2 all_but_zero values cares values' cares').keep_out (record { rows = 2; bits = 2 }) p in
      ⊎_elim (λ l. omega (arith, h.held.row_count)) (λ e. omega (arith, e.0, h.held.row_count)) (h.minimum.least zero_alone zero_kept_out)

  -- the keep-out list answered and a row of the ordinary one, 1-, written first: it does not match code 0
  pub ordinary_row_written : Builds 2 all_but_zero values cares (2 ∷ values') (2 ∷ cares') (Ok (KeepOut (record { rows = 1; bits = 2 }))) → ⊥
  unfolding row_matches cover_matches rows_of
  ordinary_row_written p =
      ((better_held 2 all_but_zero values cares (2 ∷ values') (2 ∷ cares')).keep_out (record { rows = 1; bits = 2 }) p).minimum.keeps_out.every_barred 0 (lit< tt) tt

-- both lists written, one over the other: the second row of the ordinary list, -1, is left behind the row 00
pub one_over_the_other : Builds 2 all_but_zero (7 ∷ 7 ∷ []) (7 ∷ 7 ∷ []) (0 ∷ 1 ∷ []) (3 ∷ 1 ∷ []) (Ok (KeepOut (record { rows = 1; bits = 2 }))) → ⊥
one_over_the_other p =
    let h = (better_held 2 all_but_zero (7 ∷ 7 ∷ []) (7 ∷ 7 ∷ []) (0 ∷ 1 ∷ []) (3 ∷ 1 ∷ [])).keep_out (record { rows = 1; bits = 2 }) p in
    let z : ◌≡◌ {A = ℕ} 1 7 = ap (λ (l : List ℕ). get_or l 0 0) h.held.values_behind in
    omega arith

-- a place written though the width is refused
pub written_on_refusal : (r : Result Built Refusal) → Builds 0 (0 ∷ []) (7 ∷ []) (7 ∷ []) (0 ∷ []) (7 ∷ []) r → ⊥
written_on_refusal r p = let z : ◌≡◌ {A = ℕ} 0 7 = ap (λ (l : List ℕ). get_or l 0 0) p.values_are in omega arith
