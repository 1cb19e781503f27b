-- Wrong answers of Check that its promise shuts out, each on a named input: of refusals the earlier condition wins, of wrong codes the lowest. Assumes nothing.
use mathlib.Core.Path.{◌≡◌, subst⁻¹}
use mathlib.Core.List.{List, [], ◌∷◌}
use Prim.Native.Nat.{ℕ}
use native.Mathlib.Omega.{arith}
use lib.ListN.{replicate}
use Rattle.std.specs.Prelude.{Ok, Err}
use Rattle.numbers.specs.Below.{some, those}
use Rattle.cube.specs.Words.{row_matches, formed, each_row, cover_matches, rows_of}
use Rattle.cube.specs.Calls.{bad_cell, refusal_number, answer_of}
use Rattle.cube.specs.declared.Refusal.{Refusal}
use Rattle.cube.specs.declared.Refusal.TheVariants.{TableLength, Cell, UnequalLengths, TooManyRows, UnformedRow}
use Rattle.cube.proofs.Calls.{same_value, answered_refuses}
use Rattle.checking.specs.Check.{check_refuses, verdict, check_of}
use Rattle.checking.specs.declared.Verdict.{Verdict}
use Rattle.checking.specs.declared.Verdict.TheVariants.{Right, Missed, Stray}

refused_with : (n : ℕ) (t vs ws : List ℕ) (e : Refusal) → answer_of (Err e) ≡ check_of n t vs ws → check_refuses n t vs ws ≡ refusal_number e
refused_with n t vs ws e h = (answered_refuses (refusal_number e) (check_refuses n t vs ws) (verdict n t (rows_of vs ws)) h).0

-- 2 for a table of one cell at width 7
pub two_before_one : (vs ws : List ℕ) → answer_of (Err TableLength) ≡ check_of 7 (1 ∷ []) vs ws → ⊥
two_before_one vs ws e = let z : ◌≡◌ {A = ℕ} 1 2 = refused_with 7 (1 ∷ []) vs ws TableLength e in omega arith

-- 3 for a cell of a table that has one cell at width 1
pub three_before_two : (vs ws : List ℕ) → answer_of (Err Cell) ≡ check_of 1 (3 ∷ []) vs ws → ⊥
three_before_two vs ws e = let z : ◌≡◌ {A = ℕ} 2 3 = refused_with 1 (3 ∷ []) vs ws Cell e in omega arith

-- 5 for arrays of any length, where a cell is 3
pub five_before_three : (vs ws : List ℕ) → answer_of (Err UnequalLengths) ≡ check_of 1 (1 ∷ 3 ∷ []) vs ws → ⊥
unfolding some bad_cell
five_before_three vs ws e = let z : ◌≡◌ {A = ℕ} 3 5 = refused_with 1 (1 ∷ 3 ∷ []) vs ws UnequalLengths e in omega arith

-- 6 for 256 values, where there are 257 cares
pub six_before_five : answer_of (Err TooManyRows) ≡ check_of 1 (0 ∷ 0 ∷ []) (replicate 256 0) (replicate 257 0) → ⊥
unfolding some bad_cell
six_before_five e = let z : ◌≡◌ {A = ℕ} 5 6 = refused_with 1 (0 ∷ 0 ∷ []) (replicate 256 0) (replicate 257 0) TooManyRows e in omega arith

-- 7 for 256 rows with care 2 at width 1
pub seven_before_six : answer_of (Err UnformedRow) ≡ check_of 1 (0 ∷ 0 ∷ []) (replicate 256 0) (replicate 256 2) → ⊥
unfolding some bad_cell rows_of
seven_before_six e = let z : ◌≡◌ {A = ℕ} 6 7 = refused_with 1 (0 ∷ 0 ∷ []) (replicate 256 0) (replicate 256 2) UnformedRow e in omega arith

-- a missed code
abbrev Missing : Verdict → Type 0
Missing Right = ⊥
Missing (Missed c) = Unit
Missing (Stray c) = ⊥

-- stray 1 for wanted 0, barred 1 and a row that matches 1 alone: 0 is missed
pub stray_before_missed : answer_of (Ok (Stray 1)) ≡ check_of 1 (1 ∷ 0 ∷ []) (1 ∷ []) (1 ∷ []) → ⊥
unfolding some bad_cell rows_of formed each_row row_matches cover_matches those verdict
stray_before_missed e = subst⁻¹ Missing (same_value (Stray 1) (Missed 0) e) tt
