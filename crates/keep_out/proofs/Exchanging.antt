-- What the exchange of wanted and barred codes does: to a cell, to what a table is refused for, and to the lists. A list keeps out the barred codes of a table
-- exactly when it is right for the exchanged table, so the shortest ones are the same. Assumes nothing.
use mathlib.Core.Path.{◌≡◌, refl, sym, ap, ◌∙◌, subst, subst⁻¹}
use mathlib.Core.List.{List, [], ◌∷◌}
use Prim.Native.Nat.{ℕ, zero, suc, ◌^◌, ◌<◌}
use native.Mathlib.Nat.{le_of_suc-le-suc}
use native.Mathlib.Omega.{arith}
use lib.Dec.{T, eqb, ltb}
use lib.ListN.{length, length-map}
use borrow.Author.Tests.{ne_eqb}
use Rattle.numbers.specs.Below.{some}
use Rattle.numbers.proofs.Below.{some_same}
use Rattle.cube.specs.Words.{cell, on_set, off_set, dont_care, Cover, all_formed, implements}
use Rattle.cube.specs.Calls.{bad_cell}
use Rattle.cube.specs.Minimum.{Minimum}
use Rattle.cube.proofs.Theorems.{implements_on, implements_off, implements_by}
use Rattle.plan.proofs.Refusals.{same_refusal}
use Rattle.keep_out.specs.KeepOut.{KeepsOut, MinimumKeepOut}
use Rattle.keep_out.specs.Theorems.{exchanged_cell, exchanged, Exchange}

-- ---- a cell

-- a cell that is neither 0 nor 1 stays what it is
pub stays : (x : ℕ) → (x ≡ 0 → ⊥) → (x ≡ 1 → ⊥) → x ≡ exchanged_cell x
stays zero a b = absurd (a refl)
stays (suc zero) a b = absurd (b refl)
stays (suc (suc x)) a b = refl

neither : (x : ℕ) → eqb (suc (suc x)) 0 ≡ eqb (suc (suc x)) 1
neither x = ne_eqb (suc (suc x)) 0 (λ e. omega arith) ∙ sym (ne_eqb (suc (suc x)) 1 (λ e. omega arith))

one_for_zero : (x : ℕ) → eqb (exchanged_cell x) 1 ≡ eqb x 0
one_for_zero zero = refl
one_for_zero (suc zero) = refl
one_for_zero (suc (suc x)) = sym (neither x)

zero_for_one : (x : ℕ) → eqb (exchanged_cell x) 0 ≡ eqb x 1
zero_for_one zero = refl
zero_for_one (suc zero) = refl
zero_for_one (suc (suc x)) = neither x

two_stays : (x : ℕ) → eqb (exchanged_cell x) 2 ≡ eqb x 2
two_stays zero = refl
two_stays (suc zero) = refl
two_stays (suc (suc x)) = refl

above_stays : (x : ℕ) → ltb 2 (exchanged_cell x) ≡ ltb 2 x
above_stays zero = refl
above_stays (suc zero) = refl
above_stays (suc (suc x)) = refl

cell_is : (t : List ℕ) (c : ℕ) → c < length t → cell (exchanged t) c ≡ exchanged_cell (cell t c)
cell_is [] c l = absurd (omega arith)
cell_is (x ∷ t) zero l = refl
cell_is (x ∷ t) (suc c) l = cell_is t c (le_of_suc-le-suc l)

-- ---- a table

module _ (t : List ℕ) where
  cells : length (exchanged t) ≡ length t
  cells = length-map t exchanged_cell

  wanted : (c : ℕ) → c < length t → on_set (exchanged t) c ≡ off_set t c
  wanted c l = ap (λ (x : ℕ). eqb x 1) (cell_is t c l) ∙ one_for_zero (cell t c)

  barred : (c : ℕ) → c < length t → off_set (exchanged t) c ≡ on_set t c
  barred c l = ap (λ (x : ℕ). eqb x 0) (cell_is t c l) ∙ zero_for_one (cell t c)

  free : (c : ℕ) → c < length t → dont_care (exchanged t) c ≡ dont_care t c
  free c l = ap (λ (x : ℕ). eqb x 2) (cell_is t c l) ∙ two_stays (cell t c)

  bad : bad_cell (exchanged t) ≡ bad_cell t
  unfolding bad_cell
  bad =
      ap (λ (m : ℕ). some m (λ c. ltb 2 (cell (exchanged t) c))) cells
      ∙ some_same (length t) (λ c. ltb 2 (cell (exchanged t) c)) (λ c. ltb 2 (cell t c)) (λ c l. ap (ltb 2) (cell_is t c l) ∙ above_stays (cell t c))

-- ---- lists

module _ (n : ℕ) (t : List ℕ) where
  module _ (long : length t ≡ 2 ^ n) where
    inside : (c : ℕ) → c < 2 ^ n → c < length t
    inside c l = omega arith

    keeps_right : (list : Cover) → KeepsOut n t list → T (implements n (exchanged t) list)
    keeps_right list k =
        implements_by n (exchanged t) list (λ c l w. k.every_barred c l (subst T (wanted t c (inside c l)) w))
        (λ c l b. k.no_wanted c l (subst T (barred t c (inside c l)) b))

    pub right_keeps : (list : Cover) → T (all_formed n list) → T (implements n (exchanged t) list) → KeepsOut n t list
    right_keeps list f h = record {
      formed = f;
      every_barred = λ c l b. implements_on n (exchanged t) list h c l (subst⁻¹ T (wanted t c (inside c l)) b);
      no_wanted = λ c l w. implements_off n (exchanged t) list h c l (subst⁻¹ T (barred t c (inside c l)) w);
    }

    minimum_to : (list : Cover) → MinimumKeepOut n t list → Minimum n (exchanged t) list
    minimum_to list m = record {
      formed = m.keeps_out.formed;
      right = keeps_right list m.keeps_out;
      least = λ rival f h. m.least rival (right_keeps rival f h);
    }

    minimum_from : (list : Cover) → Minimum n (exchanged t) list → MinimumKeepOut n t list
    minimum_from list m = record {
      keeps_out = right_keeps list m.formed m.right;
      least = λ rival k. m.least rival k.formed (keeps_right rival k);
    }

  pub exchange : Exchange n t
  exchange = record {
    cells = cells t;
    wanted = wanted t;
    barred = barred t;
    free = free t;
    bad = bad t;
    refusal = same_refusal n (exchanged t) t (cells t) (bad t);
    lists = λ long list. (minimum_to long list, minimum_from long list);
  }
