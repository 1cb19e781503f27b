-- The codes of a row, bit by bit: those that are its value but for untested bits below k. At k = 0 that is the value alone, at the width they are all
-- codes that the row matches, and an untested bit k adds each of them raised by 2^k. Over any width. Assumes nothing.
use mathlib.Core.Path.{◌≡◌, sym, ap, ap₂, ◌∙◌, subst, subst⁻¹}
use mathlib.Core.Logic.{◌⊎◌, inl, inr, ⊎_elim, ◌↔◌}
use mathlib.Core.Bool.{Bool, true, false, not, ◌&&◌, ◌||◌, or-false}
use Prim.Native.Nat.{ℕ, ◌+◌, ◌-◌, ◌*◌, ◌/◌, ◌%◌, ◌^◌, ◌<◌, ◌≤◌, min}
use native.Mathlib.Nat.{div-eq_of_lt, add-div_right, add-mod_right, mod-eq_of_lt, mod-lt, lt_of_le_of_lt}
use native.Mathlib.Omega.{arith}
use native.Mathlib.Decide.{ℕ_discrete, dec_lt}
use lib.Dec.{T, eqb, ltb, leb, eqb→eq, lt→ltb, leb→le, le→leb}
use lib.Pow.{pow_pos, pow-lt, split, shr-shr, mod-pow-add, field, mod-mod-pow}
use lib.Bits.{bit_and, and_mod, and_le_r}
use mir.Facts.{yes_eqb}
use borrow.Author.Tests.{eq-eqb, ne_eqb}
use Rattle.cube.specs.Words.{row_matches}
use Rattle.cube.specs.Calls.{widest}
use Rattle.matrix.specs.Sets.{column_limit, has_bit, ColumnSet, has, has_raised}
use Rattle.numbers.proofs.Bools.{and_l, and_r, and_i, or_e, or_l, or_r, same, is_false}
use Rattle.cube.proofs.Rows.{Formed}
use Rattle.matrix.proofs.Bits.{digit_and}
use Rattle.gathering.specs.Gathered.{HoldsExactly}

-- a code raised by 2^k is as it was below bit k
raised_below : (x w k : ℕ) → bit_and (x + 2 ^ k) w % 2 ^ k ≡ bit_and x w % 2 ^ k
raised_below x w k =
    and_mod (x + 2 ^ k) w k ∙ ap (λ (y : ℕ). bit_and y (w % 2 ^ k)) (add-mod_right x (2 ^ k)) ∙ sym (and_mod x w k)

-- the weight of a bit is one of the places of a word
pub weight_most : (k : ℕ) → k < widest → 2 ^ k < 64
weight_most k l = pow-lt l

-- what is 0 above bit n is below 2^n
below_pow : (x n : ℕ) → x / 2 ^ n ≡ 0 → x < 2 ^ n
below_pow x n e = omega (arith, sym (split x n) ∙ ap (λ (y : ℕ). y * 2 ^ n + x % 2 ^ n) e, mod-lt x (pow_pos n))

module _ (v w : ℕ) where
  -- code x is the value, but for untested bits below k
  pub record Agrees (k x : ℕ) : Type 0 where
    pub above : x / 2 ^ k ≡ v / 2 ^ k
    pub below : bit_and x w % 2 ^ k ≡ v % 2 ^ k

  -- the set holds these codes
  abbrev pub Agreeing : ColumnSet → ℕ → Type 0
  Agreeing set k = (x : ℕ) → T (has set x) ↔ Agrees k x

  -- ---- one bit more

  -- Agrees at k + 1, by the half of what stands from bit k on, bit k, and what stands below it
  record Halved (k x : ℕ) : Type 0 where
    half : x / 2 ^ k / 2 ≡ v / 2 ^ k / 2
    bit : min (x / 2 ^ k % 2) (w / 2 ^ k % 2) ≡ v / 2 ^ k % 2
    below : bit_and x w % 2 ^ k ≡ v % 2 ^ k

  module _ (k x : ℕ) where
    abbrev Low : ℕ → Type 0
    Low m = bit_and x w % 2 ^ m ≡ v % 2 ^ m

    halved : Agrees (k + 1) x → Halved k x
    halved a =
        let l : Low (1 + k) = subst Low (omega arith) a.below in
        record {
          half = shr-shr x k 1 ∙ a.above ∙ sym (shr-shr v k 1);
          bit = sym (digit_and x w k) ∙ sym (field (bit_and x w) 1 k) ∙ ap (λ (y : ℕ). y / 2 ^ k) l ∙ field v 1 k;
          below = sym (mod-mod-pow (bit_and x w) 1 k) ∙ ap (λ (y : ℕ). y % 2 ^ k) l ∙ mod-mod-pow v 1 k;
        }

    unhalved : Halved k x → Agrees (k + 1) x
    unhalved h = record {
      above = sym (shr-shr x k 1) ∙ h.half ∙ shr-shr v k 1;
      below = subst Low (omega arith) low;
    }
      where
        low : Low (1 + k)
        low =
            mod-pow-add (bit_and x w) 1 k ∙ ap₂ (λ (i j : ℕ). i * 2 ^ k + j) (digit_and x w k ∙ h.bit) h.below ∙ sym (mod-pow-add v 1 k)

  module _ (inside : bit_and v w ≡ v) (k : ℕ) where
    value_bit : v / 2 ^ k % 2 ≡ min (v / 2 ^ k % 2) (w / 2 ^ k % 2)
    value_bit = sym (ap (λ (y : ℕ). y / 2 ^ k % 2) inside) ∙ digit_and v w k

    -- a tested bit changes nothing
    module _ (one : w / 2 ^ k % 2 ≡ 1) (x : ℕ) where
      tested_from : Agrees (k + 1) x → Agrees k x
      tested_from a = let h = halved k x a in record { above = omega (arith, h.half, h.bit); below = h.below }

      tested_to : Agrees k x → Agrees (k + 1) x
      tested_to a = unhalved k x (record { half = ap (λ (y : ℕ). y / 2) a.above; bit = omega (arith, a.above, value_bit); below = a.below })

    -- an untested bit adds the codes raised by 2^k
    module _ (none : w / 2 ^ k % 2 ≡ 0) where
      untested_to : (x : ℕ) → Agrees k x → Agrees (k + 1) x
      untested_to x a = unhalved k x (record { half = ap (λ (y : ℕ). y / 2) a.above; bit = omega (arith, value_bit); below = a.below })

      raised_to : (x : ℕ) → Agrees k x → Agrees (k + 1) (x + 2 ^ k)
      raised_to x a = unhalved k (x + 2 ^ k) (record {
        half = omega (arith, add-div_right x (pow_pos k), a.above, value_bit);
        bit = omega (arith, value_bit);
        below = raised_below x w k ∙ a.below;
      })

      untested_from : (x : ℕ) → Agrees (k + 1) x → Agrees k x ⊎ ((2 ^ k ≤ x) × Agrees k (x - 2 ^ k))
      untested_from x a = go (ℕ_discrete (x / 2 ^ k) (v / 2 ^ k)) (dec_lt x (2 ^ k))
        where
          h : Halved k x
          h = halved k x a

          go : Dec (x / 2 ^ k ≡ v / 2 ^ k) → Dec (x < 2 ^ k) → Agrees k x ⊎ ((2 ^ k ≤ x) × Agrees k (x - 2 ^ k))
          go (yes e) d = inl (record { above = e; below = h.below })
          go (no e) (yes l) = absurd (omega (arith, h.half, value_bit, div-eq_of_lt l))
          go (no e) (no l) =
              let y : x - 2 ^ k + 2 ^ k ≡ x = omega arith in
              let up : x / 2 ^ k ≡ (x - 2 ^ k) / 2 ^ k + 1 = sym (ap (λ (i : ℕ). i / 2 ^ k) y) ∙ add-div_right (x - 2 ^ k) (pow_pos k) in
              inr (
                omega arith,
                record {
                  above = omega (arith, h.half, value_bit, up);
                  below = sym (raised_below (x - 2 ^ k) w k) ∙ ap (λ (i : ℕ). bit_and i w % 2 ^ k) y ∙ h.below;
                },
              )

    bit-set : w / 2 ^ k % 2 ≡ 1 → has_bit w k ≡ true
    unfolding has_bit
    bit-set e = eq-eqb (w / 2 ^ k % 2) 1 e

    bit_clear : (w / 2 ^ k % 2 ≡ 1 → ⊥) → has_bit w k ≡ false
    unfolding has_bit
    bit_clear e = ne_eqb (w / 2 ^ k % 2) 1 e

    -- one bit more of a set, where no code passes the limit
    module _ (set : ColumnSet) (is : Agreeing set k) (within : (x : ℕ) → Agrees (k + 1) x → x < column_limit) where
      raised_by : (x : ℕ) → 2 ^ k ≤ x → Agrees k (x - 2 ^ k) → x < column_limit → T (has_raised set (2 ^ k) x)
      raised_by x l a m =
          and_i (ltb x column_limit) (leb (2 ^ k) x && has set (x - 2 ^ k)) (lt→ltb x column_limit m)
          (and_i (leb (2 ^ k) x) (has set (x - 2 ^ k)) (le→leb (2 ^ k) x l) ((is (x - 2 ^ k)).1 a))

      raised_is : (x : ℕ) → T (has_raised set (2 ^ k) x) → (2 ^ k ≤ x) × Agrees k (x - 2 ^ k)
      raised_is x h =
          let r = and_r (ltb x column_limit) (leb (2 ^ k) x && has set (x - 2 ^ k)) h in
          (leb→le (2 ^ k) x (and_l (leb (2 ^ k) x) (has set (x - 2 ^ k)) r), (is (x - 2 ^ k)).0 (and_r (leb (2 ^ k) x) (has set (x - 2 ^ k)) r))

      module _ (x : ℕ) (b : Bool) where
        by_tested : w / 2 ^ k % 2 ≡ 1 → b ≡ has set x → T b ↔ Agrees (k + 1) x
        by_tested one e = (λ h. tested_to one x ((is x).0 (subst T e h)), λ a. subst⁻¹ T e ((is x).1 (tested_from one x a)))

        by_untested : w / 2 ^ k % 2 ≡ 0 → b ≡ (has set x || has_raised set (2 ^ k) x) → T b ↔ Agrees (k + 1) x
        by_untested none e = (
          λ h. ⊎_elim (λ o. untested_to none x ((is x).0 o)) from_raised (or_e (has set x) (has_raised set (2 ^ k) x) (subst T e h)),
          λ a. subst⁻¹ T e (⊎_elim (λ o. or_l (has set x) (has_raised set (2 ^ k) x) ((is x).1 o)) (into_raised a) (untested_from none x a)),
        )
          where
            from_raised : T (has_raised set (2 ^ k) x) → Agrees (k + 1) x
            from_raised h =
                let r = raised_is x h in
                let l = r.0 in
                let y : x - 2 ^ k + 2 ^ k ≡ x = omega arith in
                subst (Agrees (k + 1)) y (raised_to none (x - 2 ^ k) r.1)

            into_raised : Agrees (k + 1) x → (2 ^ k ≤ x) × Agrees k (x - 2 ^ k) → T (has set x || has_raised set (2 ^ k) x)
            into_raised a o = or_r (has set x) (has_raised set (2 ^ k) x) (raised_by x o.0 o.1 (within x a))

        by_bit : b ≡ (has set x || (not (has_bit w k) && has_raised set (2 ^ k) x)) → T b ↔ Agrees (k + 1) x
        by_bit e = go (ℕ_discrete (w / 2 ^ k % 2) 1)
          where
            with_flag : {t : Bool} → has_bit w k ≡ t → b ≡ (has set x || (not t && has_raised set (2 ^ k) x))
            with_flag d = e ∙ ap (λ (t : Bool). has set x || (not t && has_raised set (2 ^ k) x)) d

            go : Dec (w / 2 ^ k % 2 ≡ 1) → T b ↔ Agrees (k + 1) x
            go (yes d) = by_tested d (with_flag (bit-set d) ∙ or-false (has set x))
            go (no d) = by_untested (omega arith) (with_flag (bit_clear d))

  -- ---- all bits

  module _ (n : ℕ) (f : Formed n v w) where
    pub row_value_lt : v < 2 ^ n
    row_value_lt = omega (arith, f.care, f.inside, and_le_r v w)

    -- what agrees is a code
    agrees_code : (k x : ℕ) → k ≤ n → Agrees k x → x < 2 ^ n
    agrees_code k x l a =
        let e : k + (n - k) ≡ n = omega arith in
        let d : x / 2 ^ (k + (n - k)) ≡ v / 2 ^ (k + (n - k)) = sym (shr-shr x k (n - k)) ∙ ap (λ (y : ℕ). y / 2 ^ (n - k)) a.above ∙ shr-shr v k (n - k) in
        below_pow x n (subst (λ (m : ℕ). x / 2 ^ m ≡ v / 2 ^ m) e d ∙ div-eq_of_lt row_value_lt)

    matches_of : (x : ℕ) → Agrees n x → bit_and x w ≡ v
    matches_of x a = sym (mod-eq_of_lt (lt_of_le_of_lt (and_le_r x w) f.care)) ∙ a.below ∙ mod-eq_of_lt row_value_lt

    agrees_of : (x : ℕ) → x < 2 ^ n → bit_and x w ≡ v → Agrees n x
    agrees_of x l e = record { above = div-eq_of_lt l ∙ sym (div-eq_of_lt row_value_lt); below = ap (λ (y : ℕ). y % 2 ^ n) e }

    -- a bit of the row more
    pub row_more : (k : ℕ) → k < n → 2 ^ n ≤ column_limit → (set more : ColumnSet) → Agreeing set k
        → ((x : ℕ) → has more x ≡ (has set x || (not (has_bit w k) && has_raised set (2 ^ k) x))) → Agreeing more (k + 1)
    row_more k l wide set more is e x =
        by_bit f.inside k set is (λ y a. let b = agrees_code (k + 1) y (omega arith) a in omega arith) x (has more x) (e x)

    -- in the end the set holds the codes that the row matches
    pub row_exactly : (set : ColumnSet) → Agreeing set n → HoldsExactly n (row_matches (record { value = v; care = w })) set
    unfolding row_matches
    row_exactly set is = record {
      codes = λ c l.
          same (has set c) (eqb (bit_and c w) v) (λ h. yes_eqb (matches_of c ((is c).0 h)))
          (λ h. (is c).1 (agrees_of c l (eqb→eq (bit_and c w) v h)));
      no_other = λ c l. is_false (has set c) (λ h. let b = agrees_code n c (omega arith) ((is c).0 h) in omega arith);
    }
