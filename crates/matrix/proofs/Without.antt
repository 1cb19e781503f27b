-- Sets with something left out, and rows past the last one: what the contracts of `without` and `without_row` mean for members, for the number of rows and
-- for covers. Assumes nothing.
use mathlib.Core.Path.{◌≡◌, refl, sym, ap, ◌∙◌}
use mathlib.Core.Logic.{◌⊎◌, inl, inr}
use mathlib.Core.List.{List}
use mathlib.Core.Bool.{Bool, true, false, not, ◌&&◌, ◌||◌, and-true}
use Prim.Native.Nat.{ℕ, ◌+◌, ◌≤◌, ◌<◌}
use native.Mathlib.Decide.{dec_lt, ℕ_discrete}
use native.Mathlib.Omega.{arith}
use lib.Dec.{eqb}
use lib.ListN.{length, get_or, get_or-eq_default}
use borrow.Author.Tests.{eq-eqb, ne_eqb}
use Rattle.std.proofs.lemmas.Bool.{false_from_ne_true}
use Rattle.covering.specs.Sum.{if_set}
use Rattle.covering.specs.Weighted.{set_size}
use Rattle.numbers.proofs.Flags.{clash, kept_of_lem}
use Rattle.covering.proofs.Sums.{sum_mono, sum_most, sum_with, if_set_mono, if_set_le}
use Rattle.matrix.specs.Sets.{has_bit, has, member, Member}
use Rattle.matrix.specs.Matrix.{CoversColumn}
use Rattle.matrix.proofs.Bits.{has_zero}

-- ---- a row left out

module _ (s t : List ℕ) (r : ℕ) (e : (j : ℕ) → member t j ≡ (member s j && not (eqb j r))) where
  pub left_in : (j : ℕ) → Member t j → Member s j
  left_in j h = (kept_of_lem (member s j) (eqb j r) (e j) h).0

  pub left_out : Member t r → ⊥
  left_out h = (kept_of_lem (member s r) (eqb r r) (e r) h).1 (eq-eqb r r refl)

  pub left_rest : (j : ℕ) → Member s j → (j ≡ r → ⊥) → Member t j
  left_rest j h n = e j ∙ ap (λ (b : Bool). member s j && not b) (ne_eqb j r n) ∙ ap (λ (b : Bool). b && true) h

  -- one row less
  pub left_size : (n : ℕ) → r < n → Member s r → set_size n (member s) ≡ 1 + set_size n (member t)
  left_size n l h = sum_with n r (λ i. 1) (member t) (member s) l out (λ i. go i (ℕ_discrete i r))
    where
      out : member t r ≡ false
      out = false_from_ne_true (member t r) left_out

      go : (i : ℕ) → Dec (i ≡ r) → member s i ≡ (eqb i r || member t i)
      go i (yes d) = ap (member s) d ∙ h ∙ ap (λ (b : Bool). b || member t i) (sym (eq-eqb i r d))
      go i (no d) = sym (ap (λ (b : Bool). b || member t i) (ne_eqb i r d) ∙ e i ∙ ap (λ (b : Bool). member s i && not b) (ne_eqb i r d) ∙ and-true (member s i))

-- ---- how many rows

pub size_fewer : (n : ℕ) (s t : List ℕ) → ((i : ℕ) → Member t i → Member s i) → set_size n (member t) ≤ set_size n (member s)
size_fewer n s t f = sum_mono n (λ i. if_set_mono (member t i) (member s i) 1 (f i))

pub size_most : (n : ℕ) (s : List ℕ) → set_size n (member s) ≤ n
size_most n s = omega (arith, sum_most n 1 {f = λ i. if_set (member s i) 1} (λ i. if_set_le (member s i) 1))

-- ---- rows past the last one cover nothing

pub covers_past : (words : List ℕ) (i c : ℕ) → length words ≤ i → CoversColumn words i c → ⊥
covers_past words i c l h = clash h (ap (λ (x : ℕ). has x c) (get_or-eq_default words 0 l) ∙ has_zero c)

-- so a row that covers something is before the end, as `grind` takes it
pub covers_within : (words : List ℕ) (i c : ℕ) → (has_bit (get_or words i 0) c ≡ false) ⊎ (i < length words)
covers_within words i c = go (dec_lt i (length words))
  where
    go : Dec (i < length words) → (has_bit (get_or words i 0) c ≡ false) ⊎ (i < length words)
    go (yes l) = inr l
    go (no n) = inl (false_from_ne_true (has_bit (get_or words i 0) c) (covers_past words i c (omega arith)))

-- so what holds of each row before the end holds of each that covers something
pub each_row_lem : (words : List ℕ) (P : ℕ → Type 0) (c n : ℕ) → length words ≤ n → ((i : ℕ) → i < n → CoversColumn words i c → P i) → (i : ℕ) → CoversColumn words i c → P i
each_row_lem words P c n l f i h = go (dec_lt i n)
  where
    go : Dec (i < n) → P i
    go (yes k) = f i k h
    go (no k) = absurd (covers_past words i c (omega arith) h)
