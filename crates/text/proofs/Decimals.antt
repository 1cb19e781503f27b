-- A number in decimal is the digits of its tenth and then its last digit, whatever bound the recursion was given; and a number below 10^k has at
-- most k digits. Assumes nothing.
use mathlib.Core.Path.{◌≡◌, refl, sym, ap, ◌∙◌}
use mathlib.Core.Logic.{⊎_elim}
use mathlib.Core.Bool.{Bool, true, false, cond}
use mathlib.Core.List.{List, [], ◌∷◌, ◌++◌}
use Prim.Native.Nat.{ℕ, zero, suc, ◌^◌, ◌/◌, ◌%◌, ◌<◌, ◌≤◌}
use native.Mathlib.Nat.{pow-suc}
use native.Mathlib.Numerals.{add-one}
use native.Mathlib.Omega.{arith}
use lib.Dec.{ltb}
use lib.ListN.{length, length-append}
use borrow.Author.Tests.{lt-ltb, le-ltb, ltb-false}
use Rattle.std.specs.Fmt.{decimal}
use Rattle.std.proofs.lemmas.Fmt.{AppendsLastDigit, decimal_from_appends, length-decimal-le_succ}
use Rattle.std.proofs.lemmas.Bool.{cases_lt}
use Rattle.text.specs.Characters.{digit_character}
use Rattle.text.specs.Output.{decimal_by, in_decimal}
use Rattle.text.specs.Theorems.{Decimal}

abbrev last : ℕ → List ℕ
last x = digit_character (x % 10) ∷ []

one_digit : (k x : ℕ) → x < 10 → decimal_by (suc k) x ≡ last x
unfolding decimal_by
one_digit k x h = ap (λ (t : Bool). cond t [] (decimal_by k (x / 10)) ++ last x) (lt-ltb x 10 h)

-- the digits before the last are the same where they are the same of a tenth
same_before : (x : ℕ) (a b : List ℕ) → (10 ≤ x → a ≡ b) → cond (ltb x 10) [] a ++ last x ≡ cond (ltb x 10) [] b ++ last x
same_before x a b h = ap (λ (l : List ℕ). l ++ last x) (go (ltb x 10) refl)
  where
    go : (t : Bool) → ltb x 10 ≡ t → cond t [] a ≡ cond t [] b
    go true e = refl
    go false e = h (ltb-false x 10 e)

-- two bounds that are large enough give the same digits
by_any : (k j x : ℕ) → x ≤ k → x ≤ j → decimal_by k x ≡ decimal_by j x
unfolding decimal_by
by_any zero zero x l m = refl
by_any zero (suc j) x l m = sym (one_digit j x (omega arith))
by_any (suc k) zero x l m = one_digit k x (omega arith)
by_any (suc k) (suc j) x l m = same_before x (decimal_by k (x / 10)) (decimal_by j (x / 10)) (λ h. by_any k j (x / 10) (omega arith) (omega arith))

decimal_is : (x : ℕ) → in_decimal x ≡ cond (ltb x 10) [] (in_decimal (x / 10)) ++ last x
unfolding decimal_by
decimal_is zero = refl
decimal_is (suc y) = same_before (suc y) (decimal_by y (suc y / 10)) (in_decimal (suc y / 10)) (λ h. by_any y (suc y / 10) (suc y / 10) (omega arith) (omega arith))

decimal_low : (x : ℕ) → x < 10 → in_decimal x ≡ digit_character x ∷ []
decimal_low x h =
    let same : x % 10 ≡ x = omega arith in
    decimal_is x ∙ ap (λ (t : Bool). cond t [] (in_decimal (x / 10)) ++ last x) (lt-ltb x 10 h) ∙ ap (λ (i : ℕ). digit_character i ∷ []) same

decimal_high : (x : ℕ) → 10 ≤ x → in_decimal x ≡ in_decimal (x / 10) ++ (digit_character (x % 10) ∷ [])
decimal_high x h = decimal_is x ∙ ap (λ (t : Bool). cond t [] (in_decimal (x / 10)) ++ last x) (le-ltb x 10 h)

appends : AppendsLastDigit decimal_by
unfolding decimal_by
appends = record {
  one = λ k n h. one_digit k n h ∙ ap (λ (i : ℕ). digit_character i ∷ []) (omega arith);
  more = λ k n h. ap (λ (t : Bool). cond t [] (decimal_by k (n / 10)) ++ last n) (le-ltb n 10 h);
}

-- what the library writes for a number of 64 bits
pub is_decimal : (x : ℕ) → x < 2 ^ 64 → decimal x ≡ in_decimal x
is_decimal x l = sym (decimal_from_appends decimal_by appends (suc x) x l (simp add-one at (length-decimal-le_succ x l))) ∙ by_any (suc x) x x (omega arith) (omega arith)

pub decimals : (x : ℕ) → Decimal x
decimals x = record { low = decimal_low x; high = decimal_high x }

pub decimal_length : (k x : ℕ) → x < 10 ^ suc k → length (in_decimal x) ≤ suc k
decimal_length zero x l = omega (arith, ap length (decimal_low x l))
decimal_length (suc k) x l =
    ⊎_elim (λ h. omega (arith, ap length (decimal_low x h)))
    (λ h. omega (
      arith,
      ap length (decimal_high x h),
      length-append (in_decimal (x / 10)) (last x),
      decimal_length k (x / 10) (omega (arith, pow-suc 10 (suc k))),
    )) (cases_lt x 10)
