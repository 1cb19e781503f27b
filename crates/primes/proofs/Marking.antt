-- The test by the kinds of the cubes is the test of a prime that serves: the number with a digit made 2 is the cube with 2 put there. The marked cubes
-- are those that pass the test. Assumes nothing.
use mathlib.Core.Path.{◌≡◌, refl, sym, ap, ap₂, ◌∙◌, subst⁻¹}
use mathlib.Core.Bool.{Bool, true, false, not, ◌&&◌}
use mathlib.Core.List.{List}
use Prim.Native.Nat.{ℕ, ◌+◌, ◌*◌, ◌-◌, ◌^◌, ◌<◌}
use native.Mathlib.Nat.{add-mul, sub-add_cancel, le_of_suc-le-suc}
use native.Mathlib.Omega.{arith}
use lib.Dec.{lit<}
use lib.ListN.{get_or}
use Rattle.numbers.specs.Below.{some, those}
use Rattle.numbers.specs.Lent.{Puts}
use Rattle.cube.specs.Words.{tested, digit, implicant, serves, serving_prime}
use Rattle.numbers.proofs.Below.{some_same, those_same}
use Rattle.numbers.proofs.Lent.{puts_same}
use Rattle.cube.proofs.Digits.{put_digit, put_lt, put_weight, digit_lt}
use Rattle.cube.proofs.Implicants.{expands, maximal, prime_is_maximal}
use Rattle.primes.specs.Steps.{kind, Kinds, Marks, is_marked, freed, of_implicant, of_serving, expands_by, serving_prime_by}
use Rattle.primes.specs.declared.Kind.{Kind}
use Rattle.primes.specs.declared.Kind.TheVariants.{NoImplicant}

freed_is : (k q : ℕ) → freed k q ≡ put_digit k 2 q
freed_is k q =
    let d : ℕ = digit k q in
    let e : (2 - d) * 3 ^ k + d * 3 ^ k ≡ 2 * 3 ^ k = sym (add-mul (2 - d) d (3 ^ k)) ∙ ap (λ (i : ℕ). i * 3 ^ k) (sub-add_cancel (le_of_suc-le-suc (digit_lt k q))) in
    omega (arith, put_weight k 2 q)

-- the number that a cube has with digit k made 2, which weighs as much more as the digit weighed less
pub freed_put : (k q p : ℕ) → p + digit k q * 3 ^ k ≡ q + 2 * 3 ^ k → p ≡ freed k q
freed_put k q p e = omega (arith, freed_is k q, put_weight k 2 q)

pub freed_lt : (n k q : ℕ) → k < n → q < 3 ^ n → freed k q < 3 ^ n
freed_lt n k q l h = subst⁻¹ (λ (i : ℕ). i < 3 ^ n) (freed_is k q) (put_lt n k 2 q l (lit< tt) h)

module _ (n : ℕ) (t : List ℕ) (kinds : List Kind) (m : Kinds n t kinds (3 ^ n)) where
  -- a kind tells whether the cube is an implicant
  implicant-kind : (q : ℕ) → q < 3 ^ n → of_implicant (get_or kinds q NoImplicant) ≡ implicant n t q
  implicant-kind q l = ap of_implicant (m q l) ∙ go (implicant n t q) (serves n t q)
    where
      go : (i s : Bool) → of_implicant (kind i s) ≡ i
      go true true = refl
      go true false = refl
      go false s = refl

  module _ (q : ℕ) (l : q < 3 ^ n) where
    expands_same : (k : ℕ) → k < n → expands_by kinds q k ≡ expands n t q k
    expands_same k h =
        ap (λ (b : Bool). tested (digit k q) && b) (implicant-kind (freed k q) (freed_lt n k q h l) ∙ ap (implicant n t) (freed_is k q))

    pub serving_by_kinds : serving_prime_by n kinds q ≡ serving_prime n t q
    unfolding serving_prime_by maximal
    serving_by_kinds =
        ap₂ (λ (i : Kind) (b : Bool). of_serving i && not b) (m q l) (some_same n (expands_by kinds q) (expands n t q) expands_same)
        ∙ go (implicant n t q) (serves n t q) (some n (expands n t q))
        ∙ sym (ap (λ (b : Bool). b && serves n t q) (prime_is_maximal n t q l))
      where
        go : (i s e : Bool) → (of_serving (kind i s) && not e) ≡ ((i && not e) && s)
        go true true true = refl
        go true true false = refl
        go true false true = refl
        go true false false = refl
        go false s e = refl

-- ---- the marked cubes

-- a marked cube passes, where the marks are those of a test
pub marked_is : {A : Type 0} (is_mark : A → Bool) (mark : Bool → A) → ((b : Bool) → is_mark (mark b) ≡ b) → (f : ℕ → Bool) (marks : List A) (m q : ℕ)
    → Marks mark f marks m → q < m → is_marked is_mark (mark false) marks q ≡ f q
marked_is is_mark mark tells f marks m q k l = ap is_mark (k q l) ∙ tells (f q)

-- so the marked cubes are those that pass, here where a mark is the test itself
pub marked_listed : (n : ℕ) (f : ℕ → Bool) (marks : List Bool) (old : List ℕ) → Marks (λ b. b) f marks (3 ^ n) → {x : ℕ} {new : List ℕ}
    → Puts (those (3 ^ n) (is_marked (λ b. b) false marks)) old 0 new x → Puts (those (3 ^ n) f) old 0 new x
marked_listed n f marks old k p =
    puts_same (those_same (3 ^ n) (is_marked (λ b. b) false marks) f (λ q l. marked_is (λ b. b) (λ b. b) (λ b. refl) f marks (3 ^ n) q k l)) p
