-- The laws of sums over the numbers below n: each by induction on n, and the cases of a flag by computing. Assumes nothing.
use mathlib.Core.Path.{◌≡◌, refl, ap, ◌∙◌}
use mathlib.Core.Bool.{Bool, true, false, ◌||◌}
use Prim.Native.Nat.{ℕ, zero, suc, ◌+◌, ◌*◌, ◌≤◌, ◌<◌}
use native.Mathlib.Decide.{ℕ_discrete}
use native.Mathlib.Omega.{arith}
use lib.Dec.{eqb}
use borrow.Author.Tests.{eq-eqb, ne_eqb}
use Rattle.covering.specs.Sum.{if_set, sum}

pub sum_same : (n : ℕ) {f g : ℕ → ℕ} → ((i : ℕ) → i < n → f i ≡ g i) → sum n f ≡ sum n g
unfolding sum
sum_same zero h = refl
sum_same (suc n) h = omega (arith, sum_same n (λ i l. h i (omega arith)), h n (omega arith))

pub sum_mono : (n : ℕ) {f g : ℕ → ℕ} → ((i : ℕ) → f i ≤ g i) → sum n f ≤ sum n g
unfolding sum
sum_mono zero h = omega arith
sum_mono (suc n) h = omega (arith, sum_mono n h, h n)

pub sum-add : (n : ℕ) (f g : ℕ → ℕ) → sum n (λ i. f i + g i) ≡ sum n f + sum n g
unfolding sum
sum-add zero f g = refl
sum-add (suc n) f g = omega (arith, sum-add n f g)

-- a sum with one number changed
pub sum_change : (n r : ℕ) {f g : ℕ → ℕ} → r < n → ((i : ℕ) → (i ≡ r → ⊥) → f i ≡ g i) → sum n f + g r ≡ sum n g + f r
unfolding sum
sum_change zero r l h = absurd (omega arith)
sum_change (suc n) r {f} {g} l h = go (ℕ_discrete n r) (λ k. sum_change n r k h)
  where
    go : Dec (n ≡ r) → (r < n → sum n f + g r ≡ sum n g + f r) → sum n f + f n + g r ≡ sum n g + g n + f r
    go (yes e) ih = omega (arith, sum_same n {f = f} {g = g} (λ i k. h i (λ z. omega arith)), ap f e, ap g e)
    go (no d) ih = omega (arith, ih (omega arith), h n d)

-- nothing is added from a to b
pub sum_skip : (a b : ℕ) {f : ℕ → ℕ} → a ≤ b → ((i : ℕ) → a ≤ i → i < b → f i ≡ 0) → sum b f ≡ sum a f
unfolding sum
sum_skip a zero {f} l h = let e : 0 ≡ a = omega arith in ap (λ (x : ℕ). sum x f) e
sum_skip a (suc b) {f} l h = go (ℕ_discrete (suc b) a) (λ k. sum_skip a b k (λ i m o. h i m (omega arith)))
  where
    go : Dec (suc b ≡ a) → (a ≤ b → sum b f ≡ sum a f) → sum b f + f b ≡ sum a f
    go (yes e) ih = ap (λ (x : ℕ). sum x f) e
    go (no d) ih = omega (arith, ih (omega arith), h b (omega arith) (omega arith))

-- every number is at most m
pub sum_most : (n m : ℕ) {f : ℕ → ℕ} → ((i : ℕ) → f i ≤ m) → sum n f ≤ n * m
unfolding sum
sum_most zero m h = omega arith
sum_most (suc n) m h = omega (arith, sum_most n m h, h n)

pub if_set_true : {b : Bool} (x : ℕ) → b ≡ true → if_set b x ≡ x
if_set_true x e = ap (λ (b : Bool). if_set b x) e

pub if_set_false : {b : Bool} (x : ℕ) → b ≡ false → if_set b x ≡ 0
if_set_false x e = ap (λ (b : Bool). if_set b x) e

pub if_set_le : (b : Bool) (x : ℕ) → if_set b x ≤ x
if_set_le true x = omega arith
if_set_le false x = omega arith

-- a flag that is set only where another is
pub if_set_mono : (a b : Bool) (x : ℕ) → (a ≡ true → b ≡ true) → if_set a x ≤ if_set b x
if_set_mono true b x h = omega (arith, if_set_true x (h refl))
if_set_mono false b x h = omega arith

-- one more number in a set
pub sum_with : (n r : ℕ) (w : ℕ → ℕ) (p q : ℕ → Bool) → r < n → p r ≡ false → ((i : ℕ) → q i ≡ (eqb i r || p i))
    → sum n (λ i. if_set (q i) (w i)) ≡ w r + sum n (λ i. if_set (p i) (w i))
sum_with n r w p q l out e =
    omega (
      arith,
      sum_change n r {f = λ i. if_set (q i) (w i)} {g = λ i. if_set (p i) (w i)} l
          (λ i d. ap (λ (b : Bool). if_set b (w i)) (e i ∙ ap (λ (b : Bool). b || p i) (ne_eqb i r d))),
      if_set_false (w r) out,
      if_set_true (w r) (e r ∙ ap (λ (b : Bool). b || p r) (eq-eqb r r refl)),
    )
