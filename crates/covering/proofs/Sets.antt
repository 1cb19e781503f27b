-- A set of the rows below n as a selection: it is within what the set is within, it covers what some row of the set covers, and it weighs what the set weighs.
-- Assumes nothing.
use mathlib.Core.Path.{◌≡◌, refl, sym, ap, subst, ◌∙◌}
use mathlib.Core.List.{[], ◌∷◌}
use mathlib.Core.Logic.{◌⊎◌, inl, inr}
use mathlib.Core.Bool.{Bool, true, false, cond}
use Prim.Native.Nat.{ℕ, zero, suc, ◌<◌}
use native.Mathlib.Decide.{ℕ_discrete}
use native.Mathlib.Omega.{arith}
use Rattle.numbers.specs.Below.{those}
use Rattle.covering.specs.Sum.{if_set, sum}
use Rattle.covering.specs.Weighted.{Within, Hits, weight, total}
use Rattle.covering.proofs.Bounds.{within-append, weight-append, hits_append}

pub rows_within : (A : ℕ → Type 0) (n : ℕ) (p : ℕ → Bool) → ((i : ℕ) → i < n → p i ≡ true → A i) → Within A (those n p)
unfolding those
rows_within A zero p f = tt
rows_within A (suc n) p f = within-append A (those n p) (cond (p n) (n ∷ []) []) (rows_within A n p (λ i l e. f i (omega arith) e)) (last (p n) refl)
  where
    last : (b : Bool) → p n ≡ b → Within A (cond b (n ∷ []) [])
    last true e = (f n (omega arith) e, tt)
    last false e = tt

pub rows_hit : (cov : ℕ → ℕ → Type 0) (c n : ℕ) (p : ℕ → Bool) (i : ℕ) → i < n → p i ≡ true → cov i c → Hits cov (those n p) c
unfolding those
rows_hit cov c zero p i l e h = absurd (omega arith)
rows_hit cov c (suc n) p i l e h = hits_append cov (those n p) (cond (p n) (n ∷ []) []) c (go (ℕ_discrete i n) (λ k. rows_hit cov c n p i k e h))
  where
    go : Dec (i ≡ n) → (i < n → Hits cov (those n p) c) → Hits cov (those n p) c ⊎ Hits cov (cond (p n) (n ∷ []) []) c
    go (yes d) ih = inr (subst (λ (b : Bool). Hits cov (cond b (n ∷ []) []) c) (sym (ap p (sym d) ∙ e)) (inl (subst (λ (x : ℕ). cov x c) d h)))
    go (no d) ih = inl (ih (omega arith))

pub rows_weight : (w : ℕ → ℕ) (n : ℕ) (p : ℕ → Bool) → weight w (those n p) ≡ total w n p
unfolding those sum
rows_weight w zero p = refl
rows_weight w (suc n) p = omega (arith, weight-append w (those n p) (cond (p n) (n ∷ []) []), rows_weight w n p, last (p n))
  where
    last : (b : Bool) → weight w (cond b (n ∷ []) []) ≡ if_set b (w n)
    last true = omega arith
    last false = refl
