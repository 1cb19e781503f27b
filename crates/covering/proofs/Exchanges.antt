-- Covers exchanged row by row: where each row has an image that weighs no more and covers a column c wherever the row covers γ c, the images of a cover are a
-- cover that weighs no more, so a lower bound of the covers with a row is one of the covers with any row that it is an image of. No inverse is asked, so this
-- holds of every permutation of rows and of columns that keeps covering, weights, live rows and undecided columns, and of more. Assumes nothing.
use mathlib.Core.Path.{◌≡◌, refl, sym, subst}
use mathlib.Core.List.{List, [], ◌∷◌}
use mathlib.Core.Logic.{inl, inr, ⊎_elim}
use Prim.Native.Nat.{ℕ, ◌≤◌}
use native.Mathlib.Decide.{ℕ_discrete}
use native.Mathlib.Omega.{arith}
use Rattle.covering.specs.Weighted.{Within, Hits, weight}
use Rattle.covering.specs.Inequalities.{Has, AtLeastWith}

-- j, an image of i: a row of A that weighs no more, and covers a column c of U where i covers γ c
pub record ImageBy (cov : ℕ → ℕ → Type 0) (w : ℕ → ℕ) (A U : ℕ → Type 0) (γ : ℕ → ℕ) (i j : ℕ) : Type 0 where
  pub lives : A j
  pub light : w j ≤ w i
  pub covers : (c : ℕ) → U c → cov i (γ c) → cov j c

module _ {cov : ℕ → ℕ → Type 0} {w : ℕ → ℕ} {A U : ℕ → Type 0} {γ : ℕ → ℕ} (image : (i : ℕ) → A i → (j : ℕ) × ImageBy cov w A U γ i j) {r s : ℕ} (here : ImageBy cov w A U γ s r) where
  -- the selection L row by row: images of its rows, with r for s
  Mapped : List ℕ → Type 0
  Mapped L = (M : List ℕ) × Within A M × (weight w M ≤ weight w L) × ((c : ℕ) → U c → Hits cov L (γ c) → Hits cov M c) × (Has s L → Has r M)

  one_more : (x j : ℕ) (L : List ℕ) → ImageBy cov w A U γ x j → (x ≡ s → j ≡ r) → Mapped L → Mapped (x ∷ L)
  unfolding Mapped
  one_more x j L i e m =
      (j ∷ m.0, (i.lives, m.1), omega (arith, i.light, m.2), λ c u h. ⊎_elim (λ y. inl (i.covers c u y)) (λ y. inr (m.3 c u y)) h, λ h. ⊎_elim (λ y. inl (e y)) (λ y. inr (m.4 y)) h)

  mapped : (L : List ℕ) → Within A L → Mapped L
  unfolding Mapped
  mapped [] l = ([], tt, omega arith, λ c u h. h, λ h. h)
  mapped (x ∷ L) l = go (ℕ_discrete x s) (mapped L l.1)
    where
      go : Dec (x ≡ s) → Mapped L → Mapped (x ∷ L)
      go (yes e) m = one_more x r L (subst (λ (y : ℕ). ImageBy cov w A U γ y r) (sym e) here) (λ d. refl) m
      go (no n) m = let j = image x l.0 in one_more x j.0 L j.1 (λ d. absurd (n d)) m

  pub exchanged : {k : ℕ} → ((c : ℕ) → U c → U (γ c)) → AtLeastWith cov w A U r k → AtLeastWith cov w A U s k
  unfolding Mapped
  exchanged into b = record {
    bound = λ L l v h. let m = mapped L l in omega (arith, m.2, b.bound m.0 m.1 (λ c u. m.3 c u (v (γ c) (into c u))) (m.4 h));
  }
