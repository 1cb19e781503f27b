-- Those of a list of numbers that pass a test: they are in the list, each that passes is among them, and they are fewer where one does not pass. Assumes nothing.
use mathlib.Core.Path.{◌≡◌, refl, subst, subst⁻¹}
use mathlib.Core.Logic.{◌⊎◌, inl, inr, ⊎_elim}
use mathlib.Core.Bool.{Bool, true, false, cond, ◌||◌}
use mathlib.Core.List.{List, [], ◌∷◌}
use Prim.Native.Nat.{ℕ, ◌<◌, ◌≤◌}
use native.Mathlib.Omega.{arith}
use lib.Dec.{T, eqb, eqb→eq}
use lib.ListN.{length}
use Rattle.std.specs.Bool.{passes}
use Rattle.numbers.specs.Below.{among}
use Rattle.numbers.proofs.Bools.{or_e, or_l, or_r}

module _ (f : ℕ → Bool) where
  -- those of the list that pass
  abbrev pub kept : List ℕ → List ℕ
  kept [] = []
  kept (q ∷ qs) = cond (f q) (q ∷ kept qs) (kept qs)

  -- they are in the list and pass
  pub kept_in : (qs : List ℕ) (q : ℕ) → T (among q (kept qs)) → T (among q qs) × T (f q)
  unfolding among
  kept_in [] q a = absurd a
  kept_in (p ∷ qs) q a = go (f p) refl (kept_in qs q) a
    where
      go : (b : Bool) → f p ≡ b → (T (among q (kept qs)) → T (among q qs) × T (f q)) → T (among q (cond b (p ∷ kept qs) (kept qs)))
          → T (eqb q p || among q qs) × T (f q)
      go false e ih x = let r = ih x in (or_r (eqb q p) (among q qs) r.0, r.1)
      go true e ih x =
          ⊎_elim (λ y. (or_l (eqb q p) (among q qs) y, subst⁻¹ (λ (i : ℕ). T (f i)) (eqb→eq q p y) (passes (f p) e)))
          (λ y. let r = ih y in (or_r (eqb q p) (among q qs) r.0, r.1)) (or_e (eqb q p) (among q (kept qs)) x)

  -- and each that does is among them
  pub kept_has : (qs : List ℕ) (q : ℕ) → T (among q qs) → T (f q) → T (among q (kept qs))
  unfolding among
  kept_has [] q a h = absurd a
  kept_has (p ∷ qs) q a h = go (f p) refl (λ x. kept_has qs q x h) (or_e (eqb q p) (among q qs) a)
    where
      go : (b : Bool) → f p ≡ b → (T (among q qs) → T (among q (kept qs))) → T (eqb q p) ⊎ T (among q qs) → T (among q (cond b (p ∷ kept qs) (kept qs)))
      go true e ih (inl x) = or_l (eqb q p) (among q (kept qs)) x
      go true e ih (inr x) = or_r (eqb q p) (among q (kept qs)) (ih x)
      go false e ih (inl x) = absurd (subst T e (subst (λ (i : ℕ). T (f i)) (eqb→eq q p x) h))
      go false e ih (inr x) = ih x

  -- they are no more, and fewer where one does not pass
  pub kept_most : (qs : List ℕ) → length (kept qs) ≤ length qs
  kept_most [] = omega arith
  kept_most (p ∷ qs) = go (f p) (kept_most qs)
    where
      go : (b : Bool) → length (kept qs) ≤ length qs → length (cond b (p ∷ kept qs) (kept qs)) ≤ length (p ∷ qs)
      go true ih = omega arith
      go false ih = omega arith

  pub kept_fewer : (qs : List ℕ) (q : ℕ) → T (among q qs) → (T (f q) → ⊥) → length (kept qs) < length qs
  unfolding among
  kept_fewer [] q a h = absurd a
  kept_fewer (p ∷ qs) q a h = go (f p) refl (kept_most qs) (λ x. kept_fewer qs q x h) (or_e (eqb q p) (among q qs) a)
    where
      go : (b : Bool) → f p ≡ b → length (kept qs) ≤ length qs → (T (among q qs) → length (kept qs) < length qs) → T (eqb q p) ⊎ T (among q qs)
          → length (cond b (p ∷ kept qs) (kept qs)) < length (p ∷ qs)
      go true e m ih (inl x) = absurd (h (subst⁻¹ (λ (i : ℕ). T (f i)) (eqb→eq q p x) (passes (f p) e)))
      go true e m ih (inr x) = omega (arith, ih x)
      go false e m ih x = omega arith
