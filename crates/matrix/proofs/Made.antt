-- An array made by a closure that is called at each index. Assumes nothing.
use Rattle.std.proofs.Common.{◌≡◌, ℕ, zero, suc, ◌+◌, ◌<◌, ◌≤◌, List, sym, subst, arith}
use native.Mathlib.Decide.{ℕ_discrete}
use denote.Param.Members.{Mut, Called}
use Rattle.std.specs.Array.{IsFromFnResultFrom}
use Rattle.std.specs.Prelude.{slice_index_or}

module _ {F B : Type 0} (g : Mut F (ℕ × Unit {0}) B) (f : F) (ys : List B) (P : ℕ → B → Type 0) (step : (k : ℕ) (y : B) (q : F) → Called g f (k, tt) y q → (q ≡ f) × P k y) where
  -- where a call at an index leaves the closure as it was, and P holds of what it gives, P holds of each element
  pub made : (n i : ℕ) → IsFromFnResultFrom g f ys i n → (k : ℕ) → i ≤ k → k < i + n → (d : B) → P k (slice_index_or ys k d)
  made zero i e k l m d = absurd (omega arith)
  made (suc n) i e k l m d =
      let h : (e.0 ≡ f) × P i e.1 = step i e.1 e.0 e.3 in
      go (λ r. made n (i + 1) (subst (λ (q : F). IsFromFnResultFrom g q ys (i + 1) n) h.0 e.4) k r (omega arith) d) (subst (P i) (sym (e.2.1 d)) h.1) (ℕ_discrete k i)
    where
      go : (i + 1 ≤ k → P k (slice_index_or ys k d)) → P i (slice_index_or ys i d) → Dec (k ≡ i) → P k (slice_index_or ys k d)
      go later here (yes r) = subst (λ (x : ℕ). P x (slice_index_or ys x d)) (sym r) here
      go later here (no r) = later (omega arith)
