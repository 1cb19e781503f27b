-- Branch and bound: what an answer below a limit follows from, the two branches of a row included, and that the answer of a whole search is a minimum
-- cover. Assumes nothing.
use mathlib.Core.Path.{◌≡◌, refl, sym, ◌∙◌}
use mathlib.Core.Bool.{Bool, false, ◌||◌}
use Prim.Native.Nat.{ℕ, ◌+◌, ◌≤◌, ◌<◌}
use native.Mathlib.Omega.{arith}
use Rattle.std.proofs.lemmas.Bool.{false_from_ne_true}
use Rattle.numbers.specs.Below.{those}
use Rattle.covering.specs.Weighted.{AtLeast, LeastCover, SetCovers}
use Rattle.covering.specs.Search.{none, Reduced, Answers}
use Rattle.covering.proofs.Sums.{sum_skip, if_set_false}
use Rattle.covering.proofs.Bounds.{within_mono, nothing, branch}
use Rattle.covering.proofs.Sets.{rows_within, rows_hit, rows_weight}
use Rattle.covering.proofs.Reductions.{cover_same, cover_nothing}

module _ (cov : ℕ → ℕ → Type 0) (w : ℕ → ℕ) (n : ℕ) where
  -- ---- answers

  -- no column is left
  pub answer_nothing : {A U : ℕ → Type 0} (limit : ℕ) → ((c : ℕ) → U c → ⊥) → Answers cov w n A U limit 0 none
  answer_nothing limit e = record { low = nothing cov; within = omega arith; cover = λ l. cover_nothing cov w n e }

  -- after a reduction
  pub answer_reduced : {A A' U U' : ℕ → Type 0} {t p q : ℕ → Bool} {a k limit room : ℕ} → Reduced cov w n A U A' U' t a → room + a ≡ limit
      → ((i : ℕ) → q i ≡ (t i || p i)) → Answers cov w n A' U' room k p → Answers cov w n A U limit (a + k) q
  answer_reduced {p = p} {k = k} r e s f = record {
    low = r.low k f.low;
    within = omega (arith, f.within);
    cover = λ l. cover_same cov w n s refl (r.cover p k (f.cover (omega arith)));
  }

  -- after rows were left out that no cover below the limit needs
  pub answer_fewer : {A A' U : ℕ → Type 0} {limit k : ℕ} {p : ℕ → Bool} → ((i : ℕ) → A' i → A i) → ((x : ℕ) → x ≤ limit → AtLeast cov w A' U x → AtLeast cov w A U x)
      → Answers cov w n A' U limit k p → Answers cov w n A U limit k p
  answer_fewer {k = k} fewer low f = record {
    low = low k f.within f.low;
    within = f.within;
    cover = λ l. let x = f.cover l in record { live = λ i y. fewer i (x.live i y); covers = x.covers; weighs = x.weighs };
  }

  -- Below what the row r gives, with a lower bound k₁ of what it leaves, the answer without r is that of the whole.
  pub answer_without : {A A' U U' : ℕ → Type 0} {limit k k₁ : ℕ} {p : ℕ → Bool} (r : ℕ) → ((i : ℕ) → A' i → A i) → ((i : ℕ) → A i → (i ≡ r → ⊥) → A' i)
      → ((c : ℕ) → U' c → U c × (cov r c → ⊥)) → AtLeast cov w A' U' k₁ → limit ≤ w r + k₁ → Answers cov w n A' U limit k p → Answers cov w n A U limit k p
  answer_without r fewer rest left b l f = answer_fewer fewer (λ x m y. branch cov w r rest x left b y (omega arith) (omega arith)) f

-- ---- a whole search

-- An answer below the limit is a minimum cover, where the rows are those below n.
pub minimum : (cov : ℕ → ℕ → Type 0) (w : ℕ → ℕ) (N n : ℕ) {A U : ℕ → Type 0} {limit k : ℕ} {p : ℕ → Bool} → n ≤ N → ((i : ℕ) → A i → i < n) → ((i : ℕ) → i < n → A i)
    → k < limit → Answers cov w N A U limit k p → LeastCover cov w (λ i. i < n) U (those n p) k
minimum cov w N n {A} {U} {limit} {k} {p} le below all l f = record {
  within = rows_within (λ i. i < n) n p (λ i l e. l);
  covers = λ c u. let t = found.covers c u in rows_hit cov c n p t.0 (below t.0 (found.live t.0 t.1)) t.1 t.2;
  weighs = rows_weight w n p ∙ sym (sum_skip n N le (λ i h o. if_set_false (w i) (past i h))) ∙ found.weighs;
  least = λ M h s. f.low.bound M (within_mono all M h) s;
}
  where
    found : SetCovers cov w N A U p k
    found = f.cover l

    past : (i : ℕ) → n ≤ i → p i ≡ false
    past i h = false_from_ne_true (p i) (λ e. let b = below i (found.live i e) in omega arith)
