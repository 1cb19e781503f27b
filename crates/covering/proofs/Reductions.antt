-- What the reductions keep: reductions compose, a dominated row and a dominated column are dropped, and the only row for a column is taken. Bounds follow from
-- the laws of lower bounds; covers are sets of rows below n, which grow by the rows that are taken. Assumes nothing.
use mathlib.Core.Path.{◌≡◌, refl, sym, ap, subst, ◌∙◌}
use mathlib.Core.List.{List}
use mathlib.Core.Logic.{◌⊎◌, inl, inr, ⊎_elim}
use mathlib.Core.Bool.{Bool, true, ◌||◌, or-false, or_assoc}
use Prim.Native.Nat.{ℕ, ◌+◌, ◌≤◌, ◌<◌}
use native.Mathlib.Nat.{add-zero}
use native.Mathlib.Omega.{arith}
use lib.Dec.{eqb}
use borrow.Author.Tests.{eq-eqb, eqb-true}
use Rattle.std.proofs.lemmas.Bool.{false_from_ne_true, or_left, or_right}
use Rattle.covering.specs.Sum.{if_set, sum}
use Rattle.covering.specs.Weighted.{Within, Hits, weight, SetCovers}
use Rattle.covering.specs.Search.{none, only, ◌∪◌, Reduced}
use Rattle.numbers.proofs.Flags.{clash, either_of}
use Rattle.covering.proofs.Sums.{sum_same, sum_skip, sum_with}
use Rattle.covering.proofs.Bounds.{smaller, narrower, branch, dominated, uncoverable}

module _ (cov : ℕ → ℕ → Type 0) (w : ℕ → ℕ) (n : ℕ) where
  -- ---- covers

  -- the same set and the same weight, said in other words
  pub cover_same : {A U : ℕ → Type 0} {p q : ℕ → Bool} {k l : ℕ} → ((i : ℕ) → q i ≡ p i) → k ≡ l → SetCovers cov w n A U p k → SetCovers cov w n A U q l
  cover_same h e x = record {
    live = λ i y. x.live i (sym (h i) ∙ y);
    covers = λ c u. let t = x.covers c u in (t.0, h t.0 ∙ t.1, t.2);
    weighs = sum_same n (λ i l. ap (λ (b : Bool). if_set b (w i)) (h i)) ∙ x.weighs ∙ e;
  }

  -- no column is left
  pub cover_nothing : {A U : ℕ → Type 0} → ((c : ℕ) → U c → ⊥) → SetCovers cov w n A U none 0
  unfolding sum
  cover_nothing e = record { live = λ i y. clash y refl; covers = λ c u. absurd (e c u); weighs = sum_skip 0 n (omega arith) (λ i l m. refl) }

  -- the row r with a cover of what it leaves
  pub cover_with : {A A' U U' : ℕ → Type 0} {p : ℕ → Bool} {k : ℕ} (r : ℕ) → r < n → A r → (A' r → ⊥) → ((i : ℕ) → A' i → A i)
      → ((c : ℕ) → U c → cov r c ⊎ U' c) → SetCovers cov w n A' U' p k → SetCovers cov w n A U (only r ∪ p) (w r + k)
  cover_with {A} {p = p} r l is out fewer left x = record {
    live = λ i y. ⊎_elim (λ e. subst A (sym (eqb-true i r e)) is) (λ z. fewer i (x.live i z)) (either_of (eqb i r) (p i) y);
    covers = λ c u. ⊎_elim (λ y. (r, or_left _ _ (eq-eqb r r refl), y)) (λ v. let t = x.covers c v in (t.0, or_right (eqb t.0 r) _ t.1, t.2)) (left c u);
    weighs = sum_with n r w p (only r ∪ p) l (false_from_ne_true (p r) (λ y. out (x.live r y))) (λ i. refl) ∙ ap (λ (y : ℕ). w r + y) x.weighs;
  }

  -- ---- reductions

  pub unchanged : {A U : ℕ → Type 0} → Reduced cov w n A U A U none 0
  unchanged = record { fewer = λ i y. y; low = λ k b. smaller cov (omega arith) b; cover = λ p k x. cover_same (λ i. refl) (omega arith) x }

  pub then : {A B C U U' U'' : ℕ → Type 0} {s t u : ℕ → Bool} {a b : ℕ} → ((i : ℕ) → u i ≡ (s i || t i))
      → Reduced cov w n A U B U' s a → Reduced cov w n B U' C U'' t b → Reduced cov w n A U C U'' u (a + b)
  then {s = s} {t = t} e f g = record {
    fewer = λ i y. f.fewer i (g.fewer i y);
    low = λ k y. smaller cov (omega arith) (f.low _ (g.low k y));
    cover = λ p k y. cover_same (λ i. ap (λ (x : Bool). x || p i) (e i) ∙ or_assoc (s i) (t i) (p i)) (omega arith) (f.cover _ _ (g.cover p k y));
  }

  -- a step in which nothing is taken
  pub then_kept : {A B C U U' U'' : ℕ → Type 0} {s : ℕ → Bool} {a : ℕ} → Reduced cov w n A U B U' s a → Reduced cov w n B U' C U'' none 0 → Reduced cov w n A U C U'' s a
  then_kept {s = s} {a = a} f g = rw add-zero at (then (λ i. sym (or-false (s i))) f g)

  -- A row gives way to a selection that weighs no more and covers its columns of U.
  pub drop_row : {A A' U : ℕ → Type 0} (r : ℕ) (S : List ℕ) → ((i : ℕ) → A' i → A i) → ((i : ℕ) → A i → (i ≡ r → ⊥) → A' i)
      → Within A' S → weight w S ≤ w r → ((c : ℕ) → U c → cov r c → Hits cov S c) → Reduced cov w n A U A' U none 0
  drop_row r S fewer rest live light for = record {
    fewer = fewer;
    low = λ k b. smaller cov (omega arith) (dominated cov w r rest S live light for b);
    cover = λ p k x. record { live = λ i y. fewer i (x.live i y); covers = x.covers; weighs = x.weighs ∙ omega arith };
  }

  -- Each column of U is one of U', or whatever row covers some column of U' covers it too.
  pub drop_columns : {A U U' : ℕ → Type 0} → ((c : ℕ) → U' c → U c)
      → ((c : ℕ) → U c → U' c ⊎ ((d : ℕ) × U' d × ((i : ℕ) → A i → cov i d → cov i c))) → Reduced cov w n A U A U' none 0
  drop_columns {A} {U} {U'} sub along = record {
    fewer = λ i y. y;
    low = λ k b. narrower cov (λ i y. y) sub (omega arith) b;
    cover = λ p k x. record { live = x.live; covers = λ c u. by p k x c (along c u); weighs = x.weighs ∙ omega arith };
  }
    where
      by : (p : ℕ → Bool) (k : ℕ) → SetCovers cov w n A U' p k → (c : ℕ) → U' c ⊎ ((d : ℕ) × U' d × ((i : ℕ) → A i → cov i d → cov i c)) → (i : ℕ) × (p i ≡ true) × cov i c
      by p k x c (inl v) = x.covers c v
      by p k x c (inr d) = let t = x.covers d.0 d.1 in (t.0, t.1, d.2 t.0 (x.live t.0 t.1) t.2)

  -- A column with one row takes it.
  pub take_row : {A A' U U' : ℕ → Type 0} (r c : ℕ) → r < n → A r → (A' r → ⊥) → ((i : ℕ) → A' i → A i) → ((i : ℕ) → A i → (i ≡ r → ⊥) → A' i)
      → U c → ((i : ℕ) → A i → cov i c → i ≡ r) → ((x : ℕ) → U' x → U x × (cov r x → ⊥)) → ((x : ℕ) → U x → cov r x ⊎ U' x)
      → Reduced cov w n A U A' U' (only r) (w r)
  take_row {A' = A'} r c l is out fewer rest u one left right = record {
    fewer = fewer;
    low = λ k b. branch cov w r rest (w r + k) left b (uncoverable cov c (w r + k) u (λ i y z. out (subst A' (one i (fewer i y) z) y))) (omega arith) (omega arith);
    cover = λ p k x. cover_with r l is out fewer right x;
  }
