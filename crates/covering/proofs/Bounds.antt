-- Lower bounds of covers. A lower bound is a valid inequality: `AtLeast cov a A U b` says that the coefficients a of the rows of any cover add up to b or
-- more. Inequalities add up, are divided and rounded up, and are carried to a larger weight, so a dual solution is a certificate: the numbers of the
-- columns, or of any other valid inequalities, of which no row gets more than its weight. Branching and dominance work by taking a row out of a
-- selection. Assumes nothing.
use mathlib.Core.Path.{◌≡◌, refl, ap, subst}
use mathlib.Core.List.{List, [], ◌∷◌, ◌++◌}
use mathlib.Core.Logic.{◌⊎◌, inl, inr, ⊎_elim}
use Prim.Native.Nat.{ℕ, zero, suc, ◌+◌, ◌-◌, ◌*◌, ◌/◌, ◌≤◌, ◌<◌}
use native.Mathlib.Nat.{mul-le-mul_left, div-lt_iff_lt-mul}
use native.Mathlib.Decide.{ℕ_discrete}
use native.Mathlib.Omega.{arith}
use Rattle.covering.specs.Sum.{sum}
use Rattle.covering.specs.Weighted.{Within, Hits, Covers, weight, AtLeast}

-- ---- selections

pub within_mono : {A B : ℕ → Type 0} → ((i : ℕ) → A i → B i) → (L : List ℕ) → Within A L → Within B L
within_mono f [] l = tt
within_mono f (x ∷ L) l = (f x l.0, within_mono f L l.1)

pub within-append : (A : ℕ → Type 0) (L M : List ℕ) → Within A L → Within A M → Within A (L ++ M)
within-append A [] M l m = m
within-append A (x ∷ L) M l m = (l.0, within-append A L M l.1 m)

pub weight-append : (w : ℕ → ℕ) (L M : List ℕ) → weight w (L ++ M) ≡ weight w L + weight w M
weight-append w [] M = omega arith
weight-append w (x ∷ L) M = omega (arith, weight-append w L M)

pub weight_le : {A : ℕ → Type 0} {a b : ℕ → ℕ} → ((i : ℕ) → A i → a i ≤ b i) → (L : List ℕ) → Within A L → weight a L ≤ weight b L
weight_le f [] l = omega arith
weight_le f (x ∷ L) l = omega (arith, f x l.0, weight_le f L l.1)

pub weight-add : (a b : ℕ → ℕ) (L : List ℕ) → weight (λ i. a i + b i) L ≡ weight a L + weight b L
weight-add a b [] = refl
weight-add a b (x ∷ L) = omega (arith, weight-add a b L)

pub weight_times : (d : ℕ) (a : ℕ → ℕ) (L : List ℕ) → weight (λ i. d * a i) L ≡ d * weight a L
weight_times d a [] = omega arith
weight_times d a (x ∷ L) = omega (arith, weight_times d a L)

-- where m times d is k or more, k / d rounded up is at most m
pub rounded_up : (d k m : ℕ) → 0 < d → k ≤ d * m → (k + (d - 1)) / d ≤ m
rounded_up d k m pos h = let e : k + (d - 1) < suc m * d = omega arith in
    let g : (k + (d - 1)) / d < suc m = (div-lt_iff_lt-mul pos).1 e in omega arith

module _ (cov : ℕ → ℕ → Type 0) where
  pub hits_append : (L M : List ℕ) (c : ℕ) → Hits cov L c ⊎ Hits cov M c → Hits cov (L ++ M) c
  hits_append [] M c h = ⊎_elim (λ x. absurd x) (λ x. x) h
  hits_append (x ∷ L) M c (inl (inl h)) = inl h
  hits_append (x ∷ L) M c (inl (inr h)) = inr (hits_append L M c (inl h))
  hits_append (x ∷ L) M c (inr h) = inr (hits_append L M c (inr h))

  -- the row of a selection that covers a column
  pub hitter : {A : ℕ → Type 0} (L : List ℕ) (c : ℕ) → Within A L → Hits cov L c → (i : ℕ) × A i × cov i c
  hitter [] c l h = absurd h
  hitter (x ∷ L) c l (inl h) = (x, l.0, h)
  hitter (x ∷ L) c l (inr h) = hitter L c l.1 h

  -- some row of a cover weighs y or more, where each row for a column does
  hit_weighs : {A : ℕ → Type 0} {a : ℕ → ℕ} (c y : ℕ) → ((i : ℕ) → A i → cov i c → y ≤ a i) → (L : List ℕ) → Within A L → Hits cov L c → y ≤ weight a L
  hit_weighs c y f [] l h = absurd h
  hit_weighs c y f (x ∷ L) l (inl h) = omega (arith, f x l.0 h)
  hit_weighs c y f (x ∷ L) l (inr h) = omega (arith, hit_weighs c y f L l.1 h)

  -- ---- valid inequalities

  -- fewer rows, more columns, a smaller number
  pub narrower : {w : ℕ → ℕ} {A A' U U' : ℕ → Type 0} {k k' : ℕ} → ((i : ℕ) → A' i → A i) → ((c : ℕ) → U c → U' c) → k' ≤ k
      → AtLeast cov w A U k → AtLeast cov w A' U' k'
  narrower f g h b = record { bound = λ L l s. omega (arith, b.bound L (within_mono f L l) (λ c u. s c (g c u))) }

  pub smaller : {w : ℕ → ℕ} {A U : ℕ → Type 0} {k k' : ℕ} → k' ≤ k → AtLeast cov w A U k → AtLeast cov w A U k'
  smaller h b = narrower (λ i x. x) (λ c x. x) h b

  -- a weight that is larger at every row of A
  pub heavier : {a w : ℕ → ℕ} {A U : ℕ → Type 0} {k : ℕ} → ((i : ℕ) → A i → a i ≤ w i) → AtLeast cov a A U k → AtLeast cov w A U k
  heavier f b = record { bound = λ L l s. omega (arith, b.bound L l s, weight_le f L l) }

  pub nothing : {w : ℕ → ℕ} {A U : ℕ → Type 0} → AtLeast cov w A U 0
  nothing = record { bound = λ L l s. omega arith }

  -- a column that no row of A covers
  pub uncoverable : {w : ℕ → ℕ} {A U : ℕ → Type 0} (c k : ℕ) → U c → ((i : ℕ) → A i → cov i c → ⊥) → AtLeast cov w A U k
  uncoverable c k u f = record { bound = λ L l s. let t = hitter L c l (s c u) in absurd (f t.0 t.1 t.2) }

  -- rows that cover nothing can be ignored
  module _ (w : ℕ → ℕ) {A A' : ℕ → Type 0} (either : (i : ℕ) → A i → A' i ⊎ ((c : ℕ) → cov i c → ⊥)) where
    Trimmed : List ℕ → Type 0
    Trimmed L = (M : List ℕ) × Within A' M × (weight w M ≤ weight w L) × ((c : ℕ) → Hits cov L c → Hits cov M c)

    trim : (L : List ℕ) → Within A L → Trimmed L
    unfolding Trimmed
    trim [] l = ([], tt, omega arith, λ c h. h)
    trim (x ∷ L) l = go (either x l.0) (trim L l.1)
      where
        go : A' x ⊎ ((c : ℕ) → cov x c → ⊥) → Trimmed L → Trimmed (x ∷ L)
        go (inl a) m = (x ∷ m.0, (a, m.1), omega (arith, m.2), λ c h. ⊎_elim inl (λ y. inr (m.3 c y)) h)
        go (inr f) m = (m.0, m.1, omega (arith, m.2), λ c h. ⊎_elim (λ y. absurd (f c y)) (m.3 c) h)

    pub useful : {U : ℕ → Type 0} {k : ℕ} → AtLeast cov w A' U k → AtLeast cov w A U k
    unfolding Trimmed
    useful b = record { bound = λ L l s. let m = trim L l in omega (arith, m.2, b.bound m.0 m.1 (λ c u. m.3 c (s c u))) }

  -- the inequality of a column, times y
  pub column : {a : ℕ → ℕ} {A U : ℕ → Type 0} (c y : ℕ) → U c → ((i : ℕ) → A i → cov i c → y ≤ a i) → AtLeast cov a A U y
  column c y u f = record { bound = λ L l s. hit_weighs c y f L l (s c u) }

  pub added : {a b : ℕ → ℕ} {A U : ℕ → Type 0} {k l : ℕ} → AtLeast cov a A U k → AtLeast cov b A U l → AtLeast cov (λ i. a i + b i) A U (k + l)
  added {a} {b} f g = record { bound = λ L l s. omega (arith, weight-add a b L, f.bound L l s, g.bound L l s) }

  -- the sum of m inequalities
  pub together : {A U : ℕ → Type 0} (m : ℕ) (a : ℕ → ℕ → ℕ) (b : ℕ → ℕ) → ((j : ℕ) → AtLeast cov (a j) A U (b j))
      → AtLeast cov (λ i. sum m (λ j. a j i)) A U (sum m b)
  unfolding sum
  together zero a b f = nothing
  together (suc m) a b f = added (together m a b f) (f m)

  -- A dual solution: m valid inequalities of which no row of A gets more than its weight.
  pub dual : {w : ℕ → ℕ} {A U : ℕ → Type 0} (m : ℕ) (a : ℕ → ℕ → ℕ) (b : ℕ → ℕ) → ((j : ℕ) → AtLeast cov (a j) A U (b j))
      → ((i : ℕ) → A i → sum m (λ j. a j i) ≤ w i) → AtLeast cov w A U (sum m b)
  dual m a b f h = heavier h (together m a b f)

  -- an inequality divided by d and rounded up
  pub divided : {w a : ℕ → ℕ} {A U : ℕ → Type 0} {k : ℕ} (d : ℕ) → 0 < d → ((i : ℕ) → A i → w i ≤ d * a i) → AtLeast cov w A U k
      → AtLeast cov a A U ((k + (d - 1)) / d)
  divided {w} {a} {k = k} d pos f b = record {
    bound = λ L l s. rounded_up d k (weight a L) pos (omega (arith, b.bound L l s, weight_le f L l, weight_times d a L));
  }

  -- an inequality times d
  pub multiplied : {w a : ℕ → ℕ} {A U : ℕ → Type 0} {k : ℕ} (d : ℕ) → ((i : ℕ) → A i → d * a i ≤ w i) → AtLeast cov a A U k → AtLeast cov w A U (d * k)
  multiplied {a = a} d f b = record { bound = λ L l s. omega (arith, mul-le-mul_left d (b.bound L l s), weight_le f L l, weight_times d a L) }

  -- Rounding in rows: where every weight lies between lo and hi, a bound of k asks for k / hi rows, rounded up, each of weight lo.
  pub in_rows : {w : ℕ → ℕ} {A U : ℕ → Type 0} {k : ℕ} (lo hi : ℕ) → 0 < hi → ((i : ℕ) → A i → (lo ≤ w i) × (w i ≤ hi)) → AtLeast cov w A U k
      → AtLeast cov w A U (lo * ((k + (hi - 1)) / hi))
  in_rows lo hi pos f b = multiplied {a = λ i. 1} lo (λ i x. omega (arith, (f i x).0)) (divided {a = λ i. 1} hi pos (λ i x. omega (arith, (f i x).1)) b)

  -- ---- a row taken out of a selection

  module _ (w : ℕ → ℕ) {A A' : ℕ → Type 0} (r : ℕ) (rest : (i : ℕ) → A i → (i ≡ r → ⊥) → A' i) where
    -- the selection L is the row r and a selection of A'
    Without : List ℕ → Type 0
    Without L = (M : List ℕ) × Within A' M × (w r + weight w M ≤ weight w L) × ((c : ℕ) → Hits cov L c → cov r c ⊎ Hits cov M c)

    split : (L : List ℕ) → Within A L → Within A' L ⊎ Without L
    unfolding Without
    split [] l = inl tt
    split (x ∷ L) l = go (ℕ_discrete x r) (split L l.1)
      where
        again : Within A' L ⊎ Without L → x ≡ r → Without (x ∷ L)
        again (inl m) e = (L, m, omega (arith, ap w e), λ c h. ⊎_elim (λ y. inl (subst (λ (i : ℕ). cov i c) e y)) inr h)
        again (inr m) e = (m.0, m.1, omega (arith, m.2), λ c h. ⊎_elim (λ y. inl (subst (λ (i : ℕ). cov i c) e y)) (m.3 c) h)

        keep : Within A' L ⊎ Without L → (x ≡ r → ⊥) → Within A' (x ∷ L) ⊎ Without (x ∷ L)
        keep (inl m) n = inl (rest x l.0 n, m)
        keep (inr m) n = inr (x ∷ m.0, (rest x l.0 n, m.1), omega (arith, m.2), λ c h. ⊎_elim (λ y. inr (inl y)) (λ y. ⊎_elim inl (λ z. inr (inr z)) (m.3 c y)) h)

        go : Dec (x ≡ r) → Within A' L ⊎ Without L → Within A' (x ∷ L) ⊎ Without (x ∷ L)
        go (yes e) m = inr (again m e)
        go (no n) m = keep m n

    -- Branching: a cover holds the row r, and then a cover of the columns that r leaves, or it is one of A'.
    pub branch : {U U' : ℕ → Type 0} {k₁ k₂ : ℕ} (k : ℕ) → ((c : ℕ) → U' c → U c × (cov r c → ⊥))
        → AtLeast cov w A' U' k₁ → AtLeast cov w A' U k₂ → k ≤ w r + k₁ → k ≤ k₂ → AtLeast cov w A U k
    unfolding Without
    branch {U} {U'} {k₁} {k₂} k left b₁ b₂ h₁ h₂ = record { bound = λ L l s. go L s (split L l) }
      where
        go : (L : List ℕ) → Covers cov U L → Within A' L ⊎ Without L → k ≤ weight w L
        go L s (inl m) = omega (arith, b₂.bound L m s)
        go L s (inr m) =
            omega (arith, m.2, b₁.bound m.0 m.1 (λ c u. ⊎_elim (λ y. absurd ((left c u).1 y)) (λ y. y) (m.3 c (s c (left c u).0))))

    -- Dominance: the row r gives way to a selection of A' that weighs no more and covers its columns of U. The empty one will do where r covers none.
    pub dominated : {U : ℕ → Type 0} {k : ℕ} (S : List ℕ) → Within A' S → weight w S ≤ w r → ((c : ℕ) → U c → cov r c → Hits cov S c)
        → AtLeast cov w A' U k → AtLeast cov w A U k
    unfolding Without
    dominated {U} {k} S live light for b = record { bound = λ L l s. go L s (split L l) }
      where
        go : (L : List ℕ) → Covers cov U L → Within A' L ⊎ Without L → k ≤ weight w L
        go L s (inl m) = b.bound L m s
        go L s (inr m) =
            omega (
              arith,
              m.2,
              weight-append w S m.0,
              b.bound (S ++ m.0) (within-append A' S m.0 live m.1)
                  (λ c u. hits_append S m.0 c (⊎_elim (λ y. inl (for c u y)) inr (m.3 c (s c u)))),
            )
