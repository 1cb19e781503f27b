-- Valid inequalities of the covers below a limit, and the bounds that they give. They add up, are multiplied, and are divided and rounded up. A priced inequality
-- is a sum of valid ones, each as many times as its price says: a column is one of them (some row of a cover covers it), and the number of rows that every cover
-- needs is another, which is kept while rows are dropped and taken. The prices need not be feasible: what the rows pay above their weights, their excess, is taken
-- off the bound, and taken off once, since a cover is a set of rows. Rows that no cover below the limit has are forgotten. Assumes nothing.
use mathlib.Core.Path.{◌≡◌, refl, sym, ap, subst, ◌∙◌}
use mathlib.Core.List.{List, [], ◌∷◌}
use mathlib.Core.Logic.{◌⊎◌, inl, inr, ⊎_elim}
use mathlib.Core.Bool.{Bool, true, false, ◌||◌}
use Prim.Native.Nat.{ℕ, zero, suc, ◌+◌, ◌-◌, ◌*◌, ◌/◌, ◌≤◌, ◌<◌, max}
use native.Mathlib.Nat.{mul-le-mul_left, max-le}
use native.Mathlib.Decide.{ℕ_discrete}
use native.Mathlib.Omega.{arith}
use lib.Dec.{eqb}
use borrow.Author.Tests.{eq-eqb, eqb-true, ne_eqb}
use Rattle.std.proofs.lemmas.Bool.{or_left, or_right}
use Rattle.numbers.specs.Below.{those, among}
use Rattle.covering.specs.Sum.{if_set, sum}
use Rattle.covering.specs.Weighted.{Within, Hits, Covers, weight, AtLeast, total}
use Rattle.covering.specs.Search.{only}
use Rattle.covering.specs.Inequalities.{Has, NoRow, OnlyRow, Rival, Valid, Needs, AtLeastWith, excess}
use Rattle.numbers.proofs.Flags.{clash, either_of}
use Rattle.covering.proofs.Sums.{sum_mono, sum-add, sum_skip, if_set_true, if_set_false, if_set_le}
use Rattle.covering.proofs.Bounds.{within_mono, weight_le, weight-add, weight_times, rounded_up, hitter}
use Rattle.covering.proofs.Sets.{rows_within, rows_hit, rows_weight}

-- ---- selections

-- some row of a cover weighs y or more, where each row for a column does
hit_weighs : (cov : ℕ → ℕ → Type 0) {A : ℕ → Type 0} {a : ℕ → ℕ} (c y : ℕ) → ((i : ℕ) → A i → cov i c → y ≤ a i) → (L : List ℕ) → Within A L → Hits cov L c
    → y ≤ weight a L
hit_weighs cov c y f [] l h = absurd h
hit_weighs cov c y f (x ∷ L) l (inl h) = omega (arith, f x l.0 h)
hit_weighs cov c y f (x ∷ L) l (inr h) = omega (arith, hit_weighs cov c y f L l.1 h)

-- a selection has a row as it covers a column, where a row covers itself
has_hits : (r : ℕ) (L : List ℕ) → Has r L → Hits (λ i c. i ≡ c) L r
has_hits r [] h = h
has_hits r (x ∷ L) h = ⊎_elim inl (λ y. inr (has_hits r L y)) h

hits_has : (r : ℕ) (L : List ℕ) → Hits (λ i c. i ≡ c) L r → Has r L
hits_has r [] h = h
hits_has r (x ∷ L) h = ⊎_elim inl (λ y. inr (hits_has r L y)) h

all_among : (L : List ℕ) → Within (λ i. among i L ≡ true) L
unfolding among
all_among [] = tt
all_among (x ∷ L) =
    (or_left _ _ (eq-eqb x x refl), within_mono (λ i e. or_right (eqb i x) _ e) L (all_among L))

among-within : (A : ℕ → Type 0) (L : List ℕ) (i : ℕ) → Within A L → among i L ≡ true → A i
unfolding among
among-within A [] i l e = clash e refl
among-within A (x ∷ L) i l e =
    ⊎_elim (λ y. subst A (sym (eqb-true i x y)) l.0) (λ y. among-within A L i l.1 y) (either_of (eqb i x) (among i L) e)

-- one row, where it is below n
one_row : (v : ℕ → ℕ) (n r : ℕ) → total v n (only r) ≤ v r
unfolding sum
one_row v zero r = omega arith
one_row v (suc n) r = go (ℕ_discrete n r) (one_row v n r)
  where
    go : Dec (n ≡ r) → total v n (only r) ≤ v r → total v (suc n) (only r) ≤ v r
    go (yes e) ih =
        omega (arith, sum_skip 0 n {f = λ i. if_set (only r i) (v i)} (omega arith) (λ i l m. if_set_false (v i) (ne_eqb i r (λ z. omega arith))), if_set_le (eqb n r) (v n), ap v e)
    go (no d) ih = omega (arith, ih, if_set_false (v n) (ne_eqb n r d))

-- the rows of a selection below n, each once, weigh no more than the selection
each_once : (v : ℕ → ℕ) (n : ℕ) (L : List ℕ) → total v n (λ i. among i L) ≤ weight v L
unfolding among sum
each_once v n [] = omega (arith, sum_skip 0 n {f = λ i. 0} (omega arith) (λ i l m. refl))
each_once v n (x ∷ L) =
    omega (
      arith,
      sum_mono n {f = λ i. if_set (eqb i x || among i L) (v i)} {g = λ i. if_set (eqb i x) (v i) + if_set (among i L) (v i)} (λ i. either (eqb i x) (among i L) (v i)),
      sum-add n (λ i. if_set (eqb i x) (v i)) (λ i. if_set (among i L) (v i)),
      one_row v n x,
      each_once v n L,
    )
  where
    either : (a b : Bool) (y : ℕ) → if_set (a || b) y ≤ if_set a y + if_set b y
    either true b y = omega arith
    either false b y = omega arith

module _ (cov : ℕ → ℕ → Type 0) (w : ℕ → ℕ) where
  -- ---- rivals

  -- more rows, fewer columns, a larger limit, fewer rows that a rival has
  rival_narrower : {A A' U U' R R' : ℕ → Type 0} {limit limit' : ℕ} {L : List ℕ} → ((i : ℕ) → A' i → A i) → ((c : ℕ) → U c → U' c) → limit' ≤ limit
      → ((r : ℕ) → R r → R' r) → Rival cov w A' U' limit' R' L → Rival cov w A U limit R L
  rival_narrower {L = L} f g h e q = record {
    within = within_mono f L q.within;
    covers = λ c u. q.covers c (g c u);
    light = omega arith;
    has = λ r y. q.has r (e r y);
  }

  -- ---- inequalities of the same rivals

  module _ {A U : ℕ → Type 0} {limit : ℕ} {R : ℕ → Type 0} where
    pub valid-smaller : {a : ℕ → ℕ} {b b' : ℕ} → b' ≤ b → Valid cov w A U limit R a b → Valid cov w A U limit R a b'
    valid-smaller h x = record { bound = λ L q. omega (arith, x.bound L q) }

    pub valid_nothing : {a : ℕ → ℕ} → Valid cov w A U limit R a 0
    valid_nothing = record { bound = λ L q. omega arith }

    pub valid_larger : {a : ℕ → ℕ} {k l : ℕ} → Valid cov w A U limit R a k → Valid cov w A U limit R a l → Valid cov w A U limit R a (max k l)
    valid_larger x y = record { bound = λ L q. max-le (x.bound L q) (y.bound L q) }

    -- the inequality of a column, times y
    pub valid_column : {a : ℕ → ℕ} (c y : ℕ) → U c → ((i : ℕ) → A i → cov i c → y ≤ a i) → Valid cov w A U limit R a y
    valid_column c y u f = record { bound = λ L q. hit_weighs cov c y f L q.within (q.covers c u) }

    -- the inequality of a row that every rival has, times y
    pub valid_row : {a : ℕ → ℕ} (r y : ℕ) → R r → y ≤ a r → Valid cov w A U limit R a y
    valid_row {a} r y is h = record {
      bound = λ L q. hit_weighs (λ i c. i ≡ c) r y (λ i l e. omega (arith, ap a e)) L q.within (has_hits r L (q.has r is));
    }

    pub valid_added : {a b : ℕ → ℕ} {k l : ℕ} → Valid cov w A U limit R a k → Valid cov w A U limit R b l → Valid cov w A U limit R (λ i. a i + b i) (k + l)
    valid_added {a} {b} x y = record { bound = λ L q. omega (arith, weight-add a b L, x.bound L q, y.bound L q) }

    -- the sum of m inequalities
    pub valid_together : (m : ℕ) (a : ℕ → ℕ → ℕ) (b : ℕ → ℕ) → ((j : ℕ) → Valid cov w A U limit R (a j) (b j))
        → Valid cov w A U limit R (λ i. sum m (λ j. a j i)) (sum m b)
    unfolding sum
    valid_together zero a b f = valid_nothing
    valid_together (suc m) a b f = valid_added (valid_together m a b f) (f m)

    -- an inequality times d
    pub valid_multiplied : {a v : ℕ → ℕ} {k : ℕ} (d : ℕ) → ((i : ℕ) → A i → d * a i ≤ v i) → Valid cov w A U limit R a k → Valid cov w A U limit R v (d * k)
    valid_multiplied {a} d f x = record { bound = λ L q. omega (arith, mul-le-mul_left d (x.bound L q), weight_le f L q.within, weight_times d a L) }

    -- an inequality divided by d and rounded up
    pub valid_divided : {v a : ℕ → ℕ} {k : ℕ} (d : ℕ) → 0 < d → ((i : ℕ) → A i → v i ≤ d * a i) → Valid cov w A U limit R v k
        → Valid cov w A U limit R a ((k + (d - 1)) / d)
    valid_divided {a = a} {k = k} d pos f x = record {
      bound = λ L q. rounded_up d k (weight a L) pos (omega (arith, x.bound L q, weight_le f L q.within, weight_times d a L));
    }

    -- the rows of a rival below n, each once, where the others cover nothing
    rival_once : (n : ℕ) → ((i c : ℕ) → n ≤ i → cov i c → ⊥) → ((r : ℕ) → R r → r < n) → (L : List ℕ) → Rival cov w A U limit R L
        → Rival cov w (λ i. A i × (i < n)) U limit R (those n (λ i. among i L))
    rival_once n past below L q = record {
      within = rows_within (λ i. A i × (i < n)) n (λ i. among i L) (λ i o e. (among-within A L i q.within e, o));
      covers = λ c u. let t = hitter cov L c (all_among L) (q.covers c u) in
          let no : n ≤ t.0 → ⊥ = λ h. past t.0 c h t.2 in rows_hit cov c n (λ i. among i L) t.0 (omega arith) t.1 t.2;
      light = omega (arith, rows_weight w n (λ i. among i L), each_once w n L);
      has = λ r y. let t = hitter (λ i c. i ≡ c) L r (all_among L) (has_hits r L (q.has r y)) in
          hits_has r (those n (λ i. among i L)) (rows_hit (λ i c. i ≡ c) r n (λ i. among i L) r (below r y) (ap (λ (i : ℕ). among i L) (sym t.2) ∙ t.1) refl);
    }

    -- rows from n on cover nothing, so what is valid of the rows below n is valid
    pub valid_before : {a : ℕ → ℕ} {b : ℕ} (n : ℕ) → ((i c : ℕ) → n ≤ i → cov i c → ⊥) → ((r : ℕ) → R r → r < n)
        → Valid cov w (λ i. A i × (i < n)) U limit R a b → Valid cov w A U limit R a b
    valid_before {a} n past below x = record {
      bound = λ L q. omega (arith, x.bound (those n (λ i. among i L)) (rival_once n past below L q), rows_weight a n (λ i. among i L), each_once a n L);
    }

    -- The certificate: what an inequality of what the rows pay bounds the sum of any other numbers v by. A rival has each row once, so what a row pays above its
    -- number is taken off once. The rows from n on cover nothing.
    pub valid_priced : {paid : ℕ → ℕ} {b : ℕ} (v : ℕ → ℕ) (n : ℕ) (live : ℕ → Bool) → ((i : ℕ) → A i → live i ≡ true)
        → ((i c : ℕ) → n ≤ i → cov i c → ⊥) → ((r : ℕ) → R r → r < n) → Valid cov w A U limit R paid b
        → Valid cov w A U limit R v (b - excess v n live paid)
    valid_priced {paid} v n live is past below x = record {
      bound = λ L q. omega (
        arith,
        x.bound (those n (λ i. among i L)) (rival_narrower (λ i y. y.0) (λ c u. u) (omega arith) (λ r y. y) (rival_once n past below L q)),
        rows_weight paid n (λ i. among i L),
        sum_mono n {f = λ i. if_set (among i L) (paid i)} {g = λ i. if_set (among i L) (v i) + if_set (live i) (paid i - v i)}
            (λ i. spared (among i L) (live i) (paid i) (v i) (λ e. is i (among-within A L i q.within e))),
        sum-add n (λ i. if_set (among i L) (v i)) (λ i. if_set (live i) (paid i - v i)),
        each_once v n L,
      );
    }
      where
        -- what a row that is taken pays: its number, and what it pays above that
        spared : (p l : Bool) (y z : ℕ) → (p ≡ true → l ≡ true) → if_set p y ≤ if_set p z + if_set l (y - z)
        spared true l y z h = omega (arith, if_set_true (y - z) (h refl))
        spared false l y z h = omega arith

  -- ---- inequalities of other rivals

  -- fewer rows, more columns, a smaller limit, more rows that a rival has, a smaller number
  pub valid_narrower : {A A' U U' R R' : ℕ → Type 0} {limit limit' : ℕ} {a : ℕ → ℕ} {b b' : ℕ} → ((i : ℕ) → A' i → A i) → ((c : ℕ) → U c → U' c) → limit' ≤ limit
      → ((r : ℕ) → R r → R' r) → b' ≤ b → Valid cov w A U limit R a b → Valid cov w A' U' limit' R' a b'
  valid_narrower f g h e s x = record { bound = λ L q. omega (arith, x.bound L (rival_narrower f g h e q)) }

  -- p for each of the rows that every cover needs
  pub valid_times : {A U R : ℕ → Type 0} {limit need : ℕ} (p : ℕ) → Needs cov w A U limit need → Valid cov w A U limit R (λ i. p) (p * need)
  valid_times p x = valid_multiplied {a = λ i. 1} p (λ i l. omega arith) (valid_narrower (λ i y. y) (λ c u. u) (omega arith) (λ r y. absurd y) (omega arith) x)

  -- ---- how many rows every cover needs

  pub needs_nothing : {A U : ℕ → Type 0} {limit : ℕ} → Needs cov w A U limit 0
  needs_nothing = valid_nothing

  pub needs_fewer : {A A' U : ℕ → Type 0} {limit limit' need : ℕ} → ((i : ℕ) → A' i → A i) → limit' ≤ limit → Needs cov w A U limit need
      → Needs cov w A' U limit' need
  needs_fewer f h x = valid_narrower f (λ c u. u) h (λ r y. y) (omega arith) x

  -- columns that are covered wherever the others are
  pub needs_covers : {A U U' : ℕ → Type 0} {limit need : ℕ} → ((L : List ℕ) → Within A L → Covers cov U' L → Covers cov U L) → Needs cov w A U limit need
      → Needs cov w A U' limit need
  needs_covers f x = record {
    bound = λ L q. x.bound L (record { within = q.within; covers = f L q.within q.covers; light = q.light; has = q.has });
  }

  -- after the row r is taken
  pub needs_taken : {A A' U U' : ℕ → Type 0} {limit need : ℕ} (r : ℕ) → ((i : ℕ) → A' i → A i) → A r → ((c : ℕ) → U c → cov r c ⊎ U' c)
      → Needs cov w A U limit need → Needs cov w A' U' (limit - w r) (need - 1)
  needs_taken r f is left x = record {
    bound = λ L q. omega (
      arith,
      x.bound (r ∷ L) (record {
        within = (is, within_mono f L q.within);
        covers = λ c u. ⊎_elim inl (λ y. inr (q.covers c y)) (left c u);
        light = omega arith;
        has = λ i y. absurd y;
      }),
    );
  }

  -- ---- what an inequality of the weights bounds

  pub low_of : {A U : ℕ → Type 0} {limit b : ℕ} → Valid cov w A U limit NoRow w b → (k : ℕ) → k ≤ b → k ≤ limit → AtLeast cov w A U k
  low_of {A} {U} x k h l = record { bound = λ L m s. omega (arith, no L m s) }
    where
      no : (L : List ℕ) → Within A L → Covers cov U L → weight w L < k → ⊥
      no L m s y = omega (arith, x.bound L (record { within = m; covers = s; light = omega arith; has = λ r z. absurd z }))

  pub with_of : {A U : ℕ → Type 0} {r limit b : ℕ} → Valid cov w A U limit (OnlyRow r) w b → limit ≤ b → AtLeastWith cov w A U r limit
  with_of {A} {U} {r} {limit} x h = record { bound = λ L m s t. omega (arith, no L m s t) }
    where
      no : (L : List ℕ) → Within A L → Covers cov U L → Has r L → weight w L < limit → ⊥
      no L m s t y = omega (arith, x.bound L (record { within = m; covers = s; light = y; has = λ i e. subst (λ (j : ℕ). Has j L) (sym e) t }))

  module _ {A A' U : ℕ → Type 0} {limit : ℕ} (either : (i : ℕ) → A i → A' i ⊎ AtLeastWith cov w A U i limit) where
    -- a selection of A is one of A', or it has a row that no cover below the limit has
    costly : (L : List ℕ) → Within A L → Within A' L ⊎ ((r : ℕ) × Has r L × AtLeastWith cov w A U r limit)
    costly [] l = inl tt
    costly (x ∷ L) l = go (either x l.0) (costly L l.1)
      where
        go : A' x ⊎ AtLeastWith cov w A U x limit → Within A' L ⊎ ((r : ℕ) × Has r L × AtLeastWith cov w A U r limit)
            → Within A' (x ∷ L) ⊎ ((r : ℕ) × Has r (x ∷ L) × AtLeastWith cov w A U r limit)
        go (inr b) m = inr (x, inl refl, b)
        go (inl a) (inl m) = inl (a, m)
        go (inl a) (inr m) = inr (m.0, inr m.1, m.2)

    -- Rows that no cover below the limit has are forgotten.
    pub forgotten : (k : ℕ) → k ≤ limit → AtLeast cov w A' U k → AtLeast cov w A U k
    forgotten k h b = record { bound = λ L l s. ⊎_elim (λ m. b.bound L m s) (λ m. omega (arith, m.2.bound L l s m.1)) (costly L l) }
