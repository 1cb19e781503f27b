-- The laws of the numbers below a bound: every, some, those, the lowest of those and run, each by induction on the bound. Of those that pass: how many
-- there are and how many pass another test, that their list holds each of them once, and what is at its places, ascending. Assumes nothing.
use mathlib.Core.Path.{◌≡◌, refl, sym, ap, ap₂, ◌∙◌, subst, subst⁻¹}
use mathlib.Core.Logic.{◌⊎◌, inl, inr, ⊎_elim}
use mathlib.Core.Bool.{Bool, true, false, cond, not, ◌&&◌, ◌||◌}
use mathlib.Core.List.{List, [], ◌∷◌, ◌++◌, append-nil, append_assoc}
use Prim.Native.Nat.{ℕ, zero, suc, ◌+◌, ◌<◌, ◌≤◌}
use native.Mathlib.Nat.{not-suc-le-zero, le_of_suc-le-suc, eq-or-lt_of_le, lt-suc_self, add-zero, zero-add, add-suc, suc-add}
use native.Mathlib.Omega.{arith}
use lib.Dec.{T, eqb, eqb→eq, eqb_refl, lit<, T_not, not_T}
use lib.ListN.{length, length-append, get_or, get_or-append}
use lib.Seq.{get_or-append_seam}
use Rattle.std.specs.Bool.{passes}
use Rattle.std.specs.List.{list_any}
use Rattle.std.proofs.lemmas.Bool.{cases_lt}
use Rattle.numbers.specs.Below.{flag, every, some, those, count, EachOnce, tabulate}
use Rattle.numbers.proofs.Bools.{and_l, and_r, and_i, or_e, or_l, or_r, or_exchange, same, is_true, is_false}

-- ---- every and some

pub flag_lt : (b : Bool) → flag b < 2
flag_lt true = lit< tt
flag_lt false = lit< tt

pub every_at : (m : ℕ) (f : ℕ → Bool) → T (every m f) → (k : ℕ) → k < m → T (f k)
unfolding every
every_at zero f h k l = absurd (not-suc-le-zero l)
every_at (suc m) f h k l =
    ⊎_elim (λ e. subst⁻¹ (λ (i : ℕ). T (f i)) e (and_l (f m) (every m f) h))
    (λ l'. every_at m f (and_r (f m) (every m f) h) k l') (eq-or-lt_of_le (le_of_suc-le-suc l))

pub every_by : (m : ℕ) (f : ℕ → Bool) → ((k : ℕ) → k < m → T (f k)) → T (every m f)
unfolding every
every_by zero f h = tt
every_by (suc m) f h = and_i (f m) (every m f) (h m (lt-suc_self m)) (every_by m f (λ k l. h k (omega arith)))

pub some_at : (m : ℕ) (f : ℕ → Bool) → T (some m f) → (k : ℕ) × (k < m) × T (f k)
unfolding some
some_at zero f h = absurd h
some_at (suc m) f h =
    ⊎_elim (λ x. (m, lt-suc_self m, x)) (λ x. let r = some_at m f x in (r.0, omega arith, r.2)) (or_e (f m) (some m f) h)

pub some_by : (m : ℕ) (f : ℕ → Bool) (k : ℕ) → k < m → T (f k) → T (some m f)
unfolding some
some_by zero f k l h = absurd (not-suc-le-zero l)
some_by (suc m) f k l h =
    ⊎_elim (λ e. or_l (f m) (some m f) (subst (λ (i : ℕ). T (f i)) e h)) (λ l'. or_r (f m) (some m f) (some_by m f k l' h))
    (eq-or-lt_of_le (le_of_suc-le-suc l))

pub none_at : (m : ℕ) (f : ℕ → Bool) → T (not (some m f)) → (k : ℕ) → k < m → T (f k) → ⊥
none_at m f h k l x = T_not (some m f) h (some_by m f k l x)

pub none_by : (m : ℕ) (f : ℕ → Bool) → ((k : ℕ) → k < m → T (f k) → ⊥) → T (not (some m f))
none_by m f h = not_T (some m f) (λ s. let r = some_at m f s in h r.0 r.1 r.2)

-- as a loop finds it: one that passes, or none below the bound
pub some_found : (m : ℕ) (f : ℕ → Bool) (k : ℕ) → k < m → f k ≡ true → some m f ≡ true
some_found m f k l e = is_true (some m f) (some_by m f k l (passes (f k) e))

pub some_none : (m : ℕ) (f : ℕ → Bool) → ((k : ℕ) → k < m → f k ≡ false) → some m f ≡ false
some_none m f h = is_false (some m f) (λ s. let r = some_at m f s in subst T (h r.0 r.1) r.2)

pub some_same : (m : ℕ) (f g : ℕ → Bool) → ((k : ℕ) → k < m → f k ≡ g k) → some m f ≡ some m g
unfolding some
some_same zero f g e = refl
some_same (suc m) f g e = ap₂ ◌||◌ (e m (lt-suc_self m)) (some_same m f g (λ k l. e k (omega arith)))

-- the number 0 first, and the others shifted by one
-- none passes both tests exactly where each fails one of them
pub every_fails : (m : ℕ) (f g : ℕ → Bool) → every m (λ c. not (f c) || not (g c)) ≡ not (some m (λ c. g c && f c))
unfolding every some
every_fails zero f g = refl
every_fails (suc m) f g = ap (λ (b : Bool). (not (f m) || not (g m)) && b) (every_fails m f g) ∙ go (f m) (g m) (some m (λ c. g c && f c))
  where
    go : (a b x : Bool) → ((not a || not b) && not x) ≡ not ((b && a) || x)
    go true true x = refl
    go true false x = refl
    go false true x = refl
    go false false x = refl

pub some_front : (m : ℕ) (f : ℕ → Bool) → some (suc m) f ≡ (f 0 || some m (λ k. f (suc k)))
unfolding some
some_front zero f = refl
some_front (suc m) f = ap (λ (b : Bool). f (suc m) || b) (some_front m f) ∙ or_exchange (f (suc m)) (f 0) (some m (λ k. f (suc k)))

-- what `any` answers over a list of m items, where item i passes f as number i passes g
pub any_is_some : {A : Type 0} (f : A → Bool) (g : ℕ → Bool) (d : A) (xs : List A) {m : ℕ} → length xs ≡ m → ((i : ℕ) → i < m → f (get_or xs i d) ≡ g i)
    → list_any f xs ≡ some m g
unfolding some
any_is_some f g d [] e h = ap (λ (k : ℕ). some k g) e
any_is_some f g d (x ∷ xs) e h =
    ap₂ ◌||◌ (h 0 (omega arith)) (any_is_some f (λ i. g (suc i)) d xs refl (λ i l. h (suc i) (omega arith))) ∙ sym (some_front (length xs) g)
    ∙ ap (λ (k : ℕ). some k g) e

-- ---- those that pass

pub those_same : (m : ℕ) (f g : ℕ → Bool) → ((c : ℕ) → c < m → f c ≡ g c) → those m f ≡ those m g
unfolding those
those_same zero f g e = refl
those_same (suc m) f g e =
    ap₂ (λ (l : List ℕ) (b : Bool). l ++ cond b (m ∷ []) []) (those_same m f g (λ c l. e c (omega arith))) (e m (lt-suc_self m))

pub those_none : (m : ℕ) (f : ℕ → Bool) → ((c : ℕ) → c < m → T (f c) → ⊥) → those m f ≡ []
unfolding those
those_none zero f e = refl
those_none (suc m) f e =
    ap₂ (λ (l : List ℕ) (b : Bool). l ++ cond b (m ∷ []) []) (those_none m f (λ c l. e c (omega arith))) (is_false (f m) (e m (lt-suc_self m)))

-- v alone passes
pub those_one : (m : ℕ) (f : ℕ → Bool) (v : ℕ) → v < m → T (f v) → ((c : ℕ) → c < m → T (f c) → c ≡ v) → those m f ≡ v ∷ []
unfolding those
those_one zero f v l h e = absurd (not-suc-le-zero l)
those_one (suc m) f v l h e =
    ⊎_elim here (λ x. there x (those_one m f v x h (λ c k. e c (omega arith)))) (eq-or-lt_of_le (le_of_suc-le-suc l))
  where
    joined : {l l' : List ℕ} {b b' : Bool} → l ≡ l' → b ≡ b' → l ++ cond b (m ∷ []) [] ≡ l' ++ cond b' (m ∷ []) []
    joined p q = ap₂ (λ (l : List ℕ) (b : Bool). l ++ cond b (m ∷ []) []) p q

    here : v ≡ m → those m f ++ cond (f m) (m ∷ []) [] ≡ v ∷ []
    here x =
        joined (those_none m f (λ c k y. let z : c ≡ v = e c (omega arith) y in omega arith)) (is_true (f m) (subst (λ (i : ℕ). T (f i)) x h))
        ∙ ap (λ (i : ℕ). i ∷ []) (sym x)

    there : v < m → those m f ≡ v ∷ [] → those m f ++ cond (f m) (m ∷ []) [] ≡ v ∷ []
    there x ih = joined ih (is_false (f m) (λ y. let z : m ≡ v = e m (lt-suc_self m) y in omega arith))

-- k is the lowest number below m that passes
pub record Lowest (m : ℕ) (f : ℕ → Bool) (k : ℕ) : Type 0 where
  pub below : k < m
  pub passes : T (f k)
  pub none_lower : (j : ℕ) → j < k → T (f j) → ⊥

-- the first of those that pass is the lowest
pub those_lowest : (m : ℕ) (f : ℕ → Bool) (k : ℕ) → Lowest m f k → (rest : List ℕ) × (those m f ≡ k ∷ rest)
unfolding those
those_lowest zero f k h = absurd (not-suc-le-zero h.below)
those_lowest (suc m) f k h =
    ⊎_elim here (λ l. there (those_lowest m f k (record { below = l; passes = h.passes; none_lower = h.none_lower })))
    (eq-or-lt_of_le (le_of_suc-le-suc h.below))
  where
    last : List ℕ
    last = cond (f m) (m ∷ []) []

    here : k ≡ m → (rest : List ℕ) × (those m f ++ last ≡ k ∷ rest)
    here e = (
      [],
      ap₂ (λ (l : List ℕ) (b : Bool). l ++ cond b (m ∷ []) []) (those_none m f (λ j l. h.none_lower j (omega arith)))
          (is_true (f m) (subst (λ (i : ℕ). T (f i)) e h.passes))
          ∙ ap (λ (i : ℕ). i ∷ []) (sym e),
    )

    there : (rest : List ℕ) × (those m f ≡ k ∷ rest) → (rest : List ℕ) × (those m f ++ last ≡ k ∷ rest)
    there r = (r.0 ++ last, ap (λ (l : List ℕ). l ++ last) r.1)

pub lowest_or_none : (m : ℕ) (f : ℕ → Bool) → ((k : ℕ) × Lowest m f k) ⊎ ((k : ℕ) → k < m → T (f k) → ⊥)
lowest_or_none zero f = inr (λ k l x. not-suc-le-zero l)
lowest_or_none (suc m) f = ⊎_elim found (λ none. go none (f m) refl) (lowest_or_none m f)
  where
    found : (k : ℕ) × Lowest m f k → ((k : ℕ) × Lowest (suc m) f k) ⊎ ((k : ℕ) → k < suc m → T (f k) → ⊥)
    found r = let l : r.0 < m = r.1.below in inl (r.0, record { below = omega arith; passes = r.1.passes; none_lower = r.1.none_lower })

    go : ((k : ℕ) → k < m → T (f k) → ⊥) → (b : Bool) → f m ≡ b
        → ((k : ℕ) × Lowest (suc m) f k) ⊎ ((k : ℕ) → k < suc m → T (f k) → ⊥)
    go none true e = inl (m, record { below = lt-suc_self m; passes = passes (f m) e; none_lower = none })
    go none false e =
        inr (λ k l x. ⊎_elim (λ i. subst T (ap f i ∙ e) x) (λ i. none k i x) (eq-or-lt_of_le (le_of_suc-le-suc l)))

-- f is g below s and h from s on
module _ (f g h : ℕ → Bool) (s : ℕ) where
  pub record Parts (m : ℕ) : Type 0 where
    pub either : (c : ℕ) → c < m → T (f c) → T (g c) ⊎ T (h c)
    pub first : (c : ℕ) → c < m → T (g c) → T (f c) × (c < s)
    pub second : (c : ℕ) → c < m → T (h c) → T (f c) × (s ≤ c)

  fewer : (m : ℕ) → Parts (suc m) → Parts m
  fewer m p = record {
    either = λ c l. p.either c (omega arith);
    first = λ c l. p.first c (omega arith);
    second = λ c l. p.second c (omega arith);
  }

  split_step : (m : ℕ) → Parts (suc m) → those m f ≡ those m g ++ those m h → those (suc m) f ≡ those (suc m) g ++ those (suc m) h
  unfolding those
  split_step m p ih = ⊎_elim high low (cases_lt m s)
    where
      low : s ≤ m → those m f ++ cond (f m) (m ∷ []) [] ≡ (those m g ++ cond (g m) (m ∷ []) []) ++ (those m h ++ cond (h m) (m ∷ []) [])
      low x =
          let no : T (g m) → ⊥ = λ y. let z : m < s = (p.first m (lt-suc_self m) y).1 in omega arith in
          let e : f m ≡ h m = same (f m) (h m) (λ y. ⊎_elim (λ w. absurd (no w)) (λ w. w) (p.either m (lt-suc_self m) y)) (λ y. (p.second m (lt-suc_self m) y).0) in
          let d : g m ≡ false = is_false (g m) no in
          rw (ih, e, d, append-nil) (append_assoc (those m g) (those m h) (cond (h m) (m ∷ []) []))

      high : m < s → those (suc m) f ≡ those (suc m) g ++ those (suc m) h
      high x =
          let no : (c : ℕ) → c < suc m → T (h c) → ⊥ = λ c l y. let z : s ≤ c = (p.second c l y).1 in omega arith in
          those_same (suc m) f g (λ c l. same (f c) (g c) (λ y. ⊎_elim (λ w. w) (λ w. absurd (no c l w)) (p.either c l y)) (λ y. (p.first c l y).0))
          ∙ sym (append-nil (those (suc m) g)) ∙ ap (λ (l : List ℕ). those (suc m) g ++ l) (sym (those_none (suc m) h no))

  pub those_split : (m : ℕ) → Parts m → those m f ≡ those m g ++ those m h
  unfolding those
  those_split zero p = refl
  those_split (suc m) p = split_step m p (those_split m (fewer m p))

-- ---- how many pass

module _ (f : ℕ → Bool) where
  pub count_suc : (m : ℕ) → length (those (suc m) f) ≡ length (those m f) + flag (f m)
  unfolding those
  count_suc m = length-append (those m f) (cond (f m) (m ∷ []) []) ∙ ap (λ (i : ℕ). length (those m f) + i) (one (f m))
    where
      one : (b : Bool) → length (cond b (m ∷ []) []) ≡ flag b
      one true = refl
      one false = refl

  pub count_none : length (those zero f) ≡ 0
  unfolding those
  count_none = refl

  pub those-length : (m : ℕ) → length (those m f) ≤ m
  those-length zero = omega (arith, count_none)
  those-length (suc m) = omega (arith, count_suc m, those-length m, flag_lt (f m))

  pub count_more : (a m : ℕ) → a ≤ m → length (those a f) ≤ length (those m f)
  count_more a zero l = let e : a ≡ 0 = omega arith in subst⁻¹ (λ (i : ℕ). length (those i f) ≤ length (those zero f)) e (omega arith)
  count_more a (suc m) l =
      ⊎_elim (λ e. subst⁻¹ (λ (i : ℕ). length (those i f) ≤ length (those (suc m) f)) e (omega arith))
      (λ k. omega (arith, count_suc m, count_more a m (le_of_suc-le-suc k))) (eq-or-lt_of_le l)

  -- before one that passes there are fewer
  pub count_found : (i m : ℕ) → i < m → f i ≡ true → length (those i f) < length (those m f)
  count_found i m l e = omega (arith, count_suc i, ap flag e, count_more (suc i) m l)

  -- where only one passes, two that pass are the same
  one_passes : (m i j : ℕ) → length (those m f) ≡ 1 → i < m → j < m → T (f i) → T (f j) → i ≡ j
  one_passes m i j e l k x y =
      ⊎_elim (λ a. absurd (two_pass i j a k x y)) (λ a. ⊎_elim (λ b. sym b) (λ b. absurd (two_pass j i b l y x)) (eq-or-lt_of_le a))
      (cases_lt i j)
    where
      passes : (i : ℕ) → T (f i) → flag (f i) ≡ 1
      passes i x = ap flag (is_true (f i) x)

      two_pass : (i j : ℕ) → i < j → j < m → T (f i) → T (f j) → ⊥
      two_pass i j a k x y =
          omega (arith, count_suc i, passes i x, count_more (suc i) j a, count_suc j, passes j y, count_more (suc j) m k)

-- ---- how many of a list pass

count-append : (g : ℕ → Bool) (xs ys : List ℕ) → count g (xs ++ ys) ≡ count g xs + count g ys
unfolding count
count-append g [] ys = sym (zero-add (count g ys))
count-append g (x ∷ xs) ys = omega (arith, count-append g xs ys)

module _ (f g : ℕ → Bool) where
  -- of those that pass one test, as many pass another as pass both
  pub count-those : (m : ℕ) → count g (those m f) ≡ length (those m (λ i. f i && g i))
  unfolding count those
  count-those zero = refl
  count-those (suc m) = omega (arith, count-append g (those m f) (cond (f m) (m ∷ []) []), count-those m, count_suc (λ i. f i && g i) m, last (f m))
    where
      last : (b : Bool) → count g (cond b (m ∷ []) []) ≡ flag (b && g m)
      last true = omega arith
      last false = refl

  -- only one passes both where v alone does, and where only one does, two that do are the same
  pub count_one : (m v : ℕ) → v < m → T (f v) → T (g v) → ((i : ℕ) → i < m → T (f i) → T (g i) → i ≡ v) → count g (those m f) ≡ 1
  count_one m v l x y e =
      count-those m
      ∙ ap length (those_one m (λ i. f i && g i) v l (and_i (f v) (g v) x y) (λ i k h. e i k (and_l (f i) (g i) h) (and_r (f i) (g i) h)))

  pub count-alone : (m i j : ℕ) → count g (those m f) ≡ 1 → i < m → j < m → T (f i) → T (g i) → T (f j) → T (g j) → i ≡ j
  count-alone m i j e l k x x' y y' =
      one_passes (λ i. f i && g i) m i j (sym (count-those m) ∙ e) l k (and_i (f i) (g i) x x') (and_i (f j) (g j) y y')

-- where those below m that pass are the numbers of which P is true, their list holds each of these once
pub those_each_once : (m : ℕ) (f : ℕ → Bool) (P : ℕ → Type 0) → ((q : ℕ) → q < m → T (f q) → P q) → ((q : ℕ) → P q → (q < m) × T (f q))
    → EachOnce (those m f) P
those_each_once m f P to from = record {
  each = λ q p. count_one f (eqb q) m q (from q p).0 (from q p).1 (eqb_refl q) (λ i l x y. sym (eqb→eq q i y));
  no_other = λ q not-p. count-those f (eqb q) m ∙ ap length (those_none m (λ i. f i && eqb q i) (absent q not-p));
}
  where
    absent : (q : ℕ) → (P q → ⊥) → (i : ℕ) → i < m → T (f i && eqb q i) → ⊥
    absent q not-p i l h = not-p (subst⁻¹ P (eqb→eq q i (and_r (f i) (eqb q i) h)) (to i l (and_l (f i) (eqb q i) h)))

-- ---- the places of those that pass

-- the list holds numbers below m that pass, ascending
record Passing (f : ℕ → Bool) (m : ℕ) (xs : List ℕ) : Type 0 where
  at : (i : ℕ) → i < length xs → (get_or xs i 0 < m) × T (f (get_or xs i 0))
  ascends : (i j : ℕ) → i < j → j < length xs → get_or xs i 0 < get_or xs j 0

passing_more : (f : ℕ → Bool) (m : ℕ) (xs : List ℕ) → Passing f m xs → (b : Bool) → f m ≡ b → Passing f (suc m) (xs ++ cond b (m ∷ []) [])
passing_more f m xs p false e = subst⁻¹ (Passing f (suc m)) (append-nil xs) (record { at = λ i l. let h = p.at i l in (omega (arith, h.0), h.1); ascends = p.ascends })
passing_more f m xs p true e = record { at = at; ascends = ascends }
  where
    place : (i : ℕ) → i < length (xs ++ (m ∷ [])) → (i < length xs) ⊎ (i ≡ length xs)
    place i l = ⊎_elim (λ k. inl k) (λ k. let h : length (xs ++ (m ∷ [])) ≡ length xs + 1 = length-append xs (m ∷ []) in inr (omega arith)) (cases_lt i (length xs))

    last : (i : ℕ) → i ≡ length xs → get_or (xs ++ (m ∷ [])) i 0 ≡ m
    last i k = ap (λ (j : ℕ). get_or (xs ++ (m ∷ [])) j 0) k ∙ get_or-append_seam xs m [] 0

    at : (i : ℕ) → i < length (xs ++ (m ∷ [])) → (get_or (xs ++ (m ∷ [])) i 0 < suc m) × T (f (get_or (xs ++ (m ∷ [])) i 0))
    at i l =
        ⊎_elim (λ k. subst⁻¹ (λ (x : ℕ). (x < suc m) × T (f x)) (get_or-append xs (m ∷ []) 0 i k) (let h = p.at i k in (omega (arith, h.0), h.1)))
        (λ k. subst⁻¹ (λ (x : ℕ). (x < suc m) × T (f x)) (last i k) (lt-suc_self m, passes (f m) e)) (place i l)

    ascends : (i j : ℕ) → i < j → j < length (xs ++ (m ∷ [])) → get_or (xs ++ (m ∷ [])) i 0 < get_or (xs ++ (m ∷ [])) j 0
    ascends i j l k =
        ⊎_elim (λ h. omega (arith, get_or-append xs (m ∷ []) 0 i (omega arith), get_or-append xs (m ∷ []) 0 j h, p.ascends i j l h))
        (λ h. omega (arith, get_or-append xs (m ∷ []) 0 i (omega arith), last j h, (p.at i (omega arith)).0)) (place j k)

passing : (f : ℕ → Bool) (m : ℕ) → Passing f m (those m f)
unfolding those
passing f zero = record { at = λ i l. absurd (not-suc-le-zero l); ascends = λ i j a l. absurd (not-suc-le-zero l) }
passing f (suc m) = passing_more f m (those m f) (passing f m) (f m) refl

module _ (f : ℕ → Bool) where
  -- what is at a place passes
  pub those_at : (m i : ℕ) → i < length (those m f) → (get_or (those m f) i 0 < m) × T (f (get_or (those m f) i 0))
  those_at m = (passing f m).at

  pub those_ascend : (m i j : ℕ) → i < j → j < length (those m f) → get_or (those m f) i 0 < get_or (those m f) j 0
  those_ascend m = (passing f m).ascends

  -- one that passes is at some place
  pub those_place : (m q : ℕ) → q < m → T (f q) → (i : ℕ) × (i < length (those m f)) × (get_or (those m f) i 0 ≡ q)
  unfolding those
  those_place zero q l h = absurd (not-suc-le-zero l)
  those_place (suc m) q l h = ⊎_elim here (λ k. before (those_place m q k h)) (eq-or-lt_of_le (le_of_suc-le-suc l))
    where
      here : q ≡ m → (i : ℕ) × (i < length (those m f ++ cond (f m) (m ∷ []) [])) × (get_or (those m f ++ cond (f m) (m ∷ []) []) i 0 ≡ q)
      here e =
          subst⁻¹ (λ (b : Bool). (i : ℕ) × (i < length (those m f ++ cond b (m ∷ []) [])) × (get_or (those m f ++ cond b (m ∷ []) []) i 0 ≡ q))
          (is_true (f m) (subst (λ (x : ℕ). T (f x)) e h))
          (length (those m f), omega (arith, length-append (those m f) (m ∷ [])), get_or-append_seam (those m f) m [] 0 ∙ sym e)

      before : (i : ℕ) × (i < length (those m f)) × (get_or (those m f) i 0 ≡ q)
          → (i : ℕ) × (i < length (those m f ++ cond (f m) (m ∷ []) [])) × (get_or (those m f ++ cond (f m) (m ∷ []) []) i 0 ≡ q)
      before r = (
        r.0,
        omega (arith, r.1, length-append (those m f) (cond (f m) (m ∷ []) [])),
        get_or-append (those m f) (cond (f m) (m ∷ []) []) 0 r.0 r.1 ∙ r.2,
      )

-- ---- a function's values

tabulate_from : (f : ℕ → ℕ) (m i k : ℕ) → k < m → get_or (tabulate m i f) k 0 ≡ f (i + k)
unfolding tabulate
tabulate_from f zero i k h = absurd (not-suc-le-zero h)
tabulate_from f (suc m) i zero h = ap f (sym (add-zero i))
tabulate_from f (suc m) i (suc k) h = tabulate_from f m (suc i) k (le_of_suc-le-suc h) ∙ ap f (suc-add i k ∙ sym (add-suc i k))

-- A constant table that is the run of a definition: the checker computes the run and compares it with the table once, and this is the rule at each entry.
pub tabulate_at : (f : ℕ → ℕ) (m k : ℕ) → k < m → get_or (tabulate m 0 f) k 0 ≡ f k
tabulate_at f m k h = tabulate_from f m 0 k h ∙ ap f (zero-add k)

pub tabulate-length : (f : ℕ → ℕ) (m i : ℕ) → length (tabulate m i f) ≡ m
unfolding tabulate
tabulate-length f zero i = refl
tabulate-length f (suc m) i = ap suc (tabulate-length f m (suc i))

-- one more value
pub tabulate_more : (f : ℕ → ℕ) (m i : ℕ) → tabulate (suc m) i f ≡ tabulate m i f ++ (f (i + m) ∷ [])
unfolding tabulate
tabulate_more f zero i = ap (λ (k : ℕ). f k ∷ []) (sym (add-zero i))
tabulate_more f (suc m) i =
    ap (λ (l : List ℕ). f i ∷ l) (tabulate_more f m (suc i) ∙ ap (λ (k : ℕ). tabulate m (suc i) f ++ (f k ∷ [])) (suc-add i m ∙ sym (add-suc i m)))
