-- A number put into an ascending list: where it belongs, how the numbers behind it are moved one place on, and that the numbers below a bound that pass, with
-- one more, are their list with that number put in. Assumes nothing.
use mathlib.Core.Path.{◌≡◌, refl, sym, ap, ap₂, ◌∙◌}
use mathlib.Core.Logic.{⊎_elim}
use mathlib.Core.Bool.{Bool, true, false, cond, ◌||◌}
use mathlib.Core.List.{List, [], ◌∷◌, ◌++◌, append-nil, append_assoc}
use Prim.Native.Nat.{ℕ, zero, suc, ◌+◌, ◌-◌, ◌<◌, ◌≤◌}
use native.Mathlib.Nat.{not-suc-le-zero, le_of_suc-le-suc, eq-or-lt_of_le}
use native.Mathlib.Omega.{arith}
use lib.Dec.{eqb, ltb, eqb_refl}
use lib.ListN.{length, length-append, length-drop, set, take, drop, get_or}
use lib.Seq.{length-take-le, take-take}
use borrow.Author.Tests.{lt-ltb, le-ltb, eq-eqb, ne_eqb}
use Rattle.numbers.specs.Below.{those}
use Rattle.numbers.specs.Lent.{Puts}
use Rattle.numbers.proofs.Bools.{is_true}
use Rattle.numbers.proofs.Below.{those_same, those_at}
use Rattle.numbers.proofs.Lent.{sets_front}
use Rattle.std.proofs.Common.{Ok, Err}
use Rattle.std.proofs.lemmas.List.Sorted.{searched}
use Rattle.std.proofs.lemmas.List.{set-append_left, take_more_set, drop-take}
use Rattle.std.proofs.Math.Seq.{take-set-lt}
use Rattle.std.specs.List.{copy_within}
use Rattle.std.specs.List.Sorted.{IsBinarySearchResult}
use Rattle.std.specs.Ordering.{nat_cmp}
use Rattle.neighbours.specs.Steps.{inserted, inserted_at}

-- ---- where a number belongs

-- against the first number of a list
module _ (q x : ℕ) (xs : List ℕ) where
  abbrev chosen : Bool → Bool → List ℕ
  chosen below equal = cond below (x ∷ inserted q xs) (cond equal (x ∷ xs) (q ∷ x ∷ xs))

  inserted_above : x < q → inserted q (x ∷ xs) ≡ x ∷ inserted q xs
  unfolding inserted
  inserted_above l = ap (λ (b : Bool). chosen b (eqb x q)) (lt-ltb x q l)

  inserted_equal : x ≡ q → inserted q (x ∷ xs) ≡ x ∷ xs
  unfolding inserted
  inserted_equal e = ap₂ chosen (le-ltb x q (omega arith)) (eq-eqb x q e)

  inserted_below : q < x → inserted q (x ∷ xs) ≡ q ∷ x ∷ xs
  unfolding inserted
  inserted_below l = ap₂ chosen (le-ltb x q (omega arith)) (ne_eqb x q (λ e. omega arith))

-- the numbers before a place are below q, and the one that is there is q itself, or above it, or there is none
module _ (q : ℕ) where
  inserted_there : (xs : List ℕ) (at : ℕ) → at < length xs → ((j : ℕ) → j < at → get_or xs j 0 < q) → get_or xs at 0 ≡ q → inserted q xs ≡ xs
  inserted_there [] at l f e = absurd (not-suc-le-zero l)
  inserted_there (x ∷ xs) zero l f e = inserted_equal q x xs e
  inserted_there (x ∷ xs) (suc at) l f e =
      inserted_above q x xs (f 0 (omega arith)) ∙ ap (λ (r : List ℕ). x ∷ r) (inserted_there xs at (le_of_suc-le-suc l) (λ j h. f (suc j) (omega arith)) e)

  inserted-before : (xs : List ℕ) (at : ℕ) → at ≤ length xs → ((j : ℕ) → j < at → get_or xs j 0 < q) → (at < length xs → q < get_or xs at 0)
      → inserted q xs ≡ inserted_at at q xs
  unfolding inserted
  inserted-before [] zero l f g = refl
  inserted-before [] (suc at) l f g = absurd (not-suc-le-zero l)
  inserted-before (x ∷ xs) zero l f g = inserted_below q x xs (g (omega arith))
  inserted-before (x ∷ xs) (suc at) l f g =
      inserted_above q x xs (f 0 (omega arith))
      ∙ ap (λ (r : List ℕ). x ∷ r) (inserted-before xs at (le_of_suc-le-suc l) (λ j h. f (suc j) (omega arith)) (λ h. g (omega arith)))

-- one number more
pub at_length : (q at : ℕ) (xs : List ℕ) → at ≤ length xs → length (inserted_at at q xs) ≡ length xs + 1
at_length q at xs h = omega (arith, length-append (take at xs) (q ∷ drop at xs), length-take-le at xs h, length-drop at xs)

-- a list whose numbers from place `at` on are copied one place on, and then q at that place
module _ (q at count : ℕ) (old : List ℕ) (a : at ≤ count) (b : count < length old) where
  abbrev moved : List ℕ
  moved = take (count - at) (drop at old)

  abbrev rest : List ℕ
  rest = drop (at + 1 + (count - at)) old

  stored : set (take (at + 1) old) at q ≡ take at old ++ (q ∷ [])
  stored = sym (take-set-lt (at + 1) old at q (omega arith)) ∙ take_more_set old at q (omega arith)

  placed : set (copy_within old at count (at + 1)) at q ≡ ((take at old ++ (q ∷ [])) ++ moved) ++ rest
  placed =
      let l : at < length (take (at + 1) old) = omega (arith, length-take-le (at + 1) old (omega arith)) in
      let m : at < length (take (at + 1) old ++ moved) = omega (arith, length-append (take (at + 1) old) moved) in
      set-append_left (take (at + 1) old ++ moved) rest at q m
      ∙ ap (λ (r : List ℕ). r ++ rest) (set-append_left (take (at + 1) old) moved at q l ∙ ap (λ (r : List ℕ). r ++ moved) stored)

  listed : inserted_at at q (take count old) ≡ (take at old ++ (q ∷ [])) ++ moved
  listed =
      let e : at + (count - at) ≡ count = omega arith in
      ap₂ (λ (x y : List ℕ). x ++ (q ∷ y)) (take-take at count old a) (sym (ap (λ (k : ℕ). drop at (take k old)) e) ∙ drop-take at (count - at) old)
      ∙ sym (append_assoc (take at old) (q ∷ []) moved)

  pub put_in : Puts (inserted_at at q (take count old)) old 0 (set (copy_within old at count (at + 1)) at q) (count + 1)
  put_in =
      let long : length (take count old) ≡ count = length-take-le count old (omega arith) in
      let more : length (inserted_at at q (take count old)) ≡ count + 1 = omega (arith, at_length q at (take count old) (omega arith), long) in
      let past : at + 1 + (count - at) ≡ length (inserted_at at q (take count old)) = omega arith in
      record {
        behind = omega arith;
        places =
            placed ∙ ap₂ (λ (x : List ℕ) (k : ℕ). x ++ drop k old) (sym listed) past
            ∙ sym (sets_front (inserted_at at q (take count old)) old (omega arith));
      }

-- where a search finds it
module _ (q : ℕ) (xs : List ℕ) (up : (i j : ℕ) → i < j → j < length xs → get_or xs i 0 < get_or xs j 0) where
  rises : (i j : ℕ) → i ≤ j → j < length xs → get_or xs i 0 ≤ get_or xs j 0
  rises i j a l = ⊎_elim (λ e. omega (arith, ap (λ (k : ℕ). get_or xs k 0) e)) (λ h. omega (arith, up i j h l)) (eq-or-lt_of_le a)

  pub found_there : (at : ℕ) → IsBinarySearchResult (λ y. nat_cmp y q) xs (Ok at) → inserted q xs ≡ xs
  found_there at h =
      let s = searched xs q (Ok at) h rises in
      inserted_there q xs at s.0 (λ j l. omega (arith, up j at l s.0, s.1)) s.1

  pub found_before : (at : ℕ) → IsBinarySearchResult (λ y. nat_cmp y q) xs (Err at) → (at ≤ length xs) × (inserted q xs ≡ inserted_at at q xs)
  found_before at h =
      let s = searched xs q (Err at) h rises in
      (s.0, inserted-before q xs at s.0 s.1 (λ l. s.2 at (omega arith) l))

-- ---- one number more that passes

-- no number is lost
pub inserted_longer : (q : ℕ) (xs : List ℕ) → length xs ≤ length (inserted q xs)
unfolding inserted
inserted_longer q [] = omega arith
inserted_longer q (x ∷ xs) = go (ltb x q) (eqb x q) (inserted_longer q xs)
  where
    go : (b e : Bool) → length xs ≤ length (inserted q xs) → suc (length xs) ≤ length (chosen q x xs b e)
    go true e ih = omega arith
    go false true ih = omega arith
    go false false ih = omega arith

-- in front of a larger number
before_larger : (q m : ℕ) → q < m → (xs : List ℕ) → inserted q (xs ++ (m ∷ [])) ≡ inserted q xs ++ (m ∷ [])
unfolding inserted
before_larger q m l [] = inserted_below q m [] l
before_larger q m l (x ∷ xs) = go (ltb x q) (eqb x q) (before_larger q m l xs)
  where
    go : (b e : Bool) → inserted q (xs ++ (m ∷ [])) ≡ inserted q xs ++ (m ∷ []) → chosen q x (xs ++ (m ∷ [])) b e ≡ chosen q x xs b e ++ (m ∷ [])
    go true e ih = ap (λ (r : List ℕ). x ∷ r) ih
    go false true ih = refl
    go false false ih = refl

-- behind smaller ones
behind-smaller : (q : ℕ) (xs ys : List ℕ) → ((j : ℕ) → j < length xs → get_or xs j 0 < q) → inserted q (xs ++ ys) ≡ xs ++ inserted q ys
behind-smaller q [] ys f = refl
behind-smaller q (x ∷ xs) ys f =
    inserted_above q x (xs ++ ys) (f 0 (omega arith)) ∙ ap (λ (r : List ℕ). x ∷ r) (behind-smaller q xs ys (λ j h. f (suc j) (omega arith)))

module _ (f : ℕ → Bool) (q : ℕ) where
  -- f, and q
  abbrev also : ℕ → Bool
  also x = eqb x q || f x

  same_below : (m : ℕ) → m ≤ q → those m also ≡ those m f
  same_below m l = those_same m also f (λ x h. ap (λ (b : Bool). b || f x) (ne_eqb x q (λ e. omega arith)))

  last_one : (b : Bool) → inserted q (cond b (q ∷ []) []) ≡ q ∷ []
  unfolding inserted
  last_one true = inserted_equal q q [] refl
  last_one false = refl

  here : inserted q (those (suc q) f) ≡ those (suc q) also
  unfolding those
  here =
      behind-smaller q (those q f) (cond (f q) (q ∷ []) []) (λ j l. (those_at f q j l).0)
      ∙ ap₂ ◌++◌ (sym (same_below q (omega arith))) (last_one (f q))
      ∙ ap (λ (b : Bool). those q also ++ cond b (q ∷ []) []) (sym (ap (λ (b : Bool). b || f q) (is_true (eqb q q) (eqb_refl q))))

  later : (m : ℕ) → q < m → inserted q (those m f) ≡ those m also → inserted q (those (suc m) f) ≡ those (suc m) also
  unfolding those
  later m l ih =
      go (f m) ∙ ap (λ (r : List ℕ). r ++ cond (f m) (m ∷ []) []) ih
      ∙ ap (λ (b : Bool). those m also ++ cond b (m ∷ []) []) (sym (ap (λ (b : Bool). b || f m) (ne_eqb m q (λ e. omega arith))))
    where
      go : (b : Bool) → inserted q (those m f ++ cond b (m ∷ []) []) ≡ inserted q (those m f) ++ cond b (m ∷ []) []
      go true = before_larger q m l (those m f)
      go false = ap (inserted q) (append-nil (those m f)) ∙ sym (append-nil (inserted q (those m f)))

  pub those-inserted : (m : ℕ) → q < m → inserted q (those m f) ≡ those m (λ x. eqb x q || f x)
  those-inserted zero l = absurd (not-suc-le-zero l)
  those-inserted (suc m) l =
      ⊎_elim (λ e. ap (λ (i : ℕ). inserted q (those (suc i) f)) (sym e) ∙ here ∙ ap (λ (i : ℕ). those (suc i) also) e) (λ h. later m h (those-inserted m h))
      (eq-or-lt_of_le (le_of_suc-le-suc l))
