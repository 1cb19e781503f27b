-- The cubes that are found at the codes, one code after the other: with a code more the list is the same, or has the vicinity of that code put in; and all
-- codes give the essential primes. Assumes nothing.
use mathlib.Core.Path.{◌≡◌, refl, sym, ap, ap₂, ◌∙◌, subst⁻¹}
use mathlib.Core.Bool.{Bool, true, false, cond, not, ◌&&◌, ◌||◌}
use mathlib.Core.List.{List, []}
use Prim.Native.Nat.{ℕ, ◌+◌, ◌^◌, ◌<◌, ◌≤◌}
use native.Mathlib.Nat.{le_trans}
use native.Mathlib.Numerals.{add-one}
use native.Mathlib.Omega.{arith}
use lib.Dec.{T, eqb, eqb→eq}
use lib.ListN.{length, take, get_or}
use lib.Seq.{length-take-le}
use mir.Facts.{yes_eqb}
use Rattle.std.proofs.Common.{Ok, Err}
use Rattle.std.specs.List.Sorted.{IsBinarySearchResult}
use Rattle.std.specs.Ordering.{nat_cmp}
use Rattle.numbers.specs.Below.{some, those}
use Rattle.numbers.specs.Lent.{Puts}
use Rattle.cube.specs.Words.{on_set, off_set, cube_matches, implicant, essential, essentials_of}
use Rattle.numbers.proofs.Bools.{and_l, and_r, and_i, same}
use Rattle.numbers.proofs.Below.{every_fails, some_at, some_by, some_same, those_same, those_none, those-length, those_ascend}
use Rattle.numbers.proofs.Lent.{puts_same, puts_long, puts_over, puts_there, front_count, front_lent}
use Rattle.cube.proofs.Rows.{agrees_is_cube}
use Rattle.neighbours.specs.Vicinity.{kept_bits, vicinity}
use Rattle.neighbours.specs.Steps.{barred_match, found_at, found_below, inserted, inserted_at, FoundSoFar}
use Rattle.neighbours.proofs.Vicinity.{vicinity_digits}
use Rattle.neighbours.proofs.Theorems.{essentials_from_neighbours}
use Rattle.neighbours.proofs.Reading.{kept_lt}
use Rattle.neighbours.proofs.Inserting.{found_there, found_before, inserted_longer, those-inserted, at_length}

-- a barred code agrees in the kept bits exactly when the cube is no implicant
implicant_by_bits : (n : ℕ) (t : List ℕ) (c : ℕ) → implicant n t (vicinity n t c) ≡ not (some (2 ^ n) (barred_match t c (kept_bits n t c)))
unfolding implicant vicinity
implicant_by_bits n t c =
    every_fails (2 ^ n) (cube_matches n (vicinity n t c)) (off_set t)
    ∙ ap not (some_same (2 ^ n) (λ x. off_set t x && cube_matches n (vicinity n t c) x) (barred_match t c (kept_bits n t c))
    (λ x l. ap (λ (b : Bool). off_set t x && b) (agrees_is_cube n c (kept_bits n t c) x (kept_lt n t c))))

module _ (n : ℕ) (t : List ℕ) where
  -- ---- one code more

  pub found_none : found_below n t 0 ≡ []
  unfolding found_below some
  found_none = those_none (3 ^ n) (λ q. some 0 (λ c. found_at n t c q)) (λ q l h. h)

  pub found_most : (m : ℕ) → length (found_below n t m) ≤ 3 ^ n
  unfolding found_below
  found_most m = those-length (λ q. some m (λ c. found_at n t c q)) (3 ^ n)

  module _ (c : ℕ) where
    -- the list with the vicinity of c put in has no more than all cubes
    pub inserted_most : length (inserted (vicinity n t c) (found_below n t c)) ≤ 3 ^ n
    unfolding found_below
    inserted_most =
        let f : ℕ → Bool = λ q. some c (λ i. found_at n t i q) in
        subst⁻¹ (λ (l : List ℕ). length l ≤ 3 ^ n) (those-inserted f (vicinity n t c) (3 ^ n) (vicinity_digits n t c).below)
        (those-length (λ q. eqb q (vicinity n t c) || f q) (3 ^ n))

    pub found_more : found_below n t (c + 1) ≡ cond (on_set t c && implicant n t (vicinity n t c)) (inserted (vicinity n t c) (found_below n t c)) (found_below n t c)
    unfolding found_below some
    found_more = ap (found_below n t) (add-one c) ∙ go (on_set t c && implicant n t (vicinity n t c))
      where
        before : ℕ → Bool
        before q = some c (λ i. found_at n t i q)

        go : (b : Bool) → those (3 ^ n) (λ q. (b && eqb q (vicinity n t c)) || before q) ≡ cond b (inserted (vicinity n t c) (found_below n t c)) (found_below n t c)
        go true = sym (those-inserted before (vicinity n t c) (3 ^ n) (vicinity_digits n t c).below)
        go false = refl

    pub found_same : on_set t c ≡ false → found_below n t (c + 1) ≡ found_below n t c
    found_same e =
        found_more ∙ ap (λ (b : Bool). cond (b && implicant n t (vicinity n t c)) (inserted (vicinity n t c) (found_below n t c)) (found_below n t c)) e

    pub found_grows : length (found_below n t c) ≤ length (found_below n t (c + 1))
    found_grows = subst⁻¹ (λ (xs : List ℕ). length (found_below n t c) ≤ length xs) found_more (go (on_set t c && implicant n t (vicinity n t c)))
      where
        go : (b : Bool) → length (found_below n t c) ≤ length (cond b (inserted (vicinity n t c) (found_below n t c)) (found_below n t c))
        go true = inserted_longer (vicinity n t c) (found_below n t c)
        go false = omega arith

  -- ---- all codes

  found_to : (q : ℕ) → q < 3 ^ n → T (some (2 ^ n) (λ c. found_at n t c q)) → T (essential n t q)
  found_to q l h =
      let s = some_at (2 ^ n) (λ c. found_at n t c q) h in
      let c = s.0 in
      let both = and_l (on_set t c && implicant n t (vicinity n t c)) (eqb q (vicinity n t c)) s.2 in
      let e : q ≡ vicinity n t c = eqb→eq q (vicinity n t c) (and_r (on_set t c && implicant n t (vicinity n t c)) (eqb q (vicinity n t c)) s.2) in
      ((essentials_from_neighbours n t).essentials q l).1 (
        subst⁻¹ (λ (p : ℕ). T (implicant n t p)) e (and_r (on_set t c) (implicant n t (vicinity n t c)) both),
        record { code = c; below = s.1; wanted = and_l (on_set t c) (implicant n t (vicinity n t c)) both; cube = sym e },
      )

  found_from : (q : ℕ) → q < 3 ^ n → T (essential n t q) → T (some (2 ^ n) (λ c. found_at n t c q))
  found_from q l h =
      let r = ((essentials_from_neighbours n t).essentials q l).0 h in
      let f = r.1 in
      let c = f.code in
      some_by (2 ^ n) (λ c. found_at n t c q) c f.below
      (and_i (on_set t c && implicant n t (vicinity n t c)) (eqb q (vicinity n t c))
      (and_i (on_set t c) (implicant n t (vicinity n t c)) f.wanted (subst⁻¹ (λ (p : ℕ). T (implicant n t p)) f.cube r.0))
      (yes_eqb (sym f.cube)))

  pub found_all : found_below n t (2 ^ n) ≡ essentials_of n t
  unfolding found_below essentials_of
  found_all =
      those_same (3 ^ n) (λ q. some (2 ^ n) (λ c. found_at n t c q)) (essential n t)
      (λ q l. same (some (2 ^ n) (λ c. found_at n t c q)) (essential n t q) (found_to q l) (found_from q l))

-- ---- the places, with one code more

module _ (n : ℕ) (t out : List ℕ) (c count : ℕ) (cells : length t ≡ 2 ^ n) (l : FoundSoFar n t out c count) where
  pub listed_inside : count ≤ length out
  listed_inside = omega (arith, l.counts, l.room, found_most n t c)

  rises : (i j : ℕ) → i < j → j < length (take count out) → get_or (take count out) i 0 < get_or (take count out) j 0
  unfolding found_below
  rises =
      subst⁻¹ (λ (xs : List ℕ). (i j : ℕ) → i < j → j < length xs → get_or xs i 0 < get_or xs j 0) l.listed
      (those_ascend (λ q. some c (λ i. found_at n t i q)) (3 ^ n))

  stays : found_below n t (c + 1) ≡ found_below n t c → Puts (found_below n t (c + 1)) out 0 out count
  stays e = puts_there listed_inside (l.listed ∙ sym e)

  module _ (w : on_set t c ≡ true) (q : ℕ) (is : q ≡ vicinity n t c) where
    -- by whether the vicinity is an implicant
    wanted_more : found_below n t (c + 1) ≡ cond (implicant n t (vicinity n t c)) (inserted q (take count out)) (take count out)
    wanted_more =
        found_more n t c
        ∙ ap (λ (b : Bool). cond (b && implicant n t (vicinity n t c)) (inserted (vicinity n t c) (found_below n t c)) (found_below n t c)) w
        ∙ sym (ap₂ (λ (p : ℕ) (xs : List ℕ). cond (implicant n t (vicinity n t c)) (inserted p xs) xs) is l.listed)

    pub listed_already : (at : ℕ) → IsBinarySearchResult (λ y. nat_cmp y q) (take count out) (Ok at) → Puts (found_below n t (c + 1)) out 0 out count
    listed_already at h = stays (wanted_more ∙ either (implicant n t (vicinity n t c)) ∙ l.listed)
      where
        either : (b : Bool) → cond b (inserted q (take count out)) (take count out) ≡ take count out
        either true = found_there q (take count out) rises at h
        either false = refl

    module _ (at : ℕ) (h : IsBinarySearchResult (λ y. nat_cmp y q) (take count out) (Err at)) where
      p : (at ≤ length (take count out)) × (inserted q (take count out) ≡ inserted_at at q (take count out))
      p = found_before q (take count out) rises at h

      pub before_inside : at ≤ count
      before_inside = omega (arith, length-take-le count out listed_inside, p.0)

      pub room_for_one : count < length out
      room_for_one =
          let e : inserted (vicinity n t c) (found_below n t c) ≡ inserted_at at q (take count out) = ap₂ inserted (sym is) (sym l.listed) ∙ p.1 in
          omega (arith, ap length e, inserted_most n t c, at_length q at (take count out) p.0, length-take-le count out listed_inside, l.room)

      is_implicant : (bits : ℕ) → bits ≡ kept_bits n t c → implicant n t (vicinity n t c) ≡ not (some (length t) (barred_match t c bits))
      is_implicant bits k = implicant_by_bits n t c ∙ sym (ap₂ (λ (m x : ℕ). not (some m (barred_match t c x))) cells k)

      -- it is no implicant, or it is and is put in
      pub barred_matched : (bits : ℕ) → bits ≡ kept_bits n t c → some (length t) (barred_match t c bits) ≡ true → Puts (found_below n t (c + 1)) out 0 out count
      barred_matched bits k b =
          stays (wanted_more ∙ ap (λ (b : Bool). cond b (inserted q (take count out)) (take count out)) (is_implicant bits k ∙ ap not b) ∙ l.listed)

      pub listed_before : (bits r : ℕ) (new : List ℕ) → bits ≡ kept_bits n t c → some (length t) (barred_match t c bits) ≡ false
          → Puts (inserted_at at q (take count out)) out 0 new r → Puts (found_below n t (c + 1)) out 0 new r
      listed_before bits r new k b g =
          puts_same (sym (wanted_more ∙ ap (λ (b : Bool). cond b (inserted q (take count out)) (take count out)) (is_implicant bits k ∙ ap not b) ∙ p.1)) g

-- ---- the codes before c, and code c

module _ (n : ℕ) (t old : List ℕ) (room : 3 ^ n ≤ length old) (c count : ℕ) (out : List ℕ) (p : Puts (found_below n t c) old 0 out count) where
  pub so_far : FoundSoFar n t out c count
  so_far = record {
    room = omega (arith, puts_long p);
    counts = front_count p;
    listed = front_lent p (le_trans (found_most n t c) room);
  }

  pub with_wanted : {new : List ℕ} {r : ℕ} → Puts (found_below n t (c + 1)) out 0 new r → Puts (found_below n t (c + 1)) old 0 new r
  with_wanted q = puts_over (found_grows n t c) (le_trans (found_most n t (c + 1)) room) p q

  pub without_it : on_set t c ≡ false → Puts (found_below n t (c + 1)) old 0 out count
  without_it e = puts_same (sym (found_same n t c e)) p
