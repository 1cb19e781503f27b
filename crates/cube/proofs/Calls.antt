-- What the calls share: the first condition that holds, and conditions after others; a width, a table and a list that are not refused; what an answer
-- tells; and the two ways in which a call that writes a list ends. Assumes nothing.
use mathlib.Core.Path.{◌≡◌, refl, sym, ap, ap₂, ◌∙◌}
use mathlib.Core.Bool.{Bool, true, false, cond, not, ◌&&◌, ◌||◌}
use mathlib.Core.List.{List, [], ◌∷◌, ◌++◌}
use Prim.Native.Nat.{ℕ, zero, suc, ◌-◌, ◌^◌, ◌<◌, ◌≤◌}
use native.Mathlib.Nat.{pow-le-pow_right}
use native.Mathlib.Omega.{arith}
use lib.Dec.{T, eqb, lit<, T_not}
use lib.ListN.{length, take, drop}
use lib.Pow.{pow_mono}
use mir.Facts.{yes_eqb}
use Rattle.std.specs.Prelude.{Result, Ok, Err}
use Rattle.std.proofs.lemmas.Bool.Decides.{nat_tests}
use borrow.Author.Tests.{le-ltb, eq-eqb}
use Rattle.cube.specs.Words.{rows_of, essential, essentials_of, serving_prime, serving_primes_of}
use Rattle.cube.specs.Calls.{widest, bad_width, bad_length, bad_cell, short, unequal_lengths, most_rows, bad_row, Condition, when, first_of, table_conditions, list_conditions, Answer, refuses, gives, answered, written, refusal_number, answer_of, Listed}
use Rattle.cube.specs.declared.Refusal.{Refusal}
use Rattle.numbers.specs.Lent.{Puts}
use Rattle.numbers.proofs.Bools.{and_l, and_r}
use Rattle.numbers.proofs.Below.{those-length}
use Rattle.numbers.proofs.Fronts.{front_is, front_behind}
use Rattle.numbers.proofs.Lent.{front_count, front_places}

-- ---- a good width

pub width_to : (n : ℕ) → bad_width n ≡ false → n ≤ widest
width_to n e = grind (arith, nat_tests)

pub codes_most : (n : ℕ) → n ≤ widest → 2 ^ n ≤ 2 ^ widest
codes_most n l = pow_mono l

pub code_pairs_most : (n : ℕ) → n ≤ widest → 2 ^ (n - 1) ≤ 2 ^ (widest - 1)
code_pairs_most n l = let m : n - 1 ≤ widest - 1 = omega arith in pow_mono m

pub cubes_most : (n : ℕ) → n ≤ widest → 3 ^ n ≤ 3 ^ widest
cubes_most n l = pow-le-pow_right {n = 3} (lit< tt) l

-- the primes that are listed and the essentials are at most all cubes
pub primes_most : (n : ℕ) (t : List ℕ) → length (serving_primes_of n t) ≤ 3 ^ n
unfolding serving_primes_of
primes_most n t = those-length (serving_prime n t) (3 ^ n)

pub essentials_most : (n : ℕ) (t : List ℕ) → length (essentials_of n t) ≤ 3 ^ n
unfolding essentials_of
essentials_most n t = those-length (essential n t) (3 ^ n)

-- ---- the first condition that holds

pub first_holds : (b : Bool) (k : ℕ) (rest : List Condition) → b ≡ true → first_of (when b k ∷ rest) ≡ k
first_holds b k rest e = ap (λ (x : Bool). cond x k (first_of rest)) e

pub first_passes : (b : Bool) (k : ℕ) (rest : List Condition) → b ≡ false → first_of (when b k ∷ rest) ≡ first_of rest
first_passes b k rest e = ap (λ (x : Bool). cond x k (first_of rest)) e

-- where none holds, the first does not, and none of the rest, which would be refused with this number
pub none_first : (b : Bool) (k rest : ℕ) → cond b (suc k) rest ≡ 0 → (b ≡ false) × (rest ≡ 0)
none_first true k rest e = absurd (omega arith)
none_first false k rest e = (refl, e)

-- every call refuses a bad width first
pub width_first : (n rest : ℕ) → cond (bad_width n) 1 rest ≡ 0 → n ≤ widest
width_first n rest e = width_to n (none_first (bad_width n) 0 rest e).0

-- every condition has a number
abbrev pub numbered : List Condition → Bool
numbered [] = true
numbered (x ∷ xs) = not (eqb x.number 0) && numbered xs

-- conditions after others: those in front refuse first, and where none of them holds it is up to those after them
pub conditions_refuse : (xs ys : List Condition) (k : ℕ) → first_of xs ≡ suc k → first_of (xs ++ ys) ≡ suc k
conditions_refuse [] ys k e = absurd (omega arith)
conditions_refuse (x ∷ xs) ys k e = go x.holds e (conditions_refuse xs ys k)
  where
    go : (b : Bool) → cond b x.number (first_of xs) ≡ suc k → (first_of xs ≡ suc k → first_of (xs ++ ys) ≡ suc k)
        → cond b x.number (first_of (xs ++ ys)) ≡ suc k
    go true h rest = h
    go false h rest = rest h

pub conditions_pass : (xs ys : List Condition) → T (numbered xs) → first_of xs ≡ 0 → first_of (xs ++ ys) ≡ first_of ys
conditions_pass [] ys n e = refl
conditions_pass (x ∷ xs) ys n e =
    go x.holds e (conditions_pass xs ys (and_r (not (eqb x.number 0)) (numbered xs) n))
  where
    go : (b : Bool) → cond b x.number (first_of xs) ≡ 0 → (first_of xs ≡ 0 → first_of (xs ++ ys) ≡ first_of ys)
        → cond b x.number (first_of (xs ++ ys)) ≡ first_of ys
    go true h rest = absurd (T_not (eqb x.number 0) (and_l (not (eqb x.number 0)) (numbered xs) n) (yes_eqb h))
    go false h rest = rest h

pub none_in_front : (xs ys : List Condition) → first_of (xs ++ ys) ≡ 0 → first_of xs ≡ 0
none_in_front xs ys e = go (first_of xs) refl
  where
    go : (k : ℕ) → first_of xs ≡ k → first_of xs ≡ 0
    go zero a = a
    go (suc k) a = absurd (let z : suc k ≡ 0 = sym (conditions_refuse xs ys k a) ∙ e in omega arith)

-- ---- the numbers of refusals

-- they are from 1 on
pub refusal_from : (e : Refusal) → 0 < refusal_number e
refusal_from e = grind arith

-- and each is the number of one refusal
pub same_refusal : (d e : Refusal) → refusal_number d ≡ refusal_number e → d ≡ e
same_refusal d e h = grind arith

-- what tells of refusals, for `grind`: their numbers are from 1 on, and what the tests of conditions say
pub ruleset refusals = (nat_tests, refusal_from)

-- as code tells it: what those in front refuse with, if it is not 0, is what all refuse with
pub front_refuses : (xs ys : List Condition) (k : ℕ) → k ≡ first_of xs → (k ≡ 0 → ⊥) → k ≡ first_of (xs ++ ys)
front_refuses xs ys zero e h = absurd (h refl)
front_refuses xs ys (suc k) e h = sym (conditions_refuse xs ys k (sym e))

-- one more condition after others, with the number suc m
module _ (xs : List Condition) (n : T (numbered xs)) (b : Bool) (m : ℕ) where
  abbrev and_last : ℕ
  and_last = first_of (xs ++ (when b (suc m) ∷ []))

  pub last_before : (k : ℕ) → k ≡ first_of xs → (k ≡ 0 → ⊥) → k ≡ and_last
  last_before = front_refuses xs (when b (suc m) ∷ [])

  pub last_holds : first_of xs ≡ 0 → b ≡ true → suc m ≡ and_last
  last_holds e h = sym (conditions_pass xs (when b (suc m) ∷ []) n e ∙ first_holds b (suc m) [] h)

  pub last_passes : first_of xs ≡ 0 → b ≡ false → 0 ≡ and_last
  last_passes e h = sym (conditions_pass xs (when b (suc m) ∷ []) n e ∙ first_passes b (suc m) [] h)

  -- where it is not refused
  pub last_none : and_last ≡ 0 → (first_of xs ≡ 0) × (b ≡ false)
  last_none e =
      let front = none_in_front xs (when b (suc m) ∷ []) e in (front, (none_first b m 0 (sym (conditions_pass xs (when b (suc m) ∷ []) n front) ∙ e)).0)

-- two lent arrays, neither of which is too short
pub neither_short : (a b needed : ℕ) → needed ≤ a → needed ≤ b → (short a needed || short b needed) ≡ false
neither_short a b needed l m = ap₂ ◌||◌ (le-ltb a needed l) (le-ltb b needed m)

-- ---- a table that is not refused

pub record Accepted (n : ℕ) (t : List ℕ) : Type 0 where
  pub from : 1 ≤ n
  pub to : n ≤ widest
  pub cells : length t ≡ 2 ^ n

module _ (n : ℕ) (t : List ℕ) where
  pub accepted : first_of (table_conditions n t) ≡ 0 → Accepted n t
  accepted e = record { from = grind (arith, refusals); to = grind (arith, refusals); cells = grind (arith, refusals) }

  -- a table of 2^n cells is refused for a cell alone
  pub cells_left : bad_width n ≡ false → length t ≡ 2 ^ n → first_of (table_conditions n t) ≡ first_of (when (bad_cell t) 3 ∷ [])
  cells_left w e =
      first_passes (bad_width n) 1 (when (bad_length n t) 2 ∷ when (bad_cell t) 3 ∷ []) w
      ∙ first_passes (bad_length n t) 2 (when (bad_cell t) 3 ∷ []) (ap not (eq-eqb (length t) (2 ^ n) e))

-- ---- a list that is not refused

pub equal_lengths : (vs ws : List ℕ) → unequal_lengths vs ws ≡ false → length vs ≡ length ws
equal_lengths vs ws e = grind (arith, refusals)

pub record AcceptedList (n : ℕ) (vs ws : List ℕ) : Type 0 where
  pub equal : length vs ≡ length ws
  pub few : length (rows_of vs ws) ≤ most_rows
  pub formed : bad_row n (rows_of vs ws) ≡ false

pub accepted_list : (n : ℕ) (vs ws : List ℕ) → first_of (list_conditions n vs ws) ≡ 0 → AcceptedList n vs ws
accepted_list n vs ws e = record { equal = grind (arith, refusals); few = grind (arith, refusals); formed = grind (arith, refusals) }

-- ---- answers

pub refuses_gives : {A : Type 0} (k : ℕ) (a : A) → refuses k ≡ gives a → ⊥
refuses_gives k a e = cc

pub same_number : {A : Type 0} (j k : ℕ) → ◌≡◌ {A = Answer A} (refuses j) (refuses k) → j ≡ k
same_number j k e = cc

pub same_value : {A : Type 0} (a b : A) → gives a ≡ gives b → a ≡ b
same_value a b e = cc

-- an answer by the refusal's number: values where it is 0, otherwise that number alone
pub answered_gives : {A : Type 0} (k : ℕ) (a b : A) → gives a ≡ answered k b → (k ≡ 0) × (a ≡ b)
answered_gives zero a b e = (refl, cc)
answered_gives (suc k) a b e = absurd cc

pub answered_refuses : {A : Type 0} (j k : ℕ) (b : A) → refuses j ≡ answered k b → (k ≡ j) × (k ≡ 0 → ⊥)
answered_refuses j zero b e = absurd cc
answered_refuses j (suc k) b e = (cc, λ z. omega arith)

-- a call that gives a value, and one that refuses
pub gives_answered : {A : Type 0} {k : ℕ} (a : A) → 0 ≡ k → answer_of (Ok a) ≡ answered k a
gives_answered a e = ap (λ (i : ℕ). answered i a) e

pub refuses_answered : {A : Type 0} {k : ℕ} (e : Refusal) (a : A) → refusal_number e ≡ k → answer_of {A = A} (Err e) ≡ answered k a
refuses_answered e a h = go (refusal_number e) (refusal_from e) ∙ ap (λ (i : ℕ). answered i a) h
  where
    go : (k : ℕ) → 0 < k → refuses k ≡ answered k a
    go zero l = absurd (omega arith)
    go (suc k) l = refl

-- ---- a call that writes a list

-- two calls that keep one promise leave and answer the same
same_answer : (r s : Result ℕ Refusal) → answer_of r ≡ answer_of s → r ≡ s
same_answer (Ok j) (Ok k) h = cc
same_answer (Err d) (Err e) h = ap Err (same_refusal d e (same_number (refusal_number d) (refusal_number e) h))
same_answer (Ok j) (Err e) h = cc
same_answer (Err e) (Ok k) h = cc

pub listed_alike : {A : Type 0} {refusal : ℕ} {list old new other : List A} (r s : Result ℕ Refusal) → Listed refusal list old new r → Listed refusal list old other s
    → (new ≡ other) × (r ≡ s)
listed_alike r s p q = (p.places ∙ sym q.places, same_answer r s (p.answer ∙ sym q.answer))

-- where it answers a refusal, its number is what it refuses with
pub listed_number : {A : Type 0} {refusal : ℕ} {list old new : List A} (e : Refusal) → Listed refusal list old new (Err e) → refusal ≡ refusal_number e
listed_number {refusal = refusal} {list = list} e p = (answered_refuses (refusal_number e) refusal (length list) p.answer).0

-- where it answers a count, nothing refuses, and the list is in the first places, as many as the count
module _ {A : Type 0} {refusal : ℕ} {list old new : List A} {k : ℕ} (p : Listed refusal list old new (Ok k)) where
  pub none_refuses : refusal ≡ 0
  none_refuses = (answered_gives refusal k (length list) p.answer).0

  stands : new ≡ list ++ drop (length list) old
  stands = p.places ∙ ap (λ (i : ℕ). written i list old) none_refuses

  pub listed_count : k ≡ length list
  listed_count = (answered_gives refusal k (length list) p.answer).1

  pub listed_front : take k new ≡ list
  listed_front = front_is list old listed_count stands

  pub listed_behind : drop k new ≡ drop k old
  listed_behind = front_behind list old listed_count stands

-- where nothing refuses, it answers a count
pub listed_counts : {A : Type 0} {refusal : ℕ} {list old new : List A} (r : Result ℕ Refusal) → refusal ≡ 0 → Listed refusal list old new r → (k : ℕ) × (r ≡ Ok k)
listed_counts (Ok k) e p = (k, refl)
listed_counts {refusal = refusal} {list} (Err d) e p = absurd ((answered_refuses (refusal_number d) refusal (length list) p.answer).1 e)

-- it refuses, and leaves the places as they were
pub listed_refused : {A : Type 0} {refusal : ℕ} {list old : List A} (e : Refusal) → refusal_number e ≡ refusal → Listed refusal list old old (Err e)
listed_refused {list = list} {old = old} e h = record {
  answer = refuses_answered e (length list) h;
  places = go (refusal_number e) (refusal_from e) ∙ ap (λ (i : ℕ). written i list old) h;
}
  where
    go : (k : ℕ) → 0 < k → old ≡ written k list old
    go zero l = absurd (omega arith)
    go (suc k) l = refl

-- it writes the list from the first place
pub listed_done : {refusal : ℕ} {list old new : List ℕ} {count : ℕ} → 0 ≡ refusal → Puts list old 0 new count → length list ≤ length old
    → Listed refusal list old new (Ok count)
listed_done {list = list} {old = old} e p l = record {
  answer = ap gives (front_count p) ∙ gives_answered (length list) e;
  places = front_places p l ∙ ap (λ (i : ℕ). written i list old) e;
}
