-- Writing into a lent list from the front: runs of stores that join, a part of the list that is lent on for a copy, a list over one that is not longer, and
-- a pass that stores a value for each number that passes a test. Assumes nothing.
use mathlib.Core.Path.{◌≡◌, refl, sym, ap, ap₂, ◌∙◌, subst, subst₂}
use mathlib.Core.Bool.{Bool, true, false, cond}
use mathlib.Core.List.{List, [], ◌∷◌, ◌++◌, append-nil, append_assoc, map}
use Prim.Native.Nat.{ℕ, suc, ◌+◌, ◌-◌, ◌<◌, ◌≤◌}
use native.Mathlib.Nat.{zero-add, add-zero, add-suc, suc-add}
use native.Mathlib.Numerals.{add-one}
use native.Mathlib.Omega.{arith}
use lib.ListN.{length, length-append, length-map, set, take, drop, drop_of_length-le, take-append-drop, get_or}
use lib.Seq.{sets, length-sets, sets-eq, take-length, length-take-le, drop-append-add, drop-drop, get_or-set_other}
use borrow.Rule.Slice.PartMut.{mid_of, put_mid, mid_len, Post-is}
use borrow.Table.Elements.{map_app}
use Rattle.numbers.specs.Below.{those}
use Rattle.numbers.specs.Lent.{Puts}
use Rattle.numbers.proofs.Below.{those-length}
use Rattle.numbers.proofs.Fronts.{take_more, front_long, front_is}

-- a run of stores and the run right after it
pub sets_append : (l : List ℕ) (i : ℕ) (xs ys : List ℕ) → sets (sets l i xs) (i + length xs) ys ≡ sets l i (xs ++ ys)
sets_append l i [] ys = ap (λ (k : ℕ). sets l k ys) (add-zero i)
sets_append l i (x ∷ xs) ys =
    ap (λ (k : ℕ). sets (sets (set l i x) (suc i) xs) k ys) (add-suc i (length xs) ∙ sym (suc-add i (length xs))) ∙ sets_append (set l i x) (suc i) xs ys

-- a run of stores from the front: the list is there, and after it what was there before
pub sets_front : (xs old : List ℕ) → length xs ≤ length old → sets old 0 xs ≡ xs ++ drop (length xs) old
sets_front xs old h = sets-eq xs old 0 (omega arith) ∙ ap (λ (i : ℕ). xs ++ drop i old) (zero-add (length xs))

-- what comes after a run of stores is as it was
pub sets_behind : (xs l : List ℕ) (i j : ℕ) → i + length xs ≤ j → get_or (sets l i xs) j 0 ≡ get_or l j 0
sets_behind [] l i j h = refl
sets_behind (x ∷ xs) l i j h = sets_behind xs (set l i x) (suc i) j (omega arith) ∙ get_or-set_other l i j x 0 (λ e. omega arith)

-- a list that starts with what is there changes nothing by its front
sets_same : (l : List ℕ) (i : ℕ) → i ≤ length l → sets l 0 (take i l) ≡ l
sets_same l i h =
    let e : length (take i l) ≡ i = length-take-le i l h in
    sets_front (take i l) l (omega arith) ∙ ap (λ (k : ℕ). take i l ++ drop k l) e ∙ take-append-drop i l

-- a copy of a whole source into the front of a list
pub copied : (src old : List ℕ) {new : List ℕ} → new ≡ take (length src) src ++ drop (length src) old → new ≡ src ++ drop (length src) old
copied src old h = h ∙ ap (λ (l : List ℕ). l ++ drop (length src) old) (take-length src)

-- a middle part that was lent and comes back with a copy of a source of its length: a run of stores
pub put_copied : (a e : ℕ) (xs src part : List ℕ) → a + length src ≡ e → e ≤ length xs → part ≡ take (length src) src ++ drop (length src) (mid_of a (e - a) xs)
    → put_mid a (e - a) xs part ≡ sets xs a src
put_copied a e xs src part s h d =
    ap (λ (l : List ℕ). put_mid a (e - a) xs l) whole ∙ ap (λ (l : List ℕ). take a xs ++ (src ++ l)) (Post-is a e xs (omega arith))
    ∙ sym (append_assoc (take a xs) src (drop e xs))
    ∙ sym (sets-eq src xs a (omega arith) ∙ ap (λ (i : ℕ). take a xs ++ src ++ drop i xs) s)
  where
    full : length (mid_of a (e - a) xs) ≤ length src
    full = omega (arith, mid_len a e xs h)

    whole : part ≡ src
    whole = copied src (mid_of a (e - a) xs) d ∙ ap (λ (l : List ℕ). src ++ l) (drop_of_length-le (mid_of a (e - a) xs) full) ∙ append-nil src

-- ---- a list that is put into lent places

pub puts_none : (old : List ℕ) (at : ℕ) → Puts [] old at old at
puts_none old at = record { behind = sym (add-zero at); places = refl }

-- one list right after another
pub puts_append : {xs ys old mid new : List ℕ} {at middle next : ℕ} → Puts xs old at mid middle → Puts ys mid middle new next → Puts (xs ++ ys) old at new next
puts_append {xs} {ys} {old} {at = at} p q = record {
  behind = omega (arith, p.behind, q.behind, length-append xs ys);
  places = q.places ∙ ap₂ (λ (l : List ℕ) (i : ℕ). sets l i ys) p.places p.behind ∙ sets_append old at xs ys;
}

-- one store
pub puts_one : (old : List ℕ) (at x : ℕ) → Puts (x ∷ []) old at (set old at x) (at + 1)
puts_one old at x = record { behind = refl; places = refl }

-- no place is added or lost
pub puts_long : {xs old new : List ℕ} {at next : ℕ} → Puts xs old at new next → length new ≡ length old
puts_long {xs} {old} {at = at} p = ap length p.places ∙ length-sets old at xs

-- the same list by another name
pub puts_same : {xs ys old new : List ℕ} {at next : ℕ} → xs ≡ ys → Puts xs old at new next → Puts ys old at new next
puts_same {old = old} {new} {at} {next} e p = subst (λ (l : List ℕ). Puts l old at new next) e p

-- from the front: how many there are, and what comes after them
pub front_count : {xs old new : List ℕ} {next : ℕ} → Puts xs old 0 new next → next ≡ length xs
front_count {xs} p = p.behind ∙ zero-add (length xs)

pub front_places : {xs old new : List ℕ} {next : ℕ} → Puts xs old 0 new next → length xs ≤ length old → new ≡ xs ++ drop (length xs) old
front_places {xs} {old} p l = p.places ∙ sets_front xs old l

-- and the first places, lent on, are the list
module _ {xs old new : List ℕ} {next : ℕ} (p : Puts xs old 0 new next) (l : length xs ≤ length old) where
  pub front_inside : next ≤ length new
  front_inside = front_long xs old (front_count p) (front_places p l)

  pub front_lent : take next new ≡ xs
  front_lent = front_is xs old (front_count p) (front_places p l)

-- a list that stands in the first places already
pub puts_there : {xs l : List ℕ} {count : ℕ} → count ≤ length l → take count l ≡ xs → Puts xs l 0 l count
puts_there {xs} {l} {count} h e = puts_same e (record { behind = sym (ap (λ (k : ℕ). 0 + k) (length-take-le count l h) ∙ zero-add count); places = sym (sets_same l count h) })

-- a list from a place on, with what stands before that place
pub puts_with_front : {ys old new : List ℕ} {at next : ℕ} → at ≤ length old → Puts ys old at new next → Puts (take at old ++ ys) old 0 new next
puts_with_front {ys} {old} {new} {at} h p = puts_append (puts_there h refl) p

-- a list over one that is not longer
pub puts_over : {xs ys old mid new : List ℕ} {count next : ℕ} → length xs ≤ length ys → length ys ≤ length old → Puts xs old 0 mid count → Puts ys mid 0 new next
    → Puts ys old 0 new next
puts_over {xs} {ys} {old} {mid} h l p q = record {
  behind = q.behind;
  places = front_places q (omega (arith, puts_long p)) ∙ ap (λ (r : List ℕ). ys ++ r) rest ∙ sym (sets_front ys old l);
}
  where
    rest : drop (length ys) mid ≡ drop (length ys) old
    rest =
        let more : ℕ = length ys - length xs in
        let e : length ys ≡ length xs + more = omega arith in
        ap (drop (length ys)) (front_places p (omega arith)) ∙ ap (λ (k : ℕ). drop k (xs ++ drop (length xs) old)) e
        ∙ drop-append-add xs (drop (length xs) old) more ∙ drop-drop more (length xs) old ∙ ap (λ (k : ℕ). drop k old) (sym e)

-- the values of the first elements of a list, with one more element
pub map_more : (f : ℕ → ℕ) (qs old : List ℕ) {new : List ℕ} (i x : ℕ) → i < length qs → Puts (map f (take i qs)) old 0 new i → x ≡ f (get_or qs i 0)
    → Puts (map f (take (i + 1) qs)) old 0 (set new i x) (i + 1)
map_more f qs old {new} i x l p v =
    puts_same
    (ap (λ (y : ℕ). map f (take i qs) ++ y ∷ []) v ∙ sym (map_app f (take i qs) (get_or qs i 0 ∷ [])) ∙ ap (map f) (sym (take_more qs i l)))
    (puts_append p (puts_one new i x))

-- ---- a value for each number that passes, stored one by one

those_more : (m : ℕ) (f : ℕ → Bool) (b : Bool) → f m ≡ b → those (m + 1) f ≡ those m f ++ cond b (m ∷ []) []
unfolding those
those_more m f b e = ap (λ (k : ℕ). those k f) (add-one m) ∙ ap (λ (x : Bool). those m f ++ cond x (m ∷ []) []) e

-- after the numbers below m: the values of those that pass are stored from the front, and there are count of them
pub record Collected (g : ℕ → ℕ) (f : ℕ → Bool) (old new : List ℕ) (m count : ℕ) : Type 0 where
  pub puts : Puts (map g (those m f)) old 0 new count

module _ (g : ℕ → ℕ) (f : ℕ → Bool) (old : List ℕ) where
  pub collect_none : Collected g f old old 0 0
  unfolding those
  collect_none = record { puts = puts_none old 0 }

  module _ (new : List ℕ) (m count : ℕ) (h : Collected g f old new m count) where
    pub collect_counts : count ≡ length (those m f)
    collect_counts = front_count h.puts ∙ length-map (those m f) g

    pub collect_le : count ≤ m
    collect_le = omega (arith, those-length f m, collect_counts)

    -- as the two arms of a pass leave the list and the count
    pub collect_yes : {new' : List ℕ} {count' : ℕ} → f m ≡ true → new' ≡ set new count (g m) → count' ≡ count + 1 → Collected g f old new' (m + 1) count'
    collect_yes e a b =
        let all = ap (map g) (those_more m f true e) ∙ map_app g (those m f) (m ∷ []) in
        subst₂ (λ (l : List ℕ) (k : ℕ). Collected g f old l (m + 1) k) (sym a) (sym b)
        (record { puts = puts_same (sym all) (puts_append h.puts (puts_one new count (g m))) })

    pub collect_no : {new' : List ℕ} {count' : ℕ} → f m ≡ false → new' ≡ new → count' ≡ count → Collected g f old new' (m + 1) count'
    collect_no e a b =
        let same = those_more m f false e ∙ append-nil (those m f) in
        subst₂ (λ (l : List ℕ) (k : ℕ). Collected g f old l (m + 1) k) (sym a) (sym b) (record { puts = puts_same (ap (map g) (sym same)) h.puts })
