-- A loop over an iterator that gives the numbers below a bound of which a test holds, ascending: what an item of the loop and its end tell. `passed` is
-- how far the items have come: each number below it that the test holds of was an item. Assumes nothing.
use mathlib.Core.Path.{◌≡◌, refl, sym, ap, ap₂, subst, ◌∙◌}
use mathlib.Core.Bool.{Bool, true, false, cond, ◌&&◌}
use mathlib.Core.List.{List, [], ◌∷◌, ◌++◌, append-nil}
use Prim.Native.Nat.{ℕ, zero, suc, ◌+◌, ◌≤◌, ◌<◌}
use native.Mathlib.Decide.{dec_lt}
use native.Mathlib.Numerals.{add-one}
use native.Mathlib.Omega.{arith}
use lib.Dec.{T, ltb, leb}
use lib.ListN.{length, length-append}
use borrow.Author.Tests.{lt-ltb, le-ltb, le-leb, lt-leb, ltb-true, leb-true}
use Rattle.std.specs.Prelude.{Option, None, Some, IfSome, slice_get}
use Rattle.std.specs.Iterator.{Yields, MakesProgress}
use Rattle.std.specs.Iterator.Runs.{Run, EachRunFrom}
use Rattle.std.proofs.iter.runs.Made.{took, at-is}
use Rattle.std.proofs.lemmas.Bool.{and_parts, and_from, false_from_ne_true}
use Rattle.numbers.specs.Below.{those}
use Rattle.numbers.specs.Ascending.{TakesLeast, YieldsBelow, left_count, passed, GivesThose, GivesLeast, GivesEach, GivesAll, GivesBelow}
use Rattle.numbers.proofs.Flags.{clash}
use Rattle.numbers.proofs.Below.{those_none, those_same}

-- ---- the measure: fewer numbers are left after an item

-- a list of those that pass is no longer where fewer pass
those_fewer : (m : ℕ) (f g : ℕ → Bool) → ((j : ℕ) → j < m → g j ≡ true → f j ≡ true) → length (those m g) ≤ length (those m f)
unfolding those
those_fewer zero f g h = omega arith
those_fewer (suc m) f g h = go (g m) (f m) refl refl (those_fewer m f g (λ j l. h j (omega arith)))
  where
    go : (b c : Bool) → g m ≡ b → f m ≡ c → length (those m g) ≤ length (those m f) → length (those m g ++ cond b (m ∷ []) []) ≤ length (those m f ++ cond c (m ∷ []) [])
    go true true e i k = omega (arith, length-append (those m g) (m ∷ []), length-append (those m f) (m ∷ []))
    go true false e i k = clash (h m (omega arith) e) i
    go false true e i k = omega (arith, length-append (those m g) [], length-append (those m f) (m ∷ []))
    go false false e i k = omega (arith, length-append (those m g) [], length-append (those m f) [])

-- and shorter where one no longer passes
those_less : (m : ℕ) (f g : ℕ → Bool) (x : ℕ) → x < m → f x ≡ true → g x ≡ false → ((j : ℕ) → g j ≡ true → f j ≡ true) → length (those m g) < length (those m f)
unfolding those
those_less zero f g x l p q h = absurd (omega arith)
those_less (suc m) f g x l p q h = go (dec_lt x m) (λ k. those_less m f g x k p q h)
  where
    at : (b c : Bool) → g m ≡ b → f m ≡ c → length (those m g) < length (those m f) → length (those m g ++ cond b (m ∷ []) []) < length (those m f ++ cond c (m ∷ []) [])
    at true true e i k = omega (arith, length-append (those m g) (m ∷ []), length-append (those m f) (m ∷ []))
    at true false e i k = clash (h m e) i
    at false true e i k = omega (arith, length-append (those m g) [], length-append (those m f) (m ∷ []))
    at false false e i k = omega (arith, length-append (those m g) [], length-append (those m f) [])

    last : (b c : Bool) → b ≡ false → c ≡ true → length (those m g ++ cond b (m ∷ []) []) < length (those m f ++ cond c (m ∷ []) [])
    last true c e i = clash refl e
    last false false e i = clash i refl
    last false true e i = omega (arith, those_fewer m f g (λ j k. h j), length-append (those m g) [], length-append (those m f) (m ∷ []))

    go : Dec (x < m) → (x < m → length (those m g) < length (those m f)) → length (those m g ++ cond (g m) (m ∷ []) []) < length (those m f ++ cond (f m) (m ∷ []) [])
    go (yes k) ih = at (g m) (f m) refl refl (ih k)
    go (no k) ih = let e : x ≡ m = omega arith in last (g m) (f m) (subst (λ (i : ℕ). g i ≡ false) e q) (subst (λ (i : ℕ). f i ≡ true) e p)

module _ {S : Type 0} {end : S → ℕ} {left : S → ℕ → Bool} where
  fewer_left : {s t : S} {x : ℕ} → TakesLeast end left s x t → length (those (end t) (left t)) < length (those (end s) (left s))
  fewer_left {s} {t} {x} h =
      subst (λ (m : ℕ). length (those m (left t)) < length (those (end s) (left s))) (sym h.bound)
      (those_less (end s) (left s) (left t) x h.within h.here
      (h.above x ∙ ap (λ (b : Bool). b && left s x) (le-ltb x x (omega arith))) (λ j k. (and_parts _ _ (sym (h.above j) ∙ k)).1))

  -- what `next` owes of an item, where it may always be called
  pub progress : {can : S → Type 0} {s t : S} {x : ℕ} → ((s : S) → can s) → TakesLeast end left s x t → MakesProgress can (left_count end left) s (Some x) t
  progress {t = t} f h = record { on = λ e. (f t, tt, fewer_left h); keeps = f t; rests = λ e. tt }

-- ---- the list of those that pass, by its least and its last

those_front : (m : ℕ) (f g : ℕ → Bool) (x : ℕ) → x < m → f x ≡ true → ((j : ℕ) → j < x → f j ≡ false) → ((j : ℕ) → g j ≡ (ltb x j && f j)) → those m f ≡ x ∷ those m g
unfolding those
those_front zero f g x l p q h = absurd (omega arith)
those_front (suc m) f g x l p q h = go (dec_lt x m) (λ k. those_front m f g x k p q h)
  where
    none : m ≤ x → (j : ℕ) → j < m → T (g j) → ⊥
    none k j i t = let e : g j ≡ false = h j ∙ ap (λ (b : Bool). b && f j) (le-ltb x j (omega arith)) in subst T e t

    go : Dec (x < m) → (x < m → those m f ≡ x ∷ those m g) → those m f ++ cond (f m) (m ∷ []) [] ≡ x ∷ (those m g ++ cond (g m) (m ∷ []) [])
    go (yes k) ih =
        let e : g m ≡ f m = h m ∙ ap (λ (b : Bool). b && f m) (lt-ltb x m k) in
        ap (λ (ys : List ℕ). ys ++ cond (f m) (m ∷ []) []) (ih k) ∙ ap (λ (b : Bool). x ∷ (those m g ++ cond b (m ∷ []) [])) (sym e)
    go (no k) ih =
        let e : x ≡ m = omega arith in
        let a : f m ≡ true = subst (λ (i : ℕ). f i ≡ true) e p in
        let b : g m ≡ false = h m ∙ ap (λ (b : Bool). b && f m) (le-ltb x m (omega arith)) in
        ap₂ (λ (ys : List ℕ) (b : Bool). ys ++ cond b (m ∷ []) []) (those_none m f (λ j i t. subst T (q j (omega arith)) t)) a ∙ ap (λ (i : ℕ). i ∷ []) (sym e)
        ∙ ap₂ (λ (ys : List ℕ) (b : Bool). x ∷ (ys ++ cond b (m ∷ []) [])) (sym (those_none m g (none (omega arith)))) (sym b)

those_same_end : (m n : ℕ) (f : ℕ → Bool) → m ≤ n → ((j : ℕ) → m ≤ j → j < n → f j ≡ false) → those m f ≡ those n f
unfolding those
those_same_end m zero f l h = let e : m ≡ zero = omega arith in ap (λ (k : ℕ). those k f) e
those_same_end m (suc n) f l h = go (dec_lt n m) (λ k. those_same_end m n f k (λ j a b. h j a (omega arith)))
  where
    go : Dec (n < m) → (m ≤ n → those m f ≡ those n f) → those m f ≡ those n f ++ cond (f n) (n ∷ []) []
    go (yes k) ih = let e : m ≡ suc n = omega arith in ap (λ (k : ℕ). those k f) e
    go (no k) ih = ih (omega arith) ∙ sym (append-nil (those n f)) ∙ ap (λ (b : Bool). those n f ++ cond b (n ∷ []) []) (sym (h n (omega arith) (omega arith)))

-- ---- how far a loop has come

pub passed_more : (ys : List ℕ) (x : ℕ) → passed (ys ++ x ∷ []) ≡ x + 1
passed_more [] x = refl
passed_more (y ∷ []) x = refl
passed_more (y ∷ z ∷ ys) x = passed_more (z ∷ ys) x

-- the item x of a loop over the numbers below n that p holds of, after the items ys
pub record Turn (n : ℕ) (p : ℕ → Bool) (ys : List ℕ) (x : ℕ) : Type 0 where
  pub within : x < n
  pub here : p x ≡ true
  pub above : passed ys ≤ x
  pub between : (j : ℕ) → passed ys ≤ j → j < x → p j ≡ false
  pub comes : passed (ys ++ x ∷ []) ≡ x + 1

-- the end of such a loop, after the items ys
pub record Ended (n : ℕ) (p : ℕ → Bool) (ys : List ℕ) : Type 0 where
  pub within : passed ys ≤ n
  pub all : (j : ℕ) → j < n → p j ≡ true → j < passed ys
  pub items : ys ≡ those n p

module _ {S : Type 0} (end : S → ℕ) (left : S → ℕ → Bool) where
  -- what the items so far tell of the state s, where the loop began at a
  record SoFar (a s : S) (ys : List ℕ) : Type 0 where
    bound : end s ≡ end a
    still : (j : ℕ) → left s j ≡ (leb (passed ys) j && left a j)
    within : passed ys ≤ end a

  rises : (y : ℕ) (ys : List ℕ) (a s : S) → Yields (YieldsBelow end left) a (y ∷ ys) s → y + length (y ∷ ys) ≤ passed (y ∷ ys)
  rises y [] a s h = omega arith
  rises y (z ∷ ys) a s h =
      let e : ltb y z ≡ true = (and_parts _ _ (sym (h.1.above z) ∙ h.2.1.here)).0 in
      omega (arith, ltb-true y z e, rises z ys h.0 s h.2)

  so_far : (ys : List ℕ) (a s : S) → Yields (YieldsBelow end left) a ys s → SoFar a s ys
  so_far [] a s h = subst (λ (s : S). SoFar a s []) h (record { bound = refl; still = λ j. sym (ap (λ (b : Bool). b && left a j) (le-leb 0 j (omega arith))); within = omega arith })
  so_far (x ∷ []) a s h =
      subst (λ (s : S). SoFar a s (x ∷ [])) h.2
      (record { bound = h.1.bound; still = λ j. h.1.above j ∙ ap (λ (n : ℕ). leb n j && left a j) (sym (add-one x)); within = omega (arith, h.1.within) })
  so_far (x ∷ y ∷ ys) a s h =
      let r = so_far (y ∷ ys) h.0 s h.2 in
      let up : x < passed (y ∷ ys) = omega (arith, ltb-true x y (and_parts _ _ (sym (h.1.above y) ∙ h.2.1.here)).0, rises y ys h.0 s h.2) in
      record {
        bound = r.bound ∙ h.1.bound;
        still = λ j. r.still j ∙ ap (λ (b : Bool). leb (passed (y ∷ ys)) j && b) (h.1.above j) ∙ skip (passed (y ∷ ys)) j up;
        within = omega (arith, r.within, h.1.bound);
      }
    where
      skip : (n j : ℕ) → x < n → (leb n j && (ltb x j && left a j)) ≡ (leb n j && left a j)
      skip n j l = go (dec_lt j n)
        where
          go : Dec (j < n) → (leb n j && (ltb x j && left a j)) ≡ (leb n j && left a j)
          go (yes k) = ap (λ (b : Bool). b && (ltb x j && left a j)) (lt-leb n j k) ∙ sym (ap (λ (b : Bool). b && left a j) (lt-leb n j k))
          go (no k) = ap (λ (b : Bool). leb n j && (b && left a j)) (lt-ltb x j (omega arith))

  -- the items so far are those below `passed` that were left at first
  items_are : (ys : List ℕ) (a s : S) → Yields (YieldsBelow end left) a ys s → ys ≡ those (passed ys) (left a)
  unfolding those
  items_are [] a s h = refl
  items_are (x ∷ []) a s h =
      let n : those (x + 1) (left h.0) ≡ [] = those_none (x + 1) (left h.0) (λ j l t. subst T (h.1.above j ∙ ap (λ (b : Bool). b && left a j) (le-ltb x j (omega arith))) t) in
      ap (λ (ys : List ℕ). x ∷ ys) (sym n) ∙ sym (those_front (x + 1) (left a) (left h.0) x (omega arith) h.1.here h.1.before h.1.above)
  items_are (x ∷ y ∷ ys) a s h =
      let up : x < passed (y ∷ ys) = omega (arith, ltb-true x y (and_parts _ _ (sym (h.1.above y) ∙ h.2.1.here)).0, rises y ys h.0 s h.2) in
      ap (λ (ys : List ℕ). x ∷ ys) (items_are (y ∷ ys) h.0 s h.2) ∙ sym (those_front (passed (y ∷ ys)) (left a) (left h.0) x up h.1.here h.1.before h.1.above)

  -- an item of the loop
  pub turn_in : (a s t : S) (ys : List ℕ) (r : Option ℕ) (x : ℕ) → Yields (YieldsBelow end left) a ys s → YieldsBelow end left s r t → r ≡ Some x
      → Turn (end a) (left a) ys x
  turn_in a s t ys r x y n e =
      let h = so_far ys a s y in
      let k : TakesLeast end left s x t = subst (λ (r : Option ℕ). YieldsBelow end left s r t) e n in
      let i = and_parts _ _ (sym (h.still x) ∙ k.here) in
      record {
        within = omega (arith, k.within, h.bound);
        here = i.1;
        above = leb-true (passed ys) x i.0;
        between = λ j l m. sym (h.still j ∙ ap (λ (b : Bool). b && left a j) (le-leb (passed ys) j l)) ∙ k.before j m;
        comes = passed_more ys x;
      }

  -- the end of the loop
  pub end_has : (a s t : S) (ys : List ℕ) (r : Option ℕ) → Yields (YieldsBelow end left) a ys s → YieldsBelow end left s r t → r ≡ None → Ended (end a) (left a) ys
  end_has a s t ys r y n e =
      let h = so_far ys a s y in
      let k : (j : ℕ) → j < end s → left s j ≡ false = subst (λ (r : Option ℕ). YieldsBelow end left s r t) e n in
      let all : (j : ℕ) → j < end a → left a j ≡ true → j < passed ys = λ j l p. go j l p (dec_lt j (passed ys)) (k j (omega (arith, h.bound))) (h.still j) in
      record {
        within = h.within;
        all = all;
        items = items_are ys a s y ∙ those_same_end (passed ys) (end a) (left a) h.within (λ j l m. false_from_ne_true (left a j) (λ p. omega (arith, all j m p)));
      }
    where
      go : (j : ℕ) → j < end a → left a j ≡ true → Dec (j < passed ys) → left s j ≡ false → left s j ≡ (leb (passed ys) j && left a j) → j < passed ys
      go j l p (yes m) q h = m
      go j l p (no m) q h = clash (h ∙ and_from _ _ (le-leb (passed ys) j (omega arith)) p) q

  -- ---- a run, item by item

  those_at : (xs : List ℕ) (a s : S) → Yields (YieldsBelow end left) a xs s → (k : ℕ) → IfSome (slice_get xs k) (λ x. (x < end a) × (left a x ≡ true))
  those_at [] a s h k = tt
  those_at (x ∷ xs) a s h zero = (h.1.within, h.1.here)
  those_at (x ∷ xs) a s h (suc k) = go (slice_get xs k) (those_at xs h.0 s h.2 k)
    where
      go : (o : Option ℕ) → IfSome o (λ y. (y < end h.0) × (left h.0 y ≡ true)) → IfSome o (λ y. (y < end a) × (left a y ≡ true))
      go None i = tt
      go (Some y) i = (omega (arith, i.0, h.1.bound), (and_parts _ _ (sym (h.1.above y) ∙ i.1)).1)

  each_at : (xs : List ℕ) (a s : S) → Yields (YieldsBelow end left) a xs s → (j : ℕ) → left a j ≡ true → j < passed xs → (k : ℕ) × (k < length xs) × (slice_get xs k ≡ Some j)
  each_at [] a s h j p l = absurd (omega arith)
  each_at (x ∷ []) a s h j p l = go (dec_lt j x)
    where
      go : Dec (j < x) → (k : ℕ) × (k < length (x ∷ [])) × (slice_get (x ∷ []) k ≡ Some j)
      go (yes m) = clash p (h.1.before j m)
      go (no n) = (zero, omega arith, ap Some (omega arith))
  each_at (x ∷ y ∷ ys) a s h j p l = go (dec_lt j x) (dec_lt x j) (λ q. each_at (y ∷ ys) h.0 s h.2 j q l)
    where
      go : Dec (j < x) → Dec (x < j) → (left h.0 j ≡ true → (k : ℕ) × (k < length (y ∷ ys)) × (slice_get (y ∷ ys) k ≡ Some j))
          → (k : ℕ) × (k < length (x ∷ y ∷ ys)) × (slice_get (x ∷ y ∷ ys) k ≡ Some j)
      go (yes m) d f = clash p (h.1.before j m)
      go (no n) (yes m) f = let r = f (h.1.above j ∙ and_from _ _ (lt-ltb x j m) p) in (suc r.0, omega (arith, r.1), r.2)
      go (no n) (no m) f = (zero, omega arith, ap Some (omega arith))

  -- an item is yielded after those before it
  yields_last : (ys : List ℕ) (x : ℕ) (a s : S) → Yields (YieldsBelow end left) a (ys ++ x ∷ []) s → (b : S) × Yields (YieldsBelow end left) a ys b × TakesLeast end left b x s
  yields_last [] x a s h = (a, refl, subst (λ (t : S). TakesLeast end left a x t) h.2 h.1)
  yields_last (y ∷ ys) x a s h = let r = yields_last ys x h.0 s h.2 in (r.0, (h.0, h.1, r.1), r.2)

  -- what a run gives, where n is the bound at its start and p tells what is left there
  module _ (r : Run (YieldsBelow end left)) (n : ℕ) (p : ℕ → Bool) (e : end r.from ≡ n) (f : (j : ℕ) → left r.from j ≡ p j) where
    gives_few : (xs : List ℕ) → Yields (YieldsBelow end left) r.from xs (took r).0 → length xs ≤ n
    gives_few [] y = omega arith
    gives_few (x ∷ xs) y = omega (arith, rises x xs r.from (took r).0 y, (so_far (x ∷ xs) r.from (took r).0 y).within)

    gives_those : GivesThose n p r
    gives_those = (
      omega (arith, r.long, gives_few r.items (took r).1),
      λ k. at (r.at k)
          (subst (λ (o : Option ℕ). IfSome o (λ x. (x < end r.from) × (left r.from x ≡ true))) (sym (at-is r k)) (those_at r.items r.from (took r).0 (took r).1 k)),
    )
      where
        at : (o : Option ℕ) → IfSome o (λ x. (x < end r.from) × (left r.from x ≡ true)) → IfSome o (λ x. (x < n) × (p x ≡ true))
        at None i = tt
        at (Some x) i = (omega (arith, i.0), sym (f x) ∙ i.1)

    gives_least : GivesLeast n p r
    gives_least ys x i =
        let y = yields_last ys x r.from (took r).0 (subst (λ (xs : List ℕ). Yields (YieldsBelow end left) r.from xs (took r).0) i (took r).1) in
        let t = turn_in r.from y.0 (took r).0 ys (Some x) x y.1 y.2 refl in
        (t.comes, t.above, λ j l m. sym (f j) ∙ t.between j l m)

    gives_each : GivesEach n p r
    gives_each j h l =
        let k = each_at r.items r.from (took r).0 (took r).1 j (f j ∙ h) l in
        (k.0, omega (arith, k.1, r.long), at-is r k.0 ∙ k.2)

    gives_all : GivesAll n p r
    gives_all w =
        let d = (took r).2 w in
        let t = end_has r.from (took r).0 d.0 r.items None (took r).1 d.1 refl in (
          omega (arith, t.within),
          λ j h l. t.all j (omega arith) (f j ∙ h),
          t.items ∙ those_same (end r.from) (left r.from) p (λ j l. f j) ∙ ap (λ (m : ℕ). those m p) e,
        )

  -- so what each run gives that begins at a
  pub runs_below : (a : S) {n : ℕ} {p : ℕ → Bool} → end a ≡ n → ((j : ℕ) → left a j ≡ p j) → EachRunFrom (YieldsBelow end left) a (GivesBelow n p)
  runs_below a {n} {p} e f r _ g =
      let i : end r.from ≡ n = ap end g ∙ e in
      let h : (j : ℕ) → left r.from j ≡ p j = λ j. ap (λ (s : S). left s j) g ∙ f j in
      (gives_those r n p i h, gives_least r n p i h, gives_each r n p i h, gives_all r n p i h)
