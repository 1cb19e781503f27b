-- The values of a function over the numbers that pass, as a loop over them has them: one more at each item, and all at its end. Assumes nothing.
use Rattle.std.proofs.Common.{◌≡◌, ℕ, zero, suc, refl, ⊎_elim, ◌<◌, ◌≤◌, Bool, false, cond, List, [], ◌∷◌, ◌++◌, length, map, sym, ap, ap₂, ◌∙◌, add-one, arith, append-nil}
use Rattle.std.proofs.Math.ListN.{length-map}
use Rattle.std.proofs.Math.Nat.{eq-or-lt_of_le, le_of_suc-le-suc}
use borrow.Table.Elements.{map_app}
use Rattle.std.proofs.lemmas.Bool.{false_from_ne_true}
use Rattle.numbers.specs.Below.{those}
use Rattle.numbers.specs.Ascending.{passed}
use Rattle.numbers.proofs.Below.{count_found}
use Rattle.numbers.proofs.Loops.{Turn, Ended}

those_next : (f : ℕ → Bool) (m : ℕ) → those (suc m) f ≡ those m f ++ cond (f m) (m ∷ []) []
unfolding those
those_next f m = refl

-- none of the numbers from a on passes
those_skip : (f : ℕ → Bool) (a m : ℕ) → a ≤ m → ((j : ℕ) → a ≤ j → j < m → f j ≡ false) → those m f ≡ those a f
those_skip f a zero l h = ap (λ (i : ℕ). those i f) (omega arith)
those_skip f a (suc m) l h =
    ⊎_elim (λ e. ap (λ (i : ℕ). those i f) (sym e))
    (λ k. let below : a ≤ m = le_of_suc-le-suc k in
    those_next f m ∙ ap₂ (λ (ys : List ℕ) (b : Bool). ys ++ cond b (m ∷ []) []) (those_skip f a m below (λ j i n. h j i (omega arith))) (h m below (omega arith))
    ∙ append-nil (those a f))
    (eq-or-lt_of_le l)

module _ (g : ℕ → ℕ) {n : ℕ} {f : ℕ → Bool} {ys : List ℕ} {x : ℕ} (t : Turn n f ys x) where
  those_turn : those (passed (ys ++ x ∷ [])) f ≡ those (passed ys) f ++ (x ∷ [])
  those_turn =
      ap (λ (i : ℕ). those i f) (t.comes ∙ add-one x) ∙ those_next f x
      ∙ ap₂ (λ (l : List ℕ) (b : Bool). l ++ cond b (x ∷ []) []) (those_skip f (passed ys) x t.above t.between) t.here

  pub picked_turn : {xs zs : List ℕ} → xs ≡ map g (those (passed ys) f) → zs ≡ xs ++ (g x ∷ []) → zs ≡ map g (those (passed (ys ++ x ∷ [])) f)
  picked_turn e w = w ∙ ap (λ (l : List ℕ). l ++ (g x ∷ [])) e ∙ sym (map_app g (those (passed ys) f) (x ∷ [])) ∙ ap (map g) (sym those_turn)

  -- there is room for the item where there is room for all
  pub picked_room : {xs : List ℕ} → xs ≡ map g (those (passed ys) f) → length xs < length (those n f)
  picked_room e = omega (arith, ap length e, length-map (those (passed ys) f) g, ap length (those_skip f (passed ys) x t.above t.between), count_found f x n t.within t.here)

-- at the end of the loop all that pass were items
pub picked_all : (g : ℕ → ℕ) {n : ℕ} {f : ℕ → Bool} {ys xs : List ℕ} → Ended n f ys → xs ≡ map g (those (passed ys) f) → xs ≡ map g (those n f)
picked_all g {n} {f} {ys} t e = e ∙ ap (map g) (sym (those_skip f (passed ys) n t.within (λ j l m. false_from_ne_true (f j) (λ h. omega (arith, t.all j m h)))))
