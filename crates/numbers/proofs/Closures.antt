-- What a method that calls a closure at each item asks of it, at an iterator that gives the numbers below a bound of which a test holds: that it may be called
-- at such numbers. Assumes nothing.
use mathlib.Core.Path.{◌≡◌, refl, sym, subst}
use mathlib.Core.Bool.{Bool, true}
use mathlib.Core.List.{List, [], ◌∷◌}
use Prim.Native.Nat.{ℕ, ◌<◌}
use Rattle.std.specs.Prelude.{Some}
use Rattle.std.specs.Iterator.{CallableAtEachTurn}
use Rattle.std.specs.List.{FoldsTo}
use Rattle.numbers.specs.Ascending.{YieldsBelow}
use Rattle.numbers.proofs.Loops.{turn_in}

unmoved : {P : Type 0} (R : P → ℕ → P → Type 0) (f : P) → ((x : ℕ) (q : P) → R f x q → q ≡ f) → (xs : List ℕ) (q : P) → FoldsTo R f xs q → q ≡ f
unmoved R f h [] q c = sym c
unmoved R f h (x ∷ xs) q c = let e = h x c.0 c.1 in unmoved R f h xs q (subst (λ g. FoldsTo R g xs q) e c.2)

module _ {S P : Type 0} {end : S → ℕ} {left : S → ℕ → Bool} {R : P → ℕ → P → Type 0} {Q : P → ℕ → Type 0} {s : S} {f : P} where
  -- where a call leaves the closure as it was, and it may be called at each number that is left
  pub asked : ((x : ℕ) (q : P) → R f x q → q ≡ f) → ((x : ℕ) → x < end s → left s x ≡ true → Q f x) → CallableAtEachTurn (YieldsBelow end left) R Q s f
  asked stays may = record {
    at = λ xs t q x u y c e.
        let i = turn_in end left s t u xs (Some x) x y e refl in
        subst (λ (g : P). Q g x) (sym (unmoved R f stays xs q c)) (may x i.within i.here);
  }
