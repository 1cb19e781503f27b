-- The first elements of a list: cutting twice is cutting once, one more element, and a list in front of what is left of another. Assumes nothing.
use mathlib.Core.Path.{◌≡◌, refl, sym, ap, ap₂, ◌∙◌}
use mathlib.Core.List.{List, [], ◌∷◌, ◌++◌}
use Prim.Native.Nat.{ℕ, zero, suc, ◌+◌, ◌<◌, ◌≤◌}
use native.Mathlib.Numerals.{add-one}
use native.Mathlib.Omega.{arith}
use lib.ListN.{length, length-append, take, drop, get_or}
use lib.Seq.{take-suc, take-append_seam, drop-append_seam}

-- a list that is cut, continued and cut again need not be cut the first time
pub take_cut : (m : ℕ) (xs ys : List ℕ) → take m (take m xs ++ ys) ≡ take m (xs ++ ys)
take_cut zero xs ys = refl
take_cut (suc m) [] ys = refl
take_cut (suc m) (x ∷ xs) ys = ap (λ (l : List ℕ). x ∷ l) (take_cut m xs ys)

-- one more element
pub take_more : (xs : List ℕ) (i : ℕ) → i < length xs → take (i + 1) xs ≡ take i xs ++ (get_or xs i 0 ∷ [])
take_more xs i l = ap (λ (k : ℕ). take k xs) (add-one i) ∙ take-suc xs i 0 l

-- a list of this many elements is at the front, and after it what was there before
module _ {A : Type 0} (list old : List A) {new : List A} {count : ℕ} (counts : count ≡ length list) (stands : new ≡ list ++ drop (length list) old) where
  pub front_long : count ≤ length new
  front_long = omega (arith, counts, ap length stands ∙ length-append list (drop (length list) old))

  pub front_is : take count new ≡ list
  front_is = ap₂ take counts stands ∙ take-append_seam list (drop (length list) old)

  pub front_behind : drop count new ≡ drop count old
  front_behind = ap₂ drop counts stands ∙ drop-append_seam list (drop (length list) old) ∙ ap (λ (k : ℕ). drop k old) (sym counts)
