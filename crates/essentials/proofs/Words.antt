-- The words of the cubes so far, with one more; and the word of a cube by its mark, since a prime that does not serve has no column. Assumes nothing.
use Rattle.std.proofs.Common.{◌≡◌, ℕ, ◌+◌, ◌^◌, ◌<◌, Bool, cond, List, [], ◌∷◌, ◌++◌, get_or, false, sym, ap, ◌∙◌, add-one}
use Rattle.std.proofs.Math.Nat.{zero-add}
use Rattle.numbers.specs.Below.{tabulate}
use Rattle.numbers.proofs.Below.{tabulate_more}
use Rattle.cube.specs.Words.{serving_prime}
use Rattle.primes.specs.Steps.{Marks}
use Rattle.chart_arrays.specs.Columns.{columns_of}
use Rattle.chart_arrays.proofs.Theorems.{serving_word}
use Rattle.essentials.specs.Steps.{prime_word}

pub word_more : (f : ℕ → ℕ) (m w : ℕ) {words words' : List ℕ} → words ≡ tabulate m 0 f → w ≡ f m → words' ≡ words ++ (w ∷ []) → words' ≡ tabulate (m + 1) 0 f
word_more f m w e g h =
    rw (h, e, g) (sym (ap (λ (i : ℕ). tabulate i 0 f) (add-one m) ∙ tabulate_more f m 0 ∙ ap (λ (i : ℕ). tabulate m 0 f ++ (f i ∷ [])) (zero-add m)))

pub by_mark : (n : ℕ) (t : List ℕ) (marks : List Bool) (q : ℕ) {w : ℕ} → Marks (λ b. b) (serving_prime n t) marks (3 ^ n) → q < 3 ^ n
    → w ≡ cond (get_or marks q false) (columns_of n t q) 0 → w ≡ prime_word n t q
by_mark n t marks q m l e = e ∙ ap (λ (b : Bool). cond b (columns_of n t q) 0) (m q l) ∙ serving_word n t q
