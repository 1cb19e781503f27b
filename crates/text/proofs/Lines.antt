-- The lines of one more row; and how long the lines of a list and the line of a refusal are.
-- Assumes nothing.
use mathlib.Core.Path.{◌≡◌, sym, ap, ◌∙◌}
use mathlib.Core.List.{List, [], ◌∷◌, ◌++◌, append-nil, append_assoc}
use Prim.Native.Nat.{ℕ, ◌+◌, ◌*◌, ◌^◌, ◌<◌, ◌≤◌}
use native.Mathlib.Omega.{arith}
use lib.ListN.{length, length-append}
use Rattle.numbers.specs.Below.{tabulate}
use Rattle.cube.specs.Words.{Row, Cover}
use Rattle.cube.specs.Calls.{widest}
use Rattle.numbers.proofs.Below.{tabulate-length}
use Rattle.text.specs.Characters.{bytes, line_feed}
use Rattle.text.specs.Output.{in_decimal, character_of_variable, row_line, list_lines, totals_line, refused}
use Rattle.text.specs.Steps.{most_digits, most_output}
use Rattle.text.proofs.Decimals.{decimal_length}

-- ---- lines

pub lines_append : (n : ℕ) (rs : Cover) (r : Row) → list_lines n (rs ++ (r ∷ [])) ≡ list_lines n rs ++ row_line n r
unfolding list_lines
lines_append n [] r = append-nil (row_line n r)
lines_append n (s ∷ rs) r = ap (λ (l : List ℕ). row_line n s ++ l) (lines_append n rs r) ∙ sym (append_assoc (row_line n s) (list_lines n rs) (row_line n r))

pub line_length : (n : ℕ) (r : Row) → length (row_line n r) ≡ n + 1
line_length n r = length-append (tabulate n 1 (character_of_variable n r)) (line_feed ∷ []) ∙ ap (λ (i : ℕ). i + 1) (tabulate-length (character_of_variable n r) n 1)

pub lines_length : (n : ℕ) (rs : Cover) → n ≤ widest → length (list_lines n rs) ≤ (widest + 1) * length rs
unfolding list_lines
lines_length n [] l = omega arith
lines_length n (r ∷ rs) l = omega (arith, length-append (row_line n r) (list_lines n rs), line_length n r, lines_length n rs l)

-- ---- how long the texts are

-- 20 digits are enough for a number of 64 bits
digits_few : (x : ℕ) → x < 2 ^ 64 → length (in_decimal x) ≤ most_digits
digits_few x l = decimal_length 19 x (omega arith)

pub totals_length : (rows bits : ℕ) → rows < 2 ^ 64 → bits < 2 ^ 64 → length (totals_line rows bits) ≤ length (bytes "rows  bits ") + 2 * most_digits + 1
totals_length rows bits l m =
    let first : List ℕ = bytes "rows " ++ in_decimal rows in
    let second : List ℕ = bytes " bits " ++ in_decimal bits in
    omega (
      arith,
      length-append (first ++ second) (line_feed ∷ []),
      length-append first second,
      length-append (bytes "rows ") (in_decimal rows),
      length-append (bytes " bits ") (in_decimal bits),
      digits_few rows l,
      digits_few bits m,
    )

-- three for the number of a refusal
pub number_length : (k : ℕ) → k < 2 ^ 8 → length (in_decimal k) ≤ 3
number_length k l = decimal_length 2 k (omega arith)

-- the longest output of `rows` has room for a refusal with any number of 64 bits
pub refused-length : (k : ℕ) → k < 2 ^ 64 → length (refused k) ≤ most_output
refused-length k l =
    let text : List ℕ = bytes "refused " ++ in_decimal k in
    omega (arith, length-append text (line_feed ∷ []), length-append (bytes "refused ") (in_decimal k), digits_few k l)
