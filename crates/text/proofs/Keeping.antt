-- The cells that are kept are the whole run, or there is one more than any table has: then both are refused by their width or their length.
-- So a program prints for the cells that are kept what it prints for the whole input. Assumes nothing.
use mathlib.Core.Path.{◌≡◌, refl, sym, ap, ◌∙◌}
use mathlib.Core.Logic.{⊎_elim}
use mathlib.Core.Bool.{Bool, true, false, cond, not}
use mathlib.Core.List.{List, [], ◌∷◌, ◌++◌}
use Prim.Native.Nat.{ℕ, ◌^◌, ◌<◌, ◌≤◌}
use native.Mathlib.Omega.{arith}
use lib.Dec.{eqb}
use lib.ListN.{length, length-append, length-take}
use lib.Seq.{length-take-le, take_all}
use borrow.Author.Tests.{ne_eqb}
use Rattle.std.proofs.lemmas.List.{take-append-le}
use Rattle.std.proofs.lemmas.Bool.{cases_lt}
use Rattle.cube.specs.Words.{Cover}
use Rattle.cube.specs.Calls.{widest, bad_width, bad_length, bad_cell, Condition, when, first_of, table_conditions, Answer, refuses, gives}
use Rattle.cube.proofs.Calls.{width_to, codes_most, first_holds, accepted}
use Rattle.text.specs.Characters.{line_feed}
use Rattle.text.specs.Input.{Table, is_digit, width_of, is_cell, cell_of, read}
use Rattle.text.specs.Output.{table_text, printed, output_by}
use Rattle.text.specs.Steps.{most_cells, keep, kept_of, State, at_start, after_digit, in_run, at_end, wrong, stepped, fed, closed, cells_kept}
use Rattle.text.proofs.Stepping.{stepping}

-- a table with more cells than the widest has is refused by its width, or else by its length
long_refused : (n : ℕ) (t : List ℕ) (rest : List Condition) → 2 ^ widest < length t → first_of (table_conditions n t ++ rest) ≡ cond (bad_width n) 1 2
long_refused n t rest l = go (bad_width n) refl
  where
    by_length : bad_width n ≡ false → first_of (when (bad_length n t) 2 ∷ when (bad_cell t) 3 ∷ rest) ≡ 2
    by_length e =
        first_holds (bad_length n t) 2 (when (bad_cell t) 3 ∷ rest)
        (ap not (ne_eqb (length t) (2 ^ n) (λ d. let m : 2 ^ n ≤ 2 ^ widest = codes_most n (width_to n e) in omega arith)))

    go : (b : Bool) → bad_width n ≡ b → cond b 1 (first_of (when (bad_length n t) 2 ∷ when (bad_cell t) 3 ∷ rest)) ≡ cond b 1 2
    go true e = refl
    go false e = by_length e

-- one cell more is kept where fewer are kept than may be, and else none is
module _ (cells : List ℕ) (x : ℕ) where
  pub one_kept : length cells < most_cells → cells ++ x ∷ [] ≡ keep (cells ++ x ∷ [])
  one_kept l = sym (take_all most_cells (cells ++ x ∷ []) (omega (arith, length-append cells (x ∷ []))))

  pub none_kept : length cells ≡ most_cells → cells ≡ keep (cells ++ x ∷ [])
  none_kept e = sym (take-append-le most_cells cells (x ∷ []) (omega arith) ∙ take_all most_cells cells (omega arith))

-- no more cells are kept than may be, behind one more byte
pub stepped_few : (s : State) (b : ℕ) → cells_kept s ≤ most_cells → cells_kept (stepped s b) ≤ most_cells
stepped_few s b l = go s l
  where
    digit : (t : Bool) → cells_kept (cond t (after_digit (width_of b)) wrong) ≤ most_cells
    digit true = omega arith
    digit false = omega arith

    run : (n : ℕ) (t : Bool) → cells_kept (cond t (in_run n []) wrong) ≤ most_cells
    run n true = omega arith
    run n false = omega arith

    cell : (n : ℕ) (cells : List ℕ) (feed cell : Bool) → length cells ≤ most_cells
        → cells_kept (cond feed (at_end n cells) (cond cell (in_run n (keep (cells ++ (cell_of b ∷ [])))) wrong)) ≤ most_cells
    cell n cells true t l = l
    cell n cells false true l = omega (arith, length-take most_cells (cells ++ (cell_of b ∷ [])))
    cell n cells false false l = omega arith

    go : (s : State) → cells_kept s ≤ most_cells → cells_kept (stepped s b) ≤ most_cells
    go at_start l = digit (is_digit b)
    go (after_digit n) l = run n (eqb b line_feed)
    go (in_run n cells) l = cell n cells (eqb b line_feed) (is_cell b) l
    go (at_end n cells) l = omega arith
    go wrong l = l

-- and behind a piece
pub fed_few : (s : State) (bs : List ℕ) → cells_kept s ≤ most_cells → cells_kept (fed s bs) ≤ most_cells
unfolding fed
fed_few s [] l = l
fed_few s (b ∷ bs) l = fed_few (stepped s b) bs (stepped_few s b l)

-- a call whose further conditions are the rest refuses the cells that are kept exactly as it refuses the whole run; where the table is not refused,
-- they are the whole run
pub record Keeping (n : ℕ) (cells : List ℕ) : Type 0 where
  pub refusal : (rest : List Condition) → first_of (table_conditions n (keep cells) ++ rest) ≡ first_of (table_conditions n cells ++ rest)
  pub whole : first_of (table_conditions n cells) ≡ 0 → keep cells ≡ cells

pub keeping : (n : ℕ) (cells : List ℕ) → Keeping n cells
keeping n cells = ⊎_elim long short (cases_lt most_cells (length cells))
  where
    short : length cells ≤ most_cells → Keeping n cells
    short l =
        let all : keep cells ≡ cells = take_all most_cells cells l in
        record { refusal = λ rest. ap (λ (t : List ℕ). first_of (table_conditions n t ++ rest)) all; whole = λ e. all }

    long : most_cells < length cells → Keeping n cells
    long l = record {
      refusal = λ rest. long_refused n (keep cells) rest (omega (arith, length-take-le most_cells cells (omega arith))) ∙ sym (long_refused n cells rest (omega arith));
      whole = λ e. let a = accepted n cells e in absurd (omega (arith, a.cells, codes_most n a.to));
    }

-- what is printed for the cells that are kept is what is printed for the whole input, whatever way lists are shown
pub same_output : (shown : ℕ → Cover → List ℕ) (input : List ℕ) (list : Cover) → printed shown (closed (fed at_start input)) list ≡ output_by shown input list
same_output shown input list = ap (λ (r : Answer Table). printed shown r list) (stepping input) ∙ go (read input)
  where
    go : (r : Answer Table) → printed shown (kept_of r) list ≡ printed shown r list
    go (refuses k) = refl
    go (gives t) = ap (λ (k : ℕ). table_text shown k t.width list) ((keeping t.width t.cells).refusal [])
