-- Plan's promise leaves nothing open about the counts. On each of the cases a to j the answer is the case's rows and bits, whatever the arrays held,
-- and so wrong answers are shut out, each on a named case. Then wrong arrays and wrong refusals. Assumes nothing.
use mathlib.Core.Path.{◌≡◌, refl, sym, ap, ap₂, ◌∙◌}
use mathlib.Core.List.{List, [], ◌∷◌}
use Prim.Native.Nat.{ℕ, zero, suc}
use native.Mathlib.Omega.{arith}
use lib.ListN.{length, get_or, replicate}
use Rattle.std.specs.Prelude.{Result, Ok, Err}
use Rattle.numbers.specs.Below.{every, some, among, tabulate}
use Rattle.cube.specs.Words.{row_matches, cover_matches, rows_of, implements, cube_of}
use Rattle.cube.specs.Calls.{bad_cell, gives, answered, answer_of}
use Rattle.cube.specs.Cases.{Case, table_of, Holds, case_a, case_b, case_e, case_f, case_g, case_h, case_j, cases}
use Rattle.cube.specs.declared.Refusal.{Refusal}
use Rattle.cube.specs.declared.Refusal.TheVariants.{TableLength, Cell, ShortOutput}
use Rattle.cube.proofs.Calls.{same_value}
use Rattle.cube.proofs.Cases.{all_cases}
use Rattle.cube.proofs.Minimum.{shortest}
use Rattle.plan.specs.Plan.{plan_refuses, totals_of, ascends_from, Plans}
use Rattle.plan.specs.Theorems.{Held}
use Rattle.plan.specs.declared.Totals.{Totals}
use Rattle.plan.proofs.Answers.{not_refused, accepted_refused, refused_by}
use Rattle.plan.proofs.Refusals.{Plannable, plannable}
use Rattle.plan.proofs.Theorems.{held, arrays_hold}

-- the rows and bits of a case
abbrev counts_of : Case → Totals
counts_of k = record { rows = k.rows; bits = k.bits }

-- an answer with these totals
abbrev pub with_totals : ℕ → ℕ → Result Totals Refusal
with_totals rows bits = Ok (record { rows = rows; bits = bits })

-- the answer on a case that is not refused
pub answer_on : (k : Case) → Holds k → (values cares values' cares' : List ℕ) (r : Result Totals Refusal) → plan_refuses k.width (table_of k) (length values) (length cares) ≡ 0
    → Plans k.width (table_of k) values cares values' cares' r → answer_of r ≡ gives (counts_of k)
answer_on k h values cares values' cares' r e p =
    let same = (shortest k.width (table_of k)).counts p.list h.list (p.minimum e) h.minimum in
    p.answer ∙ ap (λ (i : ℕ). answered i (totals_of k.width p.list)) e
    ∙ ap₂ (λ (x y : ℕ). gives (record { rows = x; bits = y })) (same.0 ∙ h.rows) (same.1 ∙ h.bits)

-- ---- wrong answers on named cases, for any arrays with enough places

module _ (k : Case) (h : Holds k) (values cares values' cares' : List ℕ) (e : plan_refuses k.width (table_of k) (length values) (length cares) ≡ 0) where
  counts : (rows bits : ℕ) → Plans k.width (table_of k) values cares values' cares' (with_totals rows bits) → record { rows = rows; bits = bits } ≡ counts_of k
  counts rows bits p = same_value (record { rows = rows; bits = bits }) (counts_of k) (answer_on k h values cares values' cares' (with_totals rows bits) e p)

  other_rows : (rows bits : ℕ) → (rows ≡ k.rows → ⊥) → Plans k.width (table_of k) values cares values' cares' (with_totals rows bits) → ⊥
  other_rows rows bits d p = d (ap (λ (x : Totals). x.rows) (counts rows bits p))

  other_bits : (rows bits : ℕ) → (bits ≡ k.bits → ⊥) → Plans k.width (table_of k) values cares values' cares' (with_totals rows bits) → ⊥
  other_bits rows bits d p = d (ap (λ (x : Totals). x.bits) (counts rows bits p))

module _ (values cares values' cares' : List ℕ) where
  -- all eight primes on j
  pub all_primes : plan_refuses 4 (table_of case_j) (length values) (length cares) ≡ 0 → (bits : ℕ) → Plans 4 (table_of case_j) values cares values' cares' (with_totals 8 bits) → ⊥
  unfolding cases
  all_primes e bits = other_rows case_j all_cases.1.1.1.1.1.1.1.1.1.0 values cares values' cares' e 8 bits (λ z. omega arith)

  -- a row taken first that leads to five rows, on j
  pub longest_first : plan_refuses 4 (table_of case_j) (length values) (length cares) ≡ 0 → (bits : ℕ) → Plans 4 (table_of case_j) values cares values' cares' (with_totals 5 bits) → ⊥
  unfolding cases
  longest_first e bits = other_rows case_j all_cases.1.1.1.1.1.1.1.1.1.0 values cares values' cares' e 5 bits (λ z. omega arith)

  -- the three essentials of g, and then all others
  pub then_all_others : plan_refuses 4 (table_of case_g) (length values) (length cares) ≡ 0 → (bits : ℕ) → Plans 4 (table_of case_g) values cares values' cares' (with_totals 6 bits) → ⊥
  unfolding cases
  then_all_others e bits = other_rows case_g all_cases.1.1.1.1.1.1.0 values cares values' cares' e 6 bits (λ z. omega arith)

  -- nothing written and zero rows, on b
  pub no_rows : plan_refuses 1 (table_of case_b) (length values) (length cares) ≡ 0 → (bits : ℕ) → Plans 1 (table_of case_b) values cares values' cares' (with_totals 0 bits) → ⊥
  unfolding cases
  no_rows e bits = other_rows case_b all_cases.1.0 values cares values' cares' e 0 bits (λ z. omega arith)

  -- fewest rows, and then not fewest bits: the list of f with 12
  pub twelve_bits : plan_refuses 4 (table_of case_f) (length values) (length cares) ≡ 0 → Plans 4 (table_of case_f) values cares values' cares' (with_totals 4 12) → ⊥
  unfolding cases
  twelve_bits e = other_bits case_f all_cases.1.1.1.1.1.0 values cares values' cares' e 4 12 (λ z. omega arith)

  -- totals one off, on e
  pub one_row_off : plan_refuses 3 (table_of case_e) (length values) (length cares) ≡ 0 → (bits : ℕ) → Plans 3 (table_of case_e) values cares values' cares' (with_totals 4 bits) → ⊥
  unfolding cases
  one_row_off e bits = other_rows case_e all_cases.1.1.1.1.0 values cares values' cares' e 4 bits (λ z. omega arith)

  pub one_bit_off : plan_refuses 3 (table_of case_e) (length values) (length cares) ≡ 0 → Plans 3 (table_of case_e) values cares values' cares' (with_totals 3 7) → ⊥
  unfolding cases
  one_bit_off e = other_bits case_e all_cases.1.1.1.1.0 values cares values' cares' e 3 7 (λ z. omega arith)

-- one fixed list: the same answer on a and on b
pub one_fixed_answer : (values cares values' cares' : List ℕ) (r : Result Totals Refusal) → plan_refuses 1 (table_of case_a) (length values) (length cares) ≡ 0
    → plan_refuses 1 (table_of case_b) (length values) (length cares) ≡ 0 → Plans 1 (table_of case_a) values cares values' cares' r
    → Plans 1 (table_of case_b) values cares values' cares' r → ⊥
unfolding cases
one_fixed_answer values cares values' cares' r d e p q =
    let on-a = answer_on case_a all_cases.0 values cares values' cares' r d p in
    let on-b = answer_on case_b all_cases.1.0 values cares values' cares' r e q in
    let z : ◌≡◌ {A = ℕ} 0 1 = ap (λ (x : Totals). x.rows) (same_value (counts_of case_a) (counts_of case_b) (sym on-a ∙ on-b)) in
    omega arith

-- 4 with 32 places in each array, at width 6 with nothing wanted
pub four_with_32_places : (values cares values' cares' : List ℕ) → length values ≡ 32 → length cares ≡ 32
    → Plans 6 (replicate 64 0) values cares values' cares' (Err ShortOutput) → ⊥
unfolding some bad_cell
four_with_32_places values cares values' cares' v w p =
    let enough : plan_refuses 6 (replicate 64 0) 32 32 ≡ 0 = refl in
    accepted_refused p (ap₂ (λ (i j : ℕ). plan_refuses 6 (replicate 64 0) i j) v w ∙ enough)

-- any counts with 31 places in an array, at width 6 whatever the table and the other array
module _ (t values cares values' cares' : List ℕ) (rows bits : ℕ) (p : Plans 6 t values cares values' cares' (with_totals rows bits)) where
  enough : Plannable 6 t (length values) (length cares)
  enough = plannable 6 t (length values) (length cares) (not_refused p)

  pub counts_with_31_values : length values ≡ 31 → ⊥
  counts_with_31_values v = omega (arith, enough.enough_values)

  pub counts_with_31_cares : length cares ≡ 31 → ⊥
  counts_with_31_cares w = omega (arith, enough.enough_cares)

-- more rows than pairs of codes, at width 6 whatever the table and the arrays
pub thirty_three_rows : (t values cares values' cares' : List ℕ) (bits : ℕ) → Plans 6 t values cares values' cares' (with_totals 33 bits) → ⊥
thirty_three_rows t values cares values' cares' bits p = omega (arith, (held p).few)

-- ---- wrong arrays

-- the two rows of h, 10-0 and -00-, in descending order, whatever comes after them
pub descending : (values cares values' cares' : List ℕ) (r : Result Totals Refusal) → plan_refuses 4 (table_of case_h) (length values) (length cares) ≡ 0
    → Plans 4 (table_of case_h) values cares (0 ∷ 8 ∷ values') (6 ∷ 11 ∷ cares') r → ⊥
unfolding tabulate among table_of every rows_of row_matches cover_matches implements cube_of ascends_from
descending values cares values' cares' r e p =
    let d = (arrays_hold 4 (table_of case_h) values cares (0 ∷ 8 ∷ values') (6 ∷ 11 ∷ cares')).accepted r e p in
    go d.totals.rows d.totals.bits d.held
  where
    go : (rows bits : ℕ) → Held 4 (table_of case_h) values cares (0 ∷ 8 ∷ values') (6 ∷ 11 ∷ cares') (record { rows = rows; bits = bits }) → ⊥
    go zero bits h = h.minimum.right
    go (suc zero) bits h = h.minimum.right
    go (suc (suc rows)) bits h = h.is_ascending

-- the place past the one row of b changed
pub place_past_count : Plans 1 (table_of case_b) (7 ∷ 7 ∷ []) (7 ∷ 7 ∷ []) (0 ∷ 0 ∷ []) (0 ∷ 7 ∷ []) (with_totals 1 0) → ⊥
place_past_count p =
    let z : ◌≡◌ {A = ℕ} 0 7 = ap (λ (l : List ℕ). get_or l 0 0) (held p).values_behind in
    omega arith

-- ---- wrong refusals

-- a place written though the width is refused
pub written_on_refusal : (r : Result Totals Refusal) → Plans 0 (1 ∷ []) (7 ∷ []) (7 ∷ []) (0 ∷ []) (7 ∷ []) r → ⊥
written_on_refusal r p = let z : ◌≡◌ {A = ℕ} 0 7 = ap (λ (l : List ℕ). get_or l 0 0) p.values_are in omega arith

-- 4 for arrays of any length, so of 31 places too, where every cell is 3
pub four_before_three : (values cares values' cares' : List ℕ) → Plans 6 (replicate 64 3) values cares values' cares' (Err ShortOutput) → ⊥
unfolding some bad_cell
four_before_three values cares values' cares' p = let z : ◌≡◌ {A = ℕ} 3 4 = refused_by p in omega arith

-- 3 for a cell of a table that has 63 cells at width 6
pub three_before_two : (values cares values' cares' : List ℕ) → Plans 6 (replicate 63 3) values cares values' cares' (Err Cell) → ⊥
three_before_two values cares values' cares' p = let z : ◌≡◌ {A = ℕ} 2 3 = refused_by p in omega arith

-- 2 for a table of one cell at width 7
pub two_before_one : (values cares values' cares' : List ℕ) → Plans 7 (1 ∷ []) values cares values' cares' (Err TableLength) → ⊥
two_before_one values cares values' cares' p = let z : ◌≡◌ {A = ℕ} 1 2 = refused_by p in omega arith
