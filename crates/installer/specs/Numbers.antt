-- "For the installer, which is in C: [..] Plan's C answer is 10,000 × rows + tested bits; Check's is 0 right, 1 + code missed, 257 + code stray; both
-- answer minus the number when they refuse." The other calls answer in the same way: the keep-out call as Plan, the call that builds both lists with the kind
-- added, Spell 0, Read 100,000 × width + count, each of the rest a count. Assumes nothing.
use Rattle.std.specs.Prelude.{◌≡◌, cond, Result, List, ℕ, zero, suc, ◌+◌, ◌*◌, ◌-◌, ◌/◌, ◌%◌, ◌≤◌, ltb, ℤ, pos, negsuc, neg_ℤ, length}
use Rattle.cube.specs.Words.{Row}
use Rattle.cube.specs.Calls.{most_rows, Answer, refuses, gives, answered, answer_of, written}
use Rattle.cube.specs.declared.Refusal.{Refusal}
use Rattle.plan.specs.Plan.{Plans}
use Rattle.plan.specs.declared.Totals.{Totals}
use Rattle.keep_out.specs.KeepOut.{PlansKeepOut}
use Rattle.better.specs.Better.{Builds}
use Rattle.better.specs.declared.Built.{Built}
use Rattle.better.specs.declared.Built.TheVariants.{Ordinary, KeepOut}
use Rattle.checking.specs.Check.{check_of}
use Rattle.checking.specs.declared.Verdict.{Verdict}
use Rattle.checking.specs.declared.Verdict.TheVariants.{Right, Missed, Stray}
use Rattle.listfile.specs.File.{one_byte_count, values_in, cares_in}
use Rattle.listfile.specs.Read.{read_refuses, read_of}
use Rattle.listfile.specs.declared.Header.{Header}

-- "minus the number"
abbrev pub minus : ℕ → ℤ
minus k = neg_ℤ (pos k)

-- the number of an answer, for a number of each value that may be given: a refusal is minus its number
abbrev pub number_by : {A : Type 0} → (A → ℕ) → Answer A → ℤ
number_by number (gives a) = pos (number a)
number_by number (refuses k) = minus k

-- how an answer is read off its number, for a way to read a value: what is below 0 is minus a refusal's number
abbrev pub read_by : {A : Type 0} → (ℕ → A) → ℤ → Answer A
read_by read (pos k) = gives (read k)
read_by read (negsuc k) = refuses (suc k)

-- "the answer is their count": of codes, primes, chart rows and essential primes; Write's answer is a number of bytes
abbrev pub number_of_count : ℕ → ℕ
number_of_count k = k

abbrev pub count_number : Answer ℕ → ℤ
count_number = number_by number_of_count

-- how the answer is read off the number: it is the count
abbrev pub read_count : ℤ → Answer ℕ
read_count = read_by (λ k. k)

-- 0 for a row, whose value and care stand in the lent bytes
abbrev pub number_of_row : Row → ℕ
number_of_row row = 0

abbrev pub spell_number : Answer Row → ℤ
spell_number = number_by number_of_row

-- how the answer is read off the number and the two bytes: they are the row, unless the number is below 0
abbrev pub read_spell : ℤ → ℕ → ℕ → Answer Row
read_spell z value care = read_by (λ k. record { value = value; care = care }) z

-- "A refusal [..] changes no lent byte": a lent byte afterwards, into which this part of the row goes
abbrev pub byte_after : (Row → ℕ) → Answer Row → ℕ → ℕ
byte_after part (gives row) old = part row
byte_after part (refuses k) old = old

-- "10,000 × rows + tested bits"
abbrev pub number_of_totals : Totals → ℕ
number_of_totals a = 10000 * a.rows + a.bits

abbrev pub plan_number : Answer Totals → ℤ
plan_number = number_by number_of_totals

-- how the answer is read off the number: rows are number / 10,000, bits number % 10,000
abbrev pub totals_at : ℕ → Totals
totals_at k = record { rows = k / 10000; bits = k % 10000 }

abbrev pub read_plan : ℤ → Answer Totals
read_plan = read_by totals_at

-- which list, and its counts: 10,000 × rows + tested bits, and 100,000,000 more for the keep-out list
abbrev pub number_of_built : Built → ℕ
number_of_built (Ordinary a) = number_of_totals a
number_of_built (KeepOut a) = 100000000 + number_of_totals a

abbrev pub better_number : Answer Built → ℤ
better_number = number_by number_of_built

-- how the answer is read off the number: from 100,000,000 on it is the keep-out list, and the counts are read off number % 100,000,000 as Plan's are
abbrev pub built_at : ℕ → Built
built_at k = cond (ltb k 100000000) (Ordinary (totals_at (k % 100000000))) (KeepOut (totals_at (k % 100000000)))

abbrev pub read_better : ℤ → Answer Built
read_better = read_by built_at

-- "0 right, 1 + code missed, 257 + code stray"
abbrev pub number_of_verdict : Verdict → ℕ
number_of_verdict Right = 0
number_of_verdict (Missed c) = 1 + c
number_of_verdict (Stray c) = 257 + c

abbrev pub check_number : Answer Verdict → ℤ
check_number = number_by number_of_verdict

-- how the answer is read off the number: 0 right, 1 to 256 missed, 257 and more stray
abbrev pub verdict_at : ℕ → Verdict
verdict_at zero = Right
verdict_at (suc k) = cond (ltb k 256) (Missed k) (Stray (k - 256))

abbrev pub read_check : ℤ → Answer Verdict
read_check = read_by verdict_at

-- what rows_check returns tells its answer, whatever the call: codes are below 256
abbrev pub CheckRead : ℕ → List ℕ → List ℕ → List ℕ → Type 0
CheckRead n t vs ws = read_check (check_number (check_of n t vs ws)) ≡ check_of n t vs ws

-- "width and count": 100,000 × width + count
abbrev pub number_of_header : Header → ℕ
number_of_header a = 100000 * a.width + a.count

abbrev pub width_and_count_number : Answer Header → ℤ
width_and_count_number = number_by number_of_header

-- how the answer is read off the number: the width is number / 100,000, the count number % 100,000
abbrev pub header_at : ℕ → Header
header_at k = record { width = k / 100000; count = k % 100000 }

abbrev pub read_width_and_count : ℤ → Answer Header
read_width_and_count = read_by header_at

-- What rows_spell promises: the number of Spell's answer, the two lent bytes, and that the answer can be read off the three.
pub record SpellsForC (answer : Answer Row) (value care value' care' : ℕ) (r : ℤ) : Type 0 where
  pub number : r ≡ spell_number answer
  pub value_is : value' ≡ byte_after (λ row. row.value) answer value
  pub care_is : care' ≡ byte_after (λ row. row.care) answer care
  pub read : read_spell r value' care' ≡ answer

-- What a call that writes a list promises to C, refused input included: the number of its answer, the lent places, and that the answer can be read back from
-- the number.
pub record ListedForC {A : Type 0} (refusal : ℕ) (list old new : List A) (r : ℤ) : Type 0 where
  pub number : r ≡ count_number (answered refusal (length list))
  pub places : new ≡ written refusal list old
  pub read : read_count r ≡ answered refusal (length list)

-- What rows_plan promises: Plan's promise, of an answer whose number is returned, and which can be read back from the number.
pub record PlansForC (n : ℕ) (t values cares values' cares' : List ℕ) (r : ℤ) : Type 0 where
  pub planned : Result Totals Refusal
  pub plans : Plans n t values cares values' cares' planned
  pub number : r ≡ plan_number (answer_of planned)
  pub read : read_plan r ≡ answer_of planned

-- What rows_keep_out promises: the same for the keep-out call.
pub record PlansKeepOutForC (n : ℕ) (t values cares values' cares' : List ℕ) (r : ℤ) : Type 0 where
  pub planned : Result Totals Refusal
  pub plans : PlansKeepOut n t values cares values' cares' planned
  pub number : r ≡ plan_number (answer_of planned)
  pub read : read_plan r ≡ answer_of planned

-- What rows_better promises: the promise of the call that builds both lists, of an answer whose number is returned, and which can be read back from the number.
pub record BuildsForC (n : ℕ) (t values cares values' cares' : List ℕ) (r : ℤ) : Type 0 where
  pub built : Result Built Refusal
  pub builds : Builds n t values cares values' cares' built
  pub number : r ≡ better_number (answer_of built)
  pub read : read_better r ≡ answer_of built

-- What rows_read promises, refused input included: the number of Read's answer, the two arrays, that there are no more rows than a list may have, and that
-- the answer can be read back from the number.
pub record ReadsForC (file values cares values' cares' : List ℕ) (r : ℤ) : Type 0 where
  pub number : r ≡ width_and_count_number (read_of one_byte_count file (length values) (length cares))
  pub values_are : values' ≡ written (read_refuses one_byte_count file (length values) (length cares)) (values_in one_byte_count file) values
  pub cares_are : cares' ≡ written (read_refuses one_byte_count file (length values) (length cares)) (cares_in one_byte_count file) cares
  pub few : read_refuses one_byte_count file (length values) (length cares) ≡ 0 → one_byte_count.count file ≤ most_rows
  pub read : read_width_and_count r ≡ read_of one_byte_count file (length values) (length cares)
