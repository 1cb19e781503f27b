-- The round trips of `specs/Theorems.antt`: what the one call leaves, the other does not refuse, and the parts of a file are its list. Assumes nothing.
use mathlib.Core.Path.{◌≡◌, refl, sym, ap, ap₂, ◌∙◌, subst}
use mathlib.Core.Bool.{Bool, false, not}
use mathlib.Core.List.{List, [], ◌∷◌, ◌++◌}
use Prim.Native.Nat.{ℕ, ◌≤◌}
use native.Mathlib.Omega.{arith}
use lib.Dec.{eqb}
use lib.ListN.{length, take}
use mir.Facts.{yes_eqb}
use borrow.Author.Tests.{le-ltb}
use Rattle.std.specs.Prelude.{Result, Ok, Err}
use Rattle.numbers.proofs.Bools.{is_true}
use Rattle.numbers.proofs.Fronts.{front_is}
use Rattle.cube.specs.Words.{rows_of}
use Rattle.cube.specs.Calls.{bad_width, short, unequal_lengths, most_rows, too_many_rows, bad_row, when, first_of, list_conditions, gives, answered, answer_of, refusal_number, written}
use Rattle.cube.specs.declared.Refusal.{Refusal}
use Rattle.cube.proofs.Calls.{first_passes, conditions_pass, AcceptedList, refuses_gives, same_value, none_refuses, listed_count, listed_front, listed_counts}
use Rattle.cube.proofs.Lists.{rows_length}
use Rattle.listfile.specs.File.{one_byte_count, file_length, file_of, width_in, values_in, cares_in}
use Rattle.listfile.specs.Write.{write_refuses, Writes}
use Rattle.listfile.specs.Read.{rows_in, read_refuses, width_and_count, Reads}
use Rattle.listfile.specs.Theorems.{ComesBack, WrittenComesBack, SameBytes, ReadIsWrittenAgain}
use Rattle.listfile.specs.declared.Header.{Header}
use Rattle.listfile.proofs.Theorems.{file_length_lem}
use Rattle.listfile.proofs.Files.{values_in_file, cares_in_file, values_length, cares_length, file_of_parts, write_accepted, AcceptedFile, file_passes, refuses_none, read_accepted, read_gives}

-- ---- written, then read

module _ (n : ℕ) (vs ws out : List ℕ) (e : write_refuses one_byte_count n vs ws (length out) ≡ 0) where
  good : bad_width n ≡ false
  good = (write_accepted one_byte_count n vs ws (length out) e).0

  list : AcceptedList n vs ws
  list = (write_accepted one_byte_count n vs ws (length out) e).1

  abbrev file : List ℕ
  file = file_of one_byte_count n vs ws

  same_rows : rows_in one_byte_count file ≡ rows_of vs ws
  same_rows = ap₂ rows_of (values_in_file n vs ws) (cares_in_file n vs ws list.equal)

  count_in_file : one_byte_count.count file ≡ length vs
  unfolding file_of
  count_in_file = refl

  width_in_file : width_in file ≡ n
  unfolding file_of
  width_in_file = refl

  file_accepted : AcceptedFile one_byte_count file
  file_accepted = record {
    whole = file_length_lem n vs ws list.equal ∙ ap (file_length one_byte_count) (sym count_in_file);
    width = ap bad_width width_in_file ∙ good;
    formed = ap₂ bad_row width_in_file same_rows ∙ list.formed;
  }

  module _ (values cares values' cares' : List ℕ) (l : length vs ≤ length values) (m : length vs ≤ length cares) where
    passes : read_refuses one_byte_count file (length values) (length cares) ≡ 0
    passes =
        sym
        (refuses_none one_byte_count file (length values) (length cares) (file_passes one_byte_count file file_accepted) (omega (arith, count_in_file, l))
        (omega (arith, count_in_file, m)))

    comes_back : (r : Result Header Refusal) → Reads one_byte_count file values cares values' cares' r → ComesBack n vs ws values' cares' r
    comes_back r p = record {
      answer = answers r (p.answer ∙ ap (λ (k : ℕ). answered k (width_and_count one_byte_count file)) passes);
      values = front_is vs values refl (p.values_are ∙ ap₂ (λ (k : ℕ) (l : List ℕ). written k l values) passes (values_in_file n vs ws));
      cares =
          front_is ws cares list.equal (p.cares_are ∙ ap₂ (λ (k : ℕ) (l : List ℕ). written k l cares) passes (cares_in_file n vs ws list.equal));
    }
      where
        answers : (r : Result Header Refusal) → answer_of r ≡ gives (width_and_count one_byte_count file) → r ≡ Ok (record { width = n; count = length vs })
        answers (Ok header) h = ap Ok (same_value _ _ h ∙ ap₂ (λ (a b : ℕ). record { width = a; count = b }) width_in_file count_in_file)
        answers (Err e) h = absurd (refuses_gives (refusal_number e) _ h)

pub written_comes_back : WrittenComesBack
written_comes_back n vs ws out out' bytes w values cares values' cares' r l m p =
    comes_back n vs ws out (none_refuses w) values cares values' cares' l m r
    (subst (λ (f : List ℕ). Reads one_byte_count f values cares values' cares' r) (listed_front w) p)

-- ---- read, then written

module _ (file : List ℕ) (few : one_byte_count.count file ≤ most_rows) (a : AcceptedFile one_byte_count file) where
  abbrev vs : List ℕ
  vs = values_in one_byte_count file

  abbrev ws : List ℕ
  ws = cares_in one_byte_count file

  equal : length vs ≡ length ws
  equal = values_length one_byte_count file a.whole ∙ sym (cares_length one_byte_count file a.whole)

  rows_count : length (rows_of vs ws) ≡ one_byte_count.count file
  rows_count = rows_length vs ws equal ∙ values_length one_byte_count file a.whole

  list_passes : first_of (list_conditions (width_in file) vs ws) ≡ 0
  list_passes =
      let last = when (bad_row (width_in file) (rows_of vs ws)) 7 ∷ [] in
      first_passes (unequal_lengths vs ws) 5 (when (too_many_rows (length (rows_of vs ws))) 6 ∷ last) (ap not (is_true (eqb (length vs) (length ws)) (yes_eqb equal)))
      ∙ first_passes (too_many_rows (length (rows_of vs ws))) 6 last (le-ltb most_rows (length (rows_of vs ws)) (omega (arith, rows_count, few))) ∙ first_passes (bad_row (width_in file) (rows_of vs ws)) 7 [] a.formed

  module _ (out out' : List ℕ) (l : length file ≤ length out) where
    abbrev room : Bool
    room = short (length out) (file_length one_byte_count (length (rows_of vs ws)))

    write_passes : write_refuses one_byte_count (width_in file) vs ws (length out) ≡ 0
    write_passes =
        first_passes (bad_width (width_in file)) 1 (list_conditions (width_in file) vs ws ++ (when room 4 ∷ [])) a.width
        ∙ conditions_pass (list_conditions (width_in file) vs ws) (when room 4 ∷ []) tt list_passes
        ∙ first_passes room 4 [] (le-ltb (length out) (file_length one_byte_count (length (rows_of vs ws))) (omega (arith, l, rows_count, a.whole)))

    same_bytes : (r : Result ℕ Refusal) → Writes one_byte_count (width_in file) vs ws out out' r → SameBytes file out' r
    same_bytes r w = go (listed_counts r write_passes w)
      where
        go : (k : ℕ) × (r ≡ Ok k) → SameBytes file out' r
        go (k, e) =
            let w' : Writes one_byte_count (width_in file) vs ws out out' (Ok k) = subst (λ (x : Result ℕ Refusal). Writes one_byte_count (width_in file) vs ws out out' x) e w in
            let long : k ≡ length file = listed_count w' ∙ ap length (file_of_parts file a.whole) in
            record { answer = e ∙ ap Ok long; bytes = ap (λ (i : ℕ). take i out') (sym long) ∙ listed_front w' ∙ file_of_parts file a.whole }

module _ (file values cares values' cares' : List ℕ) (n count : ℕ) (p : Reads one_byte_count file values cares values' cares' (Ok (record { width = n; count = count }))) where
  none : read_refuses one_byte_count file (length values) (length cares) ≡ 0
  none = (read_gives p).not_refused

  file_is : AcceptedFile one_byte_count file
  file_is = read_accepted one_byte_count file (length values) (length cares) none

  values_read : take count values' ≡ values_in one_byte_count file
  values_read =
      front_is (values_in one_byte_count file) values ((read_gives p).count_is ∙ sym (values_length one_byte_count file file_is.whole))
      (p.values_are ∙ ap (λ (k : ℕ). written k (values_in one_byte_count file) values) none)

  cares_read : take count cares' ≡ cares_in one_byte_count file
  cares_read =
      front_is (cares_in one_byte_count file) cares ((read_gives p).count_is ∙ sym (cares_length one_byte_count file file_is.whole))
      (p.cares_are ∙ ap (λ (k : ℕ). written k (cares_in one_byte_count file) cares) none)

  again : (out out' : List ℕ) (r : Result ℕ Refusal) → length file ≤ length out → Writes one_byte_count n (take count values') (take count cares') out out' r → SameBytes file out' r
  again out out' r l w =
      same_bytes file (p.few none) file_is out out' l r
      (subst (λ (k : ℕ). Writes one_byte_count k (values_in one_byte_count file) (cares_in one_byte_count file) out out' r) (read_gives p).width_is
      (subst (λ (l : List ℕ). Writes one_byte_count n (values_in one_byte_count file) l out out' r) cares_read
      (subst (λ (l : List ℕ). Writes one_byte_count n l (take count cares') out out' r) values_read w)))

pub read_is_written_again : ReadIsWrittenAgain
read_is_written_again = again
