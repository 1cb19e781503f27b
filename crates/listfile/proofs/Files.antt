-- The parts of a file: those of the file of a list are the list's arrays, and a whole file is made of its parts. What a file that is not refused has, what
-- Write and Read refuse, and what an answer of Read says. Assumes nothing.
use mathlib.Core.Path.{◌≡◌, sym, ap, ap₂, ◌∙◌}
use mathlib.Core.Bool.{Bool, false, not, ◌||◌}
use mathlib.Core.List.{List, [], ◌∷◌, ◌++◌}
use Prim.Native.Nat.{ℕ, suc, ◌+◌, ◌≤◌}
use native.Mathlib.Omega.{arith}
use lib.Dec.{eqb, ltb}
use lib.ListN.{length, take, drop, length-drop, take-append-drop}
use lib.Seq.{length-take-le, take-length, take-append_seam, drop-append_seam}
use mir.Facts.{yes_eqb}
use borrow.Author.Tests.{le-ltb, eqb-true, not-false}
use Rattle.std.specs.Prelude.{Ok}
use Rattle.std.proofs.lemmas.Bool.{or_parts}
use Rattle.numbers.proofs.Bools.{is_true}
use Rattle.cube.specs.Words.{rows_of}
use Rattle.cube.specs.Calls.{bad_width, short, bad_row, bad_file, when, first_of, list_conditions}
use Rattle.cube.proofs.Calls.{first_passes, none_first, none_in_front, AcceptedList, accepted_list, last_passes, last_none, neither_short, answered_gives}
use Rattle.listfile.specs.File.{Format, one_byte_count, file_length, file_of, width_in, values_in, cares_in}
use Rattle.listfile.specs.Write.{write_refuses}
use Rattle.listfile.specs.Read.{rows_in, wrong_length, file_conditions, read_refuses, width_and_count, Reads}
use Rattle.listfile.specs.declared.Header.{Header}

-- past the first two bytes
behind_two : (a b k : ℕ) (rest : List ℕ) → drop (2 + k) (a ∷ b ∷ rest) ≡ drop k rest
behind_two a b k rest = ap (λ (i : ℕ). drop i (a ∷ b ∷ rest)) (let e : 2 + k ≡ suc (suc k) = omega arith in e)

-- ---- the file of a list

module _ (n : ℕ) (vs ws : List ℕ) where
  pub values_in_file : values_in one_byte_count (file_of one_byte_count n vs ws) ≡ vs
  unfolding file_of
  values_in_file = take-append_seam vs ws

  pub cares_in_file : length vs ≡ length ws → cares_in one_byte_count (file_of one_byte_count n vs ws) ≡ ws
  unfolding file_of
  cares_in_file e =
      ap (λ (l : List ℕ). take (length vs) l) (behind_two n (length vs) (length vs) (vs ++ ws) ∙ drop-append_seam vs ws) ∙ ap (λ (k : ℕ). take k ws) e
      ∙ take-length ws

-- ---- a whole file

-- a file of the length that its row count asks for
abbrev pub Whole : Format → List ℕ → Type 0
Whole format file = length file ≡ file_length format (format.count file)

module _ (format : Format) (file : List ℕ) (whole : Whole format file) where
  pub values_length : length (values_in format file) ≡ format.count file
  values_length = length-take-le (format.count file) (drop format.size file) (omega (arith, whole, length-drop format.size file))

  pub cares_length : length (cares_in format file) ≡ format.count file
  cares_length =
      length-take-le (format.count file) (drop (format.size + format.count file) file)
      (omega (arith, whole, length-drop (format.size + format.count file) file))

-- the file that its parts make
pub file_of_parts : (file : List ℕ) → Whole one_byte_count file → file_of one_byte_count (width_in file) (values_in one_byte_count file) (cares_in one_byte_count file) ≡ file
unfolding file_of
file_of_parts [] whole = absurd (omega (arith, whole))
file_of_parts (n ∷ []) whole = absurd (omega (arith, whole))
file_of_parts (n ∷ rows ∷ rest) whole =
    ap₂ (λ (k : ℕ) (l : List ℕ). n ∷ k ∷ l) (values_length one_byte_count (n ∷ rows ∷ rest) whole)
    (ap (λ (l : List ℕ). take rows rest ++ l) (ap (λ (l : List ℕ). take rows l) (behind_two n rows rows rest) ∙ all_cares) ∙ take-append-drop rows rest)
  where
    all_cares : take rows (drop rows rest) ≡ drop rows rest
    all_cares =
        let l : length (drop rows rest) ≡ rows = omega (arith, whole, length-drop rows rest) in
        ap (λ (k : ℕ). take k (drop rows rest)) (sym l) ∙ take-length (drop rows rest)

-- ---- a file that is not refused

pub record AcceptedFile (format : Format) (file : List ℕ) : Type 0 where
  pub whole : Whole format file
  pub width : bad_width (width_in file) ≡ false
  pub formed : bad_row (width_in file) (rows_in format file) ≡ false

-- a file that has the header's length
pub bad_else : (bytes header needed : ℕ) → header ≤ bytes → not (eqb bytes needed) ≡ bad_file bytes header needed
bad_else bytes header needed l = sym (ap (λ (b : Bool). b || not (eqb bytes needed)) (le-ltb bytes header l))

pub right_length : (format : Format) (file : List ℕ) → wrong_length format file ≡ false → Whole format file
right_length format file e =
    let needed = file_length format (format.count file) in
    eqb-true (length file) needed (not-false (eqb (length file) needed) (or_parts (ltb (length file) format.size) (not (eqb (length file) needed)) e).1)

whole_right : (format : Format) (file : List ℕ) → Whole format file → wrong_length format file ≡ false
whole_right format file whole =
    let needed = file_length format (format.count file) in
    sym (bad_else (length file) format.size needed (omega (arith, whole))) ∙ ap not (is_true (eqb (length file) needed) (yes_eqb whole))

pub accepted_file : (format : Format) (file : List ℕ) → first_of (file_conditions format file) ≡ 0 → AcceptedFile format file
accepted_file format file e =
    let a = none_first (wrong_length format file) 9 _ e in
    let b = none_first (bad_width (width_in file)) 0 _ a.1 in
    let c = none_first (bad_row (width_in file) (rows_in format file)) 6 _ b.1 in
    record { whole = right_length format file a.0; width = b.0; formed = c.0 }

-- and the other way round: such a file is not refused
pub file_passes : (format : Format) (file : List ℕ) → AcceptedFile format file → first_of (file_conditions format file) ≡ 0
file_passes format file a =
    let rows = when (bad_row (width_in file) (rows_in format file)) 7 ∷ [] in
    first_passes (wrong_length format file) 10 (when (bad_width (width_in file)) 1 ∷ rows) (whole_right format file a.whole)
    ∙ first_passes (bad_width (width_in file)) 1 rows a.width ∙ first_passes (bad_row (width_in file) (rows_in format file)) 7 [] a.formed

-- ---- what Write does not refuse: a width, and a list of rows that are formed

pub write_accepted : (format : Format) (n : ℕ) (vs ws : List ℕ) (places : ℕ) → write_refuses format n vs ws places ≡ 0 → (bad_width n ≡ false) × AcceptedList n vs ws
write_accepted format n vs ws places e =
    let a = none_first (bad_width n) 0 _ e in
    let past_list = when (short places (file_length format (length (rows_of vs ws)))) 4 ∷ [] in
    (a.0, accepted_list n vs ws (none_in_front (list_conditions n vs ws) past_list a.1))

-- ---- what Read refuses: what the file is refused for, then 4 where either array is short

module _ (format : Format) (file : List ℕ) (values cares : ℕ) where
  abbrev is_short : Bool
  is_short = short values (format.count file) || short cares (format.count file)

  pub refuses_none : first_of (file_conditions format file) ≡ 0 → format.count file ≤ values → format.count file ≤ cares → 0 ≡ read_refuses format file values cares
  refuses_none e v w = last_passes (file_conditions format file) tt is_short 3 e (neither_short values cares (format.count file) v w)

  -- where nothing is refused
  pub read_accepted : read_refuses format file values cares ≡ 0 → AcceptedFile format file
  read_accepted e = accepted_file format file (last_none (file_conditions format file) tt is_short 3 e).0

-- ---- an answer of Read

-- a width and a count: nothing refuses, and they are the file's
pub record Given (format : Format) (file values cares : List ℕ) (n count : ℕ) : Type 0 where
  pub not_refused : read_refuses format file (length values) (length cares) ≡ 0
  pub width_is : n ≡ width_in file
  pub count_is : count ≡ format.count file

pub read_gives : {format : Format} {file values cares values' cares' : List ℕ} {n count : ℕ} → Reads format file values cares values' cares' (Ok (record { width = n; count = count }))
    → Given format file values cares n count
read_gives {format} {file} {values} {cares} {n = n} {count} p =
    let a = answered_gives (read_refuses format file (length values) (length cares)) (record { width = n; count = count }) (width_and_count format file) p.answer in
    record { not_refused = a.0; width_is = ap (λ (x : Header). x.width) a.1; count_is = ap (λ (x : Header). x.count) a.1 }
