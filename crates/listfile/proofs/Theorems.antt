-- `Layout` of `specs/Theorems.antt`: the file is the header, the values and the cares one after another, so a position in it is one in one of the three.
-- Assumes nothing.
use mathlib.Core.Path.{◌≡◌, refl, ap, ◌∙◌}
use mathlib.Core.List.{List, ◌++◌}
use Prim.Native.Nat.{ℕ, ◌+◌}
use native.Mathlib.Omega.{arith}
use lib.ListN.{length, length-append, get_or, get_or-append}
use lib.Seq.{get_or-append-add}
use Rattle.listfile.specs.File.{one_byte_count, file_length, file_of}
use Rattle.listfile.specs.Theorems.{Layout}

module _ (n : ℕ) (vs ws : List ℕ) where
  -- past the header
  behind_header : (i : ℕ) → get_or (file_of one_byte_count n vs ws) (2 + i) 0 ≡ get_or (vs ++ ws) i 0
  unfolding file_of
  behind_header i = get_or-append-add (one_byte_count.bytes n (length vs)) (vs ++ ws) i 0

  pub file_length_lem : length vs ≡ length ws → length (file_of one_byte_count n vs ws) ≡ file_length one_byte_count (length vs)
  unfolding file_of
  file_length_lem e = omega (arith, length-append vs ws)

  pub layout : (e : length vs ≡ length ws) → Layout n vs ws e
  unfolding file_of
  layout e = record {
    width = refl;
    rows = refl;
    values = λ i l. behind_header i ∙ get_or-append vs ws 0 i l;
    cares = λ i l.
        let a : 2 + length vs + i ≡ 2 + (length vs + i) = omega arith in
        ap (λ (k : ℕ). get_or (file_of one_byte_count n vs ws) k 0) a ∙ behind_header (length vs + i) ∙ get_or-append-add vs ws i 0;
    answer = file_length_lem e;
  }
