-- `listfile::put_file` meets its contract: the header, the values and the cares are three runs of stores, each right after the one before.
-- Assumes nothing.
use mathlib.Core.Path.{◌≡◌, sym, ap, ◌∙◌}
use mathlib.Core.List.{List, ◌++◌, append_assoc}
use Prim.Native.Nat.{ℕ, ◌+◌, ◌-◌, ◌≤◌}
use native.Mathlib.Omega.{arith}
use lib.ListN.{length, take, drop}
use lib.Seq.{sets, length-sets, drop-drop}
use borrow.Rule.Slice.PartMut.{put_mid}
use Rattle.std.proofs.lemmas.List.Edits.{sets-eq}
use Rattle.numbers.proofs.Lent.{sets_append, sets_front}
use Rattle.listfile.specs.File.{one_byte_count, file_of}
use Rattle.listfile.specs.Steps.{Writable}
use Rattle.listfile.proofs.put_file.Goals as goal

-- a part that is written whole is a run of stores
run : (a k : ℕ) (xs ys part : List ℕ) → part ≡ ys → length ys ≡ k → a + k ≤ length xs → put_mid a k xs part ≡ sets xs a ys
run a k xs ys part e l h =
    ap (λ (p : List ℕ). put_mid a k xs p) e ∙ sym (append_assoc (take a xs) ys (drop k (drop a xs)))
    ∙ ap (λ (r : List ℕ). take a xs ++ ys ++ r) (drop-drop k a xs ∙ ap (λ (i : ℕ). drop (a + i) xs) (sym l))
    ∙ sym (sets-eq ys xs a (omega arith))

module _ (n : ℕ) (vs ws old : List ℕ) (equal : length vs ≡ length ws) (f : Writable n vs old) (count : ℕ) (rows : count ≡ length vs) where
  abbrev behind : ℕ
  behind = one_byte_count.size + count

  -- the header is in its place
  abbrev begun : List ℕ
  begun = sets old 0 (one_byte_count.bytes n (length vs))

  stored : (head vs' ws' : List ℕ) → head ≡ one_byte_count.bytes n count → vs' ≡ vs → ws' ≡ ws
      → put_mid behind (behind + count - behind) (put_mid 2 (behind - 2) (head ++ drop 2 old) vs') ws' ≡ sets old 0 (file_of one_byte_count n vs ws)
  unfolding file_of
  stored head vs' ws' b v w =
      let long : length begun ≡ length old = length-sets old 0 (one_byte_count.bytes n (length vs)) in
      ap (λ (l : List ℕ). put_mid behind (behind + count - behind) l ws')
      (ap (λ (l : List ℕ). put_mid 2 (behind - 2) (l ++ drop 2 old) vs') (b ∙ ap (one_byte_count.bytes n) rows)
      ∙ ap (λ (l : List ℕ). put_mid 2 (behind - 2) l vs') (sym (sets_front (one_byte_count.bytes n (length vs)) old (omega (arith, f.room))))
      ∙ run 2 (behind - 2) begun vs vs' v (omega (arith, rows)) (omega (arith, f.room, long, rows)))
      ∙ run behind (behind + count - behind) (sets begun 2 vs) ws ws' w (omega (arith, equal, rows)) (omega (arith, f.room, equal, long, length-sets begun 2 vs, rows))
      ∙ ap (λ (k : ℕ). sets (sets begun 2 vs) (one_byte_count.size + k) ws) rows ∙ sets_append begun 2 vs ws

pub returns : goal.returns
returns c =
    stored c.args.n c.args.rows.values.now c.args.rows.cares.now c.args.out.now c.args.rows.paired c.requires _ c.len-count.ensures _ _ _ c.copy_from_slice.ensures.after c.copy_from_slice-2.ensures.after
    c.copy_from_slice-3.ensures.after
