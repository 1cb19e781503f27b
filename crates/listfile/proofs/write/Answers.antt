-- `listfile::write` meets its contract: the list has as many rows as its arrays places, and the file the length that it asks. Assumes nothing.
use mathlib.Core.Path.{◌≡◌, sym, ap, ap₂, ◌∙◌}
use mathlib.Core.List.{List}
use Prim.Native.Nat.{ℕ}
use native.Mathlib.Omega.{arith}
use lib.ListN.{length}
use lib.Seq.{sets}
use Rattle.lists.specs.declared.Rows.{Rows}
use Rattle.cube.proofs.Calls.{refusals, listed_done}
use Rattle.cube.proofs.Lists.{rows_length}
use Rattle.listfile.specs.File.{one_byte_count, file_of}
use Rattle.listfile.proofs.Theorems.{file_length_lem}
use Rattle.listfile.proofs.write.Goals as goal

-- two arrays of a list have one length
equal : (rows : Rows) (vs ws : List ℕ) → (rows.values.now ≡ vs) × (rows.cares.now ≡ ws) → length vs ≡ length ws
equal rows vs ws e = sym (ap length e.0) ∙ rows.paired ∙ ap length e.1

pub returns : goal.returns
returns c =
    let s = c.args in
    let e = c.in_ok-rows.ensures.rows in
    let long = rows_length s.values.now s.cares.now (equal c.in_ok-rows.rows _ _ e) in
    let file = file_length_lem s.n s.values.now s.cares.now (equal c.in_ok-rows.rows _ _ e) in
    listed_done (grind (arith, refusals))
    (record {
      behind = omega (arith, file);
      places = c.put_file.ensures ∙ ap₂ (λ (vs ws : List ℕ). sets s.out.now 0 (file_of one_byte_count s.n vs ws)) e.0 e.1;
    })
    (omega (arith, file))
