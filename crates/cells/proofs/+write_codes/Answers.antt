-- `cells::write_codes` meets its contract: the codes of a cube are its one code, or those of the 0 half and then those of the 1 half, and what is
-- put right after another list is put with it. Assumes nothing.
use mathlib.Core.Path.{sym}
use mathlib.Core.List.{List}
use Prim.Native.Nat.{ℕ}
use Rattle.cube.specs.Words.{codes_of}
use Rattle.numbers.specs.Lent.{Puts}
use Rattle.numbers.proofs.Lent.{puts_append, puts_same}
use Rattle.spelling.specs.declared.Cube.{Cube}
use Rattle.cells.specs.Steps.{Splits}
use Rattle.cells.specs.declared.Split.TheVariants.{Halves}
use Rattle.cells.proofs.+write_codes.Goals as goal

two_put : (n q x : ℕ) (low high : Cube) (d e f : List ℕ) (m r : ℕ) → Splits n q (Halves low high) → Puts (codes_of low.width low.number) d x e m
    → Puts (codes_of high.width high.number) e m f r → Puts (codes_of n q) d x f r
two_put n q x low high d e f m r h first second =
    puts_same (sym h.2) (puts_append (rw h.0.width at first) (rw h.1.width at second))

pub returns-in-Halves : goal.returns-in-Halves
returns-in-Halves t c = two_put _ c.args.cube.number _ _ _ c.args.out.now _ _ _ _ c.in-Halves.ensures c.write_codes-middle.ensures c.write_codes.ensures
