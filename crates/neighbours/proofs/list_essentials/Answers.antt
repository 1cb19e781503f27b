-- `neighbours::list_essentials` meets its contract: what is found at the codes before c is listed. Assumes nothing.
use mathlib.Core.Path.{◌≡◌, sym, ap, ◌∙◌, subst₂}
use mathlib.Core.List.{List}
use Prim.Native.Nat.{ℕ, ◌+◌, ◌^◌}
use native.Mathlib.Omega.{arith}
use borrow.Author.Tests.{eq-eqb, ne_eqb}
use Rattle.numbers.specs.Lent.{Puts}
use Rattle.numbers.proofs.Lent.{puts_none, puts_same}
use Rattle.cube.specs.Words.{cell}
use Rattle.neighbours.specs.Steps.{found_below}
use Rattle.neighbours.proofs.Finding.{found_none, found_all, so_far, with_wanted, without_it}
use Rattle.neighbours.proofs.list_essentials.Goals as goal
use Rattle.neighbours.proofs.list_essentials.Goals.{then-cell-eq1, else-cell-eq1}

pub loop-c-init : goal.loop-c-init
loop-c-init c = puts_same (sym (found_none c.args.table.width c.args.table.cells.now)) (puts_none c.args.out.now 0)

pub add_vicinity-count-requires : goal.add_vicinity-count-requires
add_vicinity-count-requires c =
    let s = c.args in record {
      found = so_far s.table.width s.table.cells.now s.out.now c.requires c.loop-c.c c.loop-c.count c.loop-c.out c.loop-c.invariant;
      code = c.loop-c-test.true;
      wanted = eq-eqb (cell s.table.cells.now c.loop-c.c) 1 c.if-cell-eq1.true;
    }

pub loop-c-preserved : goal.loop-c-preserved
loop-c-preserved c =
    let s = c.args in
    let at = c.loop-c in
    let Next : List ℕ → ℕ → Type 0 = λ new k. Puts (found_below s.table.width s.table.cells.now (at.c + 1)) s.out.now 0 new k in
    elim c.if-cell-eq1.branch [
      | then-cell-eq1 w ↦
          subst₂ Next (sym w.out-is) (sym w.count-is)
          (with_wanted s.table.width s.table.cells.now s.out.now c.requires at.c at.count at.out at.invariant w.add_vicinity-count.ensures)
      | else-cell-eq1 w ↦
          subst₂ Next (sym w.out-is) (sym w.count-is)
          (without_it s.table.width s.table.cells.now s.out.now c.requires at.c at.count at.out at.invariant
          (ne_eqb (cell s.table.cells.now at.c) 1 w.if-cell-eq1.false))
    ]

pub returns : goal.returns
returns c =
    let t = c.args.table in
    let e : c.loop-c.c ≡ 2 ^ t.width = omega (arith, t.sized) in
    puts_same (ap (found_below t.width t.cells.now) e ∙ found_all t.width t.cells.now) c.loop-c.invariant
