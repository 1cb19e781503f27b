-- Document 02's example: the exchanged table of 0111 has one prime, 00, so there is one list, and the checker computes its line. Assumes nothing.
use mathlib.Core.Path.{◌≡◌, refl, ap, ◌∙◌}
use mathlib.Core.List.{[], ◌∷◌}
use Prim.Native.Nat.{◌≤◌}
use native.Mathlib.Omega.{arith}
use lib.Dec.{lit<}
use lib.ListN.{length}
use Rattle.numbers.specs.Below.{every, some, those}
use Rattle.cube.specs.Words.{Cover, value_of, care_of, cover_matches, cube_matches, cube_literals, within, implicant, prime, primes_of}
use Rattle.cube.specs.Calls.{bad_cell}
use Rattle.plan.specs.Plan.{ascends_from}
use Rattle.plan.proofs.Sole.{all_primes}
use Rattle.keep_out.specs.KeepOut.{MayKeepOut}
use Rattle.keep_out.specs.Theorems.{exchanged}
use Rattle.keep_out.proofs.Exchanging.{exchange}
use Rattle.keep_out.proofs.Refuted.{all_but_zero, zero_alone}
use Rattle.text.specs.Characters.{bytes}
use Rattle.text.specs.Input.{read, read_run}
use Rattle.text.specs.Output.{output_by}
use Rattle.product.specs.Product.{excluding_line}
use Rattle.product.proofs.Examples.{product_examples}
use Rattle.sums_reply.specs.Theorems.{GivesSum}

-- some row is needed
one_row : (list : Cover) → MayKeepOut 2 all_but_zero list → 1 ≤ length list
unfolding cover_matches
one_row [] w = absurd (w.minimum.keeps_out.every_barred 0 (lit< tt) tt)
one_row (r ∷ rs) w = omega arith

the_list : (list : Cover) → MayKeepOut 2 all_but_zero list → list ≡ zero_alone
unfolding ascends_from every some those cube_matches cube_literals within implicant prime primes_of value_of care_of
the_list list w =
    all_primes 2 (exchanged all_but_zero) list (((exchange 2 all_but_zero).lists refl list).0 w.minimum) w.is_ascending tt (omega (arith, one_row list w)) ∙ refl

pub gives_sum : GivesSum
unfolding read read_run bad_cell some
gives_sum output p =
    let is = the_list p.list (p.is_written (record { width = 2; cells = all_but_zero }) refl refl) in
    p.is_output ∙ ap (output_by excluding_line (bytes "2\n0111\n")) is ∙ product_examples.both_zero
