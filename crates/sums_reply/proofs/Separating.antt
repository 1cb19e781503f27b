-- What `sums` prints for a table is 1 on its wanted codes and 0 on its barred ones: the list matches every barred code and no wanted one, and its product of
-- sums is 1 exactly on the codes that it does not match. Assumes nothing.
use mathlib.Core.Path.{◌≡◌, sym, ap, ◌∙◌}
use mathlib.Core.Logic.{◌↔◌}
use mathlib.Core.Bool.{Bool, not}
use mathlib.Core.List.{List}
use Prim.Native.Nat.{ℕ}
use Rattle.cube.specs.Words.{cover_matches}
use Rattle.cube.specs.Calls.{Answer}
use Rattle.numbers.proofs.Bools.{is_true, is_false}
use Rattle.text.specs.Input.{Table}
use Rattle.text.specs.Output.{table_text, printed}
use Rattle.product.specs.Product.{excluding_text, excluding_line}
use Rattle.product.proofs.Meaning.{excludes_matched}
use Rattle.sums_reply.specs.Theorems.{SumsSeparate}

-- a text that has exactly the value b has exactly the value a that b is
has : {P : Type 0} {a b : Bool} (v : Bool) → P ↔ (v ≡ b) → b ≡ a → P ↔ (v ≡ a)
has v e is = (λ p. e.0 p ∙ is, λ q. e.1 (q ∙ sym is))

pub sums_separate : (input output : List ℕ) → SumsSeparate input output
sums_separate input output p t e accepted =
    let n = t.width in
    let keeps = (p.is_written t e accepted).minimum.keeps_out in
    let value = excludes_matched n p.list keeps.formed in
    record {
      text = excluding_text n p.list;
      line =
          p.is_output ∙ ap (λ (a : Answer Table). printed excluding_line a p.list) e ∙ ap (λ (k : ℕ). table_text excluding_line k n p.list) accepted;
      wanted = λ c l w v. has v (value c v) (ap not (is_false (cover_matches p.list c) (keeps.no_wanted c l w)));
      barred = λ c l b v. has v (value c v) (ap not (is_true (cover_matches p.list c) (keeps.every_barred c l b)));
    }
