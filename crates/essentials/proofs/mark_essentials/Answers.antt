-- `essentials::mark_essentials` meets its contract: a prime that holds a sole entry is essential, and no other cube is. Assumes nothing.
use Rattle.std.proofs.Common.{◌≡◌, ℕ, ◌^◌, List, length, ap, sym, ◌∙◌, subst₂, arith}
use Rattle.numbers.specs.Below.{tabulate}
use Rattle.numbers.proofs.Below.{tabulate-length}
use Rattle.essentials.specs.Steps.{prime_word, SoleColumns}
use Rattle.essentials.proofs.SoleEntries.{holder_is_essential}
use Rattle.essentials.proofs.mark_essentials.Goals as goal

-- the words of the primes are as many as the cubes
words_long : (n : ℕ) (t words : List ℕ) → words ≡ tabulate (3 ^ n) 0 (prime_word n t) → length words ≡ 3 ^ n
words_long n t words e = ap length e ∙ tabulate-length (prime_word n t) (3 ^ n) 0

pub mark_holders-requires : goal.mark_holders-requires
mark_holders-requires c =
    let n = c.args.table.width in
    let t = c.args.table.cells.now in
    omega (arith, c.requires, c.mark_serving_primes.auto.marks, words_long n t _ (c.as_slice-2.ensures.value ∙ c.prime_words.ensures))

pub returns : goal.returns
returns c q l =
    let n = c.args.table.width in
    let t = c.args.table.cells.now in
    let words : c.as_slice-2.result.now ≡ tabulate (3 ^ n) 0 (prime_word n t) = c.as_slice-2.ensures.value ∙ c.prime_words.ensures in
    let same : c.as_slice.result.now ≡ c.as_slice-2.result.now = c.as_slice.ensures.value ∙ sym c.as_slice-2.ensures.value in
    let sole : SoleColumns c.as_slice-2.result.now (3 ^ n) c.sole_columns-sole.result =
    subst₂ (λ (ws : List ℕ) (m : ℕ). SoleColumns ws m c.sole_columns-sole.result) same (ap length same ∙ words_long n t _ words) c.sole_columns-sole.ensures in
    let held = c.mark_holders.ensures q (omega (arith, words_long n t _ words)) in
    holder_is_essential n t c.as_slice-2.result.now c.sole_columns-sole.result words sole q l _ held
