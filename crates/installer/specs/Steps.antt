-- What only the proofs of the functions for C need: a value whose number fits the 32 bits that C gets. Assumes nothing.
use Rattle.std.specs.Prelude.{ℕ, ◌-◌, ◌*◌, ◌^◌, ◌<◌, ◌≤◌}
use Rattle.cube.specs.Calls.{widest, most_rows}
use Rattle.plan.specs.declared.Totals.{Totals}
use Rattle.better.specs.declared.Built.{Built}
use Rattle.better.specs.declared.Built.TheVariants.{Ordinary, KeepOut}
use Rattle.listfile.specs.declared.Header.{Header}

-- a count below 2^31
abbrev pub IsFew : ℕ → Type 0
IsFew k = k < 2 ^ 31

-- totals whose number is far below 2^31: at most a row for each pair of codes, and a tested bit for each variable and row
abbrev pub AreFew : Totals → Type 0
AreFew a = (a.rows ≤ 2 ^ (widest - 1)) × (a.bits ≤ 2 ^ (widest - 1) * widest)

-- the same for the list of either kind
abbrev pub IsSmall : Built → Type 0
IsSmall (Ordinary a) = AreFew a
IsSmall (KeepOut a) = AreFew a

-- a width and a row count in range
abbrev pub HasFewRows : Header → Type 0
HasFewRows a = (a.width ≤ widest) × (a.count ≤ most_rows)
