-- The rows of a list written one after the other: what is written and what is left are all, so there is room for the next piece where there is room for all.
-- Assumes nothing.
use Rattle.std.proofs.Common.{ℕ, ◌+◌, ◌≤◌, ◌≡◌, List, ◌++◌, length, arith, ap, length-append}

pub next_room : (out piece rest : List ℕ) {all : List ℕ} → out ++ (piece ++ rest) ≡ all → length out + length piece ≤ length all
next_room out piece rest e = omega (arith, ap length e, length-append out (piece ++ rest), length-append piece rest)
