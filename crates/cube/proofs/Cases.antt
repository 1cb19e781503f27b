-- The cases a to j hold: a certificate for each, one test that the checker computes over all ten, and one law. A certificate is a right list
-- with the rows and bits of the case, and as many independent codes whose least literals sum to the bits. Assumes nothing.
use mathlib.Core.Path.{◌≡◌}
use mathlib.Core.Logic.{inl, inr, ⊎_elim}
use mathlib.Core.Bool.{Bool, true, false, ◌&&◌}
use mathlib.Core.List.{List, [], ◌∷◌}
use Prim.Native.Nat.{ℕ, ◌≤◌}
use native.Mathlib.Nat.{eq-or-lt_of_le}
use native.Mathlib.Omega.{arith}
use lib.Dec.{T, eqb, eqb→eq}
use lib.ListN.{length}
use Rattle.numbers.specs.Below.{every, some, those, among, tabulate}
use Rattle.cube.specs.Words.{Row, Cover, row_matches, formed, ones, each_row, all_formed, cover_matches, cover_literals, implements, cube_matches, cube_literals, within, implicant, prime, alone, essential, essentials_of, serves, serving_primes_of}
use Rattle.cube.specs.Cases.{Case, table_of, Holds, AllHold, cases}
use Rattle.numbers.proofs.Bools.{and_l, and_r}
use Rattle.cube.proofs.Independent.{Mark, apart_from, independent, least_literals, bounded}

-- a list, and the codes that show that none is better
record Certificate : Type 0 where
  list : Cover
  marks : List Mark

-- the counts of the case; the list; the marks
abbrev counts_right : Case → Bool
counts_right k = eqb (length (serving_primes_of k.width (table_of k))) k.primes && eqb (length (essentials_of k.width (table_of k))) k.essentials

abbrev list_right : Case → Cover → Bool
list_right k rs =
    (all_formed k.width rs && implements k.width (table_of k) rs) && (eqb (length rs) k.rows && eqb (cover_literals k.width rs) k.bits)

abbrev marks_right : Case → List Mark → Bool
marks_right k ms = independent k.width (table_of k) ms && (eqb (length ms) k.rows && eqb (least_literals ms) k.bits)

unfoldable certifies : Case → Certificate → Bool
certifies k w = counts_right k && (list_right k w.list && marks_right k w.marks)

-- two equations, tested together
both : (a b c d : ℕ) → T (eqb a b && eqb c d) → (a ≡ b) × (c ≡ d)
both a b c d h = (eqb→eq a b (and_l (eqb a b) (eqb c d) h), eqb→eq c d (and_r (eqb a b) (eqb c d) h))

case_holds : (k : Case) (w : Certificate) → T (certifies k w) → Holds k
unfolding certifies
case_holds k w h =
    let n = k.width in
    let t = table_of k in
    let rs = w.list in
    let ms = w.marks in
    let counts = both (length (serving_primes_of n t)) k.primes (length (essentials_of n t)) k.essentials (and_l (counts_right k) (list_right k rs && marks_right k ms) h) in
    let rest = and_r (counts_right k) (list_right k rs && marks_right k ms) h in
    let right = and_l (list_right k rs) (marks_right k ms) rest in
    let good = and_l (all_formed n rs && implements n t rs) (eqb (length rs) k.rows && eqb (cover_literals n rs) k.bits) right in
    let sizes = both (length rs) k.rows (cover_literals n rs) k.bits (and_r (all_formed n rs && implements n t rs) (eqb (length rs) k.rows && eqb (cover_literals n rs) k.bits) right) in
    let marked = and_r (list_right k rs) (marks_right k ms) rest in
    let far = and_l (independent n t ms) (eqb (length ms) k.rows && eqb (least_literals ms) k.bits) marked in
    let sums = both (length ms) k.rows (least_literals ms) k.bits (and_r (independent n t ms) (eqb (length ms) k.rows && eqb (least_literals ms) k.bits) marked) in
    record {
      primes = counts.0;
      essentials = counts.1;
      list = rs;
      minimum = record {
        formed = and_l (all_formed n rs) (implements n t rs) good;
        right = and_r (all_formed n rs) (implements n t rs) good;
        least = λ rival f g.
            let l = bounded n t rival g ms far f in
            let more : length rs ≤ length rival = omega (arith, l.0, sums.0, sizes.0) in
            ⊎_elim (λ x. inr (x, omega (arith, l.1, sums.1, sizes.1))) (λ x. inl x) (eq-or-lt_of_le more);
      };
      rows = sizes.0;
      bits = sizes.1;
    }

unfoldable certified : List Case → List Certificate → Bool
certified [] ws = true
certified (k ∷ ks) [] = false
certified (k ∷ ks) (w ∷ ws) = certifies k w && certified ks ws

all_hold : (ks : List Case) (ws : List Certificate) → T (certified ks ws) → AllHold ks
unfolding certified
all_hold [] ws h = tt
all_hold (k ∷ ks) [] h = absurd h
all_hold (k ∷ ks) (w ∷ ws) h = (case_holds k w (and_l (certifies k w) (certified ks ws) h), all_hold ks ws (and_r (certifies k w) (certified ks ws) h))

row : ℕ → ℕ → Row
row v w = record { value = v; care = w }

mark : ℕ → ℕ → Mark
mark c m = record { code = c; least = m }

certificates : List Certificate
certificates =
    record { list = []; marks = [] }
    ∷ record { list = row 0 0 ∷ []; marks = mark 0 0 ∷ [] }
    ∷ record { list = row 1 1 ∷ []; marks = mark 3 1 ∷ [] }
    ∷ record { list = row 0 3 ∷ []; marks = mark 0 2 ∷ [] }
    ∷ record { list = row 2 6 ∷ row 4 5 ∷ row 1 3 ∷ []; marks = mark 1 2 ∷ mark 2 2 ∷ mark 4 2 ∷ [] }
    ∷ record { list = row 12 12 ∷ row 9 11 ∷ row 10 11 ∷ row 7 7 ∷ []; marks = mark 7 3 ∷ mark 9 3 ∷ mark 10 3 ∷ mark 12 2 ∷ [] }
    ∷ record { list = row 0 9 ∷ row 0 6 ∷ row 3 3 ∷ []; marks = mark 1 2 ∷ mark 4 2 ∷ mark 7 2 ∷ [] }
    ∷ record { list = row 8 13 ∷ row 0 6 ∷ []; marks = mark 0 2 ∷ mark 10 3 ∷ [] }
    ∷ record { list = row 1 11 ∷ row 2 11 ∷ row 0 7 ∷ row 3 7 ∷ []; marks = mark 5 3 ∷ mark 6 3 ∷ mark 8 3 ∷ mark 11 3 ∷ [] }
    ∷ record { list = row 0 14 ∷ row 9 9 ∷ row 5 5 ∷ row 2 3 ∷ []; marks = mark 0 3 ∷ mark 5 2 ∷ mark 6 2 ∷ mark 11 2 ∷ [] }
    ∷ []

pub all_cases : AllHold cases
unfolding cases certificates row mark certified certifies among table_of every some those tabulate row_matches formed ones cube_matches cube_literals within implicant prime alone essential essentials_of serves serving_primes_of cover_matches implements cover_literals each_row apart_from independent least_literals
all_cases = all_hold cases certificates tt
