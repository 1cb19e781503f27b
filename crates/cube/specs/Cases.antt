-- The cases a to j of document 01, with document 02's count of primes for case d, gathered as one list under a common statement. Assumes nothing.
use Rattle.std.specs.Prelude.{◌≡◌, ℕ, ◌^◌, cond, List, [], ◌∷◌, length}
use Rattle.numbers.specs.Below.{among, tabulate}
use Rattle.cube.specs.Words.{Cover, cover_literals, serving_primes_of, essentials_of}
use Rattle.cube.specs.Minimum.{Minimum}

-- "width; wanted; free; then primes, essentials, rows, bits"
pub record Case : Type 0 where
  pub width : ℕ
  pub wanted : List ℕ
  pub free : List ℕ
  pub primes : ℕ
  pub essentials : ℕ
  pub rows : ℕ
  pub bits : ℕ

-- one cell per code
unfoldable pub table_of : Case → List ℕ
table_of k = tabulate (2 ^ k.width) 0 (λ c. cond (among c k.wanted) 1 (cond (among c k.free) 2 0))

-- the case has this many primes that are listed and this many essentials, and its shortest lists, among all lists, have this many rows and tested bits
pub record Holds (k : Case) : Type 0 where
  pub primes : length (serving_primes_of k.width (table_of k)) ≡ k.primes
  pub essentials : length (essentials_of k.width (table_of k)) ≡ k.essentials
  pub list : Cover
  pub minimum : Minimum k.width (table_of k) list
  pub rows : length list ≡ k.rows
  pub bits : cover_literals k.width list ≡ k.bits

-- each case of the list holds
abbrev pub AllHold : List Case → Type 0
AllHold [] = Unit
AllHold (k ∷ ks) = Holds k × AllHold ks

abbrev pub case_a : Case
case_a = record { width = 1; wanted = []; free = []; primes = 0; essentials = 0; rows = 0; bits = 0 }

abbrev pub case_b : Case
case_b = record { width = 1; wanted = 0 ∷ 1 ∷ []; free = []; primes = 1; essentials = 1; rows = 1; bits = 0 }

abbrev pub case_c : Case
case_c = record { width = 2; wanted = 3 ∷ []; free = 1 ∷ []; primes = 1; essentials = 1; rows = 1; bits = 1 }

-- "Case d then has one prime" (document 02): code 3 is free, so its cube serves nobody
abbrev pub case_d : Case
case_d = record { width = 2; wanted = 0 ∷ []; free = 3 ∷ []; primes = 1; essentials = 1; rows = 1; bits = 2 }

abbrev pub case_e : Case
case_e = record { width = 3; wanted = 1 ∷ 2 ∷ 3 ∷ 4 ∷ 5 ∷ 6 ∷ []; free = []; primes = 6; essentials = 0; rows = 3; bits = 6 }

abbrev pub case_f : Case
case_f = record { width = 4; wanted = 7 ∷ 9 ∷ 10 ∷ 12 ∷ 13 ∷ 14 ∷ 15 ∷ []; free = []; primes = 4; essentials = 4; rows = 4; bits = 11 }

abbrev pub case_g : Case
case_g = record { width = 4; wanted = 0 ∷ 1 ∷ 2 ∷ 3 ∷ 4 ∷ 6 ∷ 7 ∷ 8 ∷ 9 ∷ 11 ∷ 15 ∷ []; free = []; primes = 6; essentials = 3; rows = 3; bits = 6 }

abbrev pub case_h : Case
case_h = record { width = 4; wanted = 0 ∷ 1 ∷ 8 ∷ 9 ∷ 10 ∷ []; free = []; primes = 2; essentials = 2; rows = 2; bits = 5 }

abbrev pub case_i : Case
case_i = record { width = 4; wanted = 0 ∷ 1 ∷ 2 ∷ 3 ∷ 5 ∷ 6 ∷ 8 ∷ 11 ∷ []; free = []; primes = 5; essentials = 4; rows = 4; bits = 12 }

abbrev pub case_j : Case
case_j = record { width = 4; wanted = 0 ∷ 1 ∷ 2 ∷ 5 ∷ 6 ∷ 7 ∷ 9 ∷ 10 ∷ 11 ∷ 13 ∷ 14 ∷ 15 ∷ []; free = []; primes = 8; essentials = 0; rows = 4; bits = 9 }

-- a, b, c, d, e, f, g, h, i, j
unfoldable pub cases : List Case
cases = case_a ∷ case_b ∷ case_c ∷ case_d ∷ case_e ∷ case_f ∷ case_g ∷ case_h ∷ case_i ∷ case_j ∷ []
