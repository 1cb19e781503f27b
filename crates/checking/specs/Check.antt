-- Check: "table and two arrays. Answers right; missed with a code (wanted, unmatched); or stray with a code (barred, matched); the lowest wrong
-- code is named. Refuses 1, 2, 3, 5, 6, 7." Assumes nothing.
use Rattle.std.specs.Prelude.{ℕ, ◌^◌, Bool, cond, not, ◌&&◌, ◌||◌, List, [], ◌∷◌, ◌++◌}
use Rattle.numbers.specs.Below.{those}
use Rattle.cube.specs.Words.{on_set, off_set, Cover, cover_matches, rows_of}
use Rattle.cube.specs.Calls.{first_of, table_conditions, list_conditions, Answer, answered}
use Rattle.checking.specs.declared.Verdict.{Verdict}
use Rattle.checking.specs.declared.Verdict.TheVariants.{Right, Missed, Stray}

-- the number that Check refuses with, or 0
abbrev pub check_refuses : ℕ → List ℕ → List ℕ → List ℕ → ℕ
check_refuses n t vs ws = first_of (table_conditions n t ++ list_conditions n vs ws)

-- "missed with a code (wanted, unmatched)"
abbrev pub is_missed : List ℕ → Cover → ℕ → Bool
is_missed t rs c = on_set t c && not (cover_matches rs c)

-- "stray with a code (barred, matched)"
abbrev pub is_stray : List ℕ → Cover → ℕ → Bool
is_stray t rs c = off_set t c && cover_matches rs c

-- a wrong code
abbrev pub is_wrong : List ℕ → Cover → ℕ → Bool
is_wrong t rs c = is_missed t rs c || is_stray t rs c

-- "Answers right; missed with a code [..]; or stray with a code", "the lowest wrong code is named": of the wrong codes, ascending, the first
abbrev pub named : List ℕ → Cover → List ℕ → Verdict
named t rs [] = Right
named t rs (c ∷ cs) = cond (is_missed t rs c) (Missed c) (Stray c)

-- what Check says of a table and a list that it does not refuse
unfoldable pub verdict : ℕ → List ℕ → Cover → Verdict
verdict n t rs = named t rs (those (2 ^ n) (is_wrong t rs))

-- what Check answers
abbrev pub check_of : ℕ → List ℕ → List ℕ → List ℕ → Answer Verdict
check_of n t vs ws = answered (check_refuses n t vs ws) (verdict n t (rows_of vs ws))
