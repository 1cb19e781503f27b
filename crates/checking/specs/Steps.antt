-- What the step of Check tells that sees the gathered codes and not the rows: it holds for every list that matches these codes. Assumes nothing.
use Rattle.std.specs.Prelude.{◌≡◌, List, ℕ, ◌^◌, ◌<◌}
use Rattle.cube.specs.Words.{Cover, cover_matches}
use Rattle.matrix.specs.ColumnSets.{ColumnSet, has}
use Rattle.checking.specs.Check.{verdict}
use Rattle.checking.specs.declared.Verdict.{Verdict}

-- of the codes the list matches those in the set, and no other
abbrev pub Matches : ℕ → Cover → ColumnSet → Type 0
Matches n rs matched = (c : ℕ) → c < 2 ^ n → has matched c ≡ cover_matches rs c

-- r is the verdict on every list that matches the codes in the set
abbrev pub Judges : ℕ → List ℕ → ColumnSet → Verdict → Type 0
Judges n t matched r = (rs : Cover) → Matches n rs matched → r ≡ verdict n t rs
