-- The characters of the texts, by their ASCII numbers. Assumes nothing.
use Rattle.std.specs.Prelude.{ℕ, ◌+◌, cond, List, [], ◌∷◌, eqb}
use Prim.Native.Char.{code}
use Prim.Native.String.{String, [] as none, ◌∷◌ as ◌then◌}

-- a text, a byte for each of its characters
abbrev pub bytes : String → List ℕ
bytes none = []
bytes (◌then◌ c s) = code c ∷ bytes s

-- "a line feed"
abbrev pub line_feed : ℕ
line_feed = code "\n"

-- the character of a decimal digit
abbrev pub digit_character : ℕ → ℕ
digit_character d = code "0" + d

-- `0`, `1` and `-` of 0, 1 and 2. Of a cell: "`0` (barred), `1` (wanted) or `-` (free)". Of a digit of a row: a tested 0, a tested 1, "`-` for untested".
abbrev pub character_of : ℕ → ℕ
character_of d = cond (eqb d 2) (code "-") (digit_character d)
