-- The steps of a reduction on slices: what each function of a round asks and shows. Definitions only. Assumes nothing.
use Rattle.std.specs.Prelude.{◌≡◌, List, ◌⊎◌, not, ◌&&◌, ◌||◌, ℕ, ◌+◌, ◌≤◌, ◌<◌, eqb, get_or}
use Rattle.matrix.specs.Sets.{ColumnSet, RowSet, column_limit, has, In, member, Member}
use Rattle.matrix.specs.Matrix.{row_count, covered, CoversColumn, weight_of}
use Rattle.reduction.specs.Reduction.{Reduces}
use Rattle.reduction.specs.declared.remaining.Remaining.{Remaining}

-- ---- row dominance

-- "A chart row may be dropped for another that matches all its undecided columns and tests no more bits": j is another live row that covers all undecided
-- columns of i and weighs no more.
pub record Dominates (words weights : List ℕ) (live : RowSet) (u : ColumnSet) (i j : ℕ) : Type 0 where
  pub other : j ≡ i → ⊥
  pub lives : Member live j
  pub light : weight_of weights j ≤ weight_of weights i
  pub inside : (c : ℕ) → In u c → CoversColumn words i c → CoversColumn words j c

-- the row i covers no undecided column, or another one dominates it
abbrev pub Droppable : List ℕ → List ℕ → RowSet → ColumnSet → ℕ → Type 0
Droppable words weights live u i = ((c : ℕ) → In u c → CoversColumn words i c → ⊥) ⊎ ((j : ℕ) × Dominates words weights live u i j)

-- ---- column dominance

-- a set of columns for each column: its companions, which come along with it
abbrev pub Companions : Type 0
Companions = List ColumnSet

-- those of the column c
abbrev pub companions_of : Companions → ℕ → ColumnSet
companions_of along c = get_or along c 0

-- "A column may be dropped when another column's rows all match it too": each live row before n that covers an undecided column c covers its companions.
abbrev pub Along : List ℕ → RowSet → ColumnSet → ℕ → Companions → Type 0
Along words live u n along = (i : ℕ) → i < n → Member live i → (c : ℕ) → In u c → CoversColumn words i c → (x : ℕ) → In (companions_of along c) x → CoversColumn words i x

-- `along` is cut down by a row that covers the columns `row`: nothing is added, and at each column of the row only columns of the row are left
pub record Narrowed (along : Companions) (row u : ColumnSet) (along' : Companions) : Type 0 where
  pub less : (c x : ℕ) → In (companions_of along' c) x → In (companions_of along c) x
  pub cut : (c x : ℕ) → In u c → In row c → In (companions_of along' c) x → In row x

-- ---- forced rows

-- "A column left with one chart row takes it." Any two live rows that cover c are the same.
abbrev pub OneRow : List ℕ → RowSet → ℕ → Type 0
OneRow words live c = (i j : ℕ) → Member live i → Member live j → CoversColumn words i c → CoversColumn words j c → i ≡ j

-- r is a live row that covers c
pub record RowFound (words : List ℕ) (live : RowSet) (c r : ℕ) : Type 0 where
  pub row : r < row_count words
  pub lives : Member live r
  pub covers : CoversColumn words r c

-- the row r is taken: it is no longer live, its columns are decided, and its weight is counted
pub record RowTaken (words weights : List ℕ) (s : Remaining) (r : ℕ) (t : Remaining) : Type 0 where
  pub live : (j : ℕ) → member t.live j ≡ (member s.live j && not (eqb j r))
  pub undecided : (x : ℕ) → has t.undecided x ≡ (has s.undecided x && not (has (covered words r) x))
  pub taken : (j : ℕ) → member t.taken j ≡ (eqb j r || member s.taken j)
  pub cost : t.cost ≡ s.cost + weight_of weights r

-- the column c has at most one live row
pub record Single (words : List ℕ) (live : RowSet) (c : ℕ) : Type 0 where
  pub column : c < column_limit
  pub one : OneRow words live c

-- ---- from state to state

-- From s on to t: no more rows are live, and whatever came down to s comes down to t.
pub record Onward (words weights : List ℕ) (s t : Remaining) : Type 0 where
  pub fewer : (i : ℕ) → Member t.live i → Member s.live i
  pub reduced : (live : RowSet) (u : ColumnSet) → Reduces words weights live u s → Reduces words weights live u t
