-- A set that grows row by row, in a walk over a list: at each turn the rows before this one are formed, and the set holds what they match. Over any width.
-- Assumes nothing.
use mathlib.Core.Path.{◌≡◌, sym, ap, ap₂, ◌∙◌}
use mathlib.Core.Bool.{Bool, true, false, not, ◌&&◌, ◌||◌, or_assoc, or-false}
use mathlib.Core.List.{[], ◌∷◌}
use Prim.Native.Nat.{ℕ, ◌^◌, ◌<◌, ◌≤◌}
use Rattle.cube.specs.Words.{Row, Cover, formed, each_row, row_matches, cover_matches}
use Rattle.cube.specs.Calls.{bad_row}
use Rattle.matrix.specs.Sets.{ColumnSet, has, no_column}
use Rattle.matrix.proofs.Bits.{has_none}
use Rattle.gathering.specs.Gathered.{HoldsExactly}

-- these rows of the list are left
pub record Gathering (n : ℕ) (all left : Cover) (set : ColumnSet) : Type 0 where
  -- a row that is not formed is among them
  pub formed : bad_row n all ≡ bad_row n left
  -- a code that the list matches is in the set, or one of them matches it
  pub codes : (c : ℕ) → c < 2 ^ n → (has set c || cover_matches left c) ≡ cover_matches all c
  pub no_other : (c : ℕ) → 2 ^ n ≤ c → has set c ≡ false

module _ (n : ℕ) (all : Cover) where
  -- at first all are left
  pub all_left : {left : Cover} → left ≡ all → Gathering n all left no_column
  all_left e = record {
    formed = ap (bad_row n) (sym e);
    codes = λ c l. ap₂ (λ (b : Bool) (rs : Cover). b || cover_matches rs c) (has_none c) e;
    no_other = λ c l. has_none c;
  }

  module _ {left : Cover} {set : ColumnSet} (g : Gathering n all left set) where
    -- in the end none is
    pub none_left : left ≡ [] → (bad_row n all ≡ false) × HoldsExactly n (cover_matches all) set
    unfolding each_row cover_matches
    none_left e = (
      g.formed ∙ ap (bad_row n) e,
      record {
        codes = λ c l. sym (or-false (has set c)) ∙ ap (λ (rs : Cover). has set c || cover_matches rs c) (sym e) ∙ g.codes c l;
        no_other = g.no_other;
      },
    )

    module _ {r : Row} {left' : Cover} (e : left ≡ r ∷ left') where
      -- the next one is not formed
      pub unformed_row : formed n r ≡ false → bad_row n all ≡ true
      unfolding each_row
      unformed_row f = g.formed ∙ ap (bad_row n) e ∙ ap (λ (b : Bool). not (b && each_row (formed n) left')) f

      -- it is formed, and its codes are joined
      pub row_joined : formed n r ≡ true → {codes set' : ColumnSet} → HoldsExactly n (row_matches r) codes → ((c : ℕ) → has set' c ≡ (has set c || has codes c))
          → Gathering n all left' set'
      unfolding each_row cover_matches
      row_joined f {codes} {set'} h j = record {
        formed = g.formed ∙ ap (bad_row n) e ∙ ap (λ (b : Bool). not (b && each_row (formed n) left')) f;
        codes = λ c l.
            ap (λ (b : Bool). b || cover_matches left' c) (j c ∙ ap (λ (b : Bool). has set c || b) (h.codes c l))
            ∙ or_assoc (has set c) (row_matches r c) (cover_matches left' c) ∙ ap (λ (rs : Cover). has set c || cover_matches rs c) (sym e) ∙ g.codes c l;
        no_other = λ c l. j c ∙ ap₂ ◌||◌ (g.no_other c l) (h.no_other c l);
      }
