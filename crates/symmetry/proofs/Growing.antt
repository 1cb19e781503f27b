-- Images of rows by an exchange of columns: where every live row has one, a row is of one orbit with its image, so a set of rows of an orbit grows by the rows
-- whose images are in it. Rows past the last one cover nothing and are their own images. Assumes nothing.
use mathlib.Core.Path.{◌≡◌, sym, subst, ◌∙◌}
use mathlib.Core.List.{List, [], ◌∷◌, ◌++◌}
use mathlib.Core.Logic.{◌⊎◌, inr, ⊎_elim}
use mathlib.Core.Bool.{◌||◌}
use Prim.Native.Nat.{ℕ, ◌<◌}
use native.Mathlib.Decide.{dec_lt, ℕ_discrete}
use native.Mathlib.Omega.{arith}
use lib.Dec.{eqb}
use borrow.Author.Tests.{eqb-true}
use Rattle.std.proofs.lemmas.Bool.{or_right}
use Rattle.numbers.proofs.Flags.{clash, either_of}
use Rattle.numbers.specs.Ascending.{passed}
use Rattle.numbers.proofs.Loops.{Turn}
use Rattle.covering.proofs.Exchanges.{ImageBy, exchanged}
use Rattle.matrix.specs.Sets.{ColumnSet, RowSet, In, member, Member}
use Rattle.matrix.specs.Matrix.{row_count, CoversColumn, weight_of}
use Rattle.matrix.proofs.Without.{covers_past}
use Rattle.symmetry.specs.Steps.{partner, Image, Grown}
use Rattle.symmetry.specs.declared.exchanges.Exchange.{Exchange}

module _ (words weights : List ℕ) (live : RowSet) (u : ColumnSet) (e : Exchange) where
  -- ---- the live rows passed in turn

  abbrev pub HasImage : ℕ → Type 0
  HasImage i = (j : ℕ) × Image words weights live u e i j

  -- the row i is live, and its image is one of the rows found
  abbrev pub Taken : RowSet → ℕ → Type 0
  Taken found i = (j : ℕ) × Member live i × Image words weights live u e i j × Member found j

  -- each live row before i has an image, and `more` has the rows found and only such whose images are found besides
  pub record Passed (found more : RowSet) (i : ℕ) : Type 0 where
    pub images : (m : ℕ) → m < i → Member live m → HasImage m
    pub kept : (m : ℕ) → Member found m → Member more m
    pub new : (m : ℕ) → Member more m → Member found m ⊎ Taken found m

  module _ {found more : RowSet} {n : ℕ} {ys : List ℕ} {i j : ℕ} (image : Image words weights live u e i j) (turn : Turn n (member live) ys i) (p : Passed found more (passed ys)) where
    images_more : (m : ℕ) → m < passed (ys ++ i ∷ []) → Member live m → HasImage m
    images_more m l a = go (dec_lt m (passed ys)) (ℕ_discrete m i)
      where
        go : Dec (m < passed ys) → Dec (m ≡ i) → HasImage m
        go (yes k) d = p.images m k a
        go (no k) (yes d) = subst HasImage (sym d) (j, image)
        go (no k) (no d) = clash a (turn.between m (omega arith) (omega (arith, turn.comes)))

    -- the image of the row i is one of the rows found
    pub passed_found : {more' : RowSet} → Member found j → ((m : ℕ) → member more' m ≡ (eqb m i || member more m)) → Passed found more' (passed (ys ++ i ∷ []))
    passed_found h f = record {
      images = images_more;
      kept = λ m k. f m ∙ or_right (eqb m i) _ (p.kept m k);
      new = λ m k. ⊎_elim (λ x. inr (subst (Taken found) (sym (eqb-true m i x)) (j, turn.here, image, h))) (p.new m) (either_of (eqb m i) (member more m) (sym (f m) ∙ k));
    }

  -- ---- all live rows

  module _ (into : (c : ℕ) → In u c → In u (partner e c)) {found more : RowSet} {n : ℕ} (all : (i : ℕ) → i < row_count words → Member live i → i < n) (p : Passed found more n) where
    by : {i j : ℕ} → Image words weights live u e i j → ImageBy (CoversColumn words) (weight_of weights) (Member live) (In u) (partner e) i j
    by x = record { lives = x.lives; light = x.light; covers = x.covers }

    every : (i : ℕ) → Member live i → (j : ℕ) × ImageBy (CoversColumn words) (weight_of weights) (Member live) (In u) (partner e) i j
    every i a = go (dec_lt i (row_count words))
      where
        go : Dec (i < row_count words) → (j : ℕ) × ImageBy (CoversColumn words) (weight_of weights) (Member live) (In u) (partner e) i j
        go (yes l) = let x = p.images i (all i l a) a in (x.0, by x.1)
        go (no l) = (i, record { lives = a; light = omega arith; covers = λ c v h. absurd (covers_past words i (partner e c) (omega arith) h) })

    pub grown_all : Grown words weights live u found more
    grown_all = record {
      kept = p.kept;
      orbit = λ r o. record {
        itself = p.kept r o.itself;
        lives = λ i h. ⊎_elim (o.lives i) (λ x. x.1) (p.new i h);
        low = λ i h k b. ⊎_elim (λ x. o.low i x k b) (λ x. exchanged every (by x.2) into (o.low x.0 x.3 k b)) (p.new i h);
      };
    }
