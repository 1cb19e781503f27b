-- `read` gives a width and cells exactly for the texts in form. The run is by induction: what is read of it is written back character by
-- character. Assumes nothing.
use mathlib.Core.Path.{◌≡◌, refl, sym, ap, ap₂, ◌∙◌, subst}
use mathlib.Core.Logic.{◌⊎◌, inl, inr, ⊎_elim}
use mathlib.Core.Bool.{Bool, true, false, cond, ◌&&◌, ◌||◌}
use mathlib.Core.List.{List, [], ◌∷◌, ◌++◌, map}
use Prim.Native.Nat.{ℕ, zero, suc, ◌+◌, ◌<◌, ◌≤◌}
use native.Mathlib.Omega.{arith}
use lib.Dec.{T, eqb, leb, ltb, leb→le}
use lib.ListN.{length}
use borrow.Author.Tests.{eqb-true, leb-true, le-leb, le-ltb, ltb-false}
use Rattle.std.specs.Bool.{passes}
use Rattle.std.proofs.lemmas.Bool.{or_parts}
use Rattle.numbers.specs.Below.{some}
use Rattle.cube.specs.Words.{cell}
use Rattle.cube.specs.Calls.{bad_cell, Answer, refuses, gives}
use Rattle.numbers.proofs.Bools.{and_l, and_r}
use Rattle.numbers.proofs.Below.{some_front}
use Rattle.cube.proofs.Calls.{refuses_gives, same_value}
use Rattle.text.specs.Characters.{line_feed, digit_character, character_of}
use Rattle.text.specs.Input.{text_of, InForm, Table, not_in_form, is_digit, width_of, is_cell, cell_of, is_end, before, read_run, of_width, read}
use Rattle.text.specs.Theorems.{Grammar}

-- ---- cells and their characters

meant_none : bad_cell [] ≡ false
unfolding bad_cell some
meant_none = refl

module _ (c : ℕ) (cs : List ℕ) where
  bad_either : bad_cell (c ∷ cs) ≡ (ltb 2 c || bad_cell cs)
  unfolding bad_cell
  bad_either = some_front (length cs) (λ i. ltb 2 (cell (c ∷ cs) i))

  meant_more : c ≤ 2 → bad_cell cs ≡ false → bad_cell (c ∷ cs) ≡ false
  meant_more l e = bad_either ∙ ap₂ ◌||◌ (le-ltb 2 c l) e

  meant_head : bad_cell (c ∷ cs) ≡ false → c ≤ 2
  meant_head e = ltb-false 2 c (or_parts (ltb 2 c) (bad_cell cs) (sym bad_either ∙ e)).0

  meant_tail : bad_cell (c ∷ cs) ≡ false → bad_cell cs ≡ false
  meant_tail e = (or_parts (ltb 2 c) (bad_cell cs) (sym bad_either ∙ e)).1

cell_of_character : (c : ℕ) → c ≤ 2 → (cell_of (character_of c) ≡ c) × (eqb (character_of c) line_feed ≡ false)
cell_of_character zero l = (refl, refl)
cell_of_character (suc zero) l = (refl, refl)
cell_of_character (suc (suc zero)) l = (refl, refl)
cell_of_character (suc (suc (suc c))) l = absurd (omega arith)

character_of_cell : (b : ℕ) → is_cell b ≡ true → character_of (cell_of b) ≡ b
character_of_cell b = zero? (eqb b 48) refl
  where
    dash? : (t : Bool) → eqb b 45 ≡ t → leb (cond t 2 3) 2 ≡ true → character_of (cond t 2 3) ≡ b
    dash? true e h = sym (eqb-true b 45 e)
    dash? false e h = absurd (subst T (sym h) tt)

    one? : (t : Bool) → eqb b 49 ≡ t → leb (cond t 1 (cond (eqb b 45) 2 3)) 2 ≡ true → character_of (cond t 1 (cond (eqb b 45) 2 3)) ≡ b
    one? true e h = sym (eqb-true b 49 e)
    one? false e h = dash? (eqb b 45) refl h

    zero? : (t : Bool) → eqb b 48 ≡ t → leb (cond t 0 (cond (eqb b 49) 1 (cond (eqb b 45) 2 3))) 2 ≡ true
        → character_of (cond t 0 (cond (eqb b 49) 1 (cond (eqb b 45) 2 3))) ≡ b
    zero? true e h = sym (eqb-true b 48 e)
    zero? false e h = one? (eqb b 49) refl h

-- ---- a run

run_read : (cells : List ℕ) → bad_cell cells ≡ false → read_run (map character_of cells ++ (line_feed ∷ [])) ≡ gives cells
unfolding read_run
run_read [] e = refl
run_read (c ∷ cs) e =
    let l : c ≤ 2 = meant_head c cs e in
    let rest : List ℕ = map character_of cs ++ (line_feed ∷ []) in
    ap₂ (λ (feed : Bool) (x : ℕ). cond feed (cond (is_end rest) (gives []) (refuses not_in_form)) (cond (leb x 2) (before x (read_run rest)) (refuses not_in_form)))
    (cell_of_character c l).1 (cell_of_character c l).0
    ∙ ap₂ (λ (cell : Bool) (r : Answer (List ℕ)). cond cell (before c r) (refuses not_in_form)) (le-leb c 2 l) (run_read cs (meant_tail c cs e))

-- the bytes bs are a run of these cells, a line feed and the end
record Run (bs cells : List ℕ) : Type 0 where
  meant : bad_cell cells ≡ false
  text : bs ≡ map character_of cells ++ (line_feed ∷ [])

run_ends : (b : ℕ) (bs cells : List ℕ) → b ≡ line_feed → cond (is_end bs) (gives []) (refuses not_in_form) ≡ gives cells → Run (b ∷ bs) cells
run_ends b [] cells e h = subst (Run (b ∷ [])) (same_value [] cells h) (record { meant = meant_none; text = ap (λ (i : ℕ). i ∷ []) e })
run_ends b (x ∷ bs) cells e h = absurd (refuses_gives not_in_form cells h)

module _ (b : ℕ) (bs cells : List ℕ) (rest : (cs : List ℕ) → read_run bs ≡ gives cs → Run bs cs) where
  one_more : is_cell b ≡ true → (r : Answer (List ℕ)) → read_run bs ≡ r → before (cell_of b) r ≡ gives cells → Run (b ∷ bs) cells
  one_more e (refuses k) f h = absurd (refuses_gives k cells h)
  one_more e (gives cs) f h =
      subst (Run (b ∷ bs)) (same_value (cell_of b ∷ cs) cells h)
      (record { meant = meant_more (cell_of b) cs (leb-true (cell_of b) 2 e) (rest cs f).meant; text = ap₂ ◌∷◌ (sym (character_of_cell b e)) (rest cs f).text })

  not_ended : (cell : Bool) → is_cell b ≡ cell → cond cell (before (cell_of b) (read_run bs)) (refuses not_in_form) ≡ gives cells → Run (b ∷ bs) cells
  not_ended true e h = one_more e (read_run bs) refl h
  not_ended false e h = absurd (refuses_gives not_in_form cells h)

  one_byte : (feed : Bool) → eqb b line_feed ≡ feed
      → cond feed (cond (is_end bs) (gives []) (refuses not_in_form)) (cond (is_cell b) (before (cell_of b) (read_run bs)) (refuses not_in_form)) ≡ gives cells → Run (b ∷ bs) cells
  one_byte true e h = run_ends b bs cells (eqb-true b line_feed e) h
  one_byte false e h = not_ended (is_cell b) refl h

run_found : (bs cells : List ℕ) → read_run bs ≡ gives cells → Run bs cells
unfolding read_run
run_found [] cells e = absurd (refuses_gives not_in_form cells e)
run_found (b ∷ bs) cells e = one_byte b bs cells (run_found bs) (eqb b line_feed) refl e

-- ---- the whole text

digit_is : (n : ℕ) → n < 10 → is_digit (digit_character n) ≡ true
digit_is n l = ap₂ ◌&&◌ (le-leb 48 (48 + n) (omega arith)) (le-leb (48 + n) 57 (omega arith))

is_digit_lem : (d : ℕ) → is_digit d ≡ true → (48 ≤ d) × (d ≤ 57)
is_digit_lem d e = let h = passes (is_digit d) e in (leb→le 48 d (and_l (leb 48 d) (leb d 57) h), leb→le d 57 (and_r (leb 48 d) (leb d 57) h))

reads_form : (n : ℕ) (cells : List ℕ) → n < 10 → bad_cell cells ≡ false → read (text_of n cells) ≡ gives (record { width = n; cells = cells })
unfolding read
reads_form n cells l e =
    let width : width_of (digit_character n) ≡ n = omega arith in
    ap (λ (digit : Bool). cond (digit && true) (of_width (width_of (digit_character n)) (read_run (map character_of cells ++ (line_feed ∷ [])))) (refuses not_in_form)) (digit_is n l)
    ∙ ap₂ of_width width (run_read cells e)

module _ (d b : ℕ) (bs : List ℕ) (t : Table) where
  with_run : is_digit d ≡ true → b ≡ line_feed → (r : Answer (List ℕ)) → read_run bs ≡ r → of_width (width_of d) r ≡ gives t → InForm (d ∷ b ∷ bs) t.width t.cells
  with_run e f (refuses k) q h = absurd (refuses_gives k t h)
  with_run e f (gives cs) q h =
      let found = run_found bs cs q in
      let same : record { width = width_of d; cells = cs } ≡ t = same_value (record { width = width_of d; cells = cs }) t h in
      let low = (is_digit_lem d e).0 in
      let high = (is_digit_lem d e).1 in
      let back : d ≡ digit_character (width_of d) = omega arith in
      subst (λ (t : Table). InForm (d ∷ b ∷ bs) t.width t.cells) same
      (record {
        digit = omega arith;
        meant = found.meant;
        text = ap₂ (λ (x : ℕ) (l : List ℕ). x ∷ l) back (ap₂ (λ (x : ℕ) (l : List ℕ). x ∷ l) f found.text);
      })

  with_feed : (digit feed : Bool) → is_digit d ≡ digit → eqb b line_feed ≡ feed → cond (digit && feed) (of_width (width_of d) (read_run bs)) (refuses not_in_form) ≡ gives t
      → InForm (d ∷ b ∷ bs) t.width t.cells
  with_feed true true e f h = with_run e (eqb-true b line_feed f) (read_run bs) refl h
  with_feed true false e f h = absurd (refuses_gives not_in_form t h)
  with_feed false feed e f h = absurd (refuses_gives not_in_form t h)

form_found : (input : List ℕ) (t : Table) → read input ≡ gives t → InForm input t.width t.cells
unfolding read
form_found [] t e = absurd (refuses_gives not_in_form t e)
form_found (d ∷ []) t e = absurd (refuses_gives not_in_form t e)
form_found (d ∷ b ∷ bs) t e = with_feed d b bs t (is_digit d) (eqb b line_feed) refl refl e

-- ---- a text that is not in form

-- a refusal is by `not_in_form` alone
abbrev Told : {A : Type 0} → Answer A → Type 0
Told {A} r = (r ≡ refuses not_in_form) ⊎ ((a : A) × (r ≡ gives a))

told_before : (c : ℕ) (r : Answer (List ℕ)) → Told r → Told (before c r)
told_before c r t = ⊎_elim (λ e. inl (ap (before c) e)) (λ e. inr (c ∷ e.0, ap (before c) e.1)) t

told_width : (n : ℕ) (r : Answer (List ℕ)) → Told r → Told (of_width n r)
told_width n r t = ⊎_elim (λ e. inl (ap (of_width n) e)) (λ e. inr (record { width = n; cells = e.0 }, ap (of_width n) e.1)) t

told_if : {A : Type 0} (t : Bool) (a b : Answer A) → Told a → Told b → Told (cond t a b)
told_if true a b x y = x
told_if false a b x y = y

told_run : (bs : List ℕ) → Told (read_run bs)
unfolding read_run
told_run [] = inl refl
told_run (b ∷ bs) =
    told_if (eqb b line_feed) (cond (is_end bs) (gives []) (refuses not_in_form)) (cond (is_cell b) (before (cell_of b) (read_run bs)) (refuses not_in_form))
    (told_if (is_end bs) (gives []) (refuses not_in_form) (inr ([], refl)) (inl refl))
    (told_if (is_cell b) (before (cell_of b) (read_run bs)) (refuses not_in_form) (told_before (cell_of b) (read_run bs) (told_run bs)) (inl refl))

told : (input : List ℕ) → Told (read input)
unfolding read
told [] = inl refl
told (d ∷ []) = inl refl
told (d ∷ b ∷ bs) =
    told_if (is_digit d && eqb b line_feed) (of_width (width_of d) (read_run bs)) (refuses not_in_form) (told_width (width_of d) (read_run bs) (told_run bs)) (inl refl)

pub grammar : (input : List ℕ) → Grammar input
grammar input = record { in_form = λ n cells. (form_read n cells, form_found input (record { width = n; cells = cells })); other = (none_found, none_read) }
  where
    form_read : (n : ℕ) (cells : List ℕ) → InForm input n cells → read input ≡ gives (record { width = n; cells = cells })
    form_read n cells f = ap read f.text ∙ reads_form n cells f.digit f.meant

    none_found : ((n : ℕ) (cells : List ℕ) → InForm input n cells → ⊥) → read input ≡ refuses not_in_form
    none_found f = ⊎_elim (λ e. e) (λ e. absurd (f e.0.width e.0.cells (form_found input e.0 e.1))) (told input)

    none_read : read input ≡ refuses not_in_form → (n : ℕ) (cells : List ℕ) → InForm input n cells → ⊥
    none_read e n cells f = refuses_gives not_in_form (record { width = n; cells = cells }) (sym e ∙ form_read n cells f)
