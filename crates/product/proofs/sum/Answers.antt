-- `product::sum` meets its contract: at each turn the literals of the variables from xk on are left to write. Assumes nothing.
use Rattle.std.proofs.Common.{rules, ℕ, ◌+◌, ◌-◌, ◌<◌, ◌≤◌, ◌≡◌, Bool, Option, Some, List, [], ◌∷◌, ◌++◌, length, arith, sym, ap, ap₂, ◌∙◌, append_assoc, length-append, lit<}
use Rattle.std.proofs.lemmas.Str.{encode_ascii}
use Prim.Native.Char.{code}
use Rattle.arrayvec.specs.ArrayString.{ArrayString}
use Rattle.cube.specs.Words.{Row, digit_of}
use Rattle.cube.specs.Theorems.{bit_of_variable}
use Rattle.text.specs.Steps.{digit_number}
use Rattle.product.specs.Product.{literal_text, sum_text, literals_from, row_sum}
use Rattle.product.specs.Steps.{literal_of, rest_text, last_character}
use Rattle.product.proofs.Writing.{Left, all_left, none_tested, one_tested}
use Rattle.product.proofs.sum.Given.{Over}
use Rattle.product.proofs.sum.Goals as goal
use Rattle.product.proofs.sum.Goals.{Joined-tested, Left-loop-k, else-loop-k-test, then-loop-k-test+else-k-n, in-Some, in_default}

module _ (n : ℕ) (r : Row) (all : List ℕ) where
  abbrev From : ℕ → ℕ → List ℕ → Type 0
  From = Left n r all

  -- all but the last character is written
  abbrev Ends : ℕ → List ℕ → Type 0
  Ends before out = (before < 128) × (out ++ last_character before ∷ [] ≡ all)

  same : (k : ℕ) {before before' : ℕ} {out out' : List ℕ} → before' ≡ before → out' ≡ out → From k before out → From k before' out'
  same k b o h = (h.0, omega (arith, b, h.1), ap₂ (λ (b : ℕ) (o : List ℕ). o ++ rest_text b (literals_from n r (n + 1 - k) k)) b o ∙ h.2)

  ends : (k before : ℕ) (out : List ℕ) → n < k → From k before out → Ends before out
  unfolding rest_text literals_from
  ends k before out l h =
      let none : n + 1 - k ≡ 0 = omega arith in
      (h.1, ap (λ (m : ℕ). out ++ rest_text before (literals_from n r m k)) (sym none) ∙ h.2)

  last_room : (before : ℕ) (out : List ℕ) → Ends before out → length out + 1 ≤ length all
  last_room before out h = omega (arith, ap length h.1, length-append out (last_character before ∷ []))

  -- t is the bit that it tests of xk
  module _ (k before : ℕ) (out : List ℕ) (h : From k before out) (l : k ≤ n) (t : Option Bool)
      (e : digit_number t ≡ digit_of (bit_of_variable n k r.value) (bit_of_variable n k r.care)) where
    untested : ((c : Bool) → t ≡ Some c → ⊥) → From (k + 1) before out
    untested q = (omega arith, h.1, ap (λ (l : List ℕ). out ++ l) (sym (none_tested n r k l t e before q)) ∙ h.2)

    module _ (c : Bool) (q : t ≡ Some c) where
      abbrev text : List ℕ
      text = literal_text (literal_of k c)

      abbrev rest : List ℕ
      rest = rest_text (code "+") (literals_from n r (n + 1 - (k + 1)) (k + 1))

      parts : out ++ ((before ∷ text) ++ rest) ≡ all
      parts = ap (λ (l : List ℕ). out ++ l) (sym (one_tested n r k l t e before c q)) ∙ h.2

      room : length out + 1 + length text ≤ length all
      room = omega (arith, ap length parts, length-append out ((before ∷ text) ++ rest), length-append text rest)

      more : {out' out'' : List ℕ} → out' ≡ out ++ before ∷ [] → out'' ≡ out' ++ text → From (k + 1) (code "+") out''
      more d f = (
        omega arith,
        lit< tt,
        ap (λ (l : List ℕ). l ++ rest) (f ∙ ap (λ (l : List ℕ). l ++ text) d ∙ append_assoc out (before ∷ []) text) ∙ append_assoc out (before ∷ text) rest ∙ parts,
      )

-- the text that stands in the end
abbrev whole : ℕ → Row → List ℕ → List ℕ
whole n r old = old ++ sum_text (row_sum n r)

-- behind a turn the literals of the variables after xk are left
turned : (g : Over) (c : Joined-tested g) → From c.args.n c.args.row (whole c.args.n c.args.row c.args.out.now.bytes) (c.loop-k.k + 1) c.match-tested.before c.match-tested.out.bytes
turned g c =
    let n = c.args.n in
    let r : Row = c.args.row in
    let k = c.loop-k in
    let all : List ℕ = whole n r c.args.out.now.bytes in
    elim c.match-tested.branch [
      | in-Some w ↦
          same n r all (k.k + 1) w.before-is (ap (λ (o : ArrayString). o.bytes) w.out-is)
          (more n r all k.k _ _ k.invariant (omega arith) _ c.tested.ensures _ w.in-Some.is (w.push.ensures.ascii k.invariant.1) w.literal.ensures)
      | in_default w ↦
          same n r all (k.k + 1) w.before-is (ap (λ (o : ArrayString). o.bytes) w.out-is)
          (untested n r all k.k _ _ k.invariant (omega arith) _ c.tested.ensures w.in_default.not-Some)
    ]

-- behind the last turn no literal is left
ended : (g : Over) (c : Left-loop-k g) → Ends c.args.n c.args.row (whole c.args.n c.args.row c.args.out.now.bytes) c.loop-k-test.before c.loop-k-test.out.bytes
ended g c =
    let n = c.args.n in
    let r : Row = c.args.row in
    let k = c.loop-k in
    let all : List ℕ = whole n r c.args.out.now.bytes in
    elim c.loop-k-test.branch [
      | else-loop-k-test w ↦ ends n r all k.k _ _ (omega arith) (same n r all k.k w.before-is (ap (λ (o : ArrayString). o.bytes) w.out-is) k.invariant)
      | then-loop-k-test+else-k-n w ↦
          ends n r all (k.k + 1) _ _ (omega arith)
          (same n r all (k.k + 1) w.before-is (ap (λ (o : ArrayString). o.bytes) w.out-is)
          (turned g (record { before = record { before = record { before = c.before; loop-k-test = w.loop-k-test }; tested = w.tested }; match-tested = w.match-tested })))
    ]

pub loop-k-init : goal.loop-k-init
loop-k-init g c =
    let r : Row = c.args.row in
    let n : c.args.n + 1 - 1 ≡ c.args.n = omega arith in (
      omega arith,
      lit< tt,
      ap (λ (m : ℕ). c.args.out.now.bytes ++ rest_text (code "(") (literals_from c.args.n r m 1)) n
          ∙ ap (λ (l : List ℕ). c.args.out.now.bytes ++ l) (all_left (row_sum c.args.n r)),
    )

pub push-requires : goal.push-requires
push-requires g c =
    let a = c.args in
    let k = c.loop-k in
    let fits = room a.n a.row _ k.k k.before _ k.invariant (omega arith) _ c.tested.ensures _ c.in-Some.is in
    (search rules, omega (arith, fits, length-append a.out.now.bytes (sum_text (row_sum a.n a.row)), ap length (encode_ascii k.before k.invariant.1), c.requires))

pub literal-requires : goal.literal-requires
literal-requires g c =
    let a = c.args in
    let k = c.loop-k in
    let fits = room a.n a.row _ k.k k.before _ k.invariant (omega arith) _ c.tested.ensures _ c.in-Some.is in (
      search rules,
      omega (
        arith,
        fits,
        length-append a.out.now.bytes (sum_text (row_sum a.n a.row)),
        ap length (c.push.ensures.ascii k.invariant.1),
        length-append k.out.bytes (k.before ∷ []),
        c.requires,
      ),
    )

pub loop-k-preserved : goal.loop-k-preserved
loop-k-preserved g c = turned g c.before

pub push-requires-2 : goal.push-requires-2
push-requires-2 g c =
    let a = c.args in
    let fits = last_room a.n a.row _ _ _ (ended g (goal.at.push-requires-2 g c).Left-loop-k) in
    (search rules, omega (arith, fits, length-append a.out.now.bytes (sum_text (row_sum a.n a.row)), ap length (encode_ascii c.last.result c.last.ensures.ascii), c.requires))

pub returns : goal.returns
returns g c =
    c.push-2.ensures.ascii c.last.ensures.ascii ∙ ap (λ (b : ℕ). c.loop-k-test.out.bytes ++ b ∷ []) c.last.ensures.value
    ∙ (ended g (goal.at.returns g c).Left-loop-k).1
