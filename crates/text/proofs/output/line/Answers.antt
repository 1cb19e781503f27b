-- `text::output::line` meets its contract: at each turn the characters of the variables before xk are written. Assumes nothing.
use Rattle.std.proofs.Common.{rules, ℕ, suc, ◌+◌, ◌-◌, ◌≤◌, ◌≡◌, List, [], ◌∷◌, ◌++◌, length, arith, ap, sym, ◌∙◌, append-nil, append_assoc, length-append, lit<}
use Rattle.std.proofs.lemmas.Str.{encode_ascii}
use Rattle.arrayvec.specs.ArrayString.{ArrayString}
use Rattle.numbers.specs.Below.{tabulate}
use Rattle.numbers.proofs.Below.{tabulate_more, tabulate-length}
use Rattle.text.specs.Output.{character_of_variable}
use Rattle.text.specs.Characters.{line_feed}
use Rattle.text.proofs.output.line.Given.{Over}
use Rattle.text.proofs.output.line.Goals as goal
use Rattle.text.proofs.output.line.Goals.{Left-loop-k, else-loop-k-test, then-loop-k-test+else-k-n}

module _ (f : ℕ → ℕ) (old : List ℕ) where
  -- the characters of m variables are written
  abbrev Written : ℕ → List ℕ → Type 0
  Written m out = out ≡ old ++ tabulate m 1 f

  none : Written 0 old
  unfolding tabulate
  none = sym (append-nil old)

  -- that of xk is the next
  more : (out out' : List ℕ) (k x : ℕ) → 1 ≤ k → Written (k - 1) out → x ≡ f k → out' ≡ out ++ x ∷ [] → Written k out'
  more out out' k x l e v n =
      let this : k ≡ 1 + (k - 1) = omega arith in
      let all : suc (k - 1) ≡ k = omega arith in
      let one = ap (λ (y : ℕ). tabulate (k - 1) 1 f ++ y ∷ []) (v ∙ ap f this) ∙ sym (tabulate_more f (k - 1) 1) ∙ ap (λ (j : ℕ). tabulate j 1 f) all in
      n ∙ ap (λ (l : List ℕ). l ++ x ∷ []) e ∙ append_assoc old (tabulate (k - 1) 1 f) (x ∷ []) ∙ ap (λ (l : List ℕ). old ++ l) one

  as_many : {m j : ℕ} {out : List ℕ} → m ≡ j → Written m out → Written j out
  as_many e w = w ∙ ap (λ (j : ℕ). old ++ tabulate j 1 f) e

  long : (m : ℕ) (out : List ℕ) → Written m out → length out ≡ length old + m
  long m out e = ap length e ∙ length-append old (tabulate m 1 f) ∙ ap (λ (j : ℕ). length old + j) (tabulate-length f m 1)

-- behind the last turn those of all are
all_written : (g : Over) (c : Left-loop-k g) → Written (character_of_variable c.args.n c.args.row) c.args.out.now.bytes c.args.n c.loop-k-test.out.bytes
all_written g c =
    let f : ℕ → ℕ = character_of_variable c.args.n c.args.row in
    let old : List ℕ = c.args.out.now.bytes in
    elim c.loop-k-test.branch [
      | else-loop-k-test w ↦ ap (λ (o : ArrayString). o.bytes) w.out-is ∙ as_many f old (omega arith) c.loop-k.invariant.1
      | then-loop-k-test+else-k-n w ↦
          ap (λ (o : ArrayString). o.bytes) w.out-is
          ∙ as_many f old (omega arith)
          (more f old _ _ c.loop-k.k _ (omega arith) c.loop-k.invariant.1 w.character.ensures.value (w.push.ensures.ascii w.character.ensures.ascii))
    ]

pub loop-k-init : goal.loop-k-init
loop-k-init g c = (omega arith, none _ _)

pub push-requires : goal.push-requires
push-requires g c =
    (search rules, omega (arith, ap length (encode_ascii c.character.result c.character.ensures.ascii), long _ _ _ _ c.loop-k.invariant.1, c.requires))

pub loop-k-preserved : goal.loop-k-preserved
loop-k-preserved g c = (
  omega arith,
  as_many _ _ (omega arith) (more _ _ _ _ _ _ (omega arith) c.loop-k.invariant.1 c.character.ensures.value (c.push.ensures.ascii c.character.ensures.ascii)),
)

pub push-requires-2 : goal.push-requires-2
push-requires-2 g c =
    let all = all_written g (goal.at.push-requires-2 g c).Left-loop-k in
    (search rules, omega (arith, ap length (encode_ascii line_feed (lit< tt)), long _ _ _ _ all, c.requires))

pub returns : goal.returns
returns g c =
    let all = all_written g (goal.at.returns g c).Left-loop-k in
    c.push-2.ensures.ascii (lit< tt) ∙ ap (λ (l : List ℕ). l ++ line_feed ∷ []) all
    ∙ append_assoc c.args.out.now.bytes (tabulate c.args.n 1 (character_of_variable c.args.n c.args.row)) (line_feed ∷ [])
