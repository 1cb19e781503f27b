-- What `find` tells over the numbers below n, taken from the last down: none passes, or the last that does. Assumes nothing.
use mathlib.Core.Path.{◌≡◌, sym, ap, ◌∙◌, subst}
use mathlib.Core.List.{List, [], ◌∷◌}
use Prim.Native.Nat.{ℕ, zero, suc, ◌+◌, ◌-◌, ◌<◌, ◌≤◌}
use native.Mathlib.Omega.{arith}
use denote.Param.Members.{Mut}
use denote.Ref.{Bor}
use lib.ListN.{length, get_or}
use Rattle.std.specs.Prelude.{Option, Some, None, MatchOption, Bool, true, false, ⊤}
use Rattle.std.specs.Fn.{CalledAt}
use Rattle.std.specs.Iterator.{AlwaysYields, YieldsThen}
use Rattle.std.specs.Iterator.Adapters.{rev_source, rev_steps}
use Rattle.std.specs.List.{FoldsTo, AllWithin, HoldsAt}
use Rattle.std.specs.declared.iter.Rev.{Rev}
use Rattle.std.specs.declared.ops.Range.{Range}
use Rattle.std.proofs.iter.runs.Sources.{nat_range_steps_back}
use Rattle.std.proofs.lemmas.Iterator.{YieldsList, first_from_find}

-- the numbers below n, from the last down
abbrev down_from : ℕ → List ℕ
down_from zero = []
down_from (suc n) = n ∷ down_from n

down_long : (n : ℕ) → length (down_from n) ≡ n
down_long zero = grind arith
down_long (suc n) = grind (arith, down_long n)

down_at : (n i : ℕ) → i < n → get_or (down_from n) i 0 ≡ n - 1 - i
down_at zero i l = absurd (omega arith)
down_at (suc n) zero l = grind arith
down_at (suc n) (suc i) l = omega (arith, down_at n i (omega arith))

yields : (n : ℕ) (s : Rev (Range ℕ)) → (rev_source s).start ≡ 0 → (rev_source s).end ≡ n → AlwaysYields (rev_steps nat_range_steps_back) (λ x. x) s (down_from n)
yields zero s a e = λ x t p. omega (arith, p.1.0)
yields (suc n) s a e = (
  λ t p. omega (arith, p.1.0),
  λ x t p. (omega (arith, p.1.1, p.1.2), yields n t (p.0 ∙ a) (omega (arith, p.1.2))),
)

pub last_from_end : {F : Type 0} {g : Mut F (Bor ℕ × Unit {0}) Bool} (n : ℕ) (s u : Rev (Range ℕ)) (f : F) (r : Option ℕ) (Yes No : ℕ → Type 0)
    → rev_source s ≡ record { start = 0; end = n }
    → (xs : List ℕ) × (j : F) × YieldsThen (rev_steps nat_range_steps_back) s xs r u × FoldsTo (λ p x q. CalledAt g p x false q) f xs j × MatchOption r ⊤ (λ x. (h : F) × CalledAt g j x true h)
    → ((x : ℕ) (q : F) → CalledAt g f x true q → Yes x) → ((x : ℕ) (q : F) → CalledAt g f x false q → (q ≡ f) × No x)
    → MatchOption r ((k : ℕ) → k < n → No k) (λ i. (i < n) × Yes i × ((k : ℕ) → i < k → k < n → No k))
last_from_end n s u f r Yes No e d yes' no' = by r (first_from_find u f r Yes No d road yes' no')
  where
    all : List ℕ
    all = down_from n

    road : YieldsList (rev_steps nat_range_steps_back) (λ x. x) s all
    road = record { runs = yields n s (ap (λ (t : Range ℕ). t.start) e) (ap (λ (t : Range ℕ). t.end) e) }

    passed : (m : ℕ) → AllWithin No all 0 m → (k : ℕ) → n ≤ k + m → k < n → No k
    passed m h k a b = subst No (omega (arith, down_at n (n - 1 - k) (omega arith))) (h (n - 1 - k) 0 (omega arith) (omega arith))

    by : (o : Option ℕ) → MatchOption o (AllWithin No all 0 (length all)) (λ x. Yes x × (i : ℕ) × (i < length all) × HoldsAt (λ y. y ≡ x) all i × AllWithin No all 0 i)
        → MatchOption o ((k : ℕ) → k < n → No k) (λ i. (i < n) × Yes i × ((k : ℕ) → i < k → k < n → No k))
    by None h = λ k l. passed (length all) h k (omega (arith, down_long n)) l
    by (Some x) h =
        let inside : h.1 < n = omega (arith, down_long n, h.2) in
        let at : x ≡ n - 1 - h.1 = sym (h.3 0) ∙ down_at n h.1 inside in
        (omega arith, h.0, λ k l m. passed h.1 h.4 k (omega arith) m)
