-- The values of a function over a list, written one by one from the first place on. Assumes nothing.
use Rattle.std.proofs.Common.{◌≡◌, ℕ, ◌+◌, ◌<◌, List, ◌++◌, length, map, take, drop, get_or, ◌∙◌, append_assoc, add-one, arith}
use Rattle.std.proofs.Math.ListN.{set, length-map}
use Rattle.std.proofs.Math.Seq.{drop-cons, length-take-le, set_at}
use Rattle.std.proofs.lemmas.List.{map_more}

-- one more
pub map_written : {A : Type 0} (f : ℕ → A) (qs : List ℕ) (old ys : List A) (i : ℕ) (x : A) → i < length qs → i < length old → ys ≡ map f (take i qs) ++ drop i old → x ≡ f (get_or qs i 0)
    → set ys i x ≡ map f (take (i + 1) qs) ++ drop (i + 1) old
map_written f qs old ys i x l k e g =
    rw (e, g, map_more f qs i 0 l, append_assoc, add-one, drop-cons old i x k)
    (set_at (map f (take i qs)) _ _ (f (get_or qs i 0)) i (length-map (take i qs) f ∙ length-take-le i qs (omega arith)))
