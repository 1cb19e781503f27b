-- What a function for C returns is what its 32 bits say; and an answer is read off its number, if every value that may be given is read off its own: a
-- refusal's number is above 0. Assumes nothing.
use mathlib.Core.Path.{◌≡◌, ap, ◌∙◌}
use Prim.Native.Nat.{ℕ, ◌^◌, ◌<◌}
use native.Mathlib.Omega.{arith}
use lib.IntN.{ℤ}
use lib.Signed.{mag}
use mir.Syntax.{w32}
use mir.Val.{to_z, of_z}
use mir.ValLaws.{to_z-of_z}
use Rattle.std.specs.Prelude.{Result, Ok, Err, IfOk}
use Rattle.cube.specs.Calls.{gives, answer_of}
use Rattle.cube.specs.declared.Refusal.{Refusal}
use Rattle.cube.proofs.Calls.{refusal_from}
use Rattle.installer.specs.Numbers.{number_by, read_by}

read_back : {A : Type 0} {P : A → Type 0} (number : A → ℕ) (read : ℕ → A) → ((a : A) → P a → read (number a) ≡ a) → (r : Result A Refusal) → IfOk r P
    → read_by read (number_by number (answer_of r)) ≡ answer_of r
read_back number read back (Ok a) h = ap gives (back a h)
read_back number read back (Err e) h = grind (arith, refusal_from)

-- so a function for C that returns the number of its call's answer returns it in 32 bits, and the answer is read off what it returns
pub told : {A : Type 0} {P : A → Type 0} (number : A → ℕ) (read : ℕ → A) → ((a : A) → P a → read (number a) ≡ a) → (r : Result A Refusal) → IfOk r P
    → (z : ℤ) → mag z < 2 ^ 31 → z ≡ number_by number (answer_of r)
    → (to_z w32 (of_z w32 z) ≡ number_by number (answer_of r)) × (read_by read (to_z w32 (of_z w32 z)) ≡ answer_of r)
told number read back r few z l e =
    let returned = to_z-of_z w32 z (record { sfits = l }) ∙ e in (returned, ap (read_by read) returned ∙ read_back number read back r few)
