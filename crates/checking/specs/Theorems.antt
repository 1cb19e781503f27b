-- What each answer of Check says, for calls that it does not refuse. `proofs/Theorems.antt` proves it. Assumes nothing.
use Rattle.std.specs.Prelude.{◌≡◌, ◌↔◌, List, ℕ, ◌^◌, ◌<◌, T}
use Rattle.cube.specs.Words.{on_set, off_set, Cover, cover_matches, implements, rows_of}
use Rattle.cube.specs.Calls.{gives}
use Rattle.checking.specs.Check.{check_refuses, is_wrong, check_of}
use Rattle.checking.specs.declared.Verdict.TheVariants.{Right, Missed, Stray}

-- no code below c is wrong
abbrev pub NoneLower : List ℕ → Cover → ℕ → Type 0
NoneLower t rs c = (k : ℕ) → k < c → T (is_wrong t rs k) → ⊥

-- c is the code to name as missed
pub record NamedMissed (n : ℕ) (t : List ℕ) (rs : Cover) (c : ℕ) : Type 0 where
  pub code : c < 2 ^ n
  pub wanted : T (on_set t c)
  pub unmatched : T (cover_matches rs c) → ⊥
  pub lowest : NoneLower t rs c

-- c is the code to name as stray
pub record NamedStray (n : ℕ) (t : List ℕ) (rs : Cover) (c : ℕ) : Type 0 where
  pub code : c < 2 ^ n
  pub barred : T (off_set t c)
  pub matched : T (cover_matches rs c)
  pub lowest : NoneLower t rs c

-- the answer to a call that is not refused
pub record CheckMeans (n : ℕ) (t vs ws : List ℕ) (accepted : check_refuses n t vs ws ≡ 0) : Type 0 where
  -- "A list that isn't refused passes our check exactly when it matches every wanted mark and no barred one."
  pub right_when : check_of n t vs ws ≡ gives Right ↔ T (implements n t (rows_of vs ws))
  -- "missed with a code (wanted, unmatched)", "the lowest wrong code is named"
  pub missed_when : (c : ℕ) → check_of n t vs ws ≡ gives (Missed c) ↔ NamedMissed n t (rows_of vs ws) c
  -- "stray with a code (barred, matched)"
  pub stray_when : (c : ℕ) → check_of n t vs ws ≡ gives (Stray c) ↔ NamedStray n t (rows_of vs ws) c
