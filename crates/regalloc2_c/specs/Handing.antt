-- What is handed out: a status, words if there is room for them, and how many there are.
use Rattle.std.specs.Prelude.{ℕ, ◌≡◌, ◌<◌, ◌≤◌, ◌⊎◌, List, ◌++◌, length, drop, Result, Ok, Err}
use Rattle.std.specs.Global.{Vec}
use Rattle.regalloc2_c.specs.Status.{failure_number}
use Rattle.regalloc2_c.specs.Payload.{failure_words}
use Rattle.regalloc2_c.specs.declared.failure.Failure.{Failure}
use Rattle.regalloc2_c.specs.declared.failure.Failure.TheVariants.{NoRoom}

-- the status and the words of what is found
abbrev pub status_of : Result (Vec ℕ) Failure → ℕ
status_of (Ok v) = 0
status_of (Err e) = failure_number e

abbrev pub result_of : Result (Vec ℕ) Failure → List ℕ
result_of (Ok v) = v.items
result_of (Err e) = failure_words e

-- words are written with what was behind them left as it was, and their status is returned; or, if there is no room for them, nothing is written, and
-- the status that says so is returned
abbrev pub IsWrittenOut : ℕ → List ℕ → List ℕ → List ℕ → ℕ → Type 0
IsWrittenOut status words old now got = ((length words ≤ length old) × (got ≡ status) × (now ≡ words ++ drop (length words) old))
    ⊎ ((length old < length words) × (got ≡ failure_number NoRoom) × (now ≡ old))

-- the status and the words of what is found are handed out if there is room for the words; how many words there are is reported in either case
pub record IsHandedOut (found : Result (Vec ℕ) Failure) (old now : List ℕ) (needed got : ℕ) : Type 0 where
  pub needed_words : needed ≡ length (result_of found)
  pub given : IsWrittenOut (status_of found) (result_of found) old now got
