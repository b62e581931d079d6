-- Where places are listed: an entry for each register, then one for each slot below a bound.
use Rattle.std.specs.Prelude.{ℕ, ◌≡◌, ◌≢◌, ◌+◌, ◌<◌, ◌≤◌, nat_lt, if◌then◌else◌, List, length, get_or}

-- the bits of the place that an entry is for
abbrev pub bits_at : ℕ → ℕ
bits_at k = if nat_lt k 192 then 536870912 + k else 1073741632 + k

-- an entry says where a number is among the first ones of a list; 4294967295 says that it isn't there
pub record IsEntry (numbers : List ℕ) (first number entry : ℕ) : Type 0 where
  pub absent : entry ≡ 4294967295 → (j : ℕ) → j < first → get_or numbers j 0 ≢ number
  pub here : entry < 4294967295 → (entry < first) × (get_or numbers entry 0 ≡ number)

-- the entries of the first places of a list
pub record ArePlaceEntries (places : List ℕ) (first : ℕ) (entries : List ℕ) : Type 0 where
  pub few : length entries ≤ 3221225664
  pub each : (k : ℕ) → k < length entries → IsEntry places first (bits_at k) (get_or entries k 0)
