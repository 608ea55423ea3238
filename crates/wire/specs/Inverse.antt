-- Reader and writer are inverse, so a value has one byte form.
use Rattle.std.specs.Prelude.{◌≡◌, ℕ, ◌+◌, ◌≤◌, List, ◌++◌, length, drop}
use Rattle.wire.specs.Numbers.{largest, written}
use Rattle.wire.specs.Reading.{Outcome, taken}

-- what is written of a number is read as that number, whatever follows it
abbrev pub TakesWhatIsWritten : List ℕ → ℕ → Outcome ℕ → Type 0
TakesWhatIsWritten bytes at o = (n : ℕ) (rest : List ℕ) → n ≤ largest → drop at bytes ≡ written n ++ rest → o ≡ taken n (at + length (written n))

-- whatever is read as a number is what is written of it
abbrev pub TakesOnlyWhatIsWritten : List ℕ → ℕ → Outcome ℕ → Type 0
TakesOnlyWhatIsWritten bytes at o = (n next : ℕ) → o ≡ taken n next → (n ≤ largest) × (drop at bytes ≡ written n ++ drop next bytes) × (next ≡ at + length (written n))
