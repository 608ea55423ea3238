-- What a limit means: whole ticks, and no limit is no tick.
use Rattle.std.specs.Prelude.{◌≡◌, ℕ, ◌⊎◌, ℤ, pos, MatchOption, unwrap_or, unsigned_abs}
use Rattle.time.specs.Differences.{AtMost}
use Rattle.timetest.specs.declared.Limit.{Limit}

abbrev pub limit_had : ℕ → Type 0
limit_had g = g ≡ 1

abbrev pub limit_free : Limit → Type 0
limit_free b = MatchOption b.last (Unit {0}) (λ c. ⊥)

abbrev pub limit_ticks : Limit → ℤ
limit_ticks b = unwrap_or b.last (pos 0)

abbrev pub limit_admits : Limit → ℕ → ℤ → Type 0
limit_admits b g d = limit_free b ⊎ AtMost (limit_ticks b) g d

abbrev pub limit_reach : Limit → ℕ
limit_reach b = unsigned_abs (limit_ticks b)
