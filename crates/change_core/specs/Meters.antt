-- Counts of the work of a recalculation.
use Rattle.std.specs.Prelude.{ℕ, ◌+◌, min}

-- counters saturate at the greatest number of 64 bits
abbrev pub most_ticks : ℕ
most_ticks = 18446744073709551615

-- a counter after a saturating addition
abbrev pub ticked : ℕ → ℕ → ℕ
ticked count more = min (count + more) most_ticks

-- the numbers of computed items, and of joins of partial sums made for them
pub record MeterValue : Type 0 where
  pub ticks : ℕ
  pub joins : ℕ
