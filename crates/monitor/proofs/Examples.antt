-- The table of example shifts, proved.
use Rattle.time.specs.Whole.{whole_had, whole_admits, whole_reach}
use Rattle.time.specs.WholeLaws.{whole_one}
use Rattle.monitor.specs.Examples.{ExampleShifts}
use Rattle.monitor.proofs.Shifts.{closed_at_once, answered_in_time, answered_too_early, never_answered, answered_unasked, asked_twice, environment_stops, two_entries, three_entries}
use Rattle.monitor.proofs.Tight.{between_ticks_in_whole, between_ticks_in_split}

pub example_shifts : ExampleShifts
example_shifts = (
  closed_at_once whole_had whole_admits whole_reach whole_one,
  answered_in_time whole_had whole_admits whole_reach whole_one,
  answered_too_early whole_had whole_admits whole_reach whole_one,
  never_answered whole_had whole_admits whole_reach whole_one,
  answered_unasked whole_had whole_admits whole_reach whole_one,
  asked_twice whole_had whole_admits whole_reach whole_one,
  environment_stops whole_had whole_admits whole_reach whole_one,
  between_ticks_in_whole,
  between_ticks_in_split,
  two_entries whole_had whole_admits whole_reach whole_one,
  three_entries whole_had whole_admits whole_reach whole_one,
)
