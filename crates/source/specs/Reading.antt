-- What the bytes of a recording say from a place on.
use Rattle.std.specs.Prelude.{ℕ, zero, suc, ◌+◌, cond, List, [], ◌∷◌, length, drop, Option, Some, None, Result, Ok, Err, ◌==◌}
use Rattle.wire.specs.Reading.{Outcome, taken, refused, then, number_at}
use Rattle.wire.specs.declared.ByteFault.TheVariants.{Ends}
use Rattle.source.specs.declared.Item.{Item}
use Rattle.source.specs.declared.Item.TheVariants.{Wait, See}
use Rattle.source.specs.declared.recorded.RecordingFault.{RecordingFault}
use Rattle.source.specs.declared.recorded.RecordingFault.TheVariants.{Byte}
use Rattle.source.specs.Answers.{fault_of}

-- an item's number gives its record; a refused number refuses it
abbrev pub item_record : (ℕ → Item) → Outcome ℕ → Outcome (Option Item)
item_record item number = then number (λ n behind. taken (Some (item n)) behind)

-- nothing may stand behind the last record
abbrev pub last_record : ℕ → List ℕ → Outcome (Option Item)
last_record behind [] = taken None behind
last_record behind (b ∷ more) = refused 7 behind

-- the record at a place, where these bytes stand
abbrev pub record_by : List ℕ → ℕ → List ℕ → Outcome (Option Item)
record_by bytes at [] = refused 2 (length bytes)
record_by bytes at (b ∷ more) =
    cond (b == 0) (item_record Wait (number_at bytes (at + 1)))
    (cond (b == 1) (item_record See (number_at bytes (at + 1)))
    (cond (b == 2) (last_record (at + 1) more) (refused 4 at)))

abbrev pub record_at : List ℕ → ℕ → Outcome (Option Item)
record_at bytes at = record_by bytes at (drop at bytes)

-- the items up to the last record or to what is refused, and that ending
pub record Trace : Type 0 where
  pub items : List Item
  pub ending : Result (Unit {0}) RecordingFault

abbrev pub trace_by : Outcome (Option Item) → (ℕ → Trace) → Trace
trace_by (taken (Some item) behind) later = record { items = item ∷ (later behind).items; ending = (later behind).ending }
trace_by (taken None behind) later = record { items = []; ending = (Ok tt) }
trace_by (refused rule place) later = record { items = []; ending = Err (fault_of rule place) }

-- the trace from a place on, of at most so many records
unfoldable pub trace_from : ℕ → List ℕ → ℕ → Trace
trace_from zero bytes at = record { items = []; ending = Err (Byte (Ends (length bytes))) }
trace_from (suc n) bytes at = trace_by (record_at bytes at) (trace_from n bytes)

-- there are no more records than bytes
unfoldable pub trace_at : List ℕ → ℕ → Trace
trace_at bytes at = trace_from (suc (length bytes)) bytes at

-- the items to come at a place, and the ending behind them
unfoldable pub items_at : List ℕ → ℕ → List Item
items_at bytes at = (trace_at bytes at).items

unfoldable pub ending_at : List ℕ → ℕ → Result (Unit {0}) RecordingFault
ending_at bytes at = (trace_at bytes at).ending
