-- How the items and the ending of a recording stand to its bytes.
use Rattle.std.specs.Prelude.{◌≡◌, ℕ, ◌+◌, List, ◌++◌, length, drop, Result, Ok}
use Rattle.std.specs.List.{flat_map}
use Rattle.source.specs.declared.Item.{Item}
use Rattle.source.specs.declared.recorded.RecordingFault.{RecordingFault}
use Rattle.source.specs.Answers.{ending_answer}
use Rattle.source.specs.Layout.{record_bytes, recording_layout, Writable}
use Rattle.source.specs.Reading.{record_at}

-- the bytes begin with the records of the items, and the record behind those is what the ending says
abbrev pub ClosesBehindItsItems : List ℕ → List Item → Result (Unit {0}) RecordingFault → Type 0
ClosesBehindItsItems bytes items ending = (bytes ≡ flat_map record_bytes items ++ drop (length (flat_map record_bytes items)) bytes) × (record_at bytes (length (flat_map record_bytes items)) ≡ ending_answer (length (flat_map record_bytes items) + 1) ending)

-- only the layout of its items has the end for its ending
abbrev pub EndsOnlyAsLaidOut : List ℕ → List Item → Result (Unit {0}) RecordingFault → Type 0
EndsOnlyAsLaidOut bytes items ending = ending ≡ (Ok tt) → (bytes ≡ recording_layout items) × Writable items

-- a layout has its own items, and the end for its ending
abbrev pub EndsAsLaidOut : List ℕ → List Item → Result (Unit {0}) RecordingFault → Type 0
EndsAsLaidOut bytes items ending = (laid : List Item) → Writable laid → bytes ≡ recording_layout laid → (items ≡ laid) × (ending ≡ (Ok tt))
