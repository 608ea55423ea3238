-- Each case of the answers, by its number and its values.
use Rattle.std.specs.Prelude.{ℕ, ◌+◌, cond, Option, Some, None, Ok, Err, Result, ◌==◌}
use Rattle.wire.specs.Answers.{byte_case}
use Rattle.wire.specs.Reading.{Outcome, taken, refused}
use Rattle.wire.specs.declared.ByteFault.TheVariants.{Ends, Form}
use Rattle.source.specs.declared.Item.{Item}
use Rattle.source.specs.declared.Item.TheVariants.{Wait, See}
use Rattle.source.specs.declared.recorded.RecordingFault.{RecordingFault}
use Rattle.source.specs.declared.recorded.RecordingFault.TheVariants.{Byte, FirstByte, LeftOver}

-- the first byte of an item's record, and the number behind it
abbrev pub item_case : Item → ℕ × ℕ
item_case (Wait ticks) = (0, ticks)
item_case (See channel) = (1, channel)

abbrev pub item_kind : Item → ℕ
item_kind item = (item_case item).0

abbrev pub item_number : Item → ℕ
item_number item = (item_case item).1

-- the rule that is broken, and the place that a refusal names
abbrev pub recording_case : RecordingFault → ℕ × ℕ
recording_case (Byte fault) = byte_case fault
recording_case (FirstByte place) = (4, place)
recording_case (LeftOver place) = (7, place)

abbrev pub recording_rule : RecordingFault → ℕ
recording_rule fault = (recording_case fault).0

abbrev pub recording_place : RecordingFault → ℕ
recording_place fault = (recording_case fault).1

-- the fault with this rule and this place
abbrev pub fault_of : ℕ → ℕ → RecordingFault
fault_of rule place = cond (rule == 2) (Byte (Ends place)) (cond (rule == 3) (Byte (Form place)) (cond (rule == 4) (FirstByte place) (LeftOver place)))

-- the record that is read, an item's or the last one, and the place behind it
abbrev pub record_answer : Result (Option Item × ℕ) RecordingFault → Outcome (Option Item)
record_answer (Ok p) = taken p.0 p.1
record_answer (Err fault) = refused (recording_rule fault) (recording_place fault)

-- an ending is what the record behind the items comes to: the last one, with the place behind it, or a refusal
abbrev pub ending_answer : ℕ → Result (Unit {0}) RecordingFault → Outcome (Option Item)
ending_answer behind (Ok _) = taken None behind
ending_answer behind (Err fault) = refused (recording_rule fault) (recording_place fault)

-- a step of a recording that stands at this position after it
abbrev pub step_answer : ℕ → Result (Option Item) RecordingFault → Outcome (Option Item)
step_answer position (Ok (Some item)) = taken (Some item) position
step_answer position (Ok None) = ending_answer (position + 1) (Ok tt)
step_answer position (Err fault) = ending_answer (position + 1) (Err fault)
