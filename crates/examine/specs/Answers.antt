-- What a fault of the files is refused with: a document, a rule by its number, and a place.
use Rattle.std.specs.Prelude.{◌≡◌, ℕ}
use Rattle.network.specs.Answers.{sheet_rule, sheet_place}
use Rattle.report.specs.declared.Document.{Document}
use Rattle.report.specs.declared.Document.TheVariants.{Program, Sheet as SheetWord, Recording as RecordingWord}
use Rattle.report.specs.declared.Refusal.{Refusal}
use Rattle.source.specs.Answers.{recording_rule, recording_place}
use Rattle.examine.specs.declared.Fault.{Fault}
use Rattle.examine.specs.declared.Fault.TheVariants.{TooLong, Sheet, Recording}

abbrev pub fault_document : Fault → Document
fault_document TooLong = Program
fault_document (Sheet fault) = SheetWord
fault_document (Recording fault) = RecordingWord

abbrev pub fault_rule : Fault → ℕ
fault_rule TooLong = 1
fault_rule (Sheet fault) = sheet_rule fault
fault_rule (Recording fault) = recording_rule fault

-- a file that is too long is refused at the length that it may have
abbrev pub fault_place : Fault → ℕ
fault_place TooLong = 16384
fault_place (Sheet fault) = sheet_place fault
fault_place (Recording fault) = recording_place fault

-- the refusal that a fault comes to
abbrev pub Refuses : Fault → Refusal → Type 0
Refuses fault refusal = (refusal.document ≡ fault_document fault) × (refusal.number ≡ fault_rule fault) × (refusal.place ≡ fault_place fault)
