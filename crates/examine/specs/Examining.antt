-- What the two files of a run come to.
use Rattle.std.specs.Prelude.{◌≡◌, ℕ, cond, ◌||◌, List, length, Ok, Err, Result, nat_lt}
use Rattle.wire.specs.Reading.{Outcome, taken, refused}
use Rattle.model.specs.Model.{Model}
use Rattle.model.specs.Sheet.{read_sheet}
use Rattle.network.specs.declared.Network.{Network}
use Rattle.network.specs.Networks.{model_of}
use Rattle.report.specs.declared.Document.{Document}
use Rattle.report.specs.declared.Document.TheVariants.{Program, Sheet}
use Rattle.source.specs.declared.recorded.RecordingFault.{RecordingFault}
use Rattle.source.specs.Reading.{items_at, ending_at}
use Rattle.examine.specs.declared.Fault.{Fault}
use Rattle.examine.specs.declared.Tally.{Tally}
use Rattle.examine.specs.Answers.{fault_document, fault_rule, fault_place}
use Rattle.examine.specs.Tallies.{capped, waits_in, sees_in, ticks_in}

pub data Examined : Type 0 where
  -- the document, the rule and the place of a refusal
  turned_away : Document → ℕ → ℕ → Examined
  -- the network; the waits, sees and ticks of the recording, and its ending
  readable : Model → ℕ → ℕ → ℕ → Result (Unit {0}) RecordingFault → Examined

abbrev pub by_sheet : List ℕ → Outcome Model → Examined
by_sheet recording (taken model end) = readable model (capped (waits_in (items_at recording 0))) (capped (sees_in (items_at recording 0))) (capped (ticks_in (items_at recording 0))) (ending_at recording 0)
by_sheet recording (refused rule place) = turned_away Sheet rule place

-- both files are held to their length first, and then the sheet is read
abbrev pub examined : List ℕ → List ℕ → Examined
examined sheet recording = cond (nat_lt 16384 (length sheet) || nat_lt 16384 (length recording)) (turned_away Program 1 16384) (by_sheet recording (read_sheet sheet))

abbrev pub examine_answer : Network → Result (Tally RecordingFault) Fault → Examined
examine_answer place (Ok t) = readable (model_of place) t.waits t.sees t.ticks t.ending
examine_answer place (Err fault) = turned_away (fault_document fault) (fault_rule fault) (fault_place fault)

abbrev pub RefusedLeaves : Network → Network → Result (Tally RecordingFault) Fault → Type 0
RefusedLeaves before after r = (fault : Fault) → r ≡ Err fault → after ≡ before
