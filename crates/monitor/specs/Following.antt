-- A follow: items given to wait or see one after another, as a source has them to come.
use Rattle.std.specs.Prelude.{◌≡◌, ℕ, Bool, true, false, List, [], ◌∷◌, ℤ, Result, Ok, Err}
use Rattle.source.specs.declared.Item.{Item}
use Rattle.source.specs.declared.Item.TheVariants.{Wait, See}
use Rattle.model.specs.Model.{Model}
use Rattle.report.specs.declared.Verdict.TheVariants.{Inconclusive}
use Rattle.report.specs.declared.Cause.TheVariants.{Refused as Stopped}
use Rattle.report.specs.declared.Report.{Report}
use Rattle.monitor.specs.declared.fault.WatchFault.{WatchFault}
use Rattle.monitor.specs.declared.fault.WatchFault.TheVariants.{Rows}
use Rattle.monitor.specs.declared.follow.Stop.{Stop}
use Rattle.monitor.specs.declared.follow.Stop.TheVariants as why
use Rattle.monitor.specs.declared.follow.Followed.{Followed}
use Rattle.monitor.specs.declared.follow.Followed.TheVariants as outcome
use Rattle.monitor.specs.declared.watch.Watch.{Watch}
use Rattle.monitor.specs.declared.watch.Slip.{Slip}
use Rattle.monitor.specs.declared.watch.Reply.{Reply}
use Rattle.monitor.specs.declared.watch.Reply.TheVariants.{Going, Ended, Refused}
use Rattle.monitor.specs.Rows.{HasRows}
use Rattle.monitor.specs.Calls.{Unchanged, Waits, Sees, Closes}

-- the report of a watch whose follow was stopped, by its source's fault or by an item that is refused
abbrev pub stopping : Watch → Report
stopping w = record { verdict = Inconclusive; cause = Stopped; count = w.items; tick = w.tick }

-- what a follow answers; the source's fault, and the source that a refused follow hands back, stand beside it
pub data Answer : Type 0 where
  -- the watch was closed at the source's end, or it broke or overran
  ended : Report → Answer
  -- the source has a fault
  stopped_by_source : Report → Answer
  -- an item is refused
  stopped_by_item : Report → WatchFault → Answer
  -- the follow is refused, and the watch is as it was
  returned : Watch → Slip → WatchFault → Answer

module _ {B : Type 0} (had : ℕ → Type 0) (admits : B → ℕ → ℤ → Type 0) (reach : B → ℕ) (N : Model) (d : B) where
  -- an item given to the watch: to wait or to see
  abbrev pub Takes : Watch → Slip → List B → List ℕ → Item → Reply → List B → List ℕ → Type 0
  Takes w s bs ls (Wait ticks) = Waits had admits reach N d w s bs ls ticks
  Takes w s bs ls (See k) = Sees had admits reach N d w s bs ls k

  -- a watch given the items to come, each on what the one before left, to the end behind them (true) or the fault there (false), to a break or an overrun, or to an item that is refused
  pub data Gives (ending : Bool) (y : Answer) (bs'' : List B) (ls'' : List ℕ) : Watch → Slip → List B → List ℕ → List Item → Type 0 where
    -- nothing is to come, and there is the end: the watch is closed
    at_end : {w : Watch} {s : Slip} {bs : List B} {ls : List ℕ} → ending ≡ true → (r : Report) → Closes w r → y ≡ ended r → Unchanged had admits reach N d bs ls bs'' ls'' → Gives ending y bs'' ls'' w s bs ls []
    -- or the fault
    at_fault : {w : Watch} {s : Slip} {bs : List B} {ls : List ℕ} → ending ≡ false → y ≡ stopped_by_source (stopping w) → Unchanged had admits reach N d bs ls bs'' ls'' → Gives ending y bs'' ls'' w s bs ls []
    -- the first item goes on, and the others are given to what it left
    goes_on : {w w' : Watch} {s s' : Slip} {bs bs' : List B} {ls ls' : List ℕ} {is : List Item} (i : Item) → Takes w s bs ls i (Going w' s') bs' ls' → Gives ending y bs'' ls'' w' s' bs' ls' is → Gives ending y bs'' ls'' w s bs ls (i ∷ is)
    -- it breaks or overruns
    ends : {w : Watch} {s : Slip} {bs : List B} {ls : List ℕ} {is : List Item} (i : Item) (r : Report) → Takes w s bs ls i (Ended r) bs'' ls'' → y ≡ ended r → Gives ending y bs'' ls'' w s bs ls (i ∷ is)
    -- it is refused
    refuses : {w : Watch} {s : Slip} {bs : List B} {ls : List ℕ} {is : List Item} (i : Item) (w' : Watch) (s' : Slip) (fault : WatchFault) → Takes w s bs ls i (Refused w' s' fault) bs'' ls'' → y ≡ stopped_by_item (stopping w') fault → Gives ending y bs'' ls'' w s bs ls (i ∷ is)

  -- a follow of a source with these items to come, and behind them its end (true) or its fault (false)
  pub data Follows (w : Watch) (s : Slip) (bs : List B) (ls : List ℕ) (is : List Item) (ending : Bool) (y : Answer) (bs' : List B) (ls' : List ℕ) : Type 0 where
    -- the rows are too short, and the source is not asked
    follow_without_rows : ¬ (HasRows N w.entries bs ls) → y ≡ returned w s (Rows w.items) → Unchanged had admits reach N d bs ls bs' ls' → Follows w s bs ls is ending y bs' ls'
    -- its items are given
    follows : HasRows N w.entries bs ls → Gives ending y bs' ls' w s bs ls is → Follows w s bs ls is ending y bs' ls'

-- ---- what a follow of a source of type S, with faults of type F, answers

module _ {F : Type 0} where
  -- a source meets its end, and not a fault
  abbrev pub meets_end : Result (Unit {0}) F → Bool
  meets_end (Ok _) = true
  meets_end (Err fault) = false

  abbrev pub stopped : Report → Stop F → Answer
  stopped r (why.Source fault) = stopped_by_source r
  stopped r (why.Item fault) = stopped_by_item r fault

  -- of the items given, in rows that are long enough
  abbrev pub given_of : Result Report (Report × Stop F) → Answer
  given_of (Ok r) = ended r
  given_of (Err (r, stop)) = stopped r stop

  abbrev pub IsFault : Result (Unit {0}) F → Stop F → Type 0
  IsFault ending (why.Source fault) = ending ≡ Err fault
  IsFault ending (why.Item fault) = Unit {0}

  abbrev pub GivesFault : Result (Unit {0}) F → Result Report (Report × Stop F) → Type 0
  GivesFault ending (Ok r) = Unit {0}
  GivesFault ending (Err (r, stop)) = IsFault ending stop

  module _ {S : Type 0} where
    abbrev pub answer_of : Followed S F → Answer
    answer_of (outcome.Ended r) = ended r
    answer_of (outcome.Stopped r stop) = stopped r stop
    answer_of (outcome.Refused w s source fault) = returned w s fault

    -- a follow that is refused hands back the very source
    abbrev pub HandsBack : S → Followed S F → Type 0
    HandsBack source (outcome.Ended r) = Unit {0}
    HandsBack source (outcome.Stopped r stop) = Unit {0}
    HandsBack source (outcome.Refused w s back fault) = back ≡ source

    -- one that is stopped by its source carries the fault of the source's ending, whole
    abbrev pub CarriesFault : Result (Unit {0}) F → Followed S F → Type 0
    CarriesFault ending (outcome.Ended r) = Unit {0}
    CarriesFault ending (outcome.Stopped r stop) = IsFault ending stop
    CarriesFault ending (outcome.Refused w s back fault) = Unit {0}
