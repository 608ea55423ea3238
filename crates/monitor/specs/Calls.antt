-- What each call promises: its reply, and what the rows then hold. `d` stands for a bound that a row lacks.
use Rattle.std.specs.Prelude.{◌≡◌, ℕ, ◌+◌, ◌<◌, ◌≤◌, ◌⊎◌, ◌↔◌, List, ℤ, pos, Result, Ok, Err}
use Rattle.time.specs.Grains.{Grain}
use Rattle.model.specs.declared.ChannelKind.TheVariants.{Hidden}
use Rattle.model.specs.Model.{Model}
use Rattle.report.specs.declared.Report.{Report}
use Rattle.runs.specs.Kinds.{kind}
use Rattle.runs.specs.Moves.{home, side, channel_at}
use Rattle.runs.specs.Points.{In}
use Rattle.runs.specs.Growth.{Entries, Alike, SeenFrom, OverrunsSeeing}
use Rattle.estimate.specs.declared.Store.{Store}
use Rattle.estimate.specs.Rows.{entries_of, Aside}
use Rattle.estimate.specs.Stores.{network_in}
use Rattle.monitor.specs.declared.fault.WatchFault.{WatchFault}
use Rattle.monitor.specs.declared.fault.WatchFault.TheVariants.{Rows, Channel, Range}
use Rattle.monitor.specs.declared.growing.Waited.{Waited}
use Rattle.monitor.specs.declared.growing.Waited.TheVariants.{Reached}
use Rattle.monitor.specs.declared.watch.Watch.{Watch}
use Rattle.monitor.specs.declared.watch.Slip.{Slip}
use Rattle.monitor.specs.declared.watch.Reply.{Reply}
use Rattle.monitor.specs.declared.watch.Reply.TheVariants.{Going, Ended, Refused}
use Rattle.monitor.specs.Replies.{most, opened, waited, seen, unspent, closing, overrunning, breaking_see, wait_reply}
use Rattle.monitor.specs.Rows.{HasRows, Belongs, estimate_of, room}
use Rattle.monitor.specs.Waiting.{WaitedTo}

-- the channel is an input or an output of the network
abbrev pub Visible : Model → ℕ → Type 0
Visible N k = ¬ (channel_at N k ≡ Hidden)

module _ {B : Type 0} (had : ℕ → Type 0) (admits : B → ℕ → ℤ → Type 0) (reach : B → ℕ) (N : Model) (d : B) where
  -- both rows are as they were
  abbrev pub Unchanged : List B → List ℕ → List B → List ℕ → Type 0
  Unchanged bs ls bs' ls' = (bs' ≡ bs) × (ls' ≡ ls)

  -- ---- open

  -- the estimate is one entry all of zeros: every process in location 0, and exactly the point at zero
  pub record Zeros (bs : List B) (ls : List ℕ) : Type 0 where
    pub places : (entries_of had admits N d bs ls 0 1).place 0 ≡ home N
    pub points : (g : ℕ) (v : ℕ → ℤ) → Grain had g → In (kind B had admits) N ((entries_of had admits N d bs ls 0 1).zone 0) g v ↔ ((v 0 ≡ pos 0) × ((i : ℕ) → i < side N → v i ≡ pos 0))

  -- refused exactly where the rows do not do, and then nothing changes; else the rows hold the start
  pub data Opens (bs : List B) (ls : List ℕ) (entries : ℕ) (r : Result (Watch × Slip) WatchFault) (bs' : List B) (ls' : List ℕ) : Type 0 where
    open_refused : ¬ (HasRows N entries bs ls) → r ≡ Err (Rows 0) → Unchanged bs ls bs' ls' → Opens bs ls entries r bs' ls'
    opens : HasRows N entries bs ls → r ≡ Ok (opened entries, unspent) → Zeros bs' ls' → Belongs had admits reach N d (opened entries) bs' ls' → Aside N entries 0 bs ls bs' ls' → Opens bs ls entries r bs' ls'

  -- ---- wait and see, of a watch with its slip over these rows

  module _ (w : Watch) (s : Slip) (bs : List B) (ls : List ℕ) where
    -- a wait on the watch's own network and rows: the reply by what the estimate comes to
    pub record WaitTaken (ticks : ℕ) (r : Reply) (bs' : List B) (ls' : List ℕ) : Type 0 where
      pub comes_to : Waited
      pub waited_to : WaitedTo (kind B had admits) N (estimate_of had admits reach N d w bs ls) (room w) (w.since + ticks) comes_to
      pub reply : r ≡ wait_reply w s ticks comes_to
      pub belongs : comes_to ≡ Reached → Belongs had admits reach N d (waited w ticks) bs' ls'

    -- refused in this order, with nothing changed; else taken, and on the watch's own rows as WaitTaken says
    pub data Waits (ticks : ℕ) (r : Reply) (bs' : List B) (ls' : List ℕ) : Type 0 where
      wait_without_rows : ¬ (HasRows N w.entries bs ls) → r ≡ Refused w s (Rows w.items) → Unchanged bs ls bs' ls' → Waits ticks r bs' ls'
      wait_out_of_range : HasRows N w.entries bs ls → (most < w.tick + ticks) ⊎ (most < w.items + 1) → r ≡ Refused w s (Range w.items) → Unchanged bs ls bs' ls' → Waits ticks r bs' ls'
      waits : HasRows N w.entries bs ls → w.tick + ticks ≤ most → w.items + 1 ≤ most → Aside N w.entries w.estimate bs ls bs' ls' → (Belongs had admits reach N d w bs ls → WaitTaken ticks r bs' ls') → Waits ticks r bs' ls'

    -- a see on the watch's own network and rows: after one that goes on, the first entries are its results
    pub data SeeTaken (k : ℕ) (r : Reply) (bs' : List B) (ls' : List ℕ) : Type 0 where
      see_overruns : OverrunsSeeing (kind B had admits) N k w.since (estimate_of had admits reach N d w bs ls) (room w) → r ≡ Ended (overrunning w) → Aside N w.entries w.estimate bs ls bs' ls' → SeeTaken k r bs' ls'
      see_breaks : (F : Entries (kind B had admits) N) → SeenFrom (kind B had admits) N k w.since (estimate_of had admits reach N d w bs ls) (room w) F → F.count ≡ 0 → r ≡ Ended (breaking_see w (channel_at N k)) → Aside N w.entries w.estimate bs ls bs' ls' → SeeTaken k r bs' ls'
      see_goes_on : (count : ℕ) → 1 ≤ count → (F : Entries (kind B had admits) N) → SeenFrom (kind B had admits) N k w.since (estimate_of had admits reach N d w bs ls) (room w) F → Alike (kind B had admits) N F (entries_of had admits N d bs' ls' 0 count) → r ≡ Going (seen w count) s → Belongs had admits reach N d (seen w count) bs' ls' → SeeTaken k r bs' ls'

    -- refused in this order, with nothing changed; else taken, and on the watch's own rows as SeeTaken says
    pub data Sees (k : ℕ) (r : Reply) (bs' : List B) (ls' : List ℕ) : Type 0 where
      see_without_rows : ¬ (HasRows N w.entries bs ls) → r ≡ Refused w s (Rows w.items) → Unchanged bs ls bs' ls' → Sees k r bs' ls'
      see_of_no_channel : HasRows N w.entries bs ls → ¬ (Visible N k) → r ≡ Refused w s (Channel w.items) → Unchanged bs ls bs' ls' → Sees k r bs' ls'
      see_out_of_range : HasRows N w.entries bs ls → Visible N k → most < w.items + 1 → r ≡ Refused w s (Range w.items) → Unchanged bs ls bs' ls' → Sees k r bs' ls'
      sees : HasRows N w.entries bs ls → Visible N k → w.items + 1 ≤ most → Aside N w.entries 0 bs ls bs' ls' → (Belongs had admits reach N d w bs ls → SeeTaken k r bs' ls') → Sees k r bs' ls'

-- ---- a wait and a see that are not refused, of a store

module _ {B : Type 0} (had : ℕ → Type 0) (admits : B → ℕ → ℤ → Type 0) (reach : B → ℕ) where
  -- on the rows of a store that are the watch's own, as WaitTaken says
  abbrev pub WaitIn : Watch → Slip → ℕ → Store B → Reply → Store B → Type 0
  WaitIn w s ticks a r b = (d : B) → Belongs had admits reach (network_in a) d w a.bounds.now a.locations.now → WaitTaken had admits reach (network_in a) d w s a.bounds.now a.locations.now ticks r b.bounds.now b.locations.now

  -- on the rows of a store that are the watch's own, as SeeTaken says
  abbrev pub SeeIn : Watch → Slip → ℕ → Store B → Reply → Store B → Type 0
  SeeIn w s k a r b = (d : B) → Belongs had admits reach (network_in a) d w a.bounds.now a.locations.now → SeeTaken had admits reach (network_in a) d w s a.bounds.now a.locations.now k r b.bounds.now b.locations.now

-- ---- close

-- the report of a close
abbrev pub Closes : Watch → Report → Type 0
Closes w r = r ≡ closing w

-- ---- the replies are determined by the estimate's points: of two stores whose estimates are alike

module _ {B : Type 0} (had : ℕ → Type 0) (admits : B → ℕ → ℤ → Type 0) (reach : B → ℕ) (N : Model) (w : Watch) where
  -- both are the watch's, and their estimates have the same locations and points, entry by entry
  pub record AlikeRows (d d' : B) (bs : List B) (ls : List ℕ) (bs' : List B) (ls' : List ℕ) : Type 0 where
    pub first : Belongs had admits reach N d w bs ls
    pub second : Belongs had admits reach N d' w bs' ls'
    pub alike : Alike (kind B had admits) N (estimate_of had admits reach N d w bs ls) (estimate_of had admits reach N d' w bs' ls')

  -- a wait has one reply
  abbrev pub WaitDetermined : Slip → ℕ → Type 0
  WaitDetermined s ticks = (d d' : B) (bs bs' bs₁ bs₁' : List B) (ls ls' ls₁ ls₁' : List ℕ) (r r' : Reply) → AlikeRows d d' bs ls bs' ls' → Waits had admits reach N d w s bs ls ticks r bs₁ ls₁ → Waits had admits reach N d' w s bs' ls' ticks r' bs₁' ls₁' → r ≡ r'

  -- a see has one reply, and where it goes on the new estimates are alike
  abbrev pub SeeDetermined : Slip → ℕ → Type 0
  SeeDetermined s k =
      (d d' : B) (bs bs' bs₁ bs₁' : List B) (ls ls' ls₁ ls₁' : List ℕ) (r r' : Reply) → AlikeRows d d' bs ls bs' ls' → Sees had admits reach N d w s bs ls k r bs₁ ls₁ → Sees had admits reach N d' w s bs' ls' k r' bs₁' ls₁' →
      (r ≡ r') × ((v : Watch) → r ≡ Going v s → Alike (kind B had admits) N (entries_of had admits N d bs₁ ls₁ 0 v.estimate) (entries_of had admits N d' bs₁' ls₁' 0 v.estimate))
