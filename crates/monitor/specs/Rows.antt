-- The rows of a watch: the caller's row of bounds and row of locations.
use Rattle.std.specs.Prelude.{◌≡◌, ℕ, ◌+◌, ◌-◌, ◌*◌, ◌<◌, ◌≤◌, false, List, length, ℤ, pos}
use Rattle.time.specs.Grains.{Grain}
use Rattle.model.specs.Model.{Model}
use Rattle.runs.specs.Kinds.{kind}
use Rattle.runs.specs.Moves.{elapsed, Keeps}
use Rattle.runs.specs.Points.{In}
use Rattle.runs.specs.Growth.{Entries}
use Rattle.estimate.specs.Rows.{area, entries_of, AllFine}
use Rattle.monitor.specs.declared.watch.Watch.{Watch}
use Rattle.monitor.specs.Replies.{most}

-- so many entries can be had in rows of these lengths: they and, of bounds, the work entry fit
pub record HasRows {B : Type 0} (N : Model) (entries : ℕ) (bs : List B) (ls : List ℕ) : Type 0 where
  pub some : 1 ≤ entries
  pub few : entries ≤ 256
  pub bounds : area N * (entries + 1) ≤ length bs
  pub locations : 8 * entries ≤ length ls

-- the tick of the last see, or of the opening
abbrev pub last_seen : Watch → ℕ
last_seen w = w.tick - w.since

-- the places behind the estimate
abbrev pub room : Watch → ℕ
room w = w.entries - w.estimate

module _ {B : Type 0} (had : ℕ → Type 0) (admits : B → ℕ → ℤ → Type 0) (reach : B → ℕ) (N : Model) (d : B) where
  -- the estimate: the first entries of the rows
  abbrev pub estimate_of : Watch → List B → List ℕ → Entries (kind B had admits) N
  estimate_of w bs ls = entries_of had admits N d bs ls 0 w.estimate

  -- entries right after a see: their points have the elapsed clock at zero, and keep the limits of their locations
  abbrev pub Fresh : Entries (kind B had admits) N → Type 0
  Fresh E = (i : ℕ) → i < E.count → (g : ℕ) (v : ℕ → ℤ) → Grain had g → In (kind B had admits) N (E.zone i) g v → (v (elapsed N) ≡ pos 0) × Keeps N false (E.place i) g v

  -- network and rows are those of the watch
  pub record Belongs (w : Watch) (bs : List B) (ls : List ℕ) : Type 0 where
    pub rows : HasRows N w.entries bs ls
    pub estimated : 1 ≤ w.estimate
    pub within : w.estimate ≤ w.entries
    pub since : w.since ≤ w.tick
    pub ticks : w.tick ≤ most
    pub items : w.items ≤ most
    pub fine : AllFine had admits reach N (last_seen w) d bs w.estimate
    pub fresh : Fresh (estimate_of w bs ls)
