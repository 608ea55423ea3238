-- Shifts that there are: what is said of every shift is not said of none.
use Rattle.std.specs.Prelude.{◌≡◌, ℕ, ◌≤◌, Bool, true, false, List, [], ◌∷◌, length, ℤ}
use Rattle.source.specs.declared.Item.{Item}
use Rattle.source.specs.declared.Item.TheVariants.{Wait, See}
use Rattle.model.specs.declared.ChannelKind.TheVariants.{Output}
use Rattle.model.specs.Model.{Model}
use Rattle.runs.specs.Moves.{channel_at}
use Rattle.monitor.specs.declared.fault.WatchFault.TheVariants.{Channel}
use Rattle.monitor.specs.declared.watch.Reply.TheVariants.{Refused}
use Rattle.monitor.specs.Replies.{opened, unspent, closing, overrunning, breaking_see}
use Rattle.monitor.specs.Following.{Answer, ended, stopped_by_source, stopped_by_item, Takes, stopping, Follows}
use Rattle.monitor.specs.Shifts.{Stage, standing, closed, broken_off, followed, follow_leaves, Shift, Fits, FitsFollow}

module _ {B : Type 0} (had : ℕ → Type 0) (admits : B → ℕ → ℤ → Type 0) (reach : B → ℕ) (N : Model) (d : B) where
  -- a shift whose growth fits
  pub record Fitting (t : List Item) (stage : Stage B) : Type 0 where
    pub shift : Shift had admits reach N d t stage
    pub fits : Fits had admits reach N d shift

  -- of a watch that was opened for so many entries, over the rows that its opening left
  module _ (entries : ℕ) (bs : List B) (ls : List ℕ) where
    -- a follow of these items that leaves the shift there, with the trace t, and adds no entry without a place
    pub record FollowedTo (is : List Item) (ending : Bool) (y : Answer) (t : List Item) (stage : Stage B) : Type 0 where
      pub follow : Follows had admits reach N d (opened entries) unspent bs ls is ending y bs ls
      pub taken : followed had admits reach N d follow ≡ t
      pub leaves : follow_leaves had admits reach N d follow ≡ stage
      pub fits : FitsFollow had admits reach N d follow

    -- the shifts and follows that there are from this opening
    pub record Shows : Type 0 where
      pub stands : Fitting [] (standing (opened entries) unspent bs ls)
      -- it is closed, and passes
      pub passes : Fitting [] (closed (closing (opened entries)))
      -- with one entry it overruns, even in a wait of no tick
      pub overruns : entries ≡ 1 → Shift had admits reach N d (Wait 0 ∷ []) (broken_off (overrunning (opened entries)))
      -- where nothing can move, a see of an output fails
      pub fails : 2 ≤ entries → N.edges ≡ [] → (k : ℕ) → channel_at N k ≡ Output → Fitting (See k ∷ []) (broken_off (breaking_see (opened entries) Output))
      -- a see of no channel is refused
      pub refuses : (k : ℕ) → length N.head.channels ≤ k → Takes had admits reach N d (opened entries) unspent bs ls (See k) (Refused (opened entries) unspent (Channel 0)) bs ls
      -- a follow of nothing meets its source's end, or its fault
      pub to_the_end : FollowedTo [] true (ended (closing (opened entries))) [] (closed (closing (opened entries)))
      pub to_a_fault : FollowedTo [] false (stopped_by_source (stopping (opened entries))) [] (broken_off (stopping (opened entries)))
      -- one is stopped by a see of no channel, and one by that break; further items are left
      pub to_a_refusal : (k : ℕ) → length N.head.channels ≤ k → (is : List Item) (ending : Bool) → FollowedTo (See k ∷ is) ending (stopped_by_item (stopping (opened entries)) (Channel 0)) [] (broken_off (stopping (opened entries)))
      pub to_a_break : 2 ≤ entries → N.edges ≡ [] → (k : ℕ) → channel_at N k ≡ Output → (is : List Item) (ending : Bool) → FollowedTo (See k ∷ is) ending (ended (breaking_see (opened entries) Output)) (See k ∷ []) (broken_off (breaking_see (opened entries) Output))
