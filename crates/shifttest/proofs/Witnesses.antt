-- What an opening that is not refused shows.
use Rattle.std.proofs.Common.{◌≡◌, ℕ, zero, suc, ◌+◌, ◌<◌, ◌≤◌, false, List, [], ◌∷◌, ◌++◌, length, ℤ, pos, ◌+ℤ◌, ◌≤ℤ◌, Ok, Result, refl, sym, ap, ◌∙◌, subst, arith}
use Rattle.std.proofs.lemmas.Int.{ints}
use Rattle.std.proofs.lemmas.List.{get_or_past}
use Rattle.source.specs.declared.Item.TheVariants.{Wait, See}
use Rattle.time.specs.Grains.{Grain}
use Rattle.time.specs.Laws.{Laws}
use Rattle.time.specs.Scale.{scale_le}
use Rattle.model.specs.declared.ChannelKind.TheVariants.{Output, Hidden}
use Rattle.model.specs.Model.{ModelEdge, Model}
use Rattle.network.specs.declared.Network.{Network}
use Rattle.network.specs.Networks.{model_of}
use Rattle.runs.specs.Kinds.{Kind, kind, ◌·◌}
use Rattle.runs.specs.Moves.{Move, elapsed, side, channel_at}
use Rattle.runs.specs.Runs.{later, zeros}
use Rattle.runs.specs.Points.{Pts, Spread, In}
use Rattle.runs.specs.Growth.{singles, pairs, order, Entries, new, Taken, over, Seeded, none_yet, seed, seeded, work, GrowsIn, Overruns, in_spreading, nothing, look}
use Rattle.runs.proofs.Scales.{scale_zero, scale_inj}
use Rattle.runs.proofs.Readings.{later_elapsed}
use Rattle.runs.proofs.Spreading.{spread_now}
use Rattle.estimate.specs.Rows.{Aside}
use Rattle.monitor.specs.declared.fault.WatchFault.{WatchFault}
use Rattle.monitor.specs.declared.fault.WatchFault.TheVariants.{Channel}
use Rattle.monitor.specs.declared.growing.Waited.TheVariants as outcome
use Rattle.monitor.specs.declared.watch.Watch.{Watch}
use Rattle.monitor.specs.declared.watch.Slip.{Slip}
use Rattle.monitor.specs.declared.watch.Reply.TheVariants.{Ended, Refused}
use Rattle.monitor.specs.Replies.{opened, unspent, closing, overrunning, breaking_see}
use Rattle.monitor.specs.Rows.{HasRows, Belongs, estimate_of, room}
use Rattle.monitor.specs.Waiting.{overruns}
use Rattle.monitor.specs.Calls.{Visible, Zeros, Opens, open_refused, opens, waits, see_breaks, see_of_no_channel, sees}
use Rattle.monitor.specs.Following.{Takes, at_end, at_fault, ends, refuses, follows}
use Rattle.monitor.specs.Shifts.{standing, broken_off, Shift, Fits, shift_opens, shift_ends, shift_closes}
use Rattle.monitor.proofs.Places.{fits_by_cause}
use Rattle.shifttest.specs.Witnesses.{Shows}

-- a network without edges has no moves
no_moves : (N : Model) → N.edges ≡ [] → order N ≡ []
no_moves N e = ap (λ (es : List ModelEdge). singles (length es) ++ pairs (length es) (length es)) e

-- rows that are left as they were
same_rows : {B : Type 0} (N : Model) (entries used : ℕ) (bs : List B) (ls : List ℕ) → Aside N entries used bs ls bs ls
same_rows N entries used bs ls = record { front = refl; places = refl; behind = refl; behind_places = refl; long = refl; wide = refl }

module _ {B : Type 0} (had : ℕ → Type 0) (admits : B → ℕ → ℤ → Type 0) (reach : B → ℕ) (L : Laws had admits reach) (N : Model) (d : B) (entries : ℕ) (bs : List B) (ls : List ℕ) (own : Belongs had admits reach N d (opened entries) bs ls) (zero_only : Zeros had admits reach N d bs ls) where
  abbrev K : Kind
  K = kind B had admits

  abbrev E : Entries K N
  E = estimate_of had admits reach N d (opened entries) bs ls

  abbrev Start : Pts
  Start = In K N (E.zone 0)

  origin : Start 1 zeros
  origin = (zero_only.points 1 zeros L.one).1 (refl, λ i hi. refl)

  -- the estimate spread by no tick is the estimate
  to_spread : (w g : ℕ) (v : ℕ → ℤ) → Grain had g → Start g v → Spread K N false w (E.place 0) Start g v
  to_spread w g v hg x =
      let f = own.fresh 0 (omega arith) g v hg x in
      let e = f.0 in
      spread_now K N false w (E.place 0) Start g v hg x f.1 (omega (arith, ints))

  from_spread : (g : ℕ) (v : ℕ → ℤ) → Grain had g → Spread K N false 0 (E.place 0) Start g v → Start g v
  from_spread g v hg sp = (zero_only.points g v hg).1 (all_zero 0 (omega arith), all_zero)
    where
      times : ℕ
      times = sp.0.multiple.times

      before : (i : ℕ) → i < side N → sp.0.point i ≡ pos 0
      before = ((zero_only.points sp.0.at sp.0.point sp.0.multiple.grain).0 sp.0.«in»).1

      no_wait : sp.0.wait ≡ 0
      no_wait =
          let a : pos 0 +ℤ pos sp.0.wait ≡ times · v (elapsed N) = ap (λ x. x +ℤ pos sp.0.wait) (sym (before (elapsed N) (omega arith))) ∙ sym (later_elapsed N sp.0.wait sp.0.point) ∙ sp.0.same (elapsed N) (omega arith) in
          let b : v (elapsed N) ≤ℤ pos 0 = subst (λ x. v (elapsed N) ≤ℤ x) (scale_zero g) sp.2 in
          let c : (times · v (elapsed N)) ≤ℤ (times · pos 0) = scale_le times (v (elapsed N)) (pos 0) b in
          let e : times · pos 0 ≡ pos 0 = scale_zero times in
          omega (arith, ints)

      now : (i : ℕ) → i < side N → later sp.0.wait sp.0.point i ≡ pos 0
      now zero hi = before 0 hi
      now (suc i) hi = let a = before (suc i) hi in let b = no_wait in omega (arith, ints)

      all_zero : (i : ℕ) → i < side N → v i ≡ pos 0
      all_zero i hi = scale_inj sp.0.multiple.times (v i) (pos 0) sp.0.multiple.some (sym (sp.0.same i hi) ∙ now i hi ∙ sym (scale_zero sp.0.multiple.times))

  -- no entry yet, and the estimate's alone
  abbrev none : Entries K N
  none = record { count = 0; place = E.place; zone = E.zone }

  abbrev alone : Entries K N
  alone = record { count = 1; place = λ _. E.place 0; zone = λ _. E.zone 0 }

  -- ---- a wait that overruns

  no_place : entries ≡ 1 → Overruns K N false (0 + 0) E (room (opened entries))
  no_place one =
      in_spreading 0 none (none_yet none refl) (omega arith)
      (record { full = omega arith; grain = 1; is_grain = L.one; point = zeros; «in» = to_spread 0 1 zeros L.one origin; apart = λ q. omega (arith, q.below) })

  waits_in_vain : entries ≡ 1 → Takes had admits reach N d (opened entries) unspent bs ls (Wait 0) (Ended (overrunning (opened entries))) bs ls
  waits_in_vain one =
      waits own.rows (omega arith) (omega arith) (same_rows N entries 1 bs ls)
      (λ o. record { comes_to = outcome.Overrun; waited_to = overruns (no_place one) refl; reply = refl; belongs = λ e. cc })

  -- ---- a see that breaks

  module _ (still : N.edges ≡ []) where
    through_none : (Chosen : Move → Type 0) (p : List ℕ) (Image : Move → Pts) (G : Entries K N) → Taken K N Chosen p Image (order N) G G
    through_none Chosen p Image G = subst (λ ms. Taken K N Chosen p Image ms G G) (sym (no_moves N still)) over

    grows_alone : 2 ≤ entries → GrowsIn K N false 0 E (room (opened entries)) alone
    grows_alone more = record { grown = work (seeded first) alone (omega arith) (through_none _ _ _ alone); fits = omega arith }
      where
        first : Seeded K N false 0 E 1 alone
        first =
            seed (none_yet none refl) alone (omega arith)
            (new 1 zeros L.one (to_spread 0 1 zeros L.one origin) (λ q. omega (arith, q.below))
            (record {
              extends = record { more = omega arith; places = λ i hi. absurd (omega arith); zones = λ i hi. absurd (omega arith) };
              one = refl;
              placed = refl;
              exactly = λ g v hg. (to_spread 0 g v hg, from_spread g v hg);
            }))

    sees_none : 2 ≤ entries → (k : ℕ) → channel_at N k ≡ Output → Takes had admits reach N d (opened entries) unspent bs ls (See k) (Ended (breaking_see (opened entries) Output)) bs ls
    sees_none more k is_output =
        sees own.rows (λ h. cc) (omega arith) (same_rows N entries 0 bs ls)
        (λ o. see_breaks none
        (record {
          growth = alone;
          grows = grows_alone more;
          sees = record { seen = look (nothing none refl) none (omega arith) (through_none _ _ _ none); fits = omega arith };
        })
        refl (ap (λ c. Ended (breaking_see (opened entries) c)) (sym is_output)) (same_rows N entries 1 bs ls))

  -- ---- a see of no channel

  unseen : (k : ℕ) → length N.head.channels ≤ k → ¬ (Visible N k)
  unseen k past v = v (get_or_past N.head.channels k Hidden past)

  sees_no_channel : (k : ℕ) → length N.head.channels ≤ k → Takes had admits reach N d (opened entries) unspent bs ls (See k) (Refused (opened entries) unspent (Channel 0)) bs ls
  sees_no_channel k past = see_of_no_channel own.rows (unseen k past) refl (refl, refl)

module _ {B : Type 0} (had : ℕ → Type 0) (admits : B → ℕ → ℤ → Type 0) (reach : B → ℕ) (L : Laws had admits reach) (network : Network) (d : B) (entries : ℕ) (bs bs' : List B) (ls ls' : List ℕ) where
  -- from the opening itself
  pub shows : Opens had admits reach (model_of network) d bs ls entries (Ok (opened entries, unspent)) bs' ls' → HasRows (model_of network) entries bs' ls' → Belongs had admits reach (model_of network) d (opened entries) bs' ls' → Zeros had admits reach (model_of network) d bs' ls' → Shows had admits reach (model_of network) d entries bs' ls'
  shows opening rows own z =
      record {
        stands = record { shift = standing_now; fits = tt };
        passes = record { shift = shift_closes standing_now (closing w) refl; fits = tt };
        overruns = λ one. shift_ends standing_now (Wait 0) (overrunning w) bs' ls' (waits_in_vain had admits reach L N d entries bs' ls' own z one);
        fails = λ more still k o. record { shift = broken more still k o; fits = broken_fits more still k o };
        refuses = sees_no_channel had admits reach L N d entries bs' ls' own z;
        to_the_end = record { follow = follows rows (at_end refl (closing w) refl refl (refl, refl)); taken = refl; leaves = refl; fits = tt };
        to_a_fault = record { follow = follows rows (at_fault refl refl (refl, refl)); taken = refl; leaves = refl; fits = tt };
        to_a_refusal = λ k past is ending. record { follow = follows rows (refuses (See k) w unspent (Channel 0) (sees_no_channel had admits reach L N d entries bs' ls' own z k past) refl); taken = refl; leaves = refl; fits = tt };
        to_a_break = λ more still k o is ending. record { follow = follows rows (ends (See k) (breaking_see w Output) (sees_none had admits reach L N d entries bs' ls' own z still more k o) refl); taken = refl; leaves = refl; fits = (broken_fits more still k o).1 };
      }
    where
      N : Model
      N = model_of network

      w : Watch
      w = opened entries

      standing_now : Shift had admits reach (model_of network) d [] (standing w unspent bs' ls')
      standing_now = shift_opens bs ls entries w unspent bs' ls' opening

      broken : 2 ≤ entries → (model_of network).edges ≡ [] → (k : ℕ) → channel_at (model_of network) k ≡ Output → Shift had admits reach (model_of network) d (See k ∷ []) (broken_off (breaking_see (opened entries) Output))
      broken more still k o = shift_ends standing_now (See k) (breaking_see w Output) bs' ls' (sees_none had admits reach L N d entries bs' ls' own z still more k o)

      broken_fits : (more : 2 ≤ entries) (still : (model_of network).edges ≡ []) (k : ℕ) (o : channel_at (model_of network) k ≡ Output) → Fits had admits reach (model_of network) d (broken more still k o)
      broken_fits more still k o = (fits_by_cause had admits reach network d _ _ (broken more still k o)).1 (λ r e c. cc)

  pub opening_shows : (r : Result (Watch × Slip) WatchFault) → Opens had admits reach (model_of network) d bs ls entries r bs' ls' → HasRows (model_of network) entries bs ls → Shows had admits reach (model_of network) d entries bs' ls'
  opening_shows r (open_refused h e u) rows = absurd (h rows)
  opening_shows r (opens h e z own a) rows = shows (opens h refl z own a) own.rows own z
