-- Shifts on the tight bell: in whole ticks no state is between 3 and 4 ticks, in split ticks there is.
use Rattle.std.proofs.Common.{◌≡◌, ℕ, zero, suc, ◌-◌, ◌<◌, ◌≤◌, Bool, true, false, List, [], ◌∷◌, ℤ, pos, negsuc, ◌-ℤ◌, ◌<ℤ◌, sym, refl, subst, arith}
use Rattle.std.proofs.lemmas.Int.{ints}
use Rattle.time.specs.Grains.{Grain}
use Rattle.time.specs.Whole.{whole_had, whole_admits, whole_reach}
use Rattle.time.specs.WholeLaws.{whole_one}
use Rattle.time.specs.Split.{split_had, split_admits, split_reach}
use Rattle.time.specs.SplitLaws.{split_grain}
use Rattle.time.specs.declared.whole.WholeTicks.{WholeTicks}
use Rattle.time.specs.declared.split.SplitTicks.{SplitTicks}
use Rattle.source.specs.declared.Item.TheVariants.{Wait, See}
use Rattle.model.specs.Sound.{process_at}
use Rattle.report.specs.declared.Verdict.TheVariants.{Pass, Fail}
use Rattle.report.specs.declared.Cause.TheVariants.{Closed, BrokenWait}
use Rattle.runs.specs.Kinds.{Kind, kind, ◌·◌}
use Rattle.runs.specs.Moves.{single, pair, From, Binds, Keeps}
use Rattle.runs.specs.Runs.{later, moved, zeros}
use Rattle.runs.specs.Points.{Pts, Spread, After, Arrives, In}
use Rattle.runs.specs.Growth.{Entries, GrowsIn, Overruns, SeenFrom, OverrunsSeeing, in_growth, in_results}
use Rattle.runs.proofs.Scales.{multiple_refl}
use Rattle.monitor.specs.declared.watch.Watch.{Watch}
use Rattle.monitor.specs.Replies.{waited, unspent}
use Rattle.monitor.specs.Rows.{estimate_of, room}
use Rattle.monitor.specs.Examples.{BetweenTicksInWhole, BetweenTicksInSplit, tight_bell, report}
use Rattle.monitor.proofs.Ones.{Some, None, One}
use Rattle.monitor.proofs.Twos.{Two, worked_missed, fits_missed, worked_two, fits_two, seen_second, see_fits_two}
use Rattle.monitor.proofs.CallByCall.{Reaches, Stops, wait_on, wait_fails, see_on}
use Rattle.monitor.proofs.Clock.{EndsBefore, spread_part, spread_at, some_at, point_of, ends_of}
use Rattle.monitor.proofs.Stands.{Alone}
use Rattle.monitor.proofs.Asking.{two, Asking, asked_of, Then, On, asked_first}
use Rattle.monitor.proofs.Shifts.{reading}

-- the locations at the start, after the bell is asked, and behind the edge alone
abbrev start : List ℕ
start = 0 ∷ 0 ∷ []

abbrev asked : List ℕ
asked = 0 ∷ 1 ∷ []

abbrev beyond : List ℕ
beyond = 0 ∷ 2 ∷ []

three : (P : ℕ → Type 0) → P 0 → P 1 → P 2 → (i : ℕ) → i < 3 → P i
three P a b c zero h = a
three P a b c (suc zero) h = b
three P a b c (suc (suc zero)) h = c
three P a b c (suc (suc (suc i))) h = absurd (omega arith)

keeps_start : (g : ℕ) (v : ℕ → ℤ) → Keeps tight_bell false start g v
keeps_start g v = two (λ q. Binds false (process_at tight_bell.head q).side → _) (λ b. tt) (λ b. tt)

keeps_asked : (g : ℕ) (v : ℕ → ℤ) → (v 1 -ℤ v 0) <ℤ (g · pos 4) → Keeps tight_bell false asked g v
keeps_asked g v h = two (λ q. Binds false (process_at tight_bell.head q).side → _) (λ b. tt) (λ b. (h, tt))

asked_keeps : (g : ℕ) (v : ℕ → ℤ) → Keeps tight_bell false asked g v → (v 1 -ℤ v 0) <ℤ (g · pos 4)
asked_keeps g v k = (k 1 (omega arith) tt).0

loosely_asked : (g : ℕ) (v : ℕ → ℤ) → Keeps tight_bell true asked g v
loosely_asked g v = two (λ q. Binds true (process_at tight_bell.head q).side → _) (λ b. tt) (λ b. absurd b)

keeps_beyond : (loose : Bool) (g : ℕ) (v : ℕ → ℤ) → Keeps tight_bell loose beyond g v
keeps_beyond loose g v = two (λ q. Binds loose (process_at tight_bell.head q).side → _) (λ b. tt) (λ b. tt)

asking : Asking tight_bell (pair 0 2) start
asking =
    record {
      quiet = refl;
      able = refl;
      visible = (refl, λ e. cc);
      from = ((0, record { sender = omega arith; receiver = omega arith; sends = refl; receives = refl; apart = λ e. omega arith }), refl, refl);
      keeps = λ g. keeps_start g (later 0 zeros);
      allowed = λ g. (tt, tt);
      moves = λ u. (refl, refl);
      kept = λ g h. keeps_asked g zeros (omega (arith, ints));
    }

stepping : From tight_bell (single 3) asked
stepping = ((omega arith, refl), refl, refl)

answering : From tight_bell (pair 4 1) beyond
answering = ((1, record { sender = omega arith; receiver = omega arith; sends = refl; receives = refl; apart = λ e. omega arith }), refl, refl)

apart : ¬ (asked ≡ beyond)
apart e = cc

-- the edge alone resets nothing
stepped : (u : ℕ → ℤ) (i : ℕ) → i < 3 → moved tight_bell (single 3) u i ≡ u i
stepped u = three (λ i. moved tight_bell (single 3) u i ≡ u i) refl refl refl

module _ {B : Type 0} (had : ℕ → Type 0) (admits : B → ℕ → ℤ → Type 0) (reach : B → ℕ) (unit : Grain had 1) (d : B) (w : Watch) (bs : List B) (ls : List ℕ) (st : On had admits reach unit tight_bell.head.processes tight_bell.edges d w bs ls asked) where
  abbrev K : Kind
  K = kind B had admits

  abbrev E : Entries K tight_bell
  E = estimate_of had admits reach tight_bell d w bs ls

  abbrev P : Pts
  P = In K tight_bell (E.zone 0)

  -- the spread of the estimate, what the edge alone makes of it, and the spread of that
  abbrev S : Bool → ℕ → Pts
  S loose x = Spread K tight_bell loose x asked P

  abbrev R : Bool → ℕ → Pts
  R loose x = Spread K tight_bell loose x beyond (After K tight_bell (single 3) (S loose x))

  module _ (loose : Bool) (x c : ℕ) (h : c ≤ x) (k : Keeps tight_bell loose asked 1 (later c zeros)) where
    spread_some : Some K (S loose x)
    spread_some = some_at K unit tight_bell.head.processes tight_bell.edges asked P st.alone.zero loose x c h k

    module _ (none : None K (R loose x)) where
      fits_without : 2 ≤ room w → ¬ (Overruns K tight_bell loose x E (room w))
      fits_without = fits_missed K tight_bell loose x E asked P st.alone.one spread_some (single 3) refl tt stepping none (room w)

      one_without : (G : Entries K tight_bell) → GrowsIn K tight_bell loose x E (room w) G → One K tight_bell G asked (S loose x)
      one_without G g = worked_missed K tight_bell loose x E asked P st.alone.one spread_some (single 3) refl tt stepping none G.count G g.grown

    module _ (some : Some K (R loose x)) where
      fits_with : 2 ≤ room w → ¬ (Overruns K tight_bell loose x E (room w))
      fits_with = fits_two K tight_bell loose x E asked P st.alone.one spread_some (single 3) refl tt stepping some apart refl (room w)

      two_with : (G : Entries K tight_bell) → GrowsIn K tight_bell loose x E (room w) G → Two K tight_bell G asked beyond (S loose x) (R loose x)
      two_with G g = worked_two K tight_bell loose x E asked P st.alone.one spread_some (single 3) refl tt stepping some apart refl G g.grown

  -- loosely, the edge alone can be taken at 4
  loosely_beyond : R true 4 1 (later 4 zeros)
  loosely_beyond = (
    record {
      at = 1;
      multiple = multiple_refl K 1 unit;
      point = later 4 zeros;
      wait = 0;
      «in» = record {
        at = 1;
        multiple = multiple_refl K 1 unit;
        point = later 4 zeros;
        «in» = spread_at K unit tight_bell.head.processes tight_bell.edges asked P st.alone.zero true 4 4 (omega arith) (loosely_asked 1 (later 4 zeros));
        allowed = ((omega (arith, ints), tt), (omega (arith, ints), tt));
        same = three (λ i. moved tight_bell (single 3) (later 4 zeros) i ≡ 1 · later 4 zeros i) refl refl refl;
      };
      same = three (λ i. later 0 (later 4 zeros) i ≡ 1 · later 4 zeros i) refl refl refl;
    },
    keeps_beyond true 1 (later 4 zeros),
    omega (arith, ints),
  )

  loosely_at_four : 2 ≤ room w → Reaches K tight_bell E (room w) true 4
  loosely_at_four h =
      let x : Some K (R true 4) = record { grain = 1; is_grain = unit; point = later 4 zeros; «in» = loosely_beyond } in
      let k = loosely_asked 1 (later 4 zeros) in
      record {
        fits = fits_with true 4 4 (omega arith) k x h;
        there = λ G g. let t = two_with true 4 4 (omega arith) k x G g in
            record {
              place = beyond;
              grain = 1;
              is_grain = unit;
              point = later 4 zeros;
              covered = record { entry = 1; below = omega (arith, t.count); placed = t.second; «in» = (t.others 1 (later 4 zeros) unit).1 loosely_beyond };
              there = omega (arith, ints);
            };
      }

-- ---- in whole ticks

module _ (d : WholeTicks) (w : Watch) (bs : List WholeTicks) (ls : List ℕ) (st : On whole_had whole_admits whole_reach whole_one tight_bell.head.processes tight_bell.edges d w bs ls asked) where
  abbrev Whole : Kind
  Whole = kind WholeTicks whole_had whole_admits

  none_between : None Whole (R whole_had whole_admits whole_reach whole_one d w bs ls st false 4)
  none_between g v hg x =
      let a = x.0.«in» in
      let e : a.at ≡ 1 = a.multiple.grain.kind_has in
      let b : (a.point 1 -ℤ a.point 0) <ℤ (a.at · pos 4) = asked_keeps a.at a.point a.«in».1 in
      let c : (a.point 0 -ℤ a.point 1) <ℤ (a.at · negsuc 2) = a.allowed.0.0 in
      omega (arith, ints, e, b, c)

  stops_at_three : 2 ≤ room w → Stops Whole tight_bell (estimate_of whole_had whole_admits whole_reach tight_bell d w bs ls) (room w) 4 3
  stops_at_three h =
      let k = keeps_asked 1 (later 3 zeros) (omega (arith, ints)) in
      let f = λ (G : Entries Whole tight_bell). one_without whole_had whole_admits whole_reach whole_one d w bs ls st false 4 3 (omega arith) k none_between G in
      record {
        fits = fits_without whole_had whole_admits whole_reach whole_one d w bs ls st false 4 3 (omega arith) k none_between h;
        there = λ G g. point_of Whole whole_one tight_bell.head.processes tight_bell.edges asked (P whole_had whole_admits whole_reach whole_one d w bs ls st) st.alone.zero false 4 G (f G g) 3 (omega arith) k;
        below = λ G g. ends_of Whole whole_one tight_bell.head.processes tight_bell.edges asked (P whole_had whole_admits whole_reach whole_one d w bs ls st) st.alone.zero false 4 G (f G g) 4 ends;
      }
    where
      ends : EndsBefore Whole whole_one tight_bell.head.processes tight_bell.edges false asked 4
      ends g v hg z k l = omega (arith, ints, z, l, asked_keeps g v k)

pub between_ticks_in_whole : BetweenTicksInWhole
between_ticks_in_whole =
    asked_first whole_had whole_admits whole_reach whole_one tight_bell.head.processes tight_bell.edges (pair 0 2) asking (Wait 4 ∷ []) (report Fail BrokenWait 2 4)
    (λ d bs ls st r bs' ls' x.
    wait_fails whole_had whole_admits whole_reach tight_bell d (λ c. c ≡ report Fail BrokenWait 2 4) (asked_of 40) unspent bs ls st.belongs (omega arith)
    4 (omega arith) 3 (omega arith) (stops_at_three d (asked_of 40) bs ls st (omega arith))
    (loosely_at_four whole_had whole_admits whole_reach whole_one d (asked_of 40) bs ls st (omega arith))
    (Then whole_had whole_admits whole_reach whole_one tight_bell d [] (report Fail BrokenWait 2 4) bs' ls') r bs' ls' x refl)

-- ---- in split ticks

split_one : Grain split_had 1
split_one = split_grain 1 (omega arith)

split_two : Grain split_had 2
split_two = split_grain 2 (omega arith)

module _ (d : SplitTicks) (w : Watch) (bs : List SplitTicks) (ls : List ℕ) (st : On split_had split_admits split_reach split_one tight_bell.head.processes tight_bell.edges d w bs ls asked) where
  abbrev Split : Kind
  Split = kind SplitTicks split_had split_admits

  abbrev Estimate : Entries Split tight_bell
  Estimate = estimate_of split_had split_admits split_reach tight_bell d w bs ls

  abbrev Here : Pts
  Here = S split_had split_admits split_reach split_one d w bs ls st false 4

  abbrev There : Pts
  There = R split_had split_admits split_reach split_one d w bs ls st false 4

  keeps_zero : Keeps tight_bell false asked 1 (later 0 zeros)
  keeps_zero = keeps_asked 1 (later 0 zeros) (omega (arith, ints))

  -- the edge alone is taken at three and a half ticks, and half a tick passes
  beyond_at_four : There 1 (later 4 zeros)
  beyond_at_four = (
    record {
      at = 2;
      multiple = record { times = 2; some = omega arith; is = omega arith; grain = split_two };
      point = later 7 zeros;
      wait = 1;
      «in» = record {
        at = 2;
        multiple = multiple_refl Split 2 split_two;
        point = later 7 zeros;
        «in» = spread_part Split split_one tight_bell.head.processes tight_bell.edges asked (P split_had split_admits split_reach split_one d w bs ls st) st.alone.zero false 4 2 7 split_two (omega (arith, ints)) (keeps_asked 2 (later 7 zeros) (omega (arith, ints)));
        allowed = ((omega (arith, ints), tt), (omega (arith, ints), tt));
        same = three (λ i. moved tight_bell (single 3) (later 7 zeros) i ≡ 1 · later 7 zeros i) refl refl refl;
      };
      same = three (λ i. later 1 (later 7 zeros) i ≡ 2 · later 4 zeros i) refl refl refl;
    },
    keeps_beyond false 1 (later 4 zeros),
    omega (arith, ints),
  )

  beyond_some : Some Split There
  beyond_some = record { grain = 1; is_grain = split_one; point = later 4 zeros; «in» = beyond_at_four }

  fits_between : 2 ≤ room w → ¬ (Overruns Split tight_bell false 4 Estimate (room w))
  fits_between = fits_with split_had split_admits split_reach split_one d w bs ls st false 4 0 (omega arith) keeps_zero beyond_some

  two_between : (G : Entries Split tight_bell) → GrowsIn Split tight_bell false 4 Estimate (room w) G → Two Split tight_bell G asked beyond Here There
  two_between = two_with split_had split_admits split_reach split_one d w bs ls st false 4 0 (omega arith) keeps_zero beyond_some

  between_at_four : 2 ≤ room w → Reaches Split tight_bell Estimate (room w) false 4
  between_at_four h =
      record {
        fits = fits_between h;
        there = λ G g. let t = two_between G g in
            record {
              place = beyond;
              grain = 1;
              is_grain = split_one;
              point = later 4 zeros;
              covered = record { entry = 1; below = omega (arith, t.count); placed = t.second; «in» = (t.others 1 (later 4 zeros) split_one).1 beyond_at_four };
              there = omega (arith, ints);
            };
      }

  -- from there 1 is sent
  answers : Some Split (Arrives Split tight_bell 4 (pair 4 1) beyond There)
  answers =
      record {
        grain = 1;
        is_grain = split_one;
        point = reading 4;
        «in» = record {
          at = 1;
          multiple = multiple_refl Split 1 split_one;
          point = later 4 zeros;
          «in» = beyond_at_four;
          tick = omega (arith, ints);
          allowed = ((omega (arith, ints), tt), tt);
          same = two (λ i. moved tight_bell (pair 4 1) (later 4 zeros) i ≡ 1 · reading 4 i) refl refl;
          zeroed = refl;
          kept = keeps_start 1 (reading 4);
        };
      }

  answer_is : (F : Entries Split tight_bell) → SeenFrom Split tight_bell 1 4 Estimate (room w) F → F.count ≡ 1
  answer_is F x = seen_second Split tight_bell 1 4 x.growth asked beyond Here There (two_between x.growth x.grows) refl (pair 4 1) refl (refl, λ e. cc) answering answers F x.sees.seen

  answer_fits : 3 ≤ room w → ¬ (OverrunsSeeing Split tight_bell 1 4 Estimate (room w))
  answer_fits h (in_growth o) = fits_between (omega arith) o
  answer_fits h (in_results G g o) =
      let t = two_between G g in
      see_fits_two Split tight_bell 1 4 G asked beyond Here There t refl (pair 4 1) refl (refl, λ e. cc) answering (room w - G.count) (omega (arith, t.count)) o

pub between_ticks_in_split : BetweenTicksInSplit
between_ticks_in_split =
    asked_first split_had split_admits split_reach split_one tight_bell.head.processes tight_bell.edges (pair 0 2) asking (Wait 4 ∷ See 1 ∷ []) (report Pass Closed 3 4)
    (λ d bs ls st r bs' ls' x.
    wait_on split_had split_admits split_reach tight_bell d (λ c. c ≡ report Pass Closed 3 4) (asked_of 40) unspent bs ls st.belongs (omega arith)
    4 (omega arith) (between_at_four d (asked_of 40) bs ls st (omega arith))
    (Then split_had split_admits split_reach split_one tight_bell d (See 1 ∷ []) (report Pass Closed 3 4) bs' ls') r bs' ls' x
    (λ b e r' bs'' ls'' y. then d bs' ls'
    (record { belongs = b; alone = subst (λ (F : Entries (kind SplitTicks split_had split_admits) tight_bell). Alone split_had split_admits split_reach split_one tight_bell.head.processes tight_bell.edges d F asked) (sym e) st.alone }) r' bs'' ls'' y))
  where
    then : (d : SplitTicks) (bs : List SplitTicks) (ls : List ℕ) → On split_had split_admits split_reach split_one tight_bell.head.processes tight_bell.edges d (waited (asked_of 40) 4) bs ls asked → Then split_had split_admits split_reach split_one tight_bell d (See 1 ∷ []) (report Pass Closed 3 4) bs ls (waited (asked_of 40) 4) unspent
    then d bs ls st r bs' ls' x =
        see_on split_had split_admits split_reach tight_bell d (λ c. c ≡ report Pass Closed 3 4) (waited (asked_of 40) 4) unspent bs ls st.belongs (omega arith)
        1 (λ e. cc) (Then split_had split_admits split_reach split_one tight_bell d [] (report Pass Closed 3 4) bs' ls') (answer_fits d (waited (asked_of 40) 4) bs ls st (omega arith))
        (λ F y n. omega (arith, n, answer_is d (waited (asked_of 40) 4) bs ls st F y)) r bs' ls' x (λ count F y a b c e. e)
