-- Shifts on the bell and the gentle bell, whatever the kind of time.
use Rattle.std.proofs.Common.{◌≡◌, ℕ, zero, suc, true, false, List, [], ◌∷◌, ℤ, pos, ◌-ℤ◌, ◌≤ℤ◌, refl, arith}
use Rattle.std.proofs.lemmas.Int.{ints}
use Rattle.time.specs.Grains.{Grain}
use Rattle.source.specs.declared.Item.TheVariants.{Wait, See}
use Rattle.model.specs.Sound.{process_at}
use Rattle.report.specs.declared.Verdict.TheVariants.{Pass, Fail, Inconclusive}
use Rattle.report.specs.declared.Cause.TheVariants.{Closed, BrokenSee, BrokenWait, Overrun}
use Rattle.runs.specs.Moves.{pair, From, Binds, Keeps}
use Rattle.runs.specs.Kinds.{kind, ◌·◌}
use Rattle.runs.specs.Runs.{later, moved, zeros}
use Rattle.runs.specs.Points.{In}
use Rattle.monitor.specs.Replies.{opened, waited, unspent}
use Rattle.monitor.specs.Rows.{estimate_of}
use Rattle.monitor.specs.Examples.{GoesOn, EveryShiftReports, EveryShiftGoesOn, bell, gentle_bell, report}
use Rattle.monitor.proofs.Clock.{arrives_at, arrives_not}
use Rattle.monitor.proofs.Stands.{opens_there, wait_ends_failed, wait_ends_open, see_of_no_move, see_too_soon, see_passes}
use Rattle.monitor.proofs.Asking.{two, Asking, asked_of, Then, shift, ask_without_place, ask, asked_first, asked_and_waited}

-- the clock at x, the others at zero
abbrev pub reading : ℕ → ℕ → ℤ
reading x zero = pos 0
reading x (suc zero) = pos x
reading x (suc (suc i)) = pos 0

-- the locations at the start, and after the bell is asked
abbrev start : List ℕ
start = 0 ∷ 0 ∷ []

abbrev asked : List ℕ
asked = 0 ∷ 1 ∷ []

keeps_start : (g : ℕ) (v : ℕ → ℤ) → Keeps bell false start g v
keeps_start g v = two (λ q. Binds false (process_at bell.head q).side → _) (λ b. tt) (λ b. tt)

keeps_asked : (g : ℕ) (v : ℕ → ℤ) → (v 1 -ℤ v 0) ≤ℤ (g · pos 5) → Keeps bell false asked g v
keeps_asked g v h = two (λ q. Binds false (process_at bell.head q).side → _) (λ b. tt) (λ b. (h, tt))

loosely_asked : (g : ℕ) (v : ℕ → ℤ) → Keeps bell true asked g v
loosely_asked g v = two (λ q. Binds true (process_at bell.head q).side → _) (λ b. tt) (λ b. absurd b)

asking : Asking bell (pair 0 2) start
asking =
    record {
      quiet = refl;
      able = refl;
      visible = (refl, λ e. cc);
      from = ((0, record { sender = omega arith; receiver = omega arith; sends = refl; receives = refl; apart = λ e. omega arith }), refl, refl);
      keeps = λ g. keeps_start g (later 0 zeros);
      allowed = λ g. (tt, tt);
      moves = λ u. (refl, refl);
      kept = λ g h. keeps_asked g zeros (omega (arith, ints));
    }

answering : From bell (pair 3 1) asked
answering = ((1, record { sender = omega arith; receiver = omega arith; sends = refl; receives = refl; apart = λ e. omega arith }), refl, refl)

-- the locations after the gentle bell is asked
abbrev gently : List ℕ
gently = 1 ∷ 1 ∷ []

keeps_gently : (g : ℕ) (v : ℕ → ℤ) → (v 1 -ℤ v 0) ≤ℤ (g · pos 4) → (v 1 -ℤ v 0) ≤ℤ (g · pos 5) → Keeps gentle_bell false gently g v
keeps_gently g v h i = two (λ q. Binds false (process_at gentle_bell.head q).side → _) (λ b. (h, tt)) (λ b. (i, tt))

loosely_gently : (g : ℕ) (v : ℕ → ℤ) → (v 1 -ℤ v 0) ≤ℤ (g · pos 4) → Keeps gentle_bell true gently g v
loosely_gently g v h = two (λ q. Binds true (process_at gentle_bell.head q).side → _) (λ b. (h, tt)) (λ b. absurd b)

asking_gently : Asking gentle_bell (pair 0 3) start
asking_gently =
    record {
      quiet = refl;
      able = refl;
      visible = (refl, λ e. cc);
      from = ((0, record { sender = omega arith; receiver = omega arith; sends = refl; receives = refl; apart = λ e. omega arith }), refl, refl);
      keeps = λ g. two (λ q. Binds false (process_at gentle_bell.head q).side → _) (λ b. tt) (λ b. tt);
      allowed = λ g. (tt, tt);
      moves = λ u. (refl, refl);
      kept = λ g h. keeps_gently g zeros (omega (arith, ints)) (omega (arith, ints));
    }

module _ {B : Type 0} (had : ℕ → Type 0) (admits : B → ℕ → ℤ → Type 0) (reach : B → ℕ) (unit : Grain had 1) where
  pub closed_at_once : EveryShiftReports had admits reach bell 40 [] (report Pass Closed 0 0)
  closed_at_once = shift had admits reach unit bell.head.processes bell.edges 40 [] (report Pass Closed 0 0) (λ d bs ls st r e. e)

  pub answered_in_time : EveryShiftReports had admits reach bell 40 (See 0 ∷ Wait 5 ∷ See 1 ∷ []) (report Pass Closed 3 5)
  answered_in_time =
      asked_and_waited had admits reach unit bell.head.processes bell.edges (pair 0 2) asking refl 5 (omega arith) (keeps_asked 1 (later 5 zeros) (omega (arith, ints)))
      (See 1 ∷ []) (report Pass Closed 3 5)
      (λ d bs ls st r bs' ls' x.
      see_passes had admits reach unit bell.head.processes bell.edges d
      (λ c. c ≡ report Pass Closed 3 5) (waited (asked_of 40) 5) unspent bs ls asked st (omega arith) refl (omega arith)
      1 (λ e. cc) (keeps_asked 1 (later 5 zeros) (omega (arith, ints))) (Then had admits reach unit bell d [] (report Pass Closed 3 5) bs' ls') r bs' ls' x
      (pair 3 1) refl (refl, λ e. cc) answering
      (record {
        grain = 1;
        is_grain = unit;
        point = reading 5;
        «in» =
            arrives_at (kind B had admits) unit bell.head.processes bell.edges asked (In (kind B had admits) bell ((estimate_of had admits reach bell d (waited (asked_of 40) 5) bs ls).zone 0)) st.alone.zero 5 (pair 3 1)
            (keeps_asked 1 (later 5 zeros) (omega (arith, ints))) ((omega (arith, ints), tt), tt) (reading 5)
            (two (λ i. moved bell (pair 3 1) (later 5 zeros) i ≡ 1 · reading 5 i) refl refl) refl (keeps_start 1 (reading 5));
      })
      (omega arith) (λ count c e. e))

  pub answered_too_early : EveryShiftReports had admits reach bell 40 (See 0 ∷ Wait 2 ∷ See 1 ∷ []) (report Fail BrokenSee 3 2)
  answered_too_early =
      asked_and_waited had admits reach unit bell.head.processes bell.edges (pair 0 2) asking refl 2 (omega arith) (keeps_asked 1 (later 2 zeros) (omega (arith, ints)))
      (See 1 ∷ []) (report Fail BrokenSee 3 2)
      (λ d bs ls st r bs' ls' x.
      see_too_soon had admits reach unit bell.head.processes bell.edges d
      (λ c. c ≡ report Fail BrokenSee 3 2) (waited (asked_of 40) 2) unspent bs ls asked st (omega arith) refl (omega arith)
      1 (λ e. cc) (keeps_asked 1 (later 2 zeros) (omega (arith, ints))) (Then had admits reach unit bell d [] (report Fail BrokenSee 3 2) bs' ls') r bs' ls' x
      (pair 3 1) refl (refl, λ e. cc) answering (omega arith)
      (arrives_not (kind B had admits) unit bell.head.processes bell.edges asked (In (kind B had admits) bell ((estimate_of had admits reach bell d (waited (asked_of 40) 2) bs ls).zone 0)) st.alone.zero 2 (pair 3 1)
      (λ g u hg z c a. omega (arith, ints, hg.from_one, z, c, a.0.0)))
      refl)

  pub never_answered : EveryShiftReports had admits reach bell 40 (See 0 ∷ Wait 3 ∷ Wait 3 ∷ []) (report Fail BrokenWait 3 6)
  never_answered =
      asked_and_waited had admits reach unit bell.head.processes bell.edges (pair 0 2) asking refl 3 (omega arith) (keeps_asked 1 (later 3 zeros) (omega (arith, ints)))
      (Wait 3 ∷ []) (report Fail BrokenWait 3 6)
      (λ d bs ls st r bs' ls' x.
      wait_ends_failed had admits reach unit bell.head.processes bell.edges d
      (λ c. c ≡ report Fail BrokenWait 3 6) (waited (asked_of 40) 3) unspent bs ls asked st (omega arith) refl (omega arith)
      3 (omega arith) (Then had admits reach unit bell d [] (report Fail BrokenWait 3 6) bs' ls') r bs' ls' x
      5 (omega arith) (keeps_asked 1 (later 5 zeros) (omega (arith, ints)))
      (λ g v hg z k l. let b : (v 1 -ℤ v 0) ≤ℤ (g · pos 5) = (k 1 (omega arith) tt).0 in omega (arith, ints, hg.from_one, z, l, b))
      (loosely_asked 1 (later 6 zeros)) refl)

  pub answered_unasked : EveryShiftReports had admits reach bell 40 (See 1 ∷ []) (report Fail BrokenSee 1 0)
  answered_unasked =
      shift had admits reach unit bell.head.processes bell.edges 40 (See 1 ∷ []) (report Fail BrokenSee 1 0)
      (λ d bs ls st r bs' ls' x.
      see_of_no_move had admits reach unit bell.head.processes bell.edges d
      (λ c. c ≡ report Fail BrokenSee 1 0) (opened 40) unspent bs ls start st (omega arith) refl (omega arith)
      1 (λ e. cc) (keeps_start 1 (later 0 zeros)) (Then had admits reach unit bell d [] (report Fail BrokenSee 1 0) bs' ls') r bs' ls' x refl (omega arith) refl)

  pub asked_twice : EveryShiftReports had admits reach bell 40 (See 0 ∷ See 0 ∷ []) (report Inconclusive BrokenSee 2 0)
  asked_twice =
      asked_first had admits reach unit bell.head.processes bell.edges (pair 0 2) asking (See 0 ∷ []) (report Inconclusive BrokenSee 2 0)
      (λ d bs ls st r bs' ls' x.
      see_of_no_move had admits reach unit bell.head.processes bell.edges d
      (λ c. c ≡ report Inconclusive BrokenSee 2 0) (asked_of 40) unspent bs ls asked st (omega arith) refl (omega arith)
      0 (λ e. cc) (keeps_asked 1 (later 0 zeros) (omega (arith, ints))) (Then had admits reach unit bell d [] (report Inconclusive BrokenSee 2 0) bs' ls') r bs' ls' x refl (omega arith) refl)

  pub environment_stops : EveryShiftReports had admits reach gentle_bell 40 (See 0 ∷ Wait 5 ∷ []) (report Inconclusive BrokenWait 2 5)
  environment_stops =
      asked_first had admits reach unit gentle_bell.head.processes gentle_bell.edges (pair 0 3) asking_gently (Wait 5 ∷ []) (report Inconclusive BrokenWait 2 5)
      (λ d bs ls st r bs' ls' x.
      wait_ends_open had admits reach unit gentle_bell.head.processes gentle_bell.edges d
      (λ c. c ≡ report Inconclusive BrokenWait 2 5) (asked_of 40) unspent bs ls gently st (omega arith) refl (omega arith)
      5 (omega arith) (Then had admits reach unit gentle_bell d [] (report Inconclusive BrokenWait 2 5) bs' ls') r bs' ls' x
      4 (omega arith) (keeps_gently 1 (later 4 zeros) (omega (arith, ints)) (omega (arith, ints)))
      (λ g v hg z k l. let b : (v 1 -ℤ v 0) ≤ℤ (g · pos 4) = (k 0 (omega arith) tt).0 in omega (arith, ints, hg.from_one, z, l, b))
      (loosely_gently 1 (later 4 zeros) (omega (arith, ints)))
      (λ g v hg z k l. let b : (v 1 -ℤ v 0) ≤ℤ (g · pos 4) = (k 0 (omega arith) tt).0 in omega (arith, ints, hg.from_one, z, l, b))
      refl)

  pub two_entries : EveryShiftReports had admits reach bell 2 (See 0 ∷ []) (report Inconclusive Overrun 1 0)
  two_entries =
      shift had admits reach unit bell.head.processes bell.edges 2 (See 0 ∷ []) (report Inconclusive Overrun 1 0)
      (λ d bs ls st r bs' ls' x.
      ask_without_place had admits reach unit bell.head.processes bell.edges (pair 0 2) asking d 2 bs ls st
      (λ c. c ≡ report Inconclusive Overrun 1 0) (Then had admits reach unit bell d [] (report Inconclusive Overrun 1 0) bs' ls') refl r bs' ls' x refl)

  pub three_entries : EveryShiftGoesOn had admits reach bell 3 (See 0 ∷ [])
  three_entries d bs ls w s bs' ls' x =
      opens_there had admits reach unit bell.head.processes bell.edges d (λ w s. GoesOn had admits reach bell d (See 0 ∷ []) w s bs' ls') bs ls 3 w s bs' ls' x
      (λ st r bs'' ls'' y. ask had admits reach unit bell.head.processes bell.edges (pair 0 2) asking d 3 bs' ls' st (λ c. ⊥) (λ w s. Unit {0}) (omega arith) r bs'' ls'' y (λ st'. tt))
