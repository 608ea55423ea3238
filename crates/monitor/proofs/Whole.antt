-- Whole shifts: where a shift stands whose growth fits is as the runs say.
use Rattle.std.proofs.Common.{◌≡◌, ℕ, ◌+◌, Bool, true, false, cond, T, ◌⊎◌, ◌↔◌, List, [], ◌∷◌, ◌++◌, ℤ, sym, refl, ap, ◌∙◌, subst, subst₂, inl, inr, append_assoc, append-nil}
use Rattle.source.specs.declared.Item.{Item}
use Rattle.source.specs.declared.Item.TheVariants.{Wait}
use Rattle.time.specs.Laws.{Laws}
use Rattle.model.specs.declared.ChannelKind.{ChannelKind}
use Rattle.model.specs.declared.ChannelKind.TheVariants.{Input, Output, Hidden}
use Rattle.model.specs.Model.{Model}
use Rattle.network.specs.Networks.{model_of}
use Rattle.report.specs.declared.Verdict.TheVariants.{Pass, Fail, Inconclusive}
use Rattle.report.specs.declared.Cause.TheVariants.{Closed, BrokenSee, BrokenWait, Refused as Stopped}
use Rattle.report.specs.declared.Report.{Report}
use Rattle.runs.specs.Kinds.{Kind, kind}
use Rattle.runs.specs.Moves.{channel_at}
use Rattle.runs.specs.Runs.{RunHas}
use Rattle.runs.specs.Traces.{ticks, HasTrace, LooselyTo, BreakTick}
use Rattle.runs.proofs.Fair.{Fair}
use Rattle.runs.proofs.Sounds.{sound_fair}
use Rattle.monitor.specs.declared.watch.Watch.{Watch}
use Rattle.monitor.specs.declared.watch.Slip.{Slip}
use Rattle.monitor.specs.Replies.{see_verdict}
use Rattle.monitor.specs.Following.{Answer, stopping, Gives, at_end, at_fault, goes_on, ends, refuses, Follows, follow_without_rows, follows}
use Rattle.monitor.specs.Shifts.{Stage, standing, closed, broken_off, taken, leaves, followed, follow_leaves, Shift, shift_opens, shift_goes_on, shift_ends, shift_refuses, shift_closes, shift_follows, FitsGives, FitsFollow, Fits, Reports, Broke, Blames, ByRuns, VerdictsByRuns}
use Rattle.monitor.proofs.Words.{ticks_waited, sees_waited, before_last, last_same}
use Rattle.monitor.proofs.Runs.{trace_part, not_past, one_break}
use Rattle.monitor.proofs.Steps.{BrokeBy, by_wait, by_see, Right, opened_right, going_on, ended_by, refused_right}

module _ {B : Type 0} (had : ℕ → Type 0) (admits : B → ℕ → ℤ → Type 0) (reach : B → ℕ) (N : Model) (d : B) where
  -- what the runs say of where a shift with the trace t stands
  pub data Good (t : List Item) : Stage B → Type 0 where
    good_open : {w : Watch} {s : Slip} {bs : List B} {ls : List ℕ} → Right had admits reach N d t w bs ls → Good t (standing w s bs ls)
    good_closed : {r : Report} → r.verdict ≡ Pass → r.cause ≡ Closed → r.tick ≡ ticks t → HasTrace (kind B had admits) N t → Good t (closed r)
    good_broken : {r : Report} (before : List Item) (i : Item) → t ≡ before ++ (i ∷ []) → BrokeBy (kind B had admits) N before i r → Good t (broken_off r)
    good_stopped : {r : Report} → r.verdict ≡ Inconclusive → r.cause ≡ Stopped → HasTrace (kind B had admits) N t → Good t (broken_off r)

  right_of : (t : List Item) (w : Watch) (s : Slip) (bs : List B) (ls : List ℕ) → Good t (standing w s bs ls) → Right had admits reach N d t w bs ls
  right_of t w s bs ls (good_open r) = r

module _ {B : Type 0} {had : ℕ → Type 0} {admits : B → ℕ → ℤ → Type 0} {reach : B → ℕ} (L : Laws had admits reach) (N : Model) (F : Fair N) (d : B) where
  gives_good : (ending : Bool) (y : Answer) (bs' : List B) (ls' : List ℕ) (w : Watch) (s : Slip) (bs : List B) (ls : List ℕ) (is : List Item) (g : Gives had admits reach N d ending y bs' ls' w s bs ls is) → (t : List Item) → Right had admits reach N d t w bs ls → FitsGives had admits reach N d g → Good had admits reach N d (t ++ taken had admits reach N d g) (leaves had admits reach N d g)
  gives_good ending y bs' ls' w s bs ls is (at_end e r c a u) t h f =
      subst (λ x. Good had admits reach N d x (closed r)) (sym (append-nil t)) (good_closed (ap (λ (x : Report). x.verdict) c) (ap (λ (x : Report). x.cause) c) (ap (λ (x : Report). x.tick) c ∙ h.tick) h.has)
  gives_good ending y bs' ls' w s bs ls is (at_fault e a u) t h f = subst (λ x. Good had admits reach N d x (broken_off (stopping w))) (sym (append-nil t)) (good_stopped refl refl h.has)
  gives_good ending y bs' ls' w s bs ls is (goes_on {w' = w₁} {s' = s₁} {bs' = bs₁} {ls' = ls₁} {is = js} i x g) t h f =
      subst (λ u. Good had admits reach N d u (leaves had admits reach N d g)) (append_assoc t (i ∷ []) (taken had admits reach N d g))
      (gives_good ending y bs' ls' w₁ s₁ bs₁ ls₁ js g (t ++ (i ∷ [])) (going_on L N F d t w s bs ls h i w₁ s₁ bs₁ ls₁ x) f.1)
  gives_good ending y bs' ls' w s bs ls is (ends i r x a) t h f = good_broken t i refl (ended_by L N F d t w s bs ls h i r bs' ls' x f)
  gives_good ending y bs' ls' w s bs ls is (refuses i w₁ s₁ fault x a) t h f =
      let k = refused_right L N F d t w s bs ls h i w₁ s₁ fault bs' ls' x in
      subst (λ u. Good had admits reach N d u (broken_off (stopping w₁))) (sym (append-nil t)) (good_stopped refl refl k.has)

  follow_good : (w : Watch) (s : Slip) (bs : List B) (ls : List ℕ) (is : List Item) (ending : Bool) (y : Answer) (bs' : List B) (ls' : List ℕ) (f : Follows had admits reach N d w s bs ls is ending y bs' ls') → (t : List Item) → Right had admits reach N d t w bs ls → FitsFollow had admits reach N d f → Good had admits reach N d (t ++ followed had admits reach N d f) (follow_leaves had admits reach N d f)
  follow_good w s bs ls is ending y bs' ls' (follow_without_rows h a u) t r f =
      subst (λ x. Good had admits reach N d x (standing w s bs' ls')) (sym (append-nil t)) (good_open (subst₂ (λ xs ys. Right had admits reach N d t w xs ys) (sym u.0) (sym u.1) r))
  follow_good w s bs ls is ending y bs' ls' (follows h g) t r f = gives_good ending y bs' ls' w s bs ls is g t r f

  -- every shift whose growth fits stands as the runs say
  pub shift_good : (t : List Item) (stage : Stage B) (h : Shift had admits reach N d t stage) → Fits had admits reach N d h → Good had admits reach N d t stage
  shift_good t stage (shift_opens bs₀ ls₀ entries w s bs ls o) f = good_open (opened_right L N F d bs₀ ls₀ entries w s bs ls o)
  shift_good t stage (shift_goes_on {t = u} {w = w} {s = s} {bs = bs} {ls = ls} h i w' s' bs' ls' x) f =
      good_open (going_on L N F d u w s bs ls (right_of had admits reach N d u w s bs ls (shift_good u (standing w s bs ls) h f.0)) i w' s' bs' ls' x)
  shift_good t stage (shift_ends {t = u} {w = w} {s = s} {bs = bs} {ls = ls} h i r bs' ls' x) f =
      good_broken u i refl (ended_by L N F d u w s bs ls (right_of had admits reach N d u w s bs ls (shift_good u (standing w s bs ls) h f.0)) i r bs' ls' x f.1)
  shift_good t stage (shift_refuses {t = u} {w = w} {s = s} {bs = bs} {ls = ls} h i w' s' fault bs' ls' x) f =
      good_open (refused_right L N F d u w s bs ls (right_of had admits reach N d u w s bs ls (shift_good u (standing w s bs ls) h f)) i w' s' fault bs' ls' x)
  shift_good t stage (shift_closes {t = u} {w = w} {s = s} {bs = bs} {ls = ls} h r c) f =
      let k = right_of had admits reach N d u w s bs ls (shift_good u (standing w s bs ls) h f) in
      good_closed (ap (λ (x : Report). x.verdict) c) (ap (λ (x : Report). x.cause) c) (ap (λ (x : Report). x.tick) c ∙ k.tick) k.has
  shift_good t stage (shift_follows {t = u} {w = w} {s = s} {bs = bs} {ls = ls} h is ending y bs' ls' x) f =
      follow_good w s bs ls is ending y bs' ls' x u (right_of had admits reach N d u w s bs ls (shift_good u (standing w s bs ls) h f.0)) f.1

-- ---- what a break says

fail_loosely : (loosely : Bool) → cond loosely Fail Inconclusive ≡ Fail → T loosely
fail_loosely true e = tt
fail_loosely false e = cc

loosely_fails : (loosely : Bool) → T loosely → cond loosely Fail Inconclusive ≡ Fail
loosely_fails true t = refl
loosely_fails false t = absurd t

wait_no_pass : (loosely : Bool) → ¬ (cond loosely Fail Inconclusive ≡ Pass)
wait_no_pass true e = cc
wait_no_pass false e = cc

see_fail : (c : ChannelKind) → see_verdict c ≡ Fail → c ≡ Output
see_fail Input e = cc
see_fail Output e = refl
see_fail Hidden e = cc

see_no_pass : (c : ChannelKind) → ¬ (see_verdict c ≡ Pass)
see_no_pass Input e = cc
see_no_pass Output e = cc
see_no_pass Hidden e = cc

module _ (K : Kind) (N : Model) where
  pub broken_before : (t : List Item) (i : Item) (r : Report) → BrokeBy K N t i r → HasTrace K N t
  broken_before t i r (by_wait n b l e h x lb s v c k) = h
  broken_before t i r (by_see j e h x v c k) = h

  pub broken_cause : (t : List Item) (i : Item) (r : Report) → BrokeBy K N t i r → (r.cause ≡ BrokenSee) ⊎ (r.cause ≡ BrokenWait)
  broken_cause t i r (by_wait n b l e h x lb s v c k) = inr c
  broken_cause t i r (by_see j e h x v c k) = inl c

  broken_not : Fair N → (t : List Item) (i : Item) (r : Report) → BrokeBy K N t i r → ¬ (HasTrace K N (t ++ (i ∷ [])))
  broken_not F t i r (by_wait n b l e h x lb s v c k) y =
      not_past K N F t b (ticks t + n) x lb (subst₂ (RunHas K N) (sees_waited 0 t n) (ticks_waited t n) (subst (λ j. HasTrace K N (t ++ (j ∷ []))) e y))
  broken_not F t i r (by_see j e h x v c k) y = x (subst (λ j. HasTrace K N (t ++ (j ∷ []))) e y)

  broken_fails : (t : List Item) (i : Item) (r : Report) → BrokeBy K N t i r → (r.verdict ≡ Fail) ↔ (Blames K N t i)
  broken_fails t i r (by_wait n b l e h x lb s v c k) = (λ f. subst (Blames K N t) (sym e) (b, x, s.yes (fail_loosely l (sym v ∙ f))), λ y. back (subst (Blames K N t) e y))
    where
      back : Blames K N t (Wait n) → r.verdict ≡ Fail
      back y = v ∙ loosely_fails l (s.no (subst (LooselyTo K N t) (one_break K N t y.0 b y.1 x) y.2))
  broken_fails t i r (by_see j e h x v c k) =
      (λ f. subst (Blames K N t) (sym e) (see_fail (channel_at N j) (sym v ∙ f)), λ y. (let o : channel_at N j ≡ Output = subst (Blames K N t) e y in v ∙ ap see_verdict o))

  broken_no_pass : (t : List Item) (i : Item) (r : Report) → BrokeBy K N t i r → ¬ (r.verdict ≡ Pass)
  broken_no_pass t i r (by_wait n b l e h x lb s v c k) f = wait_no_pass l (sym v ∙ f)
  broken_no_pass t i r (by_see j e h x v c k) f = see_no_pass (channel_at N j) (sym v ∙ f)

  broken_tick : (t : List Item) (i : Item) (r : Report) → BrokeBy K N t i r → r.cause ≡ BrokenWait → BreakTick K N t r.tick
  broken_tick t i r (by_wait n b l e h x lb s v c k) f = subst (BreakTick K N t) (sym k) x
  broken_tick t i r (by_see j e h x v c k) f = cc

-- a shift closed, or stopped in a follow, did not break
pub no_break : {B : Type 0} (stage : Stage B) (q : Report) → ((r : Report) → Reports stage r → q ≡ r) → ¬ (q.cause ≡ BrokenSee) → ¬ (q.cause ≡ BrokenWait) → ¬ (Broke stage)
no_break stage q one a b x = either x.cause
  where
    same : q.cause ≡ x.report.cause
    same = ap (λ (r : Report). r.cause) (one x.report x.reports)

    either : (x.report.cause ≡ BrokenSee) ⊎ (x.report.cause ≡ BrokenWait) → ⊥
    either (inl e) = a (same ∙ e)
    either (inr e) = b (same ∙ e)

-- ---- the first statement

module _ {B : Type 0} (had : ℕ → Type 0) (admits : B → ℕ → ℤ → Type 0) (reach : B → ℕ) (N : Model) (F : Fair N) (d : B) where
  -- a trace that a run has was not broken by any of its items
  unbroken : (t : List Item) (stage : Stage B) → HasTrace (kind B had admits) N t → ¬ (Broke stage) → (before after : List Item) (i : Item) → t ≡ before ++ (i ∷ after) → (Broke stage × (after ≡ [])) ↔ (¬ (HasTrace (kind B had admits) N (before ++ (i ∷ []))))
  unbroken t stage h nb before after i e =
      (λ x. absurd (nb x.0), λ x. absurd (x (trace_part (kind B had admits) N F (before ++ (i ∷ [])) after (subst (HasTrace (kind B had admits) N) (e ∙ sym (append_assoc before (i ∷ []) after)) h))))

  broken_at : (t : List Item) (r : Report) (u : List Item) (j : Item) → t ≡ u ++ (j ∷ []) → BrokeBy (kind B had admits) N u j r → (before after : List Item) (i : Item) → t ≡ before ++ (i ∷ after) → (Broke {B = B} (broken_off r) × (after ≡ [])) ↔ (¬ (HasTrace (kind B had admits) N (before ++ (i ∷ []))))
  broken_at t r u j e x before [] i q =
      (λ y h. broken_not (kind B had admits) N F u j r x (subst (HasTrace (kind B had admits) N) (sym q ∙ e) h), λ y. (record { report = r; reports = refl; cause = broken_cause (kind B had admits) N u j r x }, refl))
  broken_at t r u j e x before (c ∷ after) i q =
      let p = before_last u j (before ++ (i ∷ [])) c after (sym e ∙ q ∙ sym (append_assoc before (i ∷ []) (c ∷ after))) in (
        (λ y. (let z : ◌≡◌ {A = List Item} (c ∷ after) [] = y.1 in cc)),
        (λ y. absurd (y (trace_part (kind B had admits) N F (before ++ (i ∷ [])) p.0 (subst (HasTrace (kind B had admits) N) p.1 (broken_before (kind B had admits) N u j r x))))),
      )

  by_runs : (t : List Item) (stage : Stage B) → Good had admits reach N d t stage → ByRuns (kind B had admits) N t stage
  by_runs t stage (good_open r) =
      record { breaks = unbroken t stage r.has (λ b. b.reports); fails = λ q h. absurd h; passes = λ q h. absurd h; tick = λ q h. absurd h }
  by_runs t stage (good_closed {r = r} v c k h) =
      record {
        breaks = unbroken t stage h nb;
        fails = λ q e. (λ f. (let g = ap (λ (x : Report). x.verdict) e in cc), λ f. absurd (nb f.broke));
        passes = λ q e. (λ f. (tt, h), λ f. sym (ap (λ (x : Report). x.verdict) e) ∙ v);
        tick = λ q e f. (let g = ap (λ (x : Report). x.cause) e in cc);
      }
    where
      nb : ¬ (Broke {B = B} (closed r))
      nb = no_break (closed r) r (λ q e. e) (λ e. cc) (λ e. cc)
  by_runs t stage (good_broken {r = r} u j e x) =
      record {
        breaks = broken_at t r u j e x;
        fails = λ q h. (
          (λ f. record {
            broke = record { report = r; reports = refl; cause = broken_cause (kind B had admits) N u j r x };
            before = u;
            item = j;
            split = e;
            blames = (broken_fails (kind B had admits) N u j r x).0 (ap (λ (y : Report). y.verdict) h ∙ f);
          }),
          (λ f. (let p = last_same f.before u f.item j (sym f.split ∙ e) in
              sym (ap (λ (y : Report). y.verdict) h) ∙ (broken_fails (kind B had admits) N u j r x).1 (subst₂ (Blames (kind B had admits) N) p.0 p.1 f.blames))),
        );
        passes = λ q h. (λ f. absurd (broken_no_pass (kind B had admits) N u j r x (ap (λ (y : Report). y.verdict) h ∙ f)), λ f. absurd f.0);
        tick = λ q h c before i e'.
            (let p = last_same u before j i (sym e ∙ e') in
            subst₂ (BreakTick (kind B had admits) N) p.0 (ap (λ (y : Report). y.tick) h) (broken_tick (kind B had admits) N u j r x (ap (λ (y : Report). y.cause) h ∙ c)));
      }
  by_runs t stage (good_stopped {r = r} v c h) =
      record {
        breaks = unbroken t stage h nb;
        fails = λ q e. (λ f. (let g = ap (λ (x : Report). x.verdict) e in cc), λ f. absurd (nb f.broke));
        passes = λ q e. (λ f. (let g = ap (λ (x : Report). x.verdict) e in cc), λ f. absurd f.0);
        tick = λ q e f. (let g = ap (λ (x : Report). x.cause) e in cc);
      }
    where
      nb : ¬ (Broke {B = B} (broken_off r))
      nb = no_break (broken_off r) r (λ q e. e) (λ e. cc) (λ e. cc)

-- for every kind of time that obeys the laws
pub verdicts_by_runs : {B : Type 0} {had : ℕ → Type 0} {admits : B → ℕ → ℤ → Type 0} {reach : B → ℕ} → Laws had admits reach → VerdictsByRuns had admits reach
verdicts_by_runs {B} {had} {admits} {reach} L network d t stage h f =
    let F = sound_fair (model_of network) network.sound in
    by_runs had admits reach (model_of network) F d t stage (shift_good L (model_of network) F d t stage h f)
