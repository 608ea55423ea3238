-- What the runs leave a trace to report hangs on its timed word alone.
use Rattle.std.proofs.Common.{◌≡◌, ℕ, ◌+◌, ◌<◌, ◌≤◌, Bool, cond, List, [], ◌∷◌, ◌++◌, ℤ, sym, refl, ap, ap₂, ◌∙◌, subst, subst₂, inl, inr, append_assoc, append-nil, le_trans, arith}
use Rattle.source.specs.declared.Item.{Item}
use Rattle.source.specs.declared.Item.TheVariants.{Wait, See}
use Rattle.time.specs.Differences.{Tells}
use Rattle.time.specs.Laws.{Laws}
use Rattle.model.specs.Model.{Model}
use Rattle.network.specs.Networks.{model_of}
use Rattle.report.specs.declared.Verdict.TheVariants.{Pass, Fail, Inconclusive}
use Rattle.report.specs.declared.Cause.TheVariants.{Closed, BrokenSee, BrokenWait}
use Rattle.report.specs.declared.Report.{Report}
use Rattle.runs.specs.Kinds.{Kind, kind}
use Rattle.runs.specs.Moves.{channel_at}
use Rattle.runs.specs.Runs.{last_tick, RunHas, LooseRunHas}
use Rattle.runs.specs.Traces.{ticks, sees_from, sees}
use Rattle.runs.proofs.Scales.{le_or_lt}
use Rattle.runs.proofs.TraceWords.{sees_then, ticks_then, last_tick_then}
use Rattle.runs.proofs.Fair.{Fair}
use Rattle.runs.proofs.Sounds.{sound_fair}
use Rattle.monitor.specs.Replies.{see_verdict}
use Rattle.monitor.specs.Shifts.{Stage, closed, broken_off, Reports, Given, to_a_break, to_the_end, SameReport, WordsDecide}
use Rattle.monitor.proofs.OneReply.{tells_one}
use Rattle.monitor.proofs.Words.{next_tick, next_after, ticks_more, sees_more}
use Rattle.monitor.proofs.Runs.{run_earlier, run_last, run_part}
use Rattle.monitor.proofs.Steps.{BrokeBy, by_wait, by_see}
use Rattle.monitor.proofs.Whole.{Good, good_open, good_closed, good_broken, good_stopped, shift_good, no_break}

-- ---- two ways to cut a list in two

data Cuts {A : Type 0} (a b c e : List A) : Type 0 where
  same_cut : a ≡ c → b ≡ e → Cuts a b c e
  -- the first is the shorter front, or the second is
  shorter : (x : A) (m : List A) → c ≡ a ++ (x ∷ m) → b ≡ x ∷ (m ++ e) → Cuts a b c e
  longer : (x : A) (m : List A) → a ≡ c ++ (x ∷ m) → e ≡ x ∷ (m ++ b) → Cuts a b c e

cuts : {A : Type 0} (a b c e : List A) → a ++ b ≡ c ++ e → Cuts a b c e
cuts [] b [] e q = same_cut refl q
cuts [] b (y ∷ c) e q = shorter y c refl q
cuts (x ∷ a) b [] e q = longer x a refl (sym q)
cuts (x ∷ a) b (y ∷ c) e q =
    let h : a ++ b ≡ c ++ e = cc in
    let k : x ≡ y = cc in
    more (cuts a b c e h) k
  where
    more : Cuts a b c e → x ≡ y → Cuts (x ∷ a) b (y ∷ c) e
    more (same_cut f g) k = same_cut (ap₂ (λ i j. i ∷ j) k f) g
    more (shorter z m f g) k = shorter z m (ap₂ (λ i j. i ∷ j) (sym k) f) g
    more (longer z m f g) k = longer z m (ap₂ (λ i j. i ∷ j) k f) g

-- ---- what the runs leave to report of a timed word: the sees S, and T ticks in all

module _ (K : Kind) (N : Model) where
  -- no run has the see x behind the sees `before`, which some run has up to it
  record Missed (before : List (ℕ × ℕ)) (x : ℕ × ℕ) : Type 0 where
    until : RunHas K N before x.0
    never : ¬ (RunHas K N (before ++ (x ∷ [])) x.0)

  -- some run has the sees `before`, and b is the first tick from the last of them on to which none goes on
  record Late (before : List (ℕ × ℕ)) (b : ℕ) : Type 0 where
    has : RunHas K N before (last_tick before)
    after : last_tick before ≤ b
    never : ¬ (RunHas K N before b)
    earlier : (T : ℕ) → last_tick before ≤ T → T < b → RunHas K N before T

  data Told (S : List (ℕ × ℕ)) (T : ℕ) (r : Report) : Type 0 where
    told_pass : RunHas K N S T → r.verdict ≡ Pass → r.cause ≡ Closed → r.tick ≡ T → Told S T r
    told_see : (before : List (ℕ × ℕ)) (x : ℕ × ℕ) (behind : List (ℕ × ℕ)) → S ≡ before ++ (x ∷ behind) → Missed before x → r.verdict ≡ see_verdict (channel_at N x.1) → r.cause ≡ BrokenSee → r.tick ≡ x.0 → Told S T r
    told_wait : (before behind : List (ℕ × ℕ)) (b : ℕ) (loosely : Bool) → S ≡ before ++ behind → Late before b → b ≤ next_tick behind T → Tells loosely (LooseRunHas K N before b) → r.verdict ≡ cond loosely Fail Inconclusive → r.cause ≡ BrokenWait → r.tick ≡ b → Told S T r

  -- a run with more sees has those before, and what is missed is not had
  missed_not : (before : List (ℕ × ℕ)) (x : ℕ × ℕ) (m : List (ℕ × ℕ)) (T : ℕ) → Missed before x → ¬ (RunHas K N (before ++ (x ∷ m)) T)
  missed_not before x m T y r =
      let h = run_last K N (before ++ (x ∷ [])) (next_tick m T) (run_part K N (before ++ (x ∷ [])) m T (subst (λ X. RunHas K N X T) (sym (append_assoc before (x ∷ []) m)) r)) in
      y.never (subst (RunHas K N (before ++ (x ∷ []))) (last_tick_then before x) h)

  one_late : (before : List (ℕ × ℕ)) (b c : ℕ) → Late before b → Late before c → b ≡ c
  one_late before b c x y =
      elim (le_or_lt b c) [
        | inl p ↦ elim (le_or_lt c b) [ inl q ↦ omega arith | inr q ↦ absurd (x.never (y.earlier b x.after q)) ]
        | inr p ↦ absurd (y.never (x.earlier c y.after p))
      ]

  module _ (F : Fair N) where
    -- nor is what is late
    late_not : (before behind : List (ℕ × ℕ)) (b T : ℕ) → Late before b → b ≤ next_tick behind T → ¬ (RunHas K N (before ++ behind) T)
    late_not before behind b T y l r = y.never (run_earlier K N F before (next_tick behind T) b y.after l (run_part K N before behind T r))

    module _ (T : ℕ) (r q : Report) where
      see_see : (before : List (ℕ × ℕ)) (x : ℕ × ℕ) (behind before' : List (ℕ × ℕ)) (x' : ℕ × ℕ) (behind' : List (ℕ × ℕ)) → Missed before x → Missed before' x' → Cuts before (x ∷ behind) before' (x' ∷ behind') → x ≡ x'
      see_see before x behind before' x' behind' y y' (same_cut f g) = cc
      see_see before x behind before' x' behind' y y' (shorter z m f g) =
          let k : z ≡ x = cc in
          absurd (missed_not before x m x'.0 y (subst (λ X. RunHas K N X x'.0) (f ∙ ap (λ j. before ++ (j ∷ m)) k) y'.until))
      see_see before x behind before' x' behind' y y' (longer z m f g) =
          let k : z ≡ x' = cc in
          absurd (missed_not before' x' m x.0 y' (subst (λ X. RunHas K N X x.0) (f ∙ ap (λ j. before' ++ (j ∷ m)) k) y.until))

      see_wait : (before : List (ℕ × ℕ)) (x : ℕ × ℕ) (behind before' behind' : List (ℕ × ℕ)) (b : ℕ) → Missed before x → Late before' b → b ≤ next_tick behind' T → ¬ (Cuts before (x ∷ behind) before' behind')
      see_wait before x behind before' behind' b y y' l (same_cut f g) =
          late_not before' [] b x.0 y' (subst (λ X. b ≤ next_tick X T) (sym g) l) (subst (λ X. RunHas K N X x.0) (f ∙ sym (append-nil before')) y.until)
      see_wait before x behind before' behind' b y y' l (shorter z m f g) =
          let k : z ≡ x = cc in
          missed_not before x m (last_tick before') y (subst (λ X. RunHas K N X (last_tick before')) (f ∙ ap (λ j. before ++ (j ∷ m)) k) y'.has)
      see_wait before x behind before' behind' b y y' l (longer z m f g) =
          late_not before' (z ∷ m) b x.0 y' (subst (λ X. b ≤ next_tick X T) g l) (subst (λ X. RunHas K N X x.0) f y.until)

      wait_wait : (before behind before' behind' : List (ℕ × ℕ)) (b b' : ℕ) → Late before b → Late before' b' → b ≤ next_tick behind T → b' ≤ next_tick behind' T → Cuts before behind before' behind' → before ≡ before'
      wait_wait before behind before' behind' b b' y y' l l' (same_cut f g) = f
      wait_wait before behind before' behind' b b' y y' l l' (shorter z m f g) = absurd (late_not before (z ∷ m) b (last_tick before') y (subst (λ X. b ≤ next_tick X T) g l) (subst (λ X. RunHas K N X (last_tick before')) f y'.has))
      wait_wait before behind before' behind' b b' y y' l l' (longer z m f g) = absurd (late_not before' (z ∷ m) b' (last_tick before) y' (subst (λ X. b' ≤ next_tick X T) g l') (subst (λ X. RunHas K N X (last_tick before)) f y.has))

    -- two reports on one timed word say the same
    told_same : (S : List (ℕ × ℕ)) (T : ℕ) (r q : Report) → Told S T r → Told S T q → SameReport r q
    told_same S T r q (told_pass h v c k) (told_pass h' v' c' k') = record { verdict = v ∙ sym v'; cause = c ∙ sym c'; tick = k ∙ sym k' }
    told_same S T r q (told_pass h v c k) (told_see before x behind e y v' c' k') = absurd (missed_not before x behind T y (subst (λ X. RunHas K N X T) e h))
    told_same S T r q (told_pass h v c k) (told_wait before behind b l e y lb s v' c' k') = absurd (late_not before behind b T y lb (subst (λ X. RunHas K N X T) e h))
    told_same S T r q (told_see before x behind e y v c k) (told_pass h v' c' k') = absurd (missed_not before x behind T y (subst (λ X. RunHas K N X T) e h))
    told_same S T r q (told_see before x behind e y v c k) (told_see before' x' behind' e' y' v' c' k') =
        let p = see_see T r q before x behind before' x' behind' y y' (cuts before (x ∷ behind) before' (x' ∷ behind') (sym e ∙ e')) in
        record { verdict = v ∙ ap (λ (j : ℕ × ℕ). see_verdict (channel_at N j.1)) p ∙ sym v'; cause = c ∙ sym c'; tick = k ∙ ap (λ (j : ℕ × ℕ). j.0) p ∙ sym k' }
    told_same S T r q (told_see before x behind e y v c k) (told_wait before' behind' b l e' y' lb s v' c' k') = absurd (see_wait T r q before x behind before' behind' b y y' lb (cuts before (x ∷ behind) before' behind' (sym e ∙ e')))
    told_same S T r q (told_wait before behind b l e y lb s v c k) (told_pass h v' c' k') = absurd (late_not before behind b T y lb (subst (λ X. RunHas K N X T) e h))
    told_same S T r q (told_wait before behind b l e y lb s v c k) (told_see before' x' behind' e' y' v' c' k') = absurd (see_wait T r q before' x' behind' before behind b y' y lb (cuts before' (x' ∷ behind') before behind (sym e' ∙ e)))
    told_same S T r q (told_wait before behind b l e y lb s v c k) (told_wait before' behind' b' l' e' y' lb' s' v' c' k') =
        let p = wait_wait T r q before behind before' behind' b b' y y' lb lb' (cuts before behind before' behind' (sym e ∙ e')) in
        let at : b ≡ b' = one_late before b b' y (subst (λ X. Late X b') (sym p) y') in
        let loosely : l ≡ l' = tells_one (LooseRunHas K N before b) (LooseRunHas K N before b) (λ x. x, λ x. x) l l' s (subst₂ (λ X j. Tells l' (LooseRunHas K N X j)) (sym p) (sym at) s') in
        record { verdict = v ∙ ap (λ (j : Bool). cond j Fail Inconclusive) loosely ∙ sym v'; cause = c ∙ sym c'; tick = k ∙ at ∙ sym k' }

    -- ---- so it is with the report of a shift that is given a trace

    -- what comes behind a break changes nothing
    broken_told : (t : List Item) (i : Item) (r : Report) → BrokeBy K N t i r → (rest : List Item) → Told (sees (t ++ (i ∷ rest))) (ticks (t ++ (i ∷ rest))) r
    broken_told t i r (by_wait n b l e h x lb s v c k) rest =
        subst (λ j. Told (sees (t ++ (j ∷ rest))) (ticks (t ++ (j ∷ rest))) r) (sym e)
        (told_wait (sees t) (sees_from (ticks t + n) rest) b l (sees_more t (Wait n ∷ rest)) late within s v c k)
      where
        late : Late (sees t) b
        late = record { has = run_last K N (sees t) (ticks t) h; after = x.after; never = x.never; earlier = x.before }

        until : (ticks t + n) + ticks rest ≡ ticks (t ++ (Wait n ∷ rest))
        until = omega (arith, ticks_more t (Wait n ∷ rest))

        within : b ≤ next_tick (sees_from (ticks t + n) rest) (ticks (t ++ (Wait n ∷ rest)))
        within = subst (λ T. b ≤ next_tick (sees_from (ticks t + n) rest) T) until (le_trans lb (next_after (ticks t + n) rest))
    broken_told t i r (by_see j e h x v c k) rest =
        subst (λ y. Told (sees (t ++ (y ∷ rest))) (ticks (t ++ (y ∷ rest))) r) (sym e)
        (told_see (sees t) (ticks t, j) (sees_from (ticks t) rest) (sees_more t (See j ∷ rest)) missed v c k)
      where
        missed : Missed (sees t) (ticks t, j)
        missed = record { until = h; never = λ y. x (subst₂ (RunHas K N) (sym (sees_then j t)) (sym (ticks_then j t)) y) }

module _ {B : Type 0} (had : ℕ → Type 0) (admits : B → ℕ → ℤ → Type 0) (reach : B → ℕ) (N : Model) (F : Fair N) (d : B) where
  given_told : (t u : List Item) (stage : Stage B) → Good had admits reach N d u stage → Given t u stage → (r : Report) → Reports stage r → Told (kind B had admits) N (sees t) (ticks t) r
  given_told t u stage (good_open x) g r e = absurd e
  given_told t u stage (good_closed {r = q} v c k h) (to_a_break rest eq b) r e = absurd (no_break {B = B} (closed q) q (λ y f. f) (λ f. cc) (λ f. cc) b)
  given_told t u stage (good_closed {r = q} v c k h) (to_the_end eq x) r e =
      subst (Told (kind B had admits) N (sees t) (ticks t)) e (subst (λ y. Told (kind B had admits) N (sees y) (ticks y) q) (sym eq) (told_pass h v c k))
  given_told t u stage (good_broken {r = q} p i is x) (to_a_break rest eq b) r e =
      subst (Told (kind B had admits) N (sees t) (ticks t)) e
      (subst (λ y. Told (kind B had admits) N (sees y) (ticks y) q) (sym (eq ∙ ap (λ y. y ++ rest) is ∙ append_assoc p (i ∷ []) rest)) (broken_told (kind B had admits) N F p i q x rest))
  given_told t u stage (good_broken {r = q} p i is x) (to_the_end eq y) r e = absurd y
  given_told t u stage (good_stopped {r = q} v c h) (to_a_break rest eq b) r e = absurd (no_break {B = B} (broken_off q) q (λ y f. f) (λ f. cc) (λ f. cc) b)
  given_told t u stage (good_stopped {r = q} v c h) (to_the_end eq y) r e = absurd y

-- for every kind of time that obeys the laws
pub words_decide : {B : Type 0} {had : ℕ → Type 0} {admits : B → ℕ → ℤ → Type 0} {reach : B → ℕ} → Laws had admits reach → WordsDecide had admits reach
words_decide {B} {had} {admits} {reach} L network t t' lawful lawful' same_sees same_ticks d d' u u' stage stage' h h' f f' g g' r r' e e' =
    let F = sound_fair (model_of network) network.sound in
    let x = given_told had admits reach (model_of network) F d t u stage (shift_good L (model_of network) F d u stage h f) g r e in
    let y = given_told had admits reach (model_of network) F d' t' u' stage' (shift_good L (model_of network) F d' u' stage' h' f') g' r' e' in
    told_same (kind B had admits) (model_of network) F (sees t) (ticks t) r r' x (subst₂ (λ S T. Told (kind B had admits) (model_of network) S T r') (sym same_sees) (sym same_ticks) y)
