-- Traces put together: their ticks, their sees and their parts.
use Rattle.std.proofs.Common.{◌≡◌, ℕ, ◌+◌, ◌≤◌, List, [], ◌∷◌, ◌++◌, length, refl, ap, ap₂, ◌∙◌, arith}
use Rattle.source.specs.declared.Item.{Item}
use Rattle.source.specs.declared.Item.TheVariants.{Wait, See}
use Rattle.runs.specs.Runs.{last_from}
use Rattle.runs.specs.Traces.{ticks, sees_from, sees, last_see}

-- ---- ticks and sees

pub ticks_more : (t u : List Item) → ticks (t ++ u) ≡ ticks t + ticks u
ticks_more [] u = omega arith
ticks_more (Wait d ∷ t) u = let h = ticks_more t u in omega arith
ticks_more (See k ∷ t) u = ticks_more t u

pub sees_from_more : (T : ℕ) (t u : List Item) → sees_from T (t ++ u) ≡ sees_from T t ++ sees_from (T + ticks t) u
sees_from_more T [] u = ap (λ X. sees_from X u) (omega arith)
sees_from_more T (Wait d ∷ t) u = sees_from_more (T + d) t u ∙ ap (λ X. sees_from (T + d) t ++ sees_from X u) (omega arith)
sees_from_more T (See k ∷ t) u = ap (λ S. (T, k) ∷ S) (sees_from_more T t u)

pub sees_more : (t u : List Item) → sees (t ++ u) ≡ sees t ++ sees_from (ticks t) u
sees_more t u = sees_from_more 0 t u ∙ ap (λ X. sees t ++ sees_from X u) (omega arith)

pub length_more : (t : List Item) (i : Item) → length (t ++ (i ∷ [])) ≡ length t + 1
length_more [] i = omega arith
length_more (x ∷ t) i = let h = length_more t i in omega arith

-- a wait more
pub ticks_waited : (t : List Item) (d : ℕ) → ticks (t ++ (Wait d ∷ [])) ≡ ticks t + d
ticks_waited t d = let h = ticks_more t (Wait d ∷ []) in omega arith

pub sees_waited : (T : ℕ) (t : List Item) (d : ℕ) → sees_from T (t ++ (Wait d ∷ [])) ≡ sees_from T t
sees_waited T [] d = refl
sees_waited T (Wait e ∷ t) d = sees_waited (T + e) t d
sees_waited T (See k ∷ t) d = ap (λ S. (T, k) ∷ S) (sees_waited T t d)

-- ---- the last see, and the next

last_within : (T X : ℕ) (t : List Item) → X ≤ T → last_from X (sees_from T t) ≤ T + ticks t
last_within T X [] h = omega arith
last_within T X (Wait d ∷ t) h = let e = last_within (T + d) X t (omega arith) in omega arith
last_within T X (See k ∷ t) h = last_within T T t (omega arith)

-- it is not later than the trace
pub last_see_within : (t : List Item) → last_see t ≤ ticks t
last_see_within t = let h = last_within 0 0 t (omega arith) in omega arith

-- the tick of the first of the sees S, or the tick T where there is none
abbrev pub next_tick : List (ℕ × ℕ) → ℕ → ℕ
next_tick [] T = T
next_tick (x ∷ S) T = x.0

-- it is not before what comes before it
pub next_after : (T : ℕ) (t : List Item) → T ≤ next_tick (sees_from T t) (T + ticks t)
next_after T [] = omega arith
next_after T (Wait d ∷ t) = let h = next_after (T + d) t in let e : (T + d) + ticks t ≡ T + (d + ticks t) = omega arith in le_as T d t e h
  where
    le_as : (T d : ℕ) (t : List Item) → (T + d) + ticks t ≡ T + (d + ticks t) → T + d ≤ next_tick (sees_from (T + d) t) ((T + d) + ticks t) → T ≤ next_tick (sees_from (T + d) t) (T + (d + ticks t))
    le_as T d t e h = let z = ap (λ X. next_tick (sees_from (T + d) t) X) e in omega arith
next_after T (See k ∷ t) = omega arith

-- ---- parts of lists

no_nil : {A : Type 0} (xs : List A) (y : A) (ys : List A) → ¬ ([] ≡ xs ++ (y ∷ ys))
no_nil [] y ys e = cc
no_nil (x ∷ xs) y ys e = cc

-- what is before an item but the last is before the last
pub before_last : {A : Type 0} (u : List A) (x : A) (p : List A) (c : A) (q : List A) → u ++ (x ∷ []) ≡ p ++ (c ∷ q) → (b : List A) × (u ≡ p ++ b)
before_last u x [] c q e = (u, refl)
before_last [] x (y ∷ p) c q e = absurd (no_nil p c q (cc))
before_last (z ∷ u) x (y ∷ p) c q e =
    let h : u ++ (x ∷ []) ≡ p ++ (c ∷ q) = cc in
    let k : z ≡ y = cc in
    let r = before_last u x p c q h in
    (r.0, ap₂ (λ a b. a ∷ b) k r.1)

pub last_same : {A : Type 0} (u v : List A) (x y : A) → u ++ (x ∷ []) ≡ v ++ (y ∷ []) → (u ≡ v) × (x ≡ y)
last_same [] [] x y e = (refl, cc)
last_same [] (b ∷ v) x y e = absurd (no_nil v y [] (cc))
last_same (a ∷ u) [] x y e = let h : [] ≡ u ++ (x ∷ []) = cc in absurd (no_nil u x [] h)
last_same (a ∷ u) (b ∷ v) x y e =
    let h : u ++ (x ∷ []) ≡ v ++ (y ∷ []) = cc in
    let k : a ≡ b = cc in
    let r = last_same u v x y h in
    (ap₂ (λ c d. c ∷ d) k r.0, r.1)
