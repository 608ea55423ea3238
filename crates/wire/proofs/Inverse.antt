-- The reader takes exactly what the writer gives.
use Rattle.std.proofs.Common.{◌≡◌, ℕ, zero, suc, ◌+◌, ◌-◌, ◌*◌, ◌/◌, ◌%◌, ◌^◌, ◌<◌, ◌≤◌, true, leb, List, [], ◌∷◌, ◌++◌, length, get_or, drop, sym, refl, ap, ◌∙◌, inl, inr, mod-lt, mod-eq_of_lt, pow-suc, arith, get_or-drop, drop-drop, leb-true}
use native.Mathlib.Nat.{mod-add-div, add-mul-div_left, add-mul-mod_self_left, div-eq_of_lt, pow-le-pow_right}
use Rattle.std.proofs.lemmas.Bool.{cases_lt, cases_Bool}
use Rattle.std.proofs.lemmas.Nat.{div_below}
use Rattle.wire.specs.Numbers.{largest, groups_of, written}
use Rattle.wire.specs.Reading.{Outcome, taken, refused, Groups, whole, cut, endless, more, groups_in, judged, number_at, shortest}
use Rattle.wire.proofs.Groupwise.{groups_more, groups_last, groups_cut, groups_endless}

of_one : (k n : ℕ) → n < 128 → groups_of (suc k) n ≡ n ∷ []
unfolding groups_of
of_one k n h = grind arith

of_more : (k n : ℕ) → 128 ≤ n → groups_of (suc k) n ≡ (128 + n % 128) ∷ groups_of k (n / 128)
unfolding groups_of
of_more k n h = grind arith

pow_pos : (k : ℕ) → 0 < 128 ^ k
pow_pos k = pow-le-pow_right {n = 128} (omega arith) {i = 0} {j = k} (omega arith)

quotient_below : (k n : ℕ) → n < 128 ^ suc k → n / 128 < 128 ^ k
quotient_below k n h = div_below n 128 (128 ^ k) (omega arith) (rw (pow-suc 128 k) at h)

-- the bytes of a number read as that number
reads_back : (k n : ℕ) (rest : List ℕ) → n < 128 ^ suc k → groups_in (suc k) (groups_of (suc k) n ++ rest) ≡ whole n (length (groups_of (suc k) n))
reads_back zero n rest h = let l : n < 128 = omega arith in rw (of_one 0 n l, groups_last 0 n rest l)
reads_back (suc k) n rest h =
    elim (cases_lt n 128) [
      | inl l ↦ rw (of_one (suc k) n l, groups_last (suc k) n rest l)
      | inr l ↦
          let q : n % 128 + 128 * (n / 128) ≡ n = mod-add-div n 128 in
          let s : 128 + n % 128 - 128 ≡ n % 128 = omega arith in
          rw (of_more (suc k) n l, groups_more (suc k) (128 + n % 128) (groups_of (suc k) (n / 128) ++ rest) (omega arith), reads_back k (n / 128) rest (quotient_below (suc k) n h), s, q)
    ]

-- no shorter row of groups would hold the number
needs_all : (k n : ℕ) → 0 < n → n < 128 ^ k → (0 < length (groups_of k n)) × (128 ^ (length (groups_of k n) - 1) ≤ n)
needs_all zero n p h = absurd (omega arith)
needs_all (suc k) n p h =
    elim (cases_lt n 128) [
      | inl l ↦ rw (of_one k n l) (omega arith, omega arith)
      | inr l ↦
          let q : n % 128 + 128 * (n / 128) ≡ n = mod-add-div n 128 in
          let m : n % 128 < 128 = mod-lt n (omega arith) in
          let r = needs_all k (n / 128) (omega arith) (quotient_below k n h) in
          let e : suc (length (groups_of k (n / 128))) - 1 ≡ suc (length (groups_of k (n / 128)) - 1) = omega (arith, r.0) in
          rw (of_more k n l) (omega arith, rw (e, pow-suc 128 (length (groups_of k (n / 128)) - 1)) (omega (arith, r.1)))
    ]

shortest_written : (n : ℕ) → n < 128 ^ 5 → shortest n (length (groups_of 5 n)) ≡ true
shortest_written zero h = rw (of_one 4 0 (omega arith))
shortest_written (suc n) h = let r = needs_all 5 (suc n) (omega arith) h in grind (arith, r.0, r.1)

pub takes_what_is_written : (bytes : List ℕ) (at n : ℕ) (rest : List ℕ) → n ≤ largest → drop at bytes ≡ written n ++ rest → number_at bytes at ≡ taken n (at + length (written n))
unfolding written
takes_what_is_written bytes at n rest h e =
    let l : n < 128 ^ 5 = omega arith in
    let s : shortest n (length (groups_of 5 n)) ≡ true = shortest_written n l in
    rw (e, reads_back 4 n rest l, s) (grind arith)

one_again : (k b : ℕ) (bs : List ℕ) (v u : ℕ) → b < 128 → whole b 1 ≡ whole v u → (0 < u) × (b ∷ bs ≡ groups_of (suc k) v ++ drop u (b ∷ bs)) × (u ≡ length (groups_of (suc k) v))
one_again k b bs v u l e =
    let x : b ≡ v = cc in
    let y : 1 ≡ u = cc in
    let z : groups_of (suc k) v ≡ b ∷ [] = rw (sym x) (of_one k b l) in
    (omega arith, rw (z, sym y), rw (z, sym y))

more_again : (k b : ℕ) (bs : List ℕ) (v u : ℕ) (g : Groups) → g ≡ groups_in k bs → b < 256 → 128 ≤ b → more (b - 128) g ≡ whole v u → (1 < u → 128 ^ (u - 1) ≤ v) → ((v' u' : ℕ) → groups_in k bs ≡ whole v' u' → (1 < u' → 128 ^ (u' - 1) ≤ v') → (0 < u') × (bs ≡ groups_of k v' ++ drop u' bs) × (u' ≡ length (groups_of k v'))) → (0 < u) × (b ∷ bs ≡ groups_of (suc k) v ++ drop u (b ∷ bs)) × (u ≡ length (groups_of (suc k) v))
more_again k b bs v u (whole v' u') g small l e s again =
    let x : b - 128 + 128 * v' ≡ v = cc in
    let y : suc u' ≡ u = cc in
    let s' : 1 < u' → 128 ^ (u' - 1) ≤ v' = λ h.
    let f : u - 1 ≡ suc (u' - 1) = omega arith in
    let w : 128 ^ (u' - 1) * 128 ≤ v = rw (f, pow-suc 128 (u' - 1)) at (s (omega arith)) in
    omega arith in
    let r = again v' u' (sym g) s' in
    let p : 128 ^ 1 ≤ 128 ^ u' = pow-le-pow_right {n = 128} (omega arith) {i = 1} {j = u'} r.0 in
    let f : u - 1 ≡ u' = omega arith in
    let big : 128 ≤ v = omega (arith, p, rw f at (s (omega (arith, r.0)))) in
    let m : v % 128 ≡ b - 128 = rw (sym x) (add-mul-mod_self_left (b - 128) 128 v' ∙ mod-eq_of_lt (omega arith)) in
    let d : v / 128 ≡ v' = rw (sym x) (add-mul-div_left (b - 128) v' (omega arith) ∙ rw (div-eq_of_lt {n = b - 128} {m = 128} (omega arith)) (omega arith)) in
    let n : 128 + (b - 128) ≡ b = omega arith in
    let z : groups_of (suc k) v ≡ b ∷ groups_of k v' = rw (of_more k v big, m, d, n) in
    (omega arith, rw (z, sym y) (ap (λ xs. b ∷ xs) r.1), rw (z, sym y) (ap suc r.2))
more_again k b bs v u cut g small l e s again = absurd (grind arith)
more_again k b bs v u endless g small l e s again = absurd (grind arith)

-- groups in shortest form are those of their value
written_again : (k : ℕ) (bs : List ℕ) (v u : ℕ) → ((i : ℕ) → get_or bs i 0 < 256) → groups_in k bs ≡ whole v u → (1 < u → 128 ^ (u - 1) ≤ v) → (0 < u) × (bs ≡ groups_of k v ++ drop u bs) × (u ≡ length (groups_of k v))
written_again zero bs v u small e s = let z = groups_endless bs in absurd (grind arith)
written_again (suc k) [] v u small e s = let z = groups_cut k in absurd (grind arith)
written_again (suc k) (b ∷ bs) v u small e s =
    elim (cases_lt b 128) [
      | inl l ↦ one_again k b bs v u l (sym (groups_last k b bs l) ∙ e)
      | inr l ↦ more_again k b bs v u (groups_in k bs) refl (small 0) l (sym (groups_more k b bs l) ∙ e) s (λ v' u' e' s'. written_again k bs v' u' (λ i. small (suc i)) e' s')
    ]

accepted : (len at v u n next : ℕ) → judged len at (whole v u) ≡ taken n next → (v ≡ n) × (at + u ≡ next) × (shortest v u ≡ true) × (leb v largest ≡ true)
accepted len at v u n next e =
    elim (cases_Bool (shortest v u)) [
      | inl s ↦
          elim (cases_Bool (leb v largest)) [
            | inl l ↦ let w : taken v (at + u) ≡ taken n next = rw (s, l) at e in (cc, cc, s, l)
            | inr l ↦ let w : ◌≡◌ {A = Outcome ℕ} (refused 3 at) (taken n next) = rw (s, l) at e in absurd (grind arith)
          ]
      | inr s ↦ let w : ◌≡◌ {A = Outcome ℕ} (refused 3 at) (taken n next) = rw s at e in absurd (grind arith)
    ]

long : (v u : ℕ) → 1 < u → shortest v u ≡ true → 128 ^ (u - 1) ≤ v
long v u h s = grind arith

pub from_judged : (len at n next : ℕ) (g : Groups) → judged len at g ≡ taken n next → (u : ℕ) × (g ≡ whole n u) × (1 < u → 128 ^ (u - 1) ≤ n) × (n ≤ largest) × (next ≡ at + u)
from_judged len at n next (whole v u) e =
    let x : (v ≡ n) × (at + u ≡ next) × (shortest v u ≡ true) × (leb v largest ≡ true) = accepted len at v u n next e in
    (u, rw x.0, (λ h. rw (sym x.0) (long v u h x.2)), rw (sym x.0) (omega (arith, leb-true v largest x.3)), sym x.1)
from_judged len at n next cut e = absurd (grind arith)
from_judged len at n next endless e = absurd (grind arith)

pub takes_only_what_is_written : (bytes : List ℕ) (at n next : ℕ) → ((i : ℕ) → get_or bytes i 0 < 256) → number_at bytes at ≡ taken n next → (n ≤ largest) × (drop at bytes ≡ written n ++ drop next bytes) × (next ≡ at + length (written n))
unfolding written
takes_only_what_is_written bytes at n next small e =
    let j = from_judged (length bytes) at n next (groups_in 5 (drop at bytes)) e in
    let w = written_again 5 (drop at bytes) n j.0 (λ i. rw get_or-drop (small (at + i))) j.1 j.2 in
    let d : drop j.0 (drop at bytes) ≡ drop next bytes = drop-drop j.0 at bytes ∙ ap (λ k. drop k bytes) (sym j.4) in
    (j.3, w.1 ∙ ap (λ xs. groups_of 5 n ++ xs) d, j.4 ∙ ap (λ k. at + k) w.2)
