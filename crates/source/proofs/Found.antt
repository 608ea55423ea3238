-- What stands where a record is read.
use Rattle.std.proofs.Common.{◌≡◌, ℕ, zero, suc, ◌+◌, ◌-◌, ◌<◌, ◌≤◌, ◌⊎◌, List, [], ◌∷◌, length, drop, sym, refl, ap, ◌∙◌, Option, Some, None, inl, inr, arith, length-drop}
use Rattle.std.proofs.lemmas.List.{drop-drop}
use Rattle.std.proofs.lemmas.Bool.{cases_eq, cases_lt, ne_eqb}
use Rattle.wire.specs.Reading.{Outcome, taken, refused, Groups, whole, cut, endless, more, groups_in, number_at}
use Rattle.wire.proofs.Inverse.{from_judged}
use Rattle.wire.proofs.Groupwise.{groups_more, groups_last, groups_cut, groups_endless}
use Rattle.source.specs.declared.Item.{Item}
use Rattle.source.specs.declared.Item.TheVariants.{Wait, See}
use Rattle.source.specs.Answers.{item_kind, item_number}
use Rattle.source.specs.Reading.{item_record, last_record, record_by, record_at}

pub tail_is : (bytes : List ℕ) (at b : ℕ) (rest : List ℕ) → drop at bytes ≡ b ∷ rest → rest ≡ drop (at + 1) bytes
tail_is bytes at b rest e = sym (ap (drop 1) e) ∙ drop-drop 1 at bytes

-- a number has at least one byte, and no more than there are
more_within : (d : ℕ) (bs : List ℕ) (v u : ℕ) (g : Groups) → more d g ≡ whole v u → ((v' u' : ℕ) → g ≡ whole v' u' → (0 < u') × (u' ≤ length bs)) → (0 < u) × (u ≤ suc (length bs))
more_within d bs v u (whole v' u') e again = let y : suc u' ≡ u = cc in let w = again v' u' refl in (omega arith, omega (arith, w.1))
more_within d bs v u cut e again = absurd (grind arith)
more_within d bs v u endless e again = absurd (grind arith)

groups_within : (k : ℕ) (bs : List ℕ) (v u : ℕ) → groups_in k bs ≡ whole v u → (0 < u) × (u ≤ length bs)
groups_within zero bs v u e = let z = groups_endless bs in absurd (grind arith)
groups_within (suc k) [] v u e = let z = groups_cut k in absurd (grind arith)
groups_within (suc k) (b ∷ bs) v u e =
    elim (cases_lt b 128) [
      | inl l ↦ let y : 1 ≡ u = cc (groups_last k b bs l) in (omega arith, omega arith)
      | inr l ↦ more_within (b - 128) bs v u (groups_in k bs) (sym (groups_more k b bs l) ∙ e) (λ v' u' e'. groups_within k bs v' u' e')
    ]

number_within : (bytes : List ℕ) (at n next : ℕ) → number_at bytes at ≡ taken n next → (at < next) × (next ≤ length bytes)
number_within bytes at n next e =
    let j = from_judged (length bytes) at n next (groups_in 5 (drop at bytes)) e in
    let w = groups_within 5 (drop at bytes) n j.0 j.1 in
    let l : j.0 ≤ length bytes - at = rw (length-drop at bytes) at w.1 in
    (omega (arith, w.0, j.4), omega (arith, w.0, j.4))

from_number : (item : ℕ → Item) (o : Outcome ℕ) (i : Item) (next : ℕ) → item_record item o ≡ taken (Some i) next → (n : ℕ) × (o ≡ taken n next) × (item n ≡ i)
from_number item (taken n p) i next e = (n, cc, cc)
from_number item (refused rule place) i next e = absurd (grind arith)

no_last_number : (item : ℕ → Item) (o : Outcome ℕ) (next : ℕ) → item_record item o ≡ taken None next → ⊥
no_last_number item (taken n p) next e = grind arith
no_last_number item (refused rule place) next e = grind arith

from_last : (p : ℕ) (rest : List ℕ) (r : Option Item) (next : ℕ) → last_record p rest ≡ taken r next → (rest ≡ []) × (r ≡ None) × (next ≡ p)
from_last p [] r next e = (refl, cc, cc)
from_last p (b ∷ rest) r next e = absurd (grind arith)

-- the first byte of a record that is read
module _ (bytes : List ℕ) (at b : ℕ) (rest : List ℕ) (r : Option Item) (next : ℕ) (e : record_by bytes at (b ∷ rest) ≡ taken r next) where
  first_byte : ((b ≡ 0) × (item_record Wait (number_at bytes (at + 1)) ≡ taken r next)) ⊎ (((b ≡ 1) × (item_record See (number_at bytes (at + 1)) ≡ taken r next)) ⊎ ((b ≡ 2) × (last_record (at + 1) rest ≡ taken r next)))
  first_byte =
      elim (cases_eq b 0) [
        | inl z ↦ inl (z, rw z at e)
        | inr n0 ↦
            elim (cases_eq b 1) [
              | inl z ↦ inr (inl (z, rw z at e))
              | inr n1 ↦
                  elim (cases_eq b 2) [
                    | inl z ↦ inr (inr (z, rw z at e))
                    | inr n2 ↦ let f : ◌≡◌ {A = Outcome (Option Item)} (refused 4 at) (taken r next) = rw (ne_eqb b 0 n0, ne_eqb b 1 n1, ne_eqb b 2 n2) at e in absurd (grind arith)
                  ]
            ]
      ]

item_by : (bytes : List ℕ) (at next : ℕ) (i : Item) (front : List ℕ) → record_by bytes at front ≡ taken (Some i) next → (rest : List ℕ) × (front ≡ item_kind i ∷ rest) × (number_at bytes (at + 1) ≡ taken (item_number i) next)
item_by bytes at next i [] e = absurd (grind arith)
item_by bytes at next i (b ∷ rest) e =
    elim (first_byte bytes at b rest (Some i) next e) [
      | inl w ↦ let f = from_number Wait (number_at bytes (at + 1)) i next w.1 in (rest, ap (λ (k : ℕ). k ∷ rest) (w.0 ∙ ap item_kind f.2), f.1 ∙ ap (λ (j : Item). taken (item_number j) next) f.2)
      | inr v ↦
          elim v [
            | inl w ↦ let f = from_number See (number_at bytes (at + 1)) i next w.1 in (rest, ap (λ (k : ℕ). k ∷ rest) (w.0 ∙ ap item_kind f.2), f.1 ∙ ap (λ (j : Item). taken (item_number j) next) f.2)
            | inr w ↦ let f = from_last (at + 1) rest (Some i) next w.1 in let g : Some i ≡ None = f.1 in absurd (grind arith)
          ]
    ]

last_by : (bytes : List ℕ) (at next : ℕ) (front : List ℕ) → record_by bytes at front ≡ taken None next → (front ≡ 2 ∷ []) × (next ≡ at + 1)
last_by bytes at next [] e = absurd (grind arith)
last_by bytes at next (b ∷ rest) e =
    elim (first_byte bytes at b rest None next e) [
      | inl w ↦ absurd (no_last_number Wait (number_at bytes (at + 1)) next w.1)
      | inr v ↦
          elim v [
            | inl w ↦ absurd (no_last_number See (number_at bytes (at + 1)) next w.1)
            | inr w ↦ let f = from_last (at + 1) rest None next w.1 in (rw (w.0, f.0), f.2)
          ]
    ]

module _ (bytes : List ℕ) (at next : ℕ) where
  pub item_found : (i : Item) → record_at bytes at ≡ taken (Some i) next → (drop at bytes ≡ item_kind i ∷ drop (at + 1) bytes) × (number_at bytes (at + 1) ≡ taken (item_number i) next)
  item_found i e =
      let f = item_by bytes at next i (drop at bytes) e in
      (f.1 ∙ ap (λ rest. item_kind i ∷ rest) (tail_is bytes at (item_kind i) f.0 f.1), f.2)

  pub item_within : (i : Item) → record_at bytes at ≡ taken (Some i) next → (at < next) × (next ≤ length bytes)
  item_within i e = let w = number_within bytes (at + 1) (item_number i) next (item_found i e).1 in (omega (arith, w.0), w.1)

  pub last_found : record_at bytes at ≡ taken None next → (drop at bytes ≡ 2 ∷ []) × (next ≡ at + 1)
  last_found e = last_by bytes at next (drop at bytes) e
