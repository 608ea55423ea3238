-- Reading group by group: what is read so far, and what the rest makes of it.
use Rattle.std.proofs.Common.{◌≡◌, ℕ, zero, suc, ◌+◌, ◌-◌, ◌*◌, ◌%◌, ◌^◌, ◌<◌, ◌≤◌, true, List, [], ◌∷◌, length, get_or, drop, sym, refl, mul-le-mul_right, mul_assoc, mul_comm, mul-add, add-one, arith, drop-cons}
use native.Mathlib.Nat.{pow-le-pow_right}
use Rattle.std.proofs.lemmas.List.{drop_all}
use Rattle.std.proofs.lemmas.Nat.{pow-add}
use Rattle.wire.specs.Numbers.{largest}
use Rattle.wire.specs.Reading.{taken, refused, Groups, whole, cut, endless, more, judged, groups_in, shortest}

-- `low` is the value of the i groups before
abbrev pub shifted : ℕ → ℕ → Groups → Groups
shifted i low (whole v u) = whole (low + 128 ^ i * v) (i + u)
shifted i low cut = cut
shifted i low endless = endless

pub pow_more : (i : ℕ) → 128 ^ (i + 1) ≡ 128 ^ i * 128
pow_more i = pow-add 128 i 1

shifted_more : (i low d : ℕ) (g : Groups) → shifted i low (more d g) ≡ shifted (i + 1) (low + d * 128 ^ i) g
shifted_more i low d (whole v u) =
    let p : low + 128 ^ i * (d + 128 * v) ≡ low + d * 128 ^ i + 128 ^ (i + 1) * v =
    rw (pow_more i) (omega (arith, mul-add (128 ^ i) d (128 * v), mul_comm (128 ^ i) d, mul_assoc (128 ^ i) 128 v)) in
    let q : i + suc u ≡ i + 1 + u = omega arith in
    rw (p, q)
shifted_more i low d cut = refl
shifted_more i low d endless = refl

pub groups_more : (k b : ℕ) (bs : List ℕ) → 128 ≤ b → groups_in (suc k) (b ∷ bs) ≡ more (b - 128) (groups_in k bs)
unfolding groups_in
groups_more k b bs h = grind arith

pub groups_last : (k b : ℕ) (bs : List ℕ) → b < 128 → groups_in (suc k) (b ∷ bs) ≡ whole b 1
unfolding groups_in
groups_last k b bs h = grind arith

pub groups_cut : (k : ℕ) → groups_in (suc k) [] ≡ cut
unfolding groups_in
groups_cut k = refl

pub groups_endless : (bs : List ℕ) → groups_in 0 bs ≡ endless
unfolding groups_in
groups_endless bs = refl

shortest_last : (b i low : ℕ) → (b ≡ 0 → i ≡ 0) → shortest (low + b * 128 ^ i) (i + 1) ≡ true
shortest_last zero i low first = let z : i ≡ 0 = first refl in grind arith
shortest_last (suc b) i low first =
    let m : 1 * 128 ^ i ≤ suc b * 128 ^ i = mul-le-mul_right (128 ^ i) (omega arith) in
    let s : i + 1 - 1 ≡ i = omega arith in
    grind arith

-- a loop over the groups of a number at `at`: i of them are read, with the value `low` and the weight w of the next
module _ (len at : ℕ) (row : List ℕ) (i low w : ℕ) (inv : groups_in 5 row ≡ shifted i low (groups_in (5 - i) (drop i row))) (weight : w ≡ 128 ^ i) where
  pub ends_there : i < 5 → length row ≤ i → judged len at (groups_in 5 row) ≡ refused 2 len
  ends_there h e =
      let k : 5 - i ≡ suc (4 - i) = omega arith in
      rw (inv, drop_all i row e, k, groups_cut (4 - i))

  -- the next byte, whose lower seven bits are g
  module _ (g : ℕ) (octet : get_or row i 0 < 256) (lower : g ≡ get_or row i 0 % 128) (few : i < 5) (l : i < length row) where
    pub next_group : 128 ≤ get_or row i 0 → groups_in 5 row ≡ shifted (i + 1) (low + g * w) (groups_in (5 - (i + 1)) (drop (i + 1) row))
    next_group e =
        let k : 5 - i ≡ suc (5 - (i + 1)) = omega arith in
        let d : get_or row i 0 - 128 ≡ g = omega arith in
        rw (weight, inv, drop-cons row i 0 l, k, groups_more (5 - (i + 1)) (get_or row i 0) (drop (suc i) row) e, shifted_more i low (get_or row i 0 - 128) (groups_in (5 - (i + 1)) (drop (suc i) row)), d, add-one i)

    -- the last byte that a number may have still goes on
    pub goes_on : 128 ≤ get_or row i 0 → i + 1 ≡ 5 → judged len at (groups_in 5 row) ≡ refused 3 at
    goes_on e p = let k : 5 - (i + 1) ≡ 0 = omega arith in rw (next_group e, k, groups_endless (drop (i + 1) row))

    -- the number ends here
    module _ (small : get_or row i 0 < 128) (under : low < 128 ^ i) where
      last_group : groups_in 5 row ≡ whole (low + g * w) (i + 1)
      last_group =
          let k : 5 - i ≡ suc (4 - i) = omega arith in
          let d : get_or row i 0 ≡ g = omega arith in
          rw (weight, inv, drop-cons row i 0 l, k, groups_last (4 - i) (get_or row i 0) (drop (suc i) row) small, d, mul_comm (128 ^ i) g)

      pub in_shortest_form : (n : ℕ) → n ≤ largest → n ≡ low + g * w → (get_or row i 0 ≡ 0 → i ≡ 0) → judged len at (groups_in 5 row) ≡ taken n (at + i + 1)
      in_shortest_form n fits e first =
          let f : g ≡ 0 → i ≡ 0 = λ z. first (omega arith) in
          let s : shortest n (i + 1) ≡ true = rw (e, weight) (shortest_last g i low f) in
          let p : at + (i + 1) ≡ at + i + 1 = omega arith in
          rw (last_group, sym e) (grind arith)

      -- the last byte adds nothing to the groups before it
      pub zero_last : get_or row i 0 ≡ 0 → 0 < i → judged len at (groups_in 5 row) ≡ refused 3 at
      zero_last z p =
          let s : i + 1 - 1 ≡ i = omega arith in
          let y : g ≡ 0 = omega arith in
          let v : low + g * w ≡ low = rw y (omega arith) in
          rw (last_group, v, s) (grind arith)

      pub above_largest : largest < low + g * w → judged len at (groups_in 5 row) ≡ refused 3 at
      above_largest big = rw last_group (grind arith)

pub power_small : (i : ℕ) → i < 5 → 128 ^ i ≤ 268435456
power_small i h = let p : i ≤ 4 = omega arith in pow-le-pow_right {n = 128} (omega arith) {i = i} {j = 4} p
