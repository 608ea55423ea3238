-- What reading a number at a place comes to.
use Rattle.std.specs.Prelude.{ℕ, zero, suc, ◌+◌, ◌-◌, ◌*◌, ◌^◌, Bool, cond, ◌&&◌, ◌||◌, List, [], ◌∷◌, length, drop, nat_le, nat_lt}
use Rattle.wire.specs.Numbers.{largest}

-- the outcome of reading a part of a document: the part and the place behind it,
-- or the number of the rule that refuses it and the place that the refusal names
pub data Outcome (X : Type 0) : Type 0 where
  taken : X → ℕ → Outcome X
  refused : ℕ → ℕ → Outcome X

-- a part is read, and then what follows it; a refusal stays
abbrev pub then : {A B : Type 0} → Outcome A → (A → ℕ → Outcome B) → Outcome B
then (taken x at) next = next x at
then (refused number place) next = refused number place

-- so many parts of one kind, one behind the other
unfoldable pub repeated : {A : Type 0} → ℕ → (ℕ → Outcome A) → ℕ → Outcome (List A)
repeated zero part at = taken [] at
repeated (suc n) part at = then (part at) (λ x next. then (repeated n part next) (λ xs end. taken (x ∷ xs) end))

-- the groups up to the first byte without the top bit
pub data Groups : Type 0 where
  -- the value, and of how many bytes
  whole : ℕ → ℕ → Groups
  -- the bytes end while the number goes on
  cut : Groups
  -- the last byte that a number may have still goes on
  endless : Groups

abbrev pub more : ℕ → Groups → Groups
more low (whole v u) = whole (low + 128 * v) (suc u)
more low cut = cut
more low endless = endless

-- the groups at the front of the bytes, when there may be so many
unfoldable pub groups_in : ℕ → List ℕ → Groups
groups_in zero bs = endless
groups_in (suc k) [] = cut
groups_in (suc k) (b ∷ bs) = cond (nat_lt b 128) (whole b 1) (more (b - 128) (groups_in k bs))

-- one byte is the shortest form, and of several the last one counts
abbrev pub shortest : ℕ → ℕ → Bool
shortest v u = nat_le u 1 || nat_le (128 ^ (u - 1)) v

abbrev pub judged : ℕ → ℕ → Groups → Outcome ℕ
judged len at (whole v u) = cond (shortest v u && nat_le v largest) (taken v (at + u)) (refused 3 at)
judged len at cut = refused 2 len
judged len at endless = refused 3 at

abbrev pub number_at : List ℕ → ℕ → Outcome ℕ
number_at bytes at = judged (length bytes) at (groups_in 5 (drop at bytes))
