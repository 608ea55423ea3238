-- Figures of a list of items.
use Rattle.std.specs.Prelude.{ℕ, ◌+◌, ◌-◌, ◌^◌, min, List, [], ◌∷◌}
use Rattle.source.specs.declared.Item.{Item}
use Rattle.source.specs.declared.Item.TheVariants.{Wait, See}

abbrev pub is_wait : Item → ℕ
is_wait (Wait ticks) = 1
is_wait (See channel) = 0

abbrev pub is_see : Item → ℕ
is_see (Wait ticks) = 0
is_see (See channel) = 1

abbrev pub ticks_of : Item → ℕ
ticks_of (Wait ticks) = ticks
ticks_of (See channel) = 0

abbrev pub total : (Item → ℕ) → List Item → ℕ
total f [] = 0
total f (item ∷ items) = f item + total f items

abbrev pub waits_in : List Item → ℕ
waits_in items = total is_wait items

abbrev pub sees_in : List Item → ℕ
sees_in items = total is_see items

abbrev pub ticks_in : List Item → ℕ
ticks_in items = total ticks_of items

-- a figure holds 64 bits, and stops at the largest number
abbrev pub capped : ℕ → ℕ
capped n = min n (2 ^ 64 - 1)
