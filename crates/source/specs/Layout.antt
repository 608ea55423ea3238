-- The writer: the bytes of a recording.
use Rattle.std.specs.Prelude.{ℕ, ◌<◌, ◌≤◌, List, [], ◌∷◌, ◌++◌, slice_index}
use Rattle.std.specs.List.{flat_map, AllByRecursion}
use Rattle.wire.specs.Numbers.{largest, written}
use Rattle.source.specs.declared.Item.{Item}
use Rattle.source.specs.Answers.{item_kind, item_number}

-- each of these numbers is a byte
abbrev pub Octets : List ℕ → Type 0
Octets bytes = (i : ℕ) → slice_index bytes i < 256

abbrev pub record_bytes : Item → List ℕ
record_bytes item = item_kind item ∷ written (item_number item)

-- the records of all items, and then the end record
abbrev pub recording_layout : List Item → List ℕ
recording_layout items = flat_map record_bytes items ++ (2 ∷ [])

-- every number can be written
abbrev pub Writable : List Item → Type 0
Writable items = AllByRecursion (λ item. item_number item ≤ largest) items
