-- What a source answers, from its items to come and the ending behind them.
use Rattle.std.specs.Prelude.{List, [], ◌∷◌, Option, Some, None, Result, Ok, Err}
use Rattle.source.specs.declared.Item.{Item}

-- the first item, or else the ending: nothing at the end, or the fault
abbrev pub next_of : {F : Type 0} → List Item → Result (Unit {0}) F → Result (Option Item) F
next_of [] (Ok _) = Ok None
next_of [] (Err fault) = Err fault
next_of (item ∷ items) ending = Ok (Some item)

-- the items behind the first
abbrev pub rest_of : List Item → List Item
rest_of [] = []
rest_of (item ∷ items) = items
