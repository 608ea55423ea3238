-- Each case of the reader's answer, by the number of its rule and its values.
use Rattle.std.specs.Prelude.{ℕ, Ok, Err, Result}
use Rattle.wire.specs.Reading.{Outcome, taken, refused}
use Rattle.wire.specs.declared.ByteFault.{ByteFault}
use Rattle.wire.specs.declared.ByteFault.TheVariants.{Ends, Form}

-- the rule that is broken, and the place that a refusal names
abbrev pub byte_case : ByteFault → ℕ × ℕ
byte_case (Ends place) = (2, place)
byte_case (Form place) = (3, place)

abbrev pub byte_rule : ByteFault → ℕ
byte_rule fault = (byte_case fault).0

abbrev pub byte_place : ByteFault → ℕ
byte_place fault = (byte_case fault).1

abbrev pub number_answer : Result (ℕ × ℕ) ByteFault → Outcome ℕ
number_answer (Ok p) = taken p.0 p.1
number_answer (Err fault) = refused (byte_rule fault) (byte_place fault)
