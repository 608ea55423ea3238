use Rattle.std.proofs.Common.{◌≡◌, ◌-◌, ◌^◌, ◌<◌, drop}
use Rattle.wire.specs.Reading.{groups_in}
use Rattle.wire.proofs.Groupwise.{shifted}
use Rattle.wire.proofs.number.Given as goal

abbrev pub invariant-loop-i : goal.invariant-loop-i
invariant-loop-i l =
    record {
      there : l.byte-items ≡ drop l.at l.bytes;
      few : l.i < 5;
      so_far : groups_in 5 l.byte-items ≡ shifted l.i l.value (groups_in (5 - l.i) (drop l.i l.byte-items));
      weight : l.weight ≡ 128 ^ l.i;
      below : l.value < 128 ^ l.i;
    }
