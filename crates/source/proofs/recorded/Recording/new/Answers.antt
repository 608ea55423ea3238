use Rattle.std.proofs.Common.{refl}
use Rattle.source.specs.Layout.{Octets}
use Rattle.source.proofs.Closing.{closes_behind_its_items, ends_only_as_laid_out, ends_as_laid_out}
use Rattle.source.proofs.recorded.Recording.new.Goals as goal

pub returns : goal.returns
returns c =
    let bytes = c.args.bytes.now in
    let octets : Octets bytes = λ i. (c.type_inv.bytes i).fits in
    record {
      same_bytes = refl;
      at_the_first_byte = refl;
      closes_behind_its_items = closes_behind_its_items bytes octets;
      ends_only_as_laid_out = ends_only_as_laid_out bytes octets;
      ends_as_laid_out = ends_as_laid_out bytes octets;
    }
