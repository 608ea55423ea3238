use Rattle.std.proofs.Common.{refl}
use Rattle.network.specs.Networks.{RefusedLeaves}
use Rattle.examine.proofs.examine.Goals as goal

pub returns-in_err-read_sheet-clause-refused_leaves_the_place :
    goal.returns-in_err-read_sheet-clause-refused_leaves_the_place
unfolding RefusedLeaves
returns-in_err-read_sheet-clause-refused_leaves_the_place c =
    λ fault e. c.in_err-read_sheet.ensures.refused_leaves_the_place c.in_err-read_sheet.field-0.0 refl
