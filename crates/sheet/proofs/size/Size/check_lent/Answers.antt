use Rattle.std.proofs.Common.{refl, inr, arith}
use Rattle.sheet.proofs.size.Size.check_lent.Goals as goal

pub returns : goal.returns
returns g c = inr (omega arith, inr (omega arith, inr (omega arith, refl)))
