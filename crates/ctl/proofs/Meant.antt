-- Every logic of at most 4,096 values gives formulas their meaning.
use Rattle.std.proofs.Common.{ℕ}
use Rattle.scale.specs.Model.{Model}
use Rattle.scale.specs.Laws.{Lawful, Opposed}
use Rattle.ctl.specs.Operations.{Small, ops_of}
use Rattle.ctl.specs.Theorems.{Meaning}
use Rattle.ctl.proofs.Cuts.{cutting}
use Rattle.ctl.proofs.Stand.{untils_settle}
use Rattle.ctl.proofs.Agree.{reading_agrees, value_exists, value_once}
use Rattle.ctl.proofs.Lists.{value_computed}

pub meant : {V : Type 0} (m : Model V) (opposite : V → V) (partner : ℕ → ℕ) → Lawful m → Opposed m opposite partner → Small m → Meaning (ops_of m opposite partner)
meant m opposite partner lawful opposed small =
    let o = ops_of m opposite partner in
    let cuts = cutting m opposite partner lawful opposed small in
    record { agrees = reading_agrees o cuts; exists = value_exists o cuts; once = value_once o cuts; settle = untils_settle o cuts; computed = value_computed o cuts }
