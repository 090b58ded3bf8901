-- The refusals of this layer: the number and the name of each.
use Rattle.std.specs.Prelude.{ℕ, List, ◌++◌, codes, decimal}
use Rattle.scale.specs.declared.Refusal.{Refusal}
use Rattle.scale.specs.declared.Refusal.TheVariants.{Logic as NoLogic, Order, Lattice, Distribution, Opposite}

abbrev pub refusal_number : Refusal → ℕ
refusal_number NoLogic = 10
refusal_number Order = 11
refusal_number Lattice = 12
refusal_number Distribution = 13
refusal_number Opposite = 14

abbrev pub refusal_name : Refusal → List ℕ
refusal_name NoLogic = codes "Logic"
refusal_name Order = codes "Order"
refusal_name Lattice = codes "Lattice"
refusal_name Distribution = codes "Distribution"
refusal_name Opposite = codes "Opposite"

-- How a refusal is shown: its number and its name.
abbrev pub shown_refusal : Refusal → List ℕ
shown_refusal r = decimal (refusal_number r) ++ (codes " " ++ refusal_name r)
