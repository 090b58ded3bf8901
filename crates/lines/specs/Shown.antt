-- How a line is shown: by its operator's name and the numbers that it names. Assumes nothing.
use Rattle.std.specs.Prelude.{ℕ, List, ◌++◌, codes, decimal}
use Rattle.lines.specs.declared.Unary.{Unary}
use Rattle.lines.specs.declared.Unary.TheVariants.{Not, Ex, Ax, Ef, Af, Eg, Ag}
use Rattle.lines.specs.declared.Binary.{Binary}
use Rattle.lines.specs.declared.Binary.TheVariants.{And, Or, Implies, Eu, Au, Er, Ar}
use Rattle.lines.specs.declared.Line.{Line}
use Rattle.lines.specs.declared.Line.TheVariants.{False, True, Mark, One, Two}

abbrev pub unary_name : Unary → List ℕ
unary_name Not = codes "not"
unary_name Ex = codes "EX"
unary_name Ax = codes "AX"
unary_name Ef = codes "EF"
unary_name Af = codes "AF"
unary_name Eg = codes "EG"
unary_name Ag = codes "AG"

abbrev pub binary_name : Binary → List ℕ
binary_name And = codes "and"
binary_name Or = codes "or"
binary_name Implies = codes "implies"
binary_name Eu = codes "EU"
binary_name Au = codes "AU"
binary_name Er = codes "ER"
binary_name Ar = codes "AR"

abbrev pub shown_as : Line → List ℕ
shown_as False = codes "F"
shown_as True = codes "T"
shown_as (Mark m) = codes "mark " ++ decimal m
shown_as (One o l) = unary_name o ++ (codes " " ++ decimal l)
shown_as (Two o l r) = binary_name o ++ (codes " " ++ (decimal l ++ (codes " " ++ decimal r)))
