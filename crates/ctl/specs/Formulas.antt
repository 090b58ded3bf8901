-- Plans and formulas.
use Rattle.std.specs.Prelude.{ℕ}
use Rattle.ctl.specs.declared.Paths.{Paths}
use Rattle.ctl.specs.declared.Paths.TheVariants.{One, All}

-- The number of stages, the entry of the arrow from one stage to another, and that of each mark at a stage.
pub record Plan (V : Type 0) : Type 0 where
  pub stages : ℕ
  pub arrow : ℕ → ℕ → V
  pub mark : ℕ → ℕ → V

pub data Formula : Type 0 where
  F T : Formula
  mark : ℕ → Formula
  not EX AX : Formula → Formula
  and or : Formula → Formula → Formula
  -- f until g, along one path or along all
  until : Paths → Formula → Formula → Formula

-- E[f U g] and A[f U g]
abbrev pub EU : Formula → Formula → Formula
EU f g = until One f g

abbrev pub AU : Formula → Formula → Formula
AU f g = until All f g

-- The others are abbreviations.
abbrev pub implies : Formula → Formula → Formula
implies f g = or (not f) g

abbrev pub EF : Formula → Formula
EF f = EU T f

abbrev pub AF : Formula → Formula
AF f = AU T f

abbrev pub EG : Formula → Formula
EG f = not (AF (not f))

abbrev pub AG : Formula → Formula
AG f = not (EF (not f))

-- E[f R g] and A[f R g]
abbrev pub ER : Formula → Formula → Formula
ER f g = not (AU (not f) (not g))

abbrev pub AR : Formula → Formula → Formula
AR f g = not (EU (not f) (not g))
