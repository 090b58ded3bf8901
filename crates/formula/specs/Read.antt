-- A reading by a rule that goes on as long as it can, and a text that has none. Assumes nothing.
use Rattle.std.specs.Prelude.{◌≡◌, ℕ, List}
use Rattle.tokens.specs.Tokens.{Tok, Stands, tAnd, tOr, tImplies}
use Rattle.formula.specs.Grammar.{Tree, Level, unit, con, alt, formula, Reads}

-- the token k does not stand at the front of r
abbrev pub Lacks : List ℕ → Tok → Type 0
Lacks r k = (s : List ℕ) → Stands r k s → ⊥

-- r has nothing at its front with which a reading by the rule l could go on
abbrev pub Stops : Level → List ℕ → Type 0
Stops unit r = Unit {0}
Stops con r = Lacks r tAnd
Stops alt r = Lacks r tAnd × Lacks r tOr
Stops formula r = Lacks r tAnd × Lacks r tOr × Lacks r tImplies

-- the front of bs spells t by the rule l, up to r, where the reading stops; and no other reading stops
pub record Read (ns : List ℕ) (l : Level) (bs : List ℕ) (t : Tree) (r : List ℕ) : Type 0 where
  pub reads : Reads ns l bs t r
  pub stops : Stops l r
  pub only : (u : Tree) (s : List ℕ) → Reads ns l bs u s → Stops l s → (t ≡ u) × (r ≡ s)

-- no front of bs spells a tree by the rule l up to where the reading stops
pub record Unread (ns : List ℕ) (l : Level) (bs : List ℕ) : Type 0 where
  pub none : (u : Tree) (s : List ℕ) → Reads ns l bs u s → Stops l s → ⊥
