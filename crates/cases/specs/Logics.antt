-- The logics that the cases speak of: chains, tables and compounds of these, with what each of their makers promises.
use Rattle.std.specs.Prelude.{ℕ, List, length}
use Rattle.scale.specs.Model.{Model}
use Rattle.chains.specs.Chains.{chain, chain_opposite, chain_partner}
use Rattle.orders.specs.Orders.{listed}
use Rattle.orders.specs.Words.{rows_of, opposites_of}
use Rattle.table.specs.Tables.{table_model, table_partner}
use Rattle.compounds.specs.Pairs.{pair_model, pair_opposite, pair_partner}
use Rattle.compounds.specs.Twists.{twist_model, twist_opposite, twist_partner}
use Rattle.compounds.specs.declared.pair.PairValue.{PairValue}
use Rattle.compounds.specs.declared.twist.TwistValue.{TwistValue}
use Rattle.ctl.specs.Operations.{Ops, ops_of}

-- A logic, by how it is made.
pub data Made : Type 0 where
  -- the chain of n values
  chain_of : ℕ → Made
  -- the table that is loaded from words
  table_of : List ℕ → Made
  pair_of : Made → Made → Made
  twist_over : Made → Made

-- What a value of it is,
abbrev pub Entry : Made → Type 0
Entry (chain_of n) = ℕ
Entry (table_of words) = ℕ
Entry (pair_of a b) = PairValue (Entry a) (Entry b)
Entry (twist_over a) = TwistValue (Entry a)

-- what it answers as a scale,
abbrev pub model : (l : Made) → Model (Entry l)
model (chain_of n) = chain n
model (table_of words) = table_model (length words) (rows_of words)
model (pair_of a b) = pair_model (model a) (model b)
model (twist_over a) = twist_model (model a)

-- the opposite of each value,
abbrev pub opposite : (l : Made) → Entry l → Entry l
opposite (chain_of n) = chain_opposite n
opposite (table_of words) = listed (opposites_of words)
opposite (pair_of a b) = pair_opposite (opposite a) (opposite b)
opposite (twist_over a) = twist_opposite

-- and the partner of each cut.
abbrev pub partner : Made → ℕ → ℕ
partner (chain_of n) = chain_partner n
partner (table_of words) = table_partner (length words) (rows_of words) (opposites_of words)
partner (pair_of a b) = pair_partner (model a).cuts (partner a) (partner b)
partner (twist_over a) = twist_partner (model a).cuts

-- The operations that formulas over it are valued with.
abbrev pub ops : (l : Made) → Ops (Entry l)
ops l = ops_of (model l) (opposite l) (partner l)
