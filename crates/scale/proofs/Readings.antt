-- What a pattern is read as.
use Rattle.std.proofs.Common.{◌≡◌, ◌<◌, Bool, true, false, cond, refl, inl, inr, arith}
use Rattle.std.proofs.lemmas.Bool.{cond-true, cases_lt}
use Rattle.scale.specs.Model.{Model, Is, read}
use Rattle.scale.specs.Laws.{Lawful}

module _ {V : Type 0} (m : Model V) (l : Lawful m) where
  read_at : (v : V) (t : Bool) → m.valid v ≡ t → Is m (cond t v m.lowest)
  read_at v true e = e
  read_at v false e = l.low

  -- it is a value
  pub read_is : (v : V) → Is m (read m v)
  read_is v = read_at v (m.valid v) refl

  -- a value is read as itself
  pub read_same : (v : V) → Is m v → read m v ≡ v
  read_same v p = cond-true (m.valid v) v m.lowest p

  -- whatever the size, there are at most 4,095 cuts
  pub few_cuts : m.cuts < 4096
  few_cuts =
      elim (cases_lt m.size 4097) [
        | inl h ↦ omega (arith, (l.counted (omega arith)).fewer)
        | inr h ↦ omega (arith, l.no_cuts (omega (arith, l.at_most)))
      ]
