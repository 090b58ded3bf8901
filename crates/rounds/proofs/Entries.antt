-- The operations on values as operations on patterns, and one more turn of EX.
use Rattle.std.proofs.Common.{◌≡◌, ℕ, ◌+◌, sym, ap, ◌∙◌, subst, ap₂, add-one}
use Rattle.scale.specs.Model.{Model, Is, read}
use Rattle.scale.specs.Laws.{Lawful, Opposed}
use Rattle.scale.proofs.Readings.{read_is, read_same}
use Rattle.ctl.specs.Operations.{Ops, ops_of, as_read}
use Rattle.ctl.specs.Values.{Row, joined}
use Rattle.ctl.proofs.Cuts.{sound, joined_valid}

module _ {V : Type 0} (m : Model V) (opposite : V → V) (partner : ℕ → ℕ) (l : Lawful m) (op : Opposed m opposite partner) where
  abbrev o : Ops V
  o = ops_of m opposite partner

  -- one more arrow of EX: its pattern is read, and the join so far is a value
  pub ex_more : (t : ℕ) (x : Row V) (sum arrow reading value along r : V) → sum ≡ joined o t x → reading ≡ read m arrow → Is m value →
      x t ≡ o.meet arrow value → (Is m reading → Is m value → along ≡ m.meet reading value) → (Is m sum → Is m along → r ≡ m.join sum along) →
      r ≡ joined o (t + 1) x
  ex_more t x sum arrow reading value along r so_far is_read valid here met joins =
      let read_valid : Is m reading = subst (Is m) (sym is_read) (read_is m l arrow) in
      let along_is : along ≡ m.meet reading value = met read_valid valid in
      let along_valid : Is m along = subst (Is m) (sym along_is) (l.meet_valid reading value read_valid valid) in
      let sum_valid : Is m sum = subst (Is m) (sym so_far) (joined_valid o (sound m opposite partner l op) t x) in
      joins sum_valid along_valid
      ∙ sym (ap₂ m.join (read_same m l sum sum_valid) (read_same m l along along_valid))
      ∙ ap₂ o.join so_far (along_is ∙ ap₂ m.meet is_read (sym (read_same m l value valid)) ∙ sym here)
      ∙ sym (ap (λ k. joined o k x) (add-one t))

  -- the opposite of what a pattern is read as is its opposite
  pub opposite_read : (v : V) → o.opposite (as_read o v) ≡ o.opposite v
  opposite_read v = ap opposite (read_same m l (read m v) (read_is m l v))
