-- A cut of the first part is below the count of that part's cuts.
use Rattle.std.proofs.Common.{◌≡◌, ℕ, ◌-◌, ◌<◌, Bool, true, false, cond, leb, ltb, Some, Option, sym, refl, ap, ◌∙◌, arith}
use Rattle.std.proofs.lemmas.Bool.{ltb-true}
use Rattle.scale.specs.Model.{only_if}
use Rattle.compounds.specs.declared.halves.Half.{Half}
use Rattle.compounds.specs.declared.halves.Half.TheVariants.{First, Second}
use Rattle.compounds.specs.Halves.{half_of}

first_at : (h j i : ℕ) (t b : Bool) → ltb j h ≡ b → only_if t (cond b (First j) (Second (j - h))) ≡ Some (First i) → i < h
first_at h j i true true e is = let k : j ≡ i = cc in omega (arith, k, ltb-true j h e)
first_at h j i true false e is = let z : ◌≡◌ {A = ℕ} 0 1 = cc in absurd (omega arith)
first_at h j i false b e is = let z : ◌≡◌ {A = ℕ} 0 1 = cc in absurd (omega arith)

pub first_below : (size h j i : ℕ) (o : Option Half) (x : Half) → o ≡ only_if (leb size 4096) (half_of h j) → o ≡ Some x → x ≡ First i → i < h
first_below size h j i o x e s f = first_at h j i (leb size 4096) (ltb j h) refl (sym e ∙ (s ∙ ap (λ y. Some y) f))
