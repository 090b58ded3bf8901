-- The laws tried one after another answer the first that fails.
use Rattle.std.proofs.Common.{◌≡◌, ℕ, Bool, true, false, List, [], ◌∷◌, length, is_ok, Ok, Err, Result, sym, refl, ap, ◌∙◌}
use Rattle.std.proofs.lemmas.Bool.{false≢true, cond-true, cond-false}
use Rattle.scale.specs.declared.Refusal.{Refusal}
use Rattle.scale.specs.declared.Refusal.TheVariants.{Order, Lattice, Distribution, Opposite}
use Rattle.orders.specs.Orders.{under, ordered, latticed, spread, opposing, listed}
use Rattle.orders.specs.Words.{first_failing, law_verdict, readable, rows_of, opposites_of, verdict}

abbrev said : Bool → Bool → Bool → Bool → Result (Unit {0}) Refusal
said o l d x = first_failing ((o, Order) ∷ (l, Lattice) ∷ (d, Distribution) ∷ (x, Opposite) ∷ [])

module _ (n : ℕ) (rows opposites : List ℕ) where
  pub tried : (o l d x : Bool) → o ≡ ordered n (under rows) → l ≡ latticed n (under rows) → d ≡ spread n (under rows) → x ≡ opposing n (under rows) (listed opposites) → said o l d x ≡ law_verdict n rows opposites
  unfolding law_verdict
  tried o l d x eo el ed ex = rw (eo, el, ed, ex) refl

  -- where none fails, all hold
  pub passed : law_verdict n rows opposites ≡ Ok tt → (ordered n (under rows) ≡ true) × (latticed n (under rows) ≡ true) × (spread n (under rows) ≡ true) × (opposing n (under rows) (listed opposites) ≡ true)
  unfolding law_verdict
  passed e = all_true (ordered n (under rows)) (latticed n (under rows)) (spread n (under rows)) (opposing n (under rows) (listed opposites)) e
    where
      all_true : (o l d x : Bool) → said o l d x ≡ Ok tt → (o ≡ true) × (l ≡ true) × (d ≡ true) × (x ≡ true)
      all_true true true true true e = (refl, refl, refl, refl)
      all_true true true true false e = absurd (false≢true (ap is_ok e))
      all_true true true false x e = absurd (false≢true (ap is_ok e))
      all_true true false d x e = absurd (false≢true (ap is_ok e))
      all_true false l d x e = absurd (false≢true (ap is_ok e))

-- what loading answers, by whether the words are readable
pub verdict_unread : (words : List ℕ) → readable words ≡ false → verdict words ≡ Err Order
unfolding verdict
verdict_unread words e = cond-false (readable words) (law_verdict (length words) (rows_of words) (opposites_of words)) (Err Order) e

pub verdict_read : (words : List ℕ) (n : ℕ) (rows opposites : List ℕ) → readable words ≡ true → n ≡ length words → rows ≡ rows_of words → opposites ≡ opposites_of words → verdict words ≡ law_verdict n rows opposites
unfolding verdict
verdict_read words n rows opposites e en er eo =
    cond-true (readable words) (law_verdict (length words) (rows_of words) (opposites_of words)) (Err Order) e
    ∙ sym (ap (λ k. law_verdict k rows opposites) en ∙ ap (λ xs. law_verdict (length words) xs opposites) er ∙ ap (law_verdict (length words) (rows_of words)) eo)

-- laws that all hold refuse nothing
pub none_fails : (n : ℕ) (rows opposites : List ℕ) → ordered n (under rows) ≡ true → latticed n (under rows) ≡ true → spread n (under rows) ≡ true → opposing n (under rows) (listed opposites) ≡ true → law_verdict n rows opposites ≡ Ok tt
unfolding law_verdict
none_fails n rows opposites o l d x = rw (o, l, d, x) refl
