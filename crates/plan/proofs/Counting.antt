-- How many words a plan has, and how many of them are a table's.
use Rattle.std.proofs.Common.{◌≡◌, Some, ℕ, ◌<◌, min, List, length, get_or, take, sym, ap, ◌∙◌, inl, inr, arith, take_all}
use Rattle.std.proofs.lemmas.List.{length-take}
use Rattle.std.proofs.lemmas.Bool.{cases_lt}
use Rattle.words.specs.declared.kind.Kind.TheVariants.{Table}
use Rattle.words.specs.Kinds.{kind_of}

-- where the first word is a table's, at least one is counted
pub counts_one : (ws : List ℕ) (n : ℕ) → 0 < length ws → kind_of (get_or ws 0 0) ≡ Some Table → (n < length ws → kind_of (get_or ws n 0) ≡ Some Table → ⊥) → 0 < n
counts_one ws n some first last =
    elim (cases_lt 0 n) [
      | inl h ↦ h
      | inr h ↦
          let zero : n ≡ 0 = omega arith in
          absurd (last (omega arith) (ap (λ k. kind_of (get_or ws k 0)) zero ∙ first))
    ]

-- the first words of a list, at most m
pub first_words : (ws : List ℕ) (m : ℕ) → take (min (length ws) m) ws ≡ take m ws
first_words ws m =
    elim (cases_lt m (length ws)) [
      | inl h ↦ let e : min (length ws) m ≡ m = omega arith in ap (λ k. take k ws) e
      | inr h ↦ let e : min (length ws) m ≡ length ws = omega arith in ap (λ k. take k ws) e ∙ take_all (length ws) ws (omega arith) ∙ sym (take_all m ws h)
    ]

pub first_count : (ws : List ℕ) (m : ℕ) → length (take m ws) ≡ min (length ws) m
first_count ws m = let e = length-take m ws in omega arith
