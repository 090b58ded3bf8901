-- A call's checks in their order: of the memory lent, of a place, of a value.
use Rattle.std.proofs.Common.{◌≡◌, ℕ, ◌<◌, [], ◌∷◌, length, Ok, Err, Option, Result, ok_or, refl, ap, inl, inr, arith}
use Rattle.std.specs.Result.{IsErrAnd}
use Rattle.scale.specs.Model.{Model, value_at}
use Rattle.sheet.specs.declared.state.Refusal.{Refusal}
use Rattle.sheet.specs.declared.state.Refusal.TheVariants.{Value as NoValue, Full, Line as BadLine}
use Rattle.lines.specs.Word.{WellFormed}
use Rattle.sheet.specs.Layout.{most_lines}
use Rattle.sheet.specs.Sheet.{LogicOf, Sheet, Call, done, entry_reply, Permits, Verdict, refuse, accept, needs, accepts, lent, Does, wipes, left, Step}
use Rattle.sheet.specs.Verdicts.{arrow_placed, mark_placed}
use Rattle.sheet.proofs.Agree.{passed}
use Rattle.sheet.proofs.Calls.{JudgedOn, refuses, answers, does}
use Rattle.sheet.proofs.Lent.{stopped, let_through, refused_first, refused_second, value_found, value_missed}

-- checks that refuse or pass, whatever checks come after
pub record Before (placed : (Verdict → Type 0) → Verdict → Type 0) : Type 1 where
  pub stops : (rest : Verdict → Type 0) (r : Refusal) → placed (accepts []) (refuse r) → placed rest (refuse r)
  pub goes : (rest : Verdict → Type 0) (v : Verdict) → placed (accepts []) (accept []) → rest v → placed rest v

pub before_arrow : (n s t : ℕ) → Before (arrow_placed n s t)
before_arrow n s t = record { stops = λ rest r p. refused_first (λ _. rest) p; goes = λ rest v p q. inr ((passed p).0, q) }

pub before_mark : (n a s k : ℕ) → Before (mark_placed n a s k)
before_mark n a s k = record {
  stops = λ rest r p. refused_second (λ _ _. rest) p;
  goes = λ rest v p q. let x = passed p in inr (x.0, inr ((passed x.1).0, q));
}

-- the check of a value's number
abbrev pub valued : {V : Type 0} → Model V → ℕ → Verdict → Type 0
valued m k = needs (k < m.size) NoValue (λ _. accepts [])

-- the checks of a line's word
abbrev pub lined : ℕ → ℕ → ℕ → Verdict → Type 0
lined count a w = needs (count < most_lines) Full (λ _. needs (WellFormed count a w) BadLine (λ l. accepts (l.0 ∷ [])))

module _ {V : Type 0} (l : LogicOf V) (w : Sheet V) (c : Call) (may : Permits w.phase c) (rest : Verdict → Type 0)
    (is : (v : Verdict) → lent l.model w.stages w.marks (length w.stretch) (length w.words) rest v → JudgedOn l w c v) where
  abbrev Lent : Verdict → Type 0
  Lent = lent l.model w.stages w.marks (length w.stretch) (length w.words) (accepts [])

  pub lent_judges : (r : Refusal) → Lent (refuse r) → JudgedOn l w c (refuse r)
  lent_judges r p = is (refuse r) (stopped l.model w.stages w.marks (length w.stretch) (length w.words) rest r p)

  pub rest_judges : (v : Verdict) → Lent (accept []) → rest v → JudgedOn l w c v
  rest_judges v p q = is v (let_through l.model w.stages w.marks (length w.stretch) (length w.words) rest v p q)

-- an entry at a place
module _ {V : Type 0} (l : LogicOf V) (w : Sheet V) (c : Call) (k : ℕ) (may : Permits w.phase c) (placed : (Verdict → Type 0) → Verdict → Type 0) (before : Before placed)
    (is : (v : Verdict) → lent l.model w.stages w.marks (length w.stretch) (length w.words) (placed (valued l.model k)) v → JudgedOn l w c v) where
  abbrev Lends : Verdict → Type 0
  Lends = lent l.model w.stages w.marks (length w.stretch) (length w.words) (accepts [])

  pub unlent : (a : Result Unit Refusal) (r : Refusal) → IsErrAnd a (λ e. e ≡ r) → Lends (refuse r) → Step l w c (entry_reply a) (left (wipes c r) w)
  unlent a r e p = answers l w c a r _ e (refuses l w c r may (lent_judges l w c may (placed (valued l.model k)) is r p))

  pub misplaced : (a : Result Unit Refusal) (r : Refusal) → IsErrAnd a (λ e. e ≡ r) → Lends (accept []) → placed (accepts []) (refuse r) → Step l w c (entry_reply a) (left (wipes c r) w)
  misplaced a r e p q = answers l w c a r _ e (refuses l w c r may (rest_judges l w c may (placed (valued l.model k)) is (refuse r) p (before.stops (valued l.model k) r q)))

  pub valueless : (a : Result Unit Refusal) (r : Refusal) → IsErrAnd a (λ e. e ≡ r) → Lends (accept []) → placed (accepts []) (accept []) →
      (o : Option V) (x : Result V Refusal) → o ≡ value_at l.model k → x ≡ ok_or o NoValue → x ≡ Err r → Step l w c (entry_reply a) (left (wipes c r) w)
  valueless a r e p q o x at made was =
      let missed = value_missed l.model k o x NoValue r (passed p).0 at made was in
      answers l w c a r _ e
      (refuses l w c r may
      (rest_judges l w c may (placed (valued l.model k)) is (refuse r) p
      (before.goes (valued l.model k) (refuse r) q (inl ((λ h. omega (arith, missed.0)), ap refuse missed.1)))))

  pub entered : Lends (accept []) → placed (accepts []) (accept []) → (o : Option V) (x : Result V Refusal) (v : V) → o ≡ value_at l.model k → x ≡ ok_or o NoValue → x ≡ Ok v →
      (u : Sheet V) → (v ≡ l.model.value k → Does l w c [] done u) → Step l w c done u
  entered p q o x v at made was u did =
      let found = value_found l.model k o x NoValue v (passed p).0 at made was in
      does l w c [] done u may (rest_judges l w c may (placed (valued l.model k)) is (accept []) p (before.goes (valued l.model k) (accept []) q (inr (found.0, refl)))) (did found.1)
