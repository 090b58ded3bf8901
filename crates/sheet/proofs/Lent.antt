-- The checks of the memory lent come before those of a call.
use Rattle.std.proofs.Common.{◌≡◌, ℕ, ◌+◌, ◌<◌, ◌≤◌, Bool, true, false, ltb, leb, List, [], Some, None, Option, Ok, Err, Result, ok_or, sym, refl, ◌∙◌, inl, inr, arith}
use Rattle.std.proofs.lemmas.Bool.{cond-true, le-leb, ltb-true, ltb-false}
use Rattle.scale.specs.Model.{Model, named, only_if, value_at}
use Rattle.lines.specs.declared.Line.{Line}
use Rattle.sheet.specs.declared.state.Refusal.{Refusal}
use Rattle.sheet.specs.Layout.{mark_place, answer_row}
use Rattle.sheet.specs.Sheet.{Verdict, refuse, accept, needs, accepts, lent}
use Rattle.sheet.specs.Verdicts.{mark_placed, answer_placed}
use Rattle.sheet.proofs.Agree.{passed}
use Rattle.sheet.proofs.Places.{mark_within, entries_within, answer_within}

no_refusal : {r : Refusal} {new : List Line} {A : Type 0} → refuse r ≡ accept new → A
no_refusal e = let z : ◌≡◌ {A = ℕ} 0 1 = cc in absurd (omega arith)

-- a check that refuses, and two in a row, whatever checks come after; and checks that pass
pub refused_first : {X : Type 0} {r q : Refusal} (rest : X → Verdict → Type 0) → needs X r (λ _. accepts []) (refuse q) → needs X r rest (refuse q)
refused_first rest (inl p) = inl p
refused_first rest (inr p) = no_refusal p.1

pub refused_second : {X Y : Type 0} {r s q : Refusal} (rest : X → Y → Verdict → Type 0) → needs X r (λ _. needs Y s (λ _. accepts [])) (refuse q) → needs X r (λ x. needs Y s (rest x)) (refuse q)
refused_second rest (inl p) = inl p
refused_second rest (inr p) = inr (p.0, refused_first (rest p.0) p.1)

module _ {V : Type 0} (m : Model V) (n a vs ws : ℕ) where
  -- a call that the memory stops is refused so
  pub stopped : (P : Verdict → Type 0) (r : Refusal) → lent m n a vs ws (accepts []) (refuse r) → lent m n a vs ws P (refuse r)
  stopped P r (inl p) = inl p
  stopped P r (inr (x, inl p)) = inr (x, inl p)
  stopped P r (inr (x, inr (y, inl p))) = inr (x, inr (y, inl p))
  stopped P r (inr (x, inr (y, inr (z, p)))) = no_refusal p

  -- one that it lets through is judged by the rest
  pub let_through : (P : Verdict → Type 0) (v : Verdict) → lent m n a vs ws (accepts []) (accept []) → P v → lent m n a vs ws P v
  let_through P v d p = let x = passed d in let y = passed x.1 in let z = passed y.1 in inr (x.0, inr (y.0, inr (z.0, p)))

-- the value with a number, in a scale that has numbers
named_all : {V : Type 0} (m : Model V) → m.size ≤ 4096 → named m ≡ m.size
named_all m h = cond-true (leb m.size 4096) m.size 0 (le-leb m.size 4096 h)

found_at : {V : Type 0} (b : Bool) (v w : V) → only_if b v ≡ Some w → (b ≡ true) × (w ≡ v)
found_at true v w e = (refl, cc)
found_at false v w e = let z : ◌≡◌ {A = ℕ} 0 1 = cc in absurd (omega arith)

missed_at : {V : Type 0} (b : Bool) (v : V) → only_if b v ≡ None → b ≡ false
missed_at true v e = let z : ◌≡◌ {A = ℕ} 0 1 = cc in absurd (omega arith)
missed_at false v e = refl

pub value_found : {V : Type 0} (m : Model V) (k : ℕ) (o : Option V) (e : Result V Refusal) (r : Refusal) (v : V) → m.size ≤ 4096 → o ≡ value_at m k → e ≡ ok_or o r → e ≡ Ok v → (k < m.size) × (v ≡ m.value k)
value_found m k (Some u) e r v small is made was =
    let same : u ≡ v = cc in
    let w = found_at (ltb k (named m)) (m.value k) u (sym is) in
    (let h = ltb-true k (named m) w.0 in let all = named_all m small in omega arith, sym same ∙ w.1)
value_found m k None e r v small is made was = let z : ◌≡◌ {A = ℕ} 0 1 = cc in absurd (omega arith)

pub value_missed : {V : Type 0} (m : Model V) (k : ℕ) (o : Option V) (e : Result V Refusal) (r q : Refusal) → m.size ≤ 4096 → o ≡ value_at m k → e ≡ ok_or o r → e ≡ Err q → (m.size ≤ k) × (q ≡ r)
value_missed m k (Some u) e r q small is made was = let z : ◌≡◌ {A = ℕ} 0 1 = cc in absurd (omega arith)
value_missed m k None e r q small is made was =
    let h = ltb-false k (named m) (missed_at (ltb k (named m)) (m.value k) (sym is)) in
    let all = named_all m small in
    (omega arith, cc)

-- ---- where a mark that is entered and an answer that is read lie

module _ {V : Type 0} (m : Model V) (n a vs ws : ℕ) (right : lent m n a vs ws (accepts []) (accept [])) where
  pub mark_lies : (i k p : ℕ) → mark_placed n a i k (accepts []) (accept []) → p ≡ mark_place n a i k → p < vs
  mark_lies i k p d is =
      let room = (passed (passed right).1).0 in let stage = passed d in
      omega (arith, room, mark_within n a i k stage.0 (passed stage.1).0, entries_within n a)

  pub answer_lies : (count k i p : ℕ) → count ≤ 64 → answer_placed n count k i (accepts []) (accept []) → p ≡ answer_row n a k + i → p < vs
  answer_lies count k i p few d is =
      let room = (passed (passed right).1).0 in let there = passed d in let h = there.0 in
      omega (arith, room, answer_within n a k i (omega arith) (passed there.1).0)
