-- What is computed over lists is the value, and what is counted there are the rounds that change something.
use Rattle.std.proofs.Common.{◌≡◌, ℕ, zero, suc, ◌+◌, ◌<◌, Bool, true, false, List, [], ◌∷◌, length, sym, refl, ap, ◌∙◌, subst, ap₂, ⊎_elim, arith}
use mathlib.Core.Bool.{false≢true}
use Rattle.std.proofs.lemmas.Bool.{and_parts, and_from, cases_order}
use Rattle.ctl.specs.Operations.{Ops, Below, as_read}
use Rattle.ctl.specs.Formulas.{Plan, Formula, F, T, mark, not, EX, AX, and, or, until}
use Rattle.ctl.specs.Values.{Row, Same, Least, Value, after, Rounds, Takes, ex, ax, round}
use Rattle.ctl.specs.Computed.{at, listed, rounds, value, alike, changes, counted}
use Rattle.ctl.specs.Theorems.{ValueComputed}
use Rattle.ctl.proofs.Cuts.{Cutting}
use Rattle.ctl.proofs.Stand.{Steady, steady, step_same, after_valid, early, reaches}
use Rattle.ctl.proofs.Agree.{value_once}
use Rattle.ctl.proofs.Alike.{least_same, rounds_same, other_rows}

module _ {V : Type 0} (o : Ops V) where
  at_listed : (n : ℕ) (x : Row V) → Same n (at o (listed n x)) x
  at_listed zero x s h = absurd (omega arith)
  at_listed (suc n) x zero h = refl
  at_listed (suc n) x (suc s) h = at_listed n (λ t. x (suc t)) s (omega arith)

  length_listed : (n : ℕ) (x : Row V) → length (listed n x) ≡ n
  length_listed zero x = refl
  length_listed (suc n) x = ap suc (length_listed n (λ s. x (suc s)))

  length_rounds : (n : ℕ) (step : Row V → Row V) (k : ℕ) → length (rounds o n step k) ≡ n
  length_rounds n step zero = length_listed n (λ s. o.lowest)
  length_rounds n step (suc k) = length_listed n (step (at o (rounds o n step k)))

  -- lists that are alike, place by place
  alike_at : (xs ys : List V) → alike o xs ys ≡ true → length xs ≡ length ys → (s : ℕ) → s < length xs →
      Below o (at o xs s) (at o ys s) × Below o (at o ys s) (at o xs s)
  alike_at [] ys e l s h = absurd (omega arith)
  alike_at (x ∷ xs) [] e l s h = absurd (omega arith)
  alike_at (x ∷ xs) (y ∷ ys) e l zero h = and_parts _ _ (and_parts _ _ e).0
  alike_at (x ∷ xs) (y ∷ ys) e l (suc s) h = alike_at xs ys (and_parts _ _ e).1 (omega arith) s (omega arith)

  at_alike : (xs ys : List V) → ((s : ℕ) → s < length xs → Below o (at o xs s) (at o ys s) × Below o (at o ys s) (at o xs s)) → alike o xs ys ≡ true
  at_alike [] ys all = refl
  at_alike (x ∷ xs) [] all = refl
  at_alike (x ∷ xs) (y ∷ ys) all =
      and_from _ _ (and_from _ _ (all 0 (omega arith)).0 (all 0 (omega arith)).1) (at_alike xs ys (λ s h. all (suc s) (omega arith)))

  module _ (c : Cutting o) (n : ℕ) (step : Row V → Row V) (firm : Steady o n step) where
    -- the list after k rounds holds the row after k rounds
    kept : (k : ℕ) → Same n (at o (rounds o n step k)) (after o step k)
    kept zero = at_listed n (λ s. o.lowest)
    kept (suc k) = λ s h.
        at_listed n (step (at o (rounds o n step k))) s h
        ∙ step_same o c n step firm (at o (rounds o n step k)) (after o step k) (kept k) s h

    by_lists : Least o n step (at o (rounds o n step n))
    by_lists =
        let back : Same n (after o step n) (at o (rounds o n step n)) = λ s h. sym (kept n s h) in
        least_same o n step (after o step n) (at o (rounds o n step n)) back
        (step_same o c n step firm (after o step n) (at o (rounds o n step n)) back) (reaches o c n step firm)

    -- whether the lists are alike tells whether the round changed something
    is_still : (k : ℕ) → alike o (rounds o n step k) (rounds o n step (suc k)) ≡ true → Same n (after o step (suc k)) (after o step k)
    is_still k e s h =
        let lk = length_rounds n step k in
        let ls = length_rounds n step (suc k) in
        let r = alike_at (rounds o n step k) (rounds o n step (suc k)) e (omega arith) s (omega arith) in
        c.anti (after o step (suc k) s) (after o step k s) (after_valid o c n step firm (suc k) s) (after_valid o c n step firm k s)
        (sym (ap₂ o.leq (kept (suc k) s h) (kept k s h)) ∙ r.1) (sym (ap₂ o.leq (kept k s h) (kept (suc k) s h)) ∙ r.0)

    is_moved : (k : ℕ) → alike o (rounds o n step k) (rounds o n step (suc k)) ≡ false → Same n (after o step (suc k)) (after o step k) → ⊥
    is_moved k e is =
        let lk = length_rounds n step k in
        false≢true (sym e ∙ at_alike (rounds o n step k) (rounds o n step (suc k)) (λ s h.
        let u : s < n = omega arith in
        let a : at o (rounds o n step (suc k)) s ≡ at o (rounds o n step k) s = kept (suc k) s u ∙ is s u ∙ sym (kept k s u) in (
          ap (o.leq (at o (rounds o n step k) s)) a ∙ c.same (at o (rounds o n step k) s),
          ap (λ v. o.leq v (at o (rounds o n step k) s)) a ∙ c.same (at o (rounds o n step k) s),
        )))

    count_is : (left i : ℕ) → i + left ≡ suc n → ((k : ℕ) → k < i → Same n (after o step (suc k)) (after o step k) → ⊥) →
        Rounds o n step (i + changes o n step left (rounds o n step i))
    count_is zero i e moves = absurd (let l = early o c n step firm n (moves n (omega arith)) in omega arith)
    count_is (suc left) i e moves =
        go (λ more. count_is left (suc i) (omega arith) (λ k h.
        ⊎_elim (λ same_k. subst (λ a. Same n (after o step (suc a)) (after o step a) → ⊥) (sym same_k) more)
        (⊎_elim (λ l. moves k l) (λ l. absurd (omega arith))) (cases_order k i)))
        (alike o (rounds o n step i) (rounds o n step (suc i))) refl
      where
        go : ((Same n (after o step (suc i)) (after o step i) → ⊥) → Rounds o n step (suc i + changes o n step left (rounds o n step (suc i)))) →
            (b : Bool) → alike o (rounds o n step i) (rounds o n step (suc i)) ≡ b → Rounds o n step (i + changes o n step (suc left) (rounds o n step i))
        go rest true e =
            subst (λ b. Rounds o n step (i + (elim b [ true ↦ 0 | false ↦ suc (changes o n step left (rounds o n step (suc i))) ]))) (sym e)
            (let none_more : i ≡ i + 0 = omega arith in
            subst (Rounds o n step) none_more (record { changing = moves; still = is_still i e }))
        go rest false e =
            subst (λ b. Rounds o n step (i + (elim b [ true ↦ 0 | false ↦ suc (changes o n step left (rounds o n step (suc i))) ]))) (sym e)
            (let one_more : suc i + changes o n step left (rounds o n step (suc i)) ≡ i + suc (changes o n step left (rounds o n step (suc i))) = omega arith in
            subst (Rounds o n step) one_more (rest (is_moved i e)))

    count_lists : Rounds o n step (changes o n step (suc n) (listed n (λ s. o.lowest)))
    count_lists =
        let all : ℕ = changes o n step (suc n) (listed n (λ s. o.lowest)) in
        let e : 0 + all ≡ all = omega arith in
        subst (Rounds o n step) e (count_is (suc n) 0 (omega arith) (λ k h. absurd (omega arith)))

  module _ (c : Cutting o) (p : Plan V) where
    computed : (φ : Formula) → Value o p φ (at o (value o p φ))
    computed F = at_listed p.stages (λ s. o.lowest)
    computed T = at_listed p.stages (λ s. o.highest)
    computed (mark m) = at_listed p.stages (λ s. as_read o (p.mark s m))
    computed (not f) = let x = at o (value o p f) in (x, computed f, at_listed p.stages (λ s. o.opposite (x s)))
    computed (EX f) = let x = at o (value o p f) in (x, computed f, at_listed p.stages (ex o p x))
    computed (AX f) = let x = at o (value o p f) in (x, computed f, at_listed p.stages (ax o p x))
    computed (and f g) =
        let x = at o (value o p f) in let y = at o (value o p g) in
        (x, y, computed f, computed g, at_listed p.stages (λ s. o.meet (x s) (y s)))
    computed (or f g) =
        let x = at o (value o p f) in let y = at o (value o p g) in
        (x, y, computed f, computed g, at_listed p.stages (λ s. o.join (x s) (y s)))
    computed (until w f g) =
        let x = at o (value o p f) in let y = at o (value o p g) in
        (x, y, computed f, computed g, by_lists c p.stages (round o p w x y) (steady o c p w x y))

    takes : (φ : Formula) → Takes o p φ (counted o p φ)
    takes F = refl
    takes T = refl
    takes (mark m) = refl
    takes (not f) = refl
    takes (EX f) = refl
    takes (AX f) = refl
    takes (and f g) = refl
    takes (or f g) = refl
    takes (until w f g) = λ x y vx vy.
        let a = at o (value o p f) in let b = at o (value o p g) in
        rounds_same o p.stages _ (round o p w a b) (round o p w x y)
        (other_rows o p w a b x y (value_once o c p f a x (computed f) vx) (value_once o c p g b y (computed g) vy))
        (count_lists c p.stages (round o p w a b) (steady o c p w a b))

pub value_computed : {V : Type 0} (o : Ops V) → Cutting o → ValueComputed o
value_computed o c p φ = (computed o c p φ, takes o c p φ)
