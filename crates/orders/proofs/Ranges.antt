-- Tests of the numbers below n, and the chains of iterators that make them.
use Rattle.std.proofs.Common.{◌≡◌, ℕ, zero, suc, ◌+◌, ◌<◌, ◌≤◌, Bool, true, false, cond, ◌&&◌, List, [], ◌∷◌, ◌++◌, length, get_or, Some, Option, sym, refl, ap, ◌∙◌, subst, inl, inr, arith}
use Rattle.std.specs.List.{range_with_len, list_all, find, FoldsTo}
use Rattle.std.specs.Option.{unwrap_or}
use Rattle.std.proofs.iter.runs.Sources.{nat_range_steps_back}
use Rattle.std.specs.Iterator.{AlwaysYields, Drains}
use Rattle.std.specs.declared.ops.Range.{Range}
use Rattle.std.proofs.lemmas.List.FromFn.{length-range_with_len, get_or-range_with_len}
use Rattle.std.proofs.lemmas.Fn.{fold_over}
use Rattle.std.proofs.lemmas.Iterator.{YieldsList}
use Rattle.std.specs.Array.{IsFromFnResult, IsFromFnResultFrom}
use Rattle.std.specs.Fn.{Called}
use denote.Param.Members.{Mut}
use Rattle.std.proofs.lemmas.Bool.{cases_eq}
use Rattle.std.proofs.Math.Bool.{and_assoc}
use Rattle.scale.proofs.Bools.{and_true}
use Rattle.orders.specs.Finite.{every, pick}
use Rattle.orders.proofs.Finites.{every_same}

every_first : (P : ℕ → Bool) (n : ℕ) → every (suc n) P ≡ (P 0 && every n (λ k. P (suc k)))
every_first P zero = sym (and_true (P 0) true refl)
every_first P (suc n) = ap (λ b. b && P (suc n)) (every_first P n) ∙ and_assoc (P 0) (every n (λ k. P (suc k))) (P (suc n))

-- `all` over a list
pub every_item : (test : ℕ → Bool) (xs : List ℕ) → list_all test xs ≡ every (length xs) (λ k. test (get_or xs k 0))
every_item test [] = refl
every_item test (x ∷ xs) = ap (λ b. test x && b) (every_item test xs) ∙ sym (every_first (λ k. test (get_or (x ∷ xs) k 0)) (length xs))

-- `all` over a range
pub every_listed : (P : ℕ → Bool) (n : ℕ) → list_all P (range_with_len 0 n) ≡ every n P
every_listed P n =
    let xs = range_with_len 0 n in
    every_item P xs
    ∙ ap (λ m. every m (λ k. P (get_or xs k 0))) (length-range_with_len 0 n)
    ∙ every_same (λ k. P (get_or xs k 0)) P n (λ k h. ap P (omega (arith, get_or-range_with_len 0 n k 0 h)))

-- the numbers below n, from the last down
abbrev pub countdown : ℕ → List ℕ
countdown zero = []
countdown (suc n) = n ∷ countdown n

down : (n : ℕ) (s : Range ℕ) → s.start ≡ 0 → s.end ≡ n → AlwaysYields nat_range_steps_back (λ x. x) s (countdown n)
down zero s a e = λ x j t. absurd (omega (arith, t.1.0))
down (suc n) s a e = (λ j t. absurd (omega (arith, t.1.0)), λ x j t. (omega (arith, t.1.1, t.1.2), down n j (t.0 ∙ a) (omega (arith, t.1.2))))

pub YieldsList-from_range_back : {s : Range ℕ} (n : ℕ) → s ≡ record { start = 0; end = n } → YieldsList nat_range_steps_back (λ x. x) s (countdown n)
YieldsList-from_range_back {s} n e = record { runs = down n s (ap (λ r. r.start) e) (ap (λ r. r.end) e) }

unwrap_cond : (b : Bool) (x : ℕ) (o : Option ℕ) (y : ℕ) → unwrap_or o 0 ≡ y → unwrap_or (cond b (Some x) o) 0 ≡ cond b x y
unwrap_cond true x o y e = refl
unwrap_cond false x o y e = e

-- `rfind` over a range, or 0 where none passes
pub last_found : (P : ℕ → Bool) (n : ℕ) → unwrap_or (find P (countdown n)) 0 ≡ pick n P
last_found P zero = refl
last_found P (suc n) = unwrap_cond (P n) n (find P (countdown n)) (pick n P) (last_found P n)

-- `array::from_fn`, whose calls leave the closure as it was
module _ {F B : Type 0} {g : Mut F (ℕ × Unit {0}) B} {f : F} (R : ℕ → B → Type 0) where
  entries_from : (ys : List B) (d : B) (i n : ℕ) → ((k : ℕ) (y : B) (q : F) → k < i + n → Called g f (k, tt) y q → (q ≡ f) × R k y) → IsFromFnResultFrom g f ys i n → (k : ℕ) → i ≤ k → k < i + n → R k (get_or ys k d)
  entries_from ys d i zero step h k a l = absurd (omega arith)
  entries_from ys d i (suc n) step h k a l =
      let w = step i h.1 h.0 (omega arith) h.3 in
      elim (cases_eq k i) [
        | inl e ↦ subst (λ j. R j (get_or ys j d)) (sym e) (subst (R i) (sym (h.2.1 d)) w.1)
        | inr e ↦ entries_from ys d (i + 1) n (λ k y q l. step k y q (omega arith)) (subst (λ q. IsFromFnResultFrom g q ys (i + 1) n) w.0 h.4) k (omega arith) (omega arith)
      ]

  pub entries_from_fn : (ys : List B) (d : B) (n : ℕ) → IsFromFnResult g f ys n → ((k : ℕ) (y : B) (q : F) → k < n → Called g f (k, tt) y q → (q ≡ f) × R k y) → (k : ℕ) → k < n → R k (get_or ys k d)
  entries_from_fn ys d n h step k l = entries_from ys d 0 n (λ k y q l. step k y q (omega arith)) h.each k (omega arith) (omega arith)

-- `fold`, by what holds of the items so far
pub fold_listed : {S A B F C : Type 0} {steps : S → Option A → S → Type 0} {v : A → B} {g : Mut F (C × (A × Unit {0})) C} {f : F} {s : S} {init r : C} {all : List B} (J : List B → C → Type 0) (xs : List A) (f' : F) → Drains steps s xs → FoldsTo {P = F × C} (λ p x q. Called g p.0 (p.1, (x, tt)) q.1 q.0) (f, init) xs (f', r) → YieldsList steps v s all → J [] init → ((ys : List B) (a : C) (x : A) (b : C) (q : F) → J ys a → Called g f (a, (x, tt)) b q → J (ys ++ (v x ∷ [])) b × (q ≡ f)) → J all r
fold_listed {steps = steps} {v} {g} {f} {s} {init} {r} {all} J xs f' drains folds road start step = fold_over steps v g J f step s all init r road.runs start (xs, f', drains, folds)
