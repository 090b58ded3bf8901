-- A turn of the loop that settles an until.
use Rattle.std.proofs.Common.{◌≡◌, ℕ, suc, ◌+◌, ◌<◌, ◌≤◌, List, length, sym, ap, ◌∙◌, subst, ap₂, add-one, arith, below_more}
use Rattle.std.proofs.lemmas.List.{ext_get_or}
use Rattle.ctl.specs.declared.Paths.{Paths}
use Rattle.ctl.specs.declared.Paths.TheVariants.{One, All}
use Rattle.ctl.specs.Operations.{Ops, Valid}
use Rattle.ctl.specs.Formulas.{Plan}
use Rattle.ctl.specs.Values.{Row, Same, ex, next, after}
use Rattle.ctl.specs.Computed.{at}
use Rattle.ctl.proofs.Cuts.{Sound, Cutting}
use Rattle.ctl.proofs.Stand.{Steady, steady, step_same, after_valid, early, rests_least}
use Rattle.ctl.proofs.Alike.{joined_same, least_same}
use Rattle.steps.specs.declared.Until.{Until}
use Rattle.steps.specs.Stretch.{plan_of}
use Rattle.steps.specs.Steps.{side_of, round_of}
use Rattle.rounds.specs.Rows.{IsRow, Turned, Rested}

pub ex_same : {V : Type 0} (o : Ops V) (p : Plan V) (x y : Row V) → Same p.stages x y → (i : ℕ) → ex o p x i ≡ ex o p y i
ex_same o p x y e i = joined_same o p.stages _ _ (λ k h. ap (o.meet (p.arrow i k)) (e k h))

-- the opposites of a row are written
pub turned_all : {V : Type 0} (o : Ops V) → Sound o → (n : ℕ) (w : Paths) (xs ys : List V) → w ≡ All → length ys ≡ n → Same n (at o ys) (λ i. o.opposite (at o xs i)) → Turned o n w xs ys
turned_all o a n One xs ys is size e = tt
turned_all o a n All xs ys is size e = (record { size = size; values = λ i h. subst (Valid o) (sym (e i (omega (arith, h, size)))) (a.opposite_valid _) }, e)

-- AX of a row, by EX of its opposites
pub next_all : {V : Type 0} (o : Ops V) (n a : ℕ) (s : List V) (w : Paths) (xs turned : List V) (i : ℕ) → w ≡ All → Turned o n w xs turned → (fails some all r : V) →
    fails ≡ ex o (plan_of o n a s) (at o turned) i → some ≡ ex o (plan_of o n a s) (at o xs) i → all ≡ o.opposite fails → r ≡ o.meet all some → r ≡ next o (plan_of o n a s) w (at o xs) i
next_all o n a s One xs turned i is t fails some all r f e g h = let z : ◌≡◌ {A = ℕ} 0 1 = cc in absurd (omega arith)
next_all o n a s All xs turned i is t fails some all r f e g h =
    h ∙ ap₂ o.meet (g ∙ ap o.opposite (f ∙ ex_same o (plan_of o n a s) _ _ t.1 i)) e

-- `count` rounds of an until over s, each of which changed something, led to a row
pub record SoFar {V : Type 0} (o : Ops V) (n a : ℕ) (s : List V) (u : Until) (count : ℕ) (xs : List V) : Type 0 where
  pub reached : Same n (at o xs) (after o (round_of o (plan_of o n a s) s u) count)
  pub changing : (i : ℕ) → i < count → Same n (after o (round_of o (plan_of o n a s) s u) (suc i)) (after o (round_of o (plan_of o n a s) s u) i) → ⊥
  pub few : count ≤ n

module _ {V : Type 0} (o : Ops V) (c : Cutting o) (n a : ℕ) (s : List V) (u : Until) where
  abbrev R : Row V → Row V
  R = round_of o (plan_of o n a s) s u

  firm : Steady o n R
  firm = steady o c (plan_of o n a s) u.paths (side_of o s u.before) (side_of o s u.end)

  -- what is reached are values
  pub reached_row : (k : ℕ) (xs : List V) → length xs ≡ n → Same n (at o xs) (after o R k) → IsRow o n xs
  reached_row k xs size e = record { size = size; values = λ i h. subst (Valid o) (sym (e i (omega (arith, h, size)))) (after_valid o c n R firm k i) }

  pub so_far_none : (xs : List V) → Same n (at o xs) (λ i. o.lowest) → SoFar o n a s u 0 xs
  so_far_none xs e = record { reached = e; changing = λ i h. absurd (omega arith); few = omega arith }

  -- one round more
  module _ (count : ℕ) (xs ys : List V) (so : SoFar o n a s u count xs) (round : Same n (at o ys) (R (at o xs))) where
    pub next_reached : Same n (at o ys) (after o R (suc count))
    next_reached i h = round i h ∙ step_same o c n R firm (at o xs) (after o R count) so.reached i h

    module _ (nx : length xs ≡ n) (ny : length ys ≡ n) (differ : xs ≡ ys → ⊥) where
      moves : Same n (after o R (suc count)) (after o R count) → ⊥
      moves e = differ (ext_get_or o.lowest xs ys (nx ∙ sym ny) (λ i h. let k : i < n = omega (arith, h, nx) in so.reached i k ∙ sym (next_reached i k ∙ e i k)))

      -- so it is among the first n
      pub soon : count < n
      soon = early o c n R firm count moves

      pub so_far_more : SoFar o n a s u (count + 1) ys
      so_far_more = record {
        reached = λ i h. next_reached i h ∙ sym (ap (λ k. after o R k i) (add-one count));
        changing = below_more _ count so.changing moves;
        few = omega (arith, soon);
      }

    -- a round that changes nothing
    pub rested : xs ≡ ys → Rested o n a s u count xs
    rested e =
        let still : Same n (after o R (suc count)) (after o R count) = λ i h. sym (next_reached i h) ∙ sym (ap (λ l. at o l i) e) ∙ so.reached i h in
        let back : Same n (after o R count) (at o xs) = λ i h. sym (so.reached i h) in
        record {
          least = least_same o n R (after o R count) (at o xs) back (step_same o c n R firm _ _ back) (rests_least o c n R firm count still);
          count = record { changing = so.changing; still = still };
          few = so.few;
        }
