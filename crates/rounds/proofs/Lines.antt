-- The row of a step is a row of values; it is the value of the line's formula.
use Rattle.std.proofs.Common.{◌≡◌, ℕ, ◌+◌, ◌-◌, ◌*◌, ◌<◌, ◌≤◌, true, ◌&&◌, List, ◌++◌, length, get_or, take, drop, sym, refl, ap, ◌∙◌, subst, ap₂, ⊎_elim, arith}
use Rattle.std.proofs.lemmas.Bool.{and_parts, ltb-true, leb-true, cond-true}
use Rattle.std.proofs.lemmas.List.{get_or-take, get_or-drop, get_or_append_left, get_or-append_right}
use Rattle.ctl.specs.Operations.{Ops, Valid, as_read}
use Rattle.ctl.specs.Formulas.{Plan, Formula}
use Rattle.ctl.specs.Values.{Row, Same, Least, Value, after, Rounds, round, ex, ax}
use Rattle.ctl.specs.Computed.{at}
use Rattle.ctl.proofs.Cuts.{Sound, Cutting, joined_valid}
use Rattle.ctl.proofs.Agree.{value_valid, value_once}
use Rattle.ctl.proofs.Alike.{ex_alike, ax_alike, after_alike, least_alike, least_same, rounds_same, round_same, other_rows, value_same}
use Rattle.steps.specs.declared.Side.{Side}
use Rattle.steps.specs.declared.Side.TheVariants.{Bottom, Top, At, Not}
use Rattle.steps.specs.declared.Until.{Until}
use Rattle.steps.specs.declared.Step.{Step}
use Rattle.steps.specs.declared.Step.TheVariants.{Mark, Copied, And, Or, Ex, Ax, Until as Untils, Dual}
use Rattle.steps.specs.Stretch.{row, plan_of, Kept}
use Rattle.steps.specs.Steps.{side_of, round_of, RowOf, CountOf, side_formula, formula_of, SideValued, Valued, StepTakes, side_by, step_by}
use Rattle.steps.proofs.Laid.{Placed}
use Rattle.rounds.specs.Rows.{IsRow, Prepared, RowSettled, KeptFrom}
use Rattle.rounds.specs.Settled.{Settled}
use Rattle.rounds.proofs.Bounds.{row_ends, marks_end}
use Rattle.rounds.proofs.Turns.{ex_same}

-- a side is a row of values
pub side_valid : {V : Type 0} (o : Ops V) → Sound o → (s : List V) (f : Side) (i : ℕ) → Valid o (side_of o s f i)
side_valid o a s Bottom i = a.lowest_valid
side_valid o a s Top i = a.highest_valid
side_valid o a s (At x) i = a.read_valid _
side_valid o a s (Not x) i = a.opposite_valid _

pub side_row : {V : Type 0} (o : Ops V) → Sound o → (n : ℕ) (s xs : List V) (f : Side) → length xs ≡ n → Same n (at o xs) (side_of o s f) → IsRow o n xs
side_row o a n s xs f size e = record { size = size; values = λ i h. subst (Valid o) (sym (e i (omega (arith, h, size)))) (side_valid o a s f i) }

-- AX of a row of the stretch, by EX of a row of its opposites
pub ax_row : {V : Type 0} (o : Ops V) → ((v : V) → o.opposite (as_read o v) ≡ o.opposite v) → (n a : ℕ) (s : List V) (place : ℕ) (xs ys : List V) →
    Same n (at o xs) (side_of o s (Not place)) → Same n (at o ys) (λ i. o.opposite (ex o (plan_of o n a s) (at o xs) i)) → Same n (at o ys) (ax o (plan_of o n a s) (side_of o s (At place)))
ax_row o reads n a s place xs ys e f i h =
    f i h ∙ ap o.opposite (ex_same o (plan_of o n a s) (at o xs) (λ t. o.opposite (side_of o s (At place) t)) (λ k l. e k l ∙ sym (reads (row o s place k))) i)

-- entries of lists in parts
pub tail_kept : {V : Type 0} (d : V) (n : ℕ) (old new rest : List V) → length new ≡ n → rest ≡ drop n old → (i : ℕ) → n ≤ i → get_or (new ++ rest) i d ≡ get_or old i d
tail_kept d n old new rest size is i h =
    get_or-append_right new rest n i d size h ∙ ap (λ l. get_or l (i - n) d) is ∙ get_or-drop n old (i - n) d ∙ ap (λ k. get_or old k d) (let e : n + (i - n) ≡ i = omega (arith, h) in e)

pub parts_kept : {V : Type 0} (d : V) (n m : ℕ) (old front new back : List V) → length front ≡ n → back ≡ drop n old → ((i : ℕ) → m ≤ i → get_or new i d ≡ get_or back i d) →
    (i : ℕ) → n + m ≤ i → get_or (front ++ new) i d ≡ get_or old i d
parts_kept d n m old front new back size is same i h =
    get_or-append_right front new n i d size (omega (arith, h)) ∙ same (i - n) (omega (arith, h)) ∙ ap (λ l. get_or l (i - n) d) is ∙ get_or-drop n old (i - n) d
    ∙ ap (λ k. get_or old k d) (let e : n + (i - n) ≡ i = omega (arith, h) in e)

-- what a step says of its count and of the row that its own is written from
pub count_of : {V : Type 0} (o : Ops V) (n a : ℕ) (s : List V) (step : Step) (k : ℕ) (xs : List V) → Prepared o n a s step k xs → CountOf o (plan_of o n a s) s step k × (k ≤ n)
count_of o n a s (Mark m) k xs p = (p, omega (arith, p))
count_of o n a s (Copied f) k xs p = (p, omega (arith, p))
count_of o n a s (And f g) k xs p = (p, omega (arith, p))
count_of o n a s (Or f g) k xs p = (p, omega (arith, p))
count_of o n a s (Ex place) k xs p = (p.0, omega (arith, p.0))
count_of o n a s (Ax place) k xs p = (p.0, omega (arith, p.0))
count_of o n a s (Untils u) k xs p = (p.count, p.few)
count_of o n a s (Dual u) k xs p = (p.count, p.few)

-- steps over t' and over s that agree before a place
module _ {V : Type 0} (o : Ops V) (n a end : ℕ) (s t' : List V) (agree : (k : ℕ) → k < end → get_or t' k o.lowest ≡ get_or s k o.lowest) (entries : n * n + n * a ≤ end) where
  side_agrees : (f : Side) → side_by n end f ≡ true → (i : ℕ) → i < n → side_of o t' f i ≡ side_of o s f i
  side_agrees Bottom b i h = refl
  side_agrees Top b i h = refl
  side_agrees (At x) b i h = ap (as_read o) (agree (x + i) (omega (arith, leb-true _ _ b)))
  side_agrees (Not x) b i h = ap o.opposite (agree (x + i) (omega (arith, leb-true _ _ b)))

  -- the arrows lie before the place
  arrows : (i t : ℕ) → i < n → t < n → get_or t' (i * n + t) o.lowest ≡ get_or s (i * n + t) o.lowest
  arrows i t h k = let ends = row_ends i n end h (omega (arith, entries)) in agree (i * n + t) (omega arith)

  abbrev plan_s : Plan V
  plan_s = plan_of o n a s

  abbrev plan_t : Plan V
  plan_t = plan_of o n a t'

  after_agrees : (u : Until) → (side_by n end u.before && side_by n end u.end) ≡ true → (k : ℕ) → Same n (after o (round_of o plan_t t' u) k) (after o (round_of o plan_s s u) k)
  after_agrees u b =
      let both = and_parts _ _ b in
      after_alike o n plan_t.arrow plan_s.arrow plan_t.mark plan_s.mark arrows u.paths (side_of o t' u.before) (side_of o t' u.end) (side_of o s u.before) (side_of o s u.end) (side_agrees u.before both.0) (side_agrees u.end both.1)

  least_agrees : (u : Until) → (side_by n end u.before && side_by n end u.end) ≡ true → (x : Row V) → Least o n (round_of o plan_t t' u) x → Least o n (round_of o plan_s s u) x
  least_agrees u b =
      let both = and_parts _ _ b in
      least_alike o n plan_t.arrow plan_s.arrow plan_t.mark plan_s.mark arrows u.paths (side_of o t' u.before) (side_of o t' u.end) (side_of o s u.before) (side_of o s u.end) (side_agrees u.before both.0) (side_agrees u.end both.1)

  row_agrees : (step : Step) → step_by n a end step ≡ true → (x : Row V) → RowOf o plan_t t' step x → RowOf o plan_s s step x
  row_agrees (Mark m) b x r = λ i h. let lt = ltb-true _ _ b in let ends = marks_end i n a h in r i h ∙ ap (as_read o) (agree (n * n + (i * a + m)) (omega (arith, entries, ends, lt)))
  row_agrees (Copied f) b x r = λ i h. r i h ∙ side_agrees f b i h
  row_agrees (And f g) b x r = λ i h. let both = and_parts _ _ b in r i h ∙ ap₂ o.meet (side_agrees f both.0 i h) (side_agrees g both.1 i h)
  row_agrees (Or f g) b x r = λ i h. let both = and_parts _ _ b in r i h ∙ ap₂ o.join (side_agrees f both.0 i h) (side_agrees g both.1 i h)
  row_agrees (Ex place) b x r = λ i h. r i h ∙ ex_alike o n plan_t.arrow plan_s.arrow plan_t.mark plan_s.mark arrows (side_of o t' (At place)) (side_of o s (At place)) (side_agrees (At place) b) i h
  row_agrees (Ax place) b x r = λ i h. r i h ∙ ax_alike o n plan_t.arrow plan_s.arrow plan_t.mark plan_s.mark arrows (side_of o t' (At place)) (side_of o s (At place)) (side_agrees (At place) b) i h
  row_agrees (Untils u) b x r = least_agrees u b x r
  row_agrees (Dual u) b x r = (r.0, least_agrees u b r.0 r.1, r.2)

  count_agrees : (step : Step) → step_by n a end step ≡ true → (k : ℕ) → CountOf o plan_t t' step k → CountOf o plan_s s step k
  count_agrees (Mark m) b k r = r
  count_agrees (Copied f) b k r = r
  count_agrees (And f g) b k r = r
  count_agrees (Or f g) b k r = r
  count_agrees (Ex place) b k r = r
  count_agrees (Ax place) b k r = r
  count_agrees (Untils u) b k r = rounds_same o n k _ _ (after_agrees u b) r
  count_agrees (Dual u) b k r = rounds_same o n k _ _ (after_agrees u b) r

module _ {V : Type 0} (o : Ops V) (c : Cutting o) (n a : ℕ) (s : List V) where
  -- the row of a step is a row of values
  row_valid : (step : Step) (x : Row V) → RowOf o (plan_of o n a s) s step x → (i : ℕ) → i < n → Valid o (x i)
  row_valid (Mark m) x r i h = subst (Valid o) (sym (r i h)) (c.answers.read_valid _)
  row_valid (Copied f) x r i h = subst (Valid o) (sym (r i h)) (side_valid o c.answers s f i)
  row_valid (And f g) x r i h = subst (Valid o) (sym (r i h)) (c.answers.meet_valid _ _)
  row_valid (Or f g) x r i h = subst (Valid o) (sym (r i h)) (c.answers.join_valid _ _)
  row_valid (Ex place) x r i h = subst (Valid o) (sym (r i h)) (joined_valid o c.answers n _)
  row_valid (Ax place) x r i h = subst (Valid o) (sym (r i h)) (c.answers.opposite_valid _)
  row_valid (Untils u) x r i h = subst (Valid o) (sym (r.solves i h)) (c.answers.join_valid _ _)
  row_valid (Dual u) x r i h = subst (Valid o) (sym (r.2 i h)) (c.answers.opposite_valid _)

  -- what holds of a row holds of one that agrees with it
  pub row_same : (step : Step) (x y : Row V) → Same n x y → RowOf o (plan_of o n a s) s step x → RowOf o (plan_of o n a s) s step y
  row_same (Mark m) x y e r = λ i h. sym (e i h) ∙ r i h
  row_same (Copied f) x y e r = λ i h. sym (e i h) ∙ r i h
  row_same (And f g) x y e r = λ i h. sym (e i h) ∙ r i h
  row_same (Or f g) x y e r = λ i h. sym (e i h) ∙ r i h
  row_same (Ex place) x y e r = λ i h. sym (e i h) ∙ r i h
  row_same (Ax place) x y e r = λ i h. sym (e i h) ∙ r i h
  row_same (Untils u) x y e r =
      least_same o n (round_of o (plan_of o n a s) s u) x y e
      (round_same o (plan_of o n a s) u.paths (side_of o s u.before) (side_of o s u.end) x y e) r
  row_same (Dual u) x y e r = (r.0, r.1, λ i h. sym (e i h) ∙ r.2 i h)

  -- where the rows that a step names are the values of formulas
  module _ (of : ℕ → Formula) where
    abbrev p : Plan V
    p = plan_of o n a s

    side_value : (f : Side) → SideValued o p s of f → Value o p (side_formula of f) (side_of o s f)
    side_value Bottom v = λ i h. refl
    side_value Top v = λ i h. refl
    side_value (At x) v =
        value_same o p (of x) (row o s x) (side_of o s (At x))
        (λ i h. sym (cond-true (o.valid (row o s x i)) (row o s x i) o.lowest (value_valid o c p (of x) (row o s x) v i h))) v
    side_value (Not x) v = (row o s x, v, λ i h. refl)

    pub row_value : (step : Step) (x : Row V) → RowOf o p s step x → Valued o p s of step → Value o p (formula_of of step) x
    row_value (Mark m) x r v = r
    row_value (Copied f) x r v = value_same o p (side_formula of f) (side_of o s f) x (λ i h. sym (r i h)) (side_value f v)
    row_value (And f g) x r v = (side_of o s f, side_of o s g, side_value f v.0, side_value g v.1, r)
    row_value (Or f g) x r v = (side_of o s f, side_of o s g, side_value f v.0, side_value g v.1, r)
    row_value (Ex place) x r v = (side_of o s (At place), side_value (At place) v, r)
    row_value (Ax place) x r v = (side_of o s (At place), side_value (At place) v, r)
    row_value (Untils u) x r v = (side_of o s u.before, side_of o s u.end, side_value u.before v.0, side_value u.end v.1, r)
    row_value (Dual u) x r v = (r.0, (side_of o s u.before, side_of o s u.end, side_value u.before v.0, side_value u.end v.1, r.1), r.2)

    until_takes : (u : Until) (k : ℕ) → Rounds o n (round_of o p s u) k → SideValued o p s of u.before → SideValued o p s of u.end →
        (x y : Row V) → Value o p (side_formula of u.before) x → Value o p (side_formula of u.end) y → Rounds o n (round o p u.paths x y) k
    until_takes u k r vf vg x y vx vy =
        rounds_same o n k (round_of o p s u) (round o p u.paths x y)
        (other_rows o p u.paths (side_of o s u.before) (side_of o s u.end) x y
        (value_once o c p (side_formula of u.before) _ x (side_value u.before vf) vx) (value_once o c p (side_formula of u.end) _ y (side_value u.end vg) vy)) r

    pub count_takes : (step : Step) (k : ℕ) → CountOf o p s step k → Valued o p s of step → StepTakes o p of step k
    count_takes (Mark m) k r v = r
    count_takes (Copied f) k r v = r
    count_takes (And f g) k r v = r
    count_takes (Or f g) k r v = r
    count_takes (Ex place) k r v = r
    count_takes (Ax place) k r v = r
    count_takes (Untils u) k r v = until_takes u k r v.0 v.1
    count_takes (Dual u) k r v = until_takes u k r v.0 v.1

  -- a row that is settled behind what it was made of
  pub settled_behind : (to : ℕ) (step : Step) (k : ℕ) (old values new : List V) → length values ≡ to → values ≡ take to old → s ≡ values → RowSettled o n a s step k (at o new) →
      RowSettled o n a (take to old) step k (row o (values ++ new) to)
  settled_behind to step k old values new size is from r =
      let same : Same n (at o new) (row o (values ++ new) to) = λ i h.
      sym (get_or-append_right values new to (to + i) o.lowest size (omega arith) ∙ ap (λ j. get_or new j o.lowest) (let e : to + i - to ≡ i = omega arith in e)) in
      subst (λ l. RowSettled o n a l step k (row o (values ++ new) to)) (from ∙ is)
      (record { row_is = row_same step (at o new) (row o (values ++ new) to) same r.row_is; count_is = r.count_is; few = r.few })

  -- a step is settled in a stretch of two parts, the second of which begins at the work rows
  pub settled : (to work : ℕ) (step : Step) → Placed n a step to work (length s) → (k : ℕ) (above below : List V) → length above ≡ work →
      RowSettled o n a (take to (take work s)) step k (row o above to) → Kept o to n (take work s) above → KeptFrom o (n + n) (drop work s) below → Settled o n a step to work s k (above ++ below)
  settled to work step p k above below size r ab be =
      let agree : (i : ℕ) → i < to → get_or (take to (take work s)) i o.lowest ≡ get_or s i o.lowest = λ i h.
      get_or-take to (take work s) i o.lowest h ∙ get_or-take work s i o.lowest (omega (arith, h, p.to_row)) in
      let front : (i : ℕ) → i < work → get_or (above ++ below) i o.lowest ≡ get_or above i o.lowest = λ i h. get_or_append_left above below o.lowest i (omega (arith, h, size)) in
      let same : Same n (row o above to) (row o (above ++ below) to) = λ i h. sym (front (to + i) (omega (arith, h, p.to_row))) in
      let row_is = row_same step (row o above to) (row o (above ++ below) to) same (row_agrees o n a to s (take to (take work s)) agree p.entries step p.named (row o above to) r.row_is) in
      let count_is = count_agrees o n a to s (take to (take work s)) agree p.entries step p.named k r.count_is in
      record {
        row_is = row_is;
        values = row_valid step (row o (above ++ below) to) row_is;
        count_is = count_is;
        few = r.few;
        value_is = λ of v. row_value of step (row o (above ++ below) to) row_is v;
        takes = λ of v. count_takes of step k count_is v;
        spared = λ i off away.
            ⊎_elim (λ h. front i h ∙ ab i off ∙ get_or-take work s i o.lowest h)
            (λ h. get_or-append_right above below work i o.lowest size (omega (arith, h)) ∙ be (i - work) (omega (arith, h)) ∙ get_or-drop work s (i - work) o.lowest
            ∙ ap (λ j. get_or s j o.lowest) (let e : work + (i - work) ≡ i = omega (arith, h) in e)) away;
      }
