-- One answer row more.
use Rattle.std.proofs.Common.{◌≡◌, ℕ, zero, suc, ◌+◌, ◌-◌, ◌*◌, ◌/◌, ◌<◌, ◌≤◌, max, true, ◌&&◌, leb, List, [], ◌∷◌, ◌++◌, length, get_or, sym, refl, ap, ◌∙◌, subst, inl, inr, ⊎_elim, mul_comm, arith}
use Rattle.std.proofs.lemmas.Bool.{cases_lt, cases_eq, and_from, le-leb, lt-ltb}
use Rattle.std.proofs.lemmas.List.{length-append, get_or_append_left, get_or_push}
use Rattle.std.proofs.lemmas.Nat.{div-mul-add}
use Rattle.lines.specs.declared.Line.{Line}
use Rattle.lines.specs.declared.Line.TheVariants.{False, True, Mark, One, Two}
use Rattle.lines.specs.declared.Unary.{Unary}
use Rattle.lines.specs.declared.Unary.TheVariants.{Not, Ex, Ax, Ef, Af, Eg, Ag}
use Rattle.lines.specs.declared.Binary.{Binary}
use Rattle.lines.specs.declared.Binary.TheVariants.{And, Or, Implies, Eu, Au, Er, Ar}
use Rattle.lines.specs.Word.{FitsAt}
use Rattle.ctl.specs.Operations.{Ops, Valid}
use Rattle.ctl.specs.Formulas.{Plan, Formula, F, T, mark, not, EX, AX, and, or, until as untils}
use Rattle.ctl.specs.Values.{Value, Takes}
use Rattle.ctl.specs.Theorems.{Meaning}
use Rattle.ctl.proofs.Alike.{value_same}
use Rattle.steps.specs.Stretch.{row}
use Rattle.steps.specs.Steps.{formula_of, Valued, StepTakes, step_by, ends_by, laid}
use Rattle.rounds.specs.Settled as rounds
use Rattle.sheet.specs.Layout.{room, answer_row, work_rows}
use Rattle.sheet.specs.Lines.{line_formula, one_formula, two_formula, formulas, formula, one_until, two_until, line_until, until_in, Fitting}
use Rattle.sheet.specs.Sheet.{LogicOf, ops, plan_in, answers_in}
use Rattle.sheet.specs.Filling.{one_step, two_step, step_of, Filled}
use Rattle.sheet.proofs.Alike.{Agreeing, turned, with_entries, value_alike, takes_alike}
use Rattle.sheet.proofs.Formulas.{formula_bounded, until_bounded}
use Rattle.sheet.proofs.Places.{arrow_within, mark_within, entries_first, rows_order, row_after, work_room, entry_elsewhere}

-- ---- a line's step has the line's formula, and counts the line's until

one_says : (of : ℕ → Formula) (o : Unary) (p : ℕ) → formula_of of (one_step o p) ≡ one_formula o (of p)
one_says of Not p = refl
one_says of Ex p = refl
one_says of Ax p = refl
one_says of Ef p = refl
one_says of Af p = refl
one_says of Eg p = refl
one_says of Ag p = refl

two_says : (of : ℕ → Formula) (o : Binary) (p q : ℕ) → formula_of of (two_step o p q) ≡ two_formula o (of p) (of q)
two_says of And p q = refl
two_says of Or p q = refl
two_says of Implies p q = refl
two_says of Eu p q = refl
two_says of Au p q = refl
two_says of Er p q = refl
two_says of Ar p q = refl

step_says : (n a : ℕ) (of : ℕ → Formula) (l : Line) → formula_of of (step_of n a l) ≡ line_formula (λ i. of (answer_row n a i)) l
step_says n a of False = refl
step_says n a of True = refl
step_says n a of (Mark m) = refl
step_says n a of (One o l) = one_says of o (answer_row n a l)
step_says n a of (Two o l r) = two_says of o (answer_row n a l) (answer_row n a r)

module _ {V : Type 0} (o : Ops V) (p : Plan V) where
  one_counts : (of : ℕ → Formula) (u : Unary) (q c : ℕ) → StepTakes o p of (one_step u q) c → Takes o p (one_until u (of q)) c
  one_counts of Not q c t = t
  one_counts of Ex q c t = t
  one_counts of Ax q c t = t
  one_counts of Ef q c t = t
  one_counts of Af q c t = t
  one_counts of Eg q c t = t
  one_counts of Ag q c t = t

  two_counts : (of : ℕ → Formula) (u : Binary) (q r c : ℕ) → StepTakes o p of (two_step u q r) c → Takes o p (two_until u (of q) (of r)) c
  two_counts of And q r c t = t
  two_counts of Or q r c t = t
  two_counts of Implies q r c t = t
  two_counts of Eu q r c t = t
  two_counts of Au q r c t = t
  two_counts of Er q r c t = t
  two_counts of Ar q r c t = t

  step_counts : (n a : ℕ) (of : ℕ → Formula) (l : Line) (c : ℕ) → StepTakes o p of (step_of n a l) c → Takes o p (line_until (λ i. of (answer_row n a i)) l) c
  step_counts n a of False c t = t
  step_counts n a of True c t = t
  step_counts n a of (Mark m) c t = t
  step_counts n a of (One u l) c t = one_counts of u (answer_row n a l) c t
  step_counts n a of (Two u l r) c t = two_counts of u (answer_row n a l) (answer_row n a r) c t

  -- the rows that it names are those of earlier lines
  one_valued : (t : List V) (of : ℕ → Formula) (u : Unary) (q : ℕ) → Value o p (of q) (row o t q) → Valued o p t of (one_step u q)
  one_valued t of Not q v = v
  one_valued t of Ex q v = v
  one_valued t of Ax q v = v
  one_valued t of Ef q v = (tt, v)
  one_valued t of Af q v = (tt, v)
  one_valued t of Eg q v = (tt, v)
  one_valued t of Ag q v = (tt, v)

  two_valued : (t : List V) (of : ℕ → Formula) (u : Binary) (q r : ℕ) → Value o p (of q) (row o t q) → Value o p (of r) (row o t r) → Valued o p t of (two_step u q r)
  two_valued t of And q r v w = (v, w)
  two_valued t of Or q r v w = (v, w)
  two_valued t of Implies q r v w = (v, w)
  two_valued t of Eu q r v w = (v, w)
  two_valued t of Au q r v w = (v, w)
  two_valued t of Er q r v w = (v, w)
  two_valued t of Ar q r v w = (v, w)

  step_valued : (n a k b : ℕ) (t : List V) (of : ℕ → Formula) (l : Line) → FitsAt k b l → ((i : ℕ) → i < k → Value o p (of (answer_row n a i)) (row o t (answer_row n a i))) → Valued o p t of (step_of n a l)
  step_valued n a k b t of False f v = tt
  step_valued n a k b t of True f v = tt
  step_valued n a k b t of (Mark m) f v = tt
  step_valued n a k b t of (One u l) f v = one_valued t of u (answer_row n a l) (v l f)
  step_valued n a k b t of (Two u l r) f v = two_valued t of u (answer_row n a l) (answer_row n a r) (v l f.0) (v r f.1)

-- ---- it lies in order

one_laid : (n a e : ℕ) (u : Unary) (p : ℕ) → ends_by n e p ≡ true → step_by n a e (one_step u p) ≡ true
one_laid n a e Not p h = h
one_laid n a e Ex p h = h
one_laid n a e Ax p h = h
one_laid n a e Ef p h = h
one_laid n a e Af p h = h
one_laid n a e Eg p h = h
one_laid n a e Ag p h = h

two_laid : (n a e : ℕ) (u : Binary) (p q : ℕ) → ends_by n e p ≡ true → ends_by n e q ≡ true → step_by n a e (two_step u p q) ≡ true
two_laid n a e And p q h k = and_from (ends_by n e p) (ends_by n e q) h k
two_laid n a e Or p q h k = and_from (ends_by n e p) (ends_by n e q) h k
two_laid n a e Implies p q h k = and_from (ends_by n e p) (ends_by n e q) h k
two_laid n a e Eu p q h k = and_from (ends_by n e p) (ends_by n e q) h k
two_laid n a e Au p q h k = and_from (ends_by n e p) (ends_by n e q) h k
two_laid n a e Er p q h k = and_from (ends_by n e p) (ends_by n e q) h k
two_laid n a e Ar p q h k = and_from (ends_by n e p) (ends_by n e q) h k

row_ends : (n a i k : ℕ) → i < k → ends_by n (answer_row n a k) (answer_row n a i) ≡ true
row_ends n a i k h = le-leb (answer_row n a i + n) (answer_row n a k) (omega (arith, row_after n a i, rows_order n a (i + 1) k (omega arith)))

line_laid : (n a k : ℕ) (l : Line) → FitsAt k a l → step_by n a (answer_row n a k) (step_of n a l) ≡ true
line_laid n a k False f = refl
line_laid n a k True f = refl
line_laid n a k (Mark m) f = lt-ltb m a f
line_laid n a k (One u l) f = one_laid n a (answer_row n a k) u (answer_row n a l) (row_ends n a l k f)
line_laid n a k (Two u l r) f = two_laid n a (answer_row n a k) u (answer_row n a l) (answer_row n a r) (row_ends n a l k f.0) (row_ends n a r k f.1)

pub step_laid : (n a k len : ℕ) (l : Line) → k < 64 → room n a ≤ len → FitsAt k a l → laid n a (step_of n a l) (answer_row n a k) (work_rows n a) len ≡ true
step_laid n a k len l h roomy f =
    let e : answer_row n a 0 ≡ n * (n + a) = ap (λ x. n * x) (let z : n + a + 0 ≡ n + a = omega arith in z) in
    and_from (leb (n * (n + a)) (answer_row n a k) && step_by n a (answer_row n a k) (step_of n a l)) (ends_by n (work_rows n a) (answer_row n a k) && leb (work_rows n a + (n + n)) len)
    (and_from (leb (n * (n + a)) (answer_row n a k)) (step_by n a (answer_row n a k) (step_of n a l)) (le-leb (n * (n + a)) (answer_row n a k) (omega (arith, e, rows_order n a 0 k (omega arith)))) (line_laid n a k l f))
    (and_from (ends_by n (work_rows n a) (answer_row n a k)) (leb (work_rows n a + (n + n)) len) (row_ends n a k 64 h) (le-leb (work_rows n a + (n + n)) len (omega (arith, work_room n a))))

-- ---- a line's formula, by those of earlier lines

line_alike : (i a : ℕ) (f g : ℕ → Formula) → ((j : ℕ) → j < i → f j ≡ g j) → (l : Line) → FitsAt i a l → line_formula f l ≡ line_formula g l
line_alike i a f g e False h = refl
line_alike i a f g e True h = refl
line_alike i a f g e (Mark m) h = refl
line_alike i a f g e (One o l) h = ap (one_formula o) (e l h)
line_alike i a f g e (Two o l r) h = ap (λ x. two_formula o x (f r)) (e l h.0) ∙ ap (two_formula o (g l)) (e r h.1)

until_alike : (f g : ℕ → Formula) → ((j : ℕ) → f j ≡ g j) → (l : Line) → line_until f l ≡ line_until g l
until_alike f g e False = refl
until_alike f g e True = refl
until_alike f g e (Mark m) = refl
until_alike f g e (One o l) = ap (one_until o) (e l)
until_alike f g e (Two o l r) = ap (λ x. two_until o x (f r)) (e l) ∙ ap (two_until o (g l)) (e r)

formulas_keep : (fs : List Formula) (ls : List Line) (i : ℕ) → i < length fs → get_or (formulas fs ls) i F ≡ get_or fs i F
formulas_keep fs [] i h = refl
formulas_keep fs (l ∷ ls) i h =
    let g = line_formula (λ j. get_or fs j F) l in
    let len = length-append fs (g ∷ []) in
    formulas_keep (fs ++ (g ∷ [])) ls i (omega arith) ∙ get_or_append_left fs (g ∷ []) F i h

formula_from : (a : ℕ) (fs : List Formula) (ls : List Line) (k : ℕ) → k < length ls → FitsAt (length fs + k) a (get_or ls k False) →
    get_or (formulas fs ls) (length fs + k) F ≡ line_formula (λ i. get_or (formulas fs ls) i F) (get_or ls k False)
formula_from a fs [] k h f = absurd (omega arith)
formula_from a fs (l ∷ ls) zero h f =
    let g = line_formula (λ j. get_or fs j F) l in
    let gs = fs ++ (g ∷ []) in
    let len = length-append fs (g ∷ []) in
    let z : length fs + 0 ≡ length fs = omega arith in
    ap (λ i. get_or (formulas gs ls) i F) z
    ∙ formulas_keep gs ls (length fs) (omega arith)
    ∙ get_or_push fs g F (length fs) refl
    ∙ line_alike (length fs + 0) a (λ j. get_or fs j F) (λ i. get_or (formulas gs ls) i F)
    (λ j p. sym (formulas_keep gs ls j (omega arith) ∙ get_or_append_left fs (g ∷ []) F j (omega arith))) l f
formula_from a fs (l ∷ ls) (suc k) h f =
    let g = line_formula (λ j. get_or fs j F) l in
    let gs = fs ++ (g ∷ []) in
    let len = length-append fs (g ∷ []) in
    let at : length gs + k ≡ length fs + suc k = omega arith in
    subst (λ i. get_or (formulas gs ls) i F ≡ line_formula (λ j. get_or (formulas gs ls) j F) (get_or ls k False)) at
    (formula_from a gs ls k (omega arith) (subst (λ i. FitsAt i a (get_or ls k False)) (sym at) f))

pub formula_at : (a : ℕ) (ls : List Line) (k : ℕ) → Fitting a ls → k < length ls → formula ls k ≡ line_formula (formula ls) (get_or ls k False)
formula_at a ls k fit h =
    let z : 0 + k ≡ k = omega arith in
    subst (λ i. get_or (formulas [] ls) i F ≡ line_formula (λ j. get_or (formulas [] ls) j F) (get_or ls k False)) z
    (formula_from a [] ls k h (subst (λ i. FitsAt i a (get_or ls k False)) (sym z) (fit k h)))

-- the formula of the line whose answer row begins at a place
of_place : ℕ → ℕ → List Line → ℕ → Formula
of_place n a ls p = formula ls (p / n - (n + a))

of_row : (n a : ℕ) (ls : List Line) (i : ℕ) → 1 ≤ n → of_place n a ls (answer_row n a i) ≡ formula ls i
unfolding of_place
of_row n a ls i h =
    let turn : n * (n + a + i) ≡ (n + a + i) * n + 0 = (let e = mul_comm n (n + a + i) in omega arith) in
    let d : n * (n + a + i) / n ≡ n + a + i = ap (λ x. x / n) turn ∙ div-mul-add (n + a + i) n 0 h in
    let e : n + a + i - (n + a) ≡ i = omega arith in
    ap (λ x. formula ls (x - (n + a))) d ∙ ap (formula ls) e

-- ---- counts

takes_once : {V : Type 0} (o : Ops V) (p : Plan V) → Meaning o → (φ : Formula) (c d : ℕ) → Takes o p φ c → Takes o p φ d → c ≡ d
takes_once o p m F c d t u = t ∙ sym u
takes_once o p m T c d t u = t ∙ sym u
takes_once o p m (mark k) c d t u = t ∙ sym u
takes_once o p m (not φ) c d t u = t ∙ sym u
takes_once o p m (EX φ) c d t u = t ∙ sym u
takes_once o p m (AX φ) c d t u = t ∙ sym u
takes_once o p m (and φ ψ) c d t u = t ∙ sym u
takes_once o p m (or φ ψ) c d t u = t ∙ sym u
takes_once o p m (untils w φ ψ) c d t u =
    let x = m.exists p φ in
    let y = m.exists p ψ in
    (m.settle p w x.0 y.0).count c d (t x.0 y.0 x.1 y.1) (u x.0 y.0 x.1 y.1)

-- where there are no stages nothing changes
takes_none : {V : Type 0} (o : Ops V) (n : ℕ) (f h : ℕ → ℕ → V) (φ : Formula) (c : ℕ) → n ≡ 0 → c ≡ 0 → Takes o (with_entries n f h) φ c
takes_none o n f h F c z e = e
takes_none o n f h T c z e = e
takes_none o n f h (mark m) c z e = e
takes_none o n f h (not φ) c z e = e
takes_none o n f h (EX φ) c z e = e
takes_none o n f h (AX φ) c z e = e
takes_none o n f h (and φ ψ) c z e = e
takes_none o n f h (or φ ψ) c z e = e
takes_none o n f h (untils w φ ψ) c z e = λ x y p q. record { changing = λ i l. absurd (omega arith); still = λ s l. absurd (omega arith) }

-- ---- one row more

module _ {V : Type 0} (lo : LogicOf V) (m : Meaning (ops lo)) (n a : ℕ) (ls : List Line) (fit : Fitting a ls) (few : length ls ≤ 64)
    (s t t' : List V) (k r c : ℕ) (h : k < length ls) (was : Filled lo n a ls s k r t)
    (st : rounds.Settled (ops lo) n a (step_of n a (get_or ls k False)) (answer_row n a k) (work_rows n a) t c t') where
  low : V
  low = lo.model.lowest

  -- the entries stand in t as in s
  standing : Agreeing n a (plan_in lo.model n a t).arrow (plan_in lo.model n a s).arrow (plan_in lo.model n a t).mark (plan_in lo.model n a s).mark
  standing = record {
    arrows = λ i j hi hj. was.kept _ (entry_elsewhere n a k _ (omega (arith, arrow_within n i j hi hj, entries_first n a)));
    marks = λ i j hi hj. was.kept _ (entry_elsewhere n a k _ (mark_within n a i j hi hj));
  }

  -- the rows before are as they were
  before : (i j : ℕ) → i < k → j < n → get_or t (answer_row n a i + j) lo.model.lowest ≡ get_or t' (answer_row n a i + j) lo.model.lowest
  before i j p q =
      sym (st.spared (answer_row n a i + j)
      (inl (omega (arith, row_after n a i, rows_order n a (i + 1) k (omega arith))))
      (inl (omega (arith, row_after n a i, rows_order n a (i + 1) 64 (omega arith)))))

  -- earlier rows are the values of their lines in t
  valued : 1 ≤ n → Valued (ops lo) (plan_in lo.model n a t) t (of_place n a ls) (step_of n a (get_or ls k False))
  valued pos =
      step_valued (ops lo) (plan_in lo.model n a t) n a k a t (of_place n a ls) (get_or ls k False) (fit k h)
      (λ i p.
      subst (λ φ. Value (ops lo) (plan_in lo.model n a t) φ (row (ops lo) t (answer_row n a i))) (sym (of_row n a ls i pos))
      (value_alike (ops lo) n a _ _ _ _ (turned standing) (formula ls i) (formula_bounded a ls fit i) (row (ops lo) t (answer_row n a i)) (was.values i p)))

  line_is : 1 ≤ n → formula_of (of_place n a ls) (step_of n a (get_or ls k False)) ≡ formula ls k
  line_is pos =
      step_says n a (of_place n a ls) (get_or ls k False)
      ∙ line_alike k a (λ i. of_place n a ls (answer_row n a i)) (formula ls) (λ j p. of_row n a ls j pos) (get_or ls k False) (fit k h)
      ∙ sym (formula_at a ls k fit h)

  here : Value (ops lo) (plan_in lo.model n a s) (formula ls k) (answers_in lo.model n a t' k)
  here =
      ⊎_elim
      (λ z.
      let e = m.exists (plan_in lo.model n a s) (formula ls k) in
      value_same (ops lo) (plan_in lo.model n a s) (formula ls k) e.0 (answers_in lo.model n a t' k) (λ i l. absurd (omega arith)) e.1)
      (λ z.
      let pos : 1 ≤ n = positive z in
      value_alike (ops lo) n a _ _ _ _ standing (formula ls k) (formula_bounded a ls fit k) (answers_in lo.model n a t' k)
      (subst (λ φ. Value (ops lo) (plan_in lo.model n a t) φ (answers_in lo.model n a t' k)) (line_is pos) (st.value_is (of_place n a ls) (valued pos))))
      (cases_eq n 0)
    where
      positive : (n ≡ 0 → ⊥) → 1 ≤ n
      positive f = ⊎_elim (λ l. absurd (f (omega arith))) (λ l. l) (cases_lt n 1)

  counted : Takes (ops lo) (plan_in lo.model n a s) (until_in ls k) c
  counted =
      ⊎_elim
      (λ z. takes_none (ops lo) n _ _ (until_in ls k) c z (let f = st.few in omega arith))
      (λ z.
      let pos : 1 ≤ n = ⊎_elim (λ l. absurd (z (omega arith))) (λ l. l) (cases_lt n 1) in
      takes_alike (ops lo) n a _ _ _ _ standing (until_in ls k) (until_bounded a ls fit k h) c
      (subst (λ φ. Takes (ops lo) (plan_in lo.model n a t) φ c) (until_alike (λ i. of_place n a ls (answer_row n a i)) (formula ls) (λ j. of_row n a ls j pos) (get_or ls k False))
      (step_counts (ops lo) (plan_in lo.model n a t) n a (of_place n a ls) (get_or ls k False) c (st.takes (of_place n a ls) (valued pos)))))
      (cases_eq n 0)

  pub more_filled : Filled lo n a ls s (k + 1) (max r c) t'
  more_filled = record {
    values = λ i p.
        ⊎_elim
        (λ e. subst (λ x. Value (ops lo) (plan_in lo.model n a s) (formula ls x) (answers_in lo.model n a t' x)) (sym e) here)
        (λ e. value_same (ops lo) (plan_in lo.model n a s) (formula ls i) (answers_in lo.model n a t i) (answers_in lo.model n a t' i) (λ j q. before i j (omega arith) q) (was.values i (omega arith)))
        (cases_eq i k);
    valid = λ i j p q.
        ⊎_elim
        (λ e. subst (λ x. Valid (ops lo) (answers_in lo.model n a t' x j)) (sym e) (st.values j q))
        (λ e. subst (Valid (ops lo)) (before i j (omega arith) q) (was.valid i j (omega arith) q))
        (cases_eq i k);
    bounds = λ i d p u.
        ⊎_elim
        (λ e.
        let same = takes_once (ops lo) (plan_in lo.model n a s) m (until_in ls k) d c (subst (λ x. Takes (ops lo) (plan_in lo.model n a s) (until_in ls x) d) e u) counted in
        omega arith)
        (λ e. let le = was.bounds i d (omega arith) u in omega arith)
        (cases_eq i k);
    reached =
        ⊎_elim
        (λ l. let is : max r c ≡ c = omega arith in inr (k, omega arith, subst (Takes (ops lo) (plan_in lo.model n a s) (until_in ls k)) (sym is) counted))
        (λ l.
        let is : max r c ≡ r = omega arith in
        ⊎_elim (λ z. inl (is ∙ z))
        (λ w. inr (w.0, let q = w.1 in omega arith, subst (Takes (ops lo) (plan_in lo.model n a s) (until_in ls w.0)) (sym is) w.2))
        was.reached)
        (cases_lt r c);
    kept = λ p e.
        st.spared p
        (⊎_elim (λ l. inl (omega (arith, rows_order n a 0 k (omega arith)))) (λ l. inr (omega (arith, row_after n a k))) e.answers)
        (⊎_elim inl (λ l. inr (omega (arith, work_room n a))) e.work)
        ∙ was.kept p (record {
          answers = ⊎_elim inl (λ l. inr (omega (arith, row_after n a k))) e.answers;
          work = e.work;
        });
  }
