-- What the settling of one line, and of all, comes to.
use Rattle.std.proofs.Common.{◌≡◌, ℕ, zero, suc, ◌<◌, ◌≤◌, true, false, leb, List, [], ◌∷◌, ◌++◌, length, get_or, is_some, Some, None, Option, Ok, Err, Result, sym, refl, ap, ◌∙◌, subst, inl, inr, ⊎_elim, arith}
use Rattle.std.specs.Option.{MatchOption}
use Rattle.std.specs.Result.{IsErrAnd}
use Rattle.std.proofs.lemmas.Bool.{and_from, le-leb, both_ways, cases_eq}
use Rattle.std.proofs.lemmas.List.{length-append, get_or_append_left, get_or_push}
use Rattle.scale.specs.Model.{Model, most_values}
use Rattle.lines.specs.declared.Line.{Line}
use Rattle.lines.specs.declared.Line.TheVariants.{False}
use Rattle.lines.specs.declared.Refusal as lined
use Rattle.lines.specs.declared.Refusal.TheVariants as reading
use Rattle.lines.specs.Word.{word_of, FitsAt, WellFormed}
use Rattle.steps.specs.declared.Step.{Step}
use Rattle.steps.specs.Steps.{laid}
use Rattle.rounds.specs.Settled as rounds
use Rattle.sheet.specs.Layout.{room, answer_row, work_rows}
use Rattle.sheet.specs.Lines.{Says, GreatestCount}
use Rattle.sheet.specs.Refusals.{text_refusal}
use Rattle.sheet.specs.Sheet.{LogicOf, ops, Verdict, refuse, needs, accepts, plan_in}
use Rattle.sheet.specs.Filling.{step_of, Filled}
use Rattle.sheet.specs.Verdicts.{LinesRight}
use Rattle.sheet.specs.declared.state.Refusal.{Refusal}
use Rattle.sheet.specs.declared.state.Refusal.TheVariants.{Line as BadLine}
use Rattle.sheet.proofs.Filling.{step_laid}

pub same_line : (l k : Line) → ◌≡◌ {A = Result Line lined.Refusal} (Ok l) (Ok k) → l ≡ k
same_line l k e = cc

-- a step that was settled is that of the line
pub settled_as : {V : Type 0} (lo : LogicOf V) (n a k : ℕ) (x l : Line) (step : Step) (to work c : ℕ) (s t : List V) →
    step ≡ step_of n a x → to ≡ answer_row n a k → work ≡ work_rows n a → x ≡ l →
    rounds.Settled (ops lo) n a step to work s c t → rounds.Settled (ops lo) n a (step_of n a l) (answer_row n a k) (work_rows n a) s c t
settled_as lo n a k x l step to work c s t es et ew ex st =
    subst (λ y. rounds.Settled (ops lo) n a (step_of n a l) (answer_row n a k) y s c t) ew
    (subst (λ y. rounds.Settled (ops lo) n a (step_of n a l) y work s c t) et
    (subst (λ y. rounds.Settled (ops lo) n a y to work s c t) (es ∙ ap (step_of n a) ex) st))

-- the step of a line that fits can be settled
pub settleable_line : {V : Type 0} (m : Model V) (n a k len : ℕ) (x : Line) (step : Step) (to work : ℕ) →
    step ≡ step_of n a x → to ≡ answer_row n a k → work ≡ work_rows n a → m.size ≤ most_values → k < 64 → room n a ≤ len → FitsAt k a x →
    rounds.settleable m n a step to work len ≡ true
settleable_line m n a k len x step to work es et ew small few roomy fits =
    subst (λ y. rounds.settleable m n a step to y len ≡ true) (sym ew)
    (subst (λ y. rounds.settleable m n a step y (work_rows n a) len ≡ true) (sym et)
    (subst (λ y. rounds.settleable m n a y (answer_row n a k) (work_rows n a) len ≡ true) (sym es)
    (and_from (leb m.size most_values) (laid n a (step_of n a x) (answer_row n a k) (work_rows n a) len) (le-leb m.size most_values small) (step_laid n a k len x few roomy fits))))

-- a count that is there is the one that is taken
pub count_taken : (P : ℕ → Type 0) (Q : Type 0) (o : Option ℕ) (r : ℕ) → is_some o ≡ true → MatchOption o (r ≡ 0) (λ k. r ≡ k) → elim o as (λ _. Type 0) [ Some k ↦ P k | None ↦ Q ] → P r
count_taken P Q (Some k) r there is p = subst P (sym is) p
count_taken P Q None r there is p = absurd (both_ways false refl there)

-- words that each say a line say a list of lines
pub says_all : (a count : ℕ) (ws : List ℕ) → ((k : ℕ) → k < count → WellFormed k a (get_or ws k 0)) → (ls : List Line) × Says a count ws ls
says_all a zero ws f = ([], record { all = refl; words = λ k h. absurd (omega arith); fit = λ k h. absurd (omega arith) })
says_all a (suc count) ws f =
    let r = says_all a count ws (λ k h. f k (omega arith)) in
    let ls = r.0 in
    let says = r.1 in
    let last = f count (omega arith) in
    let size = says.all in
    let len = length-append ls (last.0 ∷ []) in
    let at : (k : ℕ) → k < count → get_or (ls ++ (last.0 ∷ [])) k False ≡ get_or ls k False = λ k h. get_or_append_left ls (last.0 ∷ []) False k (omega arith) in
    let end : get_or (ls ++ (last.0 ∷ [])) count False ≡ last.0 = get_or_push ls last.0 False count size in (
      ls ++ (last.0 ∷ []),
      record {
        all = omega arith;
        words = λ k h.
            ⊎_elim (λ e. subst (λ x. word_of (get_or (ls ++ (last.0 ∷ [])) x False) ≡ get_or ws x 0) (sym e) (ap word_of end ∙ last.1))
            (λ e. ap word_of (at k (omega arith)) ∙ says.words k (omega arith)) (cases_eq k count);
        fit = λ k h.
            ⊎_elim (λ e. subst (λ x. FitsAt x a (get_or (ls ++ (last.0 ∷ [])) x False)) (sym e) (subst (FitsAt count a) (sym end) last.2))
            (λ e. subst (FitsAt k a) (sym (at k (omega arith))) (says.fit k (omega arith))) (cases_eq k count);
      },
    )

pub said_each : (a count : ℕ) (ws : List ℕ) (ls : List Line) → Says a count ws ls → (k : ℕ) → k < count → WellFormed k a (get_or ws k 0)
said_each a count ws ls says k h = (get_or ls k False, says.words k h, says.fit k (let e = says.all in omega arith))

pub lines_judged : (a count : ℕ) (ws : List ℕ) (v : Verdict) → needs ((k : ℕ) → k < count → WellFormed k a (get_or ws k 0)) BadLine (λ _. accepts []) v →
    needs ((ls : List Line) × Says a count ws ls) BadLine (λ _. accepts []) v
lines_judged a count ws v (inl p) = inl ((λ q. p.0 (said_each a count ws q.0 q.1)), p.1)
lines_judged a count ws v (inr p) = inr (says_all a count ws p.0, p.1)

-- the greatest count of all lines
pub all_counted : {V : Type 0} (lo : LogicOf V) (n a : ℕ) (ls : List Line) (s : List V) (k r : ℕ) (t : List V) → k ≡ length ls → Filled lo n a ls s k r t → GreatestCount (ops lo) (plan_in lo.model n a s) ls r
all_counted lo n a ls s k r t e f = record {
  bounds = λ i c h u. f.bounds i c (omega arith) u;
  reached = ⊎_elim inl (λ w. inr (w.0, let q = w.1 in omega arith, w.2)) f.reached;
}

-- one that was not is no line's, so the words do not all say lines
pub wrong_word : (a count : ℕ) (ws : List ℕ) (b : Result Unit Refusal) (y : lined.Refusal) (k : ℕ) → IsErrAnd b (λ e. e ≡ text_refusal y) → y ≡ reading.Line → k < count →
    (WellFormed k a (get_or ws k 0) → ⊥) → LinesRight a count ws b
wrong_word a count ws (Ok _) y k is at h wrong = absurd is
wrong_word a count ws (Err e) y k is at h wrong = inl ((λ all. wrong (all k h)), ap refuse (is ∙ ap text_refusal at))
