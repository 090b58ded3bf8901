-- A plan from its first word on.
use Rattle.std.proofs.Common.{◌≡◌, Some, ℕ, suc, ◌<◌, ◌≤◌, Bool, true, false, List, [], ◌∷◌, ◌++◌, length, get_or, take, drop, Ok, Err, Option, Result, sym, refl, ap, ◌∙◌, subst, arith, drop-cons}
use lib.Seq.{split_at}
use Rattle.std.specs.List.{between}
use Rattle.std.proofs.lemmas.List.{length-take-le, get_or-take}
use Rattle.std.proofs.lemmas.Slice.{between_to_end, between_is}
use Rattle.scale.specs.declared.Refusal.{Refusal}
use Rattle.scale.specs.Refusals.{refusal_number}
use Rattle.chains.specs.Ranges.{within}
use Rattle.orders.specs.Orders.{listed}
use Rattle.orders.specs.Words.{rows_of, opposites_of, verdict}
use Rattle.table.specs.Tables.{table_model, table_partner}
use Rattle.words.specs.declared.kind.Kind.{Kind}
use Rattle.words.specs.declared.kind.Kind.TheVariants.{Table, Chain, Sets}
use Rattle.words.specs.Kinds.{kind_of}
use Rattle.sheet.specs.Sheet.{LogicOf}
use Rattle.sheet.specs.Logics.{logic_of}
use Rattle.report.specs.declared.Output.{Output}
use Rattle.report.specs.declared.Stop.{Stop}
use Rattle.plan.specs.Calls.{word_at, SheetPlan}
use Rattle.plan.specs.Plans.{PlanOver, chain_logic, sets_logic, table_logic, logic_at, TableWords, Plan, no_word, other_word, over_chain, no_chain, over_sets, no_sets, over_table, no_table, unended_table}

-- a maker takes v, or refuses it as 10
abbrev Taken : {S : Type 0} → (S → ℕ) → Bool → ℕ → Result S Refusal → Type 0
Taken number fits v (Ok s) = (fits ≡ true) × (number s ≡ v)
Taken number fits v (Err e) = (fits ≡ false) × (refusal_number e ≡ 10)

module _ (more : Bool) (words : List ℕ) (os : List Output) (stop : Option Stop) where
  -- what is printed and where it stops, by equations
  told_by : (ws : List ℕ) (ps : List Output) (st : Option Stop) → words ≡ ws → os ≡ ps → stop ≡ st → Plan more ws ps st → Plan more words os stop
  told_by ws ps st e p at h =
      subst (λ x. Plan more x os stop) (sym e) (subst (λ x. Plan more ws x stop) (sym p) (subst (λ x. Plan more ws ps x) (sym at) h))

  pub plan_none : words ≡ [] → os ≡ [] → stop ≡ word_at 0 → Plan more words os stop
  plan_none e none at = told_by [] [] (word_at 0) e none at no_word

  module _ (x : ℕ) (rest : List ℕ) (k : Option Kind) (e : words ≡ x ∷ rest) (is : k ≡ kind_of x) where
    pub plan_other : ((n : ℕ) → k ≡ Some (Chain n) → ⊥) → ((n : ℕ) → k ≡ Some (Sets n) → ⊥) → (k ≡ Some Table → ⊥) → os ≡ [] → stop ≡ word_at 0 → Plan more words os stop
    plan_other chain sets table none at =
        told_by (x ∷ rest) [] (word_at 0) e none at
        (other_word (record { no_chain = λ n h. chain n (is ∙ h); no_sets = λ n h. sets n (is ∙ h); no_table = λ h. table (is ∙ h) }))

    pub plan_chain : (n c : ℕ) → k ≡ Some (Chain n) → within 2 64 n ≡ true → c ≡ n → SheetPlan (chain_logic c) more 1 rest os stop → Plan more words os stop
    plan_chain n c kind ok same h =
        told_by (x ∷ rest) os stop e refl refl (over_chain (sym is ∙ kind) ok (subst (λ y. SheetPlan (chain_logic y) more 1 rest os stop) same h))

    pub plan_no_chain : (n : ℕ) (r : Refusal) → k ≡ Some (Chain n) → within 2 64 n ≡ false → refusal_number r ≡ 10 → os ≡ [] → stop ≡ logic_at 0 r → Plan more words os stop
    plan_no_chain n r kind out ten none at = told_by (x ∷ rest) [] (logic_at 0 r) e none at (no_chain (sym is ∙ kind) out ten)

    pub plan_sets : (n c : ℕ) → k ≡ Some (Sets n) → within 1 12 n ≡ true → c ≡ n → SheetPlan (sets_logic c) more 1 rest os stop → Plan more words os stop
    plan_sets n c kind ok same h =
        told_by (x ∷ rest) os stop e refl refl (over_sets (sym is ∙ kind) ok (subst (λ y. SheetPlan (sets_logic y) more 1 rest os stop) same h))

    pub plan_no_sets : (n : ℕ) (r : Refusal) → k ≡ Some (Sets n) → within 1 12 n ≡ false → refusal_number r ≡ 10 → os ≡ [] → stop ≡ logic_at 0 r → Plan more words os stop
    plan_no_sets n r kind out ten none at = told_by (x ∷ rest) [] (logic_at 0 r) e none at (no_sets (sym is ∙ kind) out ten)

  -- the first `count` words are those of a table
  -- the logic of a maker, or its refusal
  pub plan_made : {S : Type 0} (logic : S → LogicOf ℕ) (number : S → ℕ) (fits : Bool) (v : ℕ) (rest : List ℕ) (made : Result S Refusal) →
      Taken number fits v made →
      ((s : S) → fits ≡ true → number s ≡ v → SheetPlan (logic s) more 1 rest os stop → Plan more words os stop) →
      ((e : Refusal) → fits ≡ false → refusal_number e ≡ 10 → os ≡ [] → stop ≡ logic_at 0 e → Plan more words os stop) →
      PlanOver logic made more 1 rest os stop → Plan more words os stop
  plan_made logic number fits v rest (Ok s) h f g p = f s h.0 h.1 p
  plan_made logic number fits v rest (Err e) h f g p = g e h.0 h.1 p.0 p.1

  module _ (count : ℕ) (some : 0 < count) (each : (k : ℕ) → k < count → kind_of (get_or words k 0) ≡ Some Table) where
    table_words : count ≤ length words → TableWords (take count words)
    table_words h =
        let n = length-take-le count words h in
        record {
          some = omega (arith, n);
          each = λ k lt. let below : k < count = omega (arith, n) in ap kind_of (get_or-take count words k 0 below) ∙ each k below;
        }

    pub plan_unended : length words ≡ count → os ≡ [] → stop ≡ word_at count → Plan more words os stop
    plan_unended all none at =
        told_by words [] (word_at (length words)) refl none (at ∙ ap word_at (sym all))
        (unended_table (record { some = omega arith; each = λ k lt. each k (omega arith) }))

    module _ (short : count < length words) (last : kind_of (get_or words count 0) ≡ Some Table → ⊥) where
      rest : List ℕ
      rest = drop (suc count) words

      parts : words ≡ take count words ++ (get_or words count 0 ∷ drop (suc count) words)
      parts = split_at words count 0 short

      front : between 0 count words ≡ take count words
      front = between_is words 0 count

      counted : length (take count words) ≡ count
      counted = length-take-le count words (omega arith)

      pub plan_no_table : (r : Refusal) → verdict (between 0 count words) ≡ Err r → os ≡ [] → stop ≡ logic_at count r → Plan more words os stop
      plan_no_table r judged none at =
          told_by (take count words ++ (get_or words count 0 ∷ drop (suc count) words)) [] (logic_at (length (take count words)) r) parts none (at ∙ ap (λ n. logic_at n r) (sym counted))
          (no_table (get_or words count 0) (take count words) (drop (suc count) words) (table_words (omega arith)) last (ap verdict (sym front) ∙ judged))

      pub plan_table : (c : ℕ) (rows opposites : List ℕ) → verdict (between 0 count words) ≡ Ok tt →
          c ≡ length (between 0 count words) → rows ≡ rows_of (between 0 count words) → opposites ≡ opposites_of (between 0 count words) →
          SheetPlan (logic_of (table_model c rows) (listed opposites) (table_partner c rows opposites)) more count (between count (length words) words) os stop → Plan more words os stop
      plan_table c rows opposites judged c_is rows_is opposites_is h =
          let ts = between 0 count words in
          let over : SheetPlan (table_logic ts) more count (between count (length words) words) os stop =
          subst (λ y. SheetPlan (logic_of (table_model (length ts) (rows_of ts)) (listed y) (table_partner (length ts) (rows_of ts) y)) more count (between count (length words) words) os stop) opposites_is
          (subst (λ y. SheetPlan (logic_of (table_model (length ts) y) (listed opposites) (table_partner (length ts) y opposites)) more count (between count (length words) words) os stop) rows_is
          (subst (λ y. SheetPlan (logic_of (table_model y rows) (listed opposites) (table_partner y rows opposites)) more count (between count (length words) words) os stop) c_is h))
          in
          told_by (take count words ++ (get_or words count 0 ∷ drop (suc count) words)) os stop parts refl refl
          (over_table (get_or words count 0) (take count words) (drop (suc count) words) (table_words (omega arith)) last (ap verdict (sym front) ∙ judged)
          (subst (λ y. SheetPlan (table_logic y) more (length (take count words)) (get_or words count 0 ∷ drop (suc count) words) os stop) front
          (subst (λ y. SheetPlan (table_logic ts) more y (get_or words count 0 ∷ drop (suc count) words) os stop) (sym counted)
          (subst (λ y. SheetPlan (table_logic ts) more count y os stop) (between_to_end words count (length words) (omega arith) ∙ drop-cons words count 0 short) over))))
