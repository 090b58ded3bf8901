-- A plan from its size word on.
use Rattle.std.proofs.Common.{◌≡◌, Some, ℕ, ◌+◌, Bool, List, [], ◌∷◌, ◌++◌, length, replicate, IfOk, Ok, Err, Option, Result, sym, refl, ap, ◌∙◌, subst}
use Rattle.words.specs.declared.kind.Kind.{Kind}
use Rattle.words.specs.declared.kind.Kind.TheVariants.{Size}
use Rattle.words.specs.Kinds.{kind_of}
use Rattle.sheet.specs.declared.state.Draft.{Draft}
use Rattle.sheet.specs.declared.state.Refusal.{Refusal}
use Rattle.sheet.specs.Layout.{most_lines}
use Rattle.sheet.specs.Sheet.{LogicOf, Sheet, drafting, refuse, accept, OpensAs, Opens, draft_on}
use Rattle.sheet.specs.Runs.{Run, Law, LawfulRun}
use Rattle.report.specs.declared.Output.{Output}
use Rattle.report.specs.declared.Stop.{Stop}
use Rattle.plan.specs.Calls.{lent_values, prints, opened, word_at, call_at, SheetPlan, no_size, other_word, not_opened, played}
use Rattle.plan.specs.Phases.{Plays}

-- what holds of all that was made
pub made_so : {X Y : Type 0} (P Q : X → Type 0) (r : Result X Y) → ((x : X) → P x → Q x) → IfOk r P → IfOk r Q
made_so P Q (Ok x) f h = f x h
made_so P Q (Err y) f h = tt

module _ {V : Type 0} (l : LogicOf V) (more : Bool) (i : ℕ) where
  -- what is printed and where it stops, by equations
  told_by : (words ws : List ℕ) (os ps : List Output) (stop st : Option Stop) → words ≡ ws → os ≡ ps → stop ≡ st → SheetPlan l more i ws ps st → SheetPlan l more i words os stop
  told_by words ws os ps stop st e p at h =
      subst (λ x. SheetPlan l more i x os stop) (sym e) (subst (λ x. SheetPlan l more i ws x stop) (sym p) (subst (λ x. SheetPlan l more i ws ps x) (sym at) h))

  pub sized_none : (words : List ℕ) (os : List Output) (stop : Option Stop) → words ≡ [] → os ≡ [] → stop ≡ word_at i → SheetPlan l more i words os stop
  sized_none words os stop e none at = told_by words [] os [] stop (word_at i) e none at no_size

  module _ (x : ℕ) (words rest : List ℕ) (k : Option Kind) (os : List Output) (stop : Option Stop) (e : words ≡ x ∷ rest) (is : k ≡ kind_of x) where
    pub sized_other : ((n a : ℕ) → k ≡ Some (Size n a) → ⊥) → os ≡ [] → stop ≡ word_at i → SheetPlan l more i words os stop
    sized_other other none at = told_by words (x ∷ rest) os [] stop (word_at i) e none at (other_word (λ n a s. other n a (is ∙ s)))

    module _ (n a : ℕ) (size : k ≡ Some (Size n a)) (s t : List V) (ws xs : List ℕ) (long : length s ≡ lent_values) (wide : length ws ≡ most_lines) where
      lengths : (P : ℕ → ℕ → Type 0) → P (length s) (length ws) → P lent_values most_lines
      lengths P h = subst (λ y. P lent_values y) wide (subst (λ y. P y (length ws)) long h)

      pub sized_refused : (r : Refusal) → Opens l n a s ws (Err r) t xs → os ≡ [] → stop ≡ call_at i r → SheetPlan l more i words os stop
      sized_refused r opens none at =
          told_by words (x ∷ rest) os [] stop (call_at i r) e none at
          (not_opened (sym is ∙ size) (lengths (λ y z. OpensAs l.model n a y z (refuse r)) opens.0))

      -- the sheet just opened, on so much memory
      abbrev fresh : ℕ → ℕ → Sheet V
      fresh y z = record { phase = drafting; stages = n; marks = a; lines = 0; stretch = replicate y l.model.lowest; words = replicate z 0 }

      pub sized_played : (d : Draft) (us : List Output) → Opens l n a s ws (Ok d) t xs → Law l → os ≡ [] → Plays l (draft_on d t xs) more (i + 1) rest os stop us → SheetPlan l more i words us stop
      sized_played d us opens law none p =
          let begun : draft_on d t xs ≡ opened l.model n a = lengths (λ y z. draft_on d t xs ≡ fresh y z) opens.1 in
          let run : Run l (opened l.model n a) p.history p.last = subst (λ w. Run l w p.history p.last) begun p.run in
          told_by words (x ∷ rest) us us stop stop e refl refl
          (played (sym is ∙ size) (lengths (λ y z. OpensAs l.model n a y z (accept [])) opens.0)
          (record {
            history = p.history;
            last = p.last;
            spelled = p.spelled;
            run = run;
            lawful = subst (λ w. LawfulRun l n a w p.history p.last) begun ((law n a s t ws xs (Ok d) opens).1 p.history p.last p.run);
            printed = p.printed ∙ ap (λ y. y ++ prints l.model p.history) none;
          }))
