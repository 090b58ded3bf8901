-- Calls that are lent the whole memory, one after another.
use Rattle.std.proofs.Common.{◌≡◌, ℕ, List, [], ◌∷◌, ◌++◌, length, take, drop, Some, None, Ok, Err, Option, Result, sym, refl, ap, ◌∙◌, subst, append_assoc, append-nil, arith, take_all}
use Rattle.std.proofs.lemmas.List.{drop_all}
use Rattle.std.specs.Result.{IsErrAnd}
use Rattle.words.specs.declared.kind.Entry.{Entry}
use Rattle.words.specs.declared.kind.Entry.TheVariants.{Arrow, Mark, Line}
use Rattle.scale.specs.Model.{Model}
use Rattle.sheet.specs.declared.state.Refusal.{Refusal}
use Rattle.sheet.specs.Layout.{most_lines}
use Rattle.sheet.specs.Sheet.{LogicOf, Sheet, Call, arrow, mark, line, text, settle, read_at, reopen, Phase, Reply, done, rounds, value, refused, Step}
use Rattle.sheet.specs.Runs.{Moves, still, more, lent_to, back}
use Rattle.report.specs.declared.Output.{Output}
use Rattle.report.specs.declared.Output.TheVariants.{Value}
use Rattle.plan.specs.Calls.{entry_call, lent_values, past, Spells, enters, reopens, settles, reads, OutOfPhase, all, stops, goes, call_prints, prints}
use Rattle.plan.specs.Phases.{Lead, Leads, WordDone, sheet_in}
use Rattle.words.specs.declared.kind.Kind.{Kind}
use Rattle.words.specs.declared.kind.Kind.TheVariants.{End, Enter, Ask}
use Rattle.plan.specs.declared.phase.Phase as states
use Rattle.plan.specs.declared.phase.Halt.{Halt}
use Rattle.plan.specs.declared.phase.Halt.TheVariants as halt

-- ---- answers that are no refusals

pub done_accepted : {V : Type 0} (r : Refusal) → ◌≡◌ {A = Reply V} done (refused r) → ⊥
done_accepted r e = let z : ◌≡◌ {A = ℕ} 0 1 = cc in omega arith

pub rounds_accepted : {V : Type 0} (k : ℕ) (r : Refusal) → ◌≡◌ {A = Reply V} (rounds k) (refused r) → ⊥
rounds_accepted k r e = let z : ◌≡◌ {A = ℕ} 0 1 = cc in omega arith

pub value_accepted : {V : Type 0} (v : V) (r : Refusal) → value v ≡ refused r → ⊥
value_accepted v r e = let z : ◌≡◌ {A = ℕ} 0 1 = cc in omega arith

-- ---- words that are neither entries nor asks nor the end

no_calls : {p q : Phase} {k : Option Kind} {cs : List Call} → ((e : Entry) → k ≡ Some (Enter e) → ⊥) → ((i s : ℕ) → k ≡ Some (Ask i s) → ⊥) → Spells p k cs q → ⊥
no_calls no_entry no_ask (enters {e}) = no_entry e refl
no_calls no_entry no_ask (reopens {e}) = no_entry e refl
no_calls no_entry no_ask (settles {k} {s}) = no_ask k s refl
no_calls no_entry no_ask (reads {k} {s}) = no_ask k s refl

pub out_of_phase : {p : Phase} {k : Option Kind} → (k ≡ Some End → ⊥) → ((e : Entry) → k ≡ Some (Enter e) → ⊥) → ((i s : ℕ) → k ≡ Some (Ask i s) → ⊥) → OutOfPhase p k
out_of_phase no_end no_entry no_ask = record { no_end = no_end; no_calls = λ cs q sp. no_calls no_entry no_ask sp }

-- ---- what prints nothing

refused_prints : {V : Type 0} (m : Model V) (c : Call) (r : Refusal) → call_prints m c (refused r) ≡ []
refused_prints m (arrow s t v) r = refl
refused_prints m (mark s k v) r = refl
refused_prints m (line w) r = refl
refused_prints m (text ns bs) r = refl
refused_prints m settle r = refl
refused_prints m (read_at k s) r = refl
refused_prints m reopen r = refl

entry_prints : {V : Type 0} (m : Model V) (e : Entry) (a : Reply V) → call_prints m (entry_call e) a ≡ []
entry_prints m (Arrow s t v) a = refl
entry_prints m (Mark s k v) a = refl
entry_prints m (Line w) a = refl

-- a list with nothing behind it
none_behind : {X : Type 0} (xs ys : List X) → ys ≡ [] → xs ≡ xs ++ ys
none_behind xs ys e = sym (append-nil xs) ∙ ap (λ zs. xs ++ zs) (sym e)

-- ---- the whole memory is lent

module _ {V : Type 0} (l : LogicOf V) where
  module _ (w u : Sheet V) (c : Call) (a : Reply V) (long : length w.stretch ≡ lent_values) (wide : length w.words ≡ most_lines) where
    all_lent : lent_to (past c a).event w ≡ w
    all_lent =
        ap (λ s. record { phase = w.phase; stages = w.stages; marks = w.marks; lines = w.lines; stretch = s; words = take most_lines w.words }) (take_all lent_values w.stretch (omega arith))
        ∙ ap (λ x. record { phase = w.phase; stages = w.stages; marks = w.marks; lines = w.lines; stretch = w.stretch; words = x }) (take_all most_lines w.words (omega arith))

    none_kept : back (past c a).event w u ≡ u
    none_kept =
        ap (λ s. record { phase = u.phase; stages = u.stages; marks = u.marks; lines = u.lines; stretch = u.stretch ++ s; words = u.words ++ drop most_lines w.words }) (drop_all lent_values w.stretch (omega arith))
        ∙ ap (λ x. record { phase = u.phase; stages = u.stages; marks = u.marks; lines = u.lines; stretch = u.stretch ++ []; words = u.words ++ x }) (drop_all most_lines w.words (omega arith))
        ∙ ap (λ s. record { phase = u.phase; stages = u.stages; marks = u.marks; lines = u.lines; stretch = s; words = u.words ++ [] }) (append-nil u.stretch)
        ∙ ap (λ x. record { phase = u.phase; stages = u.stages; marks = u.marks; lines = u.lines; stretch = u.stretch; words = x }) (append-nil u.words)

    moved : Step l w c a u → Moves l w (past c a).event a u
    moved st = record {
      within_values = omega arith;
      within_words = omega arith;
      to = u;
      step = subst (λ x. Step l x c a u) (sym all_lent) st;
      whole = sym none_kept;
    }

  -- no call is left
  pub ended : (w : Sheet V) (os : List Output) → Lead l w [] os None w os
  ended w os = record { history = []; made = all; run = still; printed = sym (append-nil os) }

  -- an accepted call, and then the others
  pub first : (w v u : Sheet V) (c : Call) (cs : List Call) (a : Reply V) (os ps us : List Output) (stop : Option Refusal) →
      length w.stretch ≡ lent_values → length w.words ≡ most_lines → ((r : Refusal) → a ≡ refused r → ⊥) → Step l w c a v →
      ps ≡ os ++ call_prints l.model c a → Lead l v cs ps stop u us → Lead l w (c ∷ cs) os stop u us
  first w v u c cs a os ps us stop long wide ok st e lead = record {
    history = past c a ∷ lead.history;
    made = goes ok lead.made;
    run = more (moved w v c a long wide st) lead.run;
    printed = lead.printed ∙ ap (λ x. x ++ prints l.model lead.history) e ∙ append_assoc os (call_prints l.model c a) (prints l.model lead.history);
  }

  -- a refused call is the last
  pub refused_first : (w u : Sheet V) (c : Call) (cs : List Call) (r : Refusal) (os us : List Output) →
      length w.stretch ≡ lent_values → length w.words ≡ most_lines → Step l w c (refused r) u → us ≡ os → Lead l w (c ∷ cs) os (Some r) u us
  refused_first w u c cs r os us long wide st same = record {
    history = past c (refused r) ∷ [];
    made = stops;
    run = more (moved w u c (refused r) long wide st) still;
    printed = same ∙ none_behind os (call_prints l.model c (refused r) ++ []) (ap (λ x. x ++ []) (refused_prints l.model c r));
  }

  -- an entry, which prints nothing
  pub entry_leads : (w u : Sheet V) (e : Entry) (os us : List Output) → length w.stretch ≡ lent_values → length w.words ≡ most_lines → Step l w (entry_call e) done u → us ≡ os → Lead l w (entry_call e ∷ []) os None u us
  entry_leads w u e os us long wide st same =
      first w u u (entry_call e) [] done os us us None long wide done_accepted st (same ∙ none_behind os (call_prints l.model (entry_call e) done) (entry_prints l.model e done)) (ended u us)

  -- the same, of what a function answers
  pub leads_refused : (w u : Sheet V) (c : Call) (cs : List Call) (q : Phase) (why : Refusal) (os us : List Output) (s : List V) (ws : List ℕ) →
      length w.stretch ≡ lent_values → length w.words ≡ most_lines → Step l w c (refused why) u → us ≡ os →
      (r : Result states.Phase Halt) → IsErrAnd r (λ h. h ≡ halt.Sheet why) → Leads l w (c ∷ cs) q os r s ws us
  leads_refused w u c cs q why os us s ws long wide st same (Ok p) e = absurd e
  leads_refused w u c cs q why os us s ws long wide st same (Err h) e =
      subst (λ x. Leads l w (c ∷ cs) q os (Err x) s ws us) (sym e) (u, refused_first w u c cs why os us long wide st same)

  pub leads_first : (w v : Sheet V) (c : Call) (cs : List Call) (q : Phase) (a : Reply V) (os ps us : List Output) (s : List V) (ws : List ℕ) →
      length w.stretch ≡ lent_values → length w.words ≡ most_lines → ((r : Refusal) → a ≡ refused r → ⊥) → Step l w c a v →
      ps ≡ os ++ call_prints l.model c a → (r : Result states.Phase Halt) → Leads l v cs q ps r s ws us → Leads l w (c ∷ cs) q os r s ws us
  leads_first w v c cs q a os ps us s ws long wide ok st e (Err halt.End) h = h
  leads_first w v c cs q a os ps us s ws long wide ok st e (Ok p) h = (first w v (sheet_in p s ws) c cs a os ps us None long wide ok st e h.0, h.1)
  leads_first w v c cs q a os ps us s ws long wide ok st e (Err halt.Word) h = h
  leads_first w v c cs q a os ps us s ws long wide ok st e (Err (halt.Sheet r)) h = (h.0, first w v h.0 c cs a os ps us (Some r) long wide ok st e h.1)
  leads_first w v c cs q a os ps us s ws long wide ok st e (Err (halt.Memory m)) h = h

  -- a read, whose value's number is printed
  pub read_first : (w : Sheet V) (k s n : ℕ) (v : V) (os us : List Output) → length w.stretch ≡ lent_values → length w.words ≡ most_lines →
      Step l w (read_at k s) (value v) w → n ≡ l.model.number v → us ≡ os ++ (Value k s n ∷ []) → Lead l w (read_at k s ∷ []) os None w us
  read_first w k s n v os us long wide st is e =
      first w w w (read_at k s) [] (value v) os us us None long wide (value_accepted v) st (e ∙ ap (λ x. os ++ (Value k s x ∷ [])) is) (ended w us)

  -- the calls are those that a word spells
  pub word_done : (p : states.Phase) (s t : List V) (ws xs : List ℕ) (k : Option Kind) (cs : List Call) (q : Phase) (os us : List Output) → Spells (sheet_in p s ws).phase k cs q →
      (r : Result states.Phase Halt) → Leads l (sheet_in p s ws) cs q os r t xs us → WordDone l p s ws k os r t xs us
  word_done p s t ws xs k cs q os us sp (Err halt.End) h = absurd h
  word_done p s t ws xs k cs q os us sp (Ok u) h = record { calls = cs; spelled = subst (λ x. Spells (sheet_in p s ws).phase k cs x) (sym h.1) sp; lead = h.0 }
  word_done p s t ws xs k cs q os us sp (Err halt.Word) h = absurd h
  word_done p s t ws xs k cs q os us sp (Err (halt.Sheet r)) h = (q, (h.0, record { calls = cs; spelled = sp; lead = h.1 }))
  word_done p s t ws xs k cs q os us sp (Err (halt.Memory m)) h = h

  -- the same where the phase and the word are known by equations
  pub word_done_at : (p p' : states.Phase) (s t : List V) (ws xs : List ℕ) (k k' : Option Kind) (cs : List Call) (q : Phase) (os us : List Output) → p ≡ p' → k ≡ k' → Spells (sheet_in p' s ws).phase k' cs q →
      (r : Result states.Phase Halt) → Leads l (sheet_in p' s ws) cs q os r t xs us → WordDone l p s ws k os r t xs us
  word_done_at p p' s t ws xs k k' cs q os us pe ke sp r h =
      subst (λ x. WordDone l x s ws k os r t xs us) (sym pe) (subst (λ y. WordDone l p' s ws y os r t xs us) (sym ke) (word_done p' s t ws xs k' cs q os us sp r h))
