-- The words of a plan one after another.
use Rattle.std.proofs.Common.{◌≡◌, ℕ, ◌+◌, ◌<◌, Bool, List, [], ◌∷◌, ◌++◌, length, get_or, drop, Some, None, Err, Option, sym, refl, ap, ◌∙◌, subst, inl, inr, append_assoc, append-nil, arith}
use Rattle.scale.specs.Model.{Model}
use Rattle.words.specs.declared.kind.Kind.{Kind}
use Rattle.words.specs.declared.kind.Kind.TheVariants.{End}
use Rattle.words.specs.Kinds.{kind_of}
use Rattle.sheet.specs.declared.state.Refusal.{Refusal}
use Rattle.sheet.specs.Sheet.{LogicOf, Sheet, Phase}
use Rattle.sheet.specs.Runs.{Past, Run, still, more}
use Rattle.plan.specs.declared.phase.Phase as states
use Rattle.plan.specs.declared.phase.Phase.TheVariants.{Draft, Settled}
use Rattle.report.specs.declared.Output.{Output}
use Rattle.report.specs.declared.Stop.{Stop}
use Rattle.plan.specs.Calls.{Spells, OutOfPhase, Read, missing, misplaced, ends, after_end, stopped, goes_on, call_prints, prints, word_at, call_at}
use Rattle.plan.specs.declared.phase.Halt.{Halt}
use Rattle.plan.specs.declared.phase.Halt.TheVariants as halt
use Rattle.plan.specs.Phases.{sheet_in, phase_of, Goes, WordDone, Plays, Ended, Halted}

-- one run behind another
run_on : {V : Type 0} {l : LogicOf V} {w v u : Sheet V} {h g : List (Past V)} → Run l w h v → Run l v g u → Run l w (h ++ g) u
run_on still r = r
run_on (more m q) r = more m (run_on q r)

-- what one history prints, and then another
prints_on : {V : Type 0} (m : Model V) (h g : List (Past V)) → prints m (h ++ g) ≡ prints m h ++ prints m g
prints_on m [] g = refl
prints_on m (p ∷ h) g =
    ap (λ x. call_prints m p.event.call p.reply ++ x) (prints_on m h g)
    ∙ sym (append_assoc (call_prints m p.event.call p.reply) (prints m h) (prints m g))

phase_in : {V : Type 0} (p : states.Phase) (s : List V) (ws : List ℕ) → (sheet_in p s ws).phase ≡ phase_of p
phase_in (Draft d) s ws = refl
phase_in (Settled x) s ws = refl

-- the first word, and those after it
pub first_drop : (ws : List ℕ) → 0 < length ws → ws ≡ get_or ws 0 0 ∷ drop 1 ws
first_drop [] h = absurd (omega arith)
first_drop (w ∷ ws) h = refl

module _ {V : Type 0} (l : LogicOf V) (left : Bool) where
  -- Whatever the words from number j on come to from the sheet v, those from number i on come to from the sheet w.
  abbrev pub SoFar : Sheet V → ℕ → List ℕ → List Output → Sheet V → ℕ → List ℕ → List Output → Type 0
  SoFar w i all os v j rest ps = (stop : Option Stop) (us : List Output) → Plays l v left j rest ps stop us → Plays l w left i all os stop us

  -- the calls that lead on are those of the word x
  word_spelled : {v u : Sheet V} {k : Option Kind} (x : ℕ) {ps ts : List Output} {stop : Option Refusal} {q : Phase} → k ≡ kind_of x → (g : Goes l v k ps stop q u ts) → Spells v.phase (kind_of x) g.calls q
  word_spelled {v} x {q = q} is g = subst (λ y. Spells v.phase y g.calls q) is g.spelled

  -- one word more
  pub word_more : (w : Sheet V) (i : ℕ) (all : List ℕ) (os : List Output) (v : Sheet V) (j x : ℕ) (words rest : List ℕ) (k : Option Kind) (ps ts : List Output) (q : states.Phase) (t : List V) (xs : List ℕ) →
      words ≡ x ∷ rest → k ≡ kind_of x → SoFar w i all os v j words ps → Goes l v k ps None (phase_of q) (sheet_in q t xs) ts →
      SoFar w i all os (sheet_in q t xs) (j + 1) rest ts
  word_more w i all os v j x words rest k ps ts q t xs e is far g stop us p =
      let lead = g.lead in
      far stop us
      (record {
        history = lead.history ++ p.history;
        last = p.last;
        spelled =
            subst (λ ys. Read {V = V} left j v.phase ys (lead.history ++ p.history) stop) (sym e)
            (goes_on (word_spelled x is g) lead.made (subst (λ y. Read {V = V} left (j + 1) y rest p.history stop) (phase_in q t xs) p.spelled));
        run = run_on lead.run p.run;
        printed =
            p.printed ∙ ap (λ y. y ++ prints l.model p.history) lead.printed
            ∙ append_assoc ps (prints l.model lead.history) (prints l.model p.history)
            ∙ ap (λ y. ps ++ y) (sym (prints_on l.model lead.history p.history));
      })

  module _ (v : Sheet V) (j : ℕ) (ps : List Output) where
    -- no call is made any more
    no_more : (words : List ℕ) (stop : Option Stop) (us : List Output) → us ≡ ps → Read {V = V} left j v.phase words [] stop → Plays l v left j words ps stop us
    no_more words stop us same r = record { history = []; last = v; spelled = r; run = still; printed = same ∙ sym (append-nil ps) }

    pub none_left : (words : List ℕ) (stop : Option Stop) → words ≡ [] → stop ≡ word_at j → Plays l v left j words ps stop ps
    none_left words stop e at =
        no_more words stop ps refl
        (subst (λ y. Read {V = V} left j v.phase words [] y) (sym at) (subst (λ ys. Read {V = V} left j v.phase ys [] (word_at j)) (sym e) missing))

    module _ (x : ℕ) (words rest : List ℕ) (k : Option Kind) (us : List Output) (e : words ≡ x ∷ rest) (is : k ≡ kind_of x) where
      first_word : (stop : Option Stop) (h : List (Past V)) (y : Option Stop) → stop ≡ y → Read {V = V} left j v.phase (x ∷ rest) h y → Read {V = V} left j v.phase words h stop
      first_word stop h y at r = subst (λ z. Read {V = V} left j v.phase words h z) (sym at) (subst (λ ys. Read {V = V} left j v.phase ys h y) (sym e) r)

      word_wrong : (stop : Option Stop) → OutOfPhase v.phase k → us ≡ ps → stop ≡ word_at j → Plays l v left j words ps stop us
      word_wrong stop out same at = no_more words stop us same (first_word stop [] (word_at j) at (misplaced (subst (λ y. OutOfPhase v.phase y) is out)))

      word_ends : (stop : Option Stop) → k ≡ Some End → us ≡ ps → Ended left j rest stop → Plays l v left j words ps stop us
      word_ends stop end same (inl h) =
          no_more words stop us same
          (first_word stop [] None h.0 (subst (λ ys. Read {V = V} left j v.phase (x ∷ ys) [] None) (sym h.1) (ends (sym is ∙ end) h.2)))
      word_ends stop end same (inr h) = no_more words stop us same (first_word stop [] (word_at (j + 1)) h.0 (after_end (sym is ∙ end) h.1))

      word_refused : (stop : Option Stop) (r : Refusal) (q : Phase) (u : Sheet V) → Goes l v k ps (Some r) q u us → stop ≡ call_at j r → Plays l v left j words ps stop us
      word_refused stop r q u g at = record {
        history = g.lead.history;
        last = u;
        spelled = first_word stop g.lead.history (call_at j r) at (stopped (word_spelled x is g) g.lead.made);
        run = g.lead.run;
        printed = g.lead.printed;
      }

  -- the plan goes no further
  pub word_halts : (p : states.Phase) (s t : List V) (ws xs : List ℕ) (j x : ℕ) (words rest : List ℕ) (k : Option Kind) (ps us : List Output) (f : Halt) (stop : Option Stop) →
      words ≡ x ∷ rest → k ≡ kind_of x → WordDone l p s ws k ps (Err f) t xs us → Halted f left j rest stop → Plays l (sheet_in p s ws) left j words ps stop us
  word_halts p s t ws xs j x words rest k ps us halt.End stop e is d h = word_ends (sheet_in p s ws) j ps x words rest k us e is stop d.0 d.1 h
  word_halts p s t ws xs j x words rest k ps us halt.Word stop e is d h = word_wrong (sheet_in p s ws) j ps x words rest k us e is stop d.0 d.1 h
  word_halts p s t ws xs j x words rest k ps us (halt.Sheet r) stop e is d h = word_refused (sheet_in p s ws) j ps x words rest k us e is stop r d.0 d.1.0 d.1.1 h
  word_halts p s t ws xs j x words rest k ps us (halt.Memory m) stop e is d h = absurd h
