-- The law for all runs: by the account that a sheet stands for.
use Rattle.std.proofs.Common.{◌≡◌, ℕ, ◌<◌, ◌≤◌, ◌↔◌, List, [], ◌∷◌, length, replicate, Ok, Err, Result, sym, refl, ap, ◌∙◌, subst, arith}
use Rattle.scale.specs.Model.{Model, most_values}
use Rattle.ctl.specs.Operations.{Small, Carries}
use Rattle.ctl.specs.Readings.{Holds}
use Rattle.ctl.specs.Values.{Row, Value}
use Rattle.ctl.specs.Theorems.{Meaning}
use Rattle.sheet.specs.declared.state.Draft.{Draft}
use Rattle.sheet.specs.declared.state.Refusal.{Refusal}
use Rattle.sheet.specs.Layout.{arrow_place, mark_place}
use Rattle.sheet.specs.Lines.{formula, Fitting}
use Rattle.sheet.specs.Sheet.{LogicOf, ops, drafting, Sheet, Call, arrow, mark, line, text, settle, read_at, reopen, Reply, rounds, value, refused, Verdict, refuse, accept, Judged, OpensAs, wipes, Does, Ends, Step, draft_on, Opened, Opens}
use Rattle.sheet.specs.Account.{Event, Account, plan, opening, Judges, onward}
use Rattle.sheet.specs.Runs.{lent_to, back, Moves, Past, Run, still, more, SaysSo, Told, AllTold, none_told, one_told, Struck, nothing, keeps, strikes, events, Begins, open_verdict, Law, Accounts, so_far, and_then, Tells}
use Rattle.sheet.proofs.Formulas.{count_few, count_once}
use Rattle.sheet.proofs.Memory.{always}
use Rattle.sheet.proofs.Verdicts.{judged_once}
use Rattle.sheet.proofs.Agree.{on, Stands, Accepted, Replies, passed, apart, goes, left_back}

no_way : {A : Type 0} → ◌≡◌ {A = ℕ} 0 1 → A
no_way e = absurd (omega arith)

-- ---- what an accepted call does not answer

never_refused : {V : Type 0} (l : LogicOf V) (x : Account V) (c : Call) (b : Reply V) (r : Refusal) → Accepted l x c b → b ≡ refused r → ⊥
never_refused l x (arrow i j v) b r p q = no_way (cc)
never_refused l x (mark i k v) b r p q = no_way (cc)
never_refused l x (line w) b r p q = no_way (cc)
never_refused l x (text ns bs) b r p q = no_way (cc)
never_refused l x settle b r p q = let e = p.1 in no_way (cc)
never_refused l x (read_at k i) b r p q = let e = p.1 in no_way (cc)
never_refused l x reopen b r p q = no_way (cc)

-- a call that is accepted has been lent a logic of at most 4,096 values, unless it reopens
small_at : {V : Type 0} (m : Model V) (n a vs ws count : ℕ) (P : Type 0) (k i : ℕ) (new : List _) → Judged m n a vs ws count P (read_at k i) (accept new) → m.size ≤ most_values
small_at m n a vs ws count P k i new d = (passed d).0

small_settle : {V : Type 0} (m : Model V) (n a vs ws count : ℕ) (P : Type 0) (new : List _) → Judged m n a vs ws count P settle (accept new) → m.size ≤ most_values
small_settle m n a vs ws count P new d = (passed d).0

module _ {V : Type 0} (l : LogicOf V) (known : Small l.model → Meaning (ops l)) where
  says_so : (x : Account V) (c : Call) (v : Verdict) (b : Reply V) → Replies l x c v b → SaysSo v b
  says_so x c (refuse r) b p = p
  says_so x c (accept new) b p = λ r q. never_refused l x c b r p q

  -- the value read
  read_told : (x : Account V) (vs ws : ℕ) (P : Type 0) (k i : ℕ) (v : Verdict) (b : Reply V) (y : V) →
      Judged l.model x.stages x.marks vs ws (length x.lines) P (read_at k i) v → Replies l x (read_at k i) v b → b ≡ value y →
      (j : ℕ) → j < l.model.cuts → Carries (ops l) j y ↔ Holds (ops l) (plan x) (formula x.lines k) j i
  read_told x vs ws P k i (refuse r) b y d p q j h = no_way (cc)
  read_told x vs ws P k i (accept new) b y d p q j h =
      let e = p.1 in
      let is : p.0 i ≡ y = cc in
      let m = known (small_at l.model x.stages x.marks vs ws (length x.lines) P k i new d) in
      subst (λ z. Carries (ops l) j z ↔ Holds (ops l) (plan x) (formula x.lines k) j i) is
      (m.agrees (plan x) (formula x.lines k) p.0 p.2 j h i p.3)

  value_told : (x : Account V) (k i : ℕ) (v : Verdict) (b : Reply V) (y : V) → Replies l x (read_at k i) v b → b ≡ value y →
      (z : Row V) × Value (ops l) (plan x) (formula x.lines k) z × (y ≡ z i)
  value_told x k i (refuse r) b y p q = no_way (cc)
  value_told x k i (accept new) b y p q = let e = p.1 in let is : y ≡ p.0 i = cc in (p.0, p.2, is)

  -- the rounds reported
  rounds_told : (x : Account V) (vs ws : ℕ) (P : Type 0) (c : Call) (v : Verdict) (b : Reply V) (r : ℕ) →
      Judged l.model x.stages x.marks vs ws (length x.lines) P c v → Replies l x c v b → b ≡ rounds r → r ≤ x.stages
  rounds_told x vs ws P c (refuse s) b r d p q = no_way (cc)
  rounds_told x vs ws P (arrow i j k) (accept new) b r d p q = no_way (cc)
  rounds_told x vs ws P (mark i j k) (accept new) b r d p q = no_way (cc)
  rounds_told x vs ws P (line w) (accept new) b r d p q = no_way (cc)
  rounds_told x vs ws P (text ns bs) (accept new) b r d p q = no_way (cc)
  rounds_told x vs ws P settle (accept new) b r d p q =
      let e = p.1 in
      let is : p.0 ≡ r = cc in
      let m = known (small_settle l.model x.stages x.marks vs ws (length x.lines) P new d) in
      let few = count_few (ops l) (plan x) m x.lines p.0 p.2 in
      omega arith
  rounds_told x vs ws P (read_at k i) (accept new) b r d p q = let e = p.1 in no_way (cc)
  rounds_told x vs ws P reopen (accept new) b r d p q = no_way (cc)

  judges_once : (x : Account V) (w : Sheet V) → Stands l x w → (e : Event) (v u : Verdict) → Judges l.model x e v → Judges l.model x e u → v ≡ u
  judges_once x w st e v u =
      let f = st.agrees.few_marks in
      judged_once l.model x.stages x.marks e.values_lent e.words_lent (length x.lines) (Fitting x.marks x.lines) e.call st.agrees.few (omega arith) v u

  pub told_by : (x : Account V) (w : Sheet V) → Stands l x w → (e : Event) (v : Verdict) (b : Reply V) → Judges l.model x e v → Replies l x e.call v b → Told l x e v b
  told_by x w st e v b d p = record {
    judged = d;
    only = λ u f. judges_once x w st e u v f d;
    acceptance = says_so x e.call v b p;
    valued = λ k i y c q. value_told x k i v b y (subst (λ z. Replies l x z v b) c p) q;
    reading = λ k i y c q.
        let P : Call → Type 0 = λ z. Judged l.model x.stages x.marks e.values_lent e.words_lent (length x.lines) (Fitting x.marks x.lines) z v in
        read_told x e.values_lent e.words_lent (Fitting x.marks x.lines) k i v b y (subst P c d) (subst (λ z. Replies l x z v b) c p) q;
    bounded = λ r q. rounds_told x e.values_lent e.words_lent (Fitting x.marks x.lines) e.call v b r d p q;
  }

  pub all_told : {w t : Sheet V} {h : List (Past V)} (x : Account V) → Stands l x w → Run l w h t → AllTold l x h
  all_told x st still = none_told
  all_told {w} x st (more {p = p} m r) =
      let one = goes l x w p.event p.reply _ st m in
      one_told one.0 (told_by x w st p.event one.0 p.reply one.1 one.2) (all_told (onward l.model x p.event.call one.0) one.3 r)

  -- ---- refused calls leave no trace

  does_not_refuse : (w : Sheet V) (c : Call) (new : List _) (b : Reply V) (u : Sheet V) (r : Refusal) → Does l w c new b u → b ≡ refused r → ⊥
  does_not_refuse w (arrow i j v) new b u r d q = let e = d.0 in no_way (cc)
  does_not_refuse w (mark i k v) new b u r d q = let e = d.0 in no_way (cc)
  does_not_refuse w (line y) new b u r d q = let e = d.0 in no_way (cc)
  does_not_refuse w (text ns bs) new b u r d q = let e = d.0 in no_way (cc)
  does_not_refuse w settle new b u r d q = let e = d.answered in no_way (cc)
  does_not_refuse w (read_at k i) new b u r d q = let e = d.0 in no_way (cc)
  does_not_refuse w reopen new b u r d q = let e = d.0 in no_way (cc)

  refused_stays : (x : Account V) (w : Sheet V) (e : Event) (b : Reply V) (t : Sheet V) (r : Refusal) → b ≡ refused r → Stands l x w → Moves l w e b t → t ≡ w
  refused_stays x w e b t r q st m =
      let P : Sheet V → Type 0 = λ k. Moves l k e b t in
      there (subst P st.is m) ∙ sym st.is
    where
      there : Moves l (on x st.state st.values st.lines) e b t → t ≡ on x st.state st.values st.lines
      there m =
          let w' = on x st.state st.values st.lines in
          m.whole ∙ by_verdict m.step.verdict m.to m.step.ends m.within_values m.within_words
        where
          by_verdict : (v : Verdict) (to : Sheet V) → Ends l (lent_to e (on x st.state st.values st.lines)) e.call v b to →
              e.values_lent ≤ length st.values → e.words_lent ≤ length st.lines →
              back e (on x st.state st.values st.lines) to ≡ on x st.state st.values st.lines
          by_verdict (refuse s) to d hv hw =
              ap (back e (on x st.state st.values st.lines)) d.1 ∙ left_back l x st.state st.values st.lines e st.agrees hv hw (wipes e.call s)
          by_verdict (accept new) to d hv hw = absurd (does_not_refuse (lent_to e (on x st.state st.values st.lines)) e.call new b to r d q)

  struck_runs : {w t : Sheet V} {h g : List (Past V)} (x : Account V) → Stands l x w → Run l w h t → Struck h g → Run l w g t
  struck_runs x st still nothing = still
  struck_runs {w} x st (more {p = p} m r) (keeps s) =
      let one = goes l x w p.event p.reply _ st m in
      more m (struck_runs (onward l.model x p.event.call one.0) one.3 r s)
  struck_runs {w} {t} x st (more {p = p} m r) (strikes {g = g} k e s) =
      let one = goes l x w p.event p.reply _ st m in
      subst (λ z. Run l z g t) (refused_stays x w p.event p.reply _ k e st m) (struck_runs (onward l.model x p.event.call one.0) one.3 r s)

  -- ---- the account determines the answers

  accepted_once : (x : Account V) (vs ws : ℕ) (P : Type 0) (c : Call) (new : List _) (b d : Reply V) →
      Judged l.model x.stages x.marks vs ws (length x.lines) P c (accept new) → Accepted l x c b → Accepted l x c d → b ≡ d
  accepted_once x vs ws P (arrow i j v) new b d f p q = p ∙ sym q
  accepted_once x vs ws P (mark i k v) new b d f p q = p ∙ sym q
  accepted_once x vs ws P (line w) new b d f p q = p ∙ sym q
  accepted_once x vs ws P (text ns bs) new b d f p q = p ∙ sym q
  accepted_once x vs ws P settle new b d f p q = p.1 ∙ ap rounds (count_once (ops l) (plan x) x.lines p.0 q.0 p.2 q.2) ∙ sym q.1
  accepted_once x vs ws P (read_at k i) new b d f p q =
      let m = known (small_at l.model x.stages x.marks vs ws (length x.lines) P k i new f) in
      p.1 ∙ ap value (m.once (plan x) (formula x.lines k) p.0 q.0 p.2 q.2 i p.3) ∙ sym q.1
  accepted_once x vs ws P reopen new b d f p q = p ∙ sym q

  replies_once : (x : Account V) (vs ws : ℕ) (P : Type 0) (c : Call) (v : Verdict) (b d : Reply V) →
      Judged l.model x.stages x.marks vs ws (length x.lines) P c v → Replies l x c v b → Replies l x c v d → b ≡ d
  replies_once x vs ws P c (refuse r) b d f p q = p ∙ sym q
  replies_once x vs ws P c (accept new) b d f p q = accepted_once x vs ws P c new b d f p q

  same_head : {A : Type 0} (a b : A) (xs ys : List A) → a ∷ xs ≡ b ∷ ys → a ≡ b
  same_head a b xs ys e = cc

  same_tail : {A : Type 0} (a b : A) (xs ys : List A) → a ∷ xs ≡ b ∷ ys → xs ≡ ys
  same_tail a b xs ys e = cc

  not_empty : {A : Type 0} {B : Type 0} (a : A) (xs : List A) → a ∷ xs ≡ [] → B
  not_empty a xs e = no_way (cc)

  alike : {w u t z : Sheet V} {f g : List (Past V)} (x : Account V) → Stands l x w → Stands l x u → events f ≡ events g → Run l w f t → Run l u g z → f ≡ g
  alike x sw su e still still = refl
  alike x sw su e still (more {p = p} {h = h} m r) = not_empty p.event (events h) (sym e)
  alike x sw su e (more {p = p} {h = h} m r) still = not_empty p.event (events h) e
  alike {w} {u} x sw su e (more {u = w1} {p = p} {h = h} m r) (more {u = u1} {p = q} {h = k} n s) =
      let here : p.event ≡ q.event = same_head p.event q.event (events h) (events k) e in
      let rest : events h ≡ events k = same_tail p.event q.event (events h) (events k) e in
      let P : Event → Type 0 = λ y. Moves l u y q.reply u1 in
      let one = goes l x w p.event p.reply w1 sw m in
      let two = goes l x u p.event q.reply u1 su (subst P (sym here) n) in
      let v : one.0 ≡ two.0 = judges_once x w sw p.event one.0 two.0 one.1 two.1 in
      let Q : Verdict → Type 0 = λ y. Replies l x p.event.call y q.reply in
      let S : Verdict → Type 0 = λ y. Stands l (onward l.model x p.event.call y) u1 in
      let b : p.reply ≡ q.reply =
      replies_once x p.event.values_lent p.event.words_lent (Fitting x.marks x.lines) p.event.call one.0 p.reply q.reply one.1 one.2 (subst Q (sym v) two.2) in
      let tails : h ≡ k = alike (onward l.model x p.event.call one.0) one.3 (subst S (sym v) two.3) rest r s in
      ap (λ y. record { event = y; reply = p.reply } ∷ h) here ∙ ap (λ y. record { event = q.event; reply = y } ∷ h) b ∙ ap (λ y. q ∷ y) tails

  -- ---- the law

  -- an opened sheet stands for the account of an open
  opened_stands : (n a : ℕ) (s : List V) (ws : List ℕ) (w : Sheet V) → a ≤ 16 → Opened l n a s ws w → Stands l (opening l.model n a) w
  opened_stands n a s ws w h is =
      let low = l.model.lowest in
      record {
        state = drafting;
        values = replicate (length s) low;
        lines = replicate (length ws) 0;
        is = is;
        agrees = record {
          few = omega arith;
          few_marks = h;
          arrows = λ i j hi hj. always low (length s) (arrow_place n i j);
          marked = λ i k hi hk. always low (length s) (mark_place n a i k);
          fit = λ k p. absurd (omega arith);
          words = λ k p. absurd (omega arith);
          tail = λ k p. always 0 (length ws) k;
          answers = λ p. absurd (apart drafting refl p);
          valid = λ p. absurd (apart drafting refl p);
        };
      }

  few_marks : (n a vs ws : ℕ) → OpensAs l.model n a vs ws (accept []) → a ≤ 16
  few_marks n a vs ws d = (passed d).0.2

  pub begins : (n a : ℕ) (s t : List V) (ws xs : List ℕ) (r : Result Draft Refusal) → Opens l n a s ws r t xs → Begins l n a r t xs
  begins n a s t ws xs (Ok d) op = λ h u r.
      let st = opened_stands n a s ws (draft_on d t xs) (few_marks n a (length s) (length ws) op.0) op.1 in
      record {
        told = all_told (opening l.model n a) st r;
        no_trace = λ g k. record {
          runs = struck_runs (opening l.model n a) st r k;
          alike = λ f v same rf. alike (opening l.model n a) st st same rf (struck_runs (opening l.model n a) st r k);
        };
      }
  begins n a s t ws xs (Err r) op = tt

  open_told : (n a : ℕ) (s t : List V) (ws xs : List ℕ) (r : Result Draft Refusal) → Opens l n a s ws r t xs → OpensAs l.model n a (length s) (length ws) (open_verdict r)
  open_told n a s t ws xs (Ok d) op = op.0
  open_told n a s t ws xs (Err r) op = op.0

  pub law : Law l
  law n a s t ws xs r op = (open_told n a s t ws xs r op, begins n a s t ws xs r op)

  -- ---- a step on what any run lends

  accounts : {w t : Sheet V} {h : List (Past V)} (x : Account V) → Stands l x w → Run l w h t → (y : Account V) × Accounts l x h y × Stands l y t
  accounts x st still = (x, so_far, st)
  accounts {w} x st (more {p = p} m r) =
      let one = goes l x w p.event p.reply _ st m in
      let rest = accounts (onward l.model x p.event.call one.0) one.3 r in
      (rest.0, and_then one.0 one.1 rest.1, rest.2)

  pub tells : (w : Sheet V) (c : Call) (b : Reply V) (u : Sheet V) → Step l w c b u → Tells l w c b
  tells w c b u st n a s t ws xs d op h v r e call_is hv hw part =
      let from = opened_stands n a s ws (draft_on d t xs) (few_marks n a (length s) (length ws) op.0) op.1 in
      let now = accounts (opening l.model n a) from r in
      let P : Sheet V → Type 0 = λ z. Step l z e.call b u in
      let Q : Call → Type 0 = λ z. Step l w z b u in
      let m : Moves l v e b (back e v u) = record { within_values = hv; within_words = hw; to = u; step = subst P (sym part) (subst Q (sym call_is) st); whole = refl } in
      let one = goes l now.0 v e b (back e v u) now.2 m in
      (now.0, now.1, (one.0, told_by now.0 v now.2 e one.0 b one.1 one.2))
