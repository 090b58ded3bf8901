-- A sheet with its memory stands for an account, and goes on to as calls are made.
use Rattle.std.proofs.Common.{◌≡◌, ℕ, ◌+◌, ◌-◌, ◌<◌, ◌≤◌, Bool, true, false, cond, ◌&&◌, eqb, ◌≢◌, ◌⊎◌, List, [], ◌∷◌, ◌++◌, map, length, get_or, take, drop, set, sym, refl, ap, ◌∙◌, subst, inl, inr, ⊎_elim, arith}
use lib.Seq.{sets}
use Rattle.std.proofs.lemmas.Bool.{cases_lt, eq-eqb, eqb-true, and_parts, and_from, both_ways, cond-true}
use Rattle.std.proofs.lemmas.List.{length-append, length-map, get_or-map, get_or-take, get_or_past, get_or_append_left, get_or-append_right, get_or-set_same, get_or-set_other, length-take-le, take-append-drop}
use Rattle.scale.specs.Model.{Model, read}
use Rattle.lines.specs.declared.Line.{Line}
use Rattle.lines.specs.declared.Line.TheVariants.{False}
use Rattle.lines.specs.Word.{word_of, FitsAt}
use Rattle.formula.specs.Grammar.{Tree}
use Rattle.ctl.specs.Operations.{Valid}
use Rattle.ctl.specs.Values.{Row, Value}
use Rattle.ctl.proofs.Alike.{value_same}
use Rattle.sheet.specs.declared.state.Refusal.{Refusal}
use Rattle.sheet.specs.declared.state.Refusal.TheVariants.{Line as BadLine}
use Rattle.sheet.specs.Layout.{room, arrow_place, mark_place, answer_row}
use Rattle.sheet.specs.Lines.{formula, tree_lines, Fitting, Says, GreatestCount}
use Rattle.sheet.specs.Sheet.{LogicOf, ops, Phase, drafting, settled, Sheet, Call, arrow, mark, line, text, settle, read_at, reopen, Reply, done, rounds, value, refused, Permits, Verdict, refuse, accept, needs, accepts, lent, Judged, plan_in, answers_in, Settles, wipes, left, Ends}
use Rattle.sheet.specs.Account.{Event, Account, plan, Judges, taken, onward}
use Rattle.sheet.specs.Runs.{lent_to, back, Moves}
use Rattle.sheet.proofs.Alike.{Agreeing, value_alike}
use Rattle.sheet.proofs.Formulas.{says_once, formula_bounded, count_alike}
use Rattle.sheet.proofs.Memory.{set_front, sets_front, sets_off, sets_at, cleared_same, back_before}
use Rattle.sheet.proofs.Places.{arrow_within, mark_within, entries_first, answer_within, entries_within, entry_elsewhere, arrow_row, arrow_column, mark_rest}
use Rattle.sheet.proofs.Trees.{Marked, size_lines, tree_fits, spelled_marks}

-- the sheet of an account's numbers, with a state and a memory
abbrev pub on : {V : Type 0} → Account V → Phase → List V → List ℕ → Sheet V
on x ph s ws = record { phase = ph; stages = x.stages; marks = x.marks; lines = length x.lines; stretch = s; words = ws }

-- the memory holds the account's entries and lines, and in a settled sheet the values of its lines
pub record Agrees {V : Type 0} (l : LogicOf V) (x : Account V) (ph : Phase) (s : List V) (ws : List ℕ) : Type 0 where
  pub few : length x.lines ≤ 64
  pub few_marks : x.marks ≤ 16
  pub arrows : (i j : ℕ) → i < x.stages → j < x.stages → get_or s (arrow_place x.stages i j) l.model.lowest ≡ x.arrows i j
  pub marked : (i k : ℕ) → i < x.stages → k < x.marks → get_or s (mark_place x.stages x.marks i k) l.model.lowest ≡ x.marked i k
  pub fit : Fitting x.marks x.lines
  pub words : (k : ℕ) → k < length x.lines → word_of (get_or x.lines k False) ≡ get_or ws k 0
  pub tail : (k : ℕ) → length x.lines ≤ k → get_or ws k 0 ≡ 0
  pub answers : ph ≡ settled → (k : ℕ) → k < length x.lines → Value (ops l) (plan x) (formula x.lines k) (answers_in l.model x.stages x.marks s k)
  pub valid : ph ≡ settled → (k i : ℕ) → k < length x.lines → i < x.stages → Valid (ops l) (answers_in l.model x.stages x.marks s k i)

pub record Stands {V : Type 0} (l : LogicOf V) (x : Account V) (w : Sheet V) : Type 0 where
  pub state : Phase
  pub values : List V
  pub lines : List ℕ
  pub is : w ≡ on x state values lines
  pub agrees : Agrees l x state values lines

-- what the account says that an accepted call answers
abbrev pub Accepted : {V : Type 0} → LogicOf V → Account V → Call → Reply V → Type 0
Accepted l x (arrow i j v) b = b ≡ done
Accepted l x (mark i k v) b = b ≡ done
Accepted l x (line y) b = b ≡ done
Accepted l x (text ns bs) b = b ≡ done
Accepted l x settle b = (r : ℕ) × (b ≡ rounds r) × GreatestCount (ops l) (plan x) x.lines r
Accepted {V} l x (read_at k i) b = (z : Row V) × (b ≡ value (z i)) × Value (ops l) (plan x) (formula x.lines k) z × (i < x.stages)
Accepted l x reopen b = b ≡ done

abbrev pub Replies : {V : Type 0} → LogicOf V → Account V → Call → Verdict → Reply V → Type 0
Replies l x c (refuse r) b = b ≡ refused r
Replies l x c (accept new) b = Accepted l x c b

-- ---- small facts

pub apart : (p : Phase) → p ≡ drafting → p ≡ settled → ⊥
apart p f g = let z : ◌≡◌ {A = ℕ} 0 1 = cc in omega arith

both : (a i b j : ℕ) → (eqb a i && eqb b j) ≡ true → (a ≡ i) × (b ≡ j)
both a i b j z = let w = and_parts (eqb a i) (eqb b j) z in (eqb-true a i w.0, eqb-true b j w.1)

neither : (a i b j : ℕ) → (eqb a i && eqb b j) ≡ false → a ≡ i → b ≡ j → ⊥
neither a i b j z f g = both_ways (eqb a i && eqb b j) z (and_from (eqb a i) (eqb b j) (eq-eqb a i f) (eq-eqb b j g))

-- ---- the checks

never : {r : Refusal} {new : List Line} → accept new ≡ refuse r → ⊥
never e = let z : ◌≡◌ {A = ℕ} 0 1 = cc in omega arith

-- a call that is accepted has passed the check
pub passed : {A B : Type 0} {r : Refusal} {new : List Line} → ((A × (accept new ≡ refuse r)) ⊎ B) → B
passed (inl p) = absurd (never p.1)
passed (inr q) = q

same_new : (new old : List Line) → accept new ≡ accept old → new ≡ old
same_new new old e = cc

module _ {V : Type 0} (m : Model V) (n a vs ws : ℕ) where
  lent_map : (P Q : Verdict → Type 0) (v : Verdict) → (64 ≤ ws → P v → Q v) → lent m n a vs ws P v → lent m n a vs ws Q v
  lent_map P Q v f (inl p) = inl p
  lent_map P Q v f (inr (x, inl p)) = inr (x, inl p)
  lent_map P Q v f (inr (x, inr (y, inl p))) = inr (x, inr (y, inl p))
  lent_map P Q v f (inr (x, inr (y, inr (z, p)))) = inr (x, inr (y, inr (z, f z p)))

  -- what says that the words are in order can be said otherwise
  pub in_order : (count : ℕ) (P Q : Type 0) (c : Call) (v : Verdict) → (64 ≤ ws → P → Q) → (64 ≤ ws → Q → P) → Judged m n a vs ws count P c v → Judged m n a vs ws count Q c v
  in_order count P Q (arrow i j k) v f g d = d
  in_order count P Q (mark i j k) v f g d = d
  in_order count P Q (line w) v f g d = d
  in_order count P Q (text ns bs) v f g d = d
  in_order count P Q settle v f g d =
      lent_map (needs P BadLine (λ _. accepts [])) (needs Q BadLine (λ _. accepts [])) v (λ h. ⊎_elim (λ p. inl ((λ q. p.0 (g h q)), p.1)) (λ p. inr (f h p.0, p.1))) d
  in_order count P Q (read_at k i) v f g d = d
  in_order count P Q reopen v f g d = d

-- ---- one call on what is lent of a sheet that stands for an account

module _ {V : Type 0} (l : LogicOf V) (x : Account V) (ph : Phase) (s : List V) (ws : List ℕ) (e : Event) (ok : Agrees l x ph s ws)
    (vs_in : e.values_lent ≤ length s) (ws_in : e.words_lent ≤ length ws) where
  values_size : length (take e.values_lent s) ≡ e.values_lent
  values_size = length-take-le e.values_lent s vs_in

  words_size : length (take e.words_lent ws) ≡ e.words_lent
  words_size = length-take-le e.words_lent ws ws_in

  -- the account's lines are what the words lent say
  says_lines : 64 ≤ e.words_lent → Says x.marks (length x.lines) (take e.words_lent ws) x.lines
  says_lines h = record {
    all = refl;
    words = λ k p. ok.words k p ∙ sym (get_or-take e.words_lent ws k 0 (let few = ok.few in omega arith));
    fit = ok.fit;
  }

  judges : (v : Verdict) →
      Judged l.model x.stages x.marks (length (take e.values_lent s)) (length (take e.words_lent ws)) (length x.lines) ((ls : List Line) × Says x.marks (length x.lines) (take e.words_lent ws) ls) e.call v →
      Judges l.model x e v
  judges v d =
      in_order l.model x.stages x.marks e.values_lent e.words_lent (length x.lines) _ (Fitting x.marks x.lines) e.call v
      (λ h p. ok.fit) (λ h p. (x.lines, says_lines h))
      (subst (λ k. Judged l.model x.stages x.marks k e.words_lent (length x.lines) ((ls : List Line) × Says x.marks (length x.lines) (take e.words_lent ws) ls) e.call v) values_size
      (subst (λ k. Judged l.model x.stages x.marks (length (take e.values_lent s)) k (length x.lines) ((ls : List Line) × Says x.marks (length x.lines) (take e.words_lent ws) ls) e.call v) words_size d))

  values_back : take e.values_lent s ++ drop e.values_lent s ≡ s
  values_back = take-append-drop e.values_lent s

  words_back : take e.words_lent ws ++ drop e.words_lent ws ≡ ws
  words_back = take-append-drop e.words_lent ws

  -- a refused call leaves everything as it stood: the words after the last line are zero already
  lent_tail : (i : ℕ) → length x.lines ≤ i → get_or (take e.words_lent ws) i 0 ≡ 0
  lent_tail i h =
      ⊎_elim (λ p. get_or-take e.words_lent ws i 0 p ∙ ok.tail i h)
      (λ p. get_or_past (take e.words_lent ws) i 0 (omega (arith, words_size))) (cases_lt i e.words_lent)

  pub left_back : (b : Bool) → back e (on x ph s ws) (left b (lent_to e (on x ph s ws))) ≡ on x ph s ws
  left_back true =
      ap (λ k. on x ph (take e.values_lent s ++ drop e.values_lent s) (k ++ drop e.words_lent ws)) (cleared_same (length x.lines) (take e.words_lent ws) lent_tail)
      ∙ ap (λ k. on x ph k (take e.words_lent ws ++ drop e.words_lent ws)) values_back ∙ ap (on x ph s) words_back
  left_back false = ap (λ k. on x ph k (take e.words_lent ws ++ drop e.words_lent ws)) values_back ∙ ap (on x ph s) words_back

  -- an entry: its place is set in the whole stretch
  entry_back : (p : ℕ) (v : V) → p < e.values_lent → (t : Sheet V) → t ≡ back e (on x ph s ws) (on x ph (set (take e.values_lent s) p v) (take e.words_lent ws)) → t ≡ on x ph (set s p v) ws
  entry_back p v h t q =
      q ∙ ap (λ k. on x ph k (take e.words_lent ws ++ drop e.words_lent ws)) (set_front e.values_lent p s v h) ∙ ap (on x ph (set s p v)) words_back

  entry_read : (p q : ℕ) (v old : V) → (b : Bool) → p < length s → (b ≡ true → q ≡ p) → (b ≡ false → q ≡ p → ⊥) → get_or s q l.model.lowest ≡ old →
      get_or (set s p v) q l.model.lowest ≡ cond b v old
  entry_read p q v old true h f g is = ap (λ k. get_or (set s p v) k l.model.lowest) (f refl) ∙ get_or-set_same s p v l.model.lowest h
  entry_read p q v old false h f g is = let ne : q ≢ p = g refl in get_or-set_other s p q v l.model.lowest ne ∙ is

  arrow_goes : (i j v : ℕ) → ph ≡ drafting → room x.stages x.marks ≤ e.values_lent → i < x.stages → j < x.stages → (new : List Line) →
      (t : Sheet V) → t ≡ back e (on x ph s ws) (on x ph (set (take e.values_lent s) (arrow_place x.stages i j) (l.model.value v)) (take e.words_lent ws)) →
      Stands l (taken l.model x (arrow i j v) new) t
  arrow_goes i j v draft roomy hi hj new t q =
      let n = x.stages in
      let p = arrow_place n i j in
      let y = l.model.value v in
      let inside : p < e.values_lent = omega (arith, arrow_within n i j hi hj, entries_first n x.marks, entries_within n x.marks) in
      let within : p < length s = omega arith in
      record {
        state = ph;
        values = set s p y;
        lines = ws;
        is = entry_back p y inside t q;
        agrees = record {
          few = ok.few;
          few_marks = ok.few_marks;
          fit = ok.fit;
          words = ok.words;
          tail = ok.tail;
          arrows = λ a b ha hb.
              entry_read p (arrow_place n a b) y (x.arrows a b) (eqb a i && eqb b j) within
              (λ z. let w = both a i b j z in ap (λ k. arrow_place n k b) w.0 ∙ ap (arrow_place n i) w.1)
              (λ z same. neither a i b j z (arrow_row n a b i j hb hj same) (arrow_column n a b i j hb hj same))
              (ok.arrows a b ha hb);
          marked = λ a k ha hk.
              get_or-set_other s p (mark_place n x.marks a k) y l.model.lowest (λ z. omega (arith, arrow_within n i j hi hj)) ∙ ok.marked a k ha hk;
          answers = λ z. absurd (apart ph draft z);
          valid = λ z. absurd (apart ph draft z);
        };
      }

  mark_goes : (i j v : ℕ) → ph ≡ drafting → room x.stages x.marks ≤ e.values_lent → i < x.stages → j < x.marks → (new : List Line) →
      (t : Sheet V) → t ≡ back e (on x ph s ws) (on x ph (set (take e.values_lent s) (mark_place x.stages x.marks i j) (l.model.value v)) (take e.words_lent ws)) →
      Stands l (taken l.model x (mark i j v) new) t
  mark_goes i j v draft roomy hi hj new t q =
      let n = x.stages in
      let a = x.marks in
      let p = mark_place n a i j in
      let y = l.model.value v in
      let inside : p < e.values_lent = omega (arith, mark_within n a i j hi hj, entries_within n a) in
      let within : p < length s = omega arith in
      record {
        state = ph;
        values = set s p y;
        lines = ws;
        is = entry_back p y inside t q;
        agrees = record {
          few = ok.few;
          few_marks = ok.few_marks;
          fit = ok.fit;
          words = ok.words;
          tail = ok.tail;
          arrows = λ b c hb hc.
              get_or-set_other s p (arrow_place n b c) y l.model.lowest (λ z. omega (arith, arrow_within n b c hb hc)) ∙ ok.arrows b c hb hc;
          marked = λ b k hb hk.
              entry_read p (mark_place n a b k) y (x.marked b k) (eqb b i && eqb k j) within
              (λ z. let w = both b i k j z in ap (λ r. mark_place n a r k) w.0 ∙ ap (mark_place n a i) w.1)
              (λ z same. neither b i k j z (arrow_row a b k i j hk hj (mark_rest n a b k i j same)) (arrow_column a b k i j hk hj (mark_rest n a b k i j same)))
              (ok.marked b k hb hk);
          answers = λ z. absurd (apart ph draft z);
          valid = λ z. absurd (apart ph draft z);
        };
      }

  -- lines are appended: their words stand behind those of the lines that were there
  append_goes : (y : Account V) (new : List Line) → y ≡ record { stages = x.stages; marks = x.marks; arrows = x.arrows; marked = x.marked; lines = x.lines ++ new } →
      ph ≡ drafting → 64 ≤ e.words_lent → length x.lines + length new ≤ 64 →
      ((i : ℕ) → i < length new → FitsAt (length x.lines + i) x.marks (get_or new i False)) →
      (t : Sheet V) → t ≡ back e (on x ph s ws) (record { phase = ph; stages = x.stages; marks = x.marks; lines = length x.lines + length new; stretch = take e.values_lent s; words = sets (take e.words_lent ws) (length x.lines) (map word_of new) }) →
      Stands l y t
  append_goes y new yis draft wordy room_left fits t q =
      let k0 = length x.lines in
      let z = x.lines ++ new in
      let size : length z ≡ k0 + length new = length-append x.lines new in
      let vs = map word_of new in
      let size2 : length vs ≡ length new = length-map new word_of in
      let ws2 = sets ws k0 vs in
      subst (λ k. Stands l k t) (sym yis) (record {
        state = ph;
        values = s;
        lines = ws2;
        is =
            q
            ∙ ap (λ k. record { phase = ph; stages = x.stages; marks = x.marks; lines = k0 + length new; stretch = k; words = sets (take e.words_lent ws) k0 vs ++ drop e.words_lent ws }) values_back
            ∙ ap (λ k. record { phase = ph; stages = x.stages; marks = x.marks; lines = k0 + length new; stretch = s; words = k }) (sets_front e.words_lent k0 ws vs (omega arith))
            ∙ ap (λ k. record { phase = ph; stages = x.stages; marks = x.marks; lines = k; stretch = s; words = ws2 }) (sym size);
        agrees = record {
          few = omega arith;
          few_marks = ok.few_marks;
          arrows = ok.arrows;
          marked = ok.marked;
          fit = λ k h.
              ⊎_elim
              (λ p. subst (FitsAt k x.marks) (sym (get_or_append_left x.lines new False k p)) (ok.fit k p))
              (λ p.
              let at : k0 + (k - k0) ≡ k = omega arith in
              subst (FitsAt k x.marks) (sym (get_or-append_right x.lines new k0 k False refl p))
              (subst (λ r. FitsAt r x.marks (get_or new (k - k0) False)) at (fits (k - k0) (omega arith))))
              (cases_lt k k0);
          words = λ k h.
              ⊎_elim
              (λ p. ap word_of (get_or_append_left x.lines new False k p) ∙ ok.words k p ∙ sym (sets_off 0 k0 ws vs k (inl p)))
              (λ p.
              let at : k0 + (k - k0) ≡ k = omega arith in
              ap word_of (get_or-append_right x.lines new k0 k False refl p)
              ∙ sym (get_or-map word_of new (k - k0) False 0 (omega arith))
              ∙ sym (sets_at 0 k0 ws vs (k - k0) (omega arith) (omega arith))
              ∙ ap (λ r. get_or ws2 r 0) at)
              (cases_lt k k0);
          tail = λ k h. sets_off 0 k0 ws vs k (inr (omega arith)) ∙ ok.tail k (omega arith);
          answers = λ f. absurd (apart ph draft f);
          valid = λ f. absurd (apart ph draft f);
        };
      })

  -- settling
  entry_lent : (p : ℕ) → room x.stages x.marks ≤ e.values_lent → p < answer_row x.stages x.marks 0 → get_or (take e.values_lent s) p l.model.lowest ≡ get_or s p l.model.lowest
  entry_lent p roomy h = get_or-take e.values_lent s p l.model.lowest (omega (arith, entries_within x.stages x.marks))

  agreeing : room x.stages x.marks ≤ e.values_lent →
      Agreeing x.stages x.marks (plan_in l.model x.stages x.marks (take e.values_lent s)).arrow x.arrows (plan_in l.model x.stages x.marks (take e.values_lent s)).mark x.marked
  agreeing roomy = record {
    arrows = λ i j hi hj.
        entry_lent (arrow_place x.stages i j) roomy (omega (arith, arrow_within x.stages i j hi hj, entries_first x.stages x.marks)) ∙ ok.arrows i j hi hj;
    marks = λ i k hi hk. entry_lent (mark_place x.stages x.marks i k) roomy (mark_within x.stages x.marks i k hi hk) ∙ ok.marked i k hi hk;
  }

  settle_goes : (b : Reply V) (to : Sheet V) → room x.stages x.marks ≤ e.values_lent → 64 ≤ e.words_lent → Settles l (lent_to e (on x ph s ws)) b to →
      (t : Sheet V) → t ≡ back e (on x ph s ws) to → Accepted l x settle b × Stands l x t
  settle_goes b to roomy wordy st t q =
      let n = x.stages in
      let a = x.marks in
      let low = l.model.lowest in
      let said : st.said ≡ x.lines = says_once a (length x.lines) (take e.words_lent ws) st.said x.lines ok.few (let f = ok.few_marks in omega arith) st.says (says_lines wordy) in
      let u = to.stretch in
      let whole : List V = u ++ drop e.values_lent s in
      let size : length u ≡ e.values_lent = st.same_length ∙ values_size in
      let kept : (p : ℕ) → p < answer_row n a 0 → get_or whole p low ≡ get_or s p low =
      λ p h.
      back_before low e.values_lent u s p size (omega (arith, entries_within n a))
      ∙ st.kept p (entry_elsewhere n a (length x.lines) p h) ∙ entry_lent p roomy h in
      let row : (k i : ℕ) → k < length x.lines → i < n → get_or u (answer_row n a k + i) low ≡ get_or whole (answer_row n a k + i) low =
      λ k i hk hi.
      sym (back_before low e.values_lent u s (answer_row n a k + i) size (omega (arith, answer_within n a k i (let f = ok.few in omega arith) hi))) in (
        (
          st.reported,
          st.answered,
          count_alike (ops l) n a _ x.arrows _ x.marked (agreeing roomy) x.lines ok.fit st.reported
              (subst (λ k. GreatestCount (ops l) (plan_in l.model n a (take e.values_lent s)) k st.reported) said st.counts),
        ),
        record {
          state = settled;
          values = whole;
          lines = ws;
          is =
              q
              ∙ ap (λ k. record { phase = k; stages = to.stages; marks = to.marks; lines = to.lines; stretch = whole; words = to.words ++ drop e.words_lent ws }) st.state
              ∙ ap (λ k. record { phase = settled; stages = k; marks = to.marks; lines = to.lines; stretch = whole; words = to.words ++ drop e.words_lent ws }) st.same_stages
              ∙ ap (λ k. record { phase = settled; stages = n; marks = k; lines = to.lines; stretch = whole; words = to.words ++ drop e.words_lent ws }) st.same_marks
              ∙ ap (λ k. record { phase = settled; stages = n; marks = a; lines = k; stretch = whole; words = to.words ++ drop e.words_lent ws }) st.same_lines
              ∙ ap (λ k. on x settled whole (k ++ drop e.words_lent ws)) st.same_words
              ∙ ap (on x settled whole) words_back;
          agrees = record {
            few = ok.few;
            few_marks = ok.few_marks;
            fit = ok.fit;
            words = ok.words;
            tail = ok.tail;
            arrows = λ i j hi hj. kept (arrow_place n i j) (omega (arith, arrow_within n i j hi hj, entries_first n a)) ∙ ok.arrows i j hi hj;
            marked = λ i k hi hk. kept (mark_place n a i k) (mark_within n a i k hi hk) ∙ ok.marked i k hi hk;
            answers = λ f k h.
                value_same (ops l) (plan x) (formula x.lines k) (answers_in l.model n a u k) (answers_in l.model n a whole k) (λ i hi. row k i h hi)
                (value_alike (ops l) n a _ x.arrows _ x.marked (agreeing roomy) (formula x.lines k) (formula_bounded a x.lines ok.fit k) (answers_in l.model n a u k)
                (subst (λ r. Value (ops l) (plan_in l.model n a (take e.values_lent s)) (formula r k) (answers_in l.model n a u k)) said (st.values k h)));
            valid = λ f k i h hi. subst (Valid (ops l)) (row k i h hi) (st.valid k i h hi);
          };
        },
      )

  -- reading
  read_answer : (k i : ℕ) → ph ≡ settled → room x.stages x.marks ≤ e.values_lent → k < length x.lines → i < x.stages →
      read l.model (answers_in l.model x.stages x.marks (take e.values_lent s) k i) ≡ answers_in l.model x.stages x.marks s k i
  read_answer k i set roomy h hi =
      let low = l.model.lowest in
      let p = answer_row x.stages x.marks k + i in
      let few = ok.few in
      ap (read l.model) (get_or-take e.values_lent s p low (omega (arith, answer_within x.stages x.marks k i (omega arith) hi)))
      ∙ cond-true (l.model.valid (get_or s p low)) (get_or s p low) low (ok.valid set k i h hi)

  same_back : (t : Sheet V) → t ≡ back e (on x ph s ws) (lent_to e (on x ph s ws)) → t ≡ on x ph s ws
  same_back t q = q ∙ ap (λ k. on x ph k (take e.words_lent ws ++ drop e.words_lent ws)) values_back ∙ ap (on x ph s) words_back

  reopen_goes : (t : Sheet V) → t ≡ back e (on x ph s ws) (on x drafting (take e.values_lent s) (take e.words_lent ws)) → Stands l x t
  reopen_goes t q = record {
    state = drafting;
    values = s;
    lines = ws;
    is = q ∙ ap (λ k. on x drafting k (take e.words_lent ws ++ drop e.words_lent ws)) values_back ∙ ap (on x drafting s) words_back;
    agrees = record {
      few = ok.few;
      few_marks = ok.few_marks;
      arrows = ok.arrows;
      marked = ok.marked;
      fit = ok.fit;
      words = ok.words;
      tail = ok.tail;
      answers = λ f. absurd (apart drafting refl f);
      valid = λ f. absurd (apart drafting refl f);
    };
  }

  -- which state a call that is permitted meets
  read_state : (p : Phase) (k i : ℕ) → Permits p (read_at k i) → p ≡ settled
  read_state drafting k i h = absurd h
  read_state settled k i h = refl

  drafted : (p : Phase) (c : Call) → Permits p c → Permits settled c ≡ ⊥ → p ≡ drafting
  drafted drafting c h z = refl
  drafted settled c h z = absurd (subst (λ k. k) z h)

  fits_one : (new : List Line) (y : Line) → new ≡ y ∷ [] → FitsAt (length x.lines) x.marks y → (i : ℕ) → i < length new → FitsAt (length x.lines + i) x.marks (get_or new i False)
  fits_one new y is f i h =
      let k0 = length x.lines in
      let z : i ≡ 0 = let len = ap length is in omega arith in
      let at : k0 ≡ k0 + 0 = omega arith in
      subst (λ k. FitsAt (k0 + k) x.marks (get_or new k False)) (sym z)
      (subst (λ k. FitsAt (k0 + 0) x.marks (get_or k 0 False)) (sym is) (subst (λ k. FitsAt k x.marks y) at f))

  fits_tree : (new : List Line) (y : Tree) → new ≡ tree_lines (length x.lines) y → Marked x.marks y → (i : ℕ) → i < length new → FitsAt (length x.lines + i) x.marks (get_or new i False)
  fits_tree new y is f i h =
      let k0 = length x.lines in
      let len = ap length is ∙ size_lines k0 y in
      subst (λ k. FitsAt (k0 + i) x.marks (get_or k i False)) (sym is) (tree_fits x.marks k0 y f i (omega arith))

  by_call : (c : Call) (v : Verdict) → Permits ph c →
      Judged l.model x.stages x.marks e.values_lent e.words_lent (length x.lines) (Fitting x.marks x.lines) c v →
      (b : Reply V) (to : Sheet V) → Ends l (lent_to e (on x ph s ws)) c v b to → (t : Sheet V) → t ≡ back e (on x ph s ws) to →
      Replies l x c v b × Stands l (onward l.model x c v) t
  by_call c (refuse r) may d b to ends t q =
      (ends.0, record { state = ph; values = s; lines = ws; is = q ∙ ap (back e (on x ph s ws)) ends.1 ∙ left_back (wipes c r); agrees = ok })
  by_call (arrow i j v) (accept new) may d b to ends t q =
      let roomy = passed (passed d).1 in
      let stages = passed (passed roomy.1).1 in
      (ends.0, arrow_goes i j v (drafted ph (arrow i j v) may refl) roomy.0 stages.0.0 stages.0.1 new t (q ∙ ap (back e (on x ph s ws)) ends.1))
  by_call (mark i j v) (accept new) may d b to ends t q =
      let roomy = passed (passed d).1 in
      let stage = passed (passed roomy.1).1 in
      (ends.0, mark_goes i j v (drafted ph (mark i j v) may refl) roomy.0 stage.0 (passed stage.1).0 new t (q ∙ ap (back e (on x ph s ws)) ends.1))
  by_call (line w) (accept new) may d b to ends t q =
      let wordy = passed (passed (passed d).1).1 in
      let free = passed wordy.1 in
      let said = passed free.1 in
      let is : new ≡ said.0.0 ∷ [] = same_new new (said.0.0 ∷ []) said.1 in
      let len = ap length is in
      let left_over = free.0 in
      (ends.0, append_goes _ new refl (drafted ph (line w) may refl) wordy.0 (omega arith) (fits_one new said.0.0 is said.0.2) t (q ∙ ap (back e (on x ph s ws)) ends.1))
  by_call (text ns bs) (accept new) may d b to ends t q =
      let wordy = passed (passed (passed d).1).1 in
      let proper = passed wordy.1 in
      let tree = passed proper.1 in
      let fits = passed tree.1 in
      let is : new ≡ tree_lines (length x.lines) tree.0.0 = same_new new (tree_lines (length x.lines) tree.0.0) fits.1 in
      let len = ap length is ∙ size_lines (length x.lines) tree.0.0 in
      let small = fits.0 in
      let marks = subst (λ k. Marked k tree.0.0) proper.0.count (spelled_marks ns bs tree.0.0 tree.0.1.spelled) in
      (ends.0, append_goes _ new refl (drafted ph (text ns bs) may refl) wordy.0 (omega arith) (fits_tree new tree.0.0 is marks) t (q ∙ ap (back e (on x ph s ws)) ends.1))
  by_call settle (accept new) may d b to ends t q =
      let roomy = passed (passed d).1 in
      settle_goes b to roomy.0 (passed roomy.1).0 ends t q
  by_call (read_at k i) (accept new) may d b to ends t q =
      let roomy = passed (passed d).1 in
      let there = passed (passed roomy.1).1 in
      let stage = passed there.1 in
      let set = read_state ph k i may in (
        (answers_in l.model x.stages x.marks s k, ends.0 ∙ ap value (read_answer k i set roomy.0 there.0 stage.0), ok.answers set k there.0, stage.0),
        record { state = ph; values = s; lines = ws; is = same_back t (q ∙ ap (back e (on x ph s ws)) ends.1); agrees = ok },
      )
  by_call reopen (accept new) may d b to ends t q = (ends.0, reopen_goes t (q ∙ ap (back e (on x ph s ws)) ends.1))

-- One call of a run: the account judges it as the call's contract does, says its answer, and stands for the sheet that it leaves.
pub goes : {V : Type 0} (l : LogicOf V) (x : Account V) (w : Sheet V) (e : Event) (b : Reply V) (t : Sheet V) → Stands l x w → Moves l w e b t →
    (v : Verdict) × Judges l.model x e v × Replies l x e.call v b × Stands l (onward l.model x e.call v) t
goes {V} l x w e b t st m =
    let P : Sheet V → Type 0 = λ k. Moves l k e b t in
    there (subst P st.is m)
  where
    there : Moves l (on x st.state st.values st.lines) e b t → (v : Verdict) × Judges l.model x e v × Replies l x e.call v b × Stands l (onward l.model x e.call v) t
    there m =
        let step = m.step in
        let d = judges l x st.state st.values st.lines e st.agrees m.within_values m.within_words step.verdict step.judged in
        let r = by_call l x st.state st.values st.lines e st.agrees m.within_values m.within_words e.call step.verdict step.permitted d b m.to step.ends t m.whole in
        (step.verdict, d, r.0, r.1)
