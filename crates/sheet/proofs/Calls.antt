-- A call that is judged and does what its verdict says is a step, and the law holds of its answer.
use Rattle.std.proofs.Common.{◌≡◌, ℕ, true, false, List, [], length, Ok, Err, Result, is_ok, sym, refl, ◌∙◌, subst, arith}
use Rattle.std.specs.Result.{IsErrAnd, MatchResult}
use Rattle.std.proofs.lemmas.Bool.{both_ways}
use Rattle.scale.specs.Model.{Model}
use Rattle.scale.specs.Laws.{Lawful, Opposed}
use Rattle.ctl.proofs.Meant.{meant}
use Rattle.lines.specs.declared.Line.{Line}
use Rattle.sheet.specs.declared.state.Draft.{Draft}
use Rattle.sheet.specs.declared.state.Settled.{Settled}
use Rattle.sheet.specs.declared.state.Refusal.{Refusal}
use Rattle.sheet.specs.Lines.{Says}
use Rattle.sheet.specs.Logics.{logic_of}
use Rattle.sheet.specs.Runs.{Law, Tells}
use Rattle.sheet.specs.Sheet.{LogicOf, Sheet, Call, Reply, refused, entry_reply, read_reply, settle_reply, settle_sheet, draft_on, settle, Permits, Verdict, refuse, accept, Judged, Does, wipes, left, Step, OpensAs, Opens}
use Rattle.sheet.specs.Verdicts.{verdict_of}
use Rattle.sheet.proofs.Keeps.{law, tells}

module _ {V : Type 0} (m : Model V) (opposite : V → V) (partner : ℕ → ℕ) (lawful : Lawful m) (opposed : Opposed m opposite partner) where
  pub kept : Law (logic_of m opposite partner)
  kept = law (logic_of m opposite partner) (meant m opposite partner lawful opposed)

  pub told : (w : Sheet V) (c : Call) (b : Reply V) (u : Sheet V) → Step (logic_of m opposite partner) w c b u → Tells (logic_of m opposite partner) w c b
  told w c b u st = tells (logic_of m opposite partner) (meant m opposite partner lawful opposed) w c b u st

-- what the verdict on a sheet's call is judged by
abbrev pub JudgedOn : {V : Type 0} → LogicOf V → Sheet V → Call → Verdict → Type 0
JudgedOn l w c v = Judged l.model w.stages w.marks (length w.stretch) (length w.words) w.lines ((ls : List Line) × Says w.marks w.lines w.words ls) c v

pub refuses : {V : Type 0} (l : LogicOf V) (w : Sheet V) (c : Call) (r : Refusal) → Permits w.phase c → JudgedOn l w c (refuse r) → Step l w c (refused r) (left (wipes c r) w)
refuses l w c r may d = record { permitted = may; verdict = refuse r; judged = d; ends = (refl, refl) }

-- a call that answers a check's refusal
pub answers : {V : Type 0} (l : LogicOf V) (w : Sheet V) (c : Call) (a : Result Unit Refusal) (r : Refusal) (u : Sheet V) → IsErrAnd a (λ e. e ≡ r) → Step l w c (refused r) u → Step l w c (entry_reply a) u
answers l w c (Ok _) r u is st = absurd is
answers l w c (Err e) r u is st = subst (λ x. Step l w c (refused x) u) (sym is) st

pub reads : {V : Type 0} (l : LogicOf V) (w : Sheet V) (c : Call) (a : Result V Refusal) (r : Refusal) (u : Sheet V) → IsErrAnd a (λ e. e ≡ r) → Step l w c (refused r) u → Step l w c (read_reply a) u
reads l w c (Ok _) r u is st = absurd is
reads l w c (Err e) r u is st = subst (λ x. Step l w c (refused x) u) (sym is) st

-- a settling that hands the draft back
pub handed_back : {V : Type 0} (l : LogicOf V) (d : Draft) (s : List V) (ws : List ℕ) (b : Result (Settled × ℕ) (Draft × Refusal)) (x : Draft × Refusal) (r : Refusal) → IsErrAnd b (λ e. e ≡ x) → x ≡ (d, r) →
    JudgedOn l (draft_on d s ws) settle (refuse r) → Step l (draft_on d s ws) settle (settle_reply b) (settle_sheet b s ws)
handed_back l d s ws (Ok _) x r is at j = absurd is
handed_back {V} l d s ws (Err e) x r is at j =
    let P : Draft × Refusal → Type 0 = λ p. Step l (draft_on d s ws) settle (settle_reply {V = V} (Err p)) (settle_sheet (Err p) s ws) in
    subst P (sym (is ∙ at)) (refuses l (draft_on d s ws) settle r tt j)

-- what the check says, by its answer with the draft beside the refusal
pub beside_draft : (P : Verdict → Type 0) (d : Draft) (r : Result Unit Refusal) (m : Result Unit (Draft × Refusal)) (x : Draft × Refusal) → P (verdict_of r) →
    MatchResult r (λ u. m ≡ Ok u) (λ e. IsErrAnd m (λ y. y ≡ (d, e))) → m ≡ Err x → (q : Refusal) × (x ≡ (d, q)) × P (refuse q)
beside_draft P d (Ok u) m x j c was = let z : ◌≡◌ {A = ℕ} 0 1 = cc in absurd (omega arith)
beside_draft P d (Err q) (Ok u) x j c was = absurd c
beside_draft P d (Err q) (Err y) x j c was = let same : x ≡ y = cc in (q, same ∙ c, j)

pub check_passed : (P : Verdict → Type 0) (r : Result Unit Refusal) → P (verdict_of r) → is_ok r ≡ true → P (accept [])
check_passed P (Ok u) j h = j
check_passed P (Err q) j h = absurd (both_ways false refl h)

-- an open that answers a check's refusal
pub not_opened : {V : Type 0} (l : LogicOf V) (n a : ℕ) (s : List V) (ws : List ℕ) (b : Result Draft Refusal) (r : Refusal) → IsErrAnd b (λ e. e ≡ r) → OpensAs l.model n a (length s) (length ws) (refuse r) → Opens l n a s ws b s ws
not_opened l n a s ws (Ok _) r is j = absurd is
not_opened l n a s ws (Err e) r is j = (subst (λ x. OpensAs l.model n a (length s) (length ws) (refuse x)) (sym is) j, refl, refl)

pub does : {V : Type 0} (l : LogicOf V) (w : Sheet V) (c : Call) (new : List Line) (b : Reply V) (u : Sheet V) → Permits w.phase c → JudgedOn l w c (accept new) → Does l w c new b u → Step l w c b u
does l w c new b u may d did = record { permitted = may; verdict = accept new; judged = d; ends = did }
