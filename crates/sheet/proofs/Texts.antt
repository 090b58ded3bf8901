-- What the reader of texts answers is what a sheet's text does.
use Rattle.std.proofs.Common.{◌≡◌, ℕ, ◌+◌, ◌≤◌, false, List, [], length, Err, sym, refl, ap, ◌∙◌, inl, inr, arith}
use lib.Seq.{sets}
use Rattle.scale.specs.Model.{Model}
use Rattle.lines.specs.declared.Refusal as lined
use Rattle.lines.specs.declared.Refusal.TheVariants as reading
use Rattle.formula.specs.Words.{size}
use Rattle.formula.specs.Tells.{held, Accepts, Outcome}
use Rattle.sheet.specs.declared.state.Draft.{Draft}
use Rattle.sheet.specs.declared.state.Refusal.{Refusal}
use Rattle.sheet.specs.declared.state.Refusal.TheVariants.{Stretch, Words, Full, Logic, Names, Text}
use Rattle.sheet.specs.Lines.{tree_lines}
use Rattle.sheet.specs.Refusals.{text_refusal}
use Rattle.sheet.specs.Sheet.{LogicOf, text, done, refused, refuse, accept, Asked, accepts, lent, draft_on, with_words, text_wipes, left, Step}
use Rattle.sheet.proofs.Agree.{passed}
use Rattle.sheet.proofs.Lent.{let_through, stopped}
use Rattle.sheet.proofs.Trees.{size_lines, lines_words}

same_refusal : (r q : Refusal) → refuse r ≡ refuse q → r ≡ q
same_refusal r q e = cc

-- a text that the memory stops leaves the words as they were
stops_keep : {V : Type 0} (m : Model V) (n a vs ws : ℕ) (r : Refusal) → lent m n a vs ws (accepts []) (refuse r) → text_wipes r ≡ false
stops_keep m n a vs ws r (inl p) = ap text_wipes (same_refusal r Logic p.1)
stops_keep m n a vs ws r (inr (x, inl p)) = ap text_wipes (same_refusal r Stretch p.1)
stops_keep m n a vs ws r (inr (x, inr (y, inl p))) = ap text_wipes (same_refusal r Words p.1)
stops_keep m n a vs ws r (inr (x, inr (y, inr (z, p)))) = let e : ◌≡◌ {A = ℕ} 0 1 = cc in absurd (omega arith)

pub text_stopped : {V : Type 0} (l : LogicOf V) (d : Draft) (s : List V) (os ns bs : List ℕ) (r : Refusal) →
    lent l.model d.size.stages d.size.marks (length s) (length os) (accepts []) (refuse r) → Step l (draft_on d s os) (text ns bs) (refused r) (draft_on d s os)
text_stopped l d s os ns bs r stop = record {
  permitted = tt;
  verdict = refuse r;
  judged = stopped l.model d.size.stages d.size.marks (length s) (length os) (Asked l.model d.size.stages d.size.marks (held d.size.lines) (Unit {0}) (text ns bs)) r stop;
  ends = (refl, ap (λ b. left b (draft_on d s os)) (sym (stops_keep l.model d.size.stages d.size.marks (length s) (length os) r stop)));
}

module _ {V : Type 0} (l : LogicOf V) (d : Draft) (s : List V) (os ns bs : List ℕ)
    (right : lent l.model d.size.stages d.size.marks (length s) (length os) (accepts []) (accept [])) where
  wordy : 64 ≤ length os
  wordy = (passed (passed (passed right).1).1).0

  pub text_refused : (why : lined.Refusal) (os' : List ℕ) → Outcome ns bs d.size.marks d.size.lines os (Err why) os' →
      Step l (draft_on d s os) (text ns bs) (refused (text_refusal why)) (draft_on d s os')
  text_refused reading.Line os' out = absurd out
  text_refused reading.Names os' out = record {
    permitted = tt;
    verdict = refuse Names;
    judged = let_through l.model d.size.stages d.size.marks (length s) (length os) (Asked l.model d.size.stages d.size.marks (held d.size.lines) (Unit {0}) (text ns bs)) (refuse Names) right (inl (out.0, refl));
    ends = (refl, ap (draft_on d s) out.1);
  }
  text_refused reading.Text os' out = record {
    permitted = tt;
    verdict = refuse Text;
    judged = let_through l.model d.size.stages d.size.marks (length s) (length os) (Asked l.model d.size.stages d.size.marks (held d.size.lines) (Unit {0}) (text ns bs)) (refuse Text) right
        (inr (out.0, inl ((λ t. out.1 t.1.short t.0 t.1.spelled), refl)));
    ends = (refl, ap (draft_on d s) out.2);
  }
  text_refused reading.Full os' out = record {
    permitted = tt;
    verdict = refuse Full;
    judged = let_through l.model d.size.stages d.size.marks (length s) (length os) (Asked l.model d.size.stages d.size.marks (held d.size.lines) (Unit {0}) (text ns bs)) (refuse Full) right
        (inr (out.names, inr ((out.tree, out.taken), inl ((λ h. let over = out.over in let w = wordy in omega arith), refl))));
    ends = (refl, ap (draft_on d s) out.words);
  }

  pub text_done : (k : ℕ) (os' : List ℕ) → Accepts ns bs d.size.marks d.size.lines os k os' →
      Step l (draft_on d s os) (text ns bs) done (draft_on (record { size = record { stages = d.size.stages; marks = d.size.marks; lines = k } }) s os')
  text_done k os' out =
      let n = held d.size.lines in
      let new = tree_lines n out.tree in
      let w = draft_on d s os in
      let fits = out.fits in
      let wide = wordy in
      let len = size_lines n out.tree in
      let count = out.count in
      let few : n + size out.tree ≤ 64 = omega arith in
      let more : held k ≡ n + length new = omega arith in
      record {
        permitted = tt;
        verdict = accept new;
        judged = let_through l.model d.size.stages d.size.marks (length s) (length os) (Asked l.model d.size.stages d.size.marks n (Unit {0}) (text ns bs)) (accept new) right
            (inr (out.names, inr ((out.tree, out.taken), inr (few, refl))));
        ends = (
          refl,
          ap (λ i. with_words i os' w) more
              ∙ ap (λ i. with_words (n + length new) i w) (out.words ∙ ap (sets os n) (sym (lines_words n out.tree))),
        );
      }
