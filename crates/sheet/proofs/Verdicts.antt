-- The checks give one verdict.
use Rattle.std.proofs.Common.{◌≡◌, ℕ, ◌+◌, ◌≤◌, List, [], ◌∷◌, sym, ap, ◌∙◌, subst, inl, inr}
use Rattle.scale.specs.Model.{Model}
use Rattle.lines.specs.declared.Line.{Line}
use Rattle.formula.specs.Grammar.{Tree}
use Rattle.formula.specs.Words.{size}
use Rattle.sheet.specs.declared.state.Refusal.{Refusal}
use Rattle.sheet.specs.declared.state.Refusal.TheVariants.{Full}
use Rattle.sheet.specs.Lines.{tree_lines}
use Rattle.sheet.specs.Sheet.{Call, arrow, mark, line, text, settle, read_at, reopen, Verdict, accept, needs, accepts, lent, Judged}
use Rattle.sheet.proofs.LineOnce.{line_once}

-- a check gives one verdict if the checks after it do
pub needs_once : (X : Type 0) (r : Refusal) (rest : X → Verdict → Type 0) → ((x y : X) (v u : Verdict) → rest x v → rest y u → v ≡ u) → (v u : Verdict) → needs X r rest v → needs X r rest u → v ≡ u
needs_once X r rest f v u (inl p) (inl q) = p.1 ∙ sym q.1
needs_once X r rest f v u (inl p) (inr q) = absurd (p.0 q.0)
needs_once X r rest f v u (inr p) (inl q) = absurd (q.0 p.0)
needs_once X r rest f v u (inr p) (inr q) = f p.0 q.0 v u p.1 q.1

pub accepts_once : (new : List Line) (v u : Verdict) → accepts new v → accepts new u → v ≡ u
accepts_once new v u p q = p ∙ sym q

module _ {V : Type 0} (m : Model V) (n a vs ws : ℕ) where
  pub lent_once : (rest : Verdict → Type 0) → ((v u : Verdict) → rest v → rest u → v ≡ u) → (v u : Verdict) → lent m n a vs ws rest v → lent m n a vs ws rest u → v ≡ u
  lent_once rest f = needs_once _ _ _ (λ _ _. needs_once _ _ _ (λ _ _. needs_once _ _ _ (λ _ _. f)))

  pub judged_once : (count : ℕ) (InOrder : Type 0) (c : Call) → count ≤ 64 → a ≤ 256 → (v u : Verdict) → Judged m n a vs ws count InOrder c v → Judged m n a vs ws count InOrder c u → v ≡ u
  judged_once count P (arrow s t k) hc ha = lent_once _ (needs_once _ _ _ (λ _ _. needs_once _ _ _ (λ _ _. accepts_once [])))
  judged_once count P (mark s k x) hc ha = lent_once _ (needs_once _ _ _ (λ _ _. needs_once _ _ _ (λ _ _. needs_once _ _ _ (λ _ _. accepts_once []))))
  judged_once count P (line w) hc ha =
      lent_once _ (needs_once _ _ _ (λ _ _. needs_once _ _ _ (λ l k v u p q.
      p ∙ ap (λ x. accept (x ∷ [])) (line_once count a l.0 k.0 hc ha l.2 k.2 (l.1 ∙ sym k.1)) ∙ sym q)))
  judged_once count P (text ns bs) hc ha =
      lent_once _ (needs_once _ _ _ (λ _ _. needs_once _ _ _ (λ s t.
      fits_once s.0 t.0 (s.1.only t.0 t.1.spelled))))
    where
      fits_once : (s t : Tree) → s ≡ t → (v u : Verdict) → needs (count + size s ≤ 64) Full (λ _. accepts (tree_lines count s)) v → needs (count + size t ≤ 64) Full (λ _. accepts (tree_lines count t)) u → v ≡ u
      fits_once s t e v u p q =
          needs_once (count + size t ≤ 64) Full (λ _. accepts (tree_lines count t)) (λ _ _. accepts_once (tree_lines count t)) v u
          (subst (λ x. needs (count + size x ≤ 64) Full (λ _. accepts (tree_lines count x)) v) e p) q
  judged_once count P settle hc ha = lent_once _ (needs_once _ _ _ (λ _ _. accepts_once []))
  judged_once count P (read_at k s) hc ha = lent_once _ (needs_once _ _ _ (λ _ _. needs_once _ _ _ (λ _ _. accepts_once [])))
  judged_once count P reopen hc ha = accepts_once []
