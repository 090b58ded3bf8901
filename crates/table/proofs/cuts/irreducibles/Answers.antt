use Rattle.std.proofs.Common.{◌≡◌, ℕ, ◌+◌, ◌-◌, ◌%◌, ◌<◌, Bool, true, false, List, [], ◌∷◌, ◌++◌, length, get_or, sym, refl, ap, ◌∙◌, subst, inl, inr, add-one, arith, length-append, lit<}
use Rattle.std.proofs.lemmas.Bool.{cases_eq}
use Rattle.std.proofs.lemmas.List.{get_or-append_right, get_or_append_left}
use Rattle.std.proofs.lemmas.List.FromFn.{fill_by_all}
use Rattle.orders.specs.Finite.{how_many, nth, Filled}
use Rattle.orders.specs.Orders.{under, irreducible, cut_count_of, cut_of}
use Rattle.orders.proofs.Finites.{how_many_yes, how_many_no, how_many_most, nth_here, nth_on, nth_skip}
use Rattle.table.specs.Cuts.{irreducibles_of}
use Rattle.table.proofs.cuts.irreducibles.Goals as goal
use Rattle.table.proofs.cuts.irreducibles.Goals.{then-is_irreducible, else-is_irreducible}

-- xs are the first of those that P holds of, up to v
module _ (P : ℕ → Bool) (xs : List ℕ) (v : ℕ) (long : length xs ≡ how_many v P) (is : Filled (nth v P) (how_many v P) xs) where
  with_one : P v ≡ true → (length (xs ++ v ∷ []) ≡ how_many (v + 1) P) × Filled (nth (v + 1) P) (how_many (v + 1) P) (xs ++ v ∷ [])
  with_one e =
      rw add-one (
        omega (arith, length-append xs (v ∷ []), how_many_yes P v e),
        λ k h.
            elim (cases_eq k (how_many v P)) [
              | inl z ↦
                  let first : k - length xs ≡ 0 = omega arith in
                  get_or-append_right xs (v ∷ []) (length xs) k 0 refl (omega arith) ∙ ap (λ i. get_or (v ∷ []) i 0) first ∙ sym (nth_here P v k e z)
              | inr z ↦
                  let low : k < how_many v P = omega (arith, how_many_yes P v e) in
                  get_or_append_left xs (v ∷ []) 0 k (omega arith) ∙ is k low ∙ sym (nth_on P v k z)
            ],
      )

  without : P v ≡ false → (length xs ≡ how_many (v + 1) P) × Filled (nth (v + 1) P) (how_many (v + 1) P) xs
  without e = rw add-one (omega (arith, how_many_no P v e), λ k h. is k (omega (arith, how_many_no P v e)) ∙ sym (nth_skip P v k e))

pub push-requires : goal.push-requires
push-requires c =
    let o = c.args.candidate.now.order in
    (lit< tt, omega (arith, c.loop-v.invariant.long, how_many_most (irreducible o.count (under o.rows)) c.loop-v.v, o.most))

pub loop-v-preserved : goal.loop-v-preserved
loop-v-preserved c =
    let o = c.args.candidate.now.order in
    let P = irreducible o.count (under o.rows) in
    let v = c.loop-v.v in
    let xs = c.loop-v.values.items in
    let inv = c.loop-v.invariant in
    let small : v % 16 ≡ v = omega (arith, o.most) in
    let is = c.is_irreducible.ensures ∙ ap P small in
    elim c.if-is_irreducible.branch [
      | then-is_irreducible w ↦
          let h = with_one P xs v inv.long inv.numbered (sym is ∙ w.if-is_irreducible.true) in
          let new : c.if-is_irreducible.values.items ≡ xs ++ v ∷ [] = ap (λ x. x.items) w.values-is ∙ w.push.ensures.items in
          rw new (record { long = h.0; numbered = h.1 })
      | else-is_irreducible w ↦
          let h = without P xs v inv.long inv.numbered (sym is ∙ w.if-is_irreducible.false) in
          rw w.values-is (record { long = h.0; numbered = h.1 })
    ]

pub returns : goal.returns
unfolding irreducibles_of cut_count_of cut_of
returns c =
    let o = c.args.candidate.now.order in
    let P = irreducible o.count (under o.rows) in
    let e : c.loop-v.v ≡ o.count = omega arith in
    let xs = c.loop-v.values.items in
    fill_by_all (nth o.count P) xs (how_many o.count P) 0 (c.loop-v.invariant.long ∙ ap (λ i. how_many i P) e)
    (subst (λ i. Filled (nth i P) (how_many i P) xs) e c.loop-v.invariant.numbered)
