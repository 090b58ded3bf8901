-- Loading accepts exactly the words that write a logic.
use Rattle.std.proofs.Common.{◌≡◌, ℕ, ◌<◌, Bool, true, ◌&&◌, eqb, ltb, List, length, is_ok, Ok, Err, Decides, Result, sym, refl, ap, ◌∙◌, inl, inr}
use Rattle.std.proofs.lemmas.Bool.{and_parts, and_from, cases_Bool, eq-eqb, ltb-true, lt-ltb, false≢true}
use Rattle.scale.specs.Model.{Is, Le}
use Rattle.scale.specs.declared.Refusal.{Refusal}
use Rattle.orders.specs.Finite.{every, some}
use Rattle.orders.specs.Orders.{under, listed, implies, turned, below_both, order_at, ordered, is_greatest, bounded_at, latticed, spread_at, spread, opposed_at, opposing, meet_of, join_of, partner_of}
use Rattle.orders.specs.Words.{readable, rows_of, opposites_of, verdict}
use Rattle.orders.proofs.Finites.{implies_from, every_from, some_at}
use Rattle.orders.proofs.Readings.{readable_count}
use Rattle.orders.proofs.Verdicts.{passed, none_fails, verdict_unread, verdict_read}
use Rattle.table.specs.Logics.{LogicOn, WritesLogic}
use Rattle.table.specs.Tables.{order_model}
use Rattle.table.specs.Lattices.{is_greatest_from, meet_is}
use Rattle.table.specs.Laws.{order_lawful, order_opposed}

-- `op` is the meet of a relation below n.
abbrev Meets : ℕ → (ℕ → ℕ → Bool) → (ℕ → ℕ → ℕ) → Type 0
Meets n le op =
    (u v : ℕ) → u < n → v < n → (op u v < n) × (le (op u v) u ≡ true) × (le (op u v) v ≡ true) × ((x : ℕ) → x < n → le x u ≡ true → le x v ≡ true → le x (op u v) ≡ true)

-- Then there is a meet, and the one that is found is it.
module _ (n : ℕ) (le : ℕ → ℕ → Bool) (op : ℕ → ℕ → ℕ) (meets : Meets n le op) where
  has_meet : (u v : ℕ) → u < n → v < n → some n (is_greatest n le (below_both le u v)) ≡ true
  has_meet u v hu hv =
      let f = meets u v hu hv in
      let m = op u v in
      some_at (is_greatest n le (below_both le u v)) n m f.0
      (is_greatest_from n le (below_both le u v) m (and_from (le m u) (le m v) f.1 f.2) (λ x hx t. let p = and_parts (le x u) (le x v) t in f.3 x hx p.0 p.1))

  meet_found : ((u v : ℕ) → u < n → v < n → le u v ≡ true → le v u ≡ true → u ≡ v) → (u v : ℕ) → u < n → v < n → (meet_of n le u v < n) × (meet_of n le u v ≡ op u v)
  meet_found anti u v hu hv =
      let f = meets u v hu hv in
      let g = meet_is n le u v (has_meet u v hu hv) in
      (g.0, anti (meet_of n le u v) (op u v) g.0 f.0 (f.3 (meet_of n le u v) g.0 g.1 g.2) (g.3 (op u v) f.0 f.1 f.2))

-- a logic on the numbers below n passes every test
module _ (n : ℕ) (le : ℕ → ℕ → Bool) (opp : ℕ → ℕ) (g : LogicOn n le opp) where
  is : (v : ℕ) → v < n → Is g.scale v
  is v h = g.values v ∙ lt-ltb v n h

  below : (v : ℕ) → Is g.scale v → v < n
  below v p = ltb-true v n (sym (g.values v) ∙ p)

  to : (u v : ℕ) → u < n → v < n → le u v ≡ true → Le g.scale u v
  to u v hu hv t = g.order u v hu hv ∙ t

  from : (u v : ℕ) → u < n → v < n → Le g.scale u v → le u v ≡ true
  from u v hu hv t = sym (g.order u v hu hv) ∙ t

  order_holds : (u v w : ℕ) → u < n → v < n → w < n → order_at le u v w ≡ true
  order_holds u v w hu hv hw =
      let l = g.lawful in
      and_from (le u u) (implies (le u v && le v u) (eqb u v) && implies (le u v && le v w) (le u w)) (from u u hu hu (l.same u (is u hu)))
      (and_from (implies (le u v && le v u) (eqb u v)) (implies (le u v && le v w) (le u w))
      (implies_from (le u v && le v u) (eqb u v) (λ t. let p = and_parts (le u v) (le v u) t in eq-eqb u v (l.anti u v (is u hu) (is v hv) (to u v hu hv p.0) (to v u hv hu p.1))))
      (implies_from (le u v && le v w) (le u w) (λ t. let p = and_parts (le u v) (le v w) t in from u w hu hw (l.through u v w (is u hu) (is v hv) (is w hw) (to u v hu hv p.0) (to v w hv hw p.1)))))

  is_ordered : ordered n le ≡ true
  unfolding ordered
  is_ordered =
      every_from (λ u. every n (λ v. every n (λ w. order_at le u v w))) n
      (λ u hu. every_from (λ v. every n (λ w. order_at le u v w)) n (λ v hv. every_from (λ w. order_at le u v w) n (λ w hw. order_holds u v w hu hv hw)))

  anti : (u v : ℕ) → u < n → v < n → le u v ≡ true → le v u ≡ true → u ≡ v
  anti u v hu hv x y = g.lawful.anti u v (is u hu) (is v hv) (to u v hu hv x) (to v u hv hu y)

  meets : Meets n le g.scale.meet
  meets u v hu hv =
      let l = g.lawful in
      let m = g.scale.meet u v in
      let hm = below m (l.meet_valid u v (is u hu) (is v hv)) in (
        hm,
        from m u hm hu (l.meet_first u v (is u hu) (is v hv)),
        from m v hm hv (l.meet_second u v (is u hu) (is v hv)),
        λ x hx p q. from x m hx hm (l.meet_most u v x (is u hu) (is v hv) (is x hx) (to x u hx hu p) (to x v hx hv q)),
      )

  joins : Meets n (turned le) g.scale.join
  joins u v hu hv =
      let l = g.lawful in
      let m = g.scale.join u v in
      let hm = below m (l.join_valid u v (is u hu) (is v hv)) in (
        hm,
        from u m hu hm (l.join_first u v (is u hu) (is v hv)),
        from v m hv hm (l.join_second u v (is u hu) (is v hv)),
        λ x hx p q. from m x hm hx (l.join_least u v x (is u hu) (is v hv) (is x hx) (to u x hu hx p) (to v x hv hx q)),
      )

  is_latticed : latticed n le ≡ true
  unfolding latticed
  is_latticed =
      every_from (λ u. every n (λ v. bounded_at n le u v)) n
      (λ u hu.
      every_from (λ v. bounded_at n le u v) n
      (λ v hv. and_from (some n (is_greatest n le (below_both le u v))) (some n (is_greatest n (turned le) (below_both (turned le) u v))) (has_meet n le g.scale.meet meets u v hu hv) (has_meet n (turned le) g.scale.join joins u v hu hv)))

  meet_same : (u v : ℕ) → u < n → v < n → (meet_of n le u v < n) × (meet_of n le u v ≡ g.scale.meet u v)
  meet_same = meet_found n le g.scale.meet meets anti

  join_same : (u v : ℕ) → u < n → v < n → (join_of n le u v < n) × (join_of n le u v ≡ g.scale.join u v)
  unfolding join_of
  join_same = meet_found n (turned le) g.scale.join joins (λ u v hu hv x y. anti u v hu hv y x)

  spread_holds : (u v w : ℕ) → u < n → v < n → w < n → spread_at n le u v w ≡ true
  spread_holds u v w hu hv hw =
      let s = g.scale in
      let j = join_same v w hv hw in
      let p = meet_same u v hu hv in
      let q = meet_same u w hu hw in
      eq-eqb (meet_of n le u (join_of n le v w)) (join_of n le (meet_of n le u v) (meet_of n le u w))
      ((meet_same u (join_of n le v w) hu j.0).1
      ∙ ap (s.meet u) j.1
      ∙ g.lawful.spreads u v w (is u hu) (is v hv) (is w hw)
      ∙ ap (λ x. s.join x (s.meet u w)) (sym p.1)
      ∙ ap (s.join (meet_of n le u v)) (sym q.1)
      ∙ sym (join_same (meet_of n le u v) (meet_of n le u w) p.0 q.0).1)

  is_spread : spread n le ≡ true
  unfolding spread
  is_spread =
      every_from (λ u. every n (λ v. every n (λ w. spread_at n le u v w))) n
      (λ u hu. every_from (λ v. every n (λ w. spread_at n le u v w)) n (λ v hv. every_from (λ w. spread_at n le u v w) n (λ w hw. spread_holds u v w hu hv hw)))

  opposed_holds : (v w : ℕ) → v < n → w < n → opposed_at n le opp v w ≡ true
  opposed_holds v w hv hw =
      let o = g.opposed in
      let less : (x : ℕ) → x < n → opp x < n = λ x hx. below (opp x) (o.opposite_valid x (is x hx)) in
      and_from (ltb (opp v) n && eqb (opp (opp v)) v) (implies (le v w) (le (opp w) (opp v)))
      (and_from (ltb (opp v) n) (eqb (opp (opp v)) v) (lt-ltb (opp v) n (less v hv)) (eq-eqb (opp (opp v)) v (o.twice v (is v hv))))
      (implies_from (le v w) (le (opp w) (opp v)) (λ t. from (opp w) (opp v) (less w hw) (less v hv) (o.turns v w (is v hv) (is w hw) ∙ to v w hv hw t)))

  is_opposing : opposing n le opp ≡ true
  unfolding opposing
  is_opposing = every_from (λ v. every n (λ w. opposed_at n le opp v w)) n (λ v hv. every_from (λ w. opposed_at n le opp v w) n (λ w hw. opposed_holds v w hv hw))

module _ (words : List ℕ) where
  accepted : WritesLogic words → verdict words ≡ Ok tt
  accepted h =
      let n = length words in
      let le = under (rows_of words) in
      let opp = listed (opposites_of words) in
      verdict_read words n (rows_of words) (opposites_of words) h.0 refl refl refl
      ∙ none_fails n (rows_of words) (opposites_of words) (is_ordered n le opp h.1) (is_latticed n le opp h.1) (is_spread n le opp h.1) (is_opposing n le opp h.1)

  written : verdict words ≡ Ok tt → WritesLogic words
  written e =
      elim (cases_Bool (readable words)) [
        | inl r ↦
            let n = length words in
            let le = under (rows_of words) in
            let opp = listed (opposites_of words) in
            let k = readable_count words r in
            let w = passed n (rows_of words) (opposites_of words) (sym (verdict_read words n (rows_of words) (opposites_of words) r refl refl refl) ∙ e) in (
              r,
              record {
                scale = order_model n le;
                partner = partner_of n le opp;
                values = λ v. refl;
                order = λ u v _ _. refl;
                lawful = order_lawful n le k.0 k.1 w.0 w.1 w.2;
                opposed = order_opposed n le k.0 k.1 w.0 w.1 w.2 opp w.3;
              },
            )
        | inr r ↦ absurd (false≢true (ap is_ok (sym (verdict_unread words r) ∙ e)))
      ]

  ok_from : (r : Result (Unit {0}) Refusal) → is_ok r ≡ true → r ≡ Ok tt
  ok_from (Ok u) e = refl
  ok_from (Err x) e = absurd (false≢true e)

  pub decided : (r : Result (Unit {0}) Refusal) → r ≡ verdict words → Decides (is_ok r) (WritesLogic words)
  decided r e = (λ t. written (sym e ∙ ok_from r t), λ h. ap is_ok (e ∙ accepted h))
