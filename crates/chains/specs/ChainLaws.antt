-- The chain of n values, 2 to 64, is a scale and a logic.
use Rattle.std.specs.Prelude.{ℕ, ◌+◌, ◌-◌, ◌<◌, ◌≤◌, min, max, refl}
use Rattle.std.proofs.Common.{inl, inr, arith}
use Rattle.std.proofs.lemmas.Bool.Decides.{nat_tests}
use Rattle.std.proofs.lemmas.Bool.{ltb-true, leb-true, le-leb, lt-ltb, lt-leb, cases_lt}
use Rattle.scale.specs.Laws.{Lawful, Counted, Opposed}
use Rattle.chains.specs.Chains.{chain, chain_opposite, chain_partner}

module _ (n : ℕ) (least : 2 ≤ n) (most : n ≤ 64) where
  chain_counted : Counted (chain n)
  chain_counted = record {
    fewer = omega arith;
    cut_valid = λ j h. lt-ltb (j + 1) n (omega arith);
    ceiling_valid = λ j h. lt-ltb j n (omega arith);
    cut_low = λ j h. lt-leb (j + 1) 0 (omega arith);
    cut_once = λ i j h k e. omega arith;
    cut_join = λ j u v h p q. grind (arith, nat_tests);
    cut_tells = λ u v p q f.
        elim (cases_lt v u) [
          | inl h ↦ let k : u - 1 < n - 1 = omega (arith, ltb-true u n p) in
              absurd (omega (arith, leb-true (u - 1 + 1) v (f (u - 1) k (le-leb (u - 1 + 1) u (omega arith)))))
          | inr h ↦ le-leb u v h
        ];
    cut_ceiling = λ j v h p. grind (arith, nat_tests);
    value_valid = λ k h. lt-ltb k n h;
    number_less = λ v p. ltb-true v n p;
    value_number = λ v p. refl;
    number_value = λ k h. refl;
  }

  pub chain_lawful : Lawful (chain n)
  chain_lawful = record {
    low = lt-ltb 0 n (omega arith);
    high = lt-ltb (n - 1) n (omega arith);
    differ = lt-leb (n - 1) 0 (omega arith);
    low_le = λ v p. le-leb 0 v (omega arith);
    le_high = λ v p. le-leb v (n - 1) (omega (arith, ltb-true v n p));
    same = λ v p. le-leb v v (omega arith);
    through = λ u v w p q r h k. le-leb u w (omega (arith, leb-true u v h, leb-true v w k));
    anti = λ u v p q h k. omega (arith, leb-true u v h, leb-true v u k);
    meet_valid = λ u v p q. grind (arith, nat_tests);
    meet_first = λ u v p q. le-leb (min u v) u (omega arith);
    meet_second = λ u v p q. le-leb (min u v) v (omega arith);
    meet_most = λ u v w p q r h k. le-leb w (min u v) (omega (arith, leb-true w u h, leb-true w v k));
    join_valid = λ u v p q. grind (arith, nat_tests);
    join_first = λ u v p q. le-leb u (max u v) (omega arith);
    join_second = λ u v p q. le-leb v (max u v) (omega arith);
    join_least = λ u v w p q r h k. le-leb (max u v) w (omega (arith, leb-true u w h, leb-true v w k));
    spreads = λ u v w p q r. omega arith;
    at_least = least;
    at_most = omega arith;
    no_cuts = λ e. absurd (omega arith);
    counted = λ h. chain_counted;
  }

  pub chain_opposed : Opposed (chain n) (chain_opposite n) (chain_partner n)
  chain_opposed = record {
    opposite_valid = λ v p. lt-ltb (n - 1 - v) n (omega arith);
    twice = λ v p. omega (arith, ltb-true v n p);
    turns = λ u v p q. grind (arith, nat_tests);
    partner_less = λ h j k. omega arith;
    cut_opposite = λ h j v k p. grind (arith, nat_tests);
  }
