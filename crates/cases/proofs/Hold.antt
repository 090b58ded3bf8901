-- The cases: computed, and so of the values themselves.
use Rattle.std.proofs.Common.{ℕ, ◌≤◌, refl, lit<, lit≤}
use Rattle.chains.specs.ChainLaws.{chain_lawful, chain_opposed}
use Rattle.ctl.specs.Formulas.{F, T, EX, AX, EF, AF, EG, AG}
use Rattle.ctl.specs.Theorems.{Meaning}
use Rattle.ctl.proofs.Meant.{meant}
use Rattle.cases.specs.Logics.{chain_of, model, opposite, partner, ops}
use Rattle.cases.specs.Cases.{p, two_stages, no_arrow, six_loop, three_stages, CasesHold}
use Rattle.cases.proofs.Six.{six_meant, six_loads, six_join, six_meet, loop_ex, loop_ax}
use Rattle.cases.proofs.SixCuts.{six_partners_outer, six_partners_inner}
use Rattle.cases.proofs.Tried.{by_value, by_count}

chain_meant : (n : ℕ) → 2 ≤ n → n ≤ 64 → n ≤ 4096 → Meaning (ops (chain_of n))
chain_meant n least most small = meant (model (chain_of n)) (opposite (chain_of n)) (partner (chain_of n)) (chain_lawful n least most) (chain_opposed n least most) small

two : Meaning (ops (chain_of 2))
two = chain_meant 2 (lit≤ tt) (lit≤ tt) (lit≤ tt)

three : Meaning (ops (chain_of 3))
three = chain_meant 3 (lit≤ tt) (lit≤ tt) (lit≤ tt)

infixr 5 ◌also◌
◌also◌ : {A B : Type 0} → A → B → A × B
a also b = (a, b)

pub hold : CasesHold
hold =
    (six_loads also six_join also six_meet also tt)
    also (six_partners_outer also six_partners_inner also tt)
    also (by_value two_stages three (EX p) 0 1 (lit< tt) refl also by_value two_stages three (AX p) 0 2 (lit< tt) refl also tt)
    also (by_value two_stages three (EF p) 0 1 (lit< tt) refl also tt)
    also (by_value two_stages three (AF p) 0 1 (lit< tt) refl also tt)
    also (by_value two_stages three (EG p) 1 2 (lit< tt) refl also by_value two_stages three (AG p) 0 0 (lit< tt) refl also tt)
    also (by_value no_arrow two (AX p) 0 1 (lit< tt) refl also by_value no_arrow two (EX p) 0 0 (lit< tt) refl also by_value no_arrow two (AF p) 0 0 (lit< tt) refl also tt)
    also (by_value six_loop six_meant (EX p) 0 1 (lit< tt) loop_ex also by_value six_loop six_meant (AX p) 0 4 (lit< tt) loop_ax also tt)
    also (refl also tt)
    also (by_count three_stages two (EF p) also tt)
    also (by_count three_stages two (EF F) also by_count three_stages two (EF T) also tt)
    also (refl also tt)
    also tt
