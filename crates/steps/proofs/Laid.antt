-- What the test of the places tells.
use Rattle.std.proofs.Common.{◌≡◌, ℕ, ◌+◌, ◌*◌, ◌≤◌, true, ◌&&◌, leb, mul-add, arith}
use Rattle.std.proofs.lemmas.Bool.{and_parts, leb-true}
use Rattle.steps.specs.declared.Step.{Step}
use Rattle.steps.specs.Steps.{ends_by, step_by, laid}

pub record Placed (n a : ℕ) (step : Step) (to work len : ℕ) : Type 0 where
  pub entries : n * n + n * a ≤ to
  pub named : step_by n a to step ≡ true
  pub to_row : to + n ≤ work
  pub work_rows : work + (n + n) ≤ len

pub placed : (n a : ℕ) (step : Step) (to work len : ℕ) → laid n a step to work len ≡ true → Placed n a step to work len
placed n a step to work len e =
    let halves = and_parts (leb (n * (n + a)) to && step_by n a to step) (ends_by n work to && leb (work + (n + n)) len) e in
    let front = and_parts (leb (n * (n + a)) to) (step_by n a to step) halves.0 in
    let back = and_parts (ends_by n work to) (leb (work + (n + n)) len) halves.1 in
    record {
      entries = omega (arith, leb-true (n * (n + a)) to front.0, mul-add n n a);
      named = front.1;
      to_row = leb-true _ _ back.0;
      work_rows = leb-true _ _ back.1;
    }
