use Rattle.std.proofs.Common.{◌/◌, ◌%◌, ◌<◌, length, get_or, sym, ap, ◌∙◌, subst, arith}
use Rattle.orders.specs.Orders.{under, turned, meet_of, join_of}
use Rattle.orders.proofs.Greatest.{meet_same, reversed_at}
use Rattle.orders.proofs.Readings.{readable_count, opposites_small}
use Rattle.orders.proofs.candidate.Candidate.read.Goals as goal

pub overflow_cast-order : goal.overflow_cast-order
overflow_cast-order c = omega (arith, (readable_count c.args.words.now (sym c.if-not-are_readable.ensures)).1)

pub invariant_of-order : goal.invariant_of-order
invariant_of-order c = let h = readable_count c.args.words.now (sym c.if-not-are_readable.ensures) in record { least = h.0; most = h.1 }

pub invariant_of-result : goal.invariant_of-result
unfolding join_of
invariant_of-result c =
    let words = c.args.words.now in
    let rows = c.read_rows.result in
    let reverse = c.reversed-reverse.result in
    let same = c.reversed-reverse.ensures.counted in
    let turns = c.reversed-reverse.ensures.turned in
    let h = readable_count words (sym c.if-not-are_readable.ensures) in
    record {
      counted = same;
      turns = turns;
      small = λ k. subst (λ xs. get_or xs k 0 < 16) (sym c.read_opposites.ensures) (opposites_small words k);
      met = c.meets-meets.ensures;
      joined = λ k l.
          c.meets-joins.ensures k l
          ∙ ap (λ n. meet_of n (under reverse.rows) (k / 16) (k % 16)) same
          ∙ meet_same (length words) (under reverse.rows) (turned (under rows)) h.1 (reversed_at rows reverse.rows turns) (k / 16) (k % 16) (omega arith) (omega arith);
    }
