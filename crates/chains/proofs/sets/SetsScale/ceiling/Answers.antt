use Rattle.std.proofs.Common.{◌≡◌, ◌*◌, ◌%◌, ◌^◌, ◌<◌, arith}
use Rattle.std.proofs.lemmas.Nat.{one_shl, pow_below}
use Rattle.chains.proofs.sets.SetsScale.ceiling.Goals as goal

pub overflow_sub-result : goal.overflow_sub-result
overflow_sub-result c =
    let j = c.args.j in
    let k = c.args.self.now.k.number in
    let e : (1 * 2 ^ j) % 65536 ≡ 2 ^ j = one_shl j 16 (omega (arith, c.args.self.now.k.most)) in
    let l : 2 ^ j < 2 ^ k = pow_below j k (omega arith) in
    omega (arith, e, l, c.all.ensures.value)
