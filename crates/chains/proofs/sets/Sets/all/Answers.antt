use Rattle.std.proofs.Common.{◌≡◌, ◌*◌, ◌%◌, ◌^◌, ◌≤◌, arith, pow_mono}
use Rattle.std.proofs.lemmas.Nat.{one_shl, pow_pos}
use Rattle.chains.proofs.sets.Sets.all.Goals as goal

pub returns : goal.returns
returns c =
    let k = c.args.self.now.k.number in
    let e : (1 * 2 ^ k) % 65536 ≡ 2 ^ k = one_shl k 16 (omega (arith, c.args.self.now.k.most)) in
    let m : 2 ^ k ≤ 4096 = pow_mono {i = k} {j = 12} c.args.self.now.k.most in
    record { value = omega (arith, e); less = omega (arith, e, m, pow_pos k) }
