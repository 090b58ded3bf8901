use Rattle.std.proofs.Common.{arith, rules}
use Rattle.rounds.proofs.rows.Given.run_round.Goals as goal

pub returns : goal.returns
returns g c = λ i h. let k = c.write.ensures i (g.L.Scale.model c.args.self.now.logic.now).lowest (omega (arith, h, c.requires.next_size)) in search rules
