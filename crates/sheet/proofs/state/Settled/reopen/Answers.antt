use Rattle.std.proofs.Common.{[], refl}
use Rattle.sheet.specs.Logics.{logic_of}
use Rattle.sheet.specs.Sheet.{reopen, done, drafting, settled_on, in_phase}
use Rattle.sheet.proofs.Calls.{told, does}
use Rattle.sheet.proofs.state.Settled.reopen.Goals as goal

pub returns : goal.returns
returns g c =
    let x = c.args.logic.now in let m = g.L.Scale.model x in let opp = g.L.Logic.opposes x in let par = g.L.Logic.partners x in
    let w = settled_on c.args.self c.args.stretch.now c.args.words.now in
    let st = does (logic_of m opp par) w reopen [] done (in_phase drafting w) tt refl (refl, refl) in
    record { step = st; law = told m opp par (g.met.L.Scale.lawful x) (g.met.L.Logic.opposed x) w reopen done _ st }
