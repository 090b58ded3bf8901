use Rattle.std.proofs.Common.{Ok, Err, sym}
use Rattle.std.proofs.lemmas.Result.{err_from_is_err_and}
use Rattle.table.proofs.Exact.{decided}
use Rattle.table.proofs.Table.load.Goals as goal

pub returns-in_err-self-clause-exact : goal.returns-in_err-self-clause-exact
returns-in_err-self-clause-exact c =
    let p = err_from_is_err_and c.from_residual.result c.from_residual.ensures.1 in
    rw p.1 (decided c.args.words.now (Err c.in_err-self.field-0.0) (sym c.in_err-self.ensures))

pub returns-clause-exact : goal.returns-clause-exact
returns-clause-exact c = decided c.args.words.now (Ok tt) (sym c.in_ok-self.ensures.0)
