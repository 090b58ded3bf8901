use Rattle.std.proofs.Common.{rules}
use Rattle.tokens.proofs.Fronts.{no_arrow}
use Rattle.tokens.proofs.arrow.Goals as goal

pub returns-in_default-clause-seen : goal.returns-in_default-clause-seen
returns-in_default-clause-seen c = no_arrow c.args.behind.now _ (λ ms e. search rules)
