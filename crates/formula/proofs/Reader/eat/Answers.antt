use Rattle.std.proofs.Common.{rules, ◌≡◌, true, refl, sym, subst}
use borrow.Author.Tests.{both_ways}
use Rattle.tokens.specs.Shown.{tok_of}
use Rattle.tokens.proofs.Fronts.{seen_same}
use Rattle.formula.specs.Tells.{Eats}
use Rattle.formula.proofs.Reader.eat.Goals as goal

pub returns-else-eaten : goal.returns-else-eaten
returns-else-eaten c =
    let same : tok_of c.token_at-end.result.0 ≡ tok_of c.args.token → c.eq-eaten.result ≡ true = λ k. search rules in
    subst (λ b. Eats c.args.self.now (tok_of c.args.token) b c.args.self.now) (sym c.if-eaten.false)
    (λ s d. both_ways _ c.if-eaten.false (same (seen_same c.token_at-end.ensures d).0), refl)
