use Rattle.std.proofs.Common.{[], length, replicate, ap, ◌∙◌, subst, inr}
use Rattle.sheet.specs.declared.size.Size.{Size}
use Rattle.sheet.specs.Logics.{logic_of}
use Rattle.sheet.specs.Sheet.{refuse, accept, accepts, lent, draft_on}
use Rattle.sheet.proofs.Agree.{passed}
use Rattle.sheet.proofs.Calls.{kept, not_opened}
use Rattle.sheet.proofs.state.Draft.open.Goals as goal

pub returns-in_err-size-clause-law : goal.returns-in_err-size-clause-law
returns-in_err-size-clause-law g c =
    let x = c.args.logic.now in kept (g.L.Scale.model x) (g.L.Logic.opposes x) (g.L.Logic.partners x) (g.met.L.Scale.lawful x) (g.met.L.Logic.opposed x)

pub returns-in_err-check_lent : goal.returns-in_err-check_lent
returns-in_err-check_lent g c =
    let x = c.args.logic.now in let m = g.L.Scale.model x in let opp = g.L.Logic.opposes x in let par = g.L.Logic.partners x in
    let vs = length c.args.stretch.now in let ws = length c.args.words.now in
    let P : Size → Type 0 = λ z. lent m z.stages z.marks vs ws (accepts []) (refuse c.in_err-check_lent.field-0.0) in
    record {
      opens = not_opened (logic_of m opp par) c.args.stages c.args.marks c.args.stretch.now c.args.words.now _ _ c.from_residual-in_err-check_lent.ensures.1
          (inr ((passed c.in_ok-size.ensures.0).0, subst P c.in_ok-size.ensures.1 c.in_err-check_lent.ensures));
      law = kept m opp par (g.met.L.Scale.lawful x) (g.met.L.Logic.opposed x);
    }

pub returns : goal.returns
returns g c =
    let x = c.args.logic.now in let m = g.L.Scale.model x in let opp = g.L.Logic.opposes x in let par = g.L.Logic.partners x in
    let vs = length c.args.stretch.now in let ws = length c.args.words.now in
    let P : Size → Type 0 = λ z. lent m z.stages z.marks vs ws (accepts []) (accept []) in
    let is = c.in_ok-size.ensures.1 in
    let opened : Size = record { stages = c.args.stages; marks = c.args.marks; lines = 0 } in
    record {
      opens = (
        inr ((passed c.in_ok-size.ensures.0).0, subst P is c.in_ok-check_lent.ensures),
        ap (λ z. draft_on (record { size = z }) c.fill.new.row c.fill-2.new.self) is
            ∙ ap (λ k. draft_on (record { size = opened }) k c.fill-2.new.self) (c.fill.ensures ∙ ap (replicate vs) c.lowest.ensures)
            ∙ ap (λ k. draft_on (record { size = opened }) (replicate vs m.lowest) k) (c.fill-2.ensures.after (λ y e. e)),
      );
      law = kept m opp par (g.met.L.Scale.lawful x) (g.met.L.Logic.opposed x);
    }
