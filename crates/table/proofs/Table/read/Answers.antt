use Rattle.std.proofs.Common.{◌≡◌, Err, sym, ap, ◌∙◌}
use Rattle.std.proofs.lemmas.Result.{err_from_is_err_and}
use Rattle.scale.specs.declared.Refusal.TheVariants.{Order}
use Rattle.orders.proofs.Verdicts.{passed, verdict_unread, verdict_read}
use Rattle.table.proofs.Table.read.Goals as goal

pub returns-in_err-candidate : goal.returns-in_err-candidate
returns-in_err-candidate c =
    let p = err_from_is_err_and c.from_residual.result c.from_residual.ensures.1 in
    let none = c.in_err-candidate.ensures.ok_part in
    let unread = rw none at c.read.ensures in
    let is = rw none at c.in_err-candidate.ensures.value in
    let why : Order ≡ c.in_err-candidate.field-0.0 = cc in
    rw (p.1, p.2) (verdict_unread c.args.words.now unread ∙ ap Err why)

pub returns-in_err-check_laws : goal.returns-in_err-check_laws
returns-in_err-check_laws c =
    let p = err_from_is_err_and c.from_residual-in_err-check_laws.result c.from_residual-in_err-check_laws.ensures.1 in
    let k = c.in_ok-candidate.candidate in
    let h = rw c.in_ok-candidate.ensures.ok_part at c.read.ensures in
    rw (p.1, p.2) (verdict_read c.args.words.now k.order.count k.order.rows k.opposites h.0 h.1 h.2 h.3 ∙ sym c.in_err-check_laws.ensures)

pub invariant_of-result : goal.invariant_of-result
invariant_of-result c =
    let k = c.in_ok-candidate.candidate in
    let laws = passed k.order.count k.order.rows k.opposites (sym c.in_ok-check_laws.ensures) in
    record {
      least = k.order.least;
      most = k.order.most;
      order = laws.0;
      lattice = laws.1;
      distribution = laws.2;
      opposition = laws.3;
      met = k.met;
      joined = k.joined;
      bottom = c.lowest-lowest.ensures;
      top = c.highest-highest.ensures;
      cut = c.cuts_of-cuts.ensures;
    }

pub returns : goal.returns
returns c =
    let k = c.in_ok-candidate.candidate in
    let h = rw c.in_ok-candidate.ensures.ok_part at c.read.ensures in
    (verdict_read c.args.words.now k.order.count k.order.rows k.opposites h.0 h.1 h.2 h.3 ∙ sym c.in_ok-check_laws.ensures, h.1, h.2, h.3)
