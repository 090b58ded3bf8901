use Rattle.std.proofs.Common.{get_or, set, sym, subst, ⊎_elim, arith, get_or-set_other, get_or-set_same}
use Rattle.std.proofs.lemmas.Bool.{cases_eq}
use Rattle.rounds.proofs.rows.write.Goals as goal

pub loop-i-preserved : goal.loop-i-preserved
loop-i-preserved g c = λ k d h.
    let row = c.loop-i.row in let i = c.loop-i.i in let v = c.entry.result in
    ⊎_elim
    (λ e. subst (λ j. goal.F-post g c.args.entry j (get_or (set row i v) j d)) (sym e) (subst (goal.F-post g c.args.entry i) (sym (get_or-set_same row i v d (omega arith))) c.entry.ensures))
    (λ e. subst (goal.F-post g c.args.entry k) (sym (get_or-set_other row i k v d e)) (c.loop-i.invariant k d (omega arith)))
    (cases_eq k i)
