use Rattle.std.proofs.Common.{◌≡◌, ℕ, ◌+◌, ◌<◌, max, length, get_or, take, sym, ◌∙◌, subst, arith}
use Rattle.std.proofs.lemmas.List.{get_or-take, length-take-le}
use Rattle.lines.specs.declared.Line.TheVariants.{False}
use Rattle.ctl.proofs.Meant.{meant}
use Rattle.sheet.specs.Filling.{Filled}
use Rattle.sheet.specs.Logics.{logic_of}
use Rattle.sheet.proofs.Filling.{more_filled}
use Rattle.sheet.proofs.size.Size.settle_lines.Goals as goal

pub loop-k-preserved : goal.loop-k-preserved
loop-k-preserved g c = λ ls says.
    let x = c.args.logic.now in let m = g.L.Scale.model x in
    let lo = logic_of m (g.L.Logic.opposes x) (g.L.Logic.partners x) in
    let d = c.args.self in let k = c.loop-k.k in
    let ws = c.args.words.now in let size = says.all in let count = c.held.ensures in let few = length-take-le c.held.result ws (omega (arith, count)) in
    let here : get_or (take c.held.result ws) k 0 ≡ get_or ws k 0 = get_or-take c.held.result ws k 0 (omega (arith, few)) in
    let h : k < length ls = omega arith in
    let P : ℕ → Type 0 = λ r. Filled lo d.stages d.marks ls c.args.stretch.now (k + 1) r c.settle_line.new.stretch in
    let is : c.max-most.result ≡ max c.loop-k.most c.settle_line.result = c.max-most.ensures in
    subst P (sym is)
    (more_filled lo (meant m (g.L.Logic.opposes x) (g.L.Logic.partners x) (g.met.L.Scale.lawful x) (g.met.L.Logic.opposed x) c.requires.small)
    d.stages d.marks ls says.fit (omega arith) c.args.stretch.now c.loop-k.stretch c.settle_line.new.stretch k c.loop-k.most c.settle_line.result h
    (c.loop-k.invariant ls says) (c.settle_line.ensures (get_or ls k False) (says.words k (omega arith) ∙ sym here) (says.fit k h)))
