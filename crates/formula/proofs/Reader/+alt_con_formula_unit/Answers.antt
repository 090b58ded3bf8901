use Rattle.std.proofs.Common.{rules, ◌≡◌, Err, set, sym, refl, ap, ◌∙◌, subst, arith}
use Rattle.lines.specs.declared.Binary.TheVariants.{Implies}
use Rattle.lines.specs.declared.Line.TheVariants.{Two}
use Rattle.lines.specs.Word.{word_of}
use Rattle.tokens.specs.Names.{Listed}
use Rattle.tokens.proofs.Fronts.{stands_of, shorter}
use Rattle.formula.specs.Grammar.{truth, falsity, mark, one, two, path_of, unit, con, alt, formula}
use Rattle.formula.specs.Tells.{unread, names, Told}
use Rattle.formula.proofs.Steps.{con_list, alt_list, j_no, j_more_no, u_true, u_false, u_name, u_name_no, u_one, u_one_no, u_path, u_path_left, u_path_first, u_path_link, u_path_second, u_path_right, u_group, u_group_no, u_group_open, f_no, f_alt, f_more, f_more_no}
use Rattle.formula.proofs.Turns.{told_by, unread_by, not_link, no_unit, refuses, room, after_one, after_two, list_room, list_first, list_more, list_done}
use Rattle.formula.proofs.Reader.+alt_con_formula_unit.Goals as goal

-- ---- con

pub con-returns-in_err-left-clause-tells : goal.con-returns-in_err-left-clause-tells
con-returns-in_err-left-clause-tells t c =
    let w : c.from_residual.result ≡ Err c.in_err-left.field-0.0 = search rules in
    refuses con c.args.self.now c.args.out.now _ _ _ _ w c.in_err-left.ensures.tells.0 (j_no con_list c.in_err-left.ensures.tells.1)

pub con-more-init : goal.con-more-init
con-more-init t c = let h = c.in_ok-left.ensures in record { progress = list_first con_list h.tells.0; last = h.tells.1; keeps = h.keeps }

pub con-unit-requires-in-more : goal.con-unit-requires-in-more
con-unit-requires-in-more t c =
    let h = list_room c.more.invariant.progress in
    let g = shorter tt (stands_of tt c.more-test.ensures.0) in
    (omega (arith, h.0, h.1, g, c.decreases), omega (arith, h.0, h.1, g, c.requires))

pub con-returns-in_err-right-clause-tells : goal.con-returns-in_err-right-clause-tells
con-returns-in_err-right-clause-tells t c =
    let w : c.from_residual-in_err-right.result ≡ Err c.in_err-right.field-0.0 = search rules in
    refuses con c.args.self.now c.args.out.now _ _ _ _ w c.in_err-right.ensures.tells.0
    (j_more_no con_list c.more.invariant.progress.ran (stands_of tt c.more-test.ensures.0) (unread_by (c.more-test.ensures.1 ∙ c.more.invariant.keeps.names) c.in_err-right.ensures.tells.1))

pub con-push-left-requires : goal.con-push-left-requires
con-push-left-requires t c =
    let h = list_room c.more.invariant.progress in
    let g = shorter tt (stands_of tt c.more-test.ensures.0) in
    omega (arith, h.1, (room c.in_ok-right.ensures.tells.0).1, g, c.requires)

pub con-more-smaller : goal.con-more-smaller
con-more-smaller t c =
    let g = shorter tt (stands_of tt c.more-test.ensures.0) in
    let r = room c.in_ok-right.ensures.tells.0 in
    omega (arith, r.0, r.1, g)

pub con-more-preserved : goal.con-more-preserved
con-more-preserved t c =
    let i = c.more.invariant in
    let h = c.in_ok-right.ensures in
    let p = c.push-left.ensures in
    let same = c.more-test.ensures.1 ∙ i.keeps.names in
    record {
      progress = list_more con_list i.progress (stands_of tt c.more-test.ensures.0) (told_by same h.tells.0) i.last h.tells.1 p.words p.count;
      last = p.number;
      keeps = record { names = h.keeps.names ∙ same; words = p.same ∙ h.keeps.words ∙ i.keeps.words };
    }

pub con-returns-clause-tells : goal.con-returns-clause-tells
con-returns-clause-tells t c =
    let e = c.more-test.ensures in
    let i = c.more.invariant in
    (subst (λ s. Told (names c.args.self.now) con (unread c.args.self.now) c.args.out.now.words.now c.args.out.now.count c.more.out.count (unread s) c.more.out.words.now) (sym e.1) (list_done con_list i.progress e.0), i.last)

-- ---- alt

pub alt-returns-in_err-left-clause-tells : goal.alt-returns-in_err-left-clause-tells
alt-returns-in_err-left-clause-tells t c =
    let w : c.from_residual.result ≡ Err c.in_err-left.field-0.0 = search rules in
    refuses alt c.args.self.now c.args.out.now _ _ _ _ w c.in_err-left.ensures.tells.0 (j_no alt_list c.in_err-left.ensures.tells.1)

pub alt-more-init : goal.alt-more-init
alt-more-init t c = let h = c.in_ok-left.ensures in record { progress = list_first alt_list h.tells.0; last = h.tells.1; keeps = h.keeps }

pub alt-con-requires-in-more : goal.alt-con-requires-in-more
alt-con-requires-in-more t c =
    let h = list_room c.more.invariant.progress in
    let g = shorter tt (stands_of tt c.more-test.ensures.0) in
    (omega (arith, h.0, h.1, g, c.decreases), omega (arith, h.0, h.1, g, c.requires))

pub alt-returns-in_err-right-clause-tells : goal.alt-returns-in_err-right-clause-tells
alt-returns-in_err-right-clause-tells t c =
    let w : c.from_residual-in_err-right.result ≡ Err c.in_err-right.field-0.0 = search rules in
    refuses alt c.args.self.now c.args.out.now _ _ _ _ w c.in_err-right.ensures.tells.0
    (j_more_no alt_list c.more.invariant.progress.ran (stands_of tt c.more-test.ensures.0) (unread_by (c.more-test.ensures.1 ∙ c.more.invariant.keeps.names) c.in_err-right.ensures.tells.1))

pub alt-push-left-requires : goal.alt-push-left-requires
alt-push-left-requires t c =
    let h = list_room c.more.invariant.progress in
    let g = shorter tt (stands_of tt c.more-test.ensures.0) in
    omega (arith, h.1, (room c.in_ok-right.ensures.tells.0).1, g, c.requires)

pub alt-more-smaller : goal.alt-more-smaller
alt-more-smaller t c =
    let g = shorter tt (stands_of tt c.more-test.ensures.0) in
    let r = room c.in_ok-right.ensures.tells.0 in
    omega (arith, r.0, r.1, g)

pub alt-more-preserved : goal.alt-more-preserved
alt-more-preserved t c =
    let i = c.more.invariant in
    let h = c.in_ok-right.ensures in
    let p = c.push-left.ensures in
    let same = c.more-test.ensures.1 ∙ i.keeps.names in
    record {
      progress = list_more alt_list i.progress (stands_of tt c.more-test.ensures.0) (told_by same h.tells.0) i.last h.tells.1 p.words p.count;
      last = p.number;
      keeps = record { names = h.keeps.names ∙ same; words = p.same ∙ h.keeps.words ∙ i.keeps.words };
    }

pub alt-returns-clause-tells : goal.alt-returns-clause-tells
alt-returns-clause-tells t c =
    let e = c.more-test.ensures in
    let i = c.more.invariant in
    (subst (λ s. Told (names c.args.self.now) alt (unread c.args.self.now) c.args.out.now.words.now c.args.out.now.count c.more.out.count (unread s) c.more.out.words.now) (sym e.1) (list_done alt_list i.progress e.0), i.last)

-- ---- formula

pub formula-returns-in_err-left-clause-tells : goal.formula-returns-in_err-left-clause-tells
formula-returns-in_err-left-clause-tells t c =
    let w : c.from_residual.result ≡ Err c.in_err-left.field-0.0 = search rules in
    refuses formula c.args.self.now c.args.out.now _ _ _ _ w c.in_err-left.ensures.tells.0 (f_no c.in_err-left.ensures.tells.1)

pub formula-returns-then-not-eat-clause-tells : goal.formula-returns-then-not-eat-clause-tells
formula-returns-then-not-eat-clause-tells t c =
    let h = c.in_ok-left.ensures.tells in
    let e = c.if-not-eat.ensures in
    (subst (λ s. Told (names c.args.self.now) formula (unread c.args.self.now) c.args.out.now.words.now c.args.out.now.count c.alt.new.out.count (unread s) c.alt.new.out.words.now) (sym e.1) (h.0.0, f_alt h.0.1 e.0, h.0.2, h.0.3), h.1)

pub formula-formula-requires : goal.formula-formula-requires
formula-formula-requires t c =
    let h = room c.in_ok-left.ensures.tells.0 in
    let g = shorter tt (stands_of tt c.if-not-eat.ensures.0) in
    (omega (arith, h.0, h.1, g, c.decreases), omega (arith, h.0, h.1, g, c.requires))

pub formula-returns-in_err-right-clause-tells : goal.formula-returns-in_err-right-clause-tells
formula-returns-in_err-right-clause-tells t c =
    let w : c.from_residual-in_err-right.result ≡ Err c.in_err-right.field-0.0 = search rules in
    refuses formula c.args.self.now c.args.out.now _ _ _ _ w c.in_err-right.ensures.tells.0
    (f_more_no c.in_ok-left.ensures.tells.0.1 (stands_of tt c.if-not-eat.ensures.0) (unread_by (c.if-not-eat.ensures.1 ∙ c.in_ok-left.ensures.keeps.names) c.in_err-right.ensures.tells.1))

pub formula-push-requires : goal.formula-push-requires
formula-push-requires t c =
    let g = shorter tt (stands_of tt c.if-not-eat.ensures.0) in
    omega (arith, (room c.in_ok-left.ensures.tells.0).1, (room c.in_ok-right.ensures.tells.0).1, g, c.requires)

pub formula-returns-clause-tells : goal.formula-returns-clause-tells
formula-returns-clause-tells t c =
    let h = c.in_ok-left.ensures in
    let r = c.in_ok-right.ensures in
    let d = told_by (c.if-not-eat.ensures.1 ∙ h.keeps.names) r.tells.0 in
    let p = c.push.ensures in
    let a = after_two Implies c.args.out.now.count h.tells.0.0 c.args.out.now.words.now h.tells.0.2 h.tells.0.3 d h.tells.1 r.tells.1 p.words p.count in
    ((two Implies h.tells.0.0 d.0, f_more h.tells.0.1 (stands_of tt c.if-not-eat.ensures.0) d.1, a.0, a.1), p.number)

-- ---- unit

pub unit-returns-in-True-clause-tells : goal.unit-returns-in-True-clause-tells
unit-returns-in-True-clause-tells t c = let p = c.push.ensures in ((truth, u_true (stands_of tt c.in-True.ensures.seen), p.count, λ h. p.words), p.number)

pub unit-returns-in-False-clause-tells : goal.unit-returns-in-False-clause-tells
unit-returns-in-False-clause-tells t c = let p = c.push-in-False.ensures in ((falsity, u_false (stands_of tt c.in-False.ensures.seen), p.count, λ h. p.words), p.number)

pub unit-returns-in_ok-mark-in-Name-clause-tells : goal.unit-returns-in_ok-mark-in-Name-clause-tells
unit-returns-in_ok-mark-in-Name-clause-tells t c =
    let p = c.push-in-Name.ensures in
    let m = c.in_ok-mark-in-Name.mark in
    ((mark m, u_name (stands_of tt c.in-Name.ensures.seen) (subst (λ ns. Listed ns c.in-Name.name.now m) c.in-Name.ensures.same c.in_ok-mark-in-Name.ensures), p.count, λ h. p.words), p.number)

pub unit-returns-in_err-mark-in-Name-clause-tells : goal.unit-returns-in_err-mark-in-Name-clause-tells
unit-returns-in_err-mark-in-Name-clause-tells t c =
    let w : c.from_residual.result ≡ Err c.in_err-mark-in-Name.field-0.0 = search rules in
    refuses unit c.args.self.now c.args.out.now _ _ _ _ w c.in_err-mark-in-Name.ensures.0
    (u_name_no (stands_of tt c.in-Name.ensures.seen) (λ m l. c.in_err-mark-in-Name.ensures.1 m (subst (λ ns. Listed ns c.in-Name.name.now m) (sym c.in-Name.ensures.same) l)))

pub unit-returns-in_err-inner-in-Prefix-clause-tells : goal.unit-returns-in_err-inner-in-Prefix-clause-tells
unit-returns-in_err-inner-in-Prefix-clause-tells t c =
    let w : c.from_residual-in_err-inner-in-Prefix.result ≡ Err c.in_err-inner-in-Prefix.field-0.0 = search rules in
    refuses unit c.args.self.now c.args.out.now _ _ _ _ w c.in_err-inner-in-Prefix.ensures.tells.0
    (u_one_no (stands_of tt c.in-Prefix.ensures.seen) (unread_by c.in-Prefix.ensures.same c.in_err-inner-in-Prefix.ensures.tells.1))

pub unit-push-requires-in-Prefix : goal.unit-push-requires-in-Prefix
unit-push-requires-in-Prefix t c = omega (arith, (room c.in_ok-inner-in-Prefix.ensures.tells.0).1, shorter tt (stands_of tt c.in-Prefix.ensures.seen), c.requires)

pub unit-returns-in_ok-inner-in-Prefix-clause-tells : goal.unit-returns-in_ok-inner-in-Prefix-clause-tells
unit-returns-in_ok-inner-in-Prefix-clause-tells t c =
    let h = c.in_ok-inner-in-Prefix.ensures.tells in
    let d = told_by c.in-Prefix.ensures.same h.0 in
    let p = c.push-in-Prefix.ensures in
    let a = after_one c.in-Prefix.op d h.1 p.words p.count in
    ((one c.in-Prefix.op d.0, u_one (stands_of tt c.in-Prefix.ensures.seen) d.1, a.0, a.1), p.number)

pub unit-returns-in_err-inner-in-Open-clause-tells : goal.unit-returns-in_err-inner-in-Open-clause-tells
unit-returns-in_err-inner-in-Open-clause-tells t c =
    let w : c.from_residual-in_err-inner-in-Open.result ≡ Err c.in_err-inner-in-Open.field-0.0 = search rules in
    refuses unit c.args.self.now c.args.out.now _ _ _ _ w c.in_err-inner-in-Open.ensures.tells.0
    (u_group_no (stands_of tt c.in-Open.ensures.seen) (unread_by c.in-Open.ensures.same c.in_err-inner-in-Open.ensures.tells.1))

pub unit-returns-in_err-expect-in-Open-clause-tells : goal.unit-returns-in_err-expect-in-Open-clause-tells
unit-returns-in_err-expect-in-Open-clause-tells t c =
    let w : c.from_residual-in_err-expect-in-Open.result ≡ Err c.in_err-expect-in-Open.field-0.0 = search rules in
    refuses unit c.args.self.now c.args.out.now _ _ _ _ w c.in_err-expect-in-Open.ensures.0
    (u_group_open (stands_of tt c.in-Open.ensures.seen) (told_by c.in-Open.ensures.same c.in_ok-inner-in-Open.ensures.tells.0).1 c.in_err-expect-in-Open.ensures.1)

pub unit-returns-in_ok-expect-in-Open-clause-tells : goal.unit-returns-in_ok-expect-in-Open-clause-tells
unit-returns-in_ok-expect-in-Open-clause-tells t c =
    let h = c.in_ok-inner-in-Open.ensures.tells in
    let d = told_by c.in-Open.ensures.same h.0 in
    ((d.0, u_group (stands_of tt c.in-Open.ensures.seen) d.1 (stands_of tt c.in_ok-expect-in-Open.ensures.0), d.2, d.3), h.1)

pub unit-returns-in_default : goal.unit-returns-in_default
unit-returns-in_default t c = record {
  tells = (refl, no_unit _ c.next_token.ensures.seen c.in_default.not-Name c.in_default.not-True c.in_default.not-False c.in_default.not-Prefix c.in_default.not-Quantifier c.in_default.not-Open);
  keeps = record { names = c.next_token.ensures.same; words = refl };
}

-- ---- unit: E or A

pub unit-returns-in_err-expect-in-Quantifier-clause-tells : goal.unit-returns-in_err-expect-in-Quantifier-clause-tells
unit-returns-in_err-expect-in-Quantifier-clause-tells t c =
    let w : c.from_residual-in_err-expect-in-Quantifier.result ≡ Err c.in_err-expect-in-Quantifier.field-0.0 = search rules in
    refuses unit c.args.self.now c.args.out.now _ _ _ _ w c.in_err-expect-in-Quantifier.ensures.0
    (u_path_left (stands_of tt c.in-Quantifier.ensures.seen) c.in_err-expect-in-Quantifier.ensures.1)

pub unit-returns-in_err-left-in-Quantifier-clause-tells : goal.unit-returns-in_err-left-in-Quantifier-clause-tells
unit-returns-in_err-left-in-Quantifier-clause-tells t c =
    let w : c.from_residual-in_err-left-in-Quantifier.result ≡ Err c.in_err-left-in-Quantifier.field-0.0 = search rules in
    refuses unit c.args.self.now c.args.out.now _ _ _ _ w c.in_err-left-in-Quantifier.ensures.tells.0
    (u_path_first (stands_of tt c.in-Quantifier.ensures.seen) (stands_of tt c.in_ok-expect-in-Quantifier.ensures.0) (unread_by (c.in_ok-expect-in-Quantifier.ensures.1 ∙ c.in-Quantifier.ensures.same) c.in_err-left-in-Quantifier.ensures.tells.1))

pub unit-returns-in_default-next_token : goal.unit-returns-in_default-next_token
unit-returns-in_default-next_token t c =
    let h = c.in_ok-left-in-Quantifier.ensures in
    let same = c.in_ok-expect-in-Quantifier.ensures.1 ∙ c.in-Quantifier.ensures.same in
    let n = not_link _ c.next_token-in-Quantifier.ensures.seen c.in_default-next_token.not-Between in record {
      tells = (refl, u_path_link (stands_of tt c.in-Quantifier.ensures.seen) (stands_of tt c.in_ok-expect-in-Quantifier.ensures.0) (told_by same h.tells.0).1 n);
      keeps = record { names = c.next_token-in-Quantifier.ensures.same ∙ h.keeps.names ∙ same; words = h.keeps.words };
    }

pub unit-formula-requires-in-Quantifier : goal.unit-formula-requires-in-Quantifier
unit-formula-requires-in-Quantifier t c =
    let e = shorter tt (stands_of tt c.in-Quantifier.ensures.seen) in
    let f = shorter tt (stands_of tt c.in_ok-expect-in-Quantifier.ensures.0) in
    let h = room c.in_ok-left-in-Quantifier.ensures.tells.0 in
    let g = shorter tt (stands_of tt c.in-Between.ensures.seen) in
    (omega (arith, e, f, h.0, h.1, g, c.decreases), omega (arith, e, f, h.0, h.1, g, c.requires))

pub unit-returns-in_err-right-in-Quantifier-clause-tells : goal.unit-returns-in_err-right-in-Quantifier-clause-tells
unit-returns-in_err-right-in-Quantifier-clause-tells t c =
    let w : c.from_residual-in_err-right-in-Quantifier.result ≡ Err c.in_err-right-in-Quantifier.field-0.0 = search rules in
    refuses unit c.args.self.now c.args.out.now _ _ _ _ w c.in_err-right-in-Quantifier.ensures.tells.0
    (u_path_second (stands_of tt c.in-Quantifier.ensures.seen) (stands_of tt c.in_ok-expect-in-Quantifier.ensures.0) (told_by (c.in_ok-expect-in-Quantifier.ensures.1 ∙ c.in-Quantifier.ensures.same) c.in_ok-left-in-Quantifier.ensures.tells.0).1 (stands_of tt c.in-Between.ensures.seen) (unread_by (c.in-Between.ensures.same ∙ c.in_ok-left-in-Quantifier.ensures.keeps.names ∙ c.in_ok-expect-in-Quantifier.ensures.1 ∙ c.in-Quantifier.ensures.same) c.in_err-right-in-Quantifier.ensures.tells.1))

pub unit-returns-in_err-expect-in-Quantifier-2-clause-tells : goal.unit-returns-in_err-expect-in-Quantifier-2-clause-tells
unit-returns-in_err-expect-in-Quantifier-2-clause-tells t c =
    let w : c.from_residual-in_err-expect-in-Quantifier-2.result ≡ Err c.in_err-expect-in-Quantifier-2.field-0.0 = search rules in
    refuses unit c.args.self.now c.args.out.now _ _ _ _ w c.in_err-expect-in-Quantifier-2.ensures.0
    (u_path_right (stands_of tt c.in-Quantifier.ensures.seen) (stands_of tt c.in_ok-expect-in-Quantifier.ensures.0) (told_by (c.in_ok-expect-in-Quantifier.ensures.1 ∙ c.in-Quantifier.ensures.same) c.in_ok-left-in-Quantifier.ensures.tells.0).1 (stands_of tt c.in-Between.ensures.seen) (told_by (c.in-Between.ensures.same ∙ c.in_ok-left-in-Quantifier.ensures.keeps.names ∙ c.in_ok-expect-in-Quantifier.ensures.1 ∙ c.in-Quantifier.ensures.same) c.in_ok-right-in-Quantifier.ensures.tells.0).1 c.in_err-expect-in-Quantifier-2.ensures.1)

pub unit-push-requires-in-Quantifier : goal.unit-push-requires-in-Quantifier
unit-push-requires-in-Quantifier t c =
    let e = shorter tt (stands_of tt c.in-Quantifier.ensures.seen) in
    let f = shorter tt (stands_of tt c.in_ok-expect-in-Quantifier.ensures.0) in
    let g = shorter tt (stands_of tt c.in-Between.ensures.seen) in
    omega (arith, e, f, g, (room c.in_ok-left-in-Quantifier.ensures.tells.0).1, (room c.in_ok-right-in-Quantifier.ensures.tells.0).1, c.requires)

pub unit-returns-in_ok-expect-in-Quantifier-2-clause-tells : goal.unit-returns-in_ok-expect-in-Quantifier-2-clause-tells
unit-returns-in_ok-expect-in-Quantifier-2-clause-tells t c =
    let o = path_of c.in-Quantifier.paths c.in-Between.link in
    let l = c.in_ok-left-in-Quantifier.ensures.tells in
    let r = c.in_ok-right-in-Quantifier.ensures.tells in
    let h = told_by (c.in_ok-expect-in-Quantifier.ensures.1 ∙ c.in-Quantifier.ensures.same) l.0 in
    let d = told_by (c.in-Between.ensures.same ∙ c.in_ok-left-in-Quantifier.ensures.keeps.names ∙ c.in_ok-expect-in-Quantifier.ensures.1 ∙ c.in-Quantifier.ensures.same) r.0 in
    let p = c.push-in-Quantifier.ensures in
    let w = p.words ∙ ap (λ x. set c.formula-in-Quantifier.new.out.words.now c.formula-in-Quantifier.new.out.count (word_of (Two x c.in_ok-left-in-Quantifier.left c.in_ok-right-in-Quantifier.right))) c.path_operator.ensures in
    let a = after_two o c.args.out.now.count h.0 c.args.out.now.words.now h.2 h.3 d l.1 r.1 w p.count in
    ((two o h.0 d.0, u_path (stands_of tt c.in-Quantifier.ensures.seen) (stands_of tt c.in_ok-expect-in-Quantifier.ensures.0) h.1 (stands_of tt c.in-Between.ensures.seen) d.1 (stands_of tt c.in_ok-expect-in-Quantifier-2.ensures.0), a.0, a.1), p.number)
