use Rattle.std.proofs.Common.{◌≡◌, ◌*◌, min, ltb, length, take, IfOk, vec_items, sym, ap, ◌∙◌, subst, arith}
use Rattle.std.specs.List.{between}
use Rattle.std.proofs.lemmas.Slice.{between_is}
use Rattle.table.specs.Bytes.{whole_words}
use Rattle.plan.specs.Plans.{Plan, plan_words, left_over}
use Rattle.plan.proofs.Counting.{first_words, first_count}
use Rattle.plan.proofs.run.Goals as goal

pub returns : goal.returns
returns c =
    let bytes = c.args.bytes.now in
    let all = whole_words bytes in
    let n = c.min-count.result in
    let is : vec_items c.in_ok-all.all ≡ all = c.in_ok-all.ensures in
    let len : c.len.result ≡ length all = c.len.ensures ∙ c.in_ok-all.all.ok.0 ∙ ap length is in
    let count : n ≡ min (length all) 8192 = omega (arith, c.min-count.ensures, len) in
    let words : between 0 n c.as_slice.result.now ≡ plan_words bytes =
    ap (λ ws. between 0 n ws) (c.as_slice.ensures.value ∙ is) ∙ between_is all 0 n ∙ ap (λ k. take k all) count ∙ first_words all 8192
    in
    let more : ltb (4 * n) (length bytes) ≡ left_over bytes = ap (λ k. ltb (4 * k) (length bytes)) (count ∙ sym (first_count all 8192)) in
    subst (λ b. IfOk c.run_words.result (λ o. Plan b (plan_words bytes) (vec_items o.outputs) o.stop)) more
    (subst (λ ws. IfOk c.run_words.result (λ o. Plan (ltb (4 * n) (length bytes)) ws (vec_items o.outputs) o.stop)) words c.run_words.ensures)
