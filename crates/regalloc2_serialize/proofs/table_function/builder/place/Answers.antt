use Rattle.std.proofs.Common.{◌≡◌, List, ◌+◌, ◌++◌, length, map, refl, sym, ap, ◌∙◌, arith, ℕ, ◌^◌, ◌≤◌}
use Rattle.std.proofs.lemmas.List.{map-append, map-id, length-append, length-map}
use Rattle.std.proofs.lemmas.Result.{IfOk-at_ok}
use Rattle.std.proofs.lemmas.Iterator.Adapters.{fact_from_extend, YieldsList-from_vec}
use Rattle.regalloc2_serialize.specs.declared.table_function.table.TableInst.{TableInst}
use Rattle.regalloc2_serialize.specs.TableFunction.Table.{inst_of_table}
use Rattle.regalloc2_serialize.proofs.table_function.builder.place.Goals as goal

at-limit : (n len l m : ℕ) → 2 ^ 30 ≤ n → n ≡ len → len ≡ l → l ≡ m → 2 ^ 30 ≤ m
at-limit n len l m many is long e = omega arith

pub returns-then-len-ge-INST_LIMIT-clause-err : goal.returns-then-len-ge-INST_LIMIT-clause-err
returns-then-len-ge-INST_LIMIT-clause-err g c =
    let more : c.extend.new.self.items ≡ c.args.insts.now.items ++ c.args.draft.insts.items = IfOk-at_ok
    (λ _. c.extend.new.self.items ≡ c.args.insts.now.items ++ c.args.draft.insts.items) c.in_ok-extend.was
    (fact_from_extend (λ x. x) c.extend.result c.extend.ensures.ran (λ it b. YieldsList-from_vec {s = it} _ b.0 (b.1 ∙ c.args.draft.insts.ok.0))
    (λ xs e h. h.0 ∙ ap (λ (l : List (TableInst g.row.A.Denot)). c.args.insts.now.items ++ l) (sym (map-id xs) ∙ e))) in
    let long = ap length more in
    rw length-map (at-limit _ _ _ _ c.if-len-ge-INST_LIMIT.true c.len-2.ensures c.extend.new.self.ok.0 (rw length-append at long))

pub returns-clause-blocks : goal.returns-clause-blocks
returns-clause-blocks g c =
    let more : c.extend.new.self.items ≡ c.args.insts.now.items ++ c.args.draft.insts.items = IfOk-at_ok
    (λ _. c.extend.new.self.items ≡ c.args.insts.now.items ++ c.args.draft.insts.items) c.in_ok-extend.was
    (fact_from_extend (λ x. x) c.extend.result c.extend.ensures.ran (λ it b. YieldsList-from_vec {s = it} _ b.0 (b.1 ∙ c.args.draft.insts.ok.0))
    (λ xs e h. h.0 ∙ ap (λ (l : List (TableInst g.row.A.Denot)). c.args.insts.now.items ++ l) (sym (map-id xs) ∙ e))) in
    let long = ap length more in
    let start : c.new-first.result ≡ length c.args.insts.now.items = c.new-first.ensures ∙ c.len.ensures ∙ c.args.insts.now.ok.0 in
    let end : c.new.result ≡ length c.args.insts.now.items + length (map inst_of_table c.args.draft.insts.items) = rw length-map
    (c.new.ensures ∙ c.len-3.ensures ∙ c.extend.new.self.ok.0 ∙ rw length-append at long) in
    rw (c.in_ok-push.ensures.items, map-append, c.new-2.ensures, c.new-3.ensures.items, start, end) refl

pub returns-clause-insts : goal.returns-clause-insts
returns-clause-insts g c =
    let more : c.extend.new.self.items ≡ c.args.insts.now.items ++ c.args.draft.insts.items = IfOk-at_ok
    (λ _. c.extend.new.self.items ≡ c.args.insts.now.items ++ c.args.draft.insts.items) c.in_ok-extend.was
    (fact_from_extend (λ x. x) c.extend.result c.extend.ensures.ran (λ it b. YieldsList-from_vec {s = it} _ b.0 (b.1 ∙ c.args.draft.insts.ok.0))
    (λ xs e h. h.0 ∙ ap (λ (l : List (TableInst g.row.A.Denot)). c.args.insts.now.items ++ l) (sym (map-id xs) ∙ e))) in
    rw (more, map-append) refl

pub returns-clause-err : goal.returns-clause-err
returns-clause-err g c = tt

pub returns-then-len-ge-INST_LIMIT-clause-blocks : goal.returns-then-len-ge-INST_LIMIT-clause-blocks
returns-then-len-ge-INST_LIMIT-clause-blocks g c = tt

pub returns-then-len-ge-INST_LIMIT-clause-few : goal.returns-then-len-ge-INST_LIMIT-clause-few
returns-then-len-ge-INST_LIMIT-clause-few g c = tt

pub returns-then-len-ge-INST_LIMIT-clause-insts : goal.returns-then-len-ge-INST_LIMIT-clause-insts
returns-then-len-ge-INST_LIMIT-clause-insts g c = tt

pub returns-clause-few : goal.returns-clause-few
returns-clause-few g c = omega (arith, c.if-len-ge-INST_LIMIT.false, c.len-2.ensures)
