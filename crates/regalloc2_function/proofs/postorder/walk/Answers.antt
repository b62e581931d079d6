use Rattle.std.proofs.Common.{ℕ, ◌≡◌, true, List, [], ◌∷◌, ◌++◌, length, refl, ap, sym, ◌∙◌, arith, set}
use Rattle.std.proofs.lemmas.List.{nil_from_length}
use Rattle.regalloc2_function.specs.declared.postorder.Frame.{Frame}
use Rattle.regalloc2_function.proofs.NamedBlocks.{entry_is_block, succ_in_range}
use Rattle.regalloc2_function.proofs.DepthFirstWalk.{walked_frame, walked_start, again_step, enter_step, leave_step, again_less, enter_less, leave_less, walked_end, read_zero}
use Rattle.std.proofs.lemmas.Result.{err_from_is_err_and}
use Rattle.regalloc2_function.proofs.postorder.walk.Goals as goal

pub loop-frame-init : goal.loop-frame-init
loop-frame-init g c = λ succs same blocks.
    walked_start succs (length c.args.visited.now) c.args.entry c.args.visited.now _ _ c.args.out.now.items c.requires.unvisited
    (entry_is_block succs (length c.args.visited.now) c.args.entry blocks)
    (ap (λ (i : ℕ). set c.args.visited.now i true) c.index.ensures)
    (c.in_ok-push.ensures.items ∙ ap (λ (l : List Frame). l ++ record { block = c.args.entry; next = 0 } ∷ []) c.new-stack.ensures.items) c.requires.empty

pub succs_of-succs-requires : goal.succs_of-succs-requires
succs_of-succs-requires g c =
    let s = c.requires.same in
    let in_range = walked_frame c.pop.new.self.items c.in-Some.frame (c.loop-frame.invariant s.0 s.1 s.2) c.in-Some.ensures.items in
    λ k. ((refl, tt), c.requires.callable c.in-Some.frame.block in_range)

pub bounds-visited-index-then-frame-succs : goal.bounds-visited-index-then-frame-succs
bounds-visited-index-then-frame-succs g c =
    let s = c.requires.same in
    let w = c.loop-frame.invariant s.0 s.1 s.2 in
    let in_range = walked_frame c.pop.new.self.items c.in-Some.frame w c.in-Some.ensures.items in
    let is : c.succs_of-succs.result.now ≡ s.0 c.in-Some.frame.block = s.1 _ _ in_range c.succs_of-succs.ensures in
    let h = succ_in_range s.0 (length c.args.visited.now) c.args.entry c.in-Some.frame.block c.in-Some.frame.next c.index-succs-frame.result
    c.succs_of-succs.result.now s.2 in_range is c.if-frame-succs.true c.index-succs-frame.is in
    omega (arith, h, w.long, c.index-then-frame-succs.ensures)

pub bounds-visited-index-then-not-met : goal.bounds-visited-index-then-not-met
bounds-visited-index-then-not-met g c =
    let s = c.requires.same in
    let w = c.loop-frame.invariant s.0 s.1 s.2 in
    let in_range = walked_frame c.pop.new.self.items c.in-Some.frame w c.in-Some.ensures.items in
    let is : c.succs_of-succs.result.now ≡ s.0 c.in-Some.frame.block = s.1 _ _ in_range c.succs_of-succs.ensures in
    let h = succ_in_range s.0 (length c.args.visited.now) c.args.entry c.in-Some.frame.block c.in-Some.frame.next c.index-succs-frame.result
    c.succs_of-succs.result.now s.2 in_range is c.if-frame-succs.true c.index-succs-frame.is in
    omega (arith, h, w.long, c.index-then-not-met.ensures)

pub loop-frame-smaller-else-not-met : goal.loop-frame-smaller-else-not-met
loop-frame-smaller-else-not-met g c =
    again_less c.loop-frame.visited c.loop-frame.stack.items c.pop.new.self.items c.in-Some.frame c.in-Some.ensures.items c.push-then-frame-succs.new.self.items
    c.in_ok-push-2.ensures.items (omega arith)

pub loop-frame-smaller-in-Continue-branch-3 : goal.loop-frame-smaller-in-Continue-branch-3
loop-frame-smaller-in-Continue-branch-3 g c =
    let s = c.requires.same in
    let w = c.loop-frame.invariant s.0 s.1 s.2 in
    let in_range = walked_frame c.pop.new.self.items c.in-Some.frame w c.in-Some.ensures.items in
    let is : c.succs_of-succs.result.now ≡ s.0 c.in-Some.frame.block = s.1 _ _ in_range c.succs_of-succs.ensures in
    let h = succ_in_range s.0 (length c.args.visited.now) c.args.entry c.in-Some.frame.block c.in-Some.frame.next c.index-succs-frame.result
    c.succs_of-succs.result.now s.2 in_range is c.if-frame-succs.true c.index-succs-frame.is in
    rw c.index-then-not-met.ensures (enter_less c.loop-frame.visited c.loop-frame.stack.items c.pop.new.self.items c.in-Some.frame c.in-Some.ensures.items
    c.push-then-frame-succs.new.self.items c.push-then-not-met.new.self.items c.index-succs-frame.result c.in_ok-push-2.ensures.items
    c.in_ok-push-3.ensures.items (omega arith) (omega (arith, h, w.long))
    (rw c.index-then-frame-succs.ensures at c.if-not-met.true))

pub loop-frame-smaller : goal.loop-frame-smaller
loop-frame-smaller g c = leave_less c.loop-frame.visited c.loop-frame.stack.items c.pop.new.self.items c.in-Some.frame c.in-Some.ensures.items

pub loop-frame-preserved-else-not-met : goal.loop-frame-preserved-else-not-met
loop-frame-preserved-else-not-met g c = λ succs same blocks.
    (let w = c.loop-frame.invariant succs same blocks in
    let in_range = walked_frame c.pop.new.self.items c.in-Some.frame w c.in-Some.ensures.items in
    let is : c.succs_of-succs.result.now ≡ succs c.in-Some.frame.block = same _ _ in_range c.succs_of-succs.ensures in
    let h = succ_in_range succs (length c.args.visited.now) c.args.entry c.in-Some.frame.block c.in-Some.frame.next c.index-succs-frame.result
    c.succs_of-succs.result.now blocks in_range is c.if-frame-succs.true c.index-succs-frame.is in
    again_step succs (length c.args.visited.now) c.args.entry c.loop-frame.visited c.loop-frame.out.items c.loop-frame.stack.items c.pop.new.self.items
    c.in-Some.frame c.succs_of-succs.result.now (record { top = c.in-Some.ensures.items; is = is; w = w })
    c.index-succs-frame.result c.in_ok-push-2.ensures.items
    (record {
      less = c.if-frame-succs.true;
      at = read_zero c.succs_of-succs.result.now c.in-Some.frame.next c.index-succs-frame.result c.if-frame-succs.true c.index-succs-frame.is;
      within = h;
    }) (rw c.index-then-frame-succs.ensures at c.if-not-met.false))

pub loop-frame-preserved-in-Continue-branch-3 : goal.loop-frame-preserved-in-Continue-branch-3
loop-frame-preserved-in-Continue-branch-3 g c = λ succs same blocks.
    (let w = c.loop-frame.invariant succs same blocks in
    let in_range = walked_frame c.pop.new.self.items c.in-Some.frame w c.in-Some.ensures.items in
    let is : c.succs_of-succs.result.now ≡ succs c.in-Some.frame.block = same _ _ in_range c.succs_of-succs.ensures in
    let h = succ_in_range succs (length c.args.visited.now) c.args.entry c.in-Some.frame.block c.in-Some.frame.next c.index-succs-frame.result
    c.succs_of-succs.result.now blocks in_range is c.if-frame-succs.true c.index-succs-frame.is in
    rw c.index-then-not-met.ensures (enter_step succs (length c.args.visited.now) c.args.entry c.loop-frame.visited c.loop-frame.out.items
    c.loop-frame.stack.items c.pop.new.self.items c.in-Some.frame c.succs_of-succs.result.now
    (record { top = c.in-Some.ensures.items; is = is; w = w }) c.index-succs-frame.result c.in_ok-push-2.ensures.items c.in_ok-push-3.ensures.items
    (record {
      less = c.if-frame-succs.true;
      at = read_zero c.succs_of-succs.result.now c.in-Some.frame.next c.index-succs-frame.result c.if-frame-succs.true c.index-succs-frame.is;
      within = h;
    }) (rw c.index-then-frame-succs.ensures at c.if-not-met.true)))

pub loop-frame-preserved : goal.loop-frame-preserved
loop-frame-preserved g c = λ succs same blocks.
    (let w = c.loop-frame.invariant succs same blocks in
    let in_range = walked_frame c.pop.new.self.items c.in-Some.frame w c.in-Some.ensures.items in
    let is : c.succs_of-succs.result.now ≡ succs c.in-Some.frame.block = same _ _ in_range c.succs_of-succs.ensures in
    leave_step succs (length c.args.visited.now) c.args.entry c.loop-frame.visited c.loop-frame.out.items c.loop-frame.stack.items c.pop.new.self.items
    c.in-Some.frame c.succs_of-succs.result.now (record { top = c.in-Some.ensures.items; is = is; w = w }) c.in_ok-push-4.ensures.items
    c.if-frame-succs.false)

pub returns : goal.returns
returns g c = λ succs same blocks. walked_end succs (length c.args.visited.now) c.args.entry c.loop-frame.visited c.loop-frame.stack.items
    c.loop-frame.out.items (nil_from_length c.loop-frame.stack.items (sym c.loop-frame.stack.ok.0 ∙ (rw c.in_default.is at c.pop.ensures.cases).0))
    (c.loop-frame.invariant succs same blocks)

pub returns-in_err-push : goal.returns-in_err-push
returns-in_err-push g c = λ succs same blocks. (let p = err_from_is_err_and c.from_residual.result c.from_residual.ensures.1 in rw p.1 tt)

pub returns-in_err-push-2 : goal.returns-in_err-push-2
returns-in_err-push-2 g c =
    λ succs same blocks. (let p = err_from_is_err_and c.from_residual-in_err-push-2.result c.from_residual-in_err-push-2.ensures.1 in rw p.1 tt)

pub returns-in_err-push-3 : goal.returns-in_err-push-3
returns-in_err-push-3 g c =
    λ succs same blocks. (let p = err_from_is_err_and c.from_residual-in_err-push-3.result c.from_residual-in_err-push-3.ensures.1 in rw p.1 tt)

pub returns-in_err-push-4 : goal.returns-in_err-push-4
returns-in_err-push-4 g c =
    λ succs same blocks. (let p = err_from_is_err_and c.from_residual-in_err-push-4.result c.from_residual-in_err-push-4.ensures.1 in rw p.1 tt)
