use Rattle.regalloc2_function.specs.FunctionValue.{FunctionValue}
use Rattle.std.proofs.lemmas.Bool.{false≢true}
use Rattle.regalloc2_analysis.proofs.liveness.search.leads_on.Goals as goal

pub is_unwritten-requires-clause-block : goal.is_unwritten-requires-clause-block
is_unwritten-requires-clause-block g c =
    let f : FunctionValue = g.F.Function.function c.args.f.now in
    (c.in-Some.ensures f c.args.vreg c.loop.invariant.near c.loop.invariant.far).2.0

pub add_succs-requires-clause-block : goal.add_succs-requires-clause-block
add_succs-requires-clause-block g c =
    let f : FunctionValue = g.F.Function.function c.args.f.now in
    (c.in-Some.ensures f c.args.vreg c.loop.invariant.near c.loop.invariant.far).2.0

pub add_succs-requires-clause-here : goal.add_succs-requires-clause-here
add_succs-requires-clause-here g c =
    let f : FunctionValue = g.F.Function.function c.args.f.now in
    (c.in-Some.ensures f c.args.vreg c.loop.invariant.near c.loop.invariant.far).2

pub add_succs-requires-clause-near : goal.add_succs-requires-clause-near
add_succs-requires-clause-near g c =
    let f : FunctionValue = g.F.Function.function c.args.f.now in
    (c.in-Some.ensures f c.args.vreg c.loop.invariant.near c.loop.invariant.far).0

pub add_succs-requires-clause-far : goal.add_succs-requires-clause-far
add_succs-requires-clause-far g c =
    let f : FunctionValue = g.F.Function.function c.args.f.now in
    (c.in-Some.ensures f c.args.vreg c.loop.invariant.near c.loop.invariant.far).1

pub loop-preserved-then-not-is_unwritten : goal.loop-preserved-then-not-is_unwritten
loop-preserved-then-not-is_unwritten g c =
    let f : FunctionValue = g.F.Function.function c.args.f.now in
    let taken = c.in-Some.ensures f c.args.vreg c.loop.invariant.near c.loop.invariant.far in
    record {
      near = taken.0;
      far = taken.1;
    }

pub returns-then-branch : goal.returns-then-branch
returns-then-branch g c = λ yes. c.in_ok-add_succs.ensures.found c.if-branch.true

pub loop-init : goal.loop-init
loop-init g c = record { near = c.requires.near; far = c.requires.far }

pub is_unwritten-requires-clause-framed : goal.is_unwritten-requires-clause-framed
is_unwritten-requires-clause-framed g c = c.requires.framed

pub add_succs-requires-clause-framed : goal.add_succs-requires-clause-framed
add_succs-requires-clause-framed g c = c.requires.framed

pub add_succs-requires-clause-unwritten : goal.add_succs-requires-clause-unwritten
add_succs-requires-clause-unwritten g c = c.is_unwritten.ensures c.if-not-is_unwritten.false

pub loop-preserved : goal.loop-preserved
loop-preserved g c = record { near = c.in_ok-add_succs.ensures.near; far = c.in_ok-add_succs.ensures.far }

pub returns-in_default : goal.returns-in_default
returns-in_default g c = λ e. absurd (false≢true e)

pub returns : goal.returns
returns g c = λ e. absurd (false≢true e)
