use Rattle.std.proofs.Common.{◌≡◌, ◌∙◌, length, refl, arith}
use Rattle.regalloc2_function.specs.Views.{output_of}
use Rattle.codegen_machine.specs.Seen.{function_of_procedure, operations}
use Rattle.codegen_emit.proofs.Emitting.{all_resolved, no_block_yet, one_block, no_start, one_start}
use Rattle.codegen_machine.specs.Machine.{CodeValue}
use Rattle.codegen_emit.specs.Emitted.{emitted}
use Rattle.codegen_emit.proofs.emit.emit.Goals as goal

pub loop-b-init : goal.loop-b-init
loop-b-init c =
    let os = operations c.args.f.now in
    let out = output_of c.args.out.now in
    let f = function_of_procedure c.args.f.now in
    (rw c.new-code.ensures.items (no_block_yet os out f), rw c.new-starts.ensures.items (no_start os out f))

pub loop-b-preserved : goal.loop-b-preserved
loop-b-preserved c =
    let os = operations c.args.f.now in
    let out = output_of c.args.out.now in
    let f = function_of_procedure c.args.f.now in (
      one_block os out f c.loop-b.b _ _ c.loop-b.invariant.0 (rw c.new.ensures at c.in_ok-emit_block.ensures),
      one_start os out f c.loop-b.b _ _ _ _ c.loop-b.invariant.1 c.loop-b.invariant.0 (c.len.ensures ∙ c.loop-b.code.ok.0) c.in_ok-push.ensures.items,
    )

-- codes with the same instructions and frames are equal
same_code : (a b : CodeValue) → a.instructions ≡ b.instructions → a.slots ≡ b.slots → a.outgoing ≡ b.outgoing → a ≡ b
same_code a b is slots outgoing = rw (is, slots, outgoing) refl

pub returns : goal.returns
returns c =
    let os = operations c.args.f.now in
    let out = output_of c.args.out.now in
    let f = function_of_procedure c.args.f.now in
    let all : c.loop-b.b ≡ length f.blocks = omega (arith, c.loop-b-test.false, c.loop-b.auto.b-end, c.num_blocks-b-end.ensures.count) in
    same_code _ (emitted os f out)
    (all_resolved os out f c.loop-b.b _ _ _ all c.loop-b.invariant.0 c.loop-b.invariant.1
    (rw (c.deref.ensures.value, c.deref-2.ensures.value) at c.in_ok-instructions.ensures))
    c.frame_slots.ensures (rw c.deref-3.ensures.value at c.outgoing_words.ensures)
