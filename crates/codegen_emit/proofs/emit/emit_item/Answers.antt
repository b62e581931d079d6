use Rattle.std.proofs.Common.{◌≡◌, ◌<◌, get_or, length, rules}
use Rattle.std.proofs.lemmas.List.{length-map}
use Rattle.codegen_emit.proofs.Emitting.{operation_here}
use Rattle.codegen_emit.proofs.emit.emit_item.Goals as goal

pub returns-in-Inst : goal.returns-in-Inst
returns-in-Inst c =
    let lines = c.args.f.now.lines.items in
    let i = c.in-Inst.inst in
    let l = c.index-in-Inst.result.now in
    let at : l ≡ get_or lines i l = rw c.index.ensures at c.index-in-Inst.ensures in
    let within = rw c.in-Inst.is at c.requires.within in
    let less : i < length lines = rw length-map at within.1 in
    rw (c.in-Inst.is, operation_here lines i l _ less at)
    (rw (c.inst_allocs.ensures, c.block_succs.ensures, c.index-in-Inst-2.ensures) at c.emit_operation.ensures)

pub returns-in-Edit : goal.returns-in-Edit
returns-in-Edit c = search rules
