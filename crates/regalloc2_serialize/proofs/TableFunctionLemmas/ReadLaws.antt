-- What is read of a table is its function's.
use Rattle.std.proofs.Common.{◌≡◌, ◌∙◌, ℕ, ◌<◌, length, map, get_or, sym, ap, arith}
use Rattle.std.proofs.lemmas.List.{get_or-map, length-map}
use Rattle.regalloc2_function.specs.FunctionValue.{block_at, inst_at, no_block, no_inst}
use Rattle.regalloc2_serialize.specs.TableFunction.Table.{function_of_table, inst_of_table, block_of_table}
use Rattle.regalloc2_serialize.specs.declared.table_function.table.TableBlock.{TableBlock}
use Rattle.regalloc2_serialize.specs.declared.table_function.table.TableInst.{TableInst}
use Rattle.regalloc2_serialize.specs.declared.table_function.table.TableFunction.{TableFunction}

pub table-inst : {A : Type 0} (f : TableFunction A) (n i : ℕ) (x : TableInst A) → n < length (map inst_of_table f.insts.items) → i ≡ n →
    x ≡ get_or f.insts.items i x → inst_of_table x ≡ inst_at (function_of_table f) n
table-inst f n i x less is read =
    let here : i < length f.insts.items = omega (arith, is, less, length-map f.insts.items inst_of_table) in
    ap inst_of_table read ∙ sym (get_or-map inst_of_table f.insts.items i x no_inst here)
    ∙ ap (λ (j : ℕ). get_or (map inst_of_table f.insts.items) j no_inst) is

pub table-block : {A : Type 0} (f : TableFunction A) (n i : ℕ) (x : TableBlock A) → n < length (map block_of_table f.blocks.items) → i ≡ n →
    x ≡ get_or f.blocks.items i x → block_of_table x ≡ block_at (function_of_table f) n
table-block f n i x less is read =
    let here : i < length f.blocks.items = omega (arith, is, less, length-map f.blocks.items block_of_table) in
    ap block_of_table read ∙ sym (get_or-map block_of_table f.blocks.items i x no_block here)
    ∙ ap (λ (j : ℕ). get_or (map block_of_table f.blocks.items) j no_block) is
