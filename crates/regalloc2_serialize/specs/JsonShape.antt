-- The shape of stored functions and outputs in JSON.
use Rattle.std.specs.Prelude.{ℕ, ◌≡◌, ◌⊎◌, Bool, List, map, codes, nat_eq, if◌then◌else◌, Option, None, Some, IsSome, option_and_then}
use Rattle.std.specs.Cmp.Lexicographic.{pointwise}
use Rattle.serde_json.specs.Data.{Data}
use Rattle.serde_json.specs.Find.{as_bool, as_str}
use Rattle.regalloc2_function.specs.declared.serialize.StoredFault.{StoredFault}
use Rattle.regalloc2_function.specs.declared.serialize.StoredFault.TheVariants.{Memory, Shape}
use Rattle.regalloc2_function.specs.declared.serialize.StoredOutput.{StoredOutput}
use Rattle.regalloc2_serialize.specs.FromJson.{byte, word, long, or_null, list, member, pair, triple, quadruple}
use Rattle.regalloc2_serialize.specs.declared.data.InstOpcode.{InstOpcode}
use Rattle.regalloc2_serialize.specs.declared.data.InstOpcode.TheVariants.{Op, Ret, Branch}
use Rattle.regalloc2_serialize.specs.declared.data.StoredInst.{StoredInst}
use Rattle.regalloc2_serialize.specs.declared.data.StoredMachine.{StoredMachine}
use Rattle.regalloc2_serialize.specs.declared.data.StoredFunction.{StoredFunction}
use Rattle.regalloc2_serialize.specs.declared.json_outputs.BlockLists.{BlockLists}

-- an instruction's kind, by its name
abbrev pub opcode_of : List ℕ → Option InstOpcode
opcode_of text =
    if pointwise nat_eq text (codes "Op") then Some Op
    else if pointwise nat_eq text (codes "Ret") then Some Ret
    else if pointwise nat_eq text (codes "Branch") then Some Branch
    else None

abbrev pub opcode : Data → Option InstOpcode
opcode d = option_and_then opcode_of (as_str d)

-- the numbers of an instruction, wherever they are kept
pub record InstData : Type 0 where
  pub op : InstOpcode
  pub operands : List ℕ
  pub clobbers : List ℕ

abbrev pub inst_data : {A : Type 0} → StoredInst A → InstData
inst_data i = record { op = i.op; operands = i.operands.items; clobbers = i.clobbers.items }

abbrev pub inst : Data → Option InstData
inst d =
    option_and_then (λ op. option_and_then (λ operands. option_and_then (λ clobbers. Some (record { op = op; operands = operands; clobbers = clobbers }))
    (member (codes "clobbers") (list byte) d)) (member (codes "operands") (list long) d)) (member (codes "op") opcode d)

-- the numbers of a machine, wherever they are kept
pub record MachineData : Type 0 where
  pub preferred : List (List ℕ)
  pub non_preferred : List (List ℕ)
  pub scratch : List (Option ℕ)
  pub fixed_stack_slots : List ℕ

abbrev pub machine_data : {A : Type 0} → StoredMachine A → MachineData
machine_data m = record {
  preferred = map (λ l. l.items) m.preferred_regs_by_class.items;
  non_preferred = map (λ l. l.items) m.non_preferred_regs_by_class.items;
  scratch = m.scratch_by_class.items;
  fixed_stack_slots = m.fixed_stack_slots.items;
}

abbrev pub machine : Data → Option MachineData
machine d =
    option_and_then (λ preferred. option_and_then (λ non_preferred. option_and_then (λ scratch. option_and_then (λ slots.
    Some (record { preferred = preferred; non_preferred = non_preferred; scratch = scratch; fixed_stack_slots = slots }))
    (member (codes "fixed_stack_slots") (list byte) d)) (member (codes "scratch_by_class") (list (or_null byte)) d))
    (member (codes "non_preferred_regs_by_class") (list (list byte)) d)) (member (codes "preferred_regs_by_class") (list (list byte)) d)

-- a value has each member of a function, of that member's shape
pub record HasJsonShape (d : Data) : Type 0 where
  pub machine_env : IsSome (member (codes "machine_env") machine d)
  pub entry_block : IsSome (member (codes "entry_block") word d)
  pub insts : IsSome (member (codes "insts") (list inst) d)
  pub blocks : IsSome (member (codes "blocks") (list pair) d)
  pub block_preds : IsSome (member (codes "block_preds") (list (list word)) d)
  pub block_succs : IsSome (member (codes "block_succs") (list (list word)) d)
  pub block_params_in : IsSome (member (codes "block_params_in") (list (list word)) d)
  pub block_params_out : IsSome (member (codes "block_params_out") (list (list (list word))) d)
  pub num_vregs : IsSome (member (codes "num_vregs") long d)
  pub debug_value_labels : IsSome (member (codes "debug_value_labels") (list quadruple) d)
  pub spillslot_size : IsSome (member (codes "spillslot_size") (list long) d)
  pub multi_spillslot_named_by_last_slot : IsSome (member (codes "multi_spillslot_named_by_last_slot") as_bool d)
  pub allow_multiple_vreg_defs : IsSome (member (codes "allow_multiple_vreg_defs") as_bool d)

-- a function's fields are a value's members
pub record IsFunctionAt {A : Type 0} (d : Data) (s : StoredFunction A) : Type 0 where
  pub machine_env : member (codes "machine_env") machine d ≡ Some (machine_data s.machine_env)
  pub entry_block : member (codes "entry_block") word d ≡ Some s.entry_block
  pub insts : member (codes "insts") (list inst) d ≡ Some (map inst_data s.insts.items)
  pub blocks : member (codes "blocks") (list pair) d ≡ Some s.blocks.items
  pub block_preds : member (codes "block_preds") (list (list word)) d ≡ Some (map (λ l. l.items) s.block_preds.items)
  pub block_succs : member (codes "block_succs") (list (list word)) d ≡ Some (map (λ l. l.items) s.block_succs.items)
  pub block_params_in : member (codes "block_params_in") (list (list word)) d ≡ Some (map (λ l. l.items) s.block_params_in.items)
  pub block_params_out : member (codes "block_params_out") (list (list (list word))) d ≡ Some (map (λ l. map (λ k. k.items) l.items) s.block_params_out.items)
  pub num_vregs : member (codes "num_vregs") long d ≡ Some s.num_vregs
  pub debug_value_labels : member (codes "debug_value_labels") (list quadruple) d ≡ Some s.debug_value_labels.items
  pub spillslot_size : member (codes "spillslot_size") (list long) d ≡ Some s.spillslot_size.items
  pub multi_spillslot_named_by_last_slot : member (codes "multi_spillslot_named_by_last_slot") as_bool d ≡ Some s.multi_spillslot_named_by_last_slot
  pub allow_multiple_vreg_defs : member (codes "allow_multiple_vreg_defs") as_bool d ≡ Some s.allow_multiple_vreg_defs

-- a value has the lists by block of a function, of their shapes
pub record HasLists (d : Data) : Type 0 where
  pub blocks : IsSome (member (codes "blocks") (list pair) d)
  pub preds : IsSome (member (codes "block_preds") (list (list word)) d)
  pub succs : IsSome (member (codes "block_succs") (list (list word)) d)
  pub params_in : IsSome (member (codes "block_params_in") (list (list word)) d)
  pub params_out : IsSome (member (codes "block_params_out") (list (list (list word))) d)

-- the lists of `l` are the members of a value
pub record AreListsAt {A : Type 0} (d : Data) (l : BlockLists A) : Type 0 where
  pub blocks : member (codes "blocks") (list pair) d ≡ Some l.blocks.items
  pub preds : member (codes "block_preds") (list (list word)) d ≡ Some (map (λ v. v.items) l.preds.items)
  pub succs : member (codes "block_succs") (list (list word)) d ≡ Some (map (λ v. v.items) l.succs.items)
  pub params_in : member (codes "block_params_in") (list (list word)) d ≡ Some (map (λ v. v.items) l.params_in.items)
  pub params_out : member (codes "block_params_out") (list (list (list word))) d ≡ Some (map (λ v. map (λ k. k.items) v.items) l.params_out.items)

-- a value has what a function has once
pub record HasSettings (d : Data) : Type 0 where
  pub entry_block : IsSome (member (codes "entry_block") word d)
  pub num_vregs : IsSome (member (codes "num_vregs") long d)
  pub by_last_slot : IsSome (member (codes "multi_spillslot_named_by_last_slot") as_bool d)
  pub multiple_defs : IsSome (member (codes "allow_multiple_vreg_defs") as_bool d)

-- an entry, a count of vregs and two flags are a value's members
pub record AreSettingsAt (d : Data) (s : ℕ × ℕ × Bool × Bool) : Type 0 where
  pub entry_block : member (codes "entry_block") word d ≡ Some s.0
  pub num_vregs : member (codes "num_vregs") long d ≡ Some s.1
  pub by_last_slot : member (codes "multi_spillslot_named_by_last_slot") as_bool d ≡ Some s.2
  pub multiple_defs : member (codes "allow_multiple_vreg_defs") as_bool d ≡ Some s.3

-- the error is `Shape`, for that reason, or memory is out
pub record IsShapeFault (e : StoredFault) (reason : Type 0) : Type 0 where
  pub shape : e ≡ Shape → reason
  pub faults : (e ≡ Shape) ⊎ (e ≡ Memory)

-- the numbers of an output
pub record OutputData : Type 0 where
  pub num_spillslots : ℕ
  pub edits : List (ℕ × ℕ × ℕ)
  pub allocs : List ℕ
  pub offsets : List ℕ
  pub debug_locations : List (ℕ × ℕ × ℕ × ℕ)

abbrev pub output_data : {A : Type 0} → StoredOutput A → OutputData
output_data o = record {
  num_spillslots = o.num_spillslots;
  edits = o.edits.items;
  allocs = o.allocs.items;
  offsets = o.inst_alloc_offsets.items;
  debug_locations = o.debug_locations.items;
}

abbrev pub output : Data → Option OutputData
output d =
    option_and_then (λ slots. option_and_then (λ edits. option_and_then (λ allocs. option_and_then (λ offsets. option_and_then (λ locations.
    Some (record { num_spillslots = slots; edits = edits; allocs = allocs; offsets = offsets; debug_locations = locations }))
    (member (codes "debug_locations") (list quadruple) d)) (member (codes "inst_alloc_offsets") (list word) d))
    (member (codes "allocs") (list word) d)) (member (codes "edits") (list triple) d)) (member (codes "num_spillslots") long d)
