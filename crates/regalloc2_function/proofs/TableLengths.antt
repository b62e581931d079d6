-- A bound above all that operands and parameters define, which one of them reaches: it makes room, and not more than that.
use Rattle.std.proofs.Common.{ℕ, ◌≡◌, ◌+◌, ◌<◌, ◌≤◌, ◌⊎◌, inl, inr, true, List, length, ap, ◌∙◌, arith}
use Rattle.std.specs.Prelude.{All, Contains}
use Rattle.std.proofs.lemmas.List.Elements.{All-contains}
use Rattle.regalloc2_names.specs.Register.{VirtualRegister}
use Rattle.regalloc2_names.specs.Operand.{OperandValue, is_def}
use Rattle.regalloc2_names.specs.Place.{before, after}
use Rattle.regalloc2_function.specs.FunctionValue.{FunctionValue, block_at, inst_at, no_operand, op_at}
use Rattle.regalloc2_function.proofs.ListingsOfFunction.{read_op}
use Rattle.regalloc2_function.specs.Inside.TableLength.{CoversDefinitions, IsBelow, IsShort, ReachedByDef, ReachedByParam}
use Rattle.regalloc2_function.proofs.ListingsOfFunction.{has_operands}

-- some block's parameter reaches the bound, if it isn't 0
abbrev pub ReachedInBlocks : FunctionValue → ℕ → Type 0
ReachedInBlocks f m = (m ≡ 0) ⊎ ((b : ℕ) × (b < length f.blocks) × ReachedByParam (block_at f b).params m)

-- some instruction's definition reaches the bound, if it isn't another one
abbrev pub ReachedInInsts : FunctionValue → ℕ → ℕ → Type 0
ReachedInInsts f m n = (n ≤ m) ⊎ ((i : ℕ) × ReachedByDef (inst_at f i).operands n)

-- one parameter more
pub param_more : (bound old new : ℕ) (ps : List VirtualRegister) (v : VirtualRegister) → Contains ps v → ((new ≤ old) ⊎ (new ≤ v.number + 1)) →
    ((old ≤ bound) ⊎ ReachedByParam ps old) → (new ≤ bound) ⊎ ReachedByParam ps new
param_more bound old new ps v has (inr at) h = inr (v, has, at)
param_more bound old new ps v has (inl low) (inl upto) = inl (omega (arith, low, upto))
param_more bound old new ps v has (inl low) (inr r) = let at = r.2 in inr (r.0, r.1, omega (arith, low, at))

-- one operand more
pub operand_more : (bound old new : ℕ) (os : List OperandValue) (o : OperandValue) → Contains os o →
    ((new ≤ old) ⊎ ((is_def o.kind ≡ true) × (new ≤ o.vreg.number + 1))) → ((old ≤ bound) ⊎ ReachedByDef os old) → (new ≤ bound) ⊎ ReachedByDef os new
operand_more bound old new os o has (inr at) h = inr (o, has, at.0, at.1)
operand_more bound old new os o has (inl low) (inl upto) = inl (omega (arith, low, upto))
operand_more bound old new os o has (inl low) (inr r) = let at = r.3 in inr (r.0, r.1, r.2, omega (arith, low, at))

-- one block more
pub block_more : (f : FunctionValue) (b old new : ℕ) → b < length f.blocks → ((new ≤ old) ⊎ ReachedByParam (block_at f b).params new) →
    ReachedInBlocks f old → ReachedInBlocks f new
block_more f b old new lt (inr at) h = inr (b, lt, at)
block_more f b old new lt (inl low) (inl zero) = inl (omega (arith, low, zero))
block_more f b old new lt (inl low) (inr r) =
    let at : ReachedByParam (block_at f r.0).params old = r.2 in
    let le = at.2 in
    inr (r.0, r.1, (at.0, at.1, omega (arith, low, le)))

-- one instruction more
pub inst_more : (f : FunctionValue) (bound i old new : ℕ) → ((new ≤ old) ⊎ ReachedByDef (inst_at f i).operands new) → ReachedInInsts f bound old →
    ReachedInInsts f bound new
inst_more f bound i old new (inr at) h = inr (i, at)
inst_more f bound i old new (inl low) (inl upto) = inl (omega (arith, low, upto))
inst_more f bound i old new (inl low) (inr r) =
    let at : ReachedByDef (inst_at f r.0).operands old = r.1 in
    let le = at.3 in
    inr (r.0, (at.0, at.1, at.2, omega (arith, low, le)))

-- a length that no defined number below the count comes up to makes room
pub room_above : (f : FunctionValue) (m n r : ℕ) → ((k : ℕ) → k < n → k < f.num_vregs → k < r) → m ≤ n →
    ((b : ℕ) → b < length f.blocks → All (λ v. v.number < m) (block_at f b).params)
    → ((i : ℕ) → i < length f.insts → All (IsBelow n) (inst_at f i).operands) → CoversDefinitions f r
room_above f m n r least le params operands v point (inl p) less =
    let low : v.number < m = All-contains (λ (w : VirtualRegister). w.number < m) (block_at f p.0).params v (params p.0 p.1) p.3 in
    least v.number (omega (arith, low, le)) less
room_above f m n r least le params operands v point (inr o) less =
    let below : IsBelow n (op_at (inst_at f o.0).operands o.1) = operands o.0 (has_operands f o.0 o.1 o.3) o.1 no_operand o.3 in
    let low : (op_at (inst_at f o.0).operands o.1).vreg.number < n = below o.4 in
    let same = ap (λ (w : VirtualRegister). w.number) o.5 in
    least v.number (omega (arith, low, same)) less

-- a length that a definition reaches is short
pub short_above : (f : FunctionValue) (m n r : ℕ) → r ≤ n → ReachedInBlocks f m → ReachedInInsts f m n → IsShort f r
short_above f m n r le (inl zero) (inl low) = inl (omega (arith, le, zero, low))
short_above f m n r le (inr p) (inl low) =
    let at : ReachedByParam (block_at f p.0).params m = p.2 in
    let reached = at.2 in
    inr (at.0, before (block_at f p.0).range.first, inl (p.0, p.1, omega arith, at.1), omega (arith, le, low, reached))
short_above f m n r le blocks (inr p) =
    let at : ReachedByDef (inst_at f p.0).operands n = p.1 in
    let o : OperandValue = at.0 in
    let has : Contains (inst_at f p.0).operands o = at.1 in
    let reached = at.3 in
    let is : op_at (inst_at f p.0).operands has.0 ≡ o = read_op (inst_at f p.0).operands has.0 o has.1 has.2 in
    inr (
      o.vreg,
      after p.0,
      inr (p.0, has.0, omega arith, has.1, ap (λ (x : OperandValue). is_def x.kind) is ∙ at.2, ap (λ (x : OperandValue). x.vreg) is),
      omega (arith, le, reached),
    )
