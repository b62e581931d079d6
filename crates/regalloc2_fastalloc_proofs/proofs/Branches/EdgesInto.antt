-- A block into which a branch with definitions leads is entered by that edge alone.
use Rattle.std.proofs.Common.{ℕ, ◌≡◌, ◌<◌, inl, inr, [], length, refl, sym, ap, subst, arith}
use Rattle.std.proofs.lemmas.List.Elements.{All-get_or}
use Rattle.regalloc2_function.specs.FunctionValue.{FunctionValue, block_at, inst_at, last_of}
use Rattle.regalloc2_function.specs.Machine.{MachineValue}
use Rattle.regalloc2_function.specs.WellFormed.{IsWellFormed, ways_into}
use Rattle.regalloc2_semantics.specs.Sound.{HasEdge, target_at}
use Rattle.regalloc2_analysis.specs.BranchDefs.BranchDefs.{IsEdgeInto}
use Rattle.regalloc2_semantics.proofs.Soundness.{entered_once}
use Rattle.regalloc2_fastalloc_proofs.proofs.Branches.WellFormedBranch.{few_or_more}
use Rattle.regalloc2_fastalloc_proofs.proofs.Branches.WellFormedMayBranch.{one_edge_each}

module _ (env : MachineValue) (f : FunctionValue) (ok : IsWellFormed env f) where
  -- a block entered by one edge is entered by no other
  pub entered_by_one : (b k : ℕ) → b < length f.blocks → HasEdge f b k → (e l : ℕ) → IsEdgeInto f (target_at f b k) e l → (b ≡ e) × (k ≡ l)
  entered_by_one b k lb edge e l into =
      let t : ℕ = target_at f b k in
      let within : t < length f.blocks = All-get_or (λ s. s < length f.blocks) (block_at f b).succs k 0 edge (ok.successors.1 b lb) in
      elim (few_or_more (ways_into f t)) [
        | inl few ↦ (
            let same : b ≡ e = (entered_once f ok.predecessors b k edge within few).from_one b e k l edge into.edge refl into.target in (
              same,
              one_edge_each env f ok b lb k l edge (subst (λ c. HasEdge f c l) (sym same) into.edge)
                  (sym (subst (λ c. target_at f c l ≡ t) (sym same) into.target)),
            ))
        | inr more ↦ (
            let none : (inst_at f (last_of (block_at f e))).operands ≡ [] = ok.no_operands_into_joins e into.block l 0 into.edge
            (subst (λ s. 1 < ways_into f s) (sym into.target) more) in
            let few : length (inst_at f (last_of (block_at f e))).operands ≡ 0 = ap length none in
            let some = into.definitions.1.2.operand in absurd (omega (arith, few, some)))
      ]

  pub one_edge_into : (b e k d l : ℕ) → IsEdgeInto f b e k → IsEdgeInto f b d l → (d ≡ e) × (l ≡ k)
  one_edge_into b e k d l x y =
      let s = entered_by_one e k x.block x.edge d l (subst (λ c. IsEdgeInto f c d l) (sym x.target) y) in
      (sym s.0, sym s.1)
