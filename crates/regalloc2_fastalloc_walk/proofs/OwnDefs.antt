-- What a branch defines itself is what the tables say that it defines.
use Rattle.std.proofs.Common.{ℕ, ◌≡◌, ◌<◌, List, true, length, refl, sym, ap, ◌∙◌, subst}
use Rattle.std.specs.Prelude.{Option, None, Some}
use Rattle.regalloc2_names.specs.Register.{VirtualRegister}
use Rattle.regalloc2_function.specs.FunctionValue.{FunctionValue, block_at, inst_at, last_of}
use Rattle.regalloc2_function.specs.WellFormed.{DefinedOnce}
use Rattle.regalloc2_carry.proofs.SingleDef.{one_operand}
use Rattle.regalloc2_analysis.specs.BranchDefs.BranchDefs.{DefinesNumber, IsSite}
use Rattle.regalloc2_analysis.specs.BranchDefs.Tables.{AreBranchDefsOf, site_of}
use Rattle.regalloc2_analysis.specs.declared.branch_defs.BranchDefs.{BranchDefs}
use Rattle.regalloc2_analysis.specs.declared.branch_defs.DefSite.{DefSite}
use Rattle.regalloc2_analysis.proofs.BranchDefsLemmas.BlockEnds.{site_defines}
use Rattle.regalloc2_fastalloc_state.specs.declared.inst_regs.InstRegs.{InstRegs}
use Rattle.regalloc2_fastalloc_proofs.specs.InstSteps.{StateValue, no_register}
use Rattle.regalloc2_fastalloc_proofs.specs.BranchSteps.{ClassMove, GathersEdgeMoves, none_gathered, one_gathered, own_argument, IsOwnDef, GatherEdge}
use Rattle.regalloc2_fastalloc_walk.specs.OwnDefs.{IsOwnBy}

-- the tables name the operand by which a branch defines a number
pub site_found : {A : Type 0} (f : FunctionValue) (t : BranchDefs A) → AreBranchDefsOf f t → DefinedOnce f → (n i j : ℕ) → IsSite f n i j →
    site_of t n ≡ Some (record { branch = i; index = j })
site_found f t are once n i j here = by_answer (site_of t n) refl
  where
    by_answer : (x : Option DefSite) → site_of t n ≡ x → site_of t n ≡ Some (record { branch = i; index = j })
    by_answer None none = absurd (are.no_site n none i j here)
    by_answer (Some s) is =
        let there = are.site n s is in
        let same = one_operand f once n s.branch i s.index j (site_defines f n s.branch s.index there) (site_defines f n i j here) in
        is ∙ ap (λ (m : ℕ). Some (record { branch = m; index = s.index })) same.0 ∙ ap (λ (m : ℕ). Some (record { branch = i; index = m })) same.1

-- what the tables say that the branch at a block's end defines is its own, and the other way round
pub own_by : {A : Type 0} (f : FunctionValue) (t : BranchDefs A) → AreBranchDefsOf f t → (b i : ℕ) → i ≡ last_of (block_at f b) → (v : VirtualRegister) →
    IsOwnBy t i v → IsOwnDef f b v
own_by f t are b i last v own =
    let s = are.site v.number (record { branch = i; index = own.0 }) own.1 in
    (own.0, subst (λ (n : ℕ). DefinesNumber (inst_at f n).operands v.number own.0) last s.defines)

pub by_own : {A : Type 0} (f : FunctionValue) (t : BranchDefs A) → AreBranchDefsOf f t → DefinedOnce f → (b i : ℕ) → i ≡ last_of (block_at f b) →
    i < length f.insts → (inst_at f i).is_branch ≡ true → (v : VirtualRegister) → IsOwnDef f b v → IsOwnBy t i v
by_own f t are once b i last lt branch v own = (
  own.0,
  site_found f t are once v.number i own.0 (record {
    inst = lt;
    is_branch = branch;
    defines = subst (λ (n : ℕ). DefinesNumber (inst_at f n).operands v.number own.0) (sym last) own.1;
  }),
)

-- the moves that are gathered depend only on which arguments are the branch's own
module _ (P Q : VirtualRegister → Type 0) (to : (v : VirtualRegister) → P v → Q v) (back : (v : VirtualRegister) → Q v → P v) (point : ℕ)
    (params arguments : List VirtualRegister) (t : InstRegs) (old : StateValue) (given : List ClassMove) where
  pub gathers_as : (k : ℕ) (u : InstRegs) (new : StateValue) (more : List ClassMove) → GathersEdgeMoves P point params arguments t old given k u new more →
      GathersEdgeMoves Q point params arguments t old given k u new more
  gathers_as k u new more none_gathered = none_gathered
  gathers_as k u new more (one_gathered j g p q x w m n o lt prev slot places edits machine order spills foreign) =
      one_gathered j g p q x w m n o lt (gathers_as j x m g prev) slot places edits machine order spills (λ own. foreign (back _ own))
  gathers_as k u new more (own_argument j g x m lt prev own) = own_argument j g x m lt (gathers_as j x m g prev) (to _ own)

  pub fails_as : GatherEdge P point params arguments t old given no_register → GatherEdge Q point params arguments t old given no_register
  fails_as h = record {
    index = h.index;
    given = h.given;
    middle = h.middle;
    inside = h.inside;
    done = gathers_as h.index h.given.0 h.middle h.given.1 h.done;
    stops = h.stops;
  }
