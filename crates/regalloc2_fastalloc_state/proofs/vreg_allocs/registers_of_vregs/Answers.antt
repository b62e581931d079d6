use Rattle.std.proofs.Common.{◌≡◌, ◌<◌, ◌∙◌, ℕ, List, append_assoc, arith, length, sym, ap, slice_index_or}
use Rattle.std.specs.Prelude.{None, Some}
use Rattle.std.proofs.lemmas.List.{get_or_read}
use Rattle.std.proofs.lemmas.List.Elements.{All-contains}
use Rattle.regalloc2_names.specs.Place.{Place, NoPlace, register_of_place}
use Rattle.regalloc2_names.specs.Register.{VirtualRegister}
use Rattle.regalloc2_carry.proofs.Forms.{place_of_register}
use Rattle.regalloc2_fastalloc_state.proofs.RegistersOfVRegs.{is_met, none_more, one_found}
use Rattle.regalloc2_fastalloc_state.proofs.vreg_allocs.registers_of_vregs.Goals as goal

pub loop-vreg-preserved-in-Some-as_reg : goal.loop-vreg-preserved-in-Some-as_reg
loop-vreg-preserved-in-Some-as_reg g c =
    let allocs : List Place = c.args.vreg_allocs.now.items in
    let x : VirtualRegister = c.in-Some.vreg in
    let met = is_met c.loop-vreg.yielded c.next.new.self c.loop-vreg.vreg-iterator c.args.vregs.now.members x c.in-Some.ensures.steps
    c.loop-vreg.invariant.left in
    let small : x.number < length allocs = All-contains (λ (v : VirtualRegister). v.number < length allocs) c.args.vregs.now.members x c.requires met in
    let read : c.index.result.now ≡ slice_index_or allocs c.vreg.result NoPlace =
    get_or_read allocs c.vreg.result c.index.result.now (omega (arith, small, c.vreg.ensures.number)) c.index.ensures NoPlace in
    let there : c.index.result.now ≡ slice_index_or allocs x.number NoPlace =
    read ∙ ap (λ (n : ℕ). slice_index_or allocs n NoPlace) c.vreg.ensures.number in
    record {
      left = rw (append_assoc, ← c.in-Some.ensures.steps) c.loop-vreg.invariant.left;
      found = one_found allocs c.loop-vreg.yielded x c.in-Some-as_reg.preg c.loop-vreg.found c.add.new.self
          (sym there ∙ place_of_register c.index.result.now c.in-Some-as_reg.preg (sym c.as_reg.ensures ∙ c.in-Some-as_reg.is)) c.add.ensures.members
          c.loop-vreg.invariant.found;
    }

pub loop-vreg-preserved : goal.loop-vreg-preserved
loop-vreg-preserved g c =
    let allocs : List Place = c.args.vreg_allocs.now.items in
    let x : VirtualRegister = c.in-Some.vreg in
    let met = is_met c.loop-vreg.yielded c.next.new.self c.loop-vreg.vreg-iterator c.args.vregs.now.members x c.in-Some.ensures.steps
    c.loop-vreg.invariant.left in
    let small : x.number < length allocs = All-contains (λ (v : VirtualRegister). v.number < length allocs) c.args.vregs.now.members x c.requires met in
    let read : c.index.result.now ≡ slice_index_or allocs c.vreg.result NoPlace =
    get_or_read allocs c.vreg.result c.index.result.now (omega (arith, small, c.vreg.ensures.number)) c.index.ensures NoPlace in
    let there : c.index.result.now ≡ slice_index_or allocs x.number NoPlace =
    read ∙ ap (λ (n : ℕ). slice_index_or allocs n NoPlace) c.vreg.ensures.number in
    record {
      left = rw (append_assoc, ← c.in-Some.ensures.steps) c.loop-vreg.invariant.left;
      found = none_more allocs c.loop-vreg.yielded x c.loop-vreg.found
          (λ r e. let wrong : None ≡ Some r = sym c.in_default.is ∙ c.as_reg.ensures ∙ ap register_of_place (there ∙ e) in cc) c.loop-vreg.invariant.found;
    }

pub index-requires : goal.index-requires
index-requires g c =
    let allocs : List Place = c.args.vreg_allocs.now.items in
    let x : VirtualRegister = c.in-Some.vreg in
    let met = is_met c.loop-vreg.yielded c.next.new.self c.loop-vreg.vreg-iterator c.args.vregs.now.members x c.in-Some.ensures.steps
    c.loop-vreg.invariant.left in
    let small : x.number < length allocs = All-contains (λ (v : VirtualRegister). v.number < length allocs) c.args.vregs.now.members x c.requires met in
    omega (arith, small, c.vreg.ensures.number, c.args.vreg_allocs.now.ok.0)
