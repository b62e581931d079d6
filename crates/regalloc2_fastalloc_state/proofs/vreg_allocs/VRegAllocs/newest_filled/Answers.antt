use Rattle.std.proofs.Common.{◌<◌, ◌∙◌, length, sym, ap, subst, arith, refl}
use Rattle.std.proofs.lemmas.List.{get_or_read}
use Rattle.regalloc2_names.specs.Place.{NoPlace}
use Rattle.regalloc2_fastalloc_state.specs.StateParts.{VRegAllocsValue, IsNewest, alloc_of}
use Rattle.regalloc2_fastalloc_state.proofs.VRegInPRegInverse.{newest_in}
use Rattle.regalloc2_fastalloc_state.proofs.vreg_allocs.VRegAllocs.newest_filled.Goals as goal

pub returns-clause-some : goal.returns-clause-some
returns-clause-some g c =
    let t : VRegAllocsValue = record {
      vreg_allocs = c.self.inside.vreg_allocs.items;
      vreg_in_preg = c.self.inside.vreg_in_preg.items;
      in_registers = c.self.inside.in_registers.members;
      watched = c.self.inside.watched.now;
      changes = c.self.inside.changes;
    } in
    let i = c.self.invariant.0 in
    let first = sym c.iter.ensures.members ∙ c.in_ok-vreg.ensures.steps in
    let x = i.only c.in_ok-vreg.vreg (rw first (0, omega arith, refl)) in
    let known : c.vreg.result < length c.self.inside.vreg_allocs.items =
    (let k = i.known x.0 c.in_ok-vreg.vreg x.1 x.2 in omega (arith, k, c.vreg.ensures.number)) in
    let n = newest_in t c.in_ok-vreg.vreg c.next.new.self c.index.result.now c.as_reg.result i first
    (get_or_read _ _ _ known c.index.ensures NoPlace ∙ ap (alloc_of t) c.vreg.ensures.number) c.as_reg.ensures in
    rw n.1 (subst (λ (u : VRegAllocsValue). IsNewest u n.0) c.self.view_is n.2)

pub returns-clause-none : goal.returns-clause-none
returns-clause-none g c =
    let t : VRegAllocsValue = record {
      vreg_allocs = c.self.inside.vreg_allocs.items;
      vreg_in_preg = c.self.inside.vreg_in_preg.items;
      in_registers = c.self.inside.in_registers.members;
      watched = c.self.inside.watched.now;
      changes = c.self.inside.changes;
    } in
    let i = c.self.invariant.0 in
    let first = sym c.iter.ensures.members ∙ c.in_ok-vreg.ensures.steps in
    let x = i.only c.in_ok-vreg.vreg (rw first (0, omega arith, refl)) in
    let known : c.vreg.result < length c.self.inside.vreg_allocs.items =
    (let k = i.known x.0 c.in_ok-vreg.vreg x.1 x.2 in omega (arith, k, c.vreg.ensures.number)) in
    let n = newest_in t c.in_ok-vreg.vreg c.next.new.self c.index.result.now c.as_reg.result i first
    (get_or_read _ _ _ known c.index.ensures NoPlace ∙ ap (alloc_of t) c.vreg.ensures.number) c.as_reg.ensures in
    rw n.1 tt
