use Rattle.std.proofs.Common.{ℕ, ◌≡◌, ◌≢◌, ◌<◌, ◌⊎◌, ◌∙◌, List, length, sym, subst, ap, arith}
use Rattle.std.proofs.Math.ListN.{length-set}
use Rattle.std.proofs.lemmas.List.{get_or_read}
use Rattle.std.specs.Prelude.{All}
use Rattle.regalloc2_names.specs.Place.{is_in_register}
use Rattle.regalloc2_names.specs.Register.{VirtualRegister}
use Rattle.regalloc2_parts.specs.LiveList.{LiveList}
use Rattle.regalloc2_fastalloc_state.proofs.TakenOut.{all_other}
use Rattle.std.specs.Prelude.{None, Some}
use Rattle.regalloc2_names.specs.Place.{NoPlace}
use Rattle.regalloc2_fastalloc_state.specs.StateParts.{VRegAllocsValue, SetsAlloc, vreg_of_preg, in_front_if, without}
use Rattle.regalloc2_fastalloc_state.proofs.VRegInPRegInverse.{OneLocationSet, inverse_marked, listed_if, marked, sets_alloc_by_marks}
use Rattle.regalloc2_fastalloc_state.proofs.vreg_allocs.VRegAllocs.set_alloc.Given.{Over}
use Rattle.regalloc2_fastalloc_state.proofs.vreg_allocs.VRegAllocs.set_alloc.Goals as goal

pub take_out-requires : goal.take_out-requires
take_out-requires g c =
    let t : VRegAllocsValue = record {
      vreg_allocs = c.self.inside.vreg_allocs.items;
      vreg_in_preg = c.self.inside.vreg_in_preg.items;
      in_registers = c.self.inside.in_registers.members;
      watched = c.self.inside.watched.now;
      changes = c.self.inside.changes;
    } in
    let known : c.vreg-number.result < length c.self.inside.vreg_allocs.items = (let e = ap (λ (t : VRegAllocsValue). length t.vreg_allocs) c.self.view_is in
    omega (arith, c.requires.vreg, c.vreg-number.ensures.number, e)) in
    listed_if t c.vreg-number.result c.index-left.result.now (get_or_read _ _ _ known c.index-left.ensures NoPlace) c.self.invariant.0

pub put_in_front-requires-clause-absent : goal.put_in_front-requires-clause-absent
put_in_front-requires-clause-absent g c =
    let L : List VirtualRegister = c.self.inside.in_registers.members in
    let out : c.take_out.new.in_registers.members ≡ without c.vreg-number.result L = ap (λ (l : LiveList). l.members) c.take_out.ensures in
    subst (λ (n : ℕ). All (λ v. v.number ≢ n) c.take_out.new.in_registers.members) c.vreg-number.ensures.number
    (subst (λ (vs : List VirtualRegister). All (λ v. v.number ≢ c.vreg-number.result) vs) (sym out) (all_other c.vreg-number.result L))

-- what is written
abbrev marks : (g : Over) (c : goal.After-self-2-1 g) → OneLocationSet
marks g c =
    let known : c.vreg-number.result < length c.self.inside.vreg_allocs.items = (let e = ap (λ (t : VRegAllocsValue). length t.vreg_allocs) c.self.view_is in
    omega (arith, c.requires.vreg, c.vreg-number.ensures.number, e)) in
    let L : List VirtualRegister = c.self.inside.in_registers.members in
    let out : c.take_out.new.in_registers.members ≡ without c.vreg-number.result L = ap (λ (l : LiveList). l.members) c.take_out.ensures in
    record {
      vreg_allocs = c.self.inside.vreg_allocs.items;
      held = c.self.inside.vreg_in_preg.items;
      emptied = c.set_vreg_in_preg.new.vreg_in_preg.items;
      filled = c.set_vreg_in_preg-2.new.vreg_in_preg.items;
      listed = L;
      now_listed = c.put_in_front.new.in_registers.members;
      vreg = c.args.vreg;
      number = c.vreg-number.result;
      place = c.args.place;
      left = c.index-left.result.now;
      numbered = c.vreg-number.ensures.number;
      known = known;
      was_left = get_or_read _ _ _ known c.index-left.ensures NoPlace;
      empties = c.set_vreg_in_preg.ensures.marks;
      fills = c.set_vreg_in_preg-2.ensures.marks;
      order = ap (λ (l : LiveList). l.members) c.put_in_front.ensures ∙ ap (in_front_if (is_in_register c.args.place) c.args.vreg) out;
      watched = c.self.inside.watched.now;
      changes = c.self.inside.changes;
      now_changes = c.count_after-self-inside.result;
      counts = c.count_after-self-inside.ensures;
    }

pub returns-clause-inverse : goal.returns-clause-inverse
returns-clause-inverse g c = inverse_marked (marks g c) c.set_vreg_in_preg-2.ensures.in_range
    (λ r e. let P : VRegAllocsValue → Type 0 = λ t. (vreg_of_preg t r ≡ None)
    ⊎ (vreg_of_preg t r ≡ Some c.args.vreg) in subst P (sym c.self.view_is) (c.requires.alone r e))
    c.self.invariant.0

pub returns-clause-settled : goal.returns-clause-settled
returns-clause-settled g c = subst (λ (t : VRegAllocsValue). SetsAlloc t (marked (marks g c)) c.args.vreg c.args.place) c.self.view_is
    (sets_alloc_by_marks (marks g c))

pub invariant_of-self : goal.invariant_of-self
invariant_of-self g c = (
  returns-clause-inverse g c,
  ap (λ (l : LiveList). l.capacity) c.put_in_front.ensures ∙ ap (λ (l : LiveList). l.capacity) c.take_out.ensures ∙ c.self.invariant.1
      ∙ sym (length-set c.self.inside.vreg_allocs.items c.vreg-number.result c.args.place),
)
