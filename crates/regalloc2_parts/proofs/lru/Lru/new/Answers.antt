use Rattle.std.proofs.Common.{◌≡◌, ◌<◌, [], ◌∷◌, ◌∙◌, List, ℕ, ap, arith, inl, inr, length, refl, subst, sym}
use Rattle.std.specs.Prelude.{Contains, map}
use Rattle.std.proofs.lemmas.List.{with_items_is}
use Rattle.std.proofs.lemmas.Result.{err_from_is_err_and}
use Rattle.regalloc2_names.specs.Register.{Register}
use Rattle.regalloc2_parts.specs.declared.lru.nodes.LruNode.{LruNode}
use Rattle.regalloc2_parts.specs.Ring.{IsNewRing}
use Rattle.regalloc2_parts.specs.RingNodes.{named, ring_registers, IsLruNodes}
use Rattle.regalloc2_parts.proofs.NewRing.{empty_ring, made}
use Rattle.regalloc2_parts.proofs.RingRegisters.{no_registers, registers_are}
use Rattle.regalloc2_parts.proofs.lru.Lru.new.Goals as goal

pub returns-in_default-clause-ring : goal.returns-in_default-clause-ring
returns-in_default-clause-ring g c =
    rw (no_registers c.new.result.items 0 c.args.regclass (ap (λ l. length l) c.new.ensures.items))
    (empty_ring c.args.regclass c.from_slice.result c.args.regs.now c.into_iter-rest.result c.requires c.from_slice.ensures
    c.into_iter-rest.ensures.into_iter_gives c.in_default.ensures.steps.0)

pub returns-in_err-nodes-clause-empty : goal.returns-in_err-nodes-clause-empty
returns-in_err-nodes-clause-empty g c = λ none.
    let m = made c.args.regclass c.from_slice.result c.args.regs.now c.into_iter-rest.result c.in-Some.newest c.next.new.self c.requires c.from_slice.ensures
    c.into_iter-rest.ensures.into_iter_gives c.in-Some.ensures.steps in
    let there : Contains [] c.in-Some.newest = subst (λ (l : List Register). Contains l c.in-Some.newest) none m.some in
    absurd (omega (arith, there.1))

pub make_ring-requires-clause-distinct : goal.make_ring-requires-clause-distinct
make_ring-requires-clause-distinct g c =
    let m = made c.args.regclass c.from_slice.result c.args.regs.now c.into_iter-rest.result c.in-Some.newest c.next.new.self c.requires c.from_slice.ensures
    c.into_iter-rest.ensures.into_iter_gives c.in-Some.ensures.steps in
    rw c.hw_enc-head.ensures.number m.distinct

pub returns-clause-ring : goal.returns-clause-ring
returns-clause-ring g c =
    let m = made c.args.regclass c.from_slice.result c.args.regs.now c.into_iter-rest.result c.in-Some.newest c.next.new.self c.requires c.from_slice.ensures
    c.into_iter-rest.ensures.into_iter_gives c.in-Some.ensures.steps in
    let long : length c.make_ring.new.nodes ≡ length c.in_ok-nodes.nodes.items = c.make_ring.ensures.long ∙ ap (λ l. length l) c.deref_mut.ensures.value in
    let some : 0 < length c.make_ring.new.nodes = omega (arith, long, c.in_ok-nodes.ensures.len) in
    let registers = ap (λ l. ring_registers l c.hw_enc-head.result c.args.regclass)
    (with_items_is c.in_ok-nodes.nodes c.make_ring.new.nodes (omega (arith, long)))
    ∙ registers_are c.make_ring.new.nodes c.hw_enc-head.result c.args.regclass some
    ∙ ap (λ (l : List ℕ). map (named c.args.regclass) l) c.make_ring.ensures.ring.are
    ∙ ap (λ (n : ℕ). map (named c.args.regclass) (n ∷ map (λ (r : Register). r.number) c.next.new.self)) c.hw_enc-head.ensures.number ∙ m.named in
    subst (λ (l : List Register). IsNewRing c.args.regs.now l) (sym registers) m.ring

pub returns-in_err-nodes-clause-memory : goal.returns-in_err-nodes-clause-memory
returns-in_err-nodes-clause-memory g c = let p = err_from_is_err_and c.from_residual.result c.from_residual.ensures.1 in rw p.1 p.2

pub returns-in_default-clause-memory : goal.returns-in_default-clause-memory
returns-in_default-clause-memory g c = tt

pub returns-in_default-clause-empty : goal.returns-in_default-clause-empty
returns-in_default-clause-empty g c = λ none. refl

pub returns-clause-memory : goal.returns-clause-memory
returns-clause-memory g c = tt

pub returns-clause-empty : goal.returns-clause-empty
returns-clause-empty g c = λ none. refl

pub invariant_of-result : goal.invariant_of-result
invariant_of-result g c =
    let none : length c.new.result.items ≡ 0 = ap length c.new.ensures.items in
    record { sized = inl none; ring = λ some. absurd (omega (arith, some, none)) }

pub invariant_of-result-2 : goal.invariant_of-result-2
invariant_of-result-2 g c =
    let long : length c.make_ring.new.nodes ≡ length c.in_ok-nodes.nodes.items = c.make_ring.ensures.long ∙ ap (λ l. length l) c.deref_mut.ensures.value in
    subst (λ (l : List LruNode). IsLruNodes l c.hw_enc-head.result)
    (sym (with_items_is c.in_ok-nodes.nodes c.make_ring.new.nodes (omega (arith, long))))
    (record { sized = inr (omega (arith, long, c.in_ok-nodes.ensures.len)); ring = λ some. c.make_ring.ensures.ring.ring })
