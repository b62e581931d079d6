use Rattle.std.proofs.Common.{◌≡◌, ◌∙◌, ap, arith, map, subst}
use Rattle.regalloc2_function.specs.Views.{edit_of}
use Rattle.regalloc2_fastalloc_state.specs.StateParts.{PointsDescend}
use Rattle.regalloc2_fastalloc_state.proofs.EditsPushed.{all_listed, chunk_listed, first_listed}
use Rattle.regalloc2_fastalloc_state.proofs.edits.Edits.listed.Goals as goal
use Rattle.regalloc2_fastalloc_state.proofs.edits.Edits.listed.Goals.{then-capacity-len+in_ok-reserve_exact, else-capacity-len}

pub loop-chunk-init : goal.loop-chunk-init
loop-chunk-init g c = record {
  all = first_listed (λ chunk. chunk.items) c.self.inside.full.items c.self.inside.current.items c.deref-2.result.now (map edit_of c.in_ok-listed.listed.items)
      (map edit_of c.list_chunk.new.listed.items) c.args.self (ap (map edit_of) c.in_ok-listed.ensures.items) c.deref-2.ensures.value
      c.list_chunk.ensures.listed c.self.view_is;
}

pub loop-chunk-preserved : goal.loop-chunk-preserved
loop-chunk-preserved g c =
    let same : c.if-capacity-len.listed.items ≡ c.loop-chunk.listed.items = elim c.if-capacity-len.branch [
      | then-capacity-len+in_ok-reserve_exact w ↦ ap (λ v. v.items) w.listed-is ∙ w.in_ok-reserve_exact.ensures.items
      | else-capacity-len w ↦ ap (λ v. v.items) w.listed-is
    ] in
    record {
      all = chunk_listed (λ chunk. chunk.items) c.loop-chunk.full.items c.pop.new.self.items c.in-Some.chunk c.deref-in-Some.result.now
          (map edit_of c.if-capacity-len.listed.items) (map edit_of c.list_chunk-in-Some.new.listed.items) _ c.in-Some.ensures.items
          c.deref-in-Some.ensures.value c.list_chunk-in-Some.ensures.listed (rw same c.loop-chunk.invariant.all);
    }

pub returns : goal.returns
returns g c = record {
  listed = all_listed (λ chunk. chunk.items) c.loop-chunk.full.items (map edit_of c.loop-chunk.listed.items) _
      (omega (arith, c.in_default.ensures.cases, c.loop-chunk.full.ok.0)) c.loop-chunk.invariant.all;
  falling = subst PointsDescend c.self.view_is c.self.invariant;
  err = tt;
}

pub returns-in_err-listed-clause-falling : goal.returns-in_err-listed-clause-falling
returns-in_err-listed-clause-falling g c = subst PointsDescend c.self.view_is c.self.invariant

pub returns-in_err-reserve_exact-clause-falling : goal.returns-in_err-reserve_exact-clause-falling
returns-in_err-reserve_exact-clause-falling g c = subst PointsDescend c.self.view_is c.self.invariant

-- there is room
pub list_chunk-requires : goal.list_chunk-requires
list_chunk-requires g c = record {
  room = omega (arith, c.in_ok-listed.ensures.len, c.in_ok-listed.ensures.capacity, c.max-room.ensures, c.len.ensures, c.deref-2.ensures.len);
}
