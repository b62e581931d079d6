use Rattle.std.proofs.Common.{◌≡◌, ◌+◌, ◌∙◌, length, refl, sym, ap, eq-eqb}
use Rattle.std.specs.Prelude.{if◌then◌else◌, slice_index}
use Rattle.std.proofs.lemmas.Bool.{ne_eqb}
use Rattle.regalloc2_function.specs.OutputValue.{OutputValue, alloc_end}
use Rattle.regalloc2_checker.specs.Listing.{listed_output}
use Rattle.regalloc2_checker.proofs.listing.Listing.places.Goals as goal
use Rattle.regalloc2_checker.proofs.listing.Listing.places.Goals.{then-index-self, else-index-self}

pub returns : goal.returns
returns c =
    let o : OutputValue = listed_output c.args.self.now in
    let end : c.if-index-self.end ≡ alloc_end o c.index-index.result = elim c.if-index-self.branch [
      | then-index-self w ↦ w.end-is ∙ sym (ap (λ b. if b then length o.allocs else slice_index o.offsets (c.index-index.result + 1))
          (eq-eqb (c.index-index.result + 1) (length o.offsets) w.if-index-self.true))
      | else-index-self w ↦ w.end-is ∙ sym (ap (λ b. if b then length o.allocs else slice_index o.offsets (c.index-index.result + 1))
          (ne_eqb (c.index-index.result + 1) (length o.offsets) w.if-index-self.false))
    ] in
    rw (end, c.index-index.ensures) refl
