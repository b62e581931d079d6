use Rattle.std.proofs.Common.{arith, sym, subst}
use Rattle.std.specs.Prelude.{All}
use Rattle.regalloc2_names.specs.Packing.{IsRegisterIndex}
use Rattle.regalloc2_serialize.specs.Decoded.{HasIndexes}
use Rattle.regalloc2_serialize.proofs.Given.{item-has}
use Rattle.regalloc2_serialize.proofs.Lists.{three-zipped}
use Rattle.regalloc2_serialize.proofs.decode.sets_from.Goals as goal

pub set_from-requires : goal.set_from-requires
set_from-requires g c =
    subst (All IsRegisterIndex) (sym c.as_slice.ensures.value)
    (item-has (λ l. All IsRegisterIndex l.items) c.args.lists.now 0 c.index-lists-0.result c.requires.indexes (omega (arith, c.requires.three))
    c.index-lists-0.is)

pub set_from-requires-2 : goal.set_from-requires-2
set_from-requires-2 g c =
    subst (All IsRegisterIndex) (sym c.as_slice-2.ensures.value)
    (item-has (λ l. All IsRegisterIndex l.items) c.args.lists.now 1 c.index-lists-1.result c.requires.indexes (omega (arith, c.requires.three))
    c.index-lists-1.is)

pub set_from-requires-3 : goal.set_from-requires-3
set_from-requires-3 g c =
    subst (All IsRegisterIndex) (sym c.as_slice-3.ensures.value)
    (item-has (λ l. All IsRegisterIndex l.items) c.args.lists.now 2 c.index-lists-2.result c.requires.indexes (omega (arith, c.requires.three))
    c.index-lists-2.is)

pub returns : goal.returns
returns g c =
    three-zipped (λ l set. HasIndexes l.items set) c.args.lists.now c.index-lists-0.result c.index-lists-1.result c.index-lists-2.result c.set_from.result
    c.set_from-2.result c.set_from-3.result c.requires.three c.index-lists-0.is c.index-lists-1.is c.index-lists-2.is
    (rw c.as_slice.ensures.value at c.set_from.ensures) (rw c.as_slice-2.ensures.value at c.set_from-2.ensures)
    (rw c.as_slice-3.ensures.value at c.set_from-3.ensures)
