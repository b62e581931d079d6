use Rattle.std.proofs.Common.{List, ℕ, ◌++◌, map, subst}
use Rattle.regalloc2_names.specs.Place.{InRegister}
use Rattle.regalloc2_names.specs.Register.{registers_of}
use Rattle.regalloc2_checker.specs.NamedBits.{ArePlacesAdded}
use Rattle.regalloc2_checker.proofs.PlacesListed.{bits_of_registers, set-listed}
use Rattle.regalloc2_checker.proofs.place_list.PlaceList.list_registers.Goals as goal

pub returns : goal.returns
returns g c = subst (λ (old : List ℕ). ArePlacesAdded old (bits_of_registers c.union_from.new.self ++ c.self.inside.slots)
    (map InRegister (registers_of c.args.regs))) c.self.view_is
    (set-listed c.self.inside.registers c.union_from.new.self c.args.regs c.self.inside.slots c.union_from.ensures)
