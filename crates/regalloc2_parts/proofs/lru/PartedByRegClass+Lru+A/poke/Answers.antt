use Rattle.std.proofs.Common.{◌∙◌, ap, sym, subst, arith, List, Contains, ◌∷◌, not}
use Rattle.std.specs.Prelude.{filter}
use Rattle.std.specs.List.{IsDistinct}
use Rattle.regalloc2_names.specs.Register.{Register, is_register}
use Rattle.regalloc2_parts.proofs.ByClass.{tag-lt, tag-le, tag-within, read_ring, set_ring, set_ring-other}
use Rattle.regalloc2_parts.specs.Ring.{ring_of}
use Rattle.regalloc2_parts.proofs.Poked.{same_members}
use Rattle.regalloc2_parts.proofs.lru.PartedByRegClass+Lru+A.poke.Goals as goal

pub poke-requires : goal.poke-requires
poke-requires g c =
    subst (λ (xs : List Register). Contains xs c.args.preg) (sym (read_ring c.args.self.now.items c.args.class c.index-self-class.result (omega arith))) c.requires

pub returns-clause-moved : goal.returns-clause-moved
returns-clause-moved g c =
    set_ring c.args.self.now.items c.args.class c.poke.new.self (omega arith) ∙ c.poke.ensures.moved
    ∙ ap (λ (xs : List Register). c.args.preg ∷ filter (λ r. not (is_register c.args.preg r)) xs) (read_ring c.args.self.now.items c.args.class c.index-self-class.result (omega arith))

pub returns-clause-members : goal.returns-clause-members
returns-clause-members g c = λ r. rw (returns-clause-moved g c) (same_members c.args.preg (ring_of c.args.self.now.items c.args.class) c.requires r)

pub returns-clause-distinct : goal.returns-clause-distinct
returns-clause-distinct g c =
    subst (λ (xs : List Register). IsDistinct is_register xs) (sym (set_ring c.args.self.now.items c.args.class c.poke.new.self (omega arith)))
    c.poke.ensures.distinct

pub returns-clause-others : goal.returns-clause-others
returns-clause-others g c = λ other apart. set_ring-other c.args.self.now.items c.args.class other c.poke.new.self apart

pub offset_bounds-self-class : goal.offset_bounds-self-class
offset_bounds-self-class g c = tag-le c.args.class

pub listed : goal.listed
listed g c = tag-within c.args.self.now.items c.args.class (omega arith)

pub bounds-self-class : goal.bounds-self-class
bounds-self-class g c = tag-lt c.args.class
