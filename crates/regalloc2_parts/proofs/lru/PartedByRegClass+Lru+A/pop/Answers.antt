use Rattle.std.proofs.Common.{◌∙◌, ap, subst, arith, length, List, Contains, ◌-◌, IfSome}
use Rattle.std.specs.Prelude.{slice_get}
use Rattle.regalloc2_names.specs.Register.{Register}
use Rattle.regalloc2_parts.proofs.ByClass.{tag-lt, tag-le, tag-within, read_ring, set_ring-same}
use Rattle.regalloc2_parts.proofs.lru.PartedByRegClass+Lru+A.pop.Goals as goal

pub returns-clause-oldest : goal.returns-clause-oldest
returns-clause-oldest g c =
    c.pop.ensures.oldest ∙ ap (λ (xs : List Register). slice_get xs (length xs - 1)) (read_ring c.args.self.now.items c.args.class c.index-self-class.result (omega arith))

pub returns-clause-member : goal.returns-clause-member
returns-clause-member g c =
    subst (λ (xs : List Register). IfSome c.pop.result (λ r. Contains xs r))
    (read_ring c.args.self.now.items c.args.class c.index-self-class.result (omega arith)) c.pop.ensures.member

pub returns-clause-unchanged : goal.returns-clause-unchanged
returns-clause-unchanged g c =
    set_ring-same c.args.self.now.items c.args.class c.pop.new.self c.index-self-class.result c.pop.ensures.unchanged

pub offset_bounds-self-class : goal.offset_bounds-self-class
offset_bounds-self-class g c = tag-le c.args.class

pub listed : goal.listed
listed g c = tag-within c.args.self.now.items c.args.class (omega arith)

pub bounds-self-class : goal.bounds-self-class
bounds-self-class g c = tag-lt c.args.class
