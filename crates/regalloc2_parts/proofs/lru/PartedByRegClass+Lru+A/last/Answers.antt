use Rattle.std.proofs.Common.{◌≡◌, ◌∙◌, ap, subst, arith, List, Contains, IfSome, IfNone, All, false}
use Rattle.std.specs.Prelude.{find, reverse}
use Rattle.std.specs.List.{IsDistinct}
use Rattle.regalloc2_names.specs.Register.{Register, is_register, has_register}
use Rattle.regalloc2_parts.proofs.ByClass.{tag-lt, tag-le, tag-within, read_ring}
use Rattle.regalloc2_parts.proofs.lru.PartedByRegClass+Lru+A.last.Goals as goal

pub returns-clause-oldest : goal.returns-clause-oldest
returns-clause-oldest g c =
    c.last.ensures.oldest ∙ ap (λ (xs : List Register). find (has_register c.args.from) (reverse xs))
    (read_ring c.args.self.now.items c.args.class c.index-self-class.result (omega arith))

pub returns-clause-member : goal.returns-clause-member
returns-clause-member g c =
    subst (λ (xs : List Register). IfSome c.last.result (λ r. Contains xs r))
    (read_ring c.args.self.now.items c.args.class c.index-self-class.result (omega arith)) c.last.ensures.member

pub returns-clause-in_set : goal.returns-clause-in_set
returns-clause-in_set g c = c.last.ensures.in_set

pub returns-clause-none : goal.returns-clause-none
returns-clause-none g c =
    subst (λ (xs : List Register). IfNone c.last.result (All (λ r. has_register c.args.from r ≡ false) xs))
    (read_ring c.args.self.now.items c.args.class c.index-self-class.result (omega arith)) c.last.ensures.none

pub returns-clause-distinct : goal.returns-clause-distinct
returns-clause-distinct g c =
    subst (λ (xs : List Register). IsDistinct is_register xs)
    (read_ring c.args.self.now.items c.args.class c.index-self-class.result (omega arith)) c.last.ensures.distinct

pub offset_bounds-self-class : goal.offset_bounds-self-class
offset_bounds-self-class g c = tag-le c.args.class

pub listed : goal.listed
listed g c = tag-within c.args.self.now.items c.args.class (omega arith)

pub bounds-self-class : goal.bounds-self-class
bounds-self-class g c = tag-lt c.args.class
