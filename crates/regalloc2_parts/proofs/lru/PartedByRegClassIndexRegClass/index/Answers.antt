use Rattle.std.proofs.Common.{arith}
use Rattle.std.proofs.lemmas.List.{get_or_default}
use Rattle.regalloc2_names.specs.Register.{class_code}
use Rattle.regalloc2_names.proofs.Bits.{tag-class, class_code-lt}
use Rattle.regalloc2_parts.proofs.ByClass.{tag-lt, tag-le, tag-within}
use Rattle.regalloc2_parts.proofs.lru.PartedByRegClassIndexRegClass.index.Goals as goal

pub offset_bounds-self-class : goal.offset_bounds-self-class
offset_bounds-self-class g c = tag-le c.args.class

pub listed : goal.listed
listed g c = tag-within c.args.self.now.items c.args.class (omega arith)

pub bounds-self-class : goal.bounds-self-class
bounds-self-class g c = tag-lt c.args.class

pub returns : goal.returns
returns g c = λ other. rw (tag-class c.args.class) (get_or_default c.args.self.now.items (class_code c.args.class) other c.index-self-class.result
    (omega (arith, class_code-lt c.args.class)))
