-- Equality of register sets: two sets are equal exactly if they have the same registers.
use Rattle.std.specs.Prelude.{Bool}
use Rattle.std.specs.Cmp.{IsEquivalence, IsPartialEquivalence, on_equiv, partial_equiv_from_equiv}
use Rattle.std.specs.Cmp.Lexicographic.{pointwise}
use Rattle.std.proofs.lemmas.Cmp.{and_equiv, lists_equiv, nat_eq_equiv}
use Rattle.regalloc2_names.specs.declared.sets.PRegSet.{PRegSet}
use Rattle.regalloc2_names.specs.Register.{class_code, is_register, registers_of}

-- the registers of two sets, by rising index, are the same
abbrev pub is_same_set : PRegSet → PRegSet → Bool
is_same_set s t = pointwise is_register (registers_of s) (registers_of t)

is_register-equiv : IsEquivalence is_register
is_register-equiv = and_equiv (on_equiv (λ r. class_code r.class) nat_eq_equiv) (on_equiv (λ r. r.number) nat_eq_equiv)

-- equality of sets is reflexive, symmetric and transitive
pub is_same_set-equiv : IsEquivalence is_same_set
is_same_set-equiv = on_equiv registers_of (lists_equiv is_register-equiv)

pub is_same_set-per : IsPartialEquivalence is_same_set
is_same_set-per = partial_equiv_from_equiv is_same_set-equiv
