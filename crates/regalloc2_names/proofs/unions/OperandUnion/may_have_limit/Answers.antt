use Rattle.std.proofs.Common.{◌≡◌, arith, bit_and}
use Rattle.std.specs.Int.{bit_at}
use Rattle.std.proofs.lemmas.Bool.Decides.{nat_tests}
use Rattle.std.proofs.lemmas.Nat.Bits.{and_pow}
use Rattle.regalloc2_names.proofs.OperandUnions.{unlimited_union}
use Rattle.regalloc2_names.proofs.unions.OperandUnion.may_have_limit.Goals as goal

pub returns : goal.returns
returns c operands h clear_test =
    let clear : bit_and c.args.self.bits 1099511627776 ≡ 0 = grind (arith, nat_tests, clear_test) in
    let bit : bit_at c.args.self.bits 40 ≡ 0 = omega (arith, clear, and_pow c.args.self.bits 40) in
    unlimited_union operands h.are_operands (rw h.bits at bit)
