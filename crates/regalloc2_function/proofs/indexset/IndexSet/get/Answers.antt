use Rattle.std.proofs.Common.{◌/◌, ◌%◌, refl}
use Rattle.std.proofs.lemmas.Nat.Bits.{shr_and_one}
use Rattle.regalloc2_function.specs.Numbers.{has_number, word_of}
use Rattle.regalloc2_function.proofs.indexset.IndexSet.get.Goals as goal

pub returns : goal.returns
unfolding has_number
returns g c = rw (c.word.ensures, shr_and_one (word_of c.args.self.now (c.args.index / 64)) (c.args.index % 64)) refl
