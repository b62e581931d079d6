use Rattle.std.proofs.Common.{ℕ, zero, suc, ◌≡◌, ◌<◌, ◌∷◌, [], List, length, take, drop, refl, arith}
use Rattle.std.specs.Prelude.{slice_index_or}
use Rattle.std.proofs.lemmas.List.{length-take-le, length-drop}
use Rattle.regalloc2_names.specs.Register.{empty_set}
use Rattle.regalloc2_names.specs.declared.sets.PRegSet.{PRegSet}
use Rattle.regalloc2_serialize.specs.Flat.Columns.Value.{HasBits, HaveBits, set_words_at}
use Rattle.regalloc2_serialize.proofs.flat.columns.typed.class_sets.Goals as goal

six : (words : List ℕ) (first : ℕ) → length words ≡ 18 → first < 13 → length (take 6 (drop first words)) ≡ 6
six words first long within = length-take-le 6 (drop first words) (rw (length-drop, long) (omega arith))

three : (words : List ℕ) (a b c : PRegSet) → HasBits (take 6 words) a → HasBits (take 6 (drop 6 words)) b → HasBits (take 6 (drop 12 words)) c →
    HaveBits words 3 (a ∷ b ∷ c ∷ [])
three words a b c first second third = record { count_is = refl; each = each }
  where
    each : (k : ℕ) → k < 3 → HasBits (set_words_at words k) (slice_index_or (a ∷ b ∷ c ∷ []) k empty_set)
    each zero less = first
    each (suc zero) less = second
    each (suc (suc zero)) less = third
    each (suc (suc (suc k))) less = absurd (omega arith)

pub returns : goal.returns
returns c = three _ _ _ _ c.set_of.ensures c.set_of-2.ensures c.set_of-3.ensures
