-- The text of a list that grows at its end.
use Rattle.std.proofs.Common.{◌≡◌, List, [], ◌∷◌, ◌++◌, refl, sym, append_assoc, append-nil}
use Rattle.std.specs.Prelude.{codes}
use Rattle.regalloc2_names.specs.Register.{Register}
use Rattle.regalloc2_names.specs.Text.{members_text, register_text}

-- the text of no registers is empty
pub members_text-nil : members_text [] ≡ []
unfolding members_text
members_text-nil = refl

-- a register at the end of a list adds its text and a comma
pub members_text-snoc : (rs : List Register) (r : Register) → members_text (rs ++ r ∷ []) ≡ members_text rs ++ (register_text r ++ codes ", ")
unfolding members_text
members_text-snoc [] r = simp append-nil refl
members_text-snoc (x ∷ rs) r = rw (members_text-snoc rs r)
    (sym (append_assoc (register_text x ++ codes ", ") (members_text rs) (register_text r ++ codes ", ")))
