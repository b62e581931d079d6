-- Definitions that are noted part by part.
use Rattle.std.proofs.Common.{◌≡◌, List, [], ◌∷◌, ◌++◌, refl, sym, ap, ◌∙◌, append_assoc, append-nil, arith}
use Rattle.regalloc2_names.specs.declared.RegAllocError.{RegAllocError}
use Rattle.regalloc2_function.specs.Reasons.{Site, IsFirstIn}
use Rattle.std.specs.Prelude.{All}
use Rattle.regalloc2_function.specs.Inside.Definitions.{Table, NotesDefinitions, IsFirstNumberTaken, NamesTaken, IsNumberTaken, IsUsable, NamesUnusable}
use Rattle.regalloc2_function.specs.Inside.Definitions.NotesDefinitions.{none, more}
use Rattle.regalloc2_function.proofs.ListsInParts.{first_of_part}

-- to note one list of definitions and then another is to note both, one after the other
pub notes_append : {a b c : Table} {xs ys : List Site} → NotesDefinitions a xs b → NotesDefinitions b ys c → NotesDefinitions a (xs ++ ys) c
notes_append {xs = xs} m none = rw append-nil m
notes_append {xs = xs} m (more {ds = ds} d n room free) = rw (← append_assoc xs ds (d ∷ [])) (more d (notes_append m n) room free)

-- the first definition of a part whose number is taken is the first of the whole list, once the definitions before the part are noted
pub taken_in_part : {a b : Table} (whole xs ys zs : List Site) (d : Site) → whole ≡ (xs ++ ys) ++ zs → NotesDefinitions a xs b →
    IsFirstNumberTaken b ys d →
    IsFirstNumberTaken a whole d
taken_in_part whole xs ys zs d e before h = record {
  earlier = xs ++ h.earlier;
  later = h.later ++ zs;
  marks = h.marks;
  is = e ∙ ap (λ l. (xs ++ l) ++ zs) h.is ∙ append_assoc xs (h.earlier ++ d ∷ h.later) zs ∙ ap (λ l. xs ++ l) (append_assoc h.earlier (d ∷ h.later) zs)
      ∙ sym (append_assoc xs h.earlier (d ∷ (h.later ++ zs)));
  noted = notes_append before h.noted;
  taken = h.taken;
}

-- an error that names a part's first definition with a taken number names the whole list's, once the definitions before the part are noted
pub names_in_part : {a b : Table} (whole xs ys zs : List Site) (e : RegAllocError) → whole ≡ (xs ++ ys) ++ zs → NotesDefinitions a xs b →
    NamesTaken b ys e →
    NamesTaken a whole e
names_in_part whole xs ys zs e is before h = (h.0, h.1, taken_in_part whole xs ys zs h.0 is before h.2)

-- a definition whose number is taken is the first such in a list of itself alone
pub taken_now : {a : Table} (d : Site) → IsNumberTaken a d.vreg → IsFirstNumberTaken a (d ∷ []) d
taken_now {a = a} d h = record { earlier = []; later = []; marks = a; is = refl; noted = none; taken = h }

-- an error that names a part's first use that isn't usable names the whole list's, if the uses before the part are usable
pub unusable_in_part : (t : Table) (whole xs ys zs : List Site) (e : RegAllocError) → whole ≡ (xs ++ ys) ++ zs → All (IsUsable t) xs → NamesUnusable t ys e →
    NamesUnusable t whole e
unusable_in_part t whole xs ys zs e is before h = (h.0, h.1, first_of_part (IsUsable t) whole xs ys zs h.0 is before h.2)

-- a use that isn't usable is the first such in a list of itself alone
pub unusable_now : (t : Table) (u : Site) → (IsUsable t u → ⊥) → IsFirstIn (IsUsable t) (u ∷ []) u
unusable_now t u h = (0, (omega arith, h, λ j low. absurd (omega (arith, low))), refl)
