-- What the table says of the function's definitions and uses.
use Rattle.std.proofs.Common.{ℕ, ◌≡◌, ◌≤◌, ◌<◌, Bool, cond, None, List, [], ◌∷◌, ◌++◌, length, get_or, replicate, refl, sym, ap, ◌∙◌, subst, append_assoc, inl, inr}
use Rattle.std.proofs.Common.{arith}
use Rattle.std.specs.Prelude.{All, Contains, nat_eq}
use Rattle.std.proofs.lemmas.Bool.{cases_Bool}
use Rattle.std.proofs.lemmas.Bool.Decides.{Decides-eqb}
use Rattle.std.proofs.lemmas.List.Elements.{All-weaker, Contains-append_left, Contains-append_right}
use Rattle.std.proofs.lemmas.List.Sums.{sum_by-cons}
use Rattle.regalloc2_names.specs.Register.{VirtualRegister}
use Rattle.regalloc2_names.specs.declared.RegClass.{RegClass}
use Rattle.regalloc2_names.specs.declared.RegAllocError.{RegAllocError}
use Rattle.regalloc2_names.specs.declared.RegAllocError.TheVariants.{Memory, SSA}
use Rattle.regalloc2_function.specs.FunctionValue.{FunctionValue}
use Rattle.regalloc2_function.specs.WellFormed.{BlocksFollow, DefinedOnce, IsDefinedUpTo, UsesAreDefined}
use Rattle.regalloc2_function.proofs.ListsInParts.{first_not_all}
use Rattle.regalloc2_function.specs.Reasons.{AreSingle, Site, IsDefinitionFault, IsFirstIn, IsFirstRepeat}
use Rattle.regalloc2_function.specs.Reasons.{definitions_in, uses_in}
use Rattle.regalloc2_function.specs.Inside.Definitions.{IsUsable, NamesTaken, NamesUnusable, NotesDefinitions, Table, entry_of, definitions_among}
use Rattle.regalloc2_function.specs.Inside.TableLength.{CoversDefinitions}
use Rattle.regalloc2_function.proofs.ListingsOfFunction.{defined_listed, listed_defines, listed_uses, once_single, single_once, uses_listed}
use Rattle.regalloc2_function.proofs.DefsCounted.{among_append}
use Rattle.regalloc2_function.proofs.TableKeepsDefs.{Keeps, notes_keep, taken_repeats}

same_vreg : (a b : VirtualRegister) → a.number ≡ b.number → a.class ≡ b.class → a ≡ b
same_vreg a b n c = ap (λ (x : ℕ). record { number = x; class = a.class }) n ∙ ap (λ (x : RegClass). record { number = b.number; class = x }) c

-- what is single below a bound is so below a greater one
wider : (n num : ℕ) (ds : List Site) → n ≤ num → AreSingle n ds → AreSingle num ds
wider n num ds le h m = let s = h m in (s.0, λ some. let low = s.1 some in omega (arith, le, low))

-- a number that definitions define has a definition among them
among_some : (ds : List Site) (m : ℕ) → 0 < definitions_among ds m → (d : Site) × Contains ds d × (d.vreg.number ≡ m)
among_some [] m h = absurd (omega (arith, h))
among_some (d ∷ ds) m h =
    let c = sum_by-cons (λ (x : Site). cond (nat_eq x.vreg.number m) 1 0) d ds in
    elim (cases_Bool (nat_eq d.vreg.number m)) [
      | inl e ↦ (d, (0, omega arith, refl), (Decides-eqb d.vreg.number m).0 e)
      | inr e ↦ (let n : ℕ = cond (nat_eq d.vreg.number m) 1 0 in let none : n ≡ 0 = ap (λ (b : Bool). cond b 1 0) e in
          let r = among_some ds m (omega (arith, c, none, h)) in
          (r.0, Contains-append_right (d ∷ []) ds r.0 r.1, r.2))
    ]

-- single definitions are below a bound with room for all that the function defines, if they are the first of its definitions
narrower : (f : FunctionValue) (n : ℕ) (xs ys : List Site) → CoversDefinitions f n → definitions_in f ≡ xs ++ ys → AreSingle f.num_vregs xs → AreSingle n xs
narrower f n xs ys room is h m = (
  (h m).0,
  λ some.
      let d = among_some xs m some in
      let listed : Contains (definitions_in f) d.0 = subst (λ (l : List Site). Contains l d.0) (sym is) (Contains-append_left xs ys d.0 d.1) in
      let defined : IsDefinedUpTo f d.0.vreg d.0.point = listed_defines f d.0 d.0.vreg d.0.point listed refl (omega arith) in
      let low = (h m).1 some in
      let small = room d.0.vreg d.0.point defined (omega (arith, low, d.2)) in
      omega (arith, small, d.2),
)

module _ (f : FunctionValue) (follow : BlocksFollow f) (some : 0 < length f.blocks) (t : Table) (n : ℕ) where
  usable_defined : Keeps n (definitions_in f) t → (u : Site) → IsUsable t u → IsDefinedUpTo f u.vreg u.point
  usable_defined k u h =
      let d = k.found u.vreg.number h.0 h.1 in
      let class : d.0.vreg.class ≡ u.vreg.class = ap (λ e. e.class) d.3 ∙ h.2 in
      let usable : d.0.point ≡ h.0.usable = ap (λ e. e.usable) d.3 in
      listed_defines f d.0 u.vreg u.point d.1 (same_vreg d.0.vreg u.vreg d.2 class) (omega (arith, h.3, usable))

  defined_usable : Keeps n (definitions_in f) t → (u : Site) → IsDefinedUpTo f u.vreg u.point → IsUsable t u
  defined_usable k u h =
      let d = defined_listed f follow some u.vreg u.point h in
      (record { class = d.0.vreg.class; usable = d.0.point }, ap (λ v. entry_of t v.number) (sym d.2) ∙ k.kept d.0 d.1, ap (λ v. v.class) d.2, d.3)

  -- where the table has taken in all definitions, the function defines each vreg at most once
  pub noted_once : n ≤ f.num_vregs → NotesDefinitions (replicate n None) (definitions_in f) t → DefinedOnce f
  noted_once few noted = single_once f follow some (wider n f.num_vregs (definitions_in f) few (notes_keep n noted).single)

  -- where the table has taken in all definitions and allows each listed use, each use is of a vreg that is defined before it
  pub usable_uses : NotesDefinitions (replicate n None) (definitions_in f) t → All (IsUsable t) (uses_in f) → UsesAreDefined f
  usable_uses noted all = listed_uses f (All-weaker (IsUsable t) (λ u. IsDefinedUpTo f u.vreg u.point) (usable_defined (notes_keep n noted)) (uses_in f) all)

  -- an error that names the first use that the table doesn't allow is right: the use is the first not defined before
  pub unusable_fault : n ≤ f.num_vregs → NotesDefinitions (replicate n None) (definitions_in f) t → (e : RegAllocError) → NamesUnusable t (uses_in f) e →
      IsDefinitionFault f e
  unusable_fault few noted e h =
      let k = notes_keep n noted in
      let first : (point : ℕ) × IsFirstIn (λ u. IsDefinedUpTo f u.vreg u.point) (uses_in f)
      (record { vreg = h.0.vreg; inst = h.0.inst; point = point }) = (
        h.0.point,
        (
          h.2.0,
          (
            h.2.1.0,
            λ defined. h.2.1.1 (defined_usable k (get_or (uses_in f) h.2.0 h.0) defined),
            λ j low. usable_defined k (get_or (uses_in f) j h.0)
                (h.2.1.2 j low),
          ),
          h.2.2,
        ),
      ) in
      subst (IsDefinitionFault f) (sym h.1) (inr (noted_once few noted, first))

-- an error that names the first definition whose number the table has already is right: it is the first repeat
pub taken_fault : (f : FunctionValue) (n : ℕ) → n ≤ f.num_vregs → CoversDefinitions f n → (e : RegAllocError) →
    NamesTaken (replicate n None) (definitions_in f) e → IsDefinitionFault f e
taken_fault f n few room e h =
    let k = notes_keep n h.2.noted in
    let whole : definitions_in f ≡ (h.2.earlier ++ h.0 ∷ []) ++ h.2.later = h.2.is ∙ sym (append_assoc h.2.earlier (h.0 ∷ []) h.2.later) in
    let first : IsFirstRepeat f h.0.vreg h.0.inst = record {
      site = h.0;
      vreg = refl;
      inst = refl;
      earlier = h.2.earlier;
      later = h.2.later;
      is = h.2.is;
      single = wider n f.num_vregs h.2.earlier few k.single;
      fails = λ single. taken_repeats n h.2.earlier h.2.marks h.0 k h.2.taken (narrower f n (h.2.earlier ++ h.0 ∷ []) h.2.later room whole single);
    } in
    subst (IsDefinitionFault f) (sym h.1) (inl first)

-- a part that comes first is single where the whole is
single_part : (num : ℕ) (xs ys : List Site) → AreSingle num (xs ++ ys) → AreSingle num xs
single_part num xs ys h n = let sum = among_append n xs ys in let s = h n in (omega (arith, sum, s.0), λ some. s.1 (omega (arith, sum)))

-- where both tests pass, the only error is out of memory
pub only_memory : (f : FunctionValue) → BlocksFollow f → 0 < length f.blocks → DefinedOnce f → UsesAreDefined f → (e : RegAllocError) → IsDefinitionFault f e →
    e ≡ Memory
only_memory f follow some once uses Memory h = refl
only_memory f follow some once uses (SSA v i) h =
    elim h [
      | inl repeat ↦ (let whole : definitions_in f ≡ (repeat.earlier ++ repeat.site ∷ []) ++ repeat.later = repeat.is
          ∙ sym (append_assoc repeat.earlier (repeat.site ∷ []) repeat.later) in
          absurd (repeat.fails (single_part f.num_vregs (repeat.earlier ++ repeat.site ∷ []) repeat.later
          (subst (AreSingle f.num_vregs) whole (once_single f follow some once)))))
      | inr use' ↦ (let all = uses_listed f uses in
          let at : Site = record { vreg = v; inst = i; point = use'.1.0 } in
          absurd (first_not_all (λ u. IsDefinedUpTo f u.vreg u.point) (uses_in f) at use'.1.1 all))
    ]
only_memory f follow some once uses _ h = absurd h
