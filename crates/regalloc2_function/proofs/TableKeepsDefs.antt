-- What a table keeps of the definitions that are noted in it.
use Rattle.std.proofs.Common.{ℕ, ◌≡◌, ◌≢◌, ◌<◌, false, Option, Some, None, List, [], ◌∷◌, ◌++◌, length, set, replicate, refl, sym, ap, ◌∙◌, subst, eq-eqb}
use Rattle.std.proofs.Common.{inl, inr, arith, length-set, get_or-set_same, get_or-set_other}
use Rattle.std.specs.Prelude.{Contains, nat_eq}
use Rattle.std.proofs.lemmas.Bool.{cases_Bool, cases_eq, cases_lt}
use Rattle.std.proofs.lemmas.List.{get_or-replicate, get_or_past, length-replicate}
use Rattle.std.proofs.lemmas.List.Elements.{Contains-append_left, Contains-push, Contains-push_cases}
use Rattle.std.proofs.lemmas.Bool.Decides.{Decides-eqb}
use Rattle.regalloc2_function.specs.Reasons.{Site, AreSingle}
use Rattle.regalloc2_function.specs.declared.ssa.Definition.{Definition}
use Rattle.regalloc2_function.specs.Inside.Definitions.{Table, NotesDefinitions, IsNumberTaken, entry_of, kept_of, definitions_among}
use Rattle.regalloc2_function.specs.Inside.Definitions.NotesDefinitions.{none, more}
use Rattle.regalloc2_function.proofs.DefsCounted.{among_append}

-- a table has an entry for each of these definitions and no other, and they define each number at most once and below a bound
pub record Keeps (num : ℕ) (ds : List Site) (t : Table) : Type 0 where
  pub long : length t ≡ num
  pub single : AreSingle num ds
  pub found : (n : ℕ) (e : Definition) → entry_of t n ≡ Some e → (d : Site) × Contains ds d × (d.vreg.number ≡ n) × (kept_of d ≡ e)
  pub kept : (d : Site) → Contains ds d → entry_of t d.vreg.number ≡ Some (kept_of d)
  pub free : (n : ℕ) → entry_of t n ≡ None → definitions_among ds n ≡ 0
  pub unknown : (n : ℕ) → definitions_among ds n ≡ 0 → entry_of t n ≡ None

blank : (num n : ℕ) → entry_of (replicate num None) n ≡ None
blank num n =
    elim (cases_lt n num) [
      | inl less ↦ get_or-replicate num n None None less
      | inr past ↦ get_or_past (replicate num None) n None (rw length-replicate past)
    ]

set_here : (t : Table) (n : ℕ) (o : Option Definition) → n < length t → entry_of (set t n o) n ≡ o
set_here t n o less = rw get_or-set_same refl

set_there : (t : Table) (n m : ℕ) (o : Option Definition) → m ≢ n → entry_of (set t n o) m ≡ entry_of t m
set_there t n m o ne = rw get_or-set_other refl

one_here : (d : Site) (n : ℕ) → d.vreg.number ≡ n → definitions_among (d ∷ []) n ≡ 1
one_here d n e = rw (eq-eqb d.vreg.number n e) refl

none_here : (d : Site) (n : ℕ) → d.vreg.number ≢ n → definitions_among (d ∷ []) n ≡ 0
none_here d n ne = rw (differ d.vreg.number n ne) refl
  where
    differ : (x y : ℕ) → x ≢ y → nat_eq x y ≡ false
    differ x y ne = elim (cases_Bool (nat_eq x y)) [ inl e ↦ absurd (ne ((Decides-eqb x y).0 e)) | inr e ↦ e ]

-- the table without entries is that of no definitions
pub keeps_none : (num : ℕ) → Keeps num [] (replicate num None)
keeps_none num = record {
  long = length-replicate num None;
  single = λ n. (omega arith, λ h. absurd (omega arith));
  found = λ n e h. absurd (let b : entry_of (replicate num None) n ≡ None = blank num n in cc);
  kept = λ d m. absurd (omega (arith, m.1));
  free = λ n h. refl;
  unknown = λ n h. blank num n;
}

-- a table is that of one definition more once its entry is set at the definition's number, where there was none
pub keeps_more : (num : ℕ) (ds : List Site) (t : Table) (d : Site) → Keeps num ds t → d.vreg.number < length t →
    entry_of t d.vreg.number ≡ None → Keeps num (ds ++ d ∷ []) (set t d.vreg.number (Some (kept_of d)))
keeps_more num ds t d k room free = record {
  long = length-set t d.vreg.number (Some (kept_of d)) ∙ k.long;
  single = λ n. elim (cases_eq d.vreg.number n) [
    | inl e ↦ (let before : definitions_among ds n ≡ 0 = k.free n (subst (λ m. entry_of t m ≡ None) e free) in
        let sum = among_append n ds (d ∷ []) in let one = one_here d n e in let long = k.long in
        (omega (arith, sum, one), λ h. omega arith))
    | inr ne ↦ (let sum = among_append n ds (d ∷ []) in let no = none_here d n ne in let old = k.single n in
        (omega (arith, sum, no, old.0), λ h. old.1 (omega (arith, sum, no))))
  ];
  found = λ n e h. elim (cases_eq d.vreg.number n) [
    | inl at ↦ (let here : Some (kept_of d) ≡ Some e = sym (set_here t d.vreg.number (Some (kept_of d)) room)
        ∙ ap (entry_of (set t d.vreg.number (Some (kept_of d)))) at ∙ h in
        (d, Contains-push ds d, at, cc))
    | inr ne ↦ (let old = k.found n e (sym (set_there t d.vreg.number n (Some (kept_of d)) (λ q. ne (sym q))) ∙ h) in
        (old.0, Contains-append_left ds (d ∷ []) old.0 old.1, old.2, old.3))
  ];
  kept = λ c m. elim (Contains-push_cases ds d c m) [
    | inl old ↦ (let is = k.kept c old in
        let ne : c.vreg.number ≢ d.vreg.number = λ q. (let both : entry_of t c.vreg.number ≡ None = ap (entry_of t) q ∙ free in cc) in
        set_there t d.vreg.number c.vreg.number (Some (kept_of d)) ne ∙ is)
    | inr new ↦ subst (λ (z : Site). entry_of (set t d.vreg.number (Some (kept_of d))) z.vreg.number ≡ Some (kept_of z)) new
        (set_here t d.vreg.number (Some (kept_of d)) room)
  ];
  free = λ n h. elim (cases_eq d.vreg.number n) [
    | inl at ↦ absurd (let here : Some (kept_of d) ≡ None = sym (set_here t d.vreg.number (Some (kept_of d)) room)
        ∙ ap (entry_of (set t d.vreg.number (Some (kept_of d)))) at ∙ h in cc)
    | inr ne ↦ (let old = k.free n (sym (set_there t d.vreg.number n (Some (kept_of d)) (λ q. ne (sym q))) ∙ h) in
        let sum = among_append n ds (d ∷ []) in let no = none_here d n ne in omega (arith, sum, no))
  ];
  unknown = λ n h. elim (cases_eq d.vreg.number n) [
    | inl at ↦ absurd (let sum = among_append n ds (d ∷ []) in let one = one_here d n at in omega (arith, sum, one))
    | inr ne ↦ (let sum = among_append n ds (d ∷ []) in set_there t d.vreg.number n (Some (kept_of d)) (λ q. ne (sym q)) ∙ k.unknown n (omega (arith, sum)))
  ];
}

-- what is noted from a blank table on
pub notes_keep : (num : ℕ) {ds : List Site} {t : Table} → NotesDefinitions (replicate num None) ds t → Keeps num ds t
notes_keep num none = keeps_none num
notes_keep num (more {ds = ds} {after = after} d n room free) = keeps_more num ds after d (notes_keep num n) room free

-- the first that is taken is the first that repeats
pub taken_repeats : (num : ℕ) (ds : List Site) (t : Table) (d : Site) → Keeps num ds t → IsNumberTaken t d.vreg →
    AreSingle num (ds ++ d ∷ []) → ⊥
taken_repeats num ds t d k taken single =
    let sum = among_append d.vreg.number ds (d ∷ []) in
    let one = one_here d d.vreg.number refl in
    let long = k.long in
    elim taken [
      | inl past ↦ (let low = (single d.vreg.number).1 (omega (arith, sum, one)) in absurd (omega arith))
      | inr there ↦ (let once = (single d.vreg.number).0 in there (k.unknown d.vreg.number (omega (arith, sum, one, once))))
    ]
