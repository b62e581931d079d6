-- The places that an output and the clobbers name, and their bits.
use Rattle.std.proofs.Common.{ℕ, zero, suc, ◌≡◌, ◌≢◌, ◌+◌, ◌-◌, ◌<◌, ◌≤◌, inl, inr, arith, Bool, true, false, ◌||◌, List, [], ◌∷◌, ◌++◌, length, get_or, take}
use Rattle.std.proofs.Common.{drop, slice_index, map, refl, sym, ap, ◌∙◌, subst}
use Rattle.std.specs.Prelude.{◌⊎◌, ◌↔◌, All, Contains}
use Rattle.std.specs.List.{flat_map}
use Rattle.std.specs.List.Sorted.{IsStrictlyIncreasing}
use Rattle.std.proofs.lemmas.List.Elements.{Contains-append_left, Contains-append_right, Contains-append_cases, Contains-get_or, All-map, All-filter}
use Rattle.std.proofs.lemmas.List.Elements.{All-take, All-drop, All-contains_itself, All-weaker}
use Rattle.std.proofs.lemmas.Bool.{cases_lt, cases_Bool, or_right}
use Rattle.std.proofs.lemmas.List.{get_or_default, take_more, take_all}
use Rattle.std.proofs.lemmas.Grind.{flat_map-append}
use Rattle.std.proofs.lemmas.List.Folds.{flat_map-map}
use Rattle.regalloc2_names.specs.declared.sets.PRegSet.{PRegSet}
use Rattle.regalloc2_names.specs.Place.{Place, NoPlace, InRegister, InSlot, is_no_place}
use Rattle.regalloc2_names.specs.PlaceBits.{bits_of_place}
use Rattle.regalloc2_names.specs.Register.{Register, has_register, registers_of}
use Rattle.regalloc2_names.specs.Listed.{is_listed, listed_is}
use Rattle.regalloc2_function.specs.FunctionValue.{FunctionValue, InstValue, inst_at, no_inst}
use Rattle.regalloc2_function.specs.OutputValue.{OutputValue, MoveValue, allocs_of, alloc_end}
use Rattle.regalloc2_semantics.specs.Runs.{Location, moves_at}
use Rattle.regalloc2_function.specs.declared.listing.Edit.{Edit}
use Rattle.regalloc2_function.specs.Views.{edit_of, move_of}
use Rattle.regalloc2_checker.proofs.Members.{only_item}
use Rattle.regalloc2_checker.specs.NamedBits.{ArePlacesAdded, places_of_edit}
use Rattle.regalloc2_checker.specs.NamedPlaces.{places_of, clobbered_places, named_places, bits_unless_missing}
use Rattle.regalloc2_checker.specs.TableFacts.{IsMissingUnlisted, IsListed, AreNamedPlaces}

-- where nothing is added, no place's bits are
pub added-none : (xs : List ℕ) → ArePlacesAdded xs xs []
added-none xs n = (inl, back)
  where
    back : Contains xs n ⊎ Contains [] n → Contains xs n
    back (inl h) = h
    back (inr (k, less, at)) = absurd (omega arith)

-- places that are added after others are added beside them
pub added-then : (xs ys zs : List ℕ) (ps qs : List Place) → ArePlacesAdded xs ys ps → ArePlacesAdded ys zs qs → ArePlacesAdded xs zs (ps ++ qs)
added-then xs ys zs ps qs a b n = (λ h. forth ((b n).0 h), back)
  where
    both : flat_map bits_unless_missing (ps ++ qs) ≡ flat_map bits_unless_missing ps ++ flat_map bits_unless_missing qs
    both = flat_map-append bits_unless_missing ps qs

    first : Contains xs n ⊎ Contains (flat_map bits_unless_missing ps) n → Contains xs n ⊎ Contains (flat_map bits_unless_missing (ps ++ qs)) n
    first (inl h) = inl h
    first (inr h) = inr (subst (λ (l : List ℕ). Contains l n) (sym both)
        (Contains-append_left (flat_map bits_unless_missing ps) (flat_map bits_unless_missing qs) n h))

    forth : Contains ys n ⊎ Contains (flat_map bits_unless_missing qs) n → Contains xs n ⊎ Contains (flat_map bits_unless_missing (ps ++ qs)) n
    forth (inl h) = first ((a n).0 h)
    forth (inr h) = inr (subst (λ (l : List ℕ). Contains l n) (sym both)
        (Contains-append_right (flat_map bits_unless_missing ps) (flat_map bits_unless_missing qs) n h))

    among : Contains (flat_map bits_unless_missing ps) n ⊎ Contains (flat_map bits_unless_missing qs) n → Contains zs n
    among (inl h) = (b n).1 (inl ((a n).1 (inr h)))
    among (inr h) = (b n).1 (inr h)

    back : Contains xs n ⊎ Contains (flat_map bits_unless_missing (ps ++ qs)) n → Contains zs n
    back (inl h) = (b n).1 (inl ((a n).1 (inl h)))
    back (inr h) = among (Contains-append_cases (flat_map bits_unless_missing ps) (flat_map bits_unless_missing qs) n
        (subst (λ (l : List ℕ). Contains l n) both h))

-- a missing place adds nothing
pub added-missing : (xs : List ℕ) (p : Place) → is_no_place p ≡ true → ArePlacesAdded xs xs (p ∷ [])
added-missing xs NoPlace e = added-none xs
added-missing xs (InRegister r) e = absurd cc
added-missing xs (InSlot n) e = absurd cc

one-added : (xs ys : List ℕ) (x y : ℕ) → x ≡ y → ((n : ℕ) → Contains ys n ↔ (Contains xs n ⊎ (n ≡ x))) → (n : ℕ) →
    Contains ys n ↔ (Contains xs n ⊎ Contains (y ∷ []) n)
one-added xs ys x y is more n = (λ h. there ((more n).0 h), λ h. (more n).1 (back h))
  where
    there : Contains xs n ⊎ (n ≡ x) → Contains xs n ⊎ Contains (y ∷ []) n
    there (inl h) = inl h
    there (inr h) = inr (0, omega arith, sym (h ∙ is))

    back : Contains xs n ⊎ Contains (y ∷ []) n → Contains xs n ⊎ (n ≡ x)
    back (inl h) = inl h
    back (inr h) = inr (sym (is ∙ only_item y n h))

-- any other adds its bits
pub added-bits : (xs ys : List ℕ) (p : Place) (x : ℕ) → is_no_place p ≡ false → x ≡ bits_of_place p →
    ((n : ℕ) → Contains ys n ↔ (Contains xs n ⊎ (n ≡ x))) → ArePlacesAdded xs ys (p ∷ [])
added-bits xs ys NoPlace x some is more = absurd cc
added-bits xs ys (InRegister r) x some is more = one-added xs ys x (bits_of_place (InRegister r)) is more
added-bits xs ys (InSlot k) x some is more = one-added xs ys x (bits_of_place (InSlot k)) is more

-- one place more of a list is added
pub added-more : (xs ys zs : List ℕ) (ps : List Place) (k : ℕ) (p : Place) → k < length ps → p ≡ get_or ps k p → ArePlacesAdded xs ys (take k ps) →
    ArePlacesAdded ys zs (p ∷ []) → ArePlacesAdded xs zs (take (k + 1) ps)
added-more xs ys zs ps k p less is a b =
    let e : take (k + 1) ps ≡ take k ps ++ (p ∷ []) = take_more ps k p less ∙ ap (λ (q : Place). take k ps ++ (q ∷ [])) (sym is) in
    subst (λ (qs : List Place). ArePlacesAdded xs zs qs) (sym e) (added-then xs ys zs (take k ps) (p ∷ []) a b)

-- all places of a list are added
pub added-all : (xs ys : List ℕ) (ps : List Place) (k : ℕ) → length ps ≤ k → ArePlacesAdded xs ys (take k ps) → ArePlacesAdded xs ys ps
added-all xs ys ps k long a = subst (λ (qs : List Place). ArePlacesAdded xs ys qs) (take_all k ps long) a

-- one edit more of a list
pub edit-more : (xs ys zs ws : List ℕ) (es : List (ℕ × Edit)) (k : ℕ) (e : ℕ × Edit) → k < length es → e ≡ get_or es k e →
    ArePlacesAdded xs ys (flat_map places_of_edit (take k es)) → ArePlacesAdded ys zs ((move_of e.1).from ∷ []) → ArePlacesAdded zs ws ((move_of e.1).to ∷ []) →
    ArePlacesAdded xs ws (flat_map places_of_edit (take (k + 1) es))
edit-more xs ys zs ws es k e less is a b d =
    let t : take (k + 1) es ≡ take k es ++ (e ∷ []) = take_more es k e less ∙ ap (λ (q : ℕ × Edit). take k es ++ (q ∷ [])) (sym is) in
    let f : flat_map places_of_edit (take (k + 1) es) ≡ flat_map places_of_edit (take k es) ++ places_of_edit e =
    ap (λ (qs : List (ℕ × Edit)). flat_map places_of_edit qs) t ∙ flat_map-append places_of_edit (take k es) (e ∷ []) in
    subst (λ (qs : List Place). ArePlacesAdded xs ws qs) (sym f) (added-then xs ys ws (flat_map places_of_edit (take k es)) (places_of_edit e) a
    (added-then ys zs ws ((move_of e.1).from ∷ []) ((move_of e.1).to ∷ []) b d))

-- all edits of a list
pub edits-all : (xs ys : List ℕ) (es : List (ℕ × Edit)) (k : ℕ) → length es ≤ k → ArePlacesAdded xs ys (flat_map places_of_edit (take k es)) →
    ArePlacesAdded xs ys (flat_map places_of_edit es)
edits-all xs ys es k long a = subst (λ (qs : List (ℕ × Edit)). ArePlacesAdded xs ys (flat_map places_of_edit qs)) (take_all k es long) a

-- what an item of a list is mapped to is in what the list is
pub contains-flat : {X A : Type 0} (f : X → List A) (xs : List X) (x : X) (y : A) → Contains xs x → Contains (f x) y → Contains (flat_map f xs) y
contains-flat f [] x y (k, less, at) h = absurd (omega arith)
contains-flat f (z ∷ zs) x y (zero, less, at) h = Contains-append_left (f z) (flat_map f zs) y (subst (λ w. Contains (f w) y) (sym at) h)
contains-flat f (z ∷ zs) x y (suc k, less, at) h =
    Contains-append_right (f z) (flat_map f zs) y (contains-flat f zs x y (k, omega arith, at) h)

contains-later : {X : Type 0} (z x : X) (xs : List X) → Contains xs x → Contains (z ∷ xs) x
contains-later z x xs (k, less, at) = (suc k, omega arith, at)

-- each item of a flattened list is one to which an item of the list is mapped
pub from-flat : {X A : Type 0} (f : X → List A) (xs : List X) (y : A) → Contains (flat_map f xs) y → (x : X) × Contains xs x × Contains (f x) y
from-flat f [] y (k, less, at) = absurd (omega arith)
from-flat {X = X} f (x ∷ xs) y h = by_part (from-flat f xs y) (Contains-append_cases (f x) (flat_map f xs) y h)
  where
    by_part : (Contains (flat_map f xs) y → (z : X) × Contains xs z × Contains (f z) y) → Contains (f x) y ⊎ Contains (flat_map f xs) y →
        (z : X) × Contains (x ∷ xs) z × Contains (f z) y
    by_part rest (inl g) = (x, (0, omega arith, refl), g)
    by_part rest (inr g) = let r = rest g in (r.0, contains-later x r.0 xs r.1, r.2)

pub contains-map : {X A : Type 0} (f : X → A) (xs : List X) (x : X) → Contains xs x → Contains (map f xs) (f x)
contains-map f [] x (k, less, at) = absurd (omega arith)
contains-map f (z ∷ zs) x (zero, less, at) = (0, omega arith, ap f at)
contains-map f (z ∷ zs) x (suc k, less, at) = contains-later (f z) (f x) (map f zs) (contains-map f zs x (k, omega arith, at))

pub from-map : {X A : Type 0} (f : X → A) (xs : List X) (y : A) → Contains (map f xs) y → (x : X) × Contains xs x × (f x ≡ y)
from-map f [] y (k, less, at) = absurd (omega arith)
from-map f (x ∷ xs) y (zero, less, at) = (x, (0, omega arith, refl), at)
from-map f (x ∷ xs) y (suc k, less, at) = let r = from-map f xs y (k, omega arith, at) in (r.0, contains-later x r.0 xs r.1, r.2)

-- places that are among others have their bits among the bits of the others
bits-among : (ps qs : List Place) → ((p : Place) → Contains ps p → Contains qs p) → (n : ℕ) → Contains (flat_map bits_unless_missing ps) n →
    Contains (flat_map bits_unless_missing qs) n
bits-among ps qs among n h = let r = from-flat bits_unless_missing ps n h in contains-flat bits_unless_missing qs r.0 n (among r.0 r.1) r.2

-- a set has the registers that one of the first n instructions clobbers, and no others
abbrev pub AreClobbersBefore : FunctionValue → ℕ → PRegSet → Type 0
AreClobbersBefore f n s = (r : Register) → (has_register s r ≡ true) ↔ ((i : ℕ) × (i < n) × (has_register (inst_at f i).clobbers r ≡ true))

abbrev AreAllClobbers : FunctionValue → PRegSet → Type 0
AreAllClobbers f s = AreClobbersBefore f (length f.insts) s

-- the empty set has the registers that none of the instructions clobbers
pub none-clobbered : (f : FunctionValue) (s : PRegSet) → ((r : Register) → has_register s r ≡ false) → AreClobbersBefore f 0 s
none-clobbered f s empty = λ r. (λ e. let n = empty r in absurd cc, λ w. absurd (omega (arith, w.1)))

-- the clobbers of one instruction more are put into the set
pub clobbered-more : (f : FunctionValue) (s t : PRegSet) (n : ℕ) → AreClobbersBefore f n s →
    ((r : Register) → has_register t r ≡ has_register s r || has_register (inst_at f n).clobbers r) → AreClobbersBefore f (n + 1) t
clobbered-more f s t n all joined = λ r. (λ e. forth r (cases_Bool (has_register s r)) e, back r)
  where
    forth : (r : Register) → (has_register s r ≡ true) ⊎ (has_register s r ≡ false) → has_register t r ≡ true →
        (i : ℕ) × (i < n + 1) × (has_register (inst_at f i).clobbers r ≡ true)
    forth r (inl h) e = let w = (all r).0 h in (w.0, omega (arith, w.1), w.2)
    forth r (inr h) e = (n, omega arith, ap (λ (b : Bool). b || has_register (inst_at f n).clobbers r) (sym h) ∙ sym (joined r) ∙ e)

    from_any : (r : Register) → (has_register s r ≡ true) ⊎ (has_register (inst_at f n).clobbers r ≡ true) → has_register t r ≡ true
    from_any r (inl h) = joined r ∙ ap (λ (b : Bool). b || has_register (inst_at f n).clobbers r) h
    from_any r (inr h) = joined r ∙ or_right (has_register s r) (has_register (inst_at f n).clobbers r) h

    back : (r : Register) → (i : ℕ) × (i < n + 1) × (has_register (inst_at f i).clobbers r ≡ true) → has_register t r ≡ true
    back r (i, less, h) = elim (cases_lt i n) [
      | inl l ↦ from_any r (inl ((all r).1 (i, l, h)))
      | inr g ↦ (let e : i ≡ n = omega arith in from_any r (inr (ap (λ (k : ℕ). has_register (inst_at f k).clobbers r) (sym e) ∙ h)))
    ]

-- the clobbers of all instructions are in the set in the end
pub clobbered-all : (f : FunctionValue) (s : PRegSet) (n : ℕ) → n ≡ length f.insts → AreClobbersBefore f n s → AreClobbersBefore f (length f.insts) s
clobbered-all f s n e all = subst (λ (k : ℕ). AreClobbersBefore f k s) e all

clobbers-named : (f : FunctionValue) (s : PRegSet) → AreAllClobbers f s → (p : Place) → Contains (map InRegister (registers_of s)) p →
    Contains (flat_map clobbered_places f.insts) p
clobbers-named f s all p h =
    let m = from-map InRegister (registers_of s) p h in
    let l = listed_is s m.0 m.1 in
    let i = (all m.0).0 l.1 in
    let inst : InstValue = inst_at f i.0 in
    contains-flat clobbered_places f.insts inst p (Contains-get_or f.insts i.0 no_inst i.1)
    (subst (λ (q : Place). Contains (clobbered_places inst) q) m.2
    (contains-map InRegister (registers_of inst.clobbers) m.0 (is_listed inst.clobbers m.0 l.0 i.2)))

named-clobbers : (f : FunctionValue) (s : PRegSet) → AreAllClobbers f s → (p : Place) → Contains (flat_map clobbered_places f.insts) p →
    Contains (map InRegister (registers_of s)) p
named-clobbers f s all p h =
    let r = from-flat clobbered_places f.insts p h in
    let m = from-map InRegister (registers_of r.0.clobbers) p r.2 in
    let l = listed_is r.0.clobbers m.0 m.1 in
    let at : inst_at f r.1.0 ≡ r.0 = get_or_default f.insts r.1.0 no_inst r.0 r.1.1 ∙ r.1.2 in
    let has : has_register (inst_at f r.1.0).clobbers m.0 ≡ true = ap (λ (i : InstValue). has_register i.clobbers m.0) at ∙ l.1 in
    subst (λ (q : Place). Contains (map InRegister (registers_of s)) q) m.2
    (contains-map InRegister (registers_of s) m.0 (is_listed s m.0 l.0 ((all m.0).1 (r.1.0, r.1.1, has))))

-- the last part of a list changed
changed-last : (xs ys zs ws : List Place) → ((p : Place) → Contains zs p → Contains ws p) → (p : Place) → Contains (xs ++ (ys ++ zs)) p →
    Contains (xs ++ (ys ++ ws)) p
changed-last xs ys zs ws on p h = by_first (Contains-append_cases xs (ys ++ zs) p h)
  where
    by_second : Contains ys p ⊎ Contains zs p → Contains (ys ++ ws) p
    by_second (inl g) = Contains-append_left ys ws p g
    by_second (inr g) = Contains-append_right ys ws p (on p g)

    by_first : Contains xs p ⊎ Contains (ys ++ zs) p → Contains (xs ++ (ys ++ ws)) p
    by_first (inl g) = Contains-append_left xs (ys ++ ws) p g
    by_first (inr g) = Contains-append_right xs (ys ++ ws) p (by_second (Contains-append_cases ys zs p g))

-- what is in an empty list or in another is in the other
not-before : (xs : List ℕ) (n : ℕ) → Contains [] n ⊎ Contains xs n → Contains xs n
not-before xs n (inl (k, less, at)) = absurd (omega arith)
not-before xs n (inr h) = h

-- a list of all bits of moves, operands and clobbers, each once, has the bits of the places that are named
pub all-named : (f : FunctionValue) (o : OutputValue) (edits : List (ℕ × Edit)) (s : PRegSet) (bits places : List ℕ) → o.edits ≡ map edit_of edits →
    AreAllClobbers f s → ArePlacesAdded [] bits (flat_map places_of_edit edits ++ (o.allocs ++ map InRegister (registers_of s))) →
    ((n : ℕ) → Contains places n ↔ Contains bits n) → IsStrictlyIncreasing places → AreNamedPlaces f o places
all-named f o edits s bits places same all whole members rising =
    let moves : flat_map (λ e. places_of e.1) o.edits ≡ flat_map places_of_edit edits =
    ap (λ (es : List (ℕ × MoveValue)). flat_map (λ e. places_of e.1) es) same ∙ flat_map-map (λ (e : ℕ × MoveValue). places_of e.1) edit_of edits in
    let regs : List Place = map InRegister (registers_of s) in
    record {
      rising = rising;
      members = λ n. (
        λ h. subst (λ (ms : List Place). Contains (flat_map bits_unless_missing (ms ++ (o.allocs ++ flat_map clobbered_places f.insts))) n) (sym moves)
            (bits-among (flat_map places_of_edit edits ++ (o.allocs ++ regs)) (flat_map places_of_edit edits ++ (o.allocs ++ flat_map clobbered_places f.insts))
            (changed-last (flat_map places_of_edit edits) o.allocs regs (flat_map clobbered_places f.insts) (clobbers-named f s all)) n
            (not-before _ n ((whole n).0 ((members n).0 h)))),
        λ h. (members n).1 ((whole n).1 (inr
            (bits-among (flat_map places_of_edit edits ++ (o.allocs ++ flat_map clobbered_places f.insts)) (flat_map places_of_edit edits ++ (o.allocs ++ regs))
            (changed-last (flat_map places_of_edit edits) o.allocs (flat_map clobbered_places f.insts) regs (named-clobbers f s all)) n
            (subst (λ (ms : List Place). Contains (flat_map bits_unless_missing (ms ++ (o.allocs ++ flat_map clobbered_places f.insts))) n) moves h)))),
      );
    }

only-zero : (p : Place) → Contains (bits_unless_missing p) 0 → ⊥
unfolding bits_of_place
only-zero NoPlace (k, less, at) = omega arith
only-zero (InRegister r) (zero, less, at) = omega (arith, at)
only-zero (InRegister r) (suc k, less, at) = omega arith
only-zero (InSlot n) (zero, less, at) = omega (arith, at)
only-zero (InSlot n) (suc k, less, at) = omega arith

-- no missing place is named
pub no-missing : (f : FunctionValue) (o : OutputValue) (places : List ℕ) → AreNamedPlaces f o places → IsMissingUnlisted places
no-missing f o places h c = let r = from-flat bits_unless_missing (named_places f o) 0 ((h.members 0).0 c) in only-zero r.0 r.2

bits-of-some : (p : Place) → p ≢ NoPlace → Contains (bits_unless_missing p) (bits_of_place p)
bits-of-some NoPlace some = absurd (some refl)
bits-of-some (InRegister r) some = (0, omega arith, refl)
bits-of-some (InSlot n) some = (0, omega arith, refl)

named-listed : (f : FunctionValue) (o : OutputValue) (places : List ℕ) (p : Place) → AreNamedPlaces f o places → Contains (named_places f o) p →
    IsListed places p
named-listed f o places p h c some =
    (h.members (bits_of_place p)).1 (contains-flat bits_unless_missing (named_places f o) p (bits_of_place p) c (bits-of-some p some))

-- what a move fills is listed
pub moves-listed : (f : FunctionValue) (o : OutputValue) (places : List ℕ) (l : Location) → AreNamedPlaces f o places →
    All (λ m. IsListed places m.to) (moves_at f o l)
moves-listed f o places l h =
    All-map (λ (m : MoveValue). IsListed places m.to) (λ (e : ℕ × MoveValue). e.1) _ (All-filter _ (λ (e : ℕ × MoveValue). IsListed places e.1.to) o.edits
    (All-weaker (Contains o.edits) (λ (e : ℕ × MoveValue). IsListed places e.1.to)
    (λ e c. named-listed f o places e.1.to h (Contains-append_left (flat_map (λ x. places_of x.1) o.edits) (o.allocs ++ flat_map clobbered_places f.insts)
    e.1.to
    (contains-flat (λ (x : ℕ × MoveValue). places_of x.1) o.edits e e.1.to c (1, omega arith, refl))))
    o.edits (All-contains_itself o.edits)))

-- the places of an instruction's operands are listed
pub operands-listed : (f : FunctionValue) (o : OutputValue) (places : List ℕ) (i : ℕ) → AreNamedPlaces f o places → All (IsListed places) (allocs_of o i)
operands-listed f o places i h =
    let whole : All (IsListed places) o.allocs = All-weaker (Contains o.allocs) (IsListed places)
    (λ p c. named-listed f o places p h (Contains-append_right (flat_map (λ e. places_of e.1) o.edits) (o.allocs ++ flat_map clobbered_places f.insts) p
    (Contains-append_left o.allocs (flat_map clobbered_places f.insts) p c))) o.allocs (All-contains_itself o.allocs) in
    All-take (IsListed places) (alloc_end o i - slice_index o.offsets i) (drop (slice_index o.offsets i) o.allocs) (All-drop (IsListed places) (slice_index o.offsets i) o.allocs whole)
