-- Lemmas on an output that is made of its parts.
use Rattle.std.proofs.Common.{ℕ, ◌≡◌, ◌<◌, ◌^◌, ◌⊎◌, inl, inr, suc, ◌∷◌, List, [], length, map, refl, sym, ap, ◌∙◌, subst, arith}
use Rattle.std.specs.List.{flat_map}
use Rattle.std.specs.Prelude.{All}
use Rattle.std.specs.Global.{Vec, Global}
use Rattle.std.proofs.lemmas.List.Elements.{All-map}
use denote.RawPtr.{null_ptr}
use Rattle.regalloc2.specs.Place.{Place}
use Rattle.regalloc2.specs.PlaceBits.{IsPlaceBits, place_of_bits, bits_of_place}
use Rattle.regalloc2.specs.Views.{edit_of}
use Rattle.regalloc2.specs.OutputValue.{OutputValue, MoveValue}
use Rattle.regalloc2.specs.Stored.{NamesMove, stored_move}
use Rattle.regalloc2_function.specs.declared.listing.Edit.{Edit}
use Rattle.regalloc2_function.specs.declared.listing.Edit.TheVariants.{Move}
use Rattle.regalloc2_function.specs.declared.serialize.StoredOutput.{StoredOutput}
use Rattle.regalloc2_serialize.specs.Flat.Flat.{words_of_triple}
use Rattle.regalloc2_c.specs.Outcome.{AreMovesOf, ArePartsOf, IsOutput, NamesNoMoves, NamesNoOutput}
use Rattle.regalloc2_c.specs.declared.failure.Failure.{Failure}
use Rattle.regalloc2_c.specs.declared.failure.Failure.TheVariants.{NoMemory, BadOutput}
use Rattle.regalloc2_c.proofs.Triples.{length_triples}

-- the numbers of a move, which name it
abbrev pub numbers_of : (ℕ × Edit) → (ℕ × ℕ × ℕ)
numbers_of (p, Move from to) = (p, bits_of_place from, bits_of_place to)

abbrev pub IsNamed : (ℕ × Edit) → Type 0
IsNamed e = NamesMove (numbers_of e) × (edit_of e ≡ stored_move (numbers_of e))

-- a move that is read from numbers has them
pub move_read : (p : ℕ) (from to : Place) (w : ℕ × ℕ × ℕ) → p ≡ w.0 → from ≡ place_of_bits w.1 → bits_of_place from ≡ w.1 → to ≡ place_of_bits w.2 →
    bits_of_place to ≡ w.2 → NamesMove w → (numbers_of (p, Move from to) ≡ w) × IsNamed (p, Move from to)
move_read p from to w ep ef bf et bt names =
    let is : ◌≡◌ {A = ℕ × ℕ × ℕ} (p, bits_of_place from, bits_of_place to) w = rw (ep, bf, bt) refl in
    let same : ◌≡◌ {A = ℕ × MoveValue} (p, record { from = from; to = to }) (p, record { from = place_of_bits (bits_of_place from); to = place_of_bits (bits_of_place to) }) =
    ap (λ x. (p, record { from = x; to = to })) (ef ∙ ap place_of_bits (sym bf))
    ∙ ap (λ x. (p, record { from = place_of_bits (bits_of_place from); to = x })) (et ∙ ap place_of_bits (sym bt)) in
    (is, (subst NamesMove (sym is) names, same))

same_moves : (es : List (ℕ × Edit)) → All IsNamed es → map edit_of es ≡ map stored_move (map numbers_of es)
same_moves [] all = refl
same_moves (e ∷ es) all = rw ((all 0 e (omega arith)).1, same_moves es (λ i x h. all (suc i) x (omega (arith, h)))) refl

pub moves_made : (words : List ℕ) (es : List (ℕ × Edit)) → words ≡ flat_map words_of_triple (map numbers_of es) → All IsNamed es →
    AreMovesOf words (map edit_of es)
moves_made words es same all = record {
  numbers = map numbers_of es;
  words_of = same;
  names = All-map NamesMove numbers_of es (λ i x h. (all i x h).0);
  moves = same_moves es all;
}

-- a vector of the items `xs`
abbrev vec_with : {X : Type 0} → Global → (xs : List X) → length xs < 2 ^ 63 → Vec X
vec_with alloc xs h = record { ptr = null_ptr; len = length xs; cap = length xs; alloc = alloc; items = xs; ok = (refl, omega arith); small = h }

few : (words : List ℕ) (ts : List (ℕ × ℕ × ℕ)) → words ≡ flat_map words_of_triple ts → length words < 2 ^ 63 → length ts < 2 ^ 63
few words ts same h = let n = ap length same ∙ length_triples ts in omega (arith, n, h)

-- the parts of an output whose moves have the numbers `ts` are laid out of an output's numbers
record Numbers (units : ℕ) (moves places offsets : List ℕ) (ts : List (ℕ × ℕ × ℕ)) : Type 0 where
  stored : StoredOutput Global
  parts : ArePartsOf units moves places offsets stored
  edits_are : stored.edits.items ≡ ts

numbers_for : Global → (units : ℕ) (moves places offsets : List ℕ) (ts : List (ℕ × ℕ × ℕ)) → moves ≡ flat_map words_of_triple ts →
    length moves < 2 ^ 63 → length places < 2 ^ 63 → length offsets < 2 ^ 63 → Numbers units moves places offsets ts
numbers_for alloc units moves places offsets ts same fm fp fo = record {
  stored = record {
    num_spillslots = units;
    edits = vec_with alloc ts (few moves ts same fm);
    allocs = vec_with alloc places fp;
    inst_alloc_offsets = vec_with alloc offsets fo;
    debug_locations = vec_with alloc [] (omega arith);
  };
  parts = record { units = refl; moves_of = same; places_of = refl; offsets_of = refl; no_locations = refl };
  edits_are = refl;
}

-- an output of moves and places that have names
pub output_made : Global → (units : ℕ) (moves places offsets : List ℕ) (out : OutputValue) → length moves < 2 ^ 63 → length places < 2 ^ 63 →
    length offsets < 2 ^ 63 → AreMovesOf moves out.edits → All IsPlaceBits places → out.num_spillslots ≡ units → out.allocs ≡ map place_of_bits places →
    out.offsets ≡ offsets → out.debug_locations ≡ [] → IsOutput (ArePartsOf units moves places offsets) out
output_made alloc units moves places offsets out fm fp fo made names eu ea eo ed =
    let n = numbers_for alloc units moves places offsets made.numbers made.words_of fm fp fo in
    let p = n.parts in
    record {
      stored = n.stored;
      laid_out = p;
      names = (
        (
          subst (All NamesMove) (sym n.edits_are) made.names,
          subst (All IsPlaceBits) p.places_of names,
          rw p.no_locations (λ i x h. absurd (omega (arith, h))),
        ),
        rw (eu, made.moves, ea, eo, ed, ← p.units, n.edits_are, ← p.places_of, ← p.offsets_of, p.no_locations) refl,
      );
    }

-- moves that have no names, or no three words each
pub moves_unnamed : Global → (units : ℕ) (moves places offsets : List ℕ) (e : Failure) → length moves < 2 ^ 63 → length places < 2 ^ 63 →
    length offsets < 2 ^ 63 → NamesNoMoves moves e → NamesNoOutput (ArePartsOf units moves places offsets) e
moves_unnamed alloc units moves places offsets e fm fp fo (inl lost) = inl lost
moves_unnamed alloc units moves places offsets e fm fp fo (inr (inl t)) = inr (inl (t.0, λ o parts. t.1 o.edits.items parts.moves_of))
moves_unnamed alloc units moves places offsets e fm fp fo (inr (inr t)) =
    let n = numbers_for alloc units moves places offsets t.1 t.2 fm fp fo in
    inr (inr (t.0, n.stored, n.parts, λ names. t.3 (subst (All NamesMove) n.edits_are names.0)))

-- places that have no names
pub places_unnamed : Global → (units : ℕ) (moves places offsets : List ℕ) (edits : List (ℕ × MoveValue)) (e : Failure) → length moves < 2 ^ 63 →
    length places < 2 ^ 63 → length offsets < 2 ^ 63 → AreMovesOf moves edits → (e ≡ NoMemory) ⊎ ((e ≡ BadOutput) × (All IsPlaceBits places → ⊥)) →
    NamesNoOutput (ArePartsOf units moves places offsets) e
places_unnamed alloc units moves places offsets edits e fm fp fo made (inl lost) = inl lost
places_unnamed alloc units moves places offsets edits e fm fp fo made (inr t) =
    let n = numbers_for alloc units moves places offsets made.numbers made.words_of fm fp fo in
    inr (inr (t.0, n.stored, n.parts, λ names. t.1 (subst (All IsPlaceBits) (sym n.parts.places_of) names.1)))
