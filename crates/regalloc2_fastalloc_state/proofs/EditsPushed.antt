-- Moves that are pushed, the last one first.
use Rattle.std.proofs.Common.{ℕ, suc, ◌≡◌, ◌+◌, ◌<◌, ◌≤◌, List, [], ◌∷◌, ◌++◌, length, get_or, sym, ap, ◌∙◌, subst, arith, min, take, length-append}
use Rattle.std.specs.Prelude.{drop, flat_map, map, reverse}
use Rattle.std.proofs.Math.Seq.{drop-cons}
use Rattle.std.proofs.lemmas.Grind.{flat_map-append}
use Rattle.std.proofs.lemmas.List.{append_assoc, append-nil, drop_all, map-append, reverse-append, take_all, take_more}
use Rattle.regalloc2_names.specs.Place.{Place}
use Rattle.regalloc2_function.specs.OutputValue.{MoveValue}
use Rattle.regalloc2_fastalloc_state.specs.ScratchPool.{Moves, pushed}
use Rattle.regalloc2_fastalloc_state.specs.StateParts.{kept_move}

-- none are pushed at first
pub none_pushed : (point : ℕ) (es : List (ℕ × MoveValue)) (ms : Moves) (n : ℕ) → n ≡ length ms → es ≡ es ++ pushed point (drop n ms)
none_pushed point es ms n e = sym (ap (λ (xs : Moves). es ++ pushed point xs) (drop_all n ms (omega (arith, e))) ∙ append-nil es)

-- the moves from k on are pushed if the moves from k + 1 on were, and then the move k
pub one_pushed : (point : ℕ) (old es new : List (ℕ × MoveValue)) (ms : Moves) (n k : ℕ) (m : Place × Place × Unit {0}) → n ≡ k + 1 → k < length ms →
    get_or ms k m ≡ m → es ≡ old ++ pushed point (drop n ms)
    → new ≡ es ++ (point, record { from = m.0; to = m.1 }) ∷ [] → new ≡ old ++ pushed point (drop k ms)
one_pushed point old es new ms n k m next lt reads had more =
    let e : n ≡ suc k = omega (arith, next) in
    let rest : Moves = drop (suc k) ms in
    let here : drop k ms ≡ m ∷ rest = drop-cons ms k m lt ∙ ap (λ (x : Place × Place × Unit {0}). x ∷ rest) reads in
    let last : List (ℕ × MoveValue) = (point, record { from = m.0; to = m.1 }) ∷ [] in
    let before : es ≡ old ++ pushed point rest = subst (λ (j : ℕ). es ≡ old ++ pushed point (drop j ms)) e had in
    more ∙ ap (λ (xs : List (ℕ × MoveValue)). xs ++ last) before ∙ append_assoc old (pushed point rest) last
    ∙ ap (λ (xs : Moves). old ++ pushed point xs) (sym here)

-- one more move of a chunk is listed, after the moves before the chunk and the moves that were pushed after it
pub one_listed : (before done more : List (ℕ × MoveValue)) (ms : List (ℕ × Place × Place)) (n k : ℕ) (m : ℕ × Place × Place) → n ≡ k + 1 → k < length ms →
    get_or ms k m ≡ m → done ≡ before ++ reverse (map kept_move (drop n ms)) → more ≡ done ++ kept_move m ∷ [] →
    more ≡ before ++ reverse (map kept_move (drop k ms))
one_listed before done more ms n k m next lt reads had one =
    let e : n ≡ suc k = omega (arith, next) in
    let rest : List (ℕ × Place × Place) = drop (suc k) ms in
    let here : drop k ms ≡ m ∷ rest = drop-cons ms k m lt ∙ ap (λ (x : ℕ × Place × Place). x ∷ rest) reads in
    let so_far : done ≡ before ++ reverse (map kept_move rest) = subst (λ (j : ℕ). done ≡ before ++ reverse (map kept_move (drop j ms))) e had in
    one ∙ ap (λ (l : List (ℕ × MoveValue)). l ++ kept_move m ∷ []) so_far ∙ append_assoc before (reverse (map kept_move rest)) (kept_move m ∷ [])
    ∙ ap (λ (l : List (ℕ × MoveValue)). before ++ l) (sym (reverse-append (kept_move m ∷ []) (map kept_move rest)))
    ∙ ap (λ (l : List (ℕ × Place × Place)). before ++ reverse (map kept_move l)) (sym here)

-- none of a chunk is listed at first
pub none_listed : (before : List (ℕ × MoveValue)) (ms : List (ℕ × Place × Place)) (n : ℕ) → n ≡ length ms →
    before ≡ before ++ reverse (map kept_move (drop n ms))
none_listed before ms n e =
    sym (ap (λ (l : List (ℕ × Place × Place)). before ++ reverse (map kept_move l)) (drop_all n ms (omega (arith, e))) ∙ append-nil before)

-- a chunk becomes one of the full ones, and an empty one begins
pub chunk_begun : {C X : Type 0} (items : C → List X) (full more : List C) (filled : C) (next : List X) → more ≡ full ++ filled ∷ [] → next ≡ [] →
    flat_map items more ++ next ≡ flat_map items full ++ items filled
chunk_begun {C} {X} items full more filled next e none =
    ap (λ (l : List X). flat_map items more ++ l) none ∙ append-nil (flat_map items more) ∙ ap (flat_map items) e ∙ flat_map-append items full (filled ∷ [])
    ∙ ap (λ (l : List X). flat_map items full ++ l) (append-nil (items filled))

-- one more move is kept in the chunk that is being filled
pub one_kept : (full current more : List (ℕ × Place × Place)) (m : ℕ × Place × Place) (all : List (ℕ × MoveValue)) →
    map kept_move (full ++ current) ≡ all → more ≡ current ++ m ∷ [] → map kept_move (full ++ more) ≡ all ++ kept_move m ∷ []
one_kept full current more m all so one =
    ap (λ (l : List (ℕ × Place × Place)). map kept_move (full ++ l)) one
    ∙ ap (map kept_move) (sym (append_assoc full current (m ∷ []))) ∙ map-append kept_move (full ++ current) (m ∷ [])
    ∙ ap (λ (l : List (ℕ × MoveValue)). l ++ kept_move m ∷ []) so

-- the moves of one chunk more are counted, up to the greatest number
pub one_counted : {C X : Type 0} (items : C → List X) (chunks : List C) (i : ℕ) (chunk : C) (top moves long more : ℕ) → i < length chunks →
    chunk ≡ get_or chunks i chunk → moves ≡ min (length (flat_map items (take i chunks))) top → long ≡ length (items chunk) → more ≡ min (moves + long) top →
    more ≡ min (length (flat_map items (take (i + 1) chunks))) top
one_counted {C} {X} items chunks i chunk top moves long more lt is had has counts =
    let next : take (i + 1) chunks ≡ take i chunks ++ chunk ∷ [] = take_more chunks i chunk lt ∙ ap (λ (x : C). take i chunks ++ x ∷ []) (sym is) in
    let flat : flat_map items (take (i + 1) chunks) ≡ flat_map items (take i chunks) ++ items chunk =
    ap (flat_map items) next ∙ flat_map-append items (take i chunks) (chunk ∷ [])
    ∙ ap (λ (l : List X). flat_map items (take i chunks) ++ l) (append-nil (items chunk)) in
    let size : length (flat_map items (take (i + 1) chunks)) ≡ length (flat_map items (take i chunks)) + length (items chunk) =
    ap length flat ∙ length-append (flat_map items (take i chunks)) (items chunk) in
    omega (arith, had, has, counts, size)

-- once all chunks are passed, the moves of all are counted
pub all_counted : {C X : Type 0} (items : C → List X) (chunks : List C) (i top moves : ℕ) → length chunks ≤ i →
    moves ≡ min (length (flat_map items (take i chunks))) top → moves ≡ min (length (flat_map items chunks)) top
all_counted {C} items chunks i top moves past had = had ∙ ap (λ (l : List C). min (length (flat_map items l)) top) (take_all i chunks past)

-- the chunk that is being filled is listed first, and the full ones are left
pub first_listed : {C : Type 0} (items : C → List (ℕ × Place × Place)) (full : List C) (current now : List (ℕ × Place × Place))
    (start listed all : List (ℕ × MoveValue)) → start ≡ [] → now ≡ current → listed ≡ start ++ reverse (map kept_move now) →
    map kept_move (flat_map items full ++ current) ≡ all → listed ++ reverse (map kept_move (flat_map items full)) ≡ reverse all
first_listed items full current now start listed all none same one so =
    ap (λ (l : List (ℕ × MoveValue)). l ++ reverse (map kept_move (flat_map items full)))
    (one ∙ ap (λ (l : List (ℕ × MoveValue)). l ++ reverse (map kept_move now)) none ∙ ap (λ (l : List (ℕ × Place × Place)). reverse (map kept_move l)) same)
    ∙ sym (reverse-append (map kept_move (flat_map items full)) (map kept_move current))
    ∙ ap reverse (sym (map-append kept_move (flat_map items full) current) ∙ so)

-- the last of the full chunks is listed
pub chunk_listed : {C : Type 0} (items : C → List (ℕ × Place × Place)) (full left : List C) (chunk : C) (now : List (ℕ × Place × Place))
    (listed more all : List (ℕ × MoveValue)) → full ≡ left ++ chunk ∷ [] → now ≡ items chunk → more ≡ listed ++ reverse (map kept_move now) →
    listed ++ reverse (map kept_move (flat_map items full)) ≡ all → more ++ reverse (map kept_move (flat_map items left)) ≡ all
chunk_listed items full left chunk now listed more all last same one so =
    let flat : flat_map items full ≡ flat_map items left ++ items chunk =
    ap (flat_map items) last ∙ flat_map-append items left (chunk ∷ [])
    ∙ ap (λ (l : List (ℕ × Place × Place)). flat_map items left ++ l) (append-nil (items chunk)) in
    let turned : reverse (map kept_move (flat_map items full)) ≡ reverse (map kept_move (items chunk)) ++ reverse (map kept_move (flat_map items left)) =
    ap (λ (l : List (ℕ × Place × Place)). reverse (map kept_move l)) flat ∙ ap reverse (map-append kept_move (flat_map items left) (items chunk))
    ∙ reverse-append (map kept_move (flat_map items left)) (map kept_move (items chunk)) in
    ap (λ (l : List (ℕ × MoveValue)). l ++ reverse (map kept_move (flat_map items left)))
    (one ∙ ap (λ (l : List (ℕ × Place × Place)). listed ++ reverse (map kept_move l)) same)
    ∙ append_assoc listed (reverse (map kept_move (items chunk))) (reverse (map kept_move (flat_map items left)))
    ∙ ap (λ (l : List (ℕ × MoveValue)). listed ++ l) (sym turned) ∙ so

-- if no chunk is left, all moves are listed
pub all_listed : {C : Type 0} (items : C → List (ℕ × Place × Place)) (full : List C) (listed all : List (ℕ × MoveValue)) → length full ≡ 0 →
    listed ++ reverse (map kept_move (flat_map items full)) ≡ all → listed ≡ all
all_listed items [] listed all none so = sym (append-nil listed) ∙ so
all_listed items (x ∷ xs) listed all none so = absurd (omega (arith, none))
