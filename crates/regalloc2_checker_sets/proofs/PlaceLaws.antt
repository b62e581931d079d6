-- Where places are listed, by entries.
use Rattle.std.proofs.Common.{ℕ, ◌≡◌, ◌<◌, arith, List, length, get_or, ap, sym, ◌∙◌}
use Rattle.std.specs.Prelude.{◌==◌, Option, None, Some}
use Rattle.std.specs.List.{position}
use Rattle.std.specs.List.Sorted.{IsStrictlyIncreasing}
use Rattle.regalloc2_checker_sets.specs.PlaceEntries.{bits_at, ArePlaceEntries}
use Rattle.regalloc2_checker_sets.proofs.Listed.{found-is, found-none}

-- a place whose entry says that it isn't listed
pub entry-none : (places entries : List ℕ) (bits i : ℕ) → ArePlaceEntries places (length places) entries → i < length entries → bits_at i ≡ bits →
    get_or entries i 0 ≡ 4294967295 → ◌≡◌ {A = Option ℕ} None (position (λ n. n == bits) places)
entry-none places entries bits i h less here e = found-none places bits (λ k l d. (h.each i less).absent e k l (d ∙ sym here))

-- a place whose entry says where it is listed
pub entry-some : (places entries : List ℕ) (bits i entry : ℕ) → IsStrictlyIncreasing places → ArePlaceEntries places (length places) entries →
    i < length entries → bits_at i ≡ bits → get_or entries i 0 ≡ entry → entry < 4294967295 → Some entry ≡ position (λ n. n == bits) places
entry-some places entries bits i entry rises h less here at small =
    let s = (h.each i less).here (omega (arith, at, small)) in
    ap (λ (n : ℕ). Some n) (sym at) ∙ found-is places bits (get_or entries i 0) rises s.0 (s.1 ∙ here)
