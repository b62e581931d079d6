use Rattle.std.proofs.Common.{ℕ, ◌≡◌, ◌/◌, ◌∙◌, List, get_or, length, arith, ap, sym, subst}
use Rattle.std.specs.Prelude.{None, slice_set}
use Rattle.std.proofs.lemmas.List.{get_or_read, length-set, set-get_or}
use Rattle.regalloc2_checker_sets.specs.SavedCopies.{Copies}
use Rattle.regalloc2_checker_sets.proofs.Rows.{clean-set}
use Rattle.regalloc2_checker_sets.proofs.versions.Versions.set.Goals as goal

pub invariant_of-self : goal.invariant_of-self
invariant_of-self g c = record {
  long = omega (
    arith,
    length-set c.self.inside.cells.items c.args.position c.args.number,
    length-set c.self.inside.clean.items (c.args.position / 64) None,
    c.self.invariant.long,
  );
  some = c.self.invariant.some;
  within = c.self.invariant.within;
  known = clean-set c.self.inside.words.items c.self.inside.cells.items c.self.inside.clean.items c.args.position c.args.number
      (let v = ap (λ (x : Copies). length x.cells) c.self.view_is in omega (arith, v, c.requires, c.self.invariant.long)) c.self.invariant.known;
}

pub index-requires : goal.index-requires
index-requires g c = let v = ap (λ (x : Copies). length x.cells) c.self.view_is in omega (arith, v, c.requires, c.self.inside.cells.ok.0)

pub index_mut-requires : goal.index_mut-requires
index_mut-requires g c = let v = ap (λ (x : Copies). length x.cells) c.self.view_is in omega (arith, v, c.requires, c.self.inside.cells.ok.0)

pub index_mut-requires-2 : goal.index_mut-requires-2
index_mut-requires-2 g c =
    let v = ap (λ (x : Copies). length x.cells) c.self.view_is in omega (arith, v, c.requires, c.self.invariant.long, c.self.inside.clean.ok.0)

pub returns : goal.returns
returns g c = ap (λ (o : Copies). record o { cells = slice_set o.cells c.args.position c.args.number }) c.self.view_is

pub returns-then-index-number : goal.returns-then-index-number
returns-then-index-number g c =
    let cells : List ℕ = c.self.inside.cells.items in
    let e : cells ≡ c.args.self.now.cells = ap (λ (x : Copies). x.cells) c.self.view_is in
    let long = ap (λ (l : List ℕ). length l) e in
    let here : get_or cells c.args.position 0 ≡ c.args.number =
    sym (get_or_read cells c.args.position c.index.result.now (omega (arith, long, c.requires)) c.index.ensures 0) ∙ c.if-index-number.true in
    let same : slice_set cells c.args.position c.args.number ≡ cells = ap (λ n. slice_set cells c.args.position n) (sym here) ∙ set-get_or cells c.args.position 0 in
    ap (λ (l : List ℕ). record c.args.self.now { cells = l })
    (sym (subst (λ (l : List ℕ). slice_set l c.args.position c.args.number ≡ l) e same))
