use Rattle.std.proofs.Common.{ℕ, ◌≡◌, ◌<◌, length, subst, arith}
use Rattle.regalloc2_function.specs.FunctionValue.{FunctionValue}
use Rattle.regalloc2_analysis.proofs.BranchDefsLemmas.SiteNotes.{SitesUpTo, sites_none, sites_more, sites_all}
use Rattle.regalloc2_analysis.proofs.branch_defs.sites.note_branches.Goals as goal

pub loop-b-init : goal.loop-b-init
loop-b-init g c =
    let f : FunctionValue = g.F.Function.function c.args.f.now in
    record { within = c.num_blocks-b-end.ensures.count; noted = sites_none f c.args.sites.now c.requires.room c.requires.none }

pub loop-b-preserved : goal.loop-b-preserved
loop-b-preserved g c =
    let f : FunctionValue = g.F.Function.function c.args.f.now in
    let less : c.loop-b.b < length f.blocks = omega (arith, c.loop-b.invariant.within) in
    record {
      within = c.loop-b.invariant.within;
      noted = sites_more f c.requires.well_formed c.loop-b.b less c.loop-b.sites c.note_branch.new.sites c.loop-b.invariant.noted
          (rw c.new.ensures at c.note_branch.ensures);
    }

pub returns : goal.returns
returns g c =
    let f : FunctionValue = g.F.Function.function c.args.f.now in
    let all : c.loop-b.b ≡ length f.blocks = omega (arith, c.loop-b.invariant.within) in
    sites_all f c.requires.well_formed c.loop-b.sites (subst (λ (n : ℕ). SitesUpTo f n c.loop-b.sites) all c.loop-b.invariant.noted)
