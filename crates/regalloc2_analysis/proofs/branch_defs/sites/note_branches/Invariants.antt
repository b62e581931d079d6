use Rattle.std.proofs.Common.{◌≡◌, length}
use Rattle.regalloc2_analysis.proofs.BranchDefsLemmas.SiteNotes.{SitesUpTo}
use Rattle.regalloc2_analysis.proofs.branch_defs.sites.note_branches.Given as goal

-- what the branches of the blocks so far define is noted
abbrev pub invariant-loop-b : goal.invariant-loop-b
invariant-loop-b g l = record {
  within : l.b-end ≡ length (g.F.Function.function l.f).blocks;
  noted : SitesUpTo (g.F.Function.function l.f) l.b l.sites;
}
