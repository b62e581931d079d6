use Rattle.std.proofs.Common.{◌≢◌, ◌<◌, ◌∙◌, ℕ, ap, subst, sym}
use Rattle.std.specs.Prelude.{All, slice_set}
use Rattle.std.proofs.lemmas.List.{length-set}
use Rattle.regalloc2_parts.specs.VRegNodes.{vreg_ring_numbers, vregs}
use Rattle.regalloc2_parts.proofs.VRegLinks.{changes_added, changes_written, first_fits, node_inserted, written}
use Rattle.regalloc2_parts.proofs.vregset.insert_node.Goals as goal

pub link-requires-clause-next : goal.link-requires-clause-next
link-requires-clause-next c = rw length-set (first_fits c.args.nodes.now c.args.head c.index-nodes-head.result c.requires.list)

pub returns-clause-list : goal.returns-clause-list
returns-clause-list c =
    let k = c.vreg-number.result in
    let w = written c.args.nodes.now k c.args.vreg c.index-nodes-number.result in
    node_inserted c.args.nodes.now _ c.link.new.nodes c.link-2.new.nodes c.args.head k c.args.vreg c.index-nodes-head.result c.requires.list
    c.vreg-number.ensures.number (subst (λ (n : ℕ). n < c.args.head) (sym c.vreg-number.ensures.number) c.requires.below)
    (subst (λ (n : ℕ). All (λ m. m ≢ n) (vreg_ring_numbers c.args.nodes.now c.args.head)) (sym c.vreg-number.ensures.number) c.requires.absent) w
    (record { nexts = c.link.ensures.nexts; prevs = c.link.ensures.prevs; vregs = c.link.ensures.vregs })
    (record { nexts = c.link-2.ensures.nexts; prevs = c.link-2.ensures.prevs; vregs = c.link-2.ensures.vregs })

pub returns-clause-vregs : goal.returns-clause-vregs
returns-clause-vregs c =
    let w = written c.args.nodes.now c.vreg-number.result c.args.vreg c.index-nodes-number.result in
    c.link-2.ensures.vregs ∙ c.link.ensures.vregs ∙ w.vregs_set
    ∙ ap (λ (n : ℕ). slice_set (vregs c.args.nodes.now) n c.args.vreg) c.vreg-number.ensures.number

pub returns-clause-few : goal.returns-clause-few
returns-clause-few c =
    let w = written c.args.nodes.now c.vreg-number.result c.args.vreg c.index-nodes-number.result in
    changes_written c.args.nodes.now _ c.link-2.new.nodes c.vreg-number.result c.args.vreg 4 w
    (changes_added _ c.link.new.nodes c.link-2.new.nodes 2 2 c.link.ensures.long c.link-2.ensures.long c.link.ensures.few c.link-2.ensures.few)
