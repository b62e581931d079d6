use Rattle.std.proofs.Common.{◌∙◌, ◌∷◌, ap, length, map, sym, subst}
use Rattle.std.specs.Prelude.{All}
use Rattle.regalloc2_names.specs.Packing.{IsVRegBits, vreg_of_bits}
use Rattle.regalloc2_serialize.specs.Flat.Columns.Layout.{header_of, pred_ends, succ_ends, param_ends, argument_ends}
use Rattle.regalloc2_serialize.proofs.ColumnsLemmas.Made.{covers-same}
use Rattle.regalloc2_serialize.proofs.flat.columns.read.edges_from.Goals as goal

pub blocks_in-requires : goal.blocks_in-requires
blocks_in-requires g c =
    let words = c.args.cut.now.words.now in
    covers-same c.column-2.result.now (pred_ends words) (header_of words).preds (length c.column.result.now) c.requires.covered.preds
    c.column-2.ensures.column c.column.ensures.count

pub blocks_in-requires-2 : goal.blocks_in-requires-2
blocks_in-requires-2 g c =
    let words = c.args.cut.now.words.now in
    covers-same c.column-4.result.now (succ_ends words) (header_of words).edges (length c.column-3.result.now) c.requires.covered.succs
    c.column-4.ensures.column c.column-3.ensures.count

pub vregs_in-requires : goal.vregs_in-requires
vregs_in-requires g c =
    let words = c.args.cut.now.words.now in
    record {
      covered = covers-same c.column-6.result.now (param_ends words) (header_of words).params (length c.column-5.result.now) c.requires.covered.params
          c.column-6.ensures.column c.column-5.ensures.count;
      vregs = subst (All IsVRegBits) (sym c.column-5.ensures.column) c.requires.names.vregs.params;
    }

pub vregs_in-requires-2 : goal.vregs_in-requires-2
vregs_in-requires-2 g c =
    let words = c.args.cut.now.words.now in
    record {
      covered = covers-same c.column-8.result.now (argument_ends words) (header_of words).arguments (length c.column-7.result.now) c.requires.covered.arguments
          c.column-8.ensures.column c.column-7.ensures.count;
      vregs = subst (All IsVRegBits) (sym c.column-7.ensures.column) c.requires.names.vregs.arguments;
    }

pub returns : goal.returns
returns g c = record {
  preds = c.in_ok-preds.ensures.items ∙ c.column.ensures.column;
  pred_bounds = c.in_ok-preds.ensures.bounds ∙ ap (λ l. 0 ∷ l) c.column-2.ensures.column;
  succs = c.in_ok-succs.ensures.items ∙ c.column-3.ensures.column;
  succ_bounds = c.in_ok-succs.ensures.bounds ∙ ap (λ l. 0 ∷ l) c.column-4.ensures.column;
  params = c.in_ok-params.ensures.items ∙ ap (map vreg_of_bits) c.column-5.ensures.column;
  param_bounds = c.in_ok-params.ensures.bounds ∙ ap (λ l. 0 ∷ l) c.column-6.ensures.column;
  arguments = c.in_ok-arguments.ensures.items ∙ ap (map vreg_of_bits) c.column-7.ensures.column;
  argument_bounds = c.in_ok-arguments.ensures.bounds ∙ ap (λ l. 0 ∷ l) c.column-8.ensures.column;
}
