use Rattle.std.proofs.lemmas.Result.{err_from_is_err_and, IfErr-weaker}
use Rattle.regalloc2_serialize.specs.Flat.Flat.{words_of_long, words_of_list, one_word, words_of_triple, words_of_quadruple}
use Rattle.regalloc2_serialize.proofs.FlatLemmas.LongWords.{long_in_first, long_in_second, long_in_third, long_in_fourth, long_in_fifth}
use Rattle.regalloc2_serialize.proofs.flat.write.StoredOutputWritten.write.Goals as goal

pub returns-in_err-write-clause-limit : goal.returns-in_err-write-clause-limit
returns-in_err-write-clause-limit c =
    let p = err_from_is_err_and c.from_residual.result c.from_residual.ensures.1 in
    let number = words_of_long c.args.self.now.num_spillslots in
    let edits = words_of_list words_of_triple c.args.self.now.edits.items in
    let allocs = words_of_list one_word c.args.self.now.allocs.items in
    let offsets = words_of_list one_word c.args.self.now.inst_alloc_offsets.items in
    let labels = words_of_list words_of_quadruple c.args.self.now.debug_locations.items in
    rw (p.1, p.2) (λ e. long_in_first number edits allocs offsets labels (c.in_err-write.ensures.limit e))

pub returns-in_err-write-2-clause-limit : goal.returns-in_err-write-2-clause-limit
returns-in_err-write-2-clause-limit c =
    let p = err_from_is_err_and c.from_residual-in_err-write-2.result c.from_residual-in_err-write-2.ensures.1 in
    let number = words_of_long c.args.self.now.num_spillslots in
    let edits = words_of_list words_of_triple c.args.self.now.edits.items in
    let allocs = words_of_list one_word c.args.self.now.allocs.items in
    let offsets = words_of_list one_word c.args.self.now.inst_alloc_offsets.items in
    let labels = words_of_list words_of_quadruple c.args.self.now.debug_locations.items in
    rw (p.1, p.2) (λ e. long_in_second number edits allocs offsets labels (c.in_err-write-2.ensures.limit e))

pub returns-in_err-write-3-clause-limit : goal.returns-in_err-write-3-clause-limit
returns-in_err-write-3-clause-limit c =
    let p = err_from_is_err_and c.from_residual-in_err-write-3.result c.from_residual-in_err-write-3.ensures.1 in
    let number = words_of_long c.args.self.now.num_spillslots in
    let edits = words_of_list words_of_triple c.args.self.now.edits.items in
    let allocs = words_of_list one_word c.args.self.now.allocs.items in
    let offsets = words_of_list one_word c.args.self.now.inst_alloc_offsets.items in
    let labels = words_of_list words_of_quadruple c.args.self.now.debug_locations.items in
    rw (p.1, p.2) (λ e. long_in_third number edits allocs offsets labels (c.in_err-write-3.ensures.limit e))

pub returns-in_err-write-4-clause-limit : goal.returns-in_err-write-4-clause-limit
returns-in_err-write-4-clause-limit c =
    let p = err_from_is_err_and c.from_residual-in_err-write-4.result c.from_residual-in_err-write-4.ensures.1 in
    let number = words_of_long c.args.self.now.num_spillslots in
    let edits = words_of_list words_of_triple c.args.self.now.edits.items in
    let allocs = words_of_list one_word c.args.self.now.allocs.items in
    let offsets = words_of_list one_word c.args.self.now.inst_alloc_offsets.items in
    let labels = words_of_list words_of_quadruple c.args.self.now.debug_locations.items in
    rw (p.1, p.2) (λ e. long_in_fourth number edits allocs offsets labels (c.in_err-write-4.ensures.limit e))

pub returns-clause-limit : goal.returns-clause-limit
returns-clause-limit c =
    let number = words_of_long c.args.self.now.num_spillslots in
    let edits = words_of_list words_of_triple c.args.self.now.edits.items in
    let allocs = words_of_list one_word c.args.self.now.allocs.items in
    let offsets = words_of_list one_word c.args.self.now.inst_alloc_offsets.items in
    let labels = words_of_list words_of_quadruple c.args.self.now.debug_locations.items in
    IfErr-weaker c.write-5.result _ _ (λ x h e. long_in_fifth number edits allocs offsets labels (h e)) c.write-5.ensures.limit

pub returns-in_err-write-clause-faults : goal.returns-in_err-write-clause-faults
returns-in_err-write-clause-faults c = let p = err_from_is_err_and c.from_residual.result c.from_residual.ensures.1 in rw (p.1, p.2) c.in_err-write.ensures.faults

pub returns-in_err-write-2-clause-faults : goal.returns-in_err-write-2-clause-faults
returns-in_err-write-2-clause-faults c = let p = err_from_is_err_and c.from_residual-in_err-write-2.result c.from_residual-in_err-write-2.ensures.1 in rw (p.1, p.2) c.in_err-write-2.ensures.faults

pub returns-in_err-write-3-clause-faults : goal.returns-in_err-write-3-clause-faults
returns-in_err-write-3-clause-faults c = let p = err_from_is_err_and c.from_residual-in_err-write-3.result c.from_residual-in_err-write-3.ensures.1 in rw (p.1, p.2) c.in_err-write-3.ensures.faults

pub returns-in_err-write-4-clause-faults : goal.returns-in_err-write-4-clause-faults
returns-in_err-write-4-clause-faults c = let p = err_from_is_err_and c.from_residual-in_err-write-4.result c.from_residual-in_err-write-4.ensures.1 in rw (p.1, p.2) c.in_err-write-4.ensures.faults
