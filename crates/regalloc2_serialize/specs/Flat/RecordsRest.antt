-- The words of an output say where they end.
use Rattle.std.specs.Prelude.{ℕ, List, ◌++◌}
use Rattle.regalloc2_function.specs.declared.serialize.StoredOutput.{StoredOutput}
use Rattle.regalloc2_serialize.specs.Flat.Flat.{one_word, words_of_long, words_of_list, words_of_triple, words_of_quadruple, output_words}
use Rattle.regalloc2_serialize.specs.Flat.OneRest.{HasOneRest, one_rest-word, one_rest-long, one_rest-pair, one_rest-triple, one_rest-quadruple, one_rest-list}

-- lists of plain numbers
words_rest : HasOneRest (words_of_list one_word)
words_rest = one_rest-list one_word (one_rest-word (λ n. n))

triples_rest : HasOneRest (words_of_list words_of_triple)
triples_rest = one_rest-list words_of_triple (one_rest-triple one_word one_word one_word (one_rest-word (λ n. n)) (one_rest-word (λ n. n))
    (one_rest-word (λ n. n)))

quadruples_rest : HasOneRest (words_of_list words_of_quadruple)
quadruples_rest = one_rest-list words_of_quadruple
    (one_rest-quadruple one_word one_word one_word one_word (one_rest-word (λ n. n)) (one_rest-word (λ n. n)) (one_rest-word (λ n. n)) (one_rest-word (λ n. n)))

lists_of_output_rest : HasOneRest {A = List (ℕ × ℕ × ℕ) × List ℕ × List ℕ × List (ℕ × ℕ × ℕ × ℕ)}
    (λ p. words_of_list words_of_triple p.0 ++ (words_of_list one_word p.1 ++ (words_of_list one_word p.2 ++ words_of_list words_of_quadruple p.3)))
lists_of_output_rest = one_rest-quadruple (words_of_list words_of_triple) (words_of_list one_word) (words_of_list one_word)
    (words_of_list words_of_quadruple) triples_rest words_rest words_rest quadruples_rest

pub one_rest-output : {A : Type 0} → HasOneRest (λ (o : StoredOutput A). output_words o)
one_rest-output x y =
    one_rest-pair words_of_long (λ p. words_of_list words_of_triple p.0
    ++ (words_of_list one_word p.1 ++ (words_of_list one_word p.2 ++ words_of_list words_of_quadruple p.3))) one_rest-long lists_of_output_rest
    (x.num_spillslots, (x.edits.items, x.allocs.items, x.inst_alloc_offsets.items, x.debug_locations.items))
    (y.num_spillslots, (y.edits.items, y.allocs.items, y.inst_alloc_offsets.items, y.debug_locations.items))
