use Rattle.regalloc2.proofs.laws.accepts_what_is_guaranteed.Goals as goal

pub returns : goal.returns
returns g c = λ f env out ok written p. record {
  in_order = p.in_order;
  faithful = (p.runs written).faithful;
  no_errors = λ es r. (c.finds_no_error_where_faithful.ensures f env out es
      (record { successors = ok.successors; follow = ok.follow; end = ok.end; counted = ok.counted }) r).1 (p.runs written).faithful;
}
