-- Facts of the successes and of the errors of a result.
use Rattle.std.specs.Prelude.{Result, Ok, Err, OnOk, OnErr}

-- what follows from both a success and an error holds
pub less_either : {E : Type 0} (P Q R : Type 0) (r : Result (Unit {0}) E) → (P → R) → (Q → R) → OnOk r P → OnErr r Q → R
less_either P Q R (Ok x) f g h k = f h
less_either P Q R (Err e) f g h k = g k

-- what follows from a fact of each success holds of each
pub on_ok_as : {E : Type 0} (P Q : Type 0) (r : Result (Unit {0}) E) → (P → Q) → OnOk r P → OnOk r Q
on_ok_as P Q (Ok x) f h = f h
on_ok_as P Q (Err e) f h = tt

-- what follows from two facts of each success holds of each
pub on_ok_of_both : {E : Type 0} (P Q R : Type 0) (r : Result (Unit {0}) E) → (P → Q → R) → OnOk r P → OnOk r Q → OnOk r R
on_ok_of_both P Q R (Ok x) f h k = f h k
on_ok_of_both P Q R (Err e) f h k = tt

-- what follows from a fact of each error holds of each
pub on_err_as : {E : Type 0} (P Q : Type 0) (r : Result (Unit {0}) E) → (P → Q) → OnErr r P → OnErr r Q
on_err_as P Q (Ok x) f h = tt
on_err_as P Q (Err e) f h = f h

-- what holds anyway holds of each error
pub on_err_always : {T E : Type 0} (Q : Type 0) (r : Result T E) → Q → OnErr r Q
on_err_always Q (Ok x) h = tt
on_err_always Q (Err e) h = h
