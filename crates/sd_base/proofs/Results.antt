-- What is said of a result by its variant.
use Rattle.std.specs.Prelude.{Result, Ok, Err, IsErr, OnOk, OnErr}

-- what holds in any case holds on an error
pub on_err : {T E P : Type 0} (r : Result T E) → P → OnErr r P
on_err (Ok x) p = tt
on_err (Err e) p = p

-- what holds in any case holds where there is a value
pub on_ok : {T E P : Type 0} (r : Result T E) → P → OnOk r P
on_ok (Ok x) p = p
on_ok (Err e) p = tt

-- what follows of an error, and of a value
pub err_then : {T E P Q : Type 0} (r : Result T E) → OnErr r P → (P → Q) → OnErr r Q
err_then (Ok x) p f = tt
err_then (Err e) p f = f p

pub ok_then : {T E P Q : Type 0} (r : Result T E) → OnOk r P → (P → Q) → OnOk r Q
ok_then (Ok x) p f = f p
ok_then (Err e) p f = tt

-- what is said of an error that is there
pub err_of : {T E P : Type 0} (r : Result T E) → IsErr r → OnErr r P → P
err_of (Ok x) is p = cc
err_of (Err e) is p = p
