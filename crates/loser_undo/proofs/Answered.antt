-- What is said of a result, and what follows of it.
use Rattle.std.specs.Prelude.{Result, Ok, Err, IfOk, IfErr}

pub if_ok_then : {T E : Type 0} (P Q : T → Type 0) (r : Result T E) → IfOk r P → ((x : T) → P x → Q x) → IfOk r Q
if_ok_then P Q (Ok x) p f = f x p
if_ok_then P Q (Err e) p f = tt

pub if_err_then : {T E : Type 0} (P Q : E → Type 0) (r : Result T E) → IfErr r P → ((e : E) → P e → Q e) → IfErr r Q
if_err_then P Q (Ok x) p f = tt
if_err_then P Q (Err e) p f = f e p
