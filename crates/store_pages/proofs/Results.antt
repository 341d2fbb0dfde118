-- What holds of the result of a call.
use Rattle.std.specs.Prelude.{◌≡◌, Result, Ok, Err, IfErr, IfOk, IsOk, OnOk, refl}
use Rattle.std.specs.Result.{IsErrAnd}
use Rattle.script_text.specs.declared.reply.Reply.{Reply}

pub err_then : {T E : Type 0} (r : Result T E) (P Q : E → Type 0) → IfErr r P → ((why : E) → P why → Q why) → IfErr r Q
err_then (Ok x) P Q p then = tt
err_then (Err why) P Q p then = then why p

pub ok_then : {T E : Type 0} (r : Result T E) (P Q : T → Type 0) → IfOk r P → ((x : T) → P x → Q x) → IfOk r Q
ok_then (Ok x) P Q p then = then x p
ok_then (Err why) P Q p then = tt

pub no_err : {T E : Type 0} (r : Result T E) (P : E → Type 0) → ((why : E) → r ≡ Err why → P why) → IfErr r P
no_err (Ok x) P none = tt
no_err (Err why) P none = none why refl

pub on_ok : {T E : Type 0} {P : Type 0} (r : Result T E) → P → OnOk r P
on_ok (Ok x) p = p
on_ok (Err why) p = tt

-- what holds of an error that is passed on
pub passed_on : {T : Type 0} (r : Result T Reply) (P Q : Reply → Type 0) → IsErrAnd r P → ((why : Reply) → P why → Q why) → IfErr r Q
passed_on (Ok x) P Q is then = tt
passed_on (Err why) P Q is then = then why is

-- what follows of a call that was done
pub on_done : {T E : Type 0} {P Q : Type 0} (r : Result T E) → OnOk r P → (P → Q) → OnOk r Q
on_done (Ok x) p then = then p
on_done (Err why) p then = tt

-- a call that was done gave no error
pub never : {T E : Type 0} (r : Result T E) (e : E) → IsOk r → r ≡ Err e → ⊥
never (Ok x) e done failed = cc
never (Err f) e done failed = cc
