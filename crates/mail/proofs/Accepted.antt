-- An answer that is no refusal.
use Rattle.std.proofs.Common.{◌≡◌, Bool, true, false, cond, Ok, Err, Result, refl}

-- the numbers passed
pub passed : {T E : Type 0} (b : Bool) (answer : Result T E) (refusal : E) {x : T} → Ok x ≡ cond b answer (Err refusal) → b ≡ true
passed true answer refusal h = refl
passed false answer refusal h = cc

-- and the answer is the one to such numbers
pub answered : {T E : Type 0} (b : Bool) (y : T) (refusal : E) {x : T} → Ok x ≡ cond b (Ok y) (Err refusal) → y ≡ x
answered true y refusal h = cc
answered false y refusal h = cc
