-- The lowest number of which something holds is one number.
use Rattle.std.proofs.Common.{◌≡◌, ℕ, ⊎_elim, arith}
use Rattle.std.proofs.lemmas.Bool.{cases_lt}
use Rattle.layout.specs.Refused.{Lowest}

pub lowest-same : (P : ℕ → Type 0) (c d : ℕ) → Lowest P c → Lowest P d → c ≡ d
lowest-same P c d p q =
    ⊎_elim
    (λ lt. absurd (q.1 c lt p.0))
    (λ le. ⊎_elim (λ lt. absurd (p.1 d lt q.0)) (λ ge. omega arith) (cases_lt d c))
    (cases_lt c d)
