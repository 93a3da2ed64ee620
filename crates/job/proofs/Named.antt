-- The first node without a name is what the pass over the parents looks for.
use Rattle.std.proofs.Common.{◌≡◌, ℕ, ◌+◌, List, [], ◌∷◌, Some, None, Ok, Err, Option, Result, refl, ap, ◌∙◌}
use Rattle.std.specs.List.{position, position_from}
use Rattle.std.proofs.lemmas.Iterator.Adapters.{position_from-zero}
use Rattle.layout.specs.declared.node.Parent.{Parent}
use Rattle.layout.specs.declared.node.Parent.TheVariants.{Root, LeftOf, RightOf}
use Rattle.layout.specs.declared.refusal.LoadRefusal.{LoadRefusal}
use Rattle.layout.specs.declared.refusal.LoadRefusal.TheVariants.{Naming}
use Rattle.layout.specs.Naming.{complete}
use Rattle.job.specs.Names.{unnamed}

abbrev refusal : Option ℕ → Result Unit LoadRefusal
refusal None = Ok tt
refusal (Some i) = Err (Naming (i + 1))

complete_from : (n : ℕ) (ps : List Parent) → refusal (position_from unnamed n ps) ≡ complete (n + 1) ps
complete_from n [] = refl
complete_from n (Root ∷ ps) = refl
complete_from n (LeftOf f ∷ ps) = complete_from (n + 1) ps
complete_from n (RightOf f ∷ ps) = complete_from (n + 1) ps

pub complete-by : (ps : List Parent) (r : Option ℕ) → r ≡ position unnamed ps → refusal r ≡ complete 1 ps
complete-by ps r is = ap refusal (is ∙ position_from-zero unnamed ps) ∙ complete_from 0 ps
