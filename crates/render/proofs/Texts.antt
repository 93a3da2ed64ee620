-- Texts that grow piece by piece.
use Rattle.std.proofs.Common.{◌≡◌, ℕ, ◌+◌, ◌<◌, List, [], ◌∷◌, ◌++◌, length, get_or, take, Some, None, Option, sym, refl, ap, append_assoc, append-nil}
use Rattle.std.specs.Fmt.{◌++?◌, AppendsText}
use Rattle.std.proofs.Output.{then_text_assoc}
use Rattle.std.proofs.lemmas.List.{take_more}
use Rattle.algebra.specs.declared.cell.Cell.{Cell}
use Rattle.layout.specs.Shape.{nth}
use Rattle.layout.specs.declared.node.Node.{Node}
use Rattle.render.specs.Report.{line_of, lines_text}

-- one text after another
pub appends_then : (a b d : List ℕ) (o p : Option (List ℕ)) → AppendsText a b o → AppendsText b d p → AppendsText a d (o ++? p)
appends_then a b d None p x y = tt
appends_then a b d (Some s) None x y = tt
appends_then a b d (Some s) (Some t) x y = rw (y, x) (append_assoc a s t)

nothing_between : (o : Option (List ℕ)) → o ++? Some [] ≡ Some [] ++? o
nothing_between None = refl
nothing_between (Some a) = ap (λ (l : List ℕ). Some l) (append-nil a)

module _ {V : Type 0} (show : V → Option (List ℕ)) (nodes : List Node) (cells : List (Cell V)) where
  lines-push : (cs : List ℕ) (c : ℕ) → lines_text show nodes cells (cs ++ (c ∷ [])) ≡ lines_text show nodes cells cs ++? line_of show cells c (nth nodes c)
  lines-push [] c = nothing_between (line_of show cells c (nth nodes c))
  lines-push (x ∷ cs) c = rw (lines-push cs c) (sym (then_text_assoc (line_of show cells x (nth nodes x)) _ _))

  -- one turn of the loop
  pub lines_more : (order : List ℕ) (i c : ℕ) (a b d : List ℕ) → i < length order → c ≡ get_or order i 0 → AppendsText a b (lines_text show nodes cells (take i order)) → AppendsText b d (line_of show cells c (nth nodes c)) → AppendsText a d (lines_text show nodes cells (take (i + 1) order))
  lines_more order i c a b d h e x y =
      rw (take_more order i 0 h, ← e, lines-push (take i order) c) (appends_then a b d _ _ x y)
