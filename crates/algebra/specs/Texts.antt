-- The text of faults, of outcomes and of what a cell holds.
use Rattle.std.specs.Prelude.{ℕ, List, [], ◌++◌, Some, None, Ok, Err, codes, decimal, Option, Result}
use Rattle.std.specs.Fmt.{option_append}
use Rattle.algebra.specs.Faults.{fault_layer, fault_cause, fault_node, fault_frame}
use Rattle.algebra.specs.declared.fault.Fault.{Fault}

-- the frame of a fault, where it has one
abbrev pub frame_text : Option ℕ → List ℕ
frame_text (Some frame) = codes " frame " ++ decimal frame
frame_text None = []

-- a fault by its layer, cause, node and frame
abbrev pub fault_with : ℕ → ℕ → ℕ → Option ℕ → List ℕ
fault_with layer cause node frame =
    codes "fault layer " ++ (decimal layer ++ (codes " cause " ++ (decimal cause ++ (codes " node " ++ (decimal node ++ frame_text frame)))))

-- a fault by what it holds
abbrev pub fault_text : Fault → List ℕ
fault_text e = fault_with (fault_layer e) (fault_cause e).number (fault_node e) (fault_frame e)

-- a value is shown by `show`, which may give no text; then there is none here either
module _ {V : Type 0} (show : V → Option (List ℕ)) where
  -- a value or a fault
  abbrev pub outcome_text : Result V Fault → Option (List ℕ)
  outcome_text (Ok v) = option_append (Some (codes "value ")) (show v)
  outcome_text (Err e) = Some (fault_text e)

  -- what a cell holds
  abbrev pub cell_text : Option (Result V Fault) → Option (List ℕ)
  cell_text None = Some (codes "nothing")
  cell_text (Some r) = outcome_text r
