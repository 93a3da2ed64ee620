-- Layer, cause, node and frame of each kind of fault.
use Rattle.std.specs.Prelude.{ℕ, Some, None, Option}
use Rattle.frame.specs.declared.cause.Cause.{Cause}
use Rattle.algebra.specs.declared.fault.Fault.{Fault}
use Rattle.algebra.specs.declared.fault.Fault.TheVariants.{BadFrame, LeafJoin, ForkJoin}

-- 1 for the source, 2 for the algebra
abbrev pub fault_layer : Fault → ℕ
fault_layer (BadFrame c n k) = 1
fault_layer (LeafJoin c n k) = 2
fault_layer (ForkJoin c n) = 2

-- what the source or the algebra answered
abbrev pub fault_cause : Fault → Cause
fault_cause (BadFrame c n k) = c
fault_cause (LeafJoin c n k) = c
fault_cause (ForkJoin c n) = c

-- the leaf or the fork
abbrev pub fault_node : Fault → ℕ
fault_node (BadFrame c n k) = n
fault_node (LeafJoin c n k) = n
fault_node (ForkJoin c n) = n

-- the bad frame, or the one being joined; a fork has none
abbrev pub fault_frame : Fault → Option ℕ
fault_frame (BadFrame c n k) = Some k
fault_frame (LeafJoin c n k) = Some k
fault_frame (ForkJoin c n) = None
