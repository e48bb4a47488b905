-- The operations of a shifter.
use Rattle.std.specs.Prelude.{List, [], ◌∷◌}
use Rattle.ap_bits.specs.declared.term.BinOp.{BinOp}
use Rattle.ap_bits.specs.declared.term.BinOp.TheVariants.{Sll, Srl, Sra, Rol}

-- in the order of their numbers
abbrev pub shift_ops : List BinOp
shift_ops = Sll ∷ Srl ∷ Sra ∷ Rol ∷ []
