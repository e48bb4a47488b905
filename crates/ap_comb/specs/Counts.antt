-- The operations of a counter of bits.
use Rattle.std.specs.Prelude.{List, [], ◌∷◌}
use Rattle.ap_bits.specs.declared.term.UnOp.{UnOp}
use Rattle.ap_bits.specs.declared.term.UnOp.TheVariants.{Pop, Clz}

-- in the order of their numbers
abbrev pub count_ops : List UnOp
count_ops = Pop ∷ Clz ∷ []
