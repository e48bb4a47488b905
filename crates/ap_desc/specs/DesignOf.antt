-- The design that a description's statements describe, in order. It is what the description means where no fault of names or
-- widths holds of it.
use Rattle.std.specs.Prelude.{List, map, reverse}
use Rattle.ap_bits.specs.declared.card.Card.{Card}
use Rattle.ap_desc.specs.declared.description.Numbered.{Numbered}
use Rattle.ap_desc.specs.declared.design.Design.{Design}
use Rattle.ap_desc.specs.Declarations.{declarations}
use Rattle.ap_desc.specs.Instructions.{blocks_of, instr_of}

-- the declarations, and over them the instructions in the order of the text
abbrev pub design_of : List Numbered → List Card → Design
design_of statements cards = let declared = declarations statements cards in record declared { instrs = map (instr_of cards declared) (reverse (blocks_of statements)) }
