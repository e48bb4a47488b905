-- Small programs for the worked rows, on the processor of four stages.
use Rattle.std.specs.Prelude.{ℕ, List, [], ◌∷◌, true, false}
use Rattle.ap_dist.specs.declared.source.Group.{Group}
use Rattle.ap_dist.specs.declared.source.Operand.{Operand}
use Rattle.ap_dist.specs.declared.source.Operand.TheVariants as operand
use Rattle.ap_dist.specs.declared.source.Source.{Source}
use Rattle.ap_dist.specs.declared.source.SourceLine.{SourceLine}

abbrev pub line_of : ℕ → List Operand → SourceLine
line_of instr operands = record { instr = instr; operands = operands }

-- a group of one line, without a label
abbrev pub single : SourceLine → Group
single line = record { labelled = false; first = line; in_slots = [] }

abbrev pub value : ℕ → Operand
value = operand.Value

-- ADDI 1 0 5 and ADD 2 1 1
abbrev pub two_additions : Source
two_additions = record {
  groups = single (line_of 4 (value 1 ∷ value 0 ∷ value 5 ∷ [])) ∷ single (line_of 1 (value 2 ∷ value 1 ∷ value 1 ∷ [])) ∷ [];
  labelled_end = false;
  mems = [] ∷ [];
}

-- JAL 7 L with ADDI 1 0 1 in its slot, and ADD 2 3 3 at L, which stands right behind
abbrev pub jump_over_nothing : Source
jump_over_nothing = record {
  groups = record { labelled = false; first = line_of 8 (value 7 ∷ operand.Landing 1 ∷ []); in_slots = line_of 4 (value 1 ∷ value 0 ∷ value 1 ∷ []) ∷ [] }
      ∷ record { labelled = true; first = line_of 1 (value 2 ∷ value 3 ∷ value 3 ∷ []); in_slots = [] } ∷ [];
  labelled_end = false;
  mems = [] ∷ [];
}
