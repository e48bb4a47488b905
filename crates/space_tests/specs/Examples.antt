-- Small programs for the worked rows, on the processor of four stages.
use Rattle.std.specs.Prelude.{[], ◌∷◌}
use Rattle.ap_image.specs.declared.image.Image.{Image}
use Rattle.ap_model.specs.Examples.{code_of}

-- JAL 7 3, ADDI 1 0 5 in its slot, a NOP that is jumped over, a NOP at the landing 3, ADD 2 1 1
abbrev pub jump_code : Image
jump_code = code_of (0x6e03 ∷ 0x2205 ∷ 0x0 ∷ 0x0 ∷ 0x1448 ∷ [])

-- ADDI 1 0 5, and ADD 2 1 1 at once
abbrev pub near_code : Image
near_code = code_of (0x2205 ∷ 0x1448 ∷ [])

-- JAL 7 5, ADDI 1 0 5 in its slot, three NOPs that are jumped over, ADD 2 1 1 at the landing 5 itself
abbrev pub undrained_code : Image
undrained_code = code_of (0x6e05 ∷ 0x2205 ∷ 0x0 ∷ 0x0 ∷ 0x0 ∷ 0x1448 ∷ [])
