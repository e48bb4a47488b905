-- What a design's processor is run on: its memories and inputs.
use Rattle.std.specs.Prelude.{map}
use Rattle.ap_desc.specs.declared.design.Design.{Design}
use Rattle.ap_desc.specs.declared.design.InPort.{InPort}
use Rattle.ap_desc.specs.declared.design.Mem.{Mem}
use Rattle.ap_image.specs.Shapes.{Shape}

-- the bits of its addresses and words, its memories, and the widths of its inputs in order
abbrev pub shape_of : Design → Shape
shape_of design = record {
  code_address = design.address;
  code_width = design.word;
  mems = map (λ (m : Mem). record { name = m.name; address = m.address; width = m.width }) design.mems;
  inputs = map (λ (p : InPort). p.width) design.inputs;
}
