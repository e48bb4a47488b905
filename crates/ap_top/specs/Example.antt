-- A worked example: the first rows of one small processor, computed from the definitions.
use Rattle.std.specs.Prelude.{◌≡◌, ℕ, List, [], ◌∷◌, map, codes, Some, None, false}
use Rattle.ap_bits.specs.declared.term.BinOp.TheVariants.{Add}
use Rattle.ap_bits.specs.declared.term.Term.{Bin, A, B}
use Rattle.ap_bits.specs.declared.card.Card.{Card}
use Rattle.ap_bits.specs.declared.card.Widths.TheVariants.{Any}
use Rattle.ap_bits.specs.declared.card.Latency.TheVariants.{One}
use Rattle.ap_desc.specs.declared.description.Numbered.{Numbered}
use Rattle.ap_desc.specs.declared.design.Act.TheVariants as act
use Rattle.ap_desc.specs.declared.design.Arg.TheVariants as arg
use Rattle.ap_desc.specs.declared.design.Design.{Design}
use Rattle.ap_desc.specs.declared.design.Field.{Field}
use Rattle.ap_desc.specs.declared.design.Instr.{Instr}
use Rattle.ap_desc.specs.declared.design.Micro.{Micro}
use Rattle.ap_desc.specs.declared.statement.Statement.TheVariants as s
use Rattle.ap_desc.specs.declared.statement.Word.TheVariants.{Named}
use Rattle.ap_image.specs.declared.image.Image.{Image}
use Rattle.ap_image.specs.declared.row.Row.{Row}
use Rattle.ap_top.specs.declared.form.Form.{Form}
use Rattle.ap_top.specs.Additions.{Operation}
use Rattle.ap_top.specs.Machine.{row}

-- the form with a pc of 4 bits, words and a register of 8 bits that starts at 3, and the instruction 1 that adds 250
abbrev pub example_form : Form
example_form = record { address = 4; word = 8; width = 8; start = 3; code = 1; constant = 250 }

-- a shelf with one kind, which adds
abbrev pub example_card : Card
example_card = record { name = codes "alu"; ops = record { name = codes "add"; term = Bin Add A B } ∷ []; widths = Any; latency = One }

abbrev pub example_cards : List Card
example_cards = example_card ∷ []

abbrev pub example_operation : Operation
example_operation = record { card = example_card; number = 0 }

-- a description of it
abbrev pub example_text : List ℕ
example_text = codes "stages 2\naddress 4\nword 8\ntransfer 1 0\nreg R 8 3\nunit U alu 8\nformat F op:8\ninstr NOP F op=0\nend\ninstr I F op=1\n  1 a = R\n  1 k = const 8 250\n  1 s = U.add a k\n  1 R <- s\nend\n"

-- what its lines say
abbrev pub example_statements : List Numbered
example_statements =
    record { line = 1; statement = s.Stages 2 } ∷ record { line = 2; statement = s.Address 4 } ∷ record { line = 3; statement = s.Word 8 }
    ∷ record { line = 4; statement = s.Transfer 1 0 } ∷ record { line = 5; statement = s.Reg (codes "R") 8 3 } ∷ record { line = 6; statement = s.Unit (codes "U") (codes "alu") 8 }
    ∷ record { line = 7; statement = s.Format (codes "F") (record { field = codes "op"; number = 8 } ∷ []) }
    ∷ record { line = 8; statement = s.Instr (codes "NOP") (codes "F") (record { field = codes "op"; number = 0 } ∷ []) } ∷ record { line = 9; statement = s.End }
    ∷ record { line = 10; statement = s.Instr (codes "I") (codes "F") (record { field = codes "op"; number = 1 } ∷ []) }
    ∷ record { line = 11; statement = s.ReadRegister 1 (codes "a") (codes "R") } ∷ record { line = 12; statement = s.Const 1 (codes "k") 8 250 }
    ∷ record { line = 13; statement = s.Compute 1 (codes "s") (codes "U") (codes "add") (Named (codes "a")) (Named (codes "k")) }
    ∷ record { line = 14; statement = s.WriteRegister 1 (codes "R") (Named (codes "s")) None } ∷ record { line = 15; statement = s.End } ∷ []

-- the design that it means: NOP, and the instruction that adds
abbrev pub example_fields : List Field
example_fields = record { name = codes "op"; width = 8; low = 0 } ∷ []

abbrev pub example_micros : List Micro
example_micros =
    record { line = 11; stage = 1; act = act.ReadReg 0 } ∷ record { line = 12; stage = 1; act = act.Const 8 250 }
    ∷ record { line = 13; stage = 1; act = act.Compute 0 0 (arg.Local 0) (arg.Local 1) } ∷ record { line = 14; stage = 1; act = act.WriteReg 0 (arg.Local 2) None } ∷ []

abbrev pub example_instrs : List Instr
example_instrs =
    record { name = codes "NOP"; line = 8; format = 0; fixed = Some 0 ∷ []; fixed_mask = 255; fixed_value = 0; locals = []; micros = [] }
    ∷ record { name = codes "I"; line = 10; format = 0; fixed = Some 1 ∷ []; fixed_mask = 255; fixed_value = 1; locals = 8 ∷ 8 ∷ 8 ∷ []; micros = example_micros } ∷ []

abbrev pub example_design : Design
example_design = record {
  stages = 2;
  address = 4;
  word = 8;
  branch = 1;
  slots = 0;
  transfer_line = 4;
  regs = record { name = codes "R"; width = 8; reset = 3 } ∷ [];
  files = [];
  mems = [];
  inputs = [];
  units = record { name = codes "U"; kind = 0; width = 8; latency = 1 } ∷ [];
  formats = record { name = codes "F"; line = 7; fields = example_fields } ∷ [];
  instrs = example_instrs;
}

-- the adding instruction twice
abbrev pub example_image : Image
example_image = record { code = 1 ∷ 1 ∷ []; mems = [] }

-- a row without a write, and one that writes the register
abbrev pub quiet : Row
quiet = record { stall = false; kill = false; writes = [] }

abbrev pub writing : ℕ → Row
writing value = record { stall = false; kill = false; writes = record { group = 0; index = None; value = value } ∷ [] }

-- cycle 0 fetches the first word; cycles 1 and 2 add modulo 256: 3 + 250 is 253, and 253 + 250 is 247; then nothing is written
abbrev pub ExampleRows : Type 0
ExampleRows = map (row example_operation example_form example_image (record { lines = [] })) (0 ∷ 1 ∷ 2 ∷ 3 ∷ []) ≡ quiet ∷ writing 253 ∷ writing 247 ∷ quiet ∷ []
