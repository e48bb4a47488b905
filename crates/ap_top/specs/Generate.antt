-- The command that writes a processor in Verilog: its one input and its one output.
use Rattle.std.specs.Prelude.{ℕ, List, [], ◌∷◌}
use Rattle.ap_top.specs.declared.command.Input.TheVariants.{Description}
use Rattle.ap_top.specs.declared.command.Output.TheVariants.{Verilog}
use Rattle.ap_top.specs.Inputs.{Source}
use Rattle.ap_top.specs.Outputs.{Target, without_cycles}

-- the description is read from the file of this name
abbrev pub gen_sources : List ℕ → List Source
gen_sources description = (Description, description) ∷ []

-- the processor is written to the file of this name
abbrev pub gen_targets : List ℕ → List Target
gen_targets verilog = (without_cycles Verilog, verilog) ∷ []
