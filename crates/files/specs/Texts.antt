-- The text of a register file by itself.
use Rattle.std.specs.Prelude.{ℕ, List, [], ◌∷◌}
use Rattle.ap_desc.specs.declared.design.File.{File}
use Rattle.ap_net.specs.Modules.{ModuleText, IsNetlist}
use Rattle.ap_net.specs.Text.{Spells}
use Rattle.ap_store.specs.FileModules.{IsFile}

-- the text spells one module, top, which is a register file
pub record IsFileText (file : File) (stages : List ℕ) (text : List ℕ) : Type 0 where
  pub top : ModuleText
  pub netlist : IsNetlist (top ∷ [])
  pub whole : IsFile top file stages
  pub spells : Spells (top ∷ []) text
