-- What the netlist of a text is run on: the texts of an image and of a trace, judged by the shape for which its ports ask.
use Rattle.std.specs.Prelude.{ℕ, List}
use Rattle.ap_image.specs.Shapes.{Shape}
use Rattle.ap_image.specs.TextFaults.{HasTextFault, IsFaultlessText, IsLeastOf, Judge}
use Rattle.ap_image.specs.declared.fault.TextKind.{TextKind}
use Rattle.ap_net.specs.Modules.{ModuleText}
use Rattle.ap_net.specs.Outside.{Outside, shape_of}
use Rattle.ap_sim.specs.Runnable.{IsRunnable}

-- the netlist of the first text can be run, and the other text, which is judged by its shape, has no fault
pub record IsFaultlessFor (judge : Shape → Judge) (netlist text : List ℕ) : Type 0 where
  pub net : List ModuleText
  pub outside : Outside
  pub runs : IsRunnable netlist net outside
  pub faultless : IsFaultlessText (judge (shape_of outside)) text

-- the same, and this is the least fault of the other text
pub record IsLeastFor (judge : Shape → Judge) (netlist text : List ℕ) (kind : TextKind) (line : ℕ) : Type 0 where
  pub net : List ModuleText
  pub outside : Outside
  pub runs : IsRunnable netlist net outside
  pub least : IsLeastOf (HasTextFault (judge (shape_of outside)) text) kind line
