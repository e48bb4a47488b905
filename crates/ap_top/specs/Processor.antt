-- What a netlist must do to be the processor of a first form: for every image, every trace and every number of cycles.
use Rattle.std.specs.Prelude.{◌≡◌, ℕ, ◌<◌, ◌≤◌, List, [], ◌∷◌, codes, Option, Some, None}
use Rattle.ap_image.specs.declared.image.Image.{Image}
use Rattle.ap_image.specs.declared.trace.Trace.{Trace}
use Rattle.ap_image.specs.FitsShape.{ImageFitsShape, TraceFitsShape}
use Rattle.ap_net.specs.Outside.{Outside, ports_of, shape_of}
use Rattle.ap_net.specs.Modules.{ModuleText}
use Rattle.ap_net.specs.Flat.{Flat, opened, top_ports, register_named}
use Rattle.ap_net.specs.Runs.{NetState, Runs}
use Rattle.ap_net.specs.Rows.{shown_row}
use Rattle.ap_top.specs.declared.form.Form.{Form}
use Rattle.ap_top.specs.Additions.{Operation}
use Rattle.ap_top.specs.Machine.{State, over, row}

-- the outside of the form's processor: no input ports, no data memories, and the one register as its write group
abbrev pub outside_of : Form → Outside
outside_of form = record { address = form.address; word = form.word; inputs = []; mems = []; groups = record { storage = codes "R"; port = None; width = form.width } ∷ [] }

-- the valid bit and the word register hold the flight; the word is free where there is none
abbrev pub HoldsFlight : ℕ → ℕ → Option ℕ → Type 0
HoldsFlight valid word None = valid ≡ 0
HoldsFlight valid word (Some flight) = (valid ≡ 1) × (word ≡ flight)

-- the netlist's registers hold the machine's state
pub record Keeps (f : Flat) (state : NetState) (machine : State) : Type 0 where
  pub pc : register_named f state.registers (codes "pc") ≡ machine.pc
  pub register : register_named f state.registers (codes "r_R") ≡ machine.register
  pub stage : HoldsFlight (register_named f state.registers (codes "v_1")) (register_named f state.registers (codes "x_1")) machine.stage

-- A run exists, and every run shows the machine's rows and keeps its states.
pub record IsProcessor (operation : Operation) (form : Form) (f : Flat) : Type 0 where
  pub exists : (image : Image) (trace : Trace) (c : ℕ) → ImageFitsShape image (shape_of (outside_of form)) → TraceFitsShape trace (shape_of (outside_of form))
      → (states : ℕ → NetState) × (valuations : ℕ → List ℕ) × Runs (outside_of form) f image trace c states valuations
  pub rows : (image : Image) (trace : Trace) (c : ℕ) (states : ℕ → NetState) (valuations : ℕ → List ℕ) → Runs (outside_of form) f image trace c states valuations
      → (j : ℕ) → j < c → shown_row (outside_of form) f (valuations j) ≡ row operation form image trace j
  pub keeps : (image : Image) (trace : Trace) (c : ℕ) (states : ℕ → NetState) (valuations : ℕ → List ℕ) → Runs (outside_of form) f image trace c states valuations
      → (j : ℕ) → j ≤ c → Keeps f (states j) (over operation form image trace j)

-- the modules are the form's processor with a unit that does the operation: the ports of the top module are those due, and the
-- equations do what the machine does
pub record IsDesign (operation : Operation) (form : Form) (modules : List ModuleText) : Type 0 where
  pub ports : top_ports modules ≡ ports_of (outside_of form)
  pub behaves : IsProcessor operation form (opened modules)
