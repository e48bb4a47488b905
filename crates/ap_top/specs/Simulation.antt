-- The command that runs a netlist: its three inputs and its one output, and what reading them says.
use Rattle.std.specs.Prelude.{◌≡◌, ◌≢◌, ℕ, List, [], ◌∷◌, Option, IfSome}
use Rattle.ap_desk.specs.Files.{Files, content}
use Rattle.ap_flat.specs.Flats.{FlatParts}
use Rattle.ap_image.specs.ImageTexts.{image_fault, image_of}
use Rattle.ap_image.specs.Shapes.{Shape}
use Rattle.ap_image.specs.TextFaults.{HasTextFault, IsFaultlessText, IsLeastOf}
use Rattle.ap_image.specs.TraceTexts.{trace_fault, trace_of}
use Rattle.ap_image.specs.declared.image.Image.{Image}
use Rattle.ap_image.specs.declared.trace.Trace.{Trace}
use Rattle.ap_sim.specs.Runnable.{HasRunFault, IsFlatOf}
use Rattle.ap_text.specs.Lines.{lines_of}
use Rattle.ap_top.specs.declared.command.Input.TheVariants as input
use Rattle.ap_top.specs.declared.command.Output.TheVariants as output
use Rattle.ap_top.specs.declared.refusal.Refusal.{Refusal}
use Rattle.ap_top.specs.declared.refusal.Refusal.TheVariants as refusal
use Rattle.ap_top.specs.declared.refusal.Stop.{Stop}
use Rattle.ap_top.specs.declared.refusal.Stop.TheVariants.{Refused, Broken}
use Rattle.ap_top.specs.declared.refusal.Trouble.TheVariants.{Memory}
use Rattle.ap_top.specs.Inputs.{IsThere, Source}
use Rattle.ap_top.specs.Outputs.{Target}

-- the netlist, the image and the trace are read from the files of these names
abbrev pub sim_sources : List ℕ → List ℕ → List ℕ → List Source
sim_sources netlist image trace = (input.Netlist, netlist) ∷ (input.Image, image) ∷ (input.Trace, trace) ∷ []

-- the rows of so many cycles are written to the file of this name
abbrev pub sim_targets : ℕ → List ℕ → List Target
sim_targets cycles rows = (record { kind = output.Rows; cycles = cycles }, rows) ∷ []

-- where the desk tells, the file is there, and this is the netlist that its text spells, opened, which can be run
abbrev pub IsFlatAt : List ℕ → Option Files → FlatParts → Type 0
IsFlatAt name told flat = IfSome told (λ files. IsThere files name × IsFlatOf (content files name) flat)

-- the text has no fault, and says this image
abbrev pub IsImageIn : Shape → List ℕ → Image → Type 0
IsImageIn shape text image = IsFaultlessText (image_fault shape) text × (image ≡ image_of shape (lines_of text))

abbrev pub IsTraceIn : Shape → List ℕ → Trace → Type 0
IsTraceIn shape text trace = IsFaultlessText (trace_fault shape) text × (trace ≡ trace_of (lines_of text))

-- where the desk tells, the file is there, its text has no fault, and says this image
abbrev pub IsImageAt : Shape → List ℕ → Option Files → Image → Type 0
IsImageAt shape name told image = IfSome told (λ files. IsThere files name × IsImageIn shape (content files name) image)

-- the same of a trace
abbrev pub IsTraceAt : Shape → List ℕ → Option Files → Trace → Type 0
IsTraceAt shape name told trace = IfSome told (λ files. IsThere files name × IsTraceIn shape (content files name) trace)

-- a netlist is refused so
abbrev pub IsNetlistRefused : List ℕ → Refusal → Type 0
IsNetlistRefused text (refusal.Netlist line kind) = HasRunFault text kind line
IsNetlistRefused text other = ⊥

-- an image is
abbrev pub IsImageRefused : Shape → List ℕ → Refusal → Type 0
IsImageRefused shape text (refusal.Image line kind) = IsLeastOf (HasTextFault (image_fault shape) text) kind line
IsImageRefused shape text other = ⊥

-- and a trace is
abbrev pub IsTraceRefused : Shape → List ℕ → Refusal → Type 0
IsTraceRefused shape text (refusal.Trace line kind) = IsLeastOf (HasTextFault (trace_fault shape) text) kind line
IsTraceRefused shape text other = ⊥

-- the text stops the work: it is refused so, or memory ran out
abbrev pub StopsIn : (List ℕ → Refusal → Type 0) → List ℕ → Stop → Type 0
StopsIn refused text (Refused why) = (why ≢ refusal.Usage) × refused text why
StopsIn refused text (Broken trouble) = trouble ≡ Memory
