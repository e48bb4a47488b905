-- What is answered and printed where a command isn't done.
use Rattle.std.specs.Prelude.{◌≡◌, ◌⊎◌, ℕ, List, [], ◌∷◌, ◌++◌, codes}
use Rattle.std.specs.Fmt.{decimal}
use Rattle.ap_desc.specs.FaultTable.{code_of}
use Rattle.ap_desk.specs.declared.desk.DeskFault.{DeskFault}
use Rattle.ap_desk.specs.declared.desk.DeskFault.TheVariants.{Failed, Missing, NoMemory}
use Rattle.ap_image.specs.TextFaults as texts
use Rattle.ap_image.specs.declared.fault.TextFault.{TextFault}
use Rattle.ap_image.specs.declared.fault.TextFault.TheVariants as told
use Rattle.ap_program.specs.AsmKinds as kinds
use Rattle.ap_program.specs.declared.fault.AsmFault.{AsmFault}
use Rattle.ap_program.specs.declared.fault.AsmFault.TheVariants as assembling
use Rattle.ap_sim.specs.Kinds as runs
use Rattle.ap_sim.specs.declared.fault.RunFault.{RunFault}
use Rattle.ap_sim.specs.declared.fault.RunFault.TheVariants as running
use Rattle.ap_top.specs.declared.form.Judged.{Judged}
use Rattle.ap_top.specs.declared.form.Judged.TheVariants as judged
use Rattle.ap_top.specs.declared.form.ReadFault.{ReadFault}
use Rattle.ap_top.specs.declared.form.ReadFault.TheVariants as reading
use Rattle.ap_top.specs.declared.refusal.Stop.{Stop}
use Rattle.ap_top.specs.declared.refusal.Stop.TheVariants.{Refused, Broken}
use Rattle.ap_top.specs.declared.refusal.Refusal.{Refusal}
use Rattle.ap_top.specs.declared.refusal.Refusal.TheVariants.{Usage, Description, Program, Netlist, Image, Trace}
use Rattle.ap_top.specs.declared.refusal.Trouble.{Trouble}
use Rattle.ap_top.specs.declared.refusal.Trouble.TheVariants.{Desk, Memory}

-- the line and kind of a description's fault
abbrev pub fault_text : Judged → List ℕ
fault_text (judged.Refused refusal) = codes "line " ++ decimal refusal.line ++ codes ": " ++ code_of refusal.kind
fault_text (judged.NotBuilt line) = codes "line " ++ decimal line ++ codes ": F0 NotBuilt"

abbrev pub refusal_text : Refusal → List ℕ
refusal_text Usage = codes "usage"
refusal_text (Description judged) = codes "description: " ++ fault_text judged
refusal_text (Program line kind) = codes "program: line " ++ decimal line ++ codes ": " ++ kinds.code_of kind
refusal_text (Netlist line kind) = codes "netlist: line " ++ decimal line ++ codes ": " ++ runs.code_of kind
refusal_text (Image line kind) = codes "image: line " ++ decimal line ++ codes ": " ++ texts.code_of kind
refusal_text (Trace line kind) = codes "trace: line " ++ decimal line ++ codes ": " ++ texts.code_of kind

abbrev pub line_feed : List ℕ
line_feed = 10 ∷ []

-- the line that is printed for a refusal
abbrev pub refusal_line : Refusal → List ℕ
refusal_line refusal = refusal_text refusal ++ line_feed

-- the status of a refusal
abbrev pub refusal_status : Refusal → ℕ
refusal_status Usage = 1
refusal_status (Description judged) = 2
refusal_status (Program line kind) = 3
refusal_status (Netlist line kind) = 4
refusal_status (Image line kind) = 5
refusal_status (Trace line kind) = 5

-- the line that is printed for a trouble
abbrev pub trouble_line : Trouble → List ℕ
trouble_line Desk = codes "desk fault\n"
trouble_line Memory = codes "want of memory\n"

-- the status of a trouble
abbrev pub trouble_status : Trouble → ℕ
trouble_status Desk = 6
trouble_status Memory = 7

-- the trouble that a fault of the desk makes
abbrev pub trouble_of : DeskFault → Trouble
trouble_of Failed = Desk
trouble_of Missing = Desk
trouble_of NoMemory = Memory

-- how a fault of reading the description ends the work
abbrev pub stop_of : ReadFault → Stop
stop_of (reading.Refused judged) = Refused (Description judged)
stop_of reading.NoMemory = Broken Memory

-- how a fault of assembling a program does
abbrev pub stop_of_program : AsmFault → Stop
stop_of_program (assembling.At line kind) = Refused (Program line kind)
stop_of_program assembling.NoMemory = Broken Memory

-- how a fault of a netlist does
abbrev pub stop_of_netlist : RunFault → Stop
stop_of_netlist (running.At line kind) = Refused (Netlist line kind)
stop_of_netlist running.NoMemory = Broken Memory

-- how a fault of an image or of a trace does
abbrev pub stop_of_image : TextFault → Stop
stop_of_image (told.At line kind) = Refused (Image line kind)
stop_of_image told.NoMemory = Broken Memory

abbrev pub stop_of_trace : TextFault → Stop
stop_of_trace (told.At line kind) = Refused (Trace line kind)
stop_of_trace told.NoMemory = Broken Memory

-- a number that the program answers
abbrev pub IsRefusalStatus : ℕ → Type 0
IsRefusalStatus status = (refusal : Refusal) × (status ≡ refusal_status refusal)

abbrev pub IsTroubleStatus : ℕ → Type 0
IsTroubleStatus status = (trouble : Trouble) × (status ≡ trouble_status trouble)

abbrev pub IsStatus : ℕ → Type 0
IsStatus status = (status ≡ 0) ⊎ (IsRefusalStatus status ⊎ IsTroubleStatus status)

-- the status is this one, or memory ran out
abbrev pub IsOrMemory : ℕ → ℕ → Type 0
IsOrMemory due status = (status ≡ due) ⊎ (status ≡ trouble_status Memory)
