-- The command that assembles a program: its two inputs and its two outputs, what reading them says, and what is left.
use Rattle.std.specs.Prelude.{◌≡◌, ◌≢◌, ◌⊎◌, ℕ, List, [], ◌∷◌, Option, None, IfSome}
use Rattle.std.specs.FinMap.{get, insert}
use Rattle.ap_asm.specs.AsmFaults.{HasAsmFault, IsFaultlessProgram}
use Rattle.ap_asm.specs.Assembled.{IsAssembled}
use Rattle.ap_asm.specs.declared.assembling.Assembled.{Assembled}
use Rattle.ap_bits.specs.declared.card.Card.{Card}
use Rattle.ap_desc.specs.declared.design.Design.{Design}
use Rattle.ap_desk.specs.Causes.{Rose}
use Rattle.ap_desk.specs.Files.{Becomes, BecomesFrontOrStays, Files, content}
use Rattle.ap_desk.specs.declared.counts.Counts.{Counts}
use Rattle.ap_program.specs.AsmKinds.{IsLeastOf}
use Rattle.ap_program.specs.Sources.{source_of}
use Rattle.ap_program.specs.Statements.{program_of}
use Rattle.ap_top.specs.declared.command.Input.TheVariants as input
use Rattle.ap_top.specs.declared.command.Output.TheVariants as output
use Rattle.ap_top.specs.declared.refusal.Refusal.{Refusal}
use Rattle.ap_top.specs.declared.refusal.Refusal.TheVariants.{Program, Usage}
use Rattle.ap_top.specs.declared.refusal.Stop.{Stop}
use Rattle.ap_top.specs.declared.refusal.Stop.TheVariants.{Refused, Broken}
use Rattle.ap_top.specs.Inputs.{IsThere, Source}
use Rattle.ap_top.specs.Outputs.{Target, without_cycles}
use Rattle.ap_top.specs.Programs.{IsDesignOf}

-- the description and the program are read from the files of these names
abbrev pub asm_sources : List ℕ → List ℕ → List Source
asm_sources description program = (input.Processor, description) ∷ (input.Program, program) ∷ []

-- the image and the listing are written to the files of these names
abbrev pub asm_targets : List ℕ → List ℕ → List Target
asm_targets image listing = (without_cycles output.Image, image) ∷ (without_cycles output.Listing, listing) ∷ []

-- where the desk tells, the file is there, and its description means the design
abbrev pub IsDesignAt : List Card → List ℕ → Option Files → Design → Type 0
IsDesignAt cards name told design = IfSome told (λ files. IsThere files name × IsDesignOf cards (content files name) design)

-- where the desk tells, the file is there, its program has no fault, and this is the program at its places
abbrev pub IsProgramAt : Design → List ℕ → Option Files → Assembled → Type 0
IsProgramAt design name told made =
    IfSome told (λ files. IsThere files name × IsFaultlessProgram design (content files name) × IsAssembled design (source_of design (program_of (content files name))) made)

-- the program is refused so
abbrev pub IsProgramRefused : Design → List ℕ → Refusal → Type 0
IsProgramRefused design text (Program line kind) = IsLeastOf (HasAsmFault design text) kind line
IsProgramRefused design text refusal = ⊥

-- reading an input stopped: where it was refused and the desk tells, the file is there, and its text is refused so
abbrev pub StopsReading : (List ℕ → Refusal → Type 0) → List ℕ → Option Files → Stop → Type 0
StopsReading refused name told (Refused refusal) = (refusal ≢ Usage) × IfSome told (λ files. IsThere files name × refused (content files name) refusal)
StopsReading refused name told (Broken trouble) = Unit {0}

-- a call of the desk failed; or it missed the file and, where it tells, the file isn't there
abbrev pub FailsAt : List ℕ → Option Files → Counts → Counts → Type 0
FailsAt name told before after = Rose before.faults after.faults ⊎ (Rose before.absent after.absent × IfSome told (λ files. get files name ≡ None))

-- the two files hold these texts
abbrev pub BecomeBoth : List ℕ → List ℕ → List ℕ → List ℕ → Files → Files → Type 0
BecomeBoth image text listing lines old new = Becomes listing lines (insert old image text) new

-- the first file holds a front of its text, or nothing was done; or it holds its text, and the second a front of its own, if anything
abbrev pub BeginBoth : List ℕ → List ℕ → List ℕ → List ℕ → Files → Files → Type 0
BeginBoth image text listing lines old new = BecomesFrontOrStays image text old new ⊎ BecomesFrontOrStays listing lines (insert old image text) new
