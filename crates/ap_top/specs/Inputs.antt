-- The inputs of a command: which are there, which have a fault, and which of them is reached. They are taken in the command's order.
-- Whether a description has a fault depends on the cards of the shelf.
use Rattle.std.specs.Prelude.{◌≡◌, ◌⊎◌, ℕ, List, [], ◌∷◌, ◌++◌, drop, Option, None, Some, IfSome, IsSomeAnd}
use Rattle.std.specs.FinMap.{get}
use Rattle.ap_bits.specs.declared.card.Card.{Card}
use Rattle.ap_desc.specs.Meaning.{IsAccepted, IsLeastFault}
use Rattle.ap_desk.specs.Files.{Files, content}
use Rattle.ap_desk.specs.declared.counts.Counts.{Counts}
use Rattle.ap_desk.specs.Causes.{Rose}
use Rattle.ap_image.specs.ImageTexts.{image_fault}
use Rattle.ap_image.specs.TraceTexts.{trace_fault}
use Rattle.ap_sim.specs.Runnable.{CanRun, HasRunFault}
use Rattle.ap_top.specs.declared.command.Input.{Input}
use Rattle.ap_top.specs.declared.command.Input.TheVariants as input
use Rattle.ap_top.specs.declared.command.Slot.TheVariants as slot
use Rattle.ap_top.specs.declared.command.Command.{Command}
use Rattle.ap_top.specs.declared.form.Form.{Form}
use Rattle.ap_top.specs.declared.form.Judged.TheVariants as judged
use Rattle.ap_top.specs.declared.refusal.Refusal.{Refusal}
use Rattle.ap_top.specs.declared.refusal.Refusal.TheVariants as refusal
use Rattle.ap_top.specs.Calls.{Call}
use Rattle.ap_top.specs.Commands.{Operand, IsCall, IsCommand, operands_of}
use Rattle.ap_top.specs.Form.{IsFormDescription, HasJudgedFault}
use Rattle.ap_top.specs.Programs.{HasLeastFaultAfter, IsFaultlessAfter}
use Rattle.ap_top.specs.RunOn.{HasLeastFaultRunOn, IsFaultlessRunOn}

-- an input: what its text holds, and the file's name
abbrev pub Source : Type 0
Source = Input × List ℕ

abbrev pub inputs_in : List Operand → List Source
inputs_in [] = []
inputs_in ((slot.Input kind, name) ∷ operands) = (kind, name) ∷ inputs_in operands
inputs_in ((slot.Output kind, name) ∷ operands) = inputs_in operands
inputs_in ((slot.Count, word) ∷ operands) = inputs_in operands

-- the inputs that the words of a command name, in order
abbrev pub inputs_of : Command → List (List ℕ) → List Source
inputs_of command words = inputs_in (operands_of command (drop 1 words))

-- the text of an input has no fault; the texts of the inputs before it are given
abbrev pub IsFaultless : List Card → List (List ℕ) → Input → List ℕ → Type 0
IsFaultless cards before input.Description text = (form : Form) × IsFormDescription cards text form
IsFaultless cards before input.Processor text = IsAccepted text cards
IsFaultless cards before input.Program text = IsFaultlessAfter cards before text
IsFaultless cards before input.Netlist text = CanRun text
IsFaultless cards before input.Image text = IsFaultlessRunOn image_fault before text
IsFaultless cards before input.Trace text = IsFaultlessRunOn trace_fault before text

-- the text of an input is refused so; the texts of the inputs before it are given
abbrev pub IsRefused : List Card → List (List ℕ) → Input → List ℕ → Refusal → Type 0
IsRefused cards before input.Description text (refusal.Description judged) = HasJudgedFault cards text judged
IsRefused cards before input.Processor text (refusal.Description (judged.Refused least)) = IsLeastFault text cards least
IsRefused cards before input.Program text (refusal.Program line kind) = HasLeastFaultAfter cards before text line kind
IsRefused cards before input.Netlist text (refusal.Netlist line kind) = HasRunFault text kind line
IsRefused cards before input.Image text (refusal.Image line kind) = HasLeastFaultRunOn image_fault before text line kind
IsRefused cards before input.Trace text (refusal.Trace line kind) = HasLeastFaultRunOn trace_fault before text line kind
IsRefused cards before kind text refusal = ⊥

-- the file is there
abbrev pub IsThere : Files → List ℕ → Type 0
IsThere files name = get files name ≡ Some (content files name)

-- the input is there, and its text has no fault
pub record IsGoodInput (cards : List Card) (files : Files) (before : List (List ℕ)) (source : Source) : Type 0 where
  pub there : IsThere files source.1
  pub faultless : IsFaultless cards before source.0 (content files source.1)

-- the texts before the next input
abbrev pub with_text : Files → List (List ℕ) → Source → List (List ℕ)
with_text files before source = before ++ content files source.1 ∷ []

-- every input is there, and none has a fault
abbrev pub AreGood : List Card → Files → List (List ℕ) → List Source → Type 0
AreGood cards files before [] = Unit {0}
AreGood cards files before (source ∷ sources) = IsGoodInput cards files before source × AreGood cards files (with_text files before source) sources

-- some input isn't there, and each before the first such one is there and has no fault
abbrev pub LacksOne : List Card → Files → List (List ℕ) → List Source → Type 0
LacksOne cards files before [] = ⊥
LacksOne cards files before (source ∷ sources) = (get files source.1 ≡ None) ⊎ (IsGoodInput cards files before source × LacksOne cards files (with_text files before source) sources)

-- some input is reached and is refused so: each before it is there and has no fault
abbrev pub RefusesOne : List Card → Files → List (List ℕ) → List Source → Refusal → Type 0
RefusesOne cards files before [] refusal = ⊥
RefusesOne cards files before (source ∷ sources) refusal = (IsThere files source.1 × IsRefused cards before source.0 (content files source.1) refusal) ⊎ (IsGoodInput cards files before source × RefusesOne cards files (with_text files before source) sources refusal)

-- an input of these is refused so, where the desk tells; without words there is no other refusal
abbrev pub IsDueOf : List Card → List Source → Option Files → Refusal → Type 0
IsDueOf cards sources told refusal.Usage = ⊥
IsDueOf cards sources told refusal = IfSome told (λ files. RefusesOne cards files [] sources refusal)

-- the refusal is due: the words are no command; or they are one and, where the desk tells, a reached input is refused so
abbrev pub IsRefusalDue : List Card → List (List ℕ) → Option Files → Refusal → Type 0
IsRefusalDue cards words told refusal.Usage = IsCommand words → ⊥
IsRefusalDue cards words told refusal = (command : Command) × IsCall command words × IsDueOf cards (inputs_of command words) told refusal

-- the same of a call, on a desk that tells its files
abbrev pub AsksRefusal : Call → Refusal → Type 0
AsksRefusal call refusal = IsSomeAnd call.told (λ files. IsRefusalDue call.cards call.words (Some files) refusal)

-- the words are a command, every input of it is there, and none has a fault
abbrev pub AreInputsGood : List Card → List (List ℕ) → Files → Type 0
AreInputsGood cards words files = (command : Command) × IsCall command words × AreGood cards files [] (inputs_of command words)

-- the same of a call, on a desk that tells its files
abbrev pub HasGoodInputs : Call → Type 0
HasGoodInputs call = IsSomeAnd call.told (AreInputsGood call.cards call.words)

-- a call of the desk failed; or it missed a file and, where it tells, an input isn't there and each before it is there and has no fault
abbrev pub FailsOn : List Card → List Source → Option Files → Counts → Counts → Type 0
FailsOn cards sources told before after = Rose before.faults after.faults
    ⊎ (Rose before.absent after.absent × IfSome told (λ files. LacksOne cards files [] sources))

-- the desk failed in the call, by its counts before and after
abbrev pub HasFailed : Call → Counts → Counts → Type 0
HasFailed call before after = Rose before.faults after.faults
    ⊎ ((command : Command) × IsCall command call.words × FailsOn call.cards (inputs_of command call.words) call.told before after)
