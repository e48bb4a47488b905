-- What a call of the program leaves on the desk, by its status and the cards of the shelf.
use Rattle.std.specs.Prelude.{◌≡◌, ◌⊎◌, ℕ, List, Option, Some}
use Rattle.ap_bits.specs.declared.card.Card.{Card}
use Rattle.ap_desk.specs.Files.{Files, Goes, Gains, GainsFront, stdout_name}
use Rattle.ap_top.specs.declared.refusal.Refusal.{Refusal}
use Rattle.ap_top.specs.declared.refusal.Trouble.{Trouble}
use Rattle.ap_top.specs.Refusals.{refusal_line, refusal_status, trouble_line}
use Rattle.ap_top.specs.declared.command.Command.{Command}
use Rattle.ap_top.specs.Calls.{Call}
use Rattle.ap_top.specs.Commands.{IsCall, IsCommand}
use Rattle.ap_top.specs.Inputs.{IsRefusalDue, inputs_of}
use Rattle.ap_top.specs.Outputs.{FromGood, IsBegunOn, Writes, outputs_of}

-- a refusal with this status is due, its line stands on standard output, and no other file changed
pub record Refuses (call : Call) (status : ℕ) (told' : Option Files) : Type 0 where
  pub refusal : Refusal
  pub status_is : status ≡ refusal_status refusal
  pub due : IsRefusalDue call.cards call.words call.told refusal
  pub printed : Goes (Gains stdout_name (refusal_line refusal)) call.told told'

-- the words are a command, every input is good, each output holds its text, and no other file changed
abbrev pub IsDone : List Card → List (List ℕ) → Files → Files → Type 0
IsDone cards words old new = (command : Command) × IsCall command words × FromGood cards Writes (inputs_of command words) (outputs_of command words) old new

-- the words are a command and, where the desk tells, it is done
abbrev pub IsCompleted : Call → Option Files → Type 0
IsCompleted call told' = IsCommand call.words × Goes (IsDone call.cards call.words) call.told told'

-- the command is done, or a refusal is printed
abbrev pub IsAnswer : Call → ℕ → Option Files → Type 0
IsAnswer call status told' = ((status ≡ 0) × IsCompleted call told') ⊎ Refuses call status told'

-- a part of the work is done: each output is as it was, or every input is good and it holds a front of its text
abbrev pub IsBegun : List Card → List (List ℕ) → Files → Files → Type 0
IsBegun cards words old new = (command : Command) × IsCall command words × IsBegunOn cards (inputs_of command words) (outputs_of command words) old new

-- a refusal is due, and standard output got a front of its line
abbrev pub IsPrintedInPart : List Card → List (List ℕ) → Files → Files → Type 0
IsPrintedInPart cards words old new = (refusal : Refusal) × IsRefusalDue cards words (Some old) refusal × GainsFront stdout_name (refusal_line refusal) old new

-- the work so far, before the last line is printed
abbrev pub IsPartDone : List Card → List (List ℕ) → Files → Files → Type 0
IsPartDone cards words old new = (new ≡ old) ⊎ IsBegun cards words old new ⊎ IsPrintedInPart cards words old new

-- the call stopped short: first a part of the work, if any, and then a front of this line on standard output
pub record StopsShort (cards : List Card) (words : List (List ℕ)) (line : List ℕ) (old new : Files) : Type 0 where
  pub between : Files
  pub work : IsPartDone cards words old between
  pub last : GainsFront stdout_name line between new

-- the call stopped short of a trouble, whose line it tried to print
abbrev pub IsCutShort : Call → Trouble → Option Files → Type 0
IsCutShort call trouble told' = Goes (StopsShort call.cards call.words (trouble_line trouble)) call.told told'
