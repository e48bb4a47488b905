-- The commands of the program: a table of their names and of what each further word stands for, and which words are a command.
use Rattle.std.specs.Prelude.{◌≡◌, ℕ, List, [], ◌∷◌, length, codes, nat_le, Option, Some, None, option_and_then, is_some, IsTrue, if◌then◌else◌}
use Rattle.std.specs.List.{AllByRecursion as Each, zip}
use Rattle.ap_desk.specs.Files.{IsFileName}
use Rattle.ap_text.specs.Numbers.{number_value}
use Rattle.ap_top.specs.declared.command.TheConstants.{CYCLE_LIMIT}
use Rattle.ap_top.specs.declared.command.Input.TheVariants as input
use Rattle.ap_top.specs.declared.command.Output.TheVariants as output
use Rattle.ap_top.specs.declared.command.Slot.{Slot}
use Rattle.ap_top.specs.declared.command.Slot.TheVariants as slot
use Rattle.ap_top.specs.declared.command.Command.{Command}
use Rattle.ap_top.specs.declared.command.Command.TheVariants.{Asm, Gen, Sim}

-- the word that a command begins with
abbrev pub name_of : Command → List ℕ
name_of Gen = codes "gen"
name_of Asm = codes "asm"
name_of Sim = codes "sim"

-- what each word after the name stands for
abbrev pub slots_of : Command → List Slot
slots_of Gen = slot.Input input.Description ∷ slot.Output output.Verilog ∷ []
slots_of Asm = slot.Input input.Processor ∷ slot.Input input.Program ∷ slot.Output output.Image ∷ slot.Output output.Listing ∷ []
slots_of Sim = slot.Input input.Netlist ∷ slot.Input input.Image ∷ slot.Input input.Trace ∷ slot.Count ∷ slot.Output output.Rows ∷ []

-- the number of cycles that a word names, where it is within the limit
abbrev pub counted : ℕ → Option ℕ
counted count = if nat_le count CYCLE_LIMIT then Some count else None

abbrev pub count_in : List ℕ → Option ℕ
count_in word = option_and_then counted (number_value word)

-- the word may stand there: the name of a file, or a number of cycles
abbrev pub IsWordFor : Slot → List ℕ → Type 0
IsWordFor (slot.Input kind) word = IsFileName word
IsWordFor (slot.Output kind) word = IsFileName word
IsWordFor slot.Count word = IsTrue (is_some (count_in word))

-- words that stand for these may be the same: both name files that are read, or one of them names no file
abbrev pub MayShare : Slot → Slot → Type 0
MayShare slot.Count other = Unit {0}
MayShare (slot.Input kind) slot.Count = Unit {0}
MayShare (slot.Input kind) (slot.Input other) = Unit {0}
MayShare (slot.Input kind) (slot.Output other) = ⊥
MayShare (slot.Output kind) slot.Count = Unit {0}
MayShare (slot.Output kind) (slot.Input other) = ⊥
MayShare (slot.Output kind) (slot.Output other) = ⊥

-- a word, beside what it stands for
abbrev pub Operand : Type 0
Operand = Slot × List ℕ

-- the words after the name, each beside what it stands for
abbrev pub operands_of : Command → List (List ℕ) → List Operand
operands_of command words = zip (slots_of command) words

-- the word is such as its place asks for
abbrev pub IsFitting : Operand → Type 0
IsFitting operand = IsWordFor operand.0 operand.1

-- two words may stand in one command: they differ, or may be the same
abbrev pub MayStandWith : Operand → Operand → Type 0
MayStandWith operand other = operand.1 ≡ other.1 → MayShare operand.0 other.0

-- each word may stand with each later one
abbrev pub AreWordsApart : List Operand → Type 0
AreWordsApart [] = Unit {0}
AreWordsApart (operand ∷ operands) = Each (MayStandWith operand) operands × AreWordsApart operands

-- the words after a command's name are right: their number, each by itself, and no file that is written twice or also read
pub record AreOperandsOf (command : Command) (words : List (List ℕ)) : Type 0 where
  pub count : length words ≡ length (slots_of command)
  pub fitting : Each IsFitting (operands_of command words)
  pub apart : AreWordsApart (operands_of command words)

-- the words are this command
abbrev pub IsCall : Command → List (List ℕ) → Type 0
IsCall command [] = ⊥
IsCall command (name ∷ words) = (name ≡ name_of command) × AreOperandsOf command words

-- the words are a command
abbrev pub IsCommand : List (List ℕ) → Type 0
IsCommand words = (command : Command) × IsCall command words
