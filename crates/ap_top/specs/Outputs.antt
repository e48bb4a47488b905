-- The outputs of a command: the text that each is to hold by the cards of the shelf, and what was written of them.
use Rattle.std.specs.Prelude.{◌≡◌, ◌⊎◌, ℕ, List, [], ◌∷◌, drop, map, take, unwrap_or}
use Rattle.std.specs.FinMap.{insert}
use Rattle.ap_asm.specs.declared.assembling.Assembled.{Assembled}
use Rattle.ap_bits.specs.declared.card.Card.{Card}
use Rattle.ap_desc.specs.declared.design.Design.{Design}
use Rattle.ap_desk.specs.Files.{Files, content}
use Rattle.ap_image.specs.ImageTexts.{image_text}
use Rattle.ap_model.specs.DesignShape.{shape_of}
use Rattle.ap_sim.specs.Rows.{AreRowsOf}
use Rattle.ap_top.specs.declared.command.Output.{Output}
use Rattle.ap_top.specs.declared.command.Output.TheVariants.{Image, Listing, Rows, Verilog}
use Rattle.ap_top.specs.declared.command.Slot.TheVariants as slot
use Rattle.ap_top.specs.declared.command.Command.{Command}
use Rattle.ap_top.specs.declared.form.Form.{Form}
use Rattle.ap_top.specs.Additions.{Operation, IsAddition}
use Rattle.ap_top.specs.Commands.{Operand, count_in, operands_of}
use Rattle.ap_top.specs.Form.{IsFormDescription}
use Rattle.ap_top.specs.DesignText.{IsDesignText}
use Rattle.ap_top.specs.Inputs.{Source, AreGood}
use Rattle.ap_top.specs.Programs.{IsAssembledFor}

-- what the text of an output is to hold, and of rows how many
pub record Due : Type 0 where
  pub kind : Output
  pub cycles : ℕ

-- an output: what its text is to hold, and the file's name
abbrev pub Target : Type 0
Target = Due × List ℕ

-- the outputs among some words, after a number of cycles
abbrev pub outputs_in : ℕ → List Operand → List Target
outputs_in cycles [] = []
outputs_in cycles ((slot.Input kind, name) ∷ operands) = outputs_in cycles operands
outputs_in cycles ((slot.Count, word) ∷ operands) = outputs_in (unwrap_or (count_in word) 0) operands
outputs_in cycles ((slot.Output kind, name) ∷ operands) = (record { kind = kind; cycles = cycles }, name) ∷ outputs_in cycles operands

-- an output for which no number of cycles is given
abbrev pub without_cycles : Output → Due
without_cycles kind = record { kind = kind; cycles = 0 }

-- the outputs that the words of a command name, in order
abbrev pub outputs_of : Command → List (List ℕ) → List Target
outputs_of command words = outputs_in 0 (operands_of command (drop 1 words))

-- the text is one that the output may hold, by the texts of the inputs
abbrev pub IsTextFor : List Card → Output → ℕ → List (List ℕ) → List ℕ → Type 0
IsTextFor cards Image cycles (description ∷ program ∷ others) text = (design : Design) × (made : Assembled) × IsAssembledFor cards description program design made × (text ≡ image_text made.image (shape_of design))
IsTextFor cards Listing cycles (description ∷ program ∷ others) text = (design : Design) × (made : Assembled) × IsAssembledFor cards description program design made × (text ≡ made.listing)
IsTextFor cards Verilog cycles (description ∷ others) text = (form : Form) × IsFormDescription cards description form
    × (operation : Operation) × IsAddition cards form.width operation × IsDesignText operation form text
IsTextFor cards Rows cycles (netlist ∷ image ∷ trace ∷ others) text = AreRowsOf netlist image trace cycles text
IsTextFor cards output cycles texts text = ⊥

abbrev pub IsOutputText : List Card → Due → List (List ℕ) → List ℕ → Type 0
IsOutputText cards due texts text = IsTextFor cards due.kind due.cycles texts text

abbrev pub texts_of : Files → List Source → List (List ℕ)
texts_of files sources = map (λ (source : Source). content files source.1) sources

-- each output holds its text, and no other file changed
abbrev pub Writes : List Card → List (List ℕ) → List Target → Files → Files → Type 0
Writes cards texts [] old new = new ≡ old
Writes cards texts (target ∷ targets) old new = (text : List ℕ) × IsOutputText cards target.0 texts text × Writes cards texts targets (insert old target.1 text) new

-- each output is as it was or holds a front of its text, and no other file changed
abbrev pub WritesFronts : List Card → List (List ℕ) → List Target → Files → Files → Type 0
WritesFronts cards texts [] old new = new ≡ old
WritesFronts cards texts (target ∷ targets) old new = WritesFronts cards texts targets old new ⊎ ((text : List ℕ) × (n : ℕ) × IsOutputText cards target.0 texts text × WritesFronts cards texts targets (insert old target.1 (take n text)) new)

-- this is done to the outputs by the texts of inputs that are all there and without fault
abbrev pub FromGood : List Card → (List Card → List (List ℕ) → List Target → Files → Files → Type 0) → List Source → List Target → Files → Files → Type 0
FromGood cards step sources targets old new = AreGood cards old [] sources × step cards (texts_of old sources) targets old new

-- nothing was done, or each output is as it was or holds a front of its text
abbrev pub IsBegunOn : List Card → List Source → List Target → Files → Files → Type 0
IsBegunOn cards sources targets old new = (new ≡ old) ⊎ FromGood cards WritesFronts sources targets old new
