-- The words of a program's lines, where the landings of labels are listed.
use Rattle.std.specs.Prelude.{ℕ, ◌^◌, ◌<◌, List, [], map, slice_index}
use Rattle.ap_bits.specs.Beside.{EachBeside}
use Rattle.ap_desc.specs.declared.design.Design.{Design}
use Rattle.ap_dist.specs.Places.{lines_of_group}
use Rattle.ap_dist.specs.declared.source.Group.{Group}
use Rattle.ap_dist.specs.declared.source.Operand.{Operand}
use Rattle.ap_dist.specs.declared.source.Operand.TheVariants as operand
use Rattle.ap_dist.specs.declared.source.SourceLine.{SourceLine}
use Rattle.ap_enc.specs.Words.{IsWordOf}

-- the value of an operand; that of a label that isn't listed is 0
abbrev pub value_among : List ℕ → Operand → ℕ
value_among landings (operand.Value value) = value
value_among landings (operand.Landing group) = slice_index landings group

-- the landings are addresses
abbrev pub AreAddresses : Design → List ℕ → Type 0
AreAddresses design landings = (g : ℕ) → slice_index landings g < 2 ^ design.address

-- the word is that of the line
abbrev pub IsWordAmong : Design → List ℕ → SourceLine → ℕ → Type 0
IsWordAmong design landings line word = IsWordOf design line.instr (map (value_among landings) line.operands) word

-- it is that of the line where labels stand for 0
abbrev pub IsPlainWord : Design → SourceLine → ℕ → Type 0
IsPlainWord design line word = IsWordAmong design [] line word

-- the words of a group
abbrev pub AreWordsAmong : Design → List ℕ → Group → List ℕ → Type 0
AreWordsAmong design landings group words = EachBeside (IsWordAmong design landings) (lines_of_group group) words

abbrev pub ArePlainWords : Design → Group → List ℕ → Type 0
ArePlainWords design group words = AreWordsAmong design [] group words
