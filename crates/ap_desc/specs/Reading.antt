-- Which statements a text says.
use Rattle.std.specs.Prelude.{◌≡◌, ℕ, IsTrue, List}
use Rattle.ap_text.specs.Lines.{TextLine, lines_of}
use Rattle.ap_desc.specs.declared.description.Numbered.{Numbered}
use Rattle.ap_desc.specs.declared.statement.Statement.{Statement}
use Rattle.ap_bits.specs.Beside.{EachBeside}
use Rattle.ap_desc.specs.Spelling.{Spells}

-- the line isn't bad, and its tokens spell the statement
pub record SpellsLine (statement : Statement) (line : TextLine) : Type 0 where
  pub clean : IsTrue line.clean
  pub spells : Spells statement line.tokens

-- the statement is spelled by this line, and has its number
pub record IsAt (numbered : Numbered) (line : TextLine) : Type 0 where
  pub number : numbered.line ≡ line.number
  pub spells : SpellsLine numbered.statement line

-- the lines of the text that have tokens spell the statements, one by one
pub record ReadsAs (text : List ℕ) (statements : List Numbered) : Type 0 where
  pub lines : EachBeside IsAt statements (lines_of text)
