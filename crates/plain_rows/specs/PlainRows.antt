-- The rows of the machine that texts mean.
use Rattle.std.specs.Prelude.{◌≡◌, ℕ, List}
use Rattle.ap_bits.specs.declared.card.Card.{Card}
use Rattle.ap_desc.specs.Clean.{FitsCards}
use Rattle.ap_desc.specs.DesignOf.{design_of}
use Rattle.ap_desc.specs.Reading.{ReadsAs}
use Rattle.ap_desc.specs.declared.description.Numbered.{Numbered}
use Rattle.ap_desc.specs.declared.design.Design.{Design}
use Rattle.ap_image.specs.ImageTexts.{image_of}
use Rattle.ap_image.specs.TraceTexts.{trace_of}
use Rattle.ap_model.specs.DesignShape.{shape_of}
use Rattle.ap_model.specs.ShownRows.{rows_of}
use Rattle.ap_text.specs.Lines.{lines_of}
use Rattle.plain_rows.specs.Lines.{lines_of_rows}

-- the text means this design, over the cards of a shelf
pub record Describes (cards : List Card) (text : List ℕ) (design : Design) : Type 0 where
  pub statements : List Numbered
  pub reads : ReadsAs text statements
  pub means : design ≡ design_of statements cards
  pub fits : FitsCards design cards

-- the text has the lines of the first rows that the machine shows of what the texts of its description, of an image and of a trace mean
pub record ArePlainRows (cards : List Card) (description image trace : List ℕ) (count : ℕ) (text : List ℕ) : Type 0 where
  pub design : Design
  pub describes : Describes cards description design
  pub labels : List (List ℕ)
  pub shown : text ≡ lines_of_rows labels (rows_of design cards (image_of (shape_of design) (lines_of image)) (trace_of (lines_of trace)) count)
