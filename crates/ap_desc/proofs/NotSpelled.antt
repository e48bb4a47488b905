-- Lines that say nothing.
use Rattle.std.proofs.Common.{◌≡◌, true, false, Some, None, sym, ◌∙◌}
use Rattle.ap_text.specs.Lines.{TextLine}
use Rattle.ap_desc.specs.Faults.{SaysNothing}
use Rattle.ap_desc.specs.Forms.{statement_in}
use Rattle.ap_desc.proofs.FormsComplete.{complete}

-- tokens that give no statement
pub says_none : (line : TextLine) → statement_in line.tokens ≡ None → SaysNothing line
says_none line none statement h = let e : Some statement ≡ None = sym (complete statement line.tokens h.spells) ∙ none in cc

-- a line with a bad byte
pub says_unclean : (line : TextLine) → line.clean ≡ false → SaysNothing line
says_unclean line bad statement h = let wrong : true ≡ false = sym h.clean ∙ bad in cc
