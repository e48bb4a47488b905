-- The parts of a line: bytes, and numbers in decimal digits.
use Rattle.std.specs.Prelude.{ℕ, List}
use Rattle.std.specs.Fmt.{decimal}
use Rattle.ap_vw.specs.declared.piece.Piece.{Piece}
use Rattle.ap_vw.specs.declared.piece.Piece.TheVariants as piece

-- the bytes of a part
abbrev pub piece_text : Piece → List ℕ
piece_text (piece.Text text) = text.now
piece_text (piece.Number number) = decimal number
