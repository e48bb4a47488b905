-- What fits a shape: an image of its memories, a line of a trace, a trace.
use Rattle.std.specs.Prelude.{ℕ, zero, suc, ◌<◌, ◌≤◌, ◌^◌, List, [], ◌∷◌, length, map, false}
use Rattle.std.specs.List.{AllByRecursion as Each}
use Rattle.ap_image.specs.declared.shape.MemShape.{MemShape}
use Rattle.ap_image.specs.declared.image.Image.{Image}
use Rattle.ap_image.specs.declared.trace.TraceLine.{TraceLine}
use Rattle.ap_image.specs.declared.trace.Trace.{Trace}
use Rattle.ap_image.specs.Shapes.{Shape}

-- there are at most as many words as addresses, and each is below 2 to its bits
pub record WordsFit (words : List ℕ) (address width : ℕ) : Type 0 where
  pub room : length words ≤ 2 ^ address
  pub each : Each (λ word. word < 2 ^ width) words

-- a list of words for each memory, and each list fits
abbrev pub MemsFit : List (List ℕ) → List MemShape → Type 0
MemsFit [] [] = Unit {0}
MemsFit [] (m ∷ ms) = ⊥
MemsFit (words ∷ mems) [] = ⊥
MemsFit (words ∷ mems) (m ∷ ms) = WordsFit words m.address m.width × MemsFit mems ms

-- the image fits the shape
pub record ImageFitsShape (image : Image) (shape : Shape) : Type 0 where
  pub code : WordsFit image.code shape.code_address shape.code_width
  pub mems : MemsFit image.mems shape.mems

-- a value for each width, and each value is below 2 to it
abbrev pub ValuesFit : List ℕ → List ℕ → Type 0
ValuesFit [] [] = Unit {0}
ValuesFit [] (width ∷ widths) = ⊥
ValuesFit (value ∷ values) [] = ⊥
ValuesFit (value ∷ values) (width ∷ widths) = (value < 2 ^ width) × ValuesFit values widths

-- the line has a value for each input port, and each value fits
abbrev pub LineFitsShape : TraceLine → Shape → Type 0
LineFitsShape line shape = ValuesFit line.ports shape.inputs

-- every line of the trace fits the shape
abbrev pub TraceFitsShape : Trace → Shape → Type 0
TraceFitsShape trace shape = Each (λ (line : TraceLine). LineFitsShape line shape) trace.lines

-- the line of a cycle after the last one of a trace: all is 0
abbrev pub idle : List ℕ → TraceLine
idle inputs = record { wait = false; ports = map (λ width. 0) inputs }

abbrev pub line_among : List TraceLine → List ℕ → ℕ → TraceLine
line_among [] inputs j = idle inputs
line_among (line ∷ lines) inputs zero = line
line_among (line ∷ lines) inputs (suc j) = line_among lines inputs j

-- the line of cycle j, where the input ports have these widths
abbrev pub line_at : Trace → List ℕ → ℕ → TraceLine
line_at trace inputs j = line_among trace.lines inputs j
