-- What the reader of an image keeps of the lines that it has read. A part is known by its number in `parts_of`.
use Rattle.std.specs.Prelude.{◌≡◌, ℕ, ◌<◌, true, List, [], map, length, filter_map, slice_get, is_some, Option, Some, None}
use Rattle.std.specs.List.{AllByRecursion as Each}
use Rattle.ap_text.specs.Lines.{TextLine}
use Rattle.ap_image.specs.declared.so_far.SoFar.{SoFar}
use Rattle.ap_image.specs.declared.shape.MemShape.{MemShape}
use Rattle.ap_image.specs.FitsShape.{WordsFit}
use Rattle.ap_image.specs.ImageTexts.{begun_by, has_begun, image_fault, part_after, part_named, parts_of, words_of}
use Rattle.ap_image.specs.Shapes.{Shape}
use Rattle.ap_image.specs.TextFaults.{AreFine}

-- the part of this number has the name, where it is a number; else there is no name
abbrev pub StandsIn : Shape → Option ℕ → Option (List ℕ) → Type 0
StandsIn shape None part = part ≡ None
StandsIn shape (Some place) part = (place < length (parts_of shape)) × (slice_get (map (λ (p : MemShape). p.name) (parts_of shape)) place ≡ part)

-- this is what the reader keeps of these lines: they are fine, and the words so far fit
pub record IsSoFar (shape : Shape) (lines : List TextLine) (so_far : SoFar) : Type 0 where
  pub begun : so_far.begun.items ≡ map (λ (p : MemShape). has_begun lines p.name) (parts_of shape)
  pub words : so_far.words.items ≡ map (λ (p : MemShape). words_of p.name lines) (parts_of shape)
  pub stands : StandsIn shape so_far.at (part_after lines)
  pub fits : Each (λ (p : MemShape). WordsFit (words_of p.name lines) p.address p.width) (parts_of shape)
  pub known : Each (λ name. is_some (part_named (parts_of shape) name) ≡ true) (filter_map begun_by lines)
  pub fine : AreFine (image_fault shape) [] lines

-- some lines lead to this
abbrev pub IsReachable : Shape → SoFar → Type 0
IsReachable shape so_far = (lines : List TextLine) × IsSoFar shape lines so_far
