-- What the text of an image says, which faults it has, and the text that is written of an image. An image has a part `code` and
-- one for each data memory: a line `part NAME` begins a part, and each line after it with one number is the part's next word.
use Rattle.std.specs.Prelude.{◌≡◌, ℕ, ◌^◌, ◌==◌, ◌++◌, ◌&&◌, ◌||◌, nat_le, is_some, is_none, Bool, false, if◌then◌else◌, List, [], ◌∷◌, length, map, fold, find, filter_map, codes, Option, Some, None, option_and_then, MatchResult, Result}
use Rattle.std.specs.List.{flat_map, list_any}
use Rattle.std.specs.Option.{option_or, option_map_or}
use Rattle.std.specs.Str.{bytes_eq}
use Rattle.ap_text.specs.Lines.{TextLine}
use Rattle.ap_text.specs.Numbers.{number_value, hexadecimal}
use Rattle.ap_bits.specs.Names.{is_name}
use Rattle.ap_image.specs.declared.fault.TextKind.TheVariants.{BadForm, NoSuchPart, ValueTooWide, TooManyWords}
use Rattle.ap_image.specs.declared.fault.TextFault.{TextFault}
use Rattle.ap_image.specs.declared.fault.TextFault.TheVariants.{NoMemory}
use Rattle.ap_image.specs.declared.image.Image.{Image}
use Rattle.ap_image.specs.declared.shape.MemShape.{MemShape}
use Rattle.ap_image.specs.Shapes.{Shape}
use Rattle.ap_image.specs.TextFaults.{Judge}

-- the part that tokens begin
abbrev pub part_in : List (List ℕ) → Option (List ℕ)
part_in [] = None
part_in (first ∷ []) = None
part_in (first ∷ name ∷ []) = if bytes_eq first (codes "part") && is_name name then Some name else None
part_in (first ∷ name ∷ other ∷ tokens) = None

-- the word that tokens are
abbrev pub word_in : List (List ℕ) → Option ℕ
word_in [] = None
word_in (token ∷ []) = number_value token
word_in (token ∷ other ∷ tokens) = None

-- the name of the part that a line begins, if it begins one
unfoldable pub begun_by : TextLine → Option (List ℕ)
begun_by line = if line.clean then part_in line.tokens else None

-- the word that a line gives, if it gives one
unfoldable pub given_by : TextLine → Option ℕ
given_by line = if line.clean then word_in line.tokens else None

-- the part in which the next line stands, where the line stands in this one
abbrev pub next_part : Option (List ℕ) → TextLine → Option (List ℕ)
next_part part line = option_or (begun_by line) part

-- the part in which the line after these stands: none before the first part
abbrev pub part_after : List TextLine → Option (List ℕ)
part_after lines = fold next_part None lines

-- what a line that stands in this part adds to the words of the part of this name
abbrev pub words_at : List ℕ → Option (List ℕ) → TextLine → List ℕ
words_at name None line = []
words_at name (Some part) line = if bytes_eq part name then filter_map given_by (line ∷ []) else []

-- the words of the part of this name, where the first line stands in this part
abbrev pub words_from : List ℕ → Option (List ℕ) → List TextLine → List ℕ
words_from name part [] = []
words_from name part (line ∷ lines) = words_at name part line ++ words_from name (next_part part line) lines

-- the words of the part of this name: all that lines in it give, in their order
abbrev pub words_of : List ℕ → List TextLine → List ℕ
words_of name lines = words_from name None lines

-- the name of the code memory's part
abbrev pub code_part : List ℕ
code_part = codes "code"

-- the image of some lines: the words of its parts
abbrev pub image_of : Shape → List TextLine → Image
image_of shape lines = record { code = words_of code_part lines; mems = map (λ (m : MemShape). words_of m.name lines) shape.mems }

-- the parts that there are: that of the code memory, and those of the data memories
abbrev pub parts_of : Shape → List MemShape
parts_of shape = record { name = code_part; address = shape.code_address; width = shape.code_width } ∷ shape.mems

abbrev pub part_named : List MemShape → List ℕ → Option MemShape
part_named parts name = find (λ (p : MemShape). bytes_eq p.name name) parts

-- the part in which the line after these stands, if there is such a part
abbrev pub place_after : Shape → List TextLine → Option MemShape
place_after shape lines = option_and_then (part_named (parts_of shape)) (part_after lines)

-- the line neither begins a part nor gives a word
abbrev pub says_nothing : TextLine → Bool
says_nothing line = is_none (begun_by line) && is_none (given_by line)

-- the line gives a word, and no part has begun
abbrev pub is_stray : List TextLine → TextLine → Bool
is_stray before line = is_some (given_by line) && is_none (part_after before)

-- one of the lines begins the part of this name
abbrev pub has_begun : List TextLine → List ℕ → Bool
has_begun lines name = list_any (λ begun. bytes_eq begun name) (filter_map begun_by lines)

-- the line begins a part that has begun before
abbrev pub is_second : List TextLine → TextLine → Bool
is_second before line = option_map_or (has_begun before) (begun_by line) false

-- the line begins a part that isn't there
abbrev pub is_no_part : Shape → TextLine → Bool
is_no_part shape line = option_map_or (λ name. is_none (part_named (parts_of shape) name)) (begun_by line) false

-- the word that the line gives doesn't fit its memory
abbrev pub is_too_wide : Shape → List TextLine → TextLine → Bool
is_too_wide shape before line = option_map_or (λ word. option_map_or (λ (p : MemShape). nat_le (2 ^ p.width) word) (place_after shape before) false) (given_by line) false

-- the word that the line gives is the first beyond the end of its memory
abbrev pub is_too_many : Shape → List TextLine → TextLine → Bool
is_too_many shape before line = is_some (given_by line) && option_map_or (λ (p : MemShape). length (words_of p.name before) == 2 ^ p.address) (place_after shape before) false

-- how images are judged
abbrev pub image_fault : Shape → Judge
image_fault shape BadForm before line = says_nothing line || is_stray before line || is_second before line
image_fault shape NoSuchPart before line = is_no_part shape line
image_fault shape ValueTooWide before line = is_too_wide shape before line
image_fault shape TooManyWords before line = is_too_many shape before line

-- the line of a word: hexadecimal, with no leading zeros
abbrev pub word_text : ℕ → List ℕ
word_text word = hexadecimal word ++ codes "\n"

-- a part as it is written: its line, and those of its words
abbrev pub part_text : List ℕ → List ℕ → List ℕ
part_text name words = codes "part " ++ name ++ codes "\n" ++ flat_map word_text words

-- the part of a data memory: nothing where it has no word
abbrev pub mem_text : List ℕ → List ℕ → List ℕ
mem_text name [] = []
mem_text name (word ∷ words) = part_text name (word ∷ words)

abbrev pub mems_text : List (List ℕ) → List MemShape → List ℕ
mems_text [] shapes = []
mems_text (words ∷ mems) [] = []
mems_text (words ∷ mems) (m ∷ shapes) = mem_text m.name words ++ mems_text mems shapes

-- the text of an image: the code memory, and then each data memory with at least one word, in order
abbrev pub image_text : Image → Shape → List ℕ
image_text image shape = part_text code_part image.code ++ mems_text image.mems shape.mems

-- the text was read as this image, or memory ran out
abbrev pub IsImageOrMemory : Image → Result Image TextFault → Type 0
IsImageOrMemory image result = MatchResult result (λ read. read ≡ image) (λ fault. fault ≡ NoMemory)
