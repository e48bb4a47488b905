-- The words of the language, which are no names. The list is the project's own.
use Rattle.std.specs.Prelude.{ℕ, ◌&&◌, not, Bool, List, [], ◌∷◌, codes}
use Rattle.std.specs.List.{list_any}
use Rattle.std.specs.Str.{bytes_eq}
use Rattle.ap_bits.specs.Names.{is_name}

-- what begins a header line, a declaration or an instruction, and what ends one
abbrev pub statement_words : List (List ℕ)
statement_words = codes "stages" ∷ codes "address" ∷ codes "word" ∷ codes "transfer" ∷ codes "reg" ∷ codes "file" ∷ codes "mem" ∷ codes "in"
    ∷ codes "unit" ∷ codes "format" ∷ codes "instr" ∷ codes "end" ∷ []

-- what a micro-operation is made of
abbrev pub micro_words : List (List ℕ)
micro_words = codes "const" ∷ codes "zext" ∷ codes "sext" ∷ codes "slice" ∷ codes "cat" ∷ codes "when" ∷ codes "branch" ∷ codes "jump" ∷ codes "pc"
    ∷ codes "link" ∷ []

-- what programs and images call by these words
abbrev pub memory_words : List (List ℕ)
memory_words = codes "code" ∷ codes "data" ∷ []

abbrev pub is_among : List ℕ → List (List ℕ) → Bool
is_among name words = list_any (bytes_eq name) words

-- a name that may be used: of the form of names, and none of these words
abbrev pub is_free_name : List ℕ → Bool
is_free_name name = is_name name && not (is_among name statement_words) && not (is_among name micro_words) && not (is_among name memory_words)
