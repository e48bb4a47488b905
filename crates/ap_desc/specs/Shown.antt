-- The text of a description: one space between tokens, two before a micro-operation, decimal numbers, no comments.
use Rattle.std.specs.Prelude.{ℕ, ◌+◌, List, [], ◌∷◌, ◌++◌, codes, if◌then◌else◌}
use Rattle.std.specs.List.{flat_map}
use Rattle.std.specs.Fmt.{decimal}
use Rattle.ap_desc.specs.declared.description.Numbered.{Numbered}
use Rattle.ap_desc.specs.declared.statement.Statement.{Statement}
use Rattle.ap_desc.specs.Order.{is_micro}
use Rattle.ap_desc.specs.Spelling.{Token, exactly, tagged, spelling}

-- a token as it is shown: numbers are decimal
abbrev pub shown_token : Token → List ℕ
shown_token (exactly bytes) = bytes
shown_token (tagged tag n) = tag ++ decimal n

-- a token after another
abbrev pub after_space : Token → List ℕ
after_space token = codes " " ++ shown_token token

-- tokens with one space between them
abbrev pub spaced : List Token → List ℕ
spaced [] = []
spaced (token ∷ tokens) = shown_token token ++ flat_map after_space tokens

-- the line of a statement, without its line feed
abbrev pub line_bytes : Statement → List ℕ
line_bytes statement = (if is_micro statement then codes "  " else []) ++ spaced (spelling statement)

abbrev pub shown_line : Statement → List ℕ
shown_line statement = line_bytes statement ++ codes "\n"

-- the text of a description
abbrev pub shown_text : List Numbered → List ℕ
shown_text statements = flat_map (λ n. shown_line n.statement) statements

-- the same statements at lines that count up from this one
abbrev pub renumbered : ℕ → List Numbered → List Numbered
renumbered line [] = []
renumbered line (n ∷ statements) = record { line = line; statement = n.statement } ∷ renumbered (line + 1) statements
