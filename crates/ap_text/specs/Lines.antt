-- Plain texts, as lists of bytes: what a line, a token and a bad byte are. These are the project's own rules.
use Rattle.std.specs.Prelude.{ℕ, ◌+◌, ◌==◌, ◌&&◌, ◌||◌, nat_le, not, Bool, true, false, List, [], ◌∷◌, filter}
use Rattle.std.specs.List.{before_first, list_all, slice_split}

-- a line feed ends a line
abbrev pub is_line_feed : ℕ → Bool
is_line_feed b = b == 10

-- spaces and tabs separate tokens
abbrev pub is_blank : ℕ → Bool
is_blank b = (b == 32) || (b == 9)

-- a number sign begins a comment, which runs to the end of the line
abbrev pub is_comment_sign : ℕ → Bool
is_comment_sign b = b == 35

-- a tab or a printing character of ASCII; any other byte makes its line bad
abbrev pub is_allowed : ℕ → Bool
is_allowed b = (b == 9) || (nat_le 32 b && nat_le b 126)

-- a part between blanks is a token where it has something in it
abbrev pub is_token : List ℕ → Bool
is_token [] = false
is_token (b ∷ bs) = true

-- the tokens of a line: what stands between blanks before the comment
abbrev pub tokens_of : List ℕ → List (List ℕ)
tokens_of line = filter is_token (slice_split is_blank (before_first is_comment_sign line))

-- every byte of the line is allowed, those of its comment too
abbrev pub is_clean : List ℕ → Bool
is_clean line = list_all is_allowed line

-- a line as its reader sees it: its number, counted from 1, its tokens, and whether every byte is allowed
pub record TextLine : Type 0 where
  pub number : ℕ
  pub tokens : List (List ℕ)
  pub clean : Bool

abbrev pub has_no_token : List (List ℕ) → Bool
has_no_token [] = true
has_no_token (token ∷ tokens) = false

-- a line with neither a token nor a bad byte is skipped
abbrev pub is_skipped : TextLine → Bool
is_skipped line = has_no_token line.tokens && line.clean

-- the line of these bytes with this number
abbrev pub text_line : ℕ → List ℕ → TextLine
text_line n line = record { number = n; tokens = tokens_of line; clean = is_clean line }

-- what stands of a line in the list: nothing where it is skipped
abbrev pub unless_skipped : TextLine → List TextLine
unless_skipped line = filter (λ line. not (is_skipped line)) (line ∷ [])

-- the lines from this number on
abbrev pub numbered_from : ℕ → List (List ℕ) → List TextLine
numbered_from n [] = []
numbered_from n (line ∷ lines) = text_line n line ∷ numbered_from (n + 1) lines

-- the lines of what is left of a text, from this number on, that are not skipped
abbrev pub lines_from : ℕ → List ℕ → List TextLine
lines_from n text = filter (λ line. not (is_skipped line)) (numbered_from n (slice_split is_line_feed text))

-- the lines of a text that are not skipped
unfoldable pub lines_of : List ℕ → List TextLine
lines_of text = lines_from 1 text
