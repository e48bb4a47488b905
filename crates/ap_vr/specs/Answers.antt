-- What a reader of pieces answers.
use Rattle.std.specs.Prelude.{◌≡◌, ℕ, List, Option, Some, None, Result, Ok, Err}
use Rattle.std.specs.Borrow.{Bor}
use Rattle.ap_vr.specs.declared.unread.Unread.{Unread}
use Rattle.ap_vr.specs.declared.unread.Unread.TheVariants.{NoForm, NoMemory}
use Rattle.ap_vr.specs.declared.line.Line.{Line}
use Rattle.ap_vr.specs.LineTexts.{IsLine, line_text}

-- the value that is due, and NoForm only where none is due; want of memory may come at any time
abbrev pub Answers : {A : Type 0} → Result A Unread → Option A → Type 0
Answers (Ok value) due = due ≡ Some value
Answers (Err why) due = why ≡ NoForm → due ≡ None

-- the same of what takes no memory: NoForm exactly where none is due
abbrev pub SurelyAnswers : {A : Type 0} → Result A Unread → Option A → Type 0
SurelyAnswers (Ok value) due = due ≡ Some value
SurelyAnswers (Err why) due = (why ≡ NoForm) × (due ≡ None)

-- the piece of a place, or NoForm exactly where there is none
abbrev pub IsPiece : Result (Bor (List ℕ)) Unread → Option (List ℕ) → Type 0
IsPiece (Ok piece) due = due ≡ Some piece.now
IsPiece (Err why) due = (why ≡ NoForm) × (due ≡ None)

-- no line is spelled so
abbrev pub IsNoLine : List ℕ → Type 0
IsNoLine bytes = (line : Line) → IsLine line → bytes ≡ line_text line → ⊥

-- why bytes were no line: none is spelled so, or memory ran out
abbrev pub IsUnread : List ℕ → Unread → Type 0
IsUnread bytes NoForm = IsNoLine bytes
IsUnread bytes NoMemory = Unit {0}
