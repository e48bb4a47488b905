-- What a parser answers.
use Rattle.std.specs.Prelude.{◌≡◌, Option, Some, None, Result, Ok, Err}
use Rattle.ap_read.specs.declared.token.Unread.{Unread}
use Rattle.ap_read.specs.declared.token.Unread.TheVariants.{NoForm}

-- the value that is due, and NoForm only where none is due; want of memory may come at any time
abbrev pub Answers : {A : Type 0} → Result A Unread → Option A → Type 0
Answers (Ok value) due = due ≡ Some value
Answers (Err why) due = why ≡ NoForm → due ≡ None

-- the same of what takes no memory: NoForm exactly where none is due
abbrev pub SurelyAnswers : {A : Type 0} → Result A Unread → Option A → Type 0
SurelyAnswers (Ok value) due = due ≡ Some value
SurelyAnswers (Err why) due = (why ≡ NoForm) × (due ≡ None)
