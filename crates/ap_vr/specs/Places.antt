-- Which line is due in its place: the lines before it alone decide.
use Rattle.std.specs.Prelude.{◌≡◌, ◌≢◌, ℕ, ◌+◌, ◌⊎◌, ◌==◌, ◌&&◌, nat_le, Bool, false, if◌then◌else◌, IsTrue, List, [], ◌∷◌, codes}
use Rattle.std.specs.Str.{bytes_eq}
use Rattle.ap_vr.specs.declared.line.Line.{Line}
use Rattle.ap_vr.specs.declared.line.Line.TheVariants as line
use Rattle.ap_vr.specs.declared.place.Part.{Part}
use Rattle.ap_vr.specs.declared.place.Part.TheVariants as part
use Rattle.ap_vr.specs.LineTexts.{IsSpelled}

-- the parts in the order in which they stand
abbrev pub number : Part → ℕ
number part.Start = 0
number part.Clock = 1
number part.Reset = 2
number part.Ports = 3
number part.Close = 4
number part.Wires = 5
number part.Regs = 6
number part.Assigns = 7
number part.Nexts = 8
number part.Instances = 9

-- the line is due in this part of a module, which is top or another one: only top has instances
abbrev pub is_due : Part → Bool → Line → Bool
is_due at top (line.Module name) = number at == 0
is_due at top line.Clock = number at == 1
is_due at top line.Reset = number at == 2
is_due at top (line.Port p more) = number at == 3
is_due at top line.Close = number at == 4
is_due at top (line.Wire n) = number at == 5
is_due at top (line.Reg n) = nat_le 5 (number at) && nat_le (number at) 6
is_due at top (line.Assign a) = nat_le 5 (number at) && nat_le (number at) 7
is_due at top (line.Always x) = nat_le 5 (number at) && nat_le (number at) 8
is_due at top (line.Instance i) = nat_le 5 (number at) && top
is_due at top line.End = nat_le 5 (number at)

-- what is due after a line: after a port with a comma a port, after one without it the end of the ports
abbrev pub part_after : Line → Part
part_after (line.Module name) = part.Clock
part_after line.Clock = part.Reset
part_after line.Reset = part.Ports
part_after (line.Port p more) = if more then part.Ports else part.Close
part_after line.Close = part.Wires
part_after (line.Wire n) = part.Wires
part_after (line.Reg n) = part.Regs
part_after (line.Assign a) = part.Assigns
part_after (line.Always x) = part.Nexts
part_after (line.Instance i) = part.Instances
part_after line.End = part.Start

-- Where a text stands after some lines: what is due, whether the last module that began is top, the number of the line in which
-- it began (1 where none began), and the number of the next line.
pub record Place : Type 0 where
  pub at : Part
  pub top : Bool
  pub began : ℕ
  pub next : ℕ

-- before the first line
abbrev pub start : Place
start = record { at = part.Start; top = false; began = 1; next = 1 }

-- after one more line
abbrev pub place_after : Place → Line → Place
place_after p (line.Module name) = record { at = part.Clock; top = bytes_eq name (codes "top"); began = p.next; next = p.next + 1 }
place_after p x = record { at = part_after x; top = p.top; began = p.began; next = p.next + 1 }

-- the bytes are a line that is due
pub record IsDueLine (p : Place) (bytes : List ℕ) (x : Line) : Type 0 where
  pub spelled : IsSpelled bytes x
  pub due : IsTrue (is_due p.at p.top x)

-- The lines from this place on aren't of the form of a netlist, and this line is where that shows: it is the first that isn't
-- due; or the text ends early, in this line; or the last module, which begins in it, isn't top.
abbrev pub EndsBadly : Place → ℕ → Type 0
EndsBadly p line = (number p.at ≡ 0 → (p.top ≡ false) × (line ≡ p.began)) × (number p.at ≢ 0 → line ≡ p.next)

abbrev pub IsBadFrom : Place → List (List ℕ) → ℕ → Type 0
IsBadFrom p [] line = EndsBadly p line
IsBadFrom p (bytes ∷ lines) line =
    ((line ≡ p.next) × ((x : Line) → IsDueLine p bytes x → ⊥))
    ⊎ ((x : Line) × IsDueLine p bytes x × IsBadFrom (place_after p x) lines line)
