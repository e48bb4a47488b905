-- What reading a line, and reading the lines of a module, answers.
use Rattle.std.specs.Prelude.{MatchBool, nat_lt, ◌≡◌, ◌≢◌, ◌⊎◌, ℕ, ◌+◌, ◌<◌, List, [], ◌∷◌, ◌++◌, length, codes}
use Rattle.std.specs.List.{AllByRecursion as Each}
use Rattle.std.specs.Str.{bytes_eq}
use Rattle.ap_vr.specs.declared.fault.TheConstants.{TEXT_LIMIT}
use Rattle.ap_vr.specs.declared.fault.NetFault.{NetFault}
use Rattle.ap_vr.specs.declared.fault.NetFault.TheVariants.{NoMemory, At}
use Rattle.ap_vr.specs.declared.fault.NetKind.TheVariants.{BadForm}
use Rattle.ap_vr.specs.declared.line.Line.{Line}
use Rattle.ap_vr.specs.declared.line.Line.TheVariants as said
use Rattle.ap_vr.specs.declared.module.NamedModule.{NamedModule}
use Rattle.ap_vr.specs.declared.place.Part.TheVariants as part
use Rattle.ap_vr.specs.declared.reading.Lines.{Lines}
use Rattle.ap_vr.specs.LineTexts.{IsSpelled}
use Rattle.ap_vr.specs.Named.{IsNamedModule, named_module_text, named_text}
use Rattle.ap_vr.specs.Places.{Place, IsBadFrom, number, start}
use Rattle.ap_vr.specs.TextLines.{text_lines}

-- the numbers of all lines that are left are small
abbrev pub HasRoom : Lines → Type 0
HasRoom lines = lines.number + length lines.rest.now < 2147483648

-- the next line is this one, and these are left after it
pub record IsNext (old : Lines) (bytes : List ℕ) (x : Line) (new : Lines) : Type 0 where
  pub spelled : IsSpelled bytes x
  pub lines : text_lines old.rest.now ≡ bytes ∷ text_lines new.rest.now
  pub text : old.rest.now ≡ bytes ++ new.rest.now
  pub some : 0 < length bytes
  pub number : new.number ≡ old.number + 1

abbrev pub TakesLine : Lines → Line → Lines → Type 0
TakesLine old x new = (bytes : List ℕ) × IsNext old bytes x new

-- why reading went no further from this place on: a line that isn't of the form due, or memory ran out
abbrev pub IsBadRead : Place → List ℕ → NetFault → Type 0
IsBadRead p text (At line kind) = (kind ≡ BadForm) × IsBadFrom p (text_lines text) line
IsBadRead p text NoMemory = Unit {0}

-- why no line came, whatever place in a module these lines stand in
abbrev pub IsNoNext : Lines → NetFault → Type 0
IsNoNext lines fault = (p : Place) → p.next ≡ lines.number → (number p.at ≢ 0) ⊎ (lines.rest.now ≢ []) → IsBadRead p lines.rest.now fault

-- the line is no first line of a module
abbrev pub IsNoFirst : Line → Type 0
IsNoFirst x = (name : List ℕ) → x ≡ said.Module name → ⊥

-- why the lines don't begin with the first line of a module, where one is due
abbrev pub IsNoModule : Lines → NetFault → Type 0
IsNoModule lines fault = (p : Place) → p.next ≡ lines.number → number p.at ≡ 0 → lines.rest.now ≢ [] → IsBadRead p lines.rest.now fault

-- the place after the first line of a module, whose number is the one before that of these lines
abbrev pub place_in : ℕ → List ℕ → Lines → Place
place_in first name lines = record { at = part.Clock; top = bytes_eq name (codes "top"); began = first; next = lines.number }

-- the place where a module ends
abbrev pub place_behind : ℕ → List ℕ → Lines → Place
place_behind first name lines = record { at = part.Start; top = bytes_eq name (codes "top"); began = first; next = lines.number }

-- the most bytes that a netlist's text may have
abbrev pub text_limit : ℕ
text_limit = TEXT_LIMIT

-- a text isn't of the form of a netlist, and this is where that shows: line 0 where it is too long
abbrev pub HasBadForm : List ℕ → ℕ → Type 0
HasBadForm text line = MatchBool (nat_lt text_limit (length text)) (line ≡ 0) (IsBadFrom start (text_lines text) line)

-- why a text gave no modules: it isn't of the form, or memory ran out
abbrev pub IsFormFault : List ℕ → NetFault → Type 0
IsFormFault text (At line kind) = (kind ≡ BadForm) × HasBadForm text line
IsFormFault text NoMemory = Unit {0}

-- a text of the form of a netlist
abbrev pub IsWellFormed : List ℕ → Type 0
IsWellFormed text = (line : ℕ) → HasBadForm text line → ⊥

-- how many lines a module has
abbrev pub line_count : NamedModule → ℕ
line_count m = 5 + length m.ports + length m.wires + length m.regs + length m.assigns + length m.nexts + length m.instances

-- the first line of a module, and the rest of its text
abbrev pub first_line : List ℕ → List ℕ
first_line name = codes "module " ++ name ++ codes " (\n"

-- the module stands before the lines that are left, after its first line
pub record IsModuleRead (first : ℕ) (name : List ℕ) (old : Lines) (m : NamedModule) (new : Lines) : Type 0 where
  pub named : m.name ≡ name
  pub begins : m.line ≡ first
  pub rules : IsNamedModule m
  pub body : List ℕ
  pub text : old.rest.now ≡ body ++ new.rest.now
  pub whole : first_line name ++ body ≡ named_module_text m
  pub ends : new.number ≡ first + line_count m
  pub room : HasRoom new
  pub bad : (line : ℕ) → IsBadFrom (place_behind first name new) (text_lines new.rest.now) line → IsBadFrom (place_in first name old) (text_lines old.rest.now) line
  pub back : (line : ℕ) → IsBadFrom (place_in first name old) (text_lines old.rest.now) line → IsBadFrom (place_behind first name new) (text_lines new.rest.now) line

-- the modules begin in lines of these numbers, the first of them in this one
abbrev pub AreNumbered : ℕ → List NamedModule → Type 0
AreNumbered first [] = Unit {0}
AreNumbered first (m ∷ modules) = (m.line ≡ first) × AreNumbered (first + line_count m) modules

-- the last of some modules is top
abbrev pub EndsInTop : List NamedModule → Type 0
EndsInTop [] = ⊥
EndsInTop (m ∷ []) = m.name ≡ codes "top"
EndsInTop (m ∷ n ∷ modules) = EndsInTop (n ∷ modules)

-- the numbers of all lines of a module are small
abbrev pub HasFewLines : NamedModule → Type 0
HasFewLines m = m.line + line_count m < 2147483648

-- the text is these modules, one after another
pub record AreModulesOf (text : List ℕ) (modules : List NamedModule) : Type 0 where
  pub spelled : text ≡ named_text modules
  pub rules : Each IsNamedModule modules
  pub numbers : AreNumbered 1 modules
  pub few : Each HasFewLines modules
  pub top : EndsInTop modules
