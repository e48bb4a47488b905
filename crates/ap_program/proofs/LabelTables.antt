-- A table of labels while the lines of a program are gone over.
use Rattle.std.proofs.Common.{◌≡◌, ℕ, ◌+◌, Bool, true, false, ◌<◌, List, [], ◌∷◌, ◌++◌, length, get_or, drop, Option, Some, None, is_some, inl, inr, refl, sym, ap, ◌∙◌, arith}
use Rattle.std.specs.Prelude.{option_map, if◌then◌else◌}
use Rattle.std.specs.Option.{option_map_or, option_or}
use Rattle.std.specs.Str.{bytes_eq}
use Rattle.std.proofs.lemmas.Bool.{cases_Bool, cond-false, cond-true}
use Rattle.std.proofs.lemmas.Slice.Eq.{bytes_eq-Decides}
use Rattle.ap_program.specs.Labels.{landing_among, with_label}
use Rattle.ap_program.specs.Programs.{group_count, is_label_named, label_by, landing_of}
use Rattle.ap_program.specs.declared.statement.ProgramLine.{ProgramLine}
use Rattle.ap_program.proofs.SourceLines.{rest_from}

-- a table with one more pair at its end
pub among_push : (pairs : List (List ℕ × ℕ)) (name : List ℕ) (landing : ℕ) (asked : List ℕ) → landing_among (pairs ++ (name, landing) ∷ []) asked ≡ option_or (landing_among pairs asked) (if bytes_eq asked name then Some landing else None)
among_push [] name landing asked = refl
among_push (pair ∷ pairs) name landing asked = elim (cases_Bool (bytes_eq asked pair.0)) [
  | inl hit ↦ cond-true (bytes_eq asked pair.0) (Some pair.1) (landing_among (pairs ++ (name, landing) ∷ []) asked) hit
      ∙ sym (ap (λ o. option_or o (if bytes_eq asked name then Some landing else None)) (cond-true (bytes_eq asked pair.0) (Some pair.1) (landing_among pairs asked) hit))
  | inr miss ↦ cond-false (bytes_eq asked pair.0) (Some pair.1) (landing_among (pairs ++ (name, landing) ∷ []) asked) miss
      ∙ among_push pairs name landing asked
      ∙ sym (ap (λ o. option_or o (if bytes_eq asked name then Some landing else None)) (cond-false (bytes_eq asked pair.0) (Some pair.1) (landing_among pairs asked) miss))
]

-- one that is there stays
stays_there : (o : Option ℕ) (b : Bool) (landing : ℕ) → (b ≡ true → is_some o ≡ true) → o ≡ option_or o (if b then Some landing else None)
stays_there (Some x) b landing h = refl
stays_there None true landing h = absurd (let wrong : false ≡ true = h refl in cc)
stays_there None false landing h = refl

-- a table with one more label
pub among_with : (pairs : List (List ℕ × ℕ)) (name : List ℕ) (landing : ℕ) (asked : List ℕ) → landing_among (with_label pairs name landing) asked ≡ option_or (landing_among pairs asked) (if bytes_eq asked name then Some landing else None)
among_with pairs name landing asked = elim (cases_Bool (is_some (landing_among pairs name))) [
  | inl there ↦ ap (λ ps. landing_among ps asked) (cond-true (is_some (landing_among pairs name)) pairs (pairs ++ (name, landing) ∷ []) there)
      ∙ stays_there (landing_among pairs asked) (bytes_eq asked name) landing (λ same. let is : asked ≡ name = (bytes_eq-Decides asked name).0 same in ap (λ n. is_some (landing_among pairs n)) is ∙ there)
  | inr new ↦ ap (λ ps. landing_among ps asked) (cond-false (is_some (landing_among pairs name)) pairs (pairs ++ (name, landing) ∷ []) new) ∙ among_push pairs name landing asked
]

-- the landing by the table so far, or by the lines that are left when so many groups stand before them
abbrev pub landing_by : List (List ℕ × ℕ) → ℕ → List ProgramLine → List ℕ → Option ℕ
landing_by pairs groups lines name = option_or (landing_among pairs name) (option_map (λ n. groups + n) (landing_of name lines))

moved_twice : (groups count : ℕ) (r : Option ℕ) → option_map (λ n. (groups + count) + n) r ≡ option_map (λ n. groups + n) (option_map (λ n. count + n) r)
moved_twice groups count None = refl
moved_twice groups count (Some n) = ap Some (omega arith)

line_step : (found : Option ℕ) (named : Bool) (groups count : ℕ) (r : Option ℕ)
    → option_or (option_or found (if named then Some groups else None)) (option_map (λ n. (groups + count) + n) r) ≡ option_or found (option_map (λ n. groups + n) (if named then Some 0 else option_map (λ n. count + n) r))
line_step (Some x) named groups count r = refl
line_step None true groups count r = ap Some (omega arith)
line_step None false groups count r = moved_twice groups count r

-- one more line
pub table_step : (pairs new : List (List ℕ × ℕ)) (groups more : ℕ) (line : ProgramLine) (rest : List ProgramLine) (name : List ℕ)
    → landing_among new name ≡ option_or (landing_among pairs name) (if is_label_named name line then Some groups else None) → more ≡ groups + group_count line → landing_by new more rest name ≡ landing_by pairs groups (line ∷ rest) name
table_step pairs new groups more line rest name here count = rw (here, count) (line_step (landing_among pairs name) (is_label_named name line) groups (group_count line) (landing_of name rest))

-- a line that is no label
pub among_same : (o : Option ℕ) → o ≡ option_or o None
among_same (Some x) = refl
among_same None = refl

moved_none : (r : Option ℕ) → option_map (λ n. 0 + n) r ≡ r
moved_none None = refl
moved_none (Some n) = ap Some (omega arith)

-- at the start, and when no line is left
pub landing_by_none : (lines : List ProgramLine) (name : List ℕ) → landing_by [] 0 lines name ≡ landing_of name lines
landing_by_none lines name = moved_none (landing_of name lines)

pub landing_by_all : (pairs : List (List ℕ × ℕ)) (groups : ℕ) (name : List ℕ) → landing_by pairs groups [] name ≡ landing_among pairs name
landing_by_all pairs groups name = sym (among_same (landing_among pairs name))

-- a line that says no label
pub among_none : (pairs : List (List ℕ × ℕ)) (line : ProgramLine) (groups : ℕ) (name : List ℕ) → label_by line.says ≡ None → landing_among pairs name ≡ option_or (landing_among pairs name) (if is_label_named name line then Some groups else None)
among_none pairs line groups name e = among_same (landing_among pairs name) ∙ ap (λ o. option_or (landing_among pairs name) (if option_map_or (bytes_eq name) o false then Some groups else None)) (sym e)

-- one more line, when its label was added
pub table_more : (pairs new : List (List ℕ × ℕ)) (groups : ℕ) (lines : List ProgramLine) (i : ℕ) (line : ProgramLine) → i < length lines → line ≡ get_or lines i line → ((name : List ℕ) → landing_among new name ≡ option_or (landing_among pairs name) (if is_label_named name line then Some groups else None))
    → ((name : List ℕ) → landing_by pairs groups (drop i lines) name ≡ landing_of name lines) → (name : List ℕ) → landing_by new (groups + group_count line) (drop (i + 1) lines) name ≡ landing_of name lines
table_more pairs new groups lines i line lt is here before name =
    table_step pairs new groups (groups + group_count line) line (drop (i + 1) lines) name (here name) refl ∙ ap (λ ls. landing_by pairs groups ls name) (sym (rest_from lines i line lt is)) ∙ before name
