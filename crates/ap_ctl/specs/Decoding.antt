-- Which bits of a word tell that it matches an instruction: those of the fields that the instruction fixes.
use Rattle.std.specs.Prelude.{◌≡◌, ℕ, ◌+◌, ◌/◌, ◌%◌, ◌^◌, ◌<◌, ◌≤◌, ◌==◌, ◌&&◌, Bool, false, List, [], ◌∷◌, ◌++◌, filter_map, flat_map, fold, map, zip, Contains, Option, Some, None, if◌then◌else◌}
use Rattle.std.specs.List.{list_all, list_any}
use Rattle.ap_desc.specs.Clean.{IsClean}
use Rattle.ap_desc.specs.Designs.{fields_of}
use Rattle.ap_desc.specs.declared.design.Design.{Design}
use Rattle.ap_desc.specs.declared.design.Field.{Field}
use Rattle.ap_desc.specs.declared.design.Instr.{Instr}
use Rattle.ap_model.specs.Fire.{is_match}
use Rattle.ap_net.specs.declared.cell.Wire.{Wire}
use Rattle.ap_net.specs.Readings.{Reading}
use Rattle.ap_net.specs.Draft.{Draft}
use Rattle.ap_ctl.specs.declared.decode.Compared.{Compared}
use Rattle.ap_ctl.specs.declared.field.FieldTest.{FieldTest}
use Rattle.ap_ctl.specs.Building.{Tells}

-- the word has the value in the bits of the test
abbrev pub passes : ℕ → FieldTest → Bool
passes word t = (word / 2 ^ t.low) % 2 ^ t.width == t.value

-- the test of a field, where the instruction fixes it
abbrev pub test_of : Field × Option ℕ → Option FieldTest
test_of (field, None) = None
test_of (field, Some value) = Some (record { low = field.low; width = field.width; value = value })

-- the tests of an instruction, in the order of its format's fields
abbrev pub tests_of : Design → Instr → List FieldTest
tests_of design instr = filter_map test_of (zip (fields_of design instr) instr.fixed)

-- in a clean design a word matches an instruction exactly where it passes its tests
abbrev pub MatchesByFields : Type 0
MatchesByFields = (design : Design) (instr : Instr) (word : ℕ) → IsClean design → Contains design.instrs instr
    → is_match word instr ≡ list_all (passes word) (tests_of design instr)

-- Shared decoding: each test is made once in a stage.

abbrev pub is_same_test : FieldTest → FieldTest → Bool
is_same_test a b = (a.low == b.low) && (a.width == b.width) && (a.value == b.value)

-- the tests with one more, unless it is among them
abbrev pub with_test : List FieldTest → FieldTest → List FieldTest
with_test tests t = if list_any (is_same_test t) tests then tests else tests ++ t ∷ []

-- the tests of all instructions, each once
abbrev pub field_tests : Design → List FieldTest
field_tests design = fold with_test [] (flat_map (tests_of design) design.instrs)

-- a word beside each of the tests, and each of some words beside each of them
abbrev pub with_tests : List FieldTest → Wire → List (Wire × FieldTest)
with_tests tests word = map (λ t. (word, t)) tests

abbrev pub compared_in : Design → List Wire → List (Wire × FieldTest)
compared_in design words = flat_map (with_tests (field_tests design)) words

-- no test is among those after it
abbrev pub NoneTwice : List FieldTest → Type 0
NoneTwice [] = Unit {0}
NoneTwice (t ∷ tests) = (list_any (is_same_test t) tests ≡ false) × NoneTwice tests

-- The nets of tests.

-- the bits of the test are some of a word's, and its value fits them
pub record FitsWord (bits : ℕ) (t : FieldTest) : Type 0 where
  pub some : 1 ≤ t.width
  pub within : t.low + t.width ≤ bits
  pub fits : t.value < 2 ^ t.width

abbrev pub compared_net : Compared → Wire
compared_net c = c.net

-- the net always tells whether the word passes the test
abbrev pub IsCompared : Draft → Wire → Compared → Type 0
IsCompared d word c = Tells d (λ (r : Reading). passes (r.read word.number) c.test) c.net

-- the test is one of these
abbrev pub is_wanted : List FieldTest → Compared → Bool
is_wanted wanted c = list_any (is_same_test c.test) wanted
