-- The parts of a design by their names: which part has a name, and at which place of its list it stands.
use Rattle.std.specs.Prelude.{ℕ, List, [], map, find, Option, option_and_then, slice_get}
use Rattle.std.specs.List.{position_or_len}
use Rattle.std.specs.Option.{option_map_or}
use Rattle.std.specs.Str.{bytes_eq}
use Rattle.ap_bits.specs.declared.card.Card.{Card}
use Rattle.ap_desc.specs.declared.design.Design.{Design}
use Rattle.ap_desc.specs.declared.design.Reg.{Reg}
use Rattle.ap_desc.specs.declared.design.File.{File}
use Rattle.ap_desc.specs.declared.design.Mem.{Mem}
use Rattle.ap_desc.specs.declared.design.InPort.{InPort}
use Rattle.ap_desc.specs.declared.design.Unit.{Unit as Resource}
use Rattle.ap_desc.specs.declared.design.Format.{Format}
use Rattle.ap_desc.specs.declared.design.Field.{Field}

-- the first of these that has the name
abbrev pub named : {X : Type 0} → (X → List ℕ) → List X → List ℕ → Option X
named name_of xs name = find (λ x. bytes_eq name (name_of x)) xs

-- the place of the first of these names that is this one, and the number of names where none is
abbrev pub place_of : List (List ℕ) → List ℕ → ℕ
place_of names name = position_or_len (bytes_eq name) names

-- the names of the parts of each sort
abbrev pub reg_names : Design → List (List ℕ)
reg_names design = map (λ (r : Reg). r.name) design.regs

abbrev pub file_names : Design → List (List ℕ)
file_names design = map (λ (f : File). f.name) design.files

abbrev pub mem_names : Design → List (List ℕ)
mem_names design = map (λ (m : Mem). m.name) design.mems

abbrev pub input_names : Design → List (List ℕ)
input_names design = map (λ (p : InPort). p.name) design.inputs

abbrev pub unit_names : Design → List (List ℕ)
unit_names design = map (λ (u : Resource). u.name) design.units

abbrev pub format_names : Design → List (List ℕ)
format_names design = map (λ (f : Format). f.name) design.formats

abbrev pub names_of_fields : List Field → List (List ℕ)
names_of_fields fields = map (λ (f : Field). f.name) fields

-- the file, the unit and the fields of the format of a name
abbrev pub file_named : Design → List ℕ → Option File
file_named design name = named (λ (f : File). f.name) design.files name

abbrev pub unit_named : Design → List ℕ → Option Resource
unit_named design name = named (λ (u : Resource). u.name) design.units name

abbrev pub fields_named : Design → List ℕ → List Field
fields_named design name = option_map_or (λ (f : Format). f.fields) (named (λ (f : Format). f.name) design.formats name) []

-- the card of the kind of this name on the shelf
abbrev pub card_named : List Card → List ℕ → Option Card
card_named cards kind = named (λ (c : Card). c.name) cards kind

abbrev pub kind_names : List Card → List (List ℕ)
kind_names cards = map (λ (c : Card). c.name) cards

-- the card of the unit of this name
abbrev pub card_of_unit : List Card → Design → List ℕ → Option Card
card_of_unit cards design unit = option_and_then (λ (u : Resource). slice_get cards u.kind) (unit_named design unit)
