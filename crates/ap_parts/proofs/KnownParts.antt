-- What a top knows of its modules holds: of those that are built, and of any that have the parts.
use Rattle.std.proofs.Common.{◌≡◌, ℕ, ◌+◌, ◌≤◌, ◌&&◌, Bool, true, false, List, [], ◌∷◌, length, map, Option, None, Some, nat_lt, refl, sym, ap, subst, ◌∙◌, arith}
use Rattle.std.specs.Prelude.{if◌then◌else◌, position, slice_get}
use Rattle.std.proofs.lemmas.List.{length-append}
use Rattle.std.specs.Option.{option_map_or}
use Rattle.std.specs.Str.{bytes_eq}
use Rattle.std.proofs.lemmas.Bool.{and_parts, lt-ltb}
use Rattle.std.proofs.lemmas.Slice.Eq.{bytes_eq-Decides}
use Rattle.ap_bits.specs.Cards.{FitsWidth, latency_at, select_width}
use Rattle.ap_bits.specs.declared.card.Card.{Card}
use Rattle.ap_ctl.proofs.Beside.{EachPair-length}
use Rattle.ap_desc.specs.Clean.{FitsCards}
use Rattle.ap_desc.specs.declared.design.Design.{Design}
use Rattle.ap_desc.specs.declared.design.File.{File}
use Rattle.ap_desc.specs.declared.design.Unit.{Unit as Resource}
use Rattle.ap_net.specs.declared.net.Port.{Port}
use Rattle.ap_net.specs.Modules.{ModuleText, module_named}
use Rattle.ap_net.proofs.Lists.{Each-at, some_same}
use Rattle.ap_net.proofs.Parts.{All-named}
use Rattle.ap_store.specs.FileModules.{file_needs}
use Rattle.ap_store.specs.FilePorts.{file_ports}
use Rattle.ap_unit.specs.Slow.{slow_needs}
use Rattle.ap_parts.specs.Known.{AreKnown, FilesAreFound, FilesNeed, HasUnitNamed, InstancesFit, StandsThere, UnitsAreFound, UnitsNeed, is_file_name, is_slow_name, known_by, known_ports}
use Rattle.ap_parts.specs.Parts.{AreBuilt, HasFileModule, IsKindModule, StandsAt, file_module_name, is_alike, kind_of, kinds_of, unit_module_name, with_kind, with_kind_at}
use Rattle.ap_parts.specs.declared.modules.KindWidth.{KindWidth}
use Rattle.ap_parts.proofs.BuiltParts.{file_at, kind_named, unit_at}
use Rattle.ap_parts.proofs.FileNames.{file_is_no_kind}
use Rattle.ap_parts.proofs.KnownPorts.{card_at, ports_known}
use Rattle.ap_parts.proofs.Lists.{any_at, any_there, pairs_from}

-- no more kinds and widths are gathered than there are units
with_count : (kinds : List KindWidth) (p : KindWidth) (o : Option ℕ) → length (with_kind_at o kinds p) ≤ length kinds + 1
with_count kinds p None = omega (arith, length-append kinds (p ∷ []))
with_count kinds p (Some place) = omega arith

kinds_count : (kinds : List KindWidth) (units : List Resource) → length (kinds_of kinds units) ≤ length kinds + length units
kinds_count kinds [] = omega arith
kinds_count kinds (u ∷ units) =
    omega (arith, kinds_count (with_kind kinds (kind_of u)) units, with_count kinds (kind_of u) (position (is_alike (kind_of u)) kinds))

module _ (cards : List Card) (design : Design) (modules : List ModuleText) (places : List ℕ) (kinds : ℕ)
    (fits : FitsCards design cards) (built : AreBuilt cards design modules places kinds) where
  abbrev UnitStands : Resource → ℕ → Type 0
  UnitStands u place = StandsThere modules place (unit_module_name cards u) (known_ports (known_by cards) u)

  unit_stands : (unit : ℕ) (u : Resource) (place : ℕ) → slice_get design.units unit ≡ Some u → slice_get places unit ≡ Some place
      → UnitStands u place
  unit_stands unit u place at there =
      let (own, own_at, m, m_at, is) = unit_at cards design modules places kinds fits built unit u at in
      let (c, c_at, c_fits, latency) = card_at cards design fits unit u at in
      let card : c ≡ is.card = some_same (sym c_at ∙ is.at) in
      let width : FitsWidth is.card u.width = subst (λ x. FitsWidth x u.width) card c_fits in
      let cycles : u.latency ≡ latency_at is.card u.width = latency ∙ ap (λ (x : Card). latency_at x u.width) card in
      let select : select_width is.card ≡ (known_by cards).selects u = sym (ap (λ o. option_map_or select_width o 1) is.at) in
      record {
        whole = m;
        at = ap (slice_get modules) (some_same (sym there ∙ own_at)) ∙ m_at;
        named = kind_named cards (kind_of u) m is;
        has = is.is_unit.ports ∙ ports_known is.card u ((known_by cards).selects u) width cycles select;
      }

  file_stands : (file : ℕ) (f : File) → slice_get design.files file ≡ Some f → StandsThere modules (kinds + file) (file_module_name f) (file_ports f)
  file_stands file f at =
      let (m, m_at, is) = file_at cards design modules places kinds fits built file f at in
      record { whole = m; at = m_at; named = is.name; has = is.is_file.ports }

  all : length modules ≡ length built.firsts + length built.adds.files
  all = ap length built.adds.is ∙ length-append built.firsts built.adds.files

  firsts_count : length built.firsts ≡ length (kinds_of [] design.units)
  firsts_count = EachPair-length (IsKindModule cards) (kinds_of [] design.units) built.firsts built.are_kinds

  pub are_known : AreKnown (known_by cards) design modules places kinds
  are_known = record {
    units = pairs_from UnitStands design.units places
        (EachPair-length (StandsAt (kinds_of [] design.units)) design.units places built.stand) unit_stands;
    files = file_stands;
    within = omega (arith, all, built.count);
    few = omega (arith, all, firsts_count, kinds_count [] design.units, built.adds.are.count_is);
  }

-- Any modules that have the parts.

pub units_are_found : UnitsAreFound
units_are_found knows cards design modules fits has unit u at =
    let h : HasUnitNamed cards modules (knows.names u) (knows.selects u) u = has.units unit u at in
    let (c, c_at, c_fits, latency) = card_at cards design fits unit u at in
    let card : c ≡ h.card = some_same (sym c_at ∙ h.at) in
    let width : FitsWidth h.card u.width = subst (λ x. FitsWidth x u.width) card c_fits in
    let cycles : u.latency ≡ latency_at h.card u.width = latency ∙ ap (λ (x : Card). latency_at x u.width) card in
    record { whole = h.whole; found = h.found; has = h.is_unit.ports ∙ ports_known h.card u (knows.selects u) width cycles h.same }

pub files_are_found : FilesAreFound
files_are_found knows cards design modules has file f at =
    let h : HasFileModule design modules file f = has.files file f at in
    record { whole = h.whole; found = h.found; has = h.is_file.ports }

pub instances_fit : InstancesFit
instances_fit modules m i joins h =
    let any = Each-at (λ (x : ModuleText). x ≡ x) modules (λ k x at. refl) in
    let name : h.whole.name ≡ m.name = (All-named (λ x. x ≡ x) modules m.name h.whole any h.found).1 in
    record {
      whole = h.whole;
      found = ap (module_named modules) joins.named ∙ h.found;
      connects = record {
        named = joins.named ∙ sym name;
        widths = joins.widths ∙ ap (map (λ (p : Port). p.width)) (sym h.has);
        drives = joins.drives ∙ ap (map (λ (p : Port). p.output)) (sym h.has);
      };
    }

-- What they depend on, by their names.

pub units_need : UnitsNeed
units_need knows design unit u at slow =
    let own : bytes_eq (knows.names u) (knows.names u) ≡ true = (bytes_eq-Decides (knows.names u) (knows.names u)).1 refl in
    let passes : (nat_lt 1 u.latency && bytes_eq (knows.names u) (knows.names u)) ≡ true = rw (lt-ltb 1 u.latency slow, own) refl in
    let is_of = λ (v : Resource). nat_lt 1 v.latency && bytes_eq (knows.names u) (knows.names v) in
    let is : is_slow_name knows.names design (knows.names u) ≡ true = any_at is_of design.units unit u at passes in
    ap (λ b. if b then slow_needs else if is_file_name design (knows.names u) then file_needs else λ p q. true) is

no_slow_unit : (cards : List Card) (design : Design) (f : File) (b : Bool) → is_slow_name (unit_module_name cards) design (file_module_name f) ≡ b
    → b ≡ false
no_slow_unit cards design f false e = refl
no_slow_unit cards design f true e =
    let is_of = λ (u : Resource). nat_lt 1 u.latency && bytes_eq (file_module_name f) (unit_module_name cards u) in
    let (unit, u, at, on) = any_there is_of design.units e in
    let both = and_parts (nat_lt 1 u.latency) (bytes_eq (file_module_name f) (unit_module_name cards u)) on in
    absurd (file_is_no_kind f _ u.width ((bytes_eq-Decides (file_module_name f) (unit_module_name cards u)).0 both.1))

pub files_need : FilesNeed
files_need cards design file f at =
    let name : List ℕ = file_module_name f in
    let own : bytes_eq name name ≡ true = (bytes_eq-Decides name name).1 refl in
    let is : is_file_name design name ≡ true = any_at (λ (g : File). bytes_eq name (file_module_name g)) design.files file f at own in
    let slow : Bool = is_slow_name (unit_module_name cards) design name in
    ap (λ b. if b then slow_needs else if is_file_name design name then file_needs else λ p q. true) (no_slow_unit cards design f slow refl)
    ∙ ap (λ b. if b then file_needs else λ p q. true) is
