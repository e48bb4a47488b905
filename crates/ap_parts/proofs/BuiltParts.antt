-- What is built are the parts of a design: where they stand, and that they are found by their names, which differ.
use Rattle.std.proofs.Common.{◌≡◌, ◌≢◌, ℕ, ◌+◌, ◌<◌, ◌&&◌, Bool, true, false, List, [], ◌++◌, length, map, Some, nat_lt, refl, sym, ap, subst, ◌∙◌, arith, zero-add}
use Rattle.std.specs.Prelude.{codes, if◌then◌else◌, slice_get}
use Rattle.std.specs.List.{AllByRecursion as Each}
use Rattle.std.specs.Option.{option_map_or}
use Rattle.std.specs.Str.{bytes_eq}
use Rattle.std.proofs.lemmas.Bool.{and_parts}
use Rattle.std.proofs.lemmas.List.{map-append}
use Rattle.std.proofs.lemmas.Option.{slice_get_within}
use Rattle.std.proofs.lemmas.Slice.Eq.{bytes_eq-Decides}
use Rattle.ap_bits.specs.Cards.{cycles_at, latency_at, select_width}
use Rattle.ap_bits.specs.declared.card.Card.{Card}
use Rattle.ap_bits.specs.declared.card.Latency.{Latency}
use Rattle.ap_bits.specs.declared.card.Latency.TheVariants.{One, WidthPlusOne}
use Rattle.ap_ctl.proofs.Beside.{EachFrom-at, EachFrom-second, EachPair-at, EachPair-length, EachPair-second}
use Rattle.ap_desc.specs.Clean.{FitsCards}
use Rattle.ap_desc.specs.declared.design.Design.{Design}
use Rattle.ap_desc.specs.declared.design.File.{File}
use Rattle.ap_desc.specs.declared.design.Unit.{Unit as Resource}
use Rattle.ap_net.specs.Modules.{IsModule, ModuleText, module_named}
use Rattle.ap_net.specs.Names.{AreDistinct}
use Rattle.ap_net.specs.Responding.{DependsAs}
use Rattle.ap_net.specs.Wiring.{IsOrdered}
use Rattle.ap_net.proofs.Laws.{depend_on_all}
use Rattle.ap_net.proofs.Lists.{All-join, All-map, All-unmap, Each-at, get_left, get_right, some_same}
use Rattle.ap_net.proofs.Netlists.{named_once}
use Rattle.ap_net.proofs.Renumbered.{some_within}
use Rattle.ap_store.specs.FileModules.{FilesDepend, file_needs}
use Rattle.ap_unit.specs.Slow.{SlowUnitsDepend, slow_needs}
use Rattle.ap_parts.specs.Known.{AreFirstKinds, HasParts, HasUnitNamed, is_file_name, is_slow_name, known_by, needs_by}
use Rattle.ap_parts.specs.Parts.{AreBuilt, AreParts, HasFileModule, IsFileModule, IsKindModule, IsNthFile, StandsAt, file_module_name, kind_module_name, kind_name, kind_of, kinds_of, part_names, unit_module_name}
use Rattle.ap_parts.specs.declared.modules.KindWidth.{KindWidth}
use Rattle.ap_parts.proofs.FileNames.{file_is_no_kind, file_is_not_top, file_modules_differ, kind_is_not_top}
use Rattle.ap_parts.proofs.FittingKinds.{first_kinds_fit}
use Rattle.ap_parts.proofs.KindNames.{kind_names_differ, kinds_differ, named}
use Rattle.ap_parts.proofs.KnownPorts.{card_at}
use Rattle.ap_parts.proofs.Lists.{any_there, distinct_join, pair_at, same_map}

abbrev name_of : ModuleText → List ℕ
name_of m = m.name

slow_latency : (l : Latency) (w : ℕ) → nat_lt 1 (cycles_at l w) ≡ true → l ≡ WidthPlusOne
slow_latency One w h = cc
slow_latency WidthPlusOne w h = refl

-- the name of a kind's module by the shelf
pub kind_named : (cards : List Card) (p : KindWidth) (m : ModuleText) → IsKindModule cards p m → m.name ≡ named cards p
kind_named cards p m is = is.name ∙ ap (λ o. kind_module_name (option_map_or (λ (c : Card). c.name) o []) p.width) (sym is.at)

module _ (cards : List Card) (design : Design) (modules : List ModuleText) (places : List ℕ) (kinds : ℕ)
    (fits : FitsCards design cards) (built : AreBuilt cards design modules places kinds) where
  abbrev all_kinds : List KindWidth
  all_kinds = kinds_of [] design.units

  abbrev firsts : List ModuleText
  firsts = built.firsts

  abbrev files : List ModuleText
  files = built.adds.files

  -- Their names.

  first_names : map name_of firsts ≡ map (named cards) all_kinds
  first_names = same_map name_of (named cards) firsts all_kinds (EachPair-length (IsKindModule cards) all_kinds firsts built.are_kinds)
      (λ i m p at there. kind_named cards p m (EachPair-at (IsKindModule cards) all_kinds firsts built.are_kinds i p m there at))

  nth_file : (i : ℕ) (m : ModuleText) → slice_get files i ≡ Some m → IsNthFile design i m
  nth_file i m at = subst (λ k. IsNthFile design k m) (zero-add i) (EachFrom-at (IsNthFile design) 0 files built.adds.are.each i m at)

  last_names : map name_of files ≡ map file_module_name design.files
  last_names = same_map name_of file_module_name files design.files built.adds.are.count_is
      (λ i m f at there. let (g, g_at, is) = nth_file i m at in is.name ∙ ap file_module_name (some_same (sym g_at ∙ there)))

  names : map name_of modules ≡ part_names cards design
  names = ap (map name_of) built.adds.is ∙ map-append name_of firsts files ∙ (λ i. first_names i ++ last_names i)

  no_file : (p : KindWidth) → Each (λ y. y ≢ named cards p) (map file_module_name design.files)
  no_file p = All-map (λ y. y ≢ named cards p) file_module_name design.files
      (Each-at (λ f. file_module_name f ≢ named cards p) design.files (λ j f there. file_is_no_kind f (kind_name cards p.kind) p.width))

  names_differ : AreFirstKinds cards design → AreDistinct (part_names cards design)
  names_differ first = distinct_join (map (named cards) all_kinds) (map file_module_name design.files)
      (kind_names_differ cards all_kinds (first_kinds_fit cards design.units first fits.of_cards.units) (kinds_differ [] design.units tt))
      (file_modules_differ design fits.clean)
      (All-map (λ x. Each (λ y. y ≢ x) (map file_module_name design.files)) (named cards) all_kinds
      (Each-at (λ p. Each (λ y. y ≢ named cards p) (map file_module_name design.files)) all_kinds (λ i p at. no_file p)))

  distinct : AreFirstKinds cards design → AreDistinct (map name_of modules)
  distinct first = subst AreDistinct (sym names) (names_differ first)

  abbrev IsBelow : List ℕ → Type 0
  IsBelow name = name ≢ codes "top"

  kinds_below : Each IsBelow (map (named cards) all_kinds)
  kinds_below = All-map IsBelow (named cards) all_kinds
      (Each-at (λ p. IsBelow (named cards p)) all_kinds (λ i p at. kind_is_not_top (kind_name cards p.kind) p.width))

  files_below : Each IsBelow (map file_module_name design.files)
  files_below = All-map IsBelow file_module_name design.files (Each-at (λ f. IsBelow (file_module_name f)) design.files (λ i f at. file_is_not_top f))

  below : Each (λ (m : ModuleText). m.name ≢ codes "top") modules
  below = All-unmap IsBelow name_of modules
      (subst (Each IsBelow) (sym names) (All-join IsBelow (map (named cards) all_kinds) (map file_module_name design.files) kinds_below files_below))

  -- Where they stand.

  pub unit_at : (unit : ℕ) (u : Resource) → slice_get design.units unit ≡ Some u
      → (place : ℕ) × (slice_get places unit ≡ Some place) × (m : ModuleText) × (slice_get modules place ≡ Some m) × IsKindModule cards (kind_of u) m
  unit_at unit u at =
      let (place, there, stands) = pair_at (StandsAt all_kinds) design.units places built.stand unit u at in
      let (m, m_at, is) = pair_at (IsKindModule cards) all_kinds firsts built.are_kinds place (kind_of u) stands in
      (place, there, m, subst (λ l. slice_get l place ≡ Some m) (sym built.adds.is) (get_left firsts files place m m_at), is)

  pub file_at : (file : ℕ) (f : File) → slice_get design.files file ≡ Some f
      → (m : ModuleText) × (slice_get modules (kinds + file) ≡ Some m) × IsFileModule design file f m
  file_at file f at =
      let long : length files ≡ length design.files = built.adds.are.count_is in
      let low : file < length design.files = slice_get_within design.files file f at in
      let (m, m_at) = some_within files file (omega arith) in
      let (g, g_at, is) = nth_file file m m_at in
      let behind : slice_get (firsts ++ files) (length firsts + file) ≡ Some m = get_right firsts files file ∙ m_at in
      let here : slice_get (firsts ++ files) (kinds + file) ≡ Some m =
      subst (λ n. slice_get (firsts ++ files) (n + file) ≡ Some m) (sym built.count) behind in
      let same : g ≡ f = some_same (sym g_at ∙ at) in
      (m, subst (λ l. slice_get l (kinds + file) ≡ Some m) (sym built.adds.is) here, subst (λ x. IsFileModule design file x m) same is)

  -- Each is found by its name.

  found : AreDistinct (map name_of modules) → (k : ℕ) (m : ModuleText) (name : List ℕ) → slice_get modules k ≡ Some m → m.name ≡ name
      → module_named modules name ≡ Some m
  found apart k m name at is = ap (module_named modules) (sym is) ∙ named_once modules k m apart at

  unit_found : AreDistinct (map name_of modules) → (unit : ℕ) (u : Resource) → slice_get design.units unit ≡ Some u
      → HasUnitNamed cards modules (unit_module_name cards u) ((known_by cards).selects u) u
  unit_found apart unit u at =
      let (place, there, m, m_at, is) = unit_at unit u at in
      record {
        card = is.card;
        at = is.at;
        whole = m;
        found = found apart place m (unit_module_name cards u) m_at (kind_named cards (kind_of u) m is);
        is_unit = is.is_unit;
        same = sym (ap (λ o. option_map_or select_width o 1) is.at);
      }

  file_found : AreDistinct (map name_of modules) → (file : ℕ) (f : File) → slice_get design.files file ≡ Some f → HasFileModule design modules file f
  file_found apart file f at =
      let (m, m_at, is) = file_at file f at in
      record {
        whole = m;
        found = found apart (kinds + file) m (file_module_name f) m_at is.name;
        stages = is.stages;
        are = is.are;
        is_file = is.is_file;
      }

  pub are_parts : AreFirstKinds cards design → AreParts cards design modules
  are_parts first = record {
    names = names;
    units = λ unit u at.
        let h = unit_found (distinct first) unit u at in
        record { card = h.card; at = h.at; whole = h.whole; found = h.found; is_unit = h.is_unit };
    files = file_found (distinct first);
  }

  -- What is found by a name is what stands under it.
  same_module : AreDistinct (map name_of modules) → (k : ℕ) (m whole : ModuleText) (name : List ℕ) → slice_get modules k ≡ Some m
      → bytes_eq m.name name ≡ true → module_named modules name ≡ Some whole → whole ≡ m
  same_module apart k m whole name at is there = some_same (sym there ∙ found apart k m name at ((bytes_eq-Decides m.name name).0 is))

  module _ (slow_depend : SlowUnitsDepend) (files_depend : FilesDepend) (apart : AreDistinct (map name_of modules))
      (k : ℕ) (m : ModuleText) (at : slice_get modules k ≡ Some m) where
    file_depends : (b : Bool) → is_file_name design m.name ≡ b → DependsAs m (if b then file_needs else λ p q. true)
    file_depends false none = depend_on_all m
    file_depends true some =
        let (number, f, there, on) = any_there (λ (f : File). bytes_eq m.name (file_module_name f)) design.files some in
        let h : HasFileModule design modules number f = file_found apart number f there in
        let same : h.whole ≡ m = same_module apart k m h.whole (file_module_name f) at on h.found in
        subst (λ x. DependsAs x file_needs) same (files_depend h.whole f h.stages h.is_file)

    depends_by : (b : Bool) → is_slow_name (unit_module_name cards) design m.name ≡ b
        → DependsAs m (if b then slow_needs else if is_file_name design m.name then file_needs else λ p q. true)
    depends_by false none = file_depends (is_file_name design m.name) refl
    depends_by true some =
        let is_of = λ (v : Resource). nat_lt 1 v.latency && bytes_eq m.name (unit_module_name cards v) in
        let (number, v, there, on) = any_there is_of design.units some in
        let both = and_parts (nat_lt 1 v.latency) (bytes_eq m.name (unit_module_name cards v)) on in
        let h : HasUnitNamed cards modules (unit_module_name cards v) ((known_by cards).selects v) v = unit_found apart number v there in
        let (c, c_at, c_fits, latency) = card_at cards design fits number v there in
        let cycles : v.latency ≡ latency_at h.card v.width = latency ∙ ap (λ (x : Card). latency_at x v.width) (some_same (sym c_at ∙ h.at)) in
        let slow : h.card.latency ≡ WidthPlusOne = slow_latency h.card.latency v.width (ap (λ n. nat_lt 1 n) (sym cycles) ∙ both.0) in
        let same : h.whole ≡ m = same_module apart k m h.whole (unit_module_name cards v) at both.1 h.found in
        subst (λ x. DependsAs x slow_needs) same (slow_depend h.whole h.card v.width slow h.is_unit)

    depends : DependsAs m (needs_by (unit_module_name cards) design m.name)
    depends = depends_by (is_slow_name (unit_module_name cards) design m.name) refl

  abbrev HasOrder : ModuleText → Type 0
  HasOrder m = IsOrdered m.assigns

  abbrev Depends : ModuleText → Type 0
  Depends m = DependsAs m (needs_by (unit_module_name cards) design m.name)

  -- So they have all that a top needs.
  pub have_parts : SlowUnitsDepend → FilesDepend → AreFirstKinds cards design → HasParts (known_by cards) cards design modules
  have_parts slow_depend files_depend first = record {
    each = subst (Each IsModule) (sym built.adds.is) (All-join IsModule firsts files
        (EachPair-second (IsKindModule cards) IsModule (λ p m is. is.kept) all_kinds firsts built.are_kinds)
        (EachFrom-second (IsNthFile design) IsModule (λ n m is. is.2.kept) 0 files built.adds.are.each));
    distinct = distinct first;
    below = below;
    ordered = subst (Each HasOrder) (sym built.adds.is) (All-join HasOrder firsts files
        (EachPair-second (IsKindModule cards) HasOrder (λ p m is. is.is_unit.ordered) all_kinds firsts built.are_kinds)
        (EachFrom-second (IsNthFile design) HasOrder (λ n m is. is.2.is_file.ordered) 0 files built.adds.are.each));
    dependent = Each-at Depends modules (λ k m at. depends slow_depend files_depend (distinct first) k m at);
    units = unit_found (distinct first);
    files = file_found (distinct first);
  }
