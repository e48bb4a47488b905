-- Whether ports begin with those of a group.
use Rattle.std.proofs.Common.{◌≡◌, ℕ, true, List, [], ◌∷◌, ◌++◌, drop, Option, Some, None, refl, sym, ap, subst, ◌∙◌, append_assoc}
use Rattle.std.specs.Prelude.{codes, slice_get, IfNone, IfSome}
use Rattle.std.specs.Fmt.{decimal}
use Rattle.ap_bits.specs.Names.{IsName}
use Rattle.ap_net.specs.declared.net.Port.{Port}
use Rattle.ap_net.specs.Outside.{Group, FilePort, output, port_name, group_name, index_port, group_ports}
use Rattle.ap_net.proofs.Lists.{some_same}
use Rattle.ap_flat.specs.Ports.{BeginsWith, IsFileGroup, IsGroupBy, IsFilePort, IsGroup, IsPortNumber, IsStorage, group_port, storage_text}
use Rattle.ap_flat.specs.declared.outside.Storage.{Storage}
use Rattle.ap_flat.proofs.Betweens.{one_between}
use Rattle.ap_flat.proofs.PortLists.{name_no_underscore, no_cut, one_cut, one_number, port_same}
use Rattle.ap_flat.proofs.PortPieces.{begun_at}

-- the number of a file's port, if it has one
abbrev pub number_of : Option FilePort → Option ℕ
number_of None = None
number_of (Some p) = Some p.number

-- how a group's storage is written
text_of : (s : List ℕ) (p : Option FilePort) → port_name s p ≡ storage_text s (number_of p)
text_of s None = refl
text_of s (Some p) = refl

number_low : (p : Option FilePort) → IsFilePort p → IsPortNumber (number_of p)
number_low None h = tt
number_low (Some p) h = h

enable_text : (text : List ℕ) → group_port text (codes "e") ≡ codes "w_" ++ text ++ codes "_e"
enable_text text = append_assoc (codes "w_" ++ text) (codes "_") (codes "e")

abbrev ports_with : Group → Option FilePort → List Port
ports_with g o = (output (group_name g (codes "e")) 1 ∷ index_port g o) ++ output (group_name g (codes "v")) g.width ∷ []

pub group_ports_none : (g : Group) → g.port ≡ None → group_ports (g ∷ []) ≡ output (group_name g (codes "e")) 1 ∷ output (group_name g (codes "v")) g.width ∷ []
group_ports_none g e = ap (ports_with g) e

pub group_ports_some : (g : Group) (p : FilePort) → g.port ≡ Some p
    → group_ports (g ∷ []) ≡ output (group_name g (codes "e")) 1 ∷ output (group_name g (codes "x")) p.index ∷ output (group_name g (codes "v")) g.width ∷ []
group_ports_some g p e = ap (ports_with g) e

two : (ports : List Port) (a b : Port) → slice_get ports 0 ≡ Some a → slice_get ports 1 ≡ Some b → ports ≡ a ∷ b ∷ drop 2 ports
two [] a b ha hb = absurd cc
two (p ∷ []) a b ha hb = absurd cc
two (p ∷ q ∷ ports) a b ha hb = λ i. some_same ha i ∷ some_same hb i ∷ ports

three : (ports : List Port) (a b c : Port) → slice_get ports 0 ≡ Some a → slice_get ports 1 ≡ Some b → slice_get ports 2 ≡ Some c → ports ≡ a ∷ b ∷ c ∷ drop 3 ports
three [] a b c ha hb hc = absurd cc
three (p ∷ []) a b c ha hb hc = absurd cc
three (p ∷ q ∷ []) a b c ha hb hc = absurd cc
three (p ∷ q ∷ r ∷ ports) a b c ha hb hc = λ i. some_same ha i ∷ some_same hb i ∷ some_same hc i ∷ ports

-- the first port of a group, by its text
module _ (ports : List Port) (enable : Port) (text : List ℕ) (at : slice_get ports 0 ≡ Some enable) (named : enable.name ≡ codes "w_" ++ text ++ codes "_e") where
  first_is : (storage : List ℕ) (port : Option FilePort) → enable.output ≡ true → enable.width ≡ 1 → text ≡ port_name storage port → slice_get ports 0 ≡ Some (output (group_port (port_name storage port) (codes "e")) 1)
  first_is storage port leaves narrow same =
      at ∙ (λ i. Some (record { name = (named ∙ sym (enable_text text) ∙ ap (λ t. group_port t (codes "e")) same) i; width = narrow i; output = leaves i }))

  pub register_begins : (g : Group) → enable.output ≡ true → enable.width ≡ 1 → text ≡ g.storage → g.port ≡ None → slice_get ports 1 ≡ Some (output (group_port text (codes "v")) g.width) → BeginsWith ports (group_ports (g ∷ []))
  register_begins g leaves narrow same none value =
      let whole : text ≡ port_name g.storage g.port = same ∙ ap (port_name g.storage) (sym none) in
      let second : slice_get ports 1 ≡ Some (output (group_name g (codes "v")) g.width) = value ∙ ap (λ t. Some (output (group_port t (codes "v")) g.width)) whole in
      record {
        rest = drop 2 ports;
        split = two ports (output (group_name g (codes "e")) 1) (output (group_name g (codes "v")) g.width) (first_is g.storage g.port leaves narrow whole) second ∙ ap (λ l. l ++ drop 2 ports) (sym (group_ports_none g none));
      }

  pub file_begins : (g : Group) (number : ℕ) → enable.output ≡ true → enable.width ≡ 1 → text ≡ storage_text g.storage (Some number) → IsFileGroup text number ports g → BeginsWith ports (group_ports (g ∷ []))
  file_begins g number leaves narrow same is =
      let p : FilePort = record { number = number; index = is.bits } in
      let whole : text ≡ port_name g.storage g.port = same ∙ ap (port_name g.storage) (sym is.port) in
      let second : slice_get ports 1 ≡ Some (output (group_name g (codes "x")) is.bits) = is.index ∙ ap (λ t. Some (output (group_port t (codes "x")) is.bits)) whole in
      let third : slice_get ports 2 ≡ Some (output (group_name g (codes "v")) g.width) = is.value ∙ ap (λ t. Some (output (group_port t (codes "v")) g.width)) whole in
      record {
        rest = drop 3 ports;
        split = three ports (output (group_name g (codes "e")) 1) (output (group_name g (codes "x")) is.bits) (output (group_name g (codes "v")) g.width) (first_is g.storage g.port leaves narrow whole) second third
            ∙ ap (λ l. l ++ drop 3 ports) (sym (group_ports_some g p is.port));
      }

-- what ports that begin with those of a group have
module _ (ports : List Port) (enable : Port) (at : slice_get ports 0 ≡ Some enable) (g : Group) (is : IsGroup g) (b : BeginsWith ports (group_ports (g ∷ []))) where
  enable_is : enable ≡ output (group_name g (codes "e")) 1
  enable_is = some_same (sym at ∙ begun_at ports (group_ports (g ∷ [])) 0 (output (group_name g (codes "e")) 1) b refl)

  pub enable_named : enable.name ≡ codes "w_" ++ port_name g.storage g.port ++ codes "_e"
  enable_named = (port_same enable_is).0 ∙ enable_text (port_name g.storage g.port)

  pub enable_leaves : enable.output ≡ true
  enable_leaves = ap (λ (p : Port). p.output) enable_is

  pub enable_narrow : enable.width ≡ 1
  enable_narrow = (port_same enable_is).1

  module _ (text : List ℕ) (named : enable.name ≡ codes "w_" ++ text ++ codes "_e") where
    text_is : text ≡ port_name g.storage g.port
    text_is = one_between (codes "w_") (codes "_e") text (port_name g.storage g.port) (sym named ∙ enable_named)

    pub storage_is : IsStorage text (record { name = g.storage; port = number_of g.port })
    storage_is = record { named = is.named; number = number_low g.port is.port; written = text_is ∙ text_of g.storage g.port }

    -- of a register
    pub register_port : (s : Storage) → IsStorage text s → s.port ≡ None → slice_get ports 1 ≡ Some (output (group_port text (codes "v")) g.width)
    register_port s stored none = go g.port refl where
      go : (o : Option FilePort) → g.port ≡ o → slice_get ports 1 ≡ Some (output (group_port text (codes "v")) g.width)
      go None e =
          begun_at ports (group_ports (g ∷ [])) 1 (output (group_name g (codes "v")) g.width) b (ap (λ l. slice_get l 1) (group_ports_none g e))
          ∙ ap (λ t. Some (output (group_port t (codes "v")) g.width)) (sym text_is)
      go (Some p) e = absurd (no_cut s.name g.storage (decimal p.number) (name_no_underscore s.name stored.named)
          (sym (stored.written ∙ ap (storage_text s.name) none) ∙ text_is ∙ ap (port_name g.storage) e ∙ append_assoc g.storage (codes "_") (decimal p.number)))

    pub register_none : (s : Storage) → IsStorage text s → s.port ≡ None → g.port ≡ None
    register_none s stored none = go g.port refl where
      go : (o : Option FilePort) → g.port ≡ o → g.port ≡ None
      go None e = e
      go (Some p) e = absurd (no_cut s.name g.storage (decimal p.number) (name_no_underscore s.name stored.named)
          (sym (stored.written ∙ ap (storage_text s.name) none) ∙ text_is ∙ ap (port_name g.storage) e ∙ append_assoc g.storage (codes "_") (decimal p.number)))

    -- of a file's port
    pub file_ports : (s : Storage) (number : ℕ) → IsStorage text s → s.port ≡ Some number → IsFileGroup text number ports g
    file_ports s number stored some = go g.port refl is.port where
      go : (o : Option FilePort) → g.port ≡ o → IsFilePort o → IsFileGroup text number ports g
      go None e low = absurd (no_cut g.storage s.name (decimal number) (name_no_underscore g.storage is.named)
          (sym (text_is ∙ ap (port_name g.storage) e) ∙ stored.written ∙ ap (storage_text s.name) some ∙ append_assoc s.name (codes "_") (decimal number)))
      go (Some p) e low =
          let parts = one_cut g.storage (decimal p.number) s.name (decimal number) (name_no_underscore g.storage is.named) (name_no_underscore s.name stored.named)
          (sym (append_assoc g.storage (codes "_") (decimal p.number)) ∙ sym (text_is ∙ ap (port_name g.storage) e) ∙ stored.written ∙ ap (storage_text s.name) some ∙ append_assoc s.name (codes "_") (decimal number)) in
          let same : p.number ≡ number = one_number p.number number low (subst IsPortNumber some stored.number) parts.1 in
          record {
            bits = p.index;
            port = e ∙ (λ i. Some (record { number = same i; index = p.index }));
            index = begun_at ports (group_ports (g ∷ [])) 1 (output (group_name g (codes "x")) p.index) b (ap (λ l. slice_get l 1) (group_ports_some g p e)) ∙ ap (λ t. Some (output (group_port t (codes "x")) p.index)) (sym text_is);
            value = begun_at ports (group_ports (g ∷ [])) 2 (output (group_name g (codes "v")) g.width) b (ap (λ l. slice_get l 2) (group_ports_some g p e)) ∙ ap (λ t. Some (output (group_port t (codes "v")) g.width)) (sym text_is);
          }

-- the group of a storage that is written in the enable's name
module _ (ports : List Port) (enable : Port) (text : List ℕ) (at : slice_get ports 0 ≡ Some enable) (named : enable.name ≡ codes "w_" ++ text ++ codes "_e") (s : Storage) (stored : IsStorage text s) where
  is_group : enable.output ≡ true → enable.width ≡ 1 → (o : Option ℕ) → s.port ≡ o → (g : Group) → g.storage ≡ s.name → IsGroupBy text o ports g → IsGroup g × BeginsWith ports (group_ports (g ∷ []))
  is_group leaves narrow None e g same h = (
    record { named = subst IsName (sym same) stored.named; port = subst IsFilePort (sym h.0) tt },
    register_begins ports enable text at named g leaves narrow (stored.written ∙ ap (storage_text s.name) e ∙ sym same) h.0 h.1,
  )
  is_group leaves narrow (Some n) e g same h = (
    record { named = subst IsName (sym same) stored.named; port = subst IsFilePort (sym h.port) (subst IsPortNumber e stored.number) },
    file_begins ports enable text at named g n leaves narrow (stored.written ∙ ap (storage_text s.name) e ∙ ap (λ x. storage_text x (Some n)) (sym same)) h,
  )

  pub group_found : enable.output ≡ true → enable.width ≡ 1 → (found : Option Group) → IfSome found (λ g. (g.storage ≡ s.name) × IsGroupBy text s.port ports g) → IfSome found (λ g. IsGroup g × BeginsWith ports (group_ports (g ∷ [])))
  group_found leaves narrow None h = tt
  group_found leaves narrow (Some g) h = is_group leaves narrow s.port refl g h.0 h.1

  by_group : (g : Group) → IsGroup g → BeginsWith ports (group_ports (g ∷ [])) → (o : Option ℕ) → s.port ≡ o → IsGroupBy text o ports g
  by_group g is b None e = (register_none ports enable at g is b text named s stored e, register_port ports enable at g is b text named s stored e)
  by_group g is b (Some n) e = file_ports ports enable at g is b text named s n stored e

  pub no_group_found : (found : Option Group) → IfNone found ((g : Group) → IsGroupBy text s.port ports g → ⊥) → IfNone found ((g : Group) → IsGroup g → BeginsWith ports (group_ports (g ∷ [])) → ⊥)
  no_group_found None none = λ g is b. none g (by_group g is b s.port refl)
  no_group_found (Some g) h = tt
