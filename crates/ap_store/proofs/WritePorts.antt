-- Write ports that were declared.
use Rattle.std.proofs.Common.{◌≡◌, ℕ, ◌+◌, ◌<◌, ◌≤◌, ◌^◌, lit≤, false, List, [], ◌∷◌, ◌++◌, length, get_or, Some, refl, sym, ap, subst, ◌∙◌, arith, append_assoc, length-append, ⊎_elim}
use Rattle.std.specs.Prelude.{All, option_map, slice_get}
use Rattle.std.specs.Option.{option_map_or}
use Rattle.std.proofs.lemmas.Option.{slice_get-get_or, slice_get-map}
use Rattle.ap_desc.specs.declared.design.File.{File}
use Rattle.ap_desc.specs.Designs.{index_bits}
use Rattle.ap_net.specs.declared.cell.Wire.{Wire}
use Rattle.ap_net.specs.declared.net.Role.TheVariants as role
use Rattle.ap_net.specs.declared.net.ModuleNet.{ModuleNet}
use Rattle.ap_net.specs.declared.net.Port.{Port}
use Rattle.ap_net.specs.Modules.{ports_among}
use Rattle.ap_net.specs.Draft.{Draft, Extends, next_wire, with_net}
use Rattle.ap_net.proofs.Lists.{get_end, get_left}
use Rattle.ap_net.proofs.Drafts.{one_more_net}
use Rattle.ap_net.specs.Making.{Makes}
use Rattle.ap_net.proofs.Laws.{IsNet-Makes, stays}
use Rattle.ap_comb.specs.Choices.{IsOfWidth}
use Rattle.ap_comb.proofs.Halves.{IsOfWidth-Makes}
use Rattle.ap_unit.specs.Pieces.{input_net}
use Rattle.ap_unit.specs.Stepping.{wire}
use Rattle.ap_store.specs.declared.writes.WritePort.{WritePort}
use Rattle.ap_store.specs.FilePorts.{write_enable_name, write_index_name, write_ports, write_value_name}
use Rattle.ap_store.specs.Writers.{IsWriter, numbered_write, port_write}
use Rattle.ap_store.proofs.Drivers.{none}
use Rattle.ap_store.specs.Building.{AreWrites, IsWrite, with_write, write_wires}
use Rattle.ap_store.proofs.FileShapes.{HasShape}
use Rattle.ap_store.proofs.Grown.{ports_among-input}

pub write_declared : (d : Draft) (file : File) (number : ℕ) → IsWrite (with_write d file number) file number (write_wires d file)
write_declared d file number =
    let a : ModuleNet = input_net (write_enable_name number) 1 in
    let b : ModuleNet = input_net (write_index_name number) (index_bits file) in
    let c : ModuleNet = input_net (write_value_name number) file.width in
    let one : List ModuleNet = d.nets ++ a ∷ [] in
    let two : List ModuleNet = one ++ b ∷ [] in
    let long : length one ≡ length d.nets + 1 = length-append d.nets (a ∷ []) in
    let longer : length two ≡ length d.nets + 2 = (let e : length two ≡ length one + 1 = length-append one (b ∷ []) in omega arith) in
    record {
      enable = get_left two (c ∷ []) (length d.nets) a (get_left one (b ∷ []) (length d.nets) a (get_end d.nets a));
      index = get_left two (c ∷ []) (length d.nets + 1) b (subst (λ k. slice_get two k ≡ Some b) long (get_end one b));
      value = subst (λ k. slice_get (two ++ c ∷ []) k ≡ Some c) longer (get_end two c);
      enable_width = refl;
      index_width = refl;
      value_width = refl;
    }

pub write_shown : (d : Draft) (file : File) (number : ℕ) → ports_among (with_write d file number).nets ≡ ports_among d.nets ++ write_ports file number
write_shown d file number =
    let a : ModuleNet = input_net (write_enable_name number) 1 in
    let b : ModuleNet = input_net (write_index_name number) (index_bits file) in
    let one : List ModuleNet = d.nets ++ a ∷ [] in
    let two : List ModuleNet = one ++ b ∷ [] in
    let p : Port = record { name = write_enable_name number; width = 1; output = false } in
    let q : Port = record { name = write_index_name number; width = index_bits file; output = false } in
    let r : Port = record { name = write_value_name number; width = file.width; output = false } in
    ports_among-input two (write_value_name number) file.width
    ∙ ap (λ l. l ++ r ∷ []) (ports_among-input one (write_index_name number) (index_bits file) ∙ ap (λ l. l ++ q ∷ []) (ports_among-input d.nets (write_enable_name number) 1) ∙ append_assoc (ports_among d.nets) (p ∷ []) (q ∷ []))
    ∙ append_assoc (ports_among d.nets) (p ∷ q ∷ []) (r ∷ [])

pub IsWrite-Extends : (a b : Draft) (file : File) (number : ℕ) (port : WritePort) → Extends a b → IsWrite a file number port → IsWrite b file number port
IsWrite-Extends a b file number port e h = record {
  enable = stays a.nets b.nets e.nets port.enable.number _ h.enable;
  index = stays a.nets b.nets e.nets port.index.number _ h.index;
  value = stays a.nets b.nets e.nets port.value.number _ h.value;
  enable_width = h.enable_width;
  index_width = h.index_width;
  value_width = h.value_width;
}

-- one port more
pub writes_with : (a b : Draft) (file : File) (ports : List WritePort) (number : ℕ) → Extends a b → length ports ≡ number → AreWrites a file ports → IsWrite b file number (write_wires a file) → AreWrites b file (ports ++ write_wires a file ∷ [])
writes_with a b file ports number e long before new k port at =
    ⊎_elim
    (λ old. IsWrite-Extends a b file k port e (before k port old))
    (λ last.
    let here : number ≡ k = sym (last.0 ∙ long) in
    subst (λ p. IsWrite b file k p) (sym last.1) (subst (λ n. IsWrite b file n (write_wires a file)) here new))
    (one_more_net ports (write_wires a file) k port at)

-- a declared net
pub net_there : (nets : List ModuleNet) (w : Wire) (net : ModuleNet) → slice_get nets w.number ≡ Some net → w.width ≡ net.width → 1 ≤ net.width → net.width ≤ 64 → IsOfWidth nets net.width w
net_there nets w net at wide low high = record {
  net = record { declared = slice_get-map (λ (x : ModuleNet). x.width) nets w.number ∙ ap (option_map (λ (x : ModuleNet). x.width)) at ∙ ap Some (sym wide); low = rw wide low; high = rw wide high };
  wide = wide;
}

pub are_writers : (d : Draft) (file : File) (ports : List WritePort) (count : ℕ) → HasShape file → count ≡ file.cells → AreWrites d file ports → All (IsWriter d.nets file.width count) ports
are_writers d file ports count shape all writes i p lt =
    let port : WritePort = get_or ports i p in
    let h : IsWrite d file i port = writes i port (slice_get-get_or ports i p lt) in
    let few = shape.few_bits in
    record {
      enable = net_there d.nets port.enable _ h.enable h.enable_width (lit≤ tt) (lit≤ tt);
      index = (net_there d.nets port.index _ h.index h.index_width shape.some_bits (omega arith)).net;
      value = net_there d.nets port.value _ h.value h.value_width shape.low shape.high;
      room = ap (λ k. 2 ^ k) h.index_width ∙ shape.power ∙ sym all;
    }

-- the wires of a write port whose inputs are declared one after another
pub three_wires : (d0 d1 d2 : Draft) (file : File) (number bits : ℕ) (enable index value : Wire) → d1 ≡ with_net d0 (write_enable_name number) 1 role.Input → d2 ≡ with_net d1 (write_index_name number) (index_bits file) role.Input → bits ≡ index_bits file
    → enable ≡ next_wire d0 1 → index ≡ next_wire d1 bits → value ≡ next_wire d2 file.width → (let port : WritePort = record { enable = enable; index = index; value = value } in port ≡ write_wires d0 file)
three_wires d0 d1 d2 file number bits enable index value one two wide e x v =
    let long : length d1.nets ≡ length d0.nets + 1 = ap (λ (d : Draft). length d.nets) one ∙ length-append d0.nets (input_net (write_enable_name number) 1 ∷ []) in
    let more : length d2.nets ≡ length d1.nets + 1 = ap (λ (d : Draft). length d.nets) two ∙ length-append d1.nets (input_net (write_index_name number) (index_bits file) ∷ []) in
    let longer : length d2.nets ≡ length d0.nets + 2 = omega arith in
    let index_is : index ≡ wire (length d0.nets + 1) (index_bits file) = x ∙ (λ i. wire (long i) (wide i)) in
    let value_is : value ≡ wire (length d0.nets + 2) file.width = v ∙ (λ i. wire (longer i) file.width) in
    (λ i. record { enable = e i; index = index_is i; value = value_is i })

-- the nets of a write port stay where wires are made
pub IsWriter-Makes : (a b : Draft) (width count : ℕ) (port : WritePort) → Makes a b → IsWriter a.nets width count port → IsWriter b.nets width count port
IsWriter-Makes a b width count port m h = record {
  enable = IsOfWidth-Makes a b 1 port.enable m h.enable;
  index = IsNet-Makes a b port.index m h.index;
  value = IsOfWidth-Makes a b width port.value m h.value;
  room = h.room;
}

-- what stands for a port where there is none
abbrev pub no_port : WritePort
no_port = record { enable = none; index = none; value = none }

-- what a port writes that has this number
pub numbered_is : (read : ℕ → ℕ) (ports : List WritePort) (n : ℕ) → n < length ports → port_write read (get_or ports n no_port) ≡ numbered_write read ports n
numbered_is read ports n lt = ap (λ o. option_map_or (port_write read) o []) (sym (slice_get-get_or ports n no_port lt))

-- no ports
pub no_writes : (d : Draft) (file : File) → AreWrites d file []
no_writes d file number port at = cc
