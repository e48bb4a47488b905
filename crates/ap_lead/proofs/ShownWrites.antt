-- The outputs of write ports, found among those of the groups.
use Rattle.std.proofs.Common.{◌≡◌, ◌≢◌, ℕ, suc, ◌+◌, ◌<◌, ◌==◌, ◌&&◌, Bool, true, false, if◌then◌else◌, List, [], ◌∷◌, length, map, Option, Some, None, refl, sym, ap, subst, ◌∙◌, arith}
use Rattle.std.specs.Prelude.{codes, find, slice_get}
use Rattle.std.specs.List.{AllByRecursion as Each, range_with_len}
use Rattle.std.specs.Option.{option_map, option_map_or}
use Rattle.std.proofs.lemmas.Option.{slice_get_within}
use Rattle.ap_desc.specs.Designs.{index_bits}
use Rattle.ap_desc.specs.declared.design.Design.{Design}
use Rattle.ap_desc.specs.declared.design.File.{File}
use Rattle.ap_desc.specs.declared.design.Reg.{Reg}
use Rattle.ap_model.specs.declared.storage.WritePort.{WritePort}
use Rattle.ap_model.specs.declared.storage.WritePort.TheVariants as port
use Rattle.ap_model.specs.Ports.{is_same_port, is_used, write_count, write_groups}
use Rattle.ap_model.proofs.ListLemmas.{each_in_range, found_keeps}
use Rattle.ap_model.proofs.PortsOnce.{same_port}
use Rattle.ap_net.specs.declared.cell.Wire.{Wire}
use Rattle.ap_net.specs.Draft.{Draft, IsKept}
use Rattle.ap_net.specs.Outside.{Group, group_name, output}
use Rattle.ap_net.proofs.Lists.{All-from, All-map}
use Rattle.ap_signals.specs.DesignOutside.{file_group, group_of, reg_group}
use Rattle.ap_border.specs.Named.{IsNamed}
use Rattle.ap_ctl.specs.Lists.{EachPair}
use Rattle.ap_bank.specs.declared.files.FileWrite.{FileWrite}
use Rattle.ap_bank.specs.declared.regs.RegWrite.{RegWrite}
use Rattle.ap_bank.specs.Banked.{IsPort as IsFilePort}
use Rattle.ap_bank.specs.Border.{IsShownWrite}
use Rattle.ap_bank.specs.FileBorder.{IsNamedPort}
use Rattle.ap_bank.specs.Regs.{IsReg, IsRegWrite}
use Rattle.ap_front.specs.declared.ports.GroupPorts.{GroupPorts}
use Rattle.ap_front.specs.Ports.{AreGroupPorts, ArePortsOf, IsIndex}
use Rattle.ap_front.proofs.Grouping.{cell_group, register_group}
use Rattle.ap_front.proofs.PortNets.{port_is_net, port_named}
use Rattle.ap_lead.specs.Writes.{FileWritesAreShown, IsShown, RegWritesAreShown, file_write, file_write_at, file_write_of, outputs_of, reg_write, reg_write_of}
use Rattle.ap_lead.proofs.Numbered.{each_from_range, range_long}
use Rattle.ap_lead.proofs.UsedPorts.{cell_unused, groups_used, reg_unused}

both_same : (a b : ℕ) → ((a == a) && (b == b)) ≡ true
both_same a b = grind arith

is_same : (n : ℕ) → (n == n) ≡ true
is_same n = grind arith

self_same : (p : WritePort) → is_same_port p p ≡ true
self_same (port.Register reg) = is_same reg
self_same (port.Cell file number) = both_same file number
self_same (port.Memory mem) = is_same mem

found_passes : {X : Type 0} (t : X → Bool) (xs : List X) (x : X) → find t xs ≡ Some x → t x ≡ true
found_passes t [] x e = cc
found_passes t (y ∷ ys) x e = go (t y) refl e (found_passes t ys x)
  where
    go : (b : Bool) → t y ≡ b → (if b then Some y else find t ys) ≡ Some x → (find t ys ≡ Some x → t x ≡ true) → t x ≡ true
    go true on e rest = let same : y ≡ x = cc in ap t (sym same) ∙ on
    go false on e rest = rest e

none_passes : {X : Type 0} (t : X → Bool) (xs : List X) → find t xs ≡ None → Each (λ x. t x ≡ false) xs
none_passes t [] e = tt
none_passes t (y ∷ ys) e = go (t y) refl e (none_passes t ys)
  where
    go : (b : Bool) → t y ≡ b → (if b then Some y else find t ys) ≡ None → (find t ys ≡ None → Each (λ x. t x ≡ false) ys) → Each (λ x. t x ≡ false) (y ∷ ys)
    go true off e rest = cc
    go false off e rest = (off, rest e)

-- where none of these outputs are the port's, the port isn't among theirs
not_among : (design : Design) (d : Draft) (p : WritePort) (ps : List WritePort) (groups : List GroupPorts) → EachPair (ArePortsOf design d) ps groups → Each (λ (g : GroupPorts). is_same_port p g.port ≡ false) groups → Each (λ q. q ≢ p) ps
not_among design d p [] [] h k = tt
not_among design d p [] (g ∷ groups) h k = absurd h
not_among design d p (q ∷ ps) [] h k = absurd h
not_among design d p (q ∷ ps) (g ∷ groups) h k = (
  (λ e. let clash : true ≡ false = sym (self_same p) ∙ ap (is_same_port p) (sym (h.0.of ∙ e)) ∙ k.0 in cc),
  not_among design d p ps groups h.1 k.1,
)

abbrev StandsFor : Design → Draft → WritePort → GroupPorts → Type 0
StandsFor design d p g = (is_used design p ≡ true) × AreGroupPorts d (group_of design p) g

stand_for : (design : Design) (d : Draft) (ps : List WritePort) (groups : List GroupPorts) → EachPair (ArePortsOf design d) ps groups → Each (λ q. is_used design q ≡ true) ps → Each (λ (g : GroupPorts). StandsFor design d g.port g) groups
stand_for design d [] [] h k = tt
stand_for design d [] (g ∷ groups) h k = absurd h
stand_for design d (q ∷ ps) [] h k = absurd h
stand_for design d (q ∷ ps) (g ∷ groups) h k = (subst (λ p. StandsFor design d p g) (sym h.0.of) (k.0, h.0.ports), stand_for design d ps groups h.1 k.1)

pub shown : (design : Design) (d : Draft) (p : WritePort) (groups : List GroupPorts) → EachPair (ArePortsOf design d) (write_groups design) groups → (Each (λ q. q ≢ p) (write_groups design) → is_used design p ≡ false) → IsShown design d p (outputs_of p groups)
shown design d p groups h none = go (outputs_of p groups) refl
  where
    go : (o : Option GroupPorts) → outputs_of p groups ≡ o → IsShown design d p o
    go None e = none (not_among design d p (write_groups design) groups h (none_passes (λ (g : GroupPorts). is_same_port p g.port) groups e))
    go (Some g) e =
        let same = same_port p g.port (found_passes (λ (x : GroupPorts). is_same_port p x.port) groups g e) in
        subst (λ q. StandsFor design d q g) (sym same) (found_keeps (λ (x : GroupPorts). StandsFor design d x.port x) (λ (x : GroupPorts). is_same_port p x.port) groups g e (stand_for design d (write_groups design) groups h (groups_used design)))

-- each group's port is used
pub uses_each : (design : Design) (d : Draft) (ps : List WritePort) (groups : List GroupPorts) → EachPair (ArePortsOf design d) ps groups → Each (λ q. is_used design q ≡ true) ps → Each (λ (g : GroupPorts). is_used design g.port ≡ true) groups
uses_each design d ps groups h k = All-from (λ (g : GroupPorts). StandsFor design d g.port g) (λ (g : GroupPorts). is_used design g.port ≡ true) (λ g s. s.0) groups (stand_for design d ps groups h k)

-- Registers.

reg_shown : (design : Design) (d : Draft) (reg : ℕ) (o : Option GroupPorts) → IsShown design d (port.Register reg) o → IsShownWrite design d reg (option_map reg_write_of o)
reg_shown design d reg None h = h
reg_shown design d reg (Some g) h = (
  h.0,
  port_named d (output (group_name (group_of design (port.Register reg)) (codes "e")) 1) g.enable h.1.enable,
  port_named d (output (group_name (group_of design (port.Register reg)) (codes "v")) (group_of design (port.Register reg)).width) g.value h.1.value,
)

reg_fits : (design : Design) (d : Draft) (reg : ℕ) (r : Reg) (register : Wire) (o : Option GroupPorts) → IsKept d → slice_get design.regs reg ≡ Some r → register.width ≡ r.width → IsShown design d (port.Register reg) o → IsRegWrite d.nets register (option_map reg_write_of o)
reg_fits design d reg r register None kept at wide h = tt
reg_fits design d reg r register (Some g) kept at wide h =
    let ports : AreGroupPorts d (reg_group r) g = subst (λ (x : Group). AreGroupPorts d x g) (register_group design reg r at) h.1 in (
      record { net = port_is_net d (output (group_name (reg_group r) (codes "e")) 1) g.enable kept ports.enable; bit = ports.enable.wide },
      record { net = port_is_net d (output (group_name (reg_group r) (codes "v")) r.width) g.value kept ports.value; same = ports.value.wide ∙ sym wide },
    )

pairs_fit : (d : Draft) (f : ℕ → Option RegWrite) (a : ℕ) (regs : List Reg) (registers : List Wire) → EachPair (IsReg d) regs registers
    → ((k n : ℕ) (r : Reg) (w : Wire) → n ≡ a + k → slice_get regs k ≡ Some r → w.width ≡ r.width → IsRegWrite d.nets w (f n)) → EachPair (IsRegWrite d.nets) registers (map f (range_with_len a (length regs)))
pairs_fit d f a [] [] h g = tt
pairs_fit d f a [] (w ∷ registers) h g = absurd h
pairs_fit d f a (r ∷ regs) [] h g = absurd h
pairs_fit d f a (r ∷ regs) (w ∷ registers) h g = (
  g 0 a r w (omega arith) refl h.0.wide,
  pairs_fit d f (a + 1) regs registers h.1 (λ k n s v e at wide. g (suc k) n s v (omega (arith, e)) at wide),
)

pub reg_writes_are_shown : RegWritesAreShown
reg_writes_are_shown design d p registers kept has regs =
    let one : (reg : ℕ) → reg < length design.regs → IsShown design d (port.Register reg) (outputs_of (port.Register reg) p.groups) = λ reg lt. shown design d (port.Register reg) p.groups has.groups (reg_unused design reg lt) in
    record {
      fit = pairs_fit d (reg_write p.groups) 0 design.regs registers regs (λ k n r w e at wide.
          let same : k ≡ n = omega (arith, e) in
          let at_n : slice_get design.regs n ≡ Some r = subst (λ m. slice_get design.regs m ≡ Some r) same at in
          reg_fits design d n r w (outputs_of (port.Register n) p.groups) kept at_n wide (one n (slice_get_within design.regs n r at_n)));
      shown = each_from_range (IsShownWrite design d) (reg_write p.groups) 0 (length design.regs) (λ k low high. reg_shown design d k (outputs_of (port.Register k) p.groups) (one k (omega (arith, high))));
    }

-- Files.

abbrev IsCell : Design → Draft → ℕ → ℕ → FileWrite → Type 0
IsCell design d file number w = IsNamedPort design d file number (Some w)

cell_named : (design : Design) (d : Draft) (file number : ℕ) (f : File) (o : Option GroupPorts) → slice_get design.files file ≡ Some f → IsShown design d (port.Cell file number) o → IsNamedPort design d file number (file_write_of o)
cell_named design d file number f None at h = h
cell_named design d file number f (Some g) at h = go g.index (subst (λ (x : Group). AreGroupPorts d x g) same h.1).index
  where
    same : group_of design (port.Cell file number) ≡ file_group number f
    same = cell_group design file number f at

    go : (index : Option Wire) → IsIndex d (file_group number f) (file_group number f).port index → IsNamedPort design d file number (file_write_at g index)
    go None k = absurd k
    go (Some w) k = (
      h.0,
      port_named d (output (group_name (group_of design (port.Cell file number)) (codes "e")) 1) g.enable h.1.enable,
      subst (λ (x : Group). IsNamed d (group_name x (codes "x")) w) (sym same) (port_named d (output (group_name (file_group number f) (codes "x")) (index_bits f)) w k),
      port_named d (output (group_name (group_of design (port.Cell file number)) (codes "v")) (group_of design (port.Cell file number)).width) g.value h.1.value,
    )

cell_fits : (design : Design) (d : Draft) (file number : ℕ) (f : File) (o : Option GroupPorts) → IsKept d → slice_get design.files file ≡ Some f → IsShown design d (port.Cell file number) o → IsFilePort f d.nets (file_write_of o)
cell_fits design d file number f None kept at h = tt
cell_fits design d file number f (Some g) kept at h = go g.index ports.index
  where
    ports : AreGroupPorts d (file_group number f) g
    ports = subst (λ (x : Group). AreGroupPorts d x g) (cell_group design file number f at) h.1

    go : (index : Option Wire) → IsIndex d (file_group number f) (file_group number f).port index → IsFilePort f d.nets (file_write_at g index)
    go None k = absurd k
    go (Some w) k = record {
      enable = record { net = port_is_net d (output (group_name (file_group number f) (codes "e")) 1) g.enable kept ports.enable; bit = ports.enable.wide };
      index = record { net = port_is_net d (output (group_name (file_group number f) (codes "x")) (index_bits f)) w kept k; wide = k.wide };
      value = record { net = port_is_net d (output (group_name (file_group number f) (codes "v")) f.width) g.value kept ports.value; wide = ports.value.wide };
    }

pub file_writes_are_shown : FileWritesAreShown
file_writes_are_shown design d p clean kept has file f at =
    let count : write_count design file ≡ f.writes = ap (λ (o : Option File). option_map_or (λ (x : File). x.writes) o 0) at in
    let one : (number : ℕ) → number < f.writes → IsShown design d (port.Cell file number) (outputs_of (port.Cell file number) p.groups) =
    λ number lt. shown design d (port.Cell file number) p.groups has.groups (cell_unused design file number clean (slice_get_within design.files file f at) (omega (arith, count, lt))) in
    record {
      fit = record {
        count = range_long (file_write p.groups file) 0 f.writes;
        each = All-map (IsFilePort f d.nets) (file_write p.groups file) (range_with_len 0 f.writes) (each_in_range (λ k. IsFilePort f d.nets (file_write p.groups file k)) 0 f.writes (λ k low high. cell_fits design d file k f (outputs_of (port.Cell file k) p.groups) kept at (one k (omega (arith, high)))));
      };
      named = each_from_range (IsNamedPort design d file) (file_write p.groups file) 0 f.writes (λ k low high. cell_named design d file k f (outputs_of (port.Cell file k) p.groups) at (one k (omega (arith, high))));
    }
