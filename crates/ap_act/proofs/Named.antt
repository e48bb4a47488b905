-- The outputs have their names and their bits, and each port through which some line writes has its outputs.
use Rattle.std.proofs.Common.{◌≡◌, ℕ, suc, ◌+◌, Bool, true, false, if◌then◌else◌, List, [], ◌∷◌, filter, flat_map, length, map, Option, Some, None, refl, sym, ap, subst, ◌∙◌, arith}
use Rattle.std.specs.Prelude.{codes, option_map, slice_get}
use Rattle.std.specs.List.{AllByRecursion as Each, range_with_len}
use Rattle.std.specs.Option.{option_map_or}
use Rattle.ap_desc.specs.Designs.{index_bits}
use Rattle.ap_desc.specs.declared.design.Design.{Design}
use Rattle.ap_desc.specs.declared.design.File.{File}
use Rattle.ap_desc.specs.declared.design.Mem.{Mem}
use Rattle.ap_desc.specs.declared.design.Reg.{Reg}
use Rattle.ap_image.specs.declared.shape.MemShape.{MemShape}
use Rattle.ap_model.specs.declared.storage.WritePort.{WritePort}
use Rattle.ap_model.specs.declared.storage.WritePort.TheVariants as port
use Rattle.ap_model.specs.Ports.{file_groups, file_ports, is_used, is_used_in, reg_ports, stages_from_last, write_groups}
use Rattle.ap_model.proofs.ListLemmas.{each_all, each_flat_map}
use Rattle.ap_net.specs.declared.cell.Wire.{Wire}
use Rattle.ap_net.specs.Draft.{Draft}
use Rattle.ap_net.specs.Outside.{Group, group_name, mem_name, output}
use Rattle.ap_net.proofs.Lists.{All-from, All-join}
use Rattle.ap_signals.specs.DesignOutside.{group_of, group_of_file, mem_at, mem_shape, reg_group}
use Rattle.ap_ctl.specs.Lists.{EachPair}
use Rattle.ap_border.specs.Named.{IsNamed}
use Rattle.ap_front.specs.declared.ports.GroupPorts.{GroupPorts}
use Rattle.ap_front.specs.declared.ports.MemPorts.{MemPorts}
use Rattle.ap_front.specs.Ports.{AreGroupPorts, AreMemPorts, ArePortsOf, IsIndex}
use Rattle.ap_front.proofs.Apart.{each_filter}
use Rattle.ap_front.proofs.GroupsOnce.{IsThere, groups_there}
use Rattle.ap_front.proofs.PortNets.{port_named}
use Rattle.ap_commit.specs.Standing.{IsIndexNamed}
use Rattle.ap_act.specs.Follow.{OutputsAreNamed}
use Rattle.ap_act.specs.Outputs.{IsOutputOf, group_outputs, mem_outputs, written_mems}
use Rattle.ap_act.proofs.Lines.{used_somewhere}

-- Some line writes through each port of the groups.

abbrev Used : Design → WritePort → Type 0
Used design q = is_used design q ≡ true

file_groups_used : (design : Design) (file : ℕ) → Each (Used design) (file_groups design file)
file_groups_used design file = each_flat_map (Used design) (λ stage. filter (is_used_in design stage) (file_ports design file)) (stages_from_last design)
    (each_all (λ stage. Each (Used design) (filter (is_used_in design stage) (file_ports design file)))
    (λ stage. All-from (λ q. is_used_in design stage q ≡ true) (Used design) (used_somewhere design stage) (filter (is_used_in design stage) (file_ports design file)) (each_filter (is_used_in design stage) (file_ports design file)))
    (stages_from_last design))

groups_used : (design : Design) → Each (Used design) (write_groups design)
unfolding write_groups
groups_used design = All-join (Used design) (filter (is_used design) (reg_ports design)) (flat_map (file_groups design) (range_with_len 0 (length design.files)))
    (each_filter (is_used design) (reg_ports design))
    (each_flat_map (Used design) (file_groups design) (range_with_len 0 (length design.files)) (each_all (λ file. Each (Used design) (file_groups design file)) (file_groups_used design) (range_with_len 0 (length design.files))))

-- Registers and files.

abbrev no_reg : Group
no_reg = record { storage = []; port = None; width = 0 }

reg_index : (d : Draft) (o : Option Reg) (index : Option Wire) → IsIndex d (option_map_or reg_group o no_reg) (option_map_or reg_group o no_reg).port index → index ≡ None
reg_index d None None h = refl
reg_index d None (Some w) h = absurd h
reg_index d (Some r) None h = refl
reg_index d (Some r) (Some w) h = absurd h

reg_wide : (o : Option Reg) → (option_map_or reg_group o no_reg).width ≡ option_map_or (λ (r : Reg). r.width) o 0
reg_wide None = refl
reg_wide (Some r) = refl

file_wide : (number : ℕ) (o : Option File) → (group_of_file number o).width ≡ option_map_or (λ (f : File). f.width) o 0
file_wide number None = refl
file_wide number (Some f) = refl

-- the index of a file's port has its name and its bits
pub record IsIndexOf (d : Draft) (name : List ℕ) (bits : ℕ) (index : Option Wire) : Type 0 where
  pub net : Wire
  pub is : index ≡ Some net
  pub named : IsNamed d name net
  pub wide : net.width ≡ bits

file_index : (d : Draft) (number : ℕ) (o : Option File) (index : Option Wire) → IsIndex d (group_of_file number o) (group_of_file number o).port index → IsIndexOf d (group_name (group_of_file number o) (codes "x")) (option_map_or index_bits o 0) index
file_index d number None None h = absurd h
file_index d number None (Some w) h = record { net = w; is = refl; named = port_named d (output (group_name (group_of_file number None) (codes "x")) 0) w h; wide = h.wide }
file_index d number (Some f) None h = absurd h
file_index d number (Some f) (Some w) h = record { net = w; is = refl; named = port_named d (output (group_name (group_of_file number (Some f)) (codes "x")) (index_bits f)) w h; wide = h.wide }

abbrev wide_of : Wire → ℕ
wide_of w = w.width

group_is : (design : Design) (d : Draft) (q : WritePort) (g : GroupPorts) → IsThere design q → Used design q → AreGroupPorts d (group_of design q) g → IsOutputOf design d (record { port = q; to = record { enable = g.enable; index = g.index; value = g.value } })
group_is design d (port.Register reg) g there used h =
    let none = reg_index d (slice_get design.regs reg) g.index h.index in
    record {
      used = used;
      named = record {
        enable = port_named d (output (group_name (group_of design (port.Register reg)) (codes "e")) 1) g.enable h.enable;
        index = none;
        value = port_named d (output (group_name (group_of design (port.Register reg)) (codes "v")) (group_of design (port.Register reg)).width) g.value h.value;
      };
      sized = record { enable = (h.enable).wide; index = ap (option_map wide_of) none; value = (h.value).wide ∙ reg_wide (slice_get design.regs reg) };
    }
group_is design d (port.Cell file number) g there used h =
    let i = file_index d number (slice_get design.files file) g.index h.index in
    record {
      used = used;
      named = record {
        enable = port_named d (output (group_name (group_of design (port.Cell file number)) (codes "e")) 1) g.enable h.enable;
        index = subst (IsIndexNamed design d (port.Cell file number)) (sym i.is) i.named;
        value = port_named d (output (group_name (group_of design (port.Cell file number)) (codes "v")) (group_of design (port.Cell file number)).width) g.value h.value;
      };
      sized = record { enable = (h.enable).wide; index = ap (option_map wide_of) i.is ∙ ap Some i.wide; value = (h.value).wide ∙ file_wide number (slice_get design.files file) };
    }
group_is design d (port.Memory mem) g there used h = absurd there

groups_are : (design : Design) (d : Draft) (ps : List WritePort) (groups : List GroupPorts) → Each (IsThere design) ps → Each (Used design) ps → EachPair (ArePortsOf design d) ps groups → Each (IsOutputOf design d) (map group_outputs groups)
groups_are design d [] [] there used h = tt
groups_are design d [] (g ∷ groups) there used h = absurd h
groups_are design d (q ∷ ps) [] there used h = absurd h
groups_are design d (q ∷ ps) (g ∷ groups) there used h = (
  subst (λ p. IsOutputOf design d (record { port = p; to = record { enable = g.enable; index = g.index; value = g.value } })) (sym (h.0).of) (group_is design d q g there.0 used.0 (h.0).ports),
  groups_are design d ps groups there.1 used.1 h.1,
)

-- Memories.

abbrev no_mem : MemShape
no_mem = record { name = []; address = 0; width = 0 }

mem_is : (design : Design) (d : Draft) (n : ℕ) (m : Mem) (p : MemPorts) → slice_get design.mems n ≡ Some m → Used design (port.Memory n) → AreMemPorts d m p → IsOutputOf design d (mem_outputs n p)
mem_is design d n m p at used h =
    let same : mem_at design n ≡ mem_shape m = ap (λ (o : Option Mem). option_map_or mem_shape o no_mem) at in
    record {
      used = used;
      named = record {
        enable = subst (λ (s : MemShape). IsNamed d (mem_name s (codes "we")) p.enable) (sym same) (port_named d (output (mem_name (mem_shape m) (codes "we")) 1) p.enable h.enable);
        index = subst (λ (s : MemShape). IsNamed d (mem_name s (codes "wa")) p.address) (sym same) (port_named d (output (mem_name (mem_shape m) (codes "wa")) m.address) p.address h.address);
        value = subst (λ (s : MemShape). IsNamed d (mem_name s (codes "wd")) p.value) (sym same) (port_named d (output (mem_name (mem_shape m) (codes "wd")) m.width) p.value h.value);
      };
      sized = record {
        enable = (h.enable).wide;
        index = ap Some ((h.address).wide ∙ sym (ap (λ (o : Option Mem). option_map_or (λ (x : Mem). x.address) o 0) at));
        value = (h.value).wide ∙ sym (ap (λ (o : Option Mem). option_map_or (λ (x : Mem). x.width) o 0) at);
      };
    }

mems_are : (design : Design) (d : Draft) (n : ℕ) (mems : List Mem) (ps : List MemPorts) → ((k : ℕ) (m : Mem) → slice_get mems k ≡ Some m → slice_get design.mems (n + k) ≡ Some m) → EachPair (AreMemPorts d) mems ps
    → Each (IsOutputOf design d) (written_mems design n ps)
mems_are design d n [] [] at h = tt
mems_are design d n [] (p ∷ ps) at h = absurd h
mems_are design d n (m ∷ mems) [] at h = absurd h
mems_are design d n (m ∷ mems) (p ∷ ps) at h =
    let here : n + 0 ≡ n = omega arith in
    let first : slice_get design.mems n ≡ Some m = subst (λ j. slice_get design.mems j ≡ Some m) here (at 0 m refl) in
    let rest = mems_are design d (n + 1) mems ps (λ k x e. let next : n + suc k ≡ n + 1 + k = omega arith in subst (λ j. slice_get design.mems j ≡ Some x) next (at (suc k) x e)) h.1 in
    go (is_used design (port.Memory n)) refl first rest
  where
    go : (b : Bool) → is_used design (port.Memory n) ≡ b → slice_get design.mems n ≡ Some m → Each (IsOutputOf design d) (written_mems design (n + 1) ps)
        → Each (IsOutputOf design d) (if b then mem_outputs n p ∷ written_mems design (n + 1) ps else written_mems design (n + 1) ps)
    go true on first rest = (mem_is design d n m p first on h.0, rest)
    go false off first rest = rest

pub outputs_are_named : OutputsAreNamed
outputs_are_named design d p clean h =
    All-join (IsOutputOf design d) (map group_outputs p.groups) (written_mems design 0 p.mems) (groups_are design d (write_groups design) p.groups (groups_there design clean) (groups_used design) h.groups)
    (mems_are design d 0 design.mems p.mems (λ k m e. let same : 0 + k ≡ k = omega arith in subst (λ j. slice_get design.mems j ≡ Some m) (sym same) e) h.mems)
