-- What serves a node, by the entry that is made for it.
use Rattle.std.proofs.Common.{◌≡◌, ℕ, ◌<◌, ◌≤◌, List, [], length, Some, refl, sym, subst, arith}
use Rattle.std.specs.Prelude.{◌&&◌, nat_le, slice_get}
use Rattle.std.specs.List.{AllByRecursion as Each, list_all}
use Rattle.std.proofs.lemmas.Bool.{and_parts, leb-true}
use Rattle.std.proofs.lemmas.Option.{slice_get_within}
use Rattle.ap_ctl.proofs.Beside.{EachPair-at, EachPair-length}
use Rattle.ap_desc.specs.Clean.{IsClean}
use Rattle.ap_desc.specs.Designs.{is_between, is_cell_count, is_file_within, is_mem_within, is_width}
use Rattle.ap_desc.specs.declared.design.Design.{Design}
use Rattle.ap_desc.specs.declared.design.File.{File}
use Rattle.ap_desc.specs.declared.design.Node.{Node as DesignNode}
use Rattle.ap_desc.specs.declared.design.Node.TheVariants as design_node
use Rattle.ap_net.specs.Modules.{ModuleText}
use Rattle.ap_net.proofs.Renumbered.{some_within}
use Rattle.ap_ports.specs.Numbers.{number_of_node}
use Rattle.ap_ports.proofs.Members.{passes_at}
use Rattle.ap_bank.specs.declared.bank.FileNets.{FileNets}
use Rattle.ap_front.specs.declared.ports.MemPorts.{MemPorts}
use Rattle.ap_slow.specs.declared.place.SlowPlaced.{SlowPlaced}
use Rattle.ap_stages.specs.declared.nodes.Supplied.{Supplied}
use Rattle.ap_supply.specs.Listing.{HasReadNets, HaveReadNets, IsFileNumber, IsListed, IsMemBy, IsMemEntry, IsMemNumber, IsReadBy, IsReadEntry, IsReadNumber, IsUnitEntry, IsUnitNumber, Lists, ServesUnit}
use Rattle.ap_supply.specs.Supplies.{AreSupplied, AreSuppliesOf, IsEntry, IsNodeIn, IsSupplyOf, Placed, placed_of}
use Rattle.ap_supply.proofs.Entries.{entries_are_supplies}
use Rattle.ap_supply.proofs.Listed.{each_of_both, listed_now, listed_on, supplied_of}

-- Units. ------------------------------------------------------------------------------------------------------------------

pub unit_entry : (design : Design) (modules : List ModuleText) (places : List ℕ) (slow : List SlowPlaced) (e : Supplied) → e.number < 32 → ServesUnit design modules places slow e.number e.supply → IsUnitEntry design modules places slow e
unit_entry design modules places slow e low serves files mems = record { node = design_node.Unit e.number; numbered = low; number = refl; of = serves files mems }

-- Read ports of files. ----------------------------------------------------------------------------------------------------

pub few_files : (design : Design) → IsClean design → length design.files ≤ 8
few_files design clean = leb-true (length design.files) 8 (and_parts (nat_le (length design.files) 8) (list_all is_file_within design.files) clean.sound.within.files).0

pub few_reads : (design : Design) → IsClean design → (file : ℕ) (f : File) → slice_get design.files file ≡ Some f → f.reads ≤ 4
few_reads design clean file f at =
    let each = (and_parts (nat_le (length design.files) 8) (list_all is_file_within design.files) clean.sound.within.files).1 in
    let within = passes_at is_file_within design.files each file f at in
    let ends = and_parts (is_width f.width && is_cell_count f.cells && is_between 1 4 f.reads) (is_between 1 2 f.writes) within in
    let reads = and_parts (is_width f.width && is_cell_count f.cells) (is_between 1 4 f.reads) ends.0 in
    leb-true f.reads 4 (and_parts (nat_le 1 f.reads) (nat_le f.reads 4) reads.1).1

pub files_long : (design : Design) (files : List FileNets) → HaveReadNets design files → length files ≡ length design.files
files_long design files nets = EachPair-length HasReadNets design.files files nets

-- the file of these nets, and how many they are
pub record FileOf (design : Design) (place : ℕ) (nets : FileNets) : Type 0 where
  pub f : File
  pub at : slice_get design.files place ≡ Some f
  pub few : f.reads ≤ 4
  pub indices : length nets.indices ≡ f.reads
  pub shown : length nets.shown ≡ f.reads

pub file_of : (design : Design) (files : List FileNets) (place : ℕ) (nets : FileNets) → IsClean design → HaveReadNets design files → slice_get files place ≡ Some nets → FileOf design place nets
file_of design files place nets clean have there =
    let low = slice_get_within files place nets there in
    let long : length files ≡ length design.files = files_long design files have in
    let (f, at) = some_within design.files place (omega (arith, low, long)) in
    let has = EachPair-at HasReadNets design.files files have place f nets at there in
    record { f = f; at = at; few = few_reads design clean place f at; indices = has.indices; shown = has.shown }

pub read_entry : (design : Design) (files : List FileNets) (place port : ℕ) (nets : FileNets) (e : Supplied) → slice_get files place ≡ Some nets → FileOf design place nets → place < 8 → port < 4 → IsReadBy nets place port e → IsReadEntry design files e
read_entry design files place port nets e there file low small h modules places slow mems = record {
  node = design_node.FileRead place port;
  numbered = (low, small);
  number = h.number;
  of = subst (IsSupplyOf design (placed_of modules places slow files mems) (design_node.FileRead place port)) (sym h.is)
      (record { of = file.f; at = file.at; nets = nets; made = there; index_at = h.index_at; value_at = h.value_at });
}

-- Memories. ---------------------------------------------------------------------------------------------------------------

pub few_mems : (design : Design) → IsClean design → length design.mems ≤ 4
few_mems design clean = leb-true (length design.mems) 4 (and_parts (nat_le (length design.mems) 4) (list_all is_mem_within design.mems) clean.sound.within.mems).0

pub mem_entry : (design : Design) (mems : List MemPorts) (mem : ℕ) (e : Supplied) → IsClean design → mem < length design.mems → IsMemBy mems mem e → IsMemEntry design mems e
mem_entry design mems mem e clean low h modules places slow files =
    let few : length design.mems ≤ 4 = few_mems design clean in
    let small : mem < 4 = omega arith in
    let (m, at) = some_within design.mems mem low in
    record {
      node = design_node.MemRead mem;
      numbered = small;
      number = h.number;
      of = subst (IsSupplyOf design (placed_of modules places slow files mems) (design_node.MemRead mem)) (sym h.is)
          (record { of = m; at = at; ports = h.ports; made = h.at; index_is = refl; value_is = refl });
    }

-- All of them. ------------------------------------------------------------------------------------------------------------

module _ (design : Design) (modules : List ModuleText) (places : List ℕ) (slow : List SlowPlaced) (files : List FileNets) (mems : List MemPorts) (first second made : List Supplied)
    (units : Lists (IsUnitEntry design modules places slow) (IsUnitNumber (length design.units)) [] first) (reads : Lists (IsReadEntry design files) (IsFileNumber design (length design.files)) first second)
    (memories : Lists (IsMemEntry design mems) (IsMemNumber (length design.mems)) second made) where
  abbrev p : Placed
  p = placed_of modules places slow files mems

  pub each_is : Each (IsEntry design p) made
  each_is = each_of_both (IsMemEntry design mems) (IsEntry design p) (IsMemNumber (length design.mems)) second made (λ e own. own modules places slow files)
      (each_of_both (IsReadEntry design files) (IsEntry design p) (IsFileNumber design (length design.files)) first second (λ e own. own modules places slow mems)
      (each_of_both (IsUnitEntry design modules places slow) (IsEntry design p) (IsUnitNumber (length design.units)) [] first (λ e own. own files mems) tt units) reads) memories

  pub are_supplies : AreSuppliesOf design p made
  are_supplies = entries_are_supplies design p made each_is

  after_reads : (n : ℕ) → IsListed second n → IsListed made n
  after_reads n l = listed_on (IsMemEntry design mems) (IsMemNumber (length design.mems)) second made n memories l

  after_units : (n : ℕ) → IsListed first n → IsListed made n
  after_units n l = after_reads n (listed_on (IsReadEntry design files) (IsFileNumber design (length design.files)) first second n reads l)

  listed : (x : DesignNode) → IsNodeIn design x → IsListed made (number_of_node x)
  listed (design_node.Unit unit) low = after_units unit (listed_now (IsUnitEntry design modules places slow) (IsUnitNumber (length design.units)) [] first unit units low)
  listed (design_node.FileRead file port) (f, at, low) =
      let inside = slice_get_within design.files file f at in
      let own : IsReadNumber file f.reads (number_of_node (design_node.FileRead file port)) = (port, low, refl) in
      after_reads (number_of_node (design_node.FileRead file port))
      (listed_now (IsReadEntry design files) (IsFileNumber design (length design.files)) first second (number_of_node (design_node.FileRead file port)) reads (file, f, inside, at, own))
  listed (design_node.MemRead mem) low =
      listed_now (IsMemEntry design mems) (IsMemNumber (length design.mems)) second made (number_of_node (design_node.MemRead mem)) memories (mem, low, refl)

  pub are_supplied : AreSupplied design made
  are_supplied x inside = supplied_of made (number_of_node x) (listed x inside)
