-- The outputs of memories are late still where what no line uses comes to rest.
use Rattle.std.proofs.Common.{◌≡◌, ◌≢◌, ℕ, ◌<◌, ◌≤◌, List, [], ◌∷◌, ◌++◌, flat_map, length, map, refl, sym, ap, subst, arith}
use Rattle.std.specs.List.{AllByRecursion as Each}
use Rattle.std.proofs.lemmas.Option.{slice_get_within}
use Rattle.ap_desc.specs.Clean.{IsClean}
use Rattle.ap_desc.specs.declared.design.Design.{Design}
use Rattle.ap_net.specs.declared.cell.Wire.{Wire}
use Rattle.ap_net.specs.Draft.{Draft}
use Rattle.ap_net.specs.Late.{IsLate}
use Rattle.ap_net.specs.Modules.{ModuleText}
use Rattle.ap_net.specs.Ready.{numbers}
use Rattle.ap_net.specs.Wiring.{NoneTwice}
use Rattle.ap_net.proofs.Drafts.{longer}
use Rattle.ap_net.proofs.Lists.{All-back, All-both, All-from, All-front, All-map, All-unmap}
use Rattle.ap_ctl.proofs.Beside.{EachPair-second}
use Rattle.ap_bank.specs.Joins.{AreLate}
use Rattle.ap_bank.specs.declared.bank.FileNets.{FileNets}
use Rattle.ap_front.specs.declared.ports.MemPorts.{MemPorts}
use Rattle.ap_front.specs.Ports.{AreMemPorts}
use Rattle.ap_slow.specs.Placed.{late_nets}
use Rattle.ap_slow.specs.declared.place.SlowPlaced.{SlowPlaced}
use Rattle.ap_steps.specs.TopOrder.{mem_numbers}
use Rattle.ap_supply.specs.Apart.{asked_wires}
use Rattle.ap_lead.specs.Leading.{given_numbers, group_numbers, mem_read, mem_write}
use Rattle.ap_lead.specs.Left.{IsLateMem, LeavesRest}
use Rattle.ap_lead.specs.Storing.{index_numbers}
use Rattle.ap_lead.proofs.Leaving.{leads_leave_rest}
use Rattle.ap_work.proofs.Waiting.{work_leaves_late}
use Rattle.ap_rest.specs.Idle.{IdlesUnits, idle_units}
use Rattle.ap_rest.specs.Reads.{RestsLate, idle_reads, idle_writes}
use Rattle.ap_rest.specs.Standing.{write_wires}
use Rattle.ap_rest.proofs.Standing.{idle_writes_are_late}
use Rattle.ap_gen.specs.declared.data.Data.{Data}
use Rattle.ap_gen.specs.declared.start.Start.{Start}
use Rattle.ap_gen.specs.declared.tables.Tables.{Tables}
use Rattle.ap_gen.specs.Tables.{AreTablesOf}
use Rattle.ap_gen.specs.Tops.{HasStages, front_of, placed_in, ports_of}
use Rattle.ap_gen.proofs.ActLate.{IsUnasked, reads_each, staged_late}
use Rattle.ap_gen.proofs.ActOutputs.{apart_back, back_apart, front_apart}

-- What holds of all wires of units, of all indices, of all read addresses.

asked_each : (P : Wire → Type 0) (xs : List SlowPlaced) → Each P (flat_map late_nets xs) → Each (λ (x : SlowPlaced). Each P (asked_wires x)) xs
asked_each P [] h = tt
asked_each P (x ∷ xs) (sel, (a, (b, (go, (adv, rest))))) = ((sel, (a, (b, tt))), asked_each P xs rest)

indices_each : (P : ℕ → Type 0) (files : List FileNets) → Each P (index_numbers files) → Each (λ (f : FileNets). Each (λ (w : Wire). P w.number) f.indices) files
indices_each P [] h = tt
indices_each P (f ∷ files) h = (All-unmap P (λ (w : Wire). w.number) f.indices (All-front P (numbers f.indices) (index_numbers files) h), indices_each P files (All-back P (numbers f.indices) (index_numbers files) h))

addresses_each : (P : ℕ → Type 0) (mems : List MemPorts) → Each P (flat_map mem_numbers (map mem_read mems)) → Each (λ (m : MemPorts). P m.read_address.number) mems
addresses_each P [] h = tt
addresses_each P (m ∷ mems) (at, (value, rest)) = (at, addresses_each P mems rest)

above_each : (k n : ℕ) → n < k → (ns : List ℕ) → Each (λ m. k ≤ m) ns → Each (λ m. m ≢ n) ns
above_each k n low ns h = All-from (λ m. k ≤ m) (λ m. m ≢ n) (λ m le same. absurd (omega (arith, low, le, same))) ns h

-- All outputs of memories.

pub record AreBelow (k : ℕ) (m : MemPorts) : Type 0 where
  pub enable : m.enable.number < k
  pub address : m.address.number < k
  pub value : m.value.number < k

below_each : (k : ℕ) (mems : List MemPorts) → Each (AreBelow k) mems → Each (λ n. n < k) (flat_map mem_write mems)
below_each k [] h = tt
below_each k (m ∷ mems) h = (h.0.enable, (h.0.address, (h.0.value, below_each k mems h.1)))

outputs_are : (mems : List MemPorts) → numbers (write_wires mems) ≡ flat_map mem_write mems
outputs_are [] = refl
outputs_are (m ∷ mems) = ap (λ l. m.enable.number ∷ m.address.number ∷ m.value.number ∷ l) (outputs_are mems)

outputs_late : (a d : Draft) (P : ℕ → Type 0) → ((w : Wire) → P w.number → IsLate a w → IsLate d w) → (mems : List MemPorts) → Each (IsLateMem a) mems → Each P (flat_map mem_write mems) → Each (IsLate d) (write_wires mems)
outputs_late a d P f [] l h = tt
outputs_late a d P f (m ∷ mems) l (e, (at, (v, rest))) = (f m.enable e l.0.enable, (f m.address at l.0.address, (f m.value v l.0.value, outputs_late a d P f mems l.1 rest)))

module _ (design : Design) (tables : Tables) (modules : List ModuleText) (places : List ℕ) (s : Start) (made : Data) (d : Draft) (clean : IsClean design) (tabled : AreTablesOf design tables)
    (h : HasStages design tables modules places s made d) where
  abbrev mems : List MemPorts
  mems = (ports_of s).mems

  abbrev reads : List ℕ
  reads = flat_map mem_numbers (map mem_read mems)

  abbrev writes : List ℕ
  writes = flat_map mem_write mems

  abbrev groups : List ℕ
  groups = flat_map group_numbers (ports_of s).groups

  leaves : LeavesRest design s.lead h.starts.filed
  leaves = leads_leave_rest design tables.slots.stages s.lead h.starts.filed h.starts.leads

  last_apart : NoneTwice (reads ++ (writes ++ groups))
  last_apart = back_apart (given_numbers (ports_of s)) (reads ++ (writes ++ groups)) leaves.apart.1.1.1.1

  writes_apart : NoneTwice writes
  writes_apart = front_apart writes groups (back_apart reads (writes ++ groups) last_apart)

  -- they were there before files and units were
  writes_low : Each (λ n. n < length h.starts.leads.first.nets) writes
  writes_low =
      let first : Draft = h.starts.leads.first in
      below_each (length first.nets) mems (EachPair-second (AreMemPorts first) (AreBelow (length first.nets)) (λ m q is. record {
        enable = slice_get_within first.nets q.enable.number _ is.enable.there;
        address = slice_get_within first.nets q.address.number _ is.address.there;
        value = slice_get_within first.nets q.value.number _ is.value.there;
      }) design.mems mems h.starts.leads.declares.ports.mems)

  unasked : (n : ℕ) → n < length h.starts.leads.first.nets → Each (λ m. m ≢ n) reads → IsUnasked (placed_in modules places s) n
  unasked n low other =
      let l = h.starts.leads in
      let driven = longer l.first l.driven l.drives.extends in
      let filed = longer l.driven h.starts.filed l.stores.extends in
      record {
        asked = asked_each (λ (w : Wire). w.number ≢ n) s.work.units (All-from (λ (w : Wire). length h.starts.filed.nets ≤ w.number) (λ (w : Wire). w.number ≢ n) (λ w le same. absurd (omega (arith, low, driven, filed, le, same))) (flat_map late_nets s.work.units) h.starts.works.placed.above);
        indices = indices_each (λ m. m ≢ n) s.lead.files (above_each (length l.driven.nets) n (omega (arith, low, driven)) (index_numbers s.lead.files) l.stores.above);
        addresses = addresses_each (λ m. m ≢ n) mems other;
      }

  -- so no stage drives them
  writes_unasked : Each (IsUnasked (placed_in modules places s)) writes
  writes_unasked =
      All-both (λ n. n < length h.starts.leads.first.nets) (λ n. Each (λ m. m ≢ n) reads) (IsUnasked (placed_in modules places s)) unasked writes writes_low
      (All-front (λ n. Each (λ m. m ≢ n) reads) writes groups (apart_back reads (writes ++ groups) last_apart))

  -- and they are late still where units and read ports are at rest
  pub writes_late : (idled read : Draft) → IdlesUnits design modules places (idle_units design) d idled → RestsLate (idle_reads design s.lead.files (ports_of s).mems) idled read → AreLate read (idle_writes design 0 (ports_of s).mems)
  writes_late idled read idles rests = idle_writes_are_late design read mems (
    outputs_late h.starts.filed read (IsUnasked (placed_in modules places s)) stay mems leaves.outputs.mems writes_unasked,
    subst NoneTwice (sym (outputs_are mems)) writes_apart,
  )
    where
      stay : (w : Wire) → IsUnasked (placed_in modules places s) w.number → IsLate h.starts.filed w → IsLate read w
      stay w free late =
          let files = s.lead.files in
          let steered : IsLate h.steered w = (work_leaves_late design (front_of s) (ports_of s) modules places s.work h.starts.filed h.steered h.starts.works).others w late in
          let staged : IsLate d w = staged_late design tables modules places s made clean tabled d h w free steered in
          let other : Each (λ n. n ≢ w.number) (numbers (idle_reads design files mems)) = All-map (λ n. n ≢ w.number) (λ (x : Wire). x.number) (idle_reads design files mems)
          (reads_each (λ (x : Wire). x.number ≢ w.number) design files mems free.indices free.addresses) in
          rests.drives.late w other (idles.adds.late w staged)
