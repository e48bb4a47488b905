-- Which nets the stages, and what rests, leave alone: the outputs of top that show writes and control, and the wire of what is taken.
use Rattle.std.proofs.Common.{◌≢◌, ℕ, ◌<◌, ◌≤◌, List, [], ◌∷◌, ◌++◌, flat_map, length, map, sym, subst, arith}
use Rattle.std.specs.List.{AllByRecursion as Each}
use Rattle.ap_desc.specs.declared.design.Design.{Design}
use Rattle.ap_net.specs.declared.cell.Wire.{Wire}
use Rattle.ap_net.specs.Draft.{Draft, Extends}
use Rattle.ap_net.specs.Late.{IsLate}
use Rattle.ap_net.specs.Modules.{ModuleText}
use Rattle.ap_net.specs.Ready.{numbers}
use Rattle.ap_net.specs.Wiring.{NoneTwice}
use Rattle.ap_net.proofs.Drafts.{Extends-trans, longer}
use Rattle.ap_net.proofs.Lists.{All-back, All-both, All-from, All-front, All-unmap}
use Rattle.ap_net.proofs.Wired.{number-IsNet}
use Rattle.ap_bank.specs.Regs.{with_regs}
use Rattle.ap_bank.specs.declared.bank.FileNets.{FileNets}
use Rattle.ap_front.specs.NewNames.{ported}
use Rattle.ap_front.specs.Opened.{front_plan}
use Rattle.ap_front.specs.declared.ports.MemPorts.{MemPorts}
use Rattle.ap_front.specs.declared.ports.Ports.{Ports}
use Rattle.ap_front.proofs.Opened.{registers_extend}
use Rattle.ap_slow.specs.Placed.{late_nets}
use Rattle.ap_slow.specs.declared.place.SlowPlaced.{SlowPlaced}
use Rattle.ap_steps.specs.TopOrder.{mem_numbers}
use Rattle.ap_supply.specs.Apart.{asked_wires}
use Rattle.ap_rest.specs.Reads.{idle_writes}
use Rattle.ap_lead.specs.Declaring.{opened}
use Rattle.ap_lead.specs.Leading.{given_numbers, group_numbers, mem_read, mem_write}
use Rattle.ap_lead.specs.Left.{IsLateMem, LeavesRest}
use Rattle.ap_lead.specs.Storing.{index_numbers}
use Rattle.ap_lead.proofs.Declaring.{regs_extend}
use Rattle.ap_lead.proofs.Leaving.{leads_leave_rest}
use Rattle.ap_act.specs.Outputs.{written_mems}
use Rattle.ap_act.specs.Outputs as shown
use Rattle.ap_gen.specs.declared.start.Start.{Start}
use Rattle.ap_gen.specs.declared.tables.Tables.{Tables}
use Rattle.ap_gen.specs.Started.{Starts}
use Rattle.ap_gen.specs.Tops.{placed_in, ports_of}
use Rattle.ap_gen.proofs.ActLate.{IsSpared, IsUnasked}
use Rattle.ap_gen.proofs.ActOutputs.{apart_back, back_apart, front_apart, idle_within, written_beside, written_within}

-- What holds of all wires of units, of all indices, of all read addresses.

asked_each : (P : Wire → Type 0) (xs : List SlowPlaced) → Each P (flat_map late_nets xs) → Each (λ (x : SlowPlaced). Each P (asked_wires x)) xs
asked_each P [] h = tt
asked_each P (x ∷ xs) (sel, (a, (b, (go, (adv, rest))))) = ((sel, (a, (b, tt))), asked_each P xs rest)

indices_each : (P : ℕ → Type 0) (files : List FileNets) → Each P (index_numbers files) → Each (λ (f : FileNets). Each (λ (w : Wire). P w.number) f.indices) files
indices_each P [] h = tt
indices_each P (f ∷ files) h = (All-unmap P (λ (w : Wire). w.number) f.indices (All-front P (numbers f.indices) (index_numbers files) h), indices_each P files (All-back P (numbers f.indices) (index_numbers files) h))

addresses_each : (P : ℕ → Type 0) (mems : List MemPorts) → Each P (flat_map mem_numbers (map mem_read mems)) → Each (λ (m : MemPorts). P m.read_address.number) mems
addresses_each P [] h = tt
addresses_each P (m ∷ mems) (at, (value, rest)) = (at, addresses_each P mems rest)

writes_each : (P : ℕ → Type 0) (mems : List MemPorts) → Each (λ (m : MemPorts). P m.enable.number × P m.address.number × P m.value.number) mems → Each P (flat_map mem_write mems)
writes_each P [] h = tt
writes_each P (m ∷ mems) ((e, a, v), rest) = (e, (a, (v, writes_each P mems rest)))

above_each : (k n : ℕ) → n < k → (ns : List ℕ) → Each (λ m. k ≤ m) ns → Each (λ m. m ≢ n) ns
above_each k n low ns h = All-from (λ m. k ≤ m) (λ m. m ≢ n) (λ m le same. absurd (omega (arith, low, le, same))) ns h

module _ (design : Design) (tables : Tables) (modules : List ModuleText) (places : List ℕ) (s : Start) (d : Draft) (h : Starts design tables.slots modules places s d) where
  abbrev pub p : Ports
  p = ports_of s

  abbrev pub reads : List ℕ
  reads = flat_map mem_numbers (map mem_read p.mems)

  abbrev pub writes : List ℕ
  writes = flat_map mem_write p.mems

  abbrev pub groups : List ℕ
  groups = flat_map group_numbers p.groups

  pub leaves : LeavesRest design s.lead h.filed
  leaves = leads_leave_rest design tables.slots.stages s.lead h.filed h.leads

  begun : Extends (ported design) h.leads.first
  begun =
      let from = ported design in
      let mid = opened design tables.slots.stages in
      subst (Extends from) (sym h.leads.declares.is) (Extends-trans from mid (with_regs mid design.regs) (registers_extend from (front_plan design tables.slots.stages)) (regs_extend mid design.regs))

  -- a port that isn't where a memory is read is no wire that stages drive
  port_unasked : (n : ℕ) → n < length (ported design).nets → Each (λ m. m ≢ n) reads → IsUnasked (placed_in modules places s) n
  port_unasked n low other =
      let first = longer (ported design) h.leads.first begun in
      let driven = longer h.leads.first h.leads.driven h.leads.drives.extends in
      let filed = longer h.leads.driven h.filed h.leads.stores.extends in
      record {
        asked = asked_each (λ (w : Wire). w.number ≢ n) s.work.units (All-from (λ (w : Wire). length h.filed.nets ≤ w.number) (λ (w : Wire). w.number ≢ n) (λ w le same. absurd (omega (arith, low, first, driven, filed, le, same))) (flat_map late_nets s.work.units) h.works.placed.above);
        indices = indices_each (λ m. m ≢ n) s.lead.files (above_each (length h.leads.driven.nets) n (omega (arith, low, first, driven)) (index_numbers s.lead.files) h.leads.stores.above);
        addresses = addresses_each (λ m. m ≢ n) p.mems other;
      }

  -- nor, where it writes no memory, is it any that rests
  port_spared : (n : ℕ) → n < length (ported design).nets → Each (λ m. m ≢ n) reads → Each (λ m. m ≢ n) writes → IsSpared design (placed_in modules places s) n
  port_spared n low read written = record { unasked = port_unasked n low read; unwritten = idle_within (λ m. m ≢ n) design 0 p.mems written }

  -- All but the first ports.

  tail : (n : ℕ) (ns : List ℕ) → NoneTwice (n ∷ ns) → NoneTwice ns
  tail n ns k = k.1

  first_is : (n : ℕ) (between : List ℕ) → Each (λ m. m ≢ n) (between ++ (reads ++ (writes ++ groups))) → n < length (ported design).nets → IsSpared design (placed_in modules places s) n
  first_is n between k low =
      let all = All-back (λ m. m ≢ n) between (reads ++ (writes ++ groups)) k in
      port_spared n low (All-front (λ m. m ≢ n) reads (writes ++ groups) all) (All-front (λ m. m ≢ n) writes groups (All-back (λ m. m ≢ n) reads (writes ++ groups) all))

  abbrev pub given : List ℕ
  given = given_numbers p

  abbrev pub rest : List ℕ
  rest = given ++ (reads ++ (writes ++ groups))

  abbrev pub is_below : ℕ → Type 0
  is_below n = n < length (ported design).nets

  from_stall : NoneTwice (p.stall.number ∷ p.kill.number ∷ rest)
  from_stall = tail p.idata.number (p.stall.number ∷ p.kill.number ∷ rest) (tail p.iaddr.number (p.idata.number ∷ p.stall.number ∷ p.kill.number ∷ rest) leaves.apart)

  from_kill : NoneTwice (p.kill.number ∷ rest)
  from_kill = tail p.stall.number (p.kill.number ∷ rest) from_stall

  last_apart : NoneTwice (reads ++ (writes ++ groups))
  last_apart = back_apart given (reads ++ (writes ++ groups)) (tail p.kill.number rest from_kill)

  head : (n : ℕ) (ns : List ℕ) → NoneTwice (n ∷ ns) → Each (λ m. m ≢ n) ns
  head n ns k = k.0

  low_of : (P : ℕ → Type 0) (a b c e : ℕ) (ns : List ℕ) → Each P (a ∷ b ∷ c ∷ e ∷ ns) → P a × P c × P e × Each P ns
  low_of P a b c e ns (x, (y, (z, (w, more)))) = (x, z, w, more)

  pub iaddr_spared : IsSpared design (placed_in modules places s) p.iaddr.number
  iaddr_spared =
      let (low, stall, kill, more) = low_of is_below p.iaddr.number p.idata.number p.stall.number p.kill.number rest leaves.below in
      first_is p.iaddr.number (p.idata.number ∷ p.stall.number ∷ p.kill.number ∷ given) (head p.iaddr.number (p.idata.number ∷ p.stall.number ∷ p.kill.number ∷ rest) leaves.apart) low

  pub stall_spared : IsSpared design (placed_in modules places s) p.stall.number
  stall_spared =
      let (low, stall, kill, more) = low_of is_below p.iaddr.number p.idata.number p.stall.number p.kill.number rest leaves.below in
      first_is p.stall.number (p.kill.number ∷ given) (head p.stall.number (p.kill.number ∷ rest) from_stall) stall

  pub kill_spared : IsSpared design (placed_in modules places s) p.kill.number
  kill_spared =
      let (low, stall, kill, more) = low_of is_below p.iaddr.number p.idata.number p.stall.number p.kill.number rest leaves.below in
      first_is p.kill.number given (head p.kill.number rest from_kill) kill

  last_below : Each is_below (reads ++ (writes ++ groups))
  last_below =
      let (low, stall, kill, more) = low_of is_below p.iaddr.number p.idata.number p.stall.number p.kill.number rest leaves.below in
      All-back is_below given (reads ++ (writes ++ groups)) more

  shown_below : Each is_below (writes ++ groups)
  shown_below = All-back is_below reads (writes ++ groups) last_below

  shown_unread : Each (λ n. Each (λ m. m ≢ n) reads) (writes ++ groups)
  shown_unread = apart_back reads (writes ++ groups) last_apart

  pub outputs_apart : NoneTwice (writes ++ groups)
  outputs_apart = back_apart reads (writes ++ groups) last_apart

  pub groups_spared : Each (IsSpared design (placed_in modules places s)) groups
  groups_spared =
      let Unread : ℕ → Type 0 = λ n. Each (λ m. m ≢ n) reads in
      let Unwritten : ℕ → Type 0 = λ n. Each (λ m. m ≢ n) writes in
      All-both (λ n. is_below n × Unread n) Unwritten (IsSpared design (placed_in modules places s)) (λ n k other. port_spared n k.0 k.1 other) groups
      (All-both is_below Unread (λ n. is_below n × Unread n) (λ n low k. (low, k)) groups (All-back is_below writes groups shown_below) (All-back Unread writes groups shown_unread))
      (apart_back writes groups outputs_apart)

  pub mems_spared : Each (IsSpared design (placed_in modules places s)) (shown.all_numbers (written_mems design 0 p.mems))
  mems_spared =
      let Unread : ℕ → Type 0 = λ n. Each (λ m. m ≢ n) reads in
      let unasked : Each (IsUnasked (placed_in modules places s)) writes = All-both is_below Unread (IsUnasked (placed_in modules places s)) (λ n low k. port_unasked n low k) writes (All-front is_below writes groups shown_below) (All-front Unread writes groups shown_unread) in
      All-both (IsUnasked (placed_in modules places s)) (λ n. Each (λ k. k ≢ n) (numbers (idle_writes design 0 p.mems))) (IsSpared design (placed_in modules places s)) (λ n k other. record { unasked = k; unwritten = other }) (shown.all_numbers (written_mems design 0 p.mems))
      (written_within (IsUnasked (placed_in modules places s)) design 0 p.mems unasked) (written_beside design 0 p.mems (front_apart writes groups outputs_apart))

  -- The wire of what is taken came after all of these.

  taken_high : length h.works.united.nets ≤ s.work.taken.number
  taken_high = h.works.declares.above.0

  not_taken : (c : Draft) → length c.nets ≤ length h.works.united.nets → (w : Wire) → IsLate c w → w.number ≢ s.work.taken.number
  not_taken c few w late same = let low = number-IsNet c.nets w late.net in let high = taken_high in absurd (omega (arith, few, low, high, same))

  pub taken_spared : IsSpared design (placed_in modules places s) s.work.taken.number
  taken_spared =
      let taken : ℕ = s.work.taken.number in
      let grown = longer h.filed h.works.united h.works.placed.adds.extends in
      let Other : Wire → Type 0 = λ (w : Wire). w.number ≢ taken in
      let mems : Each (IsLateMem h.filed) p.mems = leaves.outputs.mems in
      let same : length h.works.united.nets ≤ length h.works.united.nets = omega arith in
      record {
        unasked = record {
          asked = asked_each Other s.work.units (All-from (IsLate h.works.united) Other (not_taken h.works.united same) (flat_map late_nets s.work.units) h.works.placed.late);
          indices = All-from (λ (f : FileNets). Each (IsLate h.filed) f.indices) (λ (f : FileNets). Each Other f.indices) (λ f k. All-from (IsLate h.filed) Other (not_taken h.filed grown) f.indices k) s.lead.files h.leads.stores.late_indices;
          addresses = All-from (IsLateMem h.filed) (λ (m : MemPorts). m.read_address.number ≢ taken) (λ m k. not_taken h.filed grown m.read_address k.read_address) p.mems mems;
        };
        unwritten = idle_within (λ m. m ≢ taken) design 0 p.mems (writes_each (λ m. m ≢ taken) p.mems (All-from (IsLateMem h.filed) (λ (m : MemPorts). (m.enable.number ≢ taken) × (m.address.number ≢ taken) × (m.value.number ≢ taken))
            (λ m k. (not_taken h.filed grown m.enable k.enable, not_taken h.filed grown m.address k.address, not_taken h.filed grown m.value k.value)) p.mems mems));
      }
