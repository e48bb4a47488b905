-- Drafts in which nets were made, and late wires were driven by copies of them.
use Rattle.std.proofs.Common.{◌≡◌, ℕ, zero, suc, ◌+◌, arith, length, List, [], ◌∷◌, ◌++◌, flat_map, take, Option, Some, None, sym, ap, subst}
use Rattle.std.specs.Prelude.{option_to_list, slice_get}
use Rattle.std.specs.List.{AllByRecursion as Each}
use Rattle.ap_desc.specs.declared.design.Design.{Design}
use Rattle.ap_net.specs.declared.cell.Wire.{Wire}
use Rattle.ap_net.specs.declared.net.ModuleNet.{ModuleNet}
use Rattle.ap_net.specs.Draft.{Adds, CanFresh, Draft, Extends, KeepsNew, names_of, wire_count}
use Rattle.ap_net.specs.Late.{IsLate}
use Rattle.ap_net.specs.Making.{Makes}
use Rattle.ap_net.specs.Modules.{ports_among}
use Rattle.ap_net.specs.Names.{HasFresh, IsNew}
use Rattle.ap_net.specs.Pending.{Among, IsFrom}
use Rattle.ap_net.specs.Ready.{Dependence, Ready, ReadyAfter, numbers}
use Rattle.ap_net.specs.Wiring.{NoneTwice, names_taken}
use Rattle.ap_net.proofs.Laws.{Extends-trans, ReadyAfter-Extends}
use Rattle.ap_net.proofs.Lists.{All-both, All-front, All-back, All-from}
use Rattle.ap_ctl.specs.Building.{IsBit}
use Rattle.ap_ctl.proofs.Built.{IsBit-Extends, among_nets, ready_from}
use Rattle.ap_stage.specs.Reads.{AreFrom}
use Rattle.ap_stage.proofs.Lined.{ground_adds}
use Rattle.ap_stage.proofs.Users.{courses_on}
use Rattle.ap_stages.specs.declared.stage.ServedStage.{ServedStage}
use Rattle.ap_effect.specs.declared.write.WriteNets.{WriteNets}
use Rattle.ap_effect.specs.Writers.{write_wires}
use Rattle.ap_bank.specs.Joins.{IsCopyIndex, JoinsPort, Wires, port_numbers}
use Rattle.ap_slow.specs.Driven.{DrivesLate}
use Rattle.ap_act.specs.Acting.{CanAct, StageCanAct, acting, stage_numbers}
use Rattle.ap_act.specs.Outputs.{AreFree, all_numbers, output_numbers, output_wires}
use Rattle.ap_act.specs.declared.outputs.PortOutputs.{PortOutputs}
use Rattle.ap_act.proofs.Lists.{each_in, flat_middle, others_before, twice_back, twice_front}

pub makes_drive : (from : List ℕ) (a b : Draft) (nets : List ℕ) → CanFresh a → Makes a b → AreFrom from a b nets → DrivesLate [] from a b
makes_drive from a b nets fresh makes h = record {
  extends = h.reads.extends;
  nexts = h.reads.nexts;
  instances = makes.instances;
  ports = makes.ports;
  fresh = makes.fresh fresh;
  names = makes.names;
  late = λ x apart l. h.reads.late x l;
  came = h.reads.came;
}

-- the names that are taken are the same, and so are the fresh ones
same_names : (a b : Draft) → b.nets ≡ a.nets → b.instances ≡ a.instances → names_of b ≡ names_of a
same_names a b nets instances = λ i. names_taken (instances i) (nets i)

wires_fresh : (a b : Draft) → b.nets ≡ a.nets → b.instances ≡ a.instances → CanFresh a → CanFresh b
wires_fresh a b nets instances h = subst (λ (c : List (List ℕ) × List ModuleNet). HasFresh c.0 (wire_count c.1)) (λ i. (sym (same_names a b nets instances) i, sym nets i)) h

wires_names : (a b : Draft) → b.nets ≡ a.nets → b.instances ≡ a.instances → KeepsNew a b
wires_names a b nets instances name other new = subst (IsNew name) (sym (same_names a b nets instances)) new

pub wires_drive : (driven : List ℕ) (a b : Draft) → CanFresh a → Wires driven a b → DrivesLate driven [] a b
wires_drive driven a b fresh h = record {
  extends = h.extends;
  nexts = h.nexts;
  instances = h.instances;
  ports = ap ports_among h.nets;
  fresh = wires_fresh a b h.nets h.instances fresh;
  names = wires_names a b h.nets h.instances;
  late = h.late;
  came = λ by n low high. let same : length b.nets ≡ length a.nets = ap length h.nets in absurd (omega arith);
}

-- The nets of one stage are among those of all.

pub bit_in : (P : ℕ → Type 0) (ws : List Wire) (i : ℕ) (w : Wire) → slice_get ws i ≡ Some w → Each P (numbers ws) → P w.number
bit_in P [] i w at h = cc
bit_in P (x ∷ ws) zero w at h = let same : x ≡ w = cc in subst (λ (y : Wire). P y.number) same h.0
bit_in P (x ∷ ws) (suc i) w at h = bit_in P ws i w at h.1

pub acting_in : (bits : List Wire) (stages : List ServedStage) (i : ℕ) (w : Wire) (s : ServedStage) → slice_get bits i ≡ Some w → slice_get stages i ≡ Some s → (P : ℕ → Type 0) → Each P (acting bits stages) → Each P (w.number ∷ stage_numbers s)
acting_in bits stages i w s at there P h = (bit_in P bits i w at (All-front P (numbers bits) (flat_map stage_numbers stages) h), each_in P stage_numbers stages i s there (All-back P (numbers bits) (flat_map stage_numbers stages) h))

-- A copy of a net that came follows from what that follows from.

pub copy_ready : (by : Dependence) (base from : List ℕ) (a b c : Draft) (n : ℕ) (to : Wire) → AreFrom from a b [] → IsFrom from a b n → Extends b c → ((P : ℕ → Type 0) → Each P base → Each P from) → ReadyAfter by c (n ∷ []) to.number → ReadyAfter by c base to.number
copy_ready by base from a b c n to h is e among copy = λ later f each.
    let after = ready_from by from a b n h.reads is in
    copy later f (after later (Extends-trans b c later e f) (among (Ready by later) each), tt)

pub joined_ready : (by : Dependence) (base from : List ℕ) (a b c : Draft) (to made : WriteNets) → AreFrom from a b (numbers (write_wires made)) → JoinsPort to made b c → ((P : ℕ → Type 0) → Each P base → Each P from) → Each (ReadyAfter by c base) (port_numbers to)
joined_ready by base from a b c to made h joins among =
    let none : AreFrom from a b [] = record { reads = h.reads; results = tt } in
    let e = (joins.wires).extends in (
      copy_ready by base from a b c made.enable.number to.enable none h.results.0 e among (joins.enable.came by),
      (copy_ready by base from a b c made.value.number to.value none h.results.1.0 e among (joins.value.came by), index to.index made.index joins.index h.results.1.1),
    )
  where
    index : (t m : Option Wire) → IsCopyIndex c t m → Each (IsFrom from a b) (numbers (option_to_list m)) → Each (ReadyAfter by c base) (numbers (option_to_list t))
    index None m copy r = tt
    index (Some t) None copy r = absurd copy
    index (Some t) (Some m) copy r =
        let none : AreFrom from a b [] = record { reads = h.reads; results = tt } in
        (copy_ready by base from a b c m.number t none r.0 (joins.wires).extends among (copy.came by), tt)

pub ready_later : (by : Dependence) (base ns : List ℕ) (a b : Draft) → Extends a b → Each (ReadyAfter by a base) ns → Each (ReadyAfter by b base) ns
ready_later by base ns a b e h = All-from (ReadyAfter by a base) (ReadyAfter by b base) (λ n k. ReadyAfter-Extends by a b base n e k) ns h

-- What the stages have goes on.

stage_later : (design : Design) (a b : Draft) (stage : ℕ) (s : ServedStage) → Adds a b → StageCanAct design a stage s → StageCanAct design b stage s
stage_later design a b stage s adds h = record {
  ground = ground_adds a b s.ground adds h.ground;
  courses = courses_on a b s.ground s.courses.items adds h.courses;
  of = h.of;
  writes = h.writes;
  transfers = h.transfers;
}

pub can_later : (design : Design) (a b : Draft) (bits : List Wire) (stages : List ServedStage) → Adds a b → CanAct design a bits stages → CanAct design b bits stages
can_later design a b bits stages adds h = record {
  are_bits = All-from (IsBit a.nets) (IsBit b.nets) (λ w k. IsBit-Extends a b w adds.extends k) bits h.are_bits;
  bit_count = h.bit_count;
  count = h.count;
  each = λ place s at. stage_later design a b (place + 1) s adds (h.each place s at);
}

pub drives_add : {driven from : List ℕ} {a b : Draft} → DrivesLate driven from a b → Adds a b
drives_add h = record { extends = h.extends; nexts = h.nexts }

-- The outputs of the next port are driven by none of those before.

pub next_late : (a b : Draft) (outputs : List PortOutputs) (from : List ℕ) (i : ℕ) (o : PortOutputs) → slice_get outputs i ≡ Some o → AreFree a outputs → DrivesLate (all_numbers (take i outputs)) from a b → Each (IsLate b) (output_wires o)
next_late a b outputs from i o at free drives =
    let mid = flat_middle output_numbers outputs i o at in
    let apart : NoneTwice (all_numbers (take i outputs) ++ (output_numbers o ++ mid.0)) = subst NoneTwice mid.1 free.apart in
    All-both (IsLate a) (λ (w : Wire). Among (output_numbers o) w.number) (IsLate b) (λ w l k. drives.late w (others_before (all_numbers (take i outputs)) (output_numbers o) mid.0 w.number apart k) l) (output_wires o)
    (each_in (IsLate a) output_wires outputs i o at free.late) (among_nets (output_wires o))

pub next_apart : (a : Draft) (outputs : List PortOutputs) (i : ℕ) (o : PortOutputs) → slice_get outputs i ≡ Some o → AreFree a outputs → NoneTwice (output_numbers o)
next_apart a outputs i o at free =
    let mid = flat_middle output_numbers outputs i o at in
    twice_front (output_numbers o) mid.0 (twice_back (all_numbers (take i outputs)) (output_numbers o ++ mid.0) (subst NoneTwice mid.1 free.apart))
