-- The signals of a netlist's run, by the names of its nets. The whole pipeline freezes: one net says of all stages that they are held.
use Rattle.std.specs.Prelude.{ℕ, zero, suc, ◌+◌, ◌%◌, ◌^◌, ◌==◌, ◌&&◌, ◌||◌, nat_lt, if◌then◌else◌, Bool, true, List, length, map, codes, Some, None, slice_get, slice_index}
use Rattle.std.specs.List.{list_any, range_with_len}
use Rattle.std.specs.Option.{option_map_or}
use Rattle.ap_desc.specs.Ports.{micros_in}
use Rattle.ap_desc.specs.declared.design.Design.{Design}
use Rattle.ap_desc.specs.declared.design.File.{File}
use Rattle.ap_desc.specs.declared.design.Instr.{Instr}
use Rattle.ap_desc.specs.declared.design.Micro.{Micro}
use Rattle.ap_desc.specs.declared.design.Reg.{Reg}
use Rattle.ap_desc.specs.declared.design.Unit.{Unit as Resource}
use Rattle.ap_model.specs.declared.storage.Storages.{Storages}
use Rattle.ap_model.specs.declared.storage.WritePort.{WritePort}
use Rattle.ap_model.specs.declared.storage.WritePort.TheVariants as port
use Rattle.ap_model.specs.Fire.{instr_of}
use Rattle.ap_model.specs.PortForms.{Writing}
use Rattle.ap_model.specs.Stalls.{has_memory_line}
use Rattle.ap_model.specs.UnitUse.{is_use_of, latency_of}
use Rattle.ap_net.specs.Flat.{Flat}
use Rattle.ap_net.specs.Runs.{NetState}
use Rattle.ap_unit.specs.Ages.{UnitInput, age_at}
use Rattle.ap_cycle.specs.Signals.{Signals}
use Rattle.ap_signals.specs.DesignOutside.{enable_name, index_name, value_name}
use Rattle.ap_signals.specs.NetRuns.{NetRun, cell_name, file_part, held_value, net_value, part_register, part_value, pc_name, place_name, reg_name, slot_name, taken_value, unit_part, valid_name, word_name}

-- what stage 0 and what the later stages have
abbrev pub by_stage : {X : Type 0} → X → (ℕ → X) → ℕ → X
by_stage first later zero = first
by_stage first later (suc stage) = later (suc stage)

-- the word in a stage: the one that is fetched, or that of the stage's register
abbrev pub stage_word : NetRun → ℕ → ℕ → ℕ
stage_word run j = by_stage (net_value run j (codes "idata")) (λ stage. held_value run j (word_name stage))

abbrev pub stage_valid : NetRun → ℕ → ℕ → Bool
stage_valid run j = by_stage true (λ stage. held_value run j (valid_name stage) == 1)

-- a local of an instruction in its slot, of whose bits the lowest are the local's
abbrev pub slot_local : NetRun → (List ℕ → ℕ) → ℕ → ℕ → Instr → ℕ
slot_local run slot stage i instr = slot (slot_name stage (run.home stage instr i)) % 2 ^ slice_index instr.locals i

abbrev pub local_of : Design → NetRun → (List ℕ → ℕ) → ℕ → ℕ → ℕ → ℕ
local_of design run slot word stage i = option_map_or (slot_local run slot stage i) (instr_of design word) 0

-- registers, the cells of files, which are registers of parts, and memories
abbrev pub net_storages : Design → Flat → NetState → (List ℕ → ℕ) → Storages
net_storages design flat state held = record {
  regs = map (λ (r : Reg). held (reg_name r)) design.regs;
  files = map (λ (f : File). map (λ index. part_register flat state (file_part f) (cell_name index)) (range_with_len 0 f.cells)) design.files;
  mems = state.mems;
}

-- a net of the part of a unit
abbrev pub unit_value_at : Design → NetRun → ℕ → ℕ → List ℕ → ℕ
unit_value_at design run j unit name = option_map_or (λ (u : Resource). part_value run j (unit_part u) name) (slice_get design.units unit) 0

-- what a unit is given in a cycle
abbrev pub unit_input : Design → NetRun → ℕ → ℕ → UnitInput
unit_input design run unit j = record {
  sel = unit_value_at design run j unit (codes "sel");
  a = unit_value_at design run j unit (codes "a");
  b = unit_value_at design run j unit (codes "b");
  go = unit_value_at design run j unit (codes "go");
  adv = unit_value_at design run j unit (codes "adv");
}

-- a unit of several cycles that a line of the stage uses
abbrev pub is_slow_unit_of : Design → ℕ → ℕ → Bool
is_slow_unit_of design stage unit = nat_lt 1 (latency_of design unit) && list_any (λ (m : Micro). (m.stage == stage) && is_use_of unit m.act) (micros_in design)

-- a unit of the stage says that it is busy, or the stage waits for a memory
abbrev pub net_busy : Design → NetRun → ℕ → ℕ → Bool
net_busy design run j stage =
    list_any (λ unit. is_slow_unit_of design stage unit && (unit_value_at design run j unit (codes "busy") == 1)) (range_with_len 0 (length design.units))
    || ((net_value run j (codes "mwait") == 1) && stage_valid run j stage && has_memory_line design stage (stage_word run j stage))

-- the write that is shown through a port: where its enable is 1
abbrev pub write_index : Design → NetRun → ℕ → WritePort → ℕ
write_index design run j (port.Register reg) = 0
write_index design run j p = net_value run j (index_name design p)

abbrev pub net_write : Design → NetRun → ℕ → Writing
net_write design run j p =
    if net_value run j (enable_name design p) == 1 then Some (record { port = p; at = write_index design run j p; value = net_value run j (value_name design p) }) else None

-- the signals of cycle j
abbrev pub net_signals : Design → NetRun → ℕ → Signals
net_signals design run j = record {
  pc = held_value run j pc_name;
  valid = stage_valid run j;
  word = stage_word run j;
  place = by_stage (held_value run j pc_name) (λ stage. held_value run j (place_name stage));
  local = λ stage i. local_of design run (held_value run j) (stage_word run j stage) stage i;
  age = λ unit. age_at (unit_input design run unit) j;
  storages = net_storages design run.flat (run.states j) (held_value run j);
  busy = net_busy design run j;
  hold = λ stage. net_value run j (codes "stall") == 1;
  taken = if net_value run j (codes "kill") == 1 then Some (taken_value run j pc_name) else None;
  write = net_write design run j;
  left = λ stage i. local_of design run (taken_value run j) (stage_word run j stage) (stage + 1) i;
  ask = λ unit. record { sel = unit_value_at design run j unit (codes "sel"); a = unit_value_at design run j unit (codes "a"); b = unit_value_at design run j unit (codes "b") };
}
