-- How many instructions a sound design has, and how many lines each of them.
use Rattle.std.proofs.Common.{◌≡◌, ℕ, ◌≤◌, length, Some}
use Rattle.std.specs.Prelude.{nat_le, slice_get}
use Rattle.std.specs.List.{list_all}
use Rattle.std.proofs.lemmas.Bool.{and_parts, leb-true}
use Rattle.ap_desc.specs.Designs.{is_instr_within, is_stage}
use Rattle.ap_desc.specs.Sound.{IsSound}
use Rattle.ap_desc.specs.declared.design.Design.{Design}
use Rattle.ap_desc.specs.declared.design.Instr.{Instr}
use Rattle.ap_desc.specs.declared.design.Micro.{Micro}
use Rattle.ap_ports.proofs.Members.{passes_at}

pub few_instrs : (design : Design) → IsSound design → length design.instrs ≤ 256
few_instrs design sound = leb-true (length design.instrs) 256 (and_parts (nat_le (length design.instrs) 256) (list_all (is_instr_within design.stages) design.instrs) sound.within.instrs).0

pub few_lines : (design : Design) → IsSound design → (number : ℕ) (instr : Instr) → slice_get design.instrs number ≡ Some instr → length instr.micros ≤ 64
few_lines design sound number instr at =
    let within = passes_at (is_instr_within design.stages) design.instrs (and_parts (nat_le (length design.instrs) 256) (list_all (is_instr_within design.stages) design.instrs) sound.within.instrs).1 number instr at in
    leb-true (length instr.micros) 64 (and_parts (nat_le (length instr.micros) 64) (list_all (λ (m : Micro). is_stage design.stages m.stage) instr.micros) within).0
