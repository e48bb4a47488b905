-- One port after another is written, and shown at its outputs.
use Rattle.std.proofs.Common.{◌≡◌, ℕ, ◌+◌, ◌-◌, ◌≤◌, List, [], ◌∷◌, length, take, Option, Some, None, sym, ap, subst, ◌∙◌, arith}
use Rattle.std.specs.Prelude.{option_map, option_to_list, slice_get}
use Rattle.std.specs.List.{AllByRecursion as Each}
use Rattle.ap_desc.specs.declared.design.Design.{Design}
use Rattle.ap_model.specs.declared.storage.WritePort.TheVariants as port
use Rattle.ap_model.specs.Fitting.{port_width}
use Rattle.ap_net.specs.declared.cell.Wire.{Wire}
use Rattle.ap_net.specs.Draft.{CanFresh, Draft, Extends}
use Rattle.ap_net.specs.Late.{IsLate}
use Rattle.ap_net.specs.Making.{Makes}
use Rattle.ap_net.specs.Ready.{numbers}
use Rattle.ap_net.specs.Wiring.{NoneTwice}
use Rattle.ap_net.proofs.Laws.{Extends-refl, Extends-trans}
use Rattle.ap_net.proofs.Lists.{All-from, All-join}
use Rattle.ap_ctl.proofs.Beside.{no_wire, take_item}
use Rattle.ap_merge.specs.Selects.{GoesOver}
use Rattle.ap_stage.specs.declared.node.Course.{Course}
use Rattle.ap_stage.specs.declared.source.Ground.{Ground}
use Rattle.ap_stage.specs.Reads.{AreFrom}
use Rattle.ap_stages.specs.declared.stage.ServedStage.{ServedStage}
use Rattle.ap_effect.specs.declared.line.PortLine.{PortLine}
use Rattle.ap_effect.specs.declared.write.WriteNets.{WriteNets}
use Rattle.ap_effect.specs.declared.write.Writer.{Writer}
use Rattle.ap_effect.specs.Lines.{write_lines}
use Rattle.ap_effect.specs.Writers.{IsIndexNet, write_wires}
use Rattle.ap_outcome.specs.Fitting.{FitsPort}
use Rattle.ap_bank.specs.Joins.{CanJoin, CanJoinIndex, JoinsPort, port_numbers}
use Rattle.ap_commit.specs.declared.write.UsedPort.{UsedPort}
use Rattle.ap_commit.specs.Widths.{port_bits}
use Rattle.ap_commit.specs.Written.{CanWritePort, IsWritten}
use Rattle.ap_slow.specs.Driven.{DrivesLate}
use Rattle.ap_slow.proofs.DrivenOne.{drives_from, drives_more, drives_none}
use Rattle.ap_act.specs.declared.outputs.PortOutputs.{PortOutputs}
use Rattle.ap_act.specs.Acting.{CanAct, IsPortWritten, IsUsedPort, StageCanAct, WritesAll, acting, stage_numbers}
use Rattle.ap_act.specs.Outputs.{IsSized, StageWrites, all_numbers, output_numbers}
use Rattle.ap_act.proofs.Lists.{flat_more}
use Rattle.ap_act.proofs.Steps.{acting_in, joined_ready, makes_drive, ready_later, wires_drive}

abbrev pub no_outputs : PortOutputs
no_outputs = record { port = port.Register 0; to = record { enable = no_wire; index = None; value = no_wire } }

-- what the stage of a number has
pub stage_can : (design : Design) (d : Draft) (bits : List Wire) (stages : List ServedStage) (stage : ℕ) (s : ServedStage) → CanAct design d bits stages → 1 ≤ stage → slice_get stages (stage - 1) ≡ Some s → StageCanAct design d stage s
stage_can design d bits stages stage s can low at = let same : stage - 1 + 1 ≡ stage = omega (arith, low) in subst (λ k. StageCanAct design d k s) same (can.each (stage - 1) s at)

-- the lines of the stage can write through the port
pub can_write : (design : Design) (d : Draft) (stage : ℕ) (s : ServedStage) (o : PortOutputs) (used : UsedPort) → StageCanAct design d stage s → IsSized design o → IsUsedPort design stage o used
    → Each (FitsPort s.ground s.courses.items (port_bits design o.port) (port_width design o.port)) (write_lines design stage o.port) → CanWritePort design stage s.ground s.courses.items used
can_write design d stage s o used can sized is fit =
    let lines : write_lines design stage used.port ≡ write_lines design stage o.port = ap (write_lines design stage) is.of in
    let bits : used.bits ≡ port_bits design o.port = is.bits ∙ sized.index in
    let width : used.width ≡ port_width design o.port = is.width ∙ sized.value in
    record {
      some = subst (λ (l : List PortLine). 1 ≤ length l) (sym lines) is.some;
      can = can.writes used.port;
      fit = subst (λ (x : (Option ℕ × ℕ) × List PortLine). Each (FitsPort s.ground s.courses.items x.0.0 x.0.1) x.1) (λ i. ((sym bits i, sym width i), sym lines i)) fit;
      over = subst (λ (l : List PortLine). GoesOver used.select 0 (length l)) (sym lines) is.over;
    }

-- What was made can be joined to the outputs.

join_index : (d : Draft) (writers : List Writer) (bits : Option ℕ) (to made : Option Wire) → bits ≡ option_map (λ (w : Wire). w.width) to → Each (IsLate d) (option_to_list to) → IsIndexNet d writers bits made → CanJoinIndex d to made
join_index d writers None None None e l h = tt
join_index d writers None None (Some m) e l h = absurd h
join_index d writers None (Some t) made e l h = cc
join_index d writers (Some b) None made e l h = cc
join_index d writers (Some b) (Some t) None e l h = absurd h
join_index d writers (Some b) (Some t) (Some m) e l h = let same : b ≡ t.width = cc in record { late = l.0; net = h.net; same = sym same ∙ sym h.wide }

pub can_join : (design : Design) (d : Draft) (stage : ℕ) (ground : Ground) (courses : List Course) (fires : Wire) (o : PortOutputs) (used : UsedPort) (made : WriteNets) → IsSized design o → IsUsedPort design stage o used
    → Each (IsLate d) (write_wires o.to) → NoneTwice (port_numbers o.to) → IsWritten d design stage ground courses fires used made → CanJoin d o.to made
can_join design d stage ground courses fires o used made sized is late apart h = record {
  enable = record { late = late.0; net = h.are.enable.carries.net; same = sized.enable ∙ sym h.are.enable.carries.wide };
  value = record { late = late.1.0; net = h.are.value.net; same = sym is.width ∙ sym h.are.value.wide };
  index = join_index d h.writers used.bits (o.to).index made.index is.bits late.1.1 h.are.index;
  apart = apart;
}

-- One port.

pub port_written : (design : Design) (fires : List Wire) (stages : List ServedStage) (a b c : Draft) (o : PortOutputs) (stage : ℕ) (s : ServedStage) (fire : Wire) (used : UsedPort) (made : WriteNets) → StageWrites design o.port stage
    → slice_get stages (stage - 1) ≡ Some s → slice_get fires (stage - 1) ≡ Some fire → used.port ≡ o.port → IsWritten b design stage s.ground s.courses.items fire used made
    → AreFrom (fire.number ∷ stage_numbers s) a b (numbers (write_wires made)) → JoinsPort o.to made b c → IsPortWritten design fires stages c o
port_written design fires stages a b c o stage s fire used made writes at fire_at of h from joins = record {
  stage = stage;
  writes = writes;
  served = s;
  served_at = at;
  fire = fire;
  fire_at = fire_at;
  used = used;
  of = of;
  made = made;
  before = b;
  written = h;
  after = c;
  joins = joins;
  grows = Extends-refl c;
  ready = λ by. joined_ready by (acting fires stages) (fire.number ∷ stage_numbers s) a b c o.to made from joins (acting_in fires stages (stage - 1) fire s fire_at at);
}

pub port_drives : (fires : List Wire) (stages : List ServedStage) (a b c : Draft) (to made : WriteNets) (i : ℕ) (s : ServedStage) (fire : Wire) → CanFresh a → slice_get stages i ≡ Some s → slice_get fires i ≡ Some fire
    → AreFrom (fire.number ∷ stage_numbers s) a b (numbers (write_wires made)) → Makes a b → JoinsPort to made b c → DrivesLate (port_numbers to) (acting fires stages) a c
port_drives fires stages a b c to made i s fire fresh at fire_at from makes joins =
    let one = makes_drive (fire.number ∷ stage_numbers s) a b (numbers (write_wires made)) fresh makes from in
    let two = wires_drive (port_numbers to) b c one.fresh joins.wires in
    drives_from (port_numbers to) (acting fires stages) (fire.number ∷ stage_numbers s) a c (drives_more [] (port_numbers to) (fire.number ∷ stage_numbers s) [] a b c one two (λ P k. tt)) (acting_in fires stages i fire s fire_at at)

-- All ports.

pub written_later : (design : Design) (fires : List Wire) (stages : List ServedStage) (a b : Draft) (o : PortOutputs) → Extends a b → IsPortWritten design fires stages a o → IsPortWritten design fires stages b o
written_later design fires stages a b o e h = record {
  stage = h.stage;
  writes = h.writes;
  served = h.served;
  served_at = h.served_at;
  fire = h.fire;
  fire_at = h.fire_at;
  used = h.used;
  of = h.of;
  made = h.made;
  before = h.before;
  written = h.written;
  after = h.after;
  joins = h.joins;
  grows = Extends-trans h.after a b h.grows e;
  ready = λ by. ready_later by (acting fires stages) (output_numbers o) a b e (h.ready by);
}

pub writes_none : (design : Design) (fires : List Wire) (stages : List ServedStage) (d : Draft) → CanFresh d → WritesAll design fires stages [] d d
writes_none design fires stages d fresh = record { each = tt; drives = drives_none (acting fires stages) d fresh }

pub writes_more : (design : Design) (fires : List Wire) (stages : List ServedStage) (outputs : List PortOutputs) (i : ℕ) (o : PortOutputs) (a b c : Draft) → slice_get outputs i ≡ Some o → WritesAll design fires stages (take i outputs) a b
    → IsPortWritten design fires stages c o → DrivesLate (output_numbers o) (acting fires stages) b c → WritesAll design fires stages (take (i + 1) outputs) a c
writes_more design fires stages outputs i o a b c at h one drives = subst (λ (l : List PortOutputs). WritesAll design fires stages l a c) (sym (take_item outputs i o at)) (record {
  each = All-join (IsPortWritten design fires stages c) (take i outputs) (o ∷ []) (All-from (IsPortWritten design fires stages b) (IsPortWritten design fires stages c) (λ x k. written_later design fires stages b c x drives.extends k) (take i outputs) h.each) (one, tt);
  drives = subst (λ l. DrivesLate l (acting fires stages) a c) (sym (flat_more output_numbers (take i outputs) o)) (drives_more (all_numbers (take i outputs)) (output_numbers o) (acting fires stages) (acting fires stages) a b c h.drives drives (λ P k. k));
})
