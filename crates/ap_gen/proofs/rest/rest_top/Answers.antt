use Rattle.std.proofs.Common.{ℕ, List, length, sym, ap, subst, ◌∙◌}
use Rattle.ap_net.specs.Modules.{ModuleText}
use Rattle.ap_bank.specs.Joins.{AreLate}
use Rattle.ap_bank.specs.declared.bank.FileNets.{FileNets}
use Rattle.ap_front.specs.declared.ports.MemPorts.{MemPorts}
use Rattle.ap_rest.specs.Idle.{HaveQuickModules, IdlesUnits, idle_units}
use Rattle.ap_rest.specs.Reads.{HaveIndices, RestsLate, idle_reads, idle_writes}
use Rattle.ap_gen.specs.Tops.{ports_of}
use Rattle.ap_gen.proofs.Resting.{CanRest, can_rest}
use Rattle.ap_gen.proofs.rest.rest_top.Goals as goal

pub idle_units-requires-clause-modules : goal.idle_units-requires-clause-modules
idle_units-requires-clause-modules c =
    let can : CanRest c.args.design.now c.args.parts.now.modules.items c.args.parts.now.units c.args.start.now c.args.out.now =
    can_rest c.args.design.now c.args.tables.now c.args.parts.now.modules.items c.args.parts.now.units c.args.parts.now.kinds c.args.start.now c.args.made.now c.args.out.now c.requires.clean c.requires.tables c.requires.parts c.requires.stages in
    subst (λ (modules : List ModuleText). HaveQuickModules c.args.design.now modules c.as_slice-2.result.now) (sym c.as_slice.ensures.value)
    (subst (HaveQuickModules c.args.design.now c.args.parts.now.modules.items) (sym c.as_slice-2.ensures) can.quick)

pub idle_units-requires-clause-names : goal.idle_units-requires-clause-names
idle_units-requires-clause-names c =
    let can : CanRest c.args.design.now c.args.parts.now.modules.items c.args.parts.now.units c.args.start.now c.args.out.now =
    can_rest c.args.design.now c.args.tables.now c.args.parts.now.modules.items c.args.parts.now.units c.args.parts.now.kinds c.args.start.now c.args.made.now c.args.out.now c.requires.clean c.requires.tables c.requires.parts c.requires.stages in
    can.names

pub rest_reads-requires-clause-files : goal.rest_reads-requires-clause-files
rest_reads-requires-clause-files c =
    let can : CanRest c.args.design.now c.args.parts.now.modules.items c.args.parts.now.units c.args.start.now c.args.out.now =
    can_rest c.args.design.now c.args.tables.now c.args.parts.now.modules.items c.args.parts.now.units c.args.parts.now.kinds c.args.start.now c.args.made.now c.args.out.now c.requires.clean c.requires.tables c.requires.parts c.requires.stages in
    subst (HaveIndices c.args.design.now) (sym c.as_slice-3.ensures) can.indices

pub rest_reads-requires-clause-mems : goal.rest_reads-requires-clause-mems
rest_reads-requires-clause-mems c =
    let can : CanRest c.args.design.now c.args.parts.now.modules.items c.args.parts.now.units c.args.start.now c.args.out.now =
    can_rest c.args.design.now c.args.tables.now c.args.parts.now.modules.items c.args.parts.now.units c.args.parts.now.kinds c.args.start.now c.args.made.now c.args.out.now c.requires.clean c.requires.tables c.requires.parts c.requires.stages in
    ap length c.as_slice-mems.ensures ∙ can.mems

pub rest_reads-requires-clause-late : goal.rest_reads-requires-clause-late
rest_reads-requires-clause-late c =
    let can : CanRest c.args.design.now c.args.parts.now.modules.items c.args.parts.now.units c.args.start.now c.args.out.now =
    can_rest c.args.design.now c.args.tables.now c.args.parts.now.modules.items c.args.parts.now.units c.args.parts.now.kinds c.args.start.now c.args.made.now c.args.out.now c.requires.clean c.requires.tables c.requires.parts c.requires.stages in
    let idles : IdlesUnits c.args.design.now c.args.parts.now.modules.items c.args.parts.now.units (idle_units c.args.design.now) c.args.out.now c.idle_units.new.out =
    subst (λ (places : List ℕ). IdlesUnits c.args.design.now c.args.parts.now.modules.items places (idle_units c.args.design.now) c.args.out.now c.idle_units.new.out) c.as_slice-2.ensures
    (subst (λ (modules : List ModuleText). IdlesUnits c.args.design.now modules c.as_slice-2.result.now (idle_units c.args.design.now) c.args.out.now c.idle_units.new.out) c.as_slice.ensures.value c.in_ok-idle_units.ensures) in
    subst (λ (files : List FileNets). AreLate c.idle_units.new.out (idle_reads c.args.design.now files c.as_slice-mems.result.now)) (sym c.as_slice-3.ensures)
    (subst (λ (mems : List MemPorts). AreLate c.idle_units.new.out (idle_reads c.args.design.now c.args.start.now.lead.files mems)) (sym c.as_slice-mems.ensures) (can.reads c.idle_units.new.out idles))

pub rest_outputs-requires-clause-mems : goal.rest_outputs-requires-clause-mems
rest_outputs-requires-clause-mems c =
    let can : CanRest c.args.design.now c.args.parts.now.modules.items c.args.parts.now.units c.args.start.now c.args.out.now =
    can_rest c.args.design.now c.args.tables.now c.args.parts.now.modules.items c.args.parts.now.units c.args.parts.now.kinds c.args.start.now c.args.made.now c.args.out.now c.requires.clean c.requires.tables c.requires.parts c.requires.stages in
    ap length c.as_slice-mems.ensures ∙ can.mems

pub rest_outputs-requires-clause-late : goal.rest_outputs-requires-clause-late
rest_outputs-requires-clause-late c =
    let can : CanRest c.args.design.now c.args.parts.now.modules.items c.args.parts.now.units c.args.start.now c.args.out.now =
    can_rest c.args.design.now c.args.tables.now c.args.parts.now.modules.items c.args.parts.now.units c.args.parts.now.kinds c.args.start.now c.args.made.now c.args.out.now c.requires.clean c.requires.tables c.requires.parts c.requires.stages in
    let idles : IdlesUnits c.args.design.now c.args.parts.now.modules.items c.args.parts.now.units (idle_units c.args.design.now) c.args.out.now c.idle_units.new.out =
    subst (λ (places : List ℕ). IdlesUnits c.args.design.now c.args.parts.now.modules.items places (idle_units c.args.design.now) c.args.out.now c.idle_units.new.out) c.as_slice-2.ensures
    (subst (λ (modules : List ModuleText). IdlesUnits c.args.design.now modules c.as_slice-2.result.now (idle_units c.args.design.now) c.args.out.now c.idle_units.new.out) c.as_slice.ensures.value c.in_ok-idle_units.ensures) in
    let rests : RestsLate (idle_reads c.args.design.now c.args.start.now.lead.files (ports_of c.args.start.now).mems) c.idle_units.new.out c.rest_reads.new.out =
    subst (λ (mems : List MemPorts). RestsLate (idle_reads c.args.design.now c.args.start.now.lead.files mems) c.idle_units.new.out c.rest_reads.new.out) c.as_slice-mems.ensures
    (subst (λ (files : List FileNets). RestsLate (idle_reads c.args.design.now files c.as_slice-mems.result.now) c.idle_units.new.out c.rest_reads.new.out) c.as_slice-3.ensures c.in_ok-rest_reads.ensures) in
    subst (λ (mems : List MemPorts). AreLate c.rest_reads.new.out (idle_writes c.args.design.now 0 mems)) (sym c.as_slice-mems.ensures) (can.writes c.idle_units.new.out c.rest_reads.new.out idles rests)
