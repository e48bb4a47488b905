-- A top that was put together is built of the pieces of a processor.
use Rattle.std.proofs.Common.{length}
use Rattle.ap_stages.specs.Around.{StagesLeaveNames}
use Rattle.ap_lead.specs.Idle.{IdlePortsHaveNone, NewNamesAreOff}
use Rattle.ap_lead.specs.Leading.{LeadGivesRegs}
use Rattle.ap_lead.specs.Left.{LeadsLeaveRest}
use Rattle.ap_lead.specs.Writes.{reg_writes}
use Rattle.ap_rest.specs.Memories.{IdleMemoriesAreOff, MissingMemoriesHaveNone}
use Rattle.ap_rest.specs.Standing.{IdlesLeaveNames}
use Rattle.ap_staged.specs.Led.{BanksReads, LeadsBankReads, LeadsNameShared}
use Rattle.ap_staged.specs.Stages.{StagedAreOf, StagedStandOver}
use Rattle.ap_staged.specs.Together.{EachWasMade}
use Rattle.ap_work.specs.Serving.{ServesBorder, WorkServesBorder}
use Rattle.ap_work.specs.Working.{StandsControlled, WorkStands}
use Rattle.ap_act.specs.Follow.{TransferIsMade, WritesAreMade}
use Rattle.ap_flow.specs.Border.{FlowsGiveFront, FlowsLeave}
use Rattle.ap_built.specs.Front.{IsFrontBuilt}
use Rattle.ap_parts.specs.Known.{known_by}
use Rattle.ap_gen.specs.Tops.{control_of, front_of, ports_of, regs_of}
use Rattle.ap_gen.specs.Whole.{TopsAreBuilt}
use Rattle.ap_gen.proofs.BuiltActs.{are_written, is_transferred, leave_stages}
use Rattle.ap_gen.proofs.BuiltFront.{banks_reads, banks_regs, controlled, front_built, serves_border}
use Rattle.ap_gen.proofs.BuiltGrown.{is_top}
use Rattle.ap_gen.proofs.BuiltIdle.{idle_off}
use Rattle.ap_gen.proofs.BuiltStages.{are_joined, are_stages, places_are, stage_at, words_are}

-- what the parts of a top give
pub record PartsGive : Type 0 where
  pub leave : LeadsLeaveRest
  pub regs : LeadGivesRegs
  pub none : IdlePortsHaveNone
  pub off : NewNamesAreOff
  pub stands : WorkStands
  pub serve : WorkServesBorder
  pub name : LeadsNameShared
  pub bank : LeadsBankReads
  pub each : EachWasMade
  pub of : StagedAreOf
  pub over : StagedStandOver
  pub stage_names : StagesLeaveNames
  pub idle_names : IdlesLeaveNames
  pub memories : IdleMemoriesAreOff
  pub missing : MissingMemoriesHaveNone
  pub write : WritesAreMade
  pub transfer : TransferIsMade
  pub front : FlowsGiveFront
  pub leaves : FlowsLeave

pub tops_are_built : PartsGive → TopsAreBuilt
tops_are_built g cards other design tables modules exchange places kinds made new fitted own known are kept fits has h =
    let clean = fits.clean in
    let control : StandsControlled design made.start.work new = controlled design tables modules places made new h clean g.stands in
    let served : ServesBorder (known_by cards) other design new exchange made.start.work = serves_border design tables modules places made new h cards other exchange fits has kinds known g.leave g.serve in
    let front : IsFrontBuilt design new exchange tables.slots (front_of made.start) made.flow.comings made.flow.fetching made.start.work.given (control_of made.start) =
    front_built design tables modules places made new h cards other exchange fits has served are.slots g.front in
    let banks : BanksReads design new exchange made.start.lead.files = banks_reads design tables modules places made new h cards other exchange fits has g.bank in
    record {
      table = tables.slots;
      r = front_of made.start;
      comings = made.flow.comings;
      f = made.flow.fetching;
      given = made.start.work.given;
      nets = control_of made.start;
      front = front;
      registers = regs_of made.start;
      writes = reg_writes (ports_of made.start).groups (length design.regs);
      regs = banks_regs design tables modules places made new h g.regs;
      idle = idle_off design tables modules places made new h clean g.none g.off g.memories g.missing g.stage_names g.idle_names;
      top = is_top design tables modules places made new h g.leave;
      banks = banks.banks;
      slow = λ stage unit is. (served.units stage unit is).gives.has;
      carded = λ stage unit is. (served.units stage unit is).gives.card;
      parts = modules;
      base = λ stage. (stage_at design tables modules places made new h stage).ground;
      courses = λ stage. (stage_at design tables modules places made new h stage).courses.items;
      nodes = λ stage. (stage_at design tables modules places made new h stage).nodes.items;
      words = words_are design tables modules places made new h g.name g.each control are.slots g.over;
      places = places_are design tables modules places made new h g.name g.each control are.slots g.over;
      stages = are_stages design tables modules places made new h g.name g.each control are.slots cards other exchange fits has kinds known banks g.of front;
      joins = are_joined design tables modules places made new h g.name g.each control are.slots cards other exchange fits has g.over served;
      written = are_written design tables modules places made new h exchange clean control g.write;
      transfer = is_transferred design tables modules places made new h exchange clean control g.transfer;
      leaves = leave_stages design tables modules places made new h exchange clean g.leaves are.slots;
    }
