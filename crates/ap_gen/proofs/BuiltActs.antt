-- What the stages of a top that was put together write, take and leave.
use Rattle.std.proofs.Common.{◌≡◌, ℕ, suc, ◌+◌, ◌-◌, ◌≤◌, true, List, [], ◌∷◌, Some, refl, sym, ap, subst, ◌∙◌, arith}
use Rattle.std.specs.Prelude.{slice_get}
use Rattle.std.specs.List.{AllByRecursion as Each}
use Rattle.ap_desc.specs.Clean.{IsClean}
use Rattle.ap_desc.specs.declared.design.Design.{Design}
use Rattle.ap_desc.specs.declared.design.Instr.{Instr}
use Rattle.ap_model.specs.declared.storage.WritePort.{WritePort}
use Rattle.ap_model.specs.Ports.{is_used_in}
use Rattle.ap_net.specs.declared.cell.Wire.{Wire}
use Rattle.ap_net.specs.Draft.{Draft, Extends}
use Rattle.ap_net.specs.Modules.{ModuleText}
use Rattle.ap_net.specs.Runs.{bit}
use Rattle.ap_net.proofs.Drafts.{Extends-refl}
use Rattle.ap_net.proofs.Laws.{Carries-Extends}
use Rattle.ap_net.proofs.Lists.{All-at, All-from}
use Rattle.ap_pipe.specs.Slots.{AreSlotsOf}
use Rattle.ap_ctl.specs.declared.nets.ControlGiven.{ControlGiven}
use Rattle.ap_ctl.specs.declared.nets.ControlNets.{ControlNets}
use Rattle.ap_ctl.specs.Building.{IsBit, is_on}
use Rattle.ap_ctl.specs.Lists.{EachFrom}
use Rattle.ap_ctl.specs.Nets.{Shows}
use Rattle.ap_ctl.proofs.Beside.{EachFrom-at, EachPair-weaker}
use Rattle.ap_ctl.proofs.Bits.{bit_of}
use Rattle.ap_stage.specs.declared.node.Course.{Course}
use Rattle.ap_stages.specs.declared.stage.ServedStage.{ServedStage}
use Rattle.ap_whole.specs.Effects.{HasTransfer, HasWrites, LeavesStage}
use Rattle.ap_whole.specs.Handed.{IsInstrCourse, course_value}
use Rattle.ap_front.specs.declared.fetch.Fetching.{Fetching}
use Rattle.ap_front.proofs.Driving.{net_on}
use Rattle.ap_front.specs.Driven.{GivesFlights}
use Rattle.ap_built.specs.Front.{kept_in}
use Rattle.ap_act.specs.Follow.{HaveInstrs, ShowValid, TransferIsMade, WritesAreMade}
use Rattle.ap_act.specs.Taken.{TakesTransfer}
use Rattle.ap_act.proofs.Lines.{branch_within}
use Rattle.ap_flow.specs.Border.{FlowsLeave}
use Rattle.ap_flow.specs.Left.{HasInstrs}
use Rattle.ap_work.specs.Working.{StandsControlled}
use Rattle.ap_gen.specs.declared.tables.Tables.{Tables}
use Rattle.ap_gen.specs.declared.top.Top.{Top}
use Rattle.ap_gen.specs.Tops.{Tops, control_of, front_of, ports_of}
use Rattle.ap_gen.proofs.BuiltGrown.{acted_on, first_to, ports_at, written_on}
use Rattle.ap_gen.proofs.BuiltStages.{stage_at, stage_found}

-- The instructions of a stage go on.

instr_later : (a b : Draft) (s : ServedStage) → Extends a b → (instr : Instr) (c : Course) → IsInstrCourse a s.ground instr c → IsInstrCourse b s.ground instr c
instr_later a b s e instr c k = record {
  cond = record { carries = Carries-Extends e k.cond.carries };
  widths = k.widths;
  row = record { long = k.row.long; nets_are = λ j w at. net_on e w (k.row.nets_are j w at); wide = k.row.wide };
}

instrs_later : (design : Design) (a b : Draft) (s : ServedStage) → Extends a b → HasInstrs design a s → HasInstrs design b s
instrs_later design a b s e k = EachPair-weaker (IsInstrCourse a s.ground) (IsInstrCourse b s.ground) (instr_later a b s e) design.instrs s.courses.items k

-- Each valid bit shows whether its stage has a word.

from_at : {X : Type 0} (P : ℕ → X → Type 0) (n : ℕ) (xs : List X) → ((k : ℕ) (x : X) → slice_get xs k ≡ Some x → P (n + k) x) → EachFrom P n xs
from_at P n [] f = tt
from_at P n (x ∷ xs) f =
    let here : n + 0 ≡ n = omega arith in (
      subst (λ m. P m x) here (f 0 x refl),
      from_at P (n + 1) xs (λ k y at. (let next : n + suc k ≡ n + 1 + k = omega arith in subst (λ m. P m y) next (f (suc k) y at))),
    )

show_valid : (design : Design) (d : Draft) (given : ControlGiven) (nets : ControlNets) → Each (IsBit d.nets) nets.valid → ShowValid design d given nets
show_valid design d given nets bits = from_at (λ stage. Shows design given nets.valid d (λ look. look.valid stage)) 1 nets.valid one
  where
    one : (k : ℕ) (w : Wire) → slice_get nets.valid k ≡ Some w → Shows design given nets.valid d (λ look. look.valid (1 + k)) w
    one k w at =
        let is : IsBit d.nets w = All-at (IsBit d.nets) nets.valid k w bits at in
        record {
          net = is.net;
          wide = is.bit;
          means = record {
            holds = λ r settled look sees.
                bit_of d w r is settled ∙ ap bit (sym (EachFrom-at (λ n (x : Wire). look.valid n ≡ is_on r x) 1 nets.valid sees.bits k w at));
          };
        }

module _ (design : Design) (tables : Tables) (modules : List ModuleText) (places : List ℕ) (made : Top) (new : Draft) (h : Tops design tables modules places made new) where
  abbrev stage_by : ℕ → ServedStage
  stage_by stage = stage_at design tables modules places made new h stage

  instrs : HaveInstrs design new made.stages.stages.items
  instrs =
      All-from (HasInstrs design h.acted) (HasInstrs design new) (λ s k. instrs_later design h.acted new s (acted_on design tables modules places made new h) k) made.stages.stages.items h.flows.can.leaves.instrs

  module _ (exchange : List ModuleText) (clean : IsClean design) where
    module _ (control : StandsControlled design made.start.work new) where
      pub are_written : WritesAreMade → (stage : ℕ) (p : WritePort) → 1 ≤ stage → stage ≤ design.stages - 1 → is_used_in design stage p ≡ true
          → HasWrites design new exchange made.start.work.given (control_of made.start) (stage_by stage).ground.word
          (course_value (stage_by stage).ground (stage_by stage).courses.items) stage p
      are_written write stage p low high used =
          write design (ports_of made.start) h.before.rested h.before.acts.written new exchange made.start.work.given (control_of made.start) made.stages.stages.items clean
          (ports_at design tables modules places made new h h.before.acts.written (first_to design tables modules places made new h))
          h.before.acts.writes (written_on design tables modules places made new h) instrs control.control.fires stage p (stage_by stage) low used
          (stage_found design tables modules places made new h stage low high)

      transfers : TakesTransfer design (control_of made.start).valid made.stages.stages.items made.start.work.given.taken made.target h.before.acts.written h.acted
      transfers =
          subst (λ w. TakesTransfer design (control_of made.start).valid made.stages.stages.items w made.target h.before.acts.written h.acted) (sym h.before.before.before.starts.works.gives.taken) h.before.acts.transfers

      pub is_transferred : TransferIsMade
          → HasTransfer design new exchange made.start.work.given (control_of made.start) (stage_by design.branch).ground.word made.flow.fetching.target
          (course_value (stage_by design.branch).ground (stage_by design.branch).courses.items)
      is_transferred transfer =
          let (low, high) = branch_within design clean in
          let s : ServedStage = stage_by design.branch in
          let target : made.flow.fetching.target ≡ made.target = ap (λ (f : Fetching). f.target) h.flows.fetching in
          subst (λ w. HasTransfer design new exchange made.start.work.given (control_of made.start) s.ground.word w (course_value s.ground s.courses.items)) (sym target)
          (transfer design h.before.acts.written h.acted new exchange made.start.work.given (control_of made.start) made.stages.stages.items made.target clean transfers (acted_on design tables modules places made new h) instrs
          (show_valid design new made.start.work.given (control_of made.start) control.nets.there.valid) s (stage_found design tables modules places made new h design.branch low high))

    pub leave_stages : FlowsLeave → AreSlotsOf design tables.slots → (gives : GivesFlights design new tables.slots.stages (front_of made.start) made.flow.comings) (stage : ℕ) → 1 ≤ stage → stage + 1 ≤ design.stages - 1
        → LeavesStage design new exchange (kept_in design tables.slots.stages) gives.has (stage_by stage).ground.word
        (course_value (stage_by stage).ground (stage_by stage).courses.items) stage
    leave_stages leave slots gives stage low high =
        leave design exchange tables.slots (front_of made.start) (ports_of made.start) (control_of made.start) made.target made.stages.stages.items made.flow h.acted new new clean slots h.flows (Extends-refl new) gives stage
        (stage_by stage) low high (stage_found design tables modules places made new h stage low (omega (arith, high)))
