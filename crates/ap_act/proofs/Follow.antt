-- What follows from writes and transfer: for the border, and for the order in which nets are ready.
use Rattle.std.proofs.Common.{◌≡◌, ℕ, suc, ◌+◌, ◌-◌, ◌≤◌, Bool, true, false, if◌then◌else◌, List, [], ◌∷◌, flat_map, map, Some, inl, inr, refl, sym, ap, subst, ◌∙◌, append-nil, arith}
use Rattle.std.specs.Prelude.{slice_get}
use Rattle.std.specs.List.{AllByRecursion as Each}
use Rattle.ap_desc.proofs.Members.{In}
use Rattle.ap_desc.specs.declared.design.Design.{Design}
use Rattle.ap_model.specs.declared.storage.WritePort.{WritePort}
use Rattle.ap_model.specs.declared.storage.WritePort.TheVariants as port
use Rattle.ap_model.specs.Ports.{is_used, is_used_in}
use Rattle.ap_model.proofs.ListLemmas.{each_flat_map}
use Rattle.ap_model.proofs.WritesApart.{writes_apart}
use Rattle.ap_net.specs.declared.cell.Wire.{Wire}
use Rattle.ap_net.specs.Draft.{Draft, Extends}
use Rattle.ap_net.specs.Modules.{ModuleText}
use Rattle.ap_net.specs.Pending.{Among}
use Rattle.ap_net.specs.Ready.{Dependence, ReadyAfter}
use Rattle.ap_net.proofs.Laws.{Carries-Extends, Extends-trans}
use Rattle.ap_net.proofs.Lists.{All-at, All-back, All-from, All-front, All-join, All-unmap, some_same}
use Rattle.ap_ctl.specs.declared.nets.ControlGiven.{ControlGiven}
use Rattle.ap_ctl.specs.declared.nets.ControlNets.{ControlNets}
use Rattle.ap_ctl.specs.Meaning as control
use Rattle.ap_ctl.specs.Nets.{Shows}
use Rattle.ap_ctl.proofs.Beside.{EachFrom-at}
use Rattle.ap_ctl.proofs.Built.{among_all}
use Rattle.ap_front.specs.declared.ports.GroupPorts.{GroupPorts}
use Rattle.ap_front.specs.declared.ports.MemPorts.{MemPorts}
use Rattle.ap_front.proofs.PortNets.{ports_go_on}
use Rattle.ap_stages.specs.declared.stage.ServedStage.{ServedStage}
use Rattle.ap_slow.specs.Driven.{DrivesLate}
use Rattle.ap_steps.specs.Steps.{Grows}
use Rattle.ap_steps.specs.TopOrder.{Follows, step}
use Rattle.ap_whole.specs.Effects.{HasTransfer, HasWrites}
use Rattle.ap_whole.specs.Handed.{AreInstrCourses, course_value}
use Rattle.ap_commit.specs.Standing.{IsPortShown, JoinedPortsShow, TransferStands, WritesStand}
use Rattle.ap_act.specs.declared.outputs.PortOutputs.{PortOutputs}
use Rattle.ap_act.specs.Acting.{IsPortWritten, acting}
use Rattle.ap_act.specs.Follow.{HaveInstrs, ShowFires, TransferIsMade, TransferIsReady, WritesAreMade, WritesAreReady, group_numbers, mem_write}
use Rattle.ap_act.specs.Outputs.{IsOutputOf, group_outputs, mem_outputs, output_numbers, shown_outputs, written_mems}
use Rattle.ap_act.proofs.Lines.{branch_within}
use Rattle.ap_act.proofs.Named.{outputs_are_named}
use Rattle.ap_act.proofs.HasOutputs.{output_of}

-- The border.

each_one : {X : Type 0} (P : X → Type 0) (xs : List X) (x : X) → Each P xs → In x xs → P x
each_one P [] x h k = absurd k
each_one P (y ∷ xs) x h (inl e) = subst P (sym e) h.0
each_one P (y ∷ xs) x h (inr k) = each_one P xs x h.1 k

-- the writes through one port, in its stage
one_made : WritesStand → JoinedPortsShow → (design : Design) (d : Draft) (new : Draft) (modules : List ModuleText) (given : ControlGiven) (nets : ControlNets) (stages : List ServedStage) (o : PortOutputs) → Extends new d → HaveInstrs design d stages → ShowFires design d given nets → IsOutputOf design d o
    → (h : IsPortWritten design nets.fires stages new o) → HasWrites design d modules given nets h.served.ground.word (course_value h.served.ground h.served.courses.items) h.stage o.port
one_made stand show design d new modules given nets stages o e instrs fires is h =
    let low : 1 ≤ h.stage = h.writes.low in
    let stage : 1 + (h.stage - 1) ≡ h.stage = omega (arith, low) in
    let goes : Shows design given nets.valid d (λ look. control.fires design look h.stage) h.fire =
    subst (λ k. Shows design given nets.valid d (λ look. control.fires design look k) h.fire) stage (EachFrom-at (λ k. Shows design given nets.valid d (λ look. control.fires design look k)) 1 nets.fires fires (h.stage - 1) h.fire h.fire_at) in
    let courses = All-at (λ (s : ServedStage). AreInstrCourses design d s.ground s.courses.items) stages (h.stage - 1) h.served instrs h.served_at in
    let wires = (h.joins).wires in
    let later = Extends-trans h.after new d h.grows e in
    subst (λ q. HasWrites design d modules given nets h.served.ground.word (course_value h.served.ground h.served.courses.items) h.stage q) h.of
    (stand design h.before d modules given nets h.served.ground h.served.courses.items h.stage h.fire h.used h.made (Extends-trans h.before h.after d wires.extends later) h.written courses goes
    (subst (λ q. IsPortShown design d q h.made) (sym h.of) (show design h.before h.after d o.port o.to h.made h.joins later is.named)))

pub writes_are_made : WritesStand → JoinedPortsShow → WritesAreMade
writes_are_made stand show design p old new d modules given nets stages clean ports h e instrs fires stage q s low on at =
    let found = output_of design new p stage q clean ports on in
    let o = found.0 in
    let written = each_one (IsPortWritten design nets.fires stages new) (shown_outputs design p) o h.each found.1 in
    let is = each_one (IsOutputOf design d) (shown_outputs design p) o (outputs_are_named design d p clean (ports_go_on design new d p e ports)) found.1 in
    let used = written.writes.used in
    let same : written.stage ≡ stage = (writes_apart design clean).one_stage q written.stage stage (subst (λ x. is_used_in design written.stage x ≡ true) found.2 used) on in
    let served : written.served ≡ s = some_same (sym written.served_at ∙ ap (λ k. slice_get stages (k - 1)) same ∙ at) in
    let made = one_made stand show design d new modules given nets stages o e instrs fires is written in
    subst (λ (x : (ServedStage × ℕ) × WritePort). HasWrites design d modules given nets x.0.0.ground.word (course_value x.0.0.ground x.0.0.courses.items) x.0.1 x.1) (λ i. ((served i, same i), found.2 i)) made

pub transfer_is_made : TransferStands → TransferIsMade
transfer_is_made stand design old new d modules given nets stages target clean h e instrs valid s at =
    let low : 1 ≤ design.branch = (branch_within design clean).0 in
    let stage : 1 + (design.branch - 1) ≡ design.branch = omega (arith, low) in
    let there : Shows design given nets.valid d (λ look. look.valid design.branch) h.bit =
    subst (λ k. Shows design given nets.valid d (λ look. look.valid k) h.bit) stage (EachFrom-at (λ k. Shows design given nets.valid d (λ look. look.valid k)) 1 nets.valid valid (design.branch - 1) h.bit h.bit_at) in
    let served : h.served ≡ s = some_same (sym h.served_at ∙ at) in
    let courses = All-at (λ (x : ServedStage). AreInstrCourses design d x.ground x.courses.items) stages (design.branch - 1) h.served instrs h.served_at in
    let wires = (h.joins).wires in
    let copy = Carries-Extends e (h.joins).copy.carries in
    subst (λ (x : ServedStage). HasTransfer design d modules given nets x.ground.word target (course_value x.ground x.courses.items)) served
    (stand design h.before d modules given nets h.served.ground h.served.courses.items h.bit target design.address h.made (Extends-trans h.before new d wires.extends e) h.transferred courses there
    (record { taken = copy.means; goes = record { holds = λ r settled. ap (λ (w : Wire). r.read w.number) h.answered } }))

-- The order.

grown : {driven from : List ℕ} (a b : Draft) → DrivesLate driven from a b → Grows a (step b [])
grown a b h = record { extends = h.extends; instances = h.instances ∙ sym (append-nil a.instances); ports = h.ports }

follow : (by : Dependence) (d : Draft) (base ns : List ℕ) → Each (ReadyAfter by d base) ns → Each (Follows by d base) ns
follow by d base ns h = All-from (ReadyAfter by d base) (Follows by d base) (λ n k. (base, among_all base, k)) ns h

from_nothing : (by : Dependence) (d : Draft) (base ns : List ℕ) → Each (Follows by d []) ns → Each (Follows by d base) ns
from_nothing by d base ns h = All-from (Follows by d []) (Follows by d base) (λ n k. (k.0, All-from (Among []) (Among base) (λ m at. absurd at) k.0 k.1, k.2)) ns h

abbrev IsDone : Dependence → Draft → List ℕ → PortOutputs → Type 0
IsDone by d base o = Each (ReadyAfter by d base) (output_numbers o)

groups_follow : (by : Dependence) (d : Draft) (base : List ℕ) (groups : List GroupPorts) → Each (IsDone by d base) (map group_outputs groups) → Each (Follows by d base) (flat_map group_numbers groups)
groups_follow by d base groups h = each_flat_map (Follows by d base) group_numbers groups (All-from (λ g. IsDone by d base (group_outputs g)) (λ g. Each (Follows by d base) (group_numbers g)) (λ g k. follow by d base (group_numbers g) k) groups (All-unmap (IsDone by d base) group_outputs groups h))

mems_follow : (by : Dependence) (design : Design) (d : Draft) (base : List ℕ) (n : ℕ) (mems : List MemPorts) → Each (IsDone by d base) (written_mems design n mems)
    → ((k : ℕ) (m : MemPorts) → slice_get mems k ≡ Some m → is_used design (port.Memory (n + k)) ≡ false → Each (Follows by d []) (mem_write m)) → Each (Follows by d base) (flat_map mem_write mems)
mems_follow by design d base n [] h rest = tt
mems_follow by design d base n (m ∷ mems) h rest = go (is_used design (port.Memory n)) refl h (λ each. mems_follow by design d base (n + 1) mems each others)
  where
    here : n + 0 ≡ n
    here = omega arith

    others : (k : ℕ) (x : MemPorts) → slice_get mems k ≡ Some x → is_used design (port.Memory (n + 1 + k)) ≡ false → Each (Follows by d []) (mem_write x)
    others k x at off = let next : n + 1 + k ≡ n + suc k = omega arith in rest (suc k) x at (subst (λ j. is_used design (port.Memory j) ≡ false) next off)

    go : (b : Bool) → is_used design (port.Memory n) ≡ b → Each (IsDone by d base) (if b then mem_outputs n m ∷ written_mems design (n + 1) mems else written_mems design (n + 1) mems)
        → (Each (IsDone by d base) (written_mems design (n + 1) mems) → Each (Follows by d base) (flat_map mem_write mems)) → Each (Follows by d base) (flat_map mem_write (m ∷ mems))
    go true on h more =
        let three = follow by d base (output_numbers (mem_outputs n m)) h.0 in
        (three.0, (three.1.1.0, (three.1.0, more h.1)))
    go false off h more =
        All-join (Follows by d base) (mem_write m) (flat_map mem_write mems)
        (from_nothing by d base (mem_write m) (rest 0 m refl (subst (λ j. is_used design (port.Memory j) ≡ false) (sym here) off)))
        (more h)

pub writes_are_ready : WritesAreReady
writes_are_ready by design fires stages p old new h = record {
  came = (acting fires stages, among_all (acting fires stages), h.drives.came by);
  outputs = λ rest.
      let base = acting fires stages in
      let done : Each (IsDone by new base) (shown_outputs design p) = All-from (IsPortWritten design fires stages new) (IsDone by new base) (λ o k. k.ready by) (shown_outputs design p) h.each in
      All-join (Follows by new base) (flat_map mem_write p.mems) (flat_map group_numbers p.groups)
      (mems_follow by design new base 0 p.mems (All-back (IsDone by new base) (map group_outputs p.groups) (written_mems design 0 p.mems) done) (λ k m at off. let same : 0 + k ≡ k = omega arith in rest k m at (subst (λ j. is_used design (port.Memory j) ≡ false) same off)))
      (groups_follow by new base p.groups (All-front (IsDone by new base) (map group_outputs p.groups) (written_mems design 0 p.mems) done));
  grows = grown old new h.drives;
}

pub transfer_is_ready : TransferIsReady
transfer_is_ready by design valid stages taken target old new h = record {
  came = (acting valid stages, among_all (acting valid stages), h.drives.came by);
  taken_follows = (acting valid stages, among_all (acting valid stages), h.taken_ready by);
  grows = grown old new h.drives;
}
