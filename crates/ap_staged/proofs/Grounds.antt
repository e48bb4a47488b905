-- The nets of a stage's lines are what they are named for.
use Rattle.std.proofs.Common.{◌≡◌, ℕ, zero, suc, List, [], ◌∷◌, Option, Some, refl, sym, ap, subst, ◌∙◌}
use Rattle.std.specs.Prelude.{slice_get, true}
use Rattle.ap_ctl.proofs.Beside.{EachPair-at}
use Rattle.ap_bank.specs.declared.regs.RegWrite.{RegWrite}
use Rattle.ap_bank.specs.Regs.{IsReg, RegTakes, TakeWrites}
use Rattle.ap_border.specs.Named.{IsNamed, IsRegisterNamed}
use Rattle.ap_course.specs.Links.{links}
use Rattle.ap_desc.specs.declared.design.Design.{Design}
use Rattle.ap_desc.specs.declared.design.InPort.{InPort as Input}
use Rattle.ap_desc.specs.declared.design.Reg.{Reg}
use Rattle.ap_flight.specs.Stages.{TakesNet}
use Rattle.ap_front.specs.Ports.{IsInput}
use Rattle.ap_model.specs.Fire.{link_of}
use Rattle.ap_net.specs.declared.cell.Wire.{Wire}
use Rattle.ap_net.specs.Cells.{IsNet}
use Rattle.ap_net.specs.Draft.{Draft, Extends}
use Rattle.ap_net.specs.Outside.{input_name}
use Rattle.ap_net.specs.Readings.{Always, Carries}
use Rattle.ap_net.proofs.Laws.{Always-Extends, Carries-Extends, Extends-trans}
use Rattle.ap_pipe.specs.declared.table.StageSlots.{StageSlots}
use Rattle.ap_signals.specs.NetRuns.{reg_name}
use Rattle.ap_stage.specs.declared.node.Course.{Course}
use Rattle.ap_stage.specs.declared.source.Ground.{Ground}
use Rattle.ap_stages.specs.declared.begin.SharedNets.{SharedNets}
use Rattle.ap_stages.specs.declared.begin.StageNets.{StageNets}
use Rattle.ap_stages.specs.Begun.{IsBegun}
use Rattle.ap_values.specs.Served.{IsNamedGround}
use Rattle.ap_staged.specs.Grounds.{AreSharedNamed, GroundsAreNamed}

net_on : {a b : Draft} → Extends a b → (w : Wire) → IsNet a.nets w → IsNet b.nets w
net_on {a} {b} e w h = (Carries-Extends e anything).net
  where
    anything : Carries a w.width (λ r x. Unit {0}) w
    anything = record { net = h; wide = refl; means = record { holds = λ r s. tt } }

takes_at : (d : Draft) (registers : List Wire) (writes : List (Option RegWrite)) → TakeWrites d registers writes → (k : ℕ) (w : Wire) → slice_get registers k ≡ Some w
    → (write : Option RegWrite) × TakesNet d (RegTakes w write) w
takes_at d [] writes h k w at = absurd cc
takes_at d (x ∷ registers) [] h k w at = absurd h
takes_at d (x ∷ registers) (y ∷ writes) h zero w at = let same : x ≡ w = cc in (y, subst (λ (z : Wire). TakesNet d (RegTakes z y) z) same h.0)
takes_at d (x ∷ registers) (y ∷ writes) h (suc k) w at = takes_at d registers writes h.1 k w at

module _ (design : Design) (d : Draft) (stage : ℕ) (table : StageSlots) (shared : SharedNets) (own : StageNets) (old new : Draft) (ground : Ground) (courses : List Course)
    (h : IsBegun design stage table shared own old new ground courses) (later : Extends new d) (named : AreSharedNamed design d shared) where
  onward : Extends h.linked d
  onward = Extends-trans h.linked new d h.started.makes.adds.extends later

  reg_named : (reg : ℕ) (of : Reg) (w : Wire) → slice_get design.regs reg ≡ Some of → slice_get ground.regs reg ≡ Some w → (from : Wire) × IsRegisterNamed d (reg_name of) of.reset w from
  reg_named reg of w at there =
      let here : slice_get shared.regs reg ≡ Some w = ap (λ (ws : List Wire). slice_get ws reg) (sym h.grounded.regs) ∙ there in
      let is = EachPair-at (IsReg d) design.regs shared.regs named.regs reg of w at here in
      let takes = takes_at d shared.regs named.writes named.takes reg w here in
      (takes.1.from, record { begins = is.begins; next = takes.1.next })

  input_named : (input : ℕ) (of : Input) (w : Wire) → slice_get design.inputs input ≡ Some of → slice_get ground.inputs input ≡ Some w → IsNamed d (input_name (record { name = of.name; width = of.width })) w
  input_named input of w at there =
      let here : slice_get shared.inputs input ≡ Some w = ap (λ (ws : List Wire). slice_get ws input) (sym h.grounded.inputs) ∙ there in
      let is = EachPair-at (IsInput d) design.inputs shared.inputs named.inputs input of w at here in
      record { net = _; there = is.there; named = refl }

  link_is : links design stage ≡ true → Always d (λ r. r.read ground.link.number ≡ link_of design (r.read ground.place.number))
  link_is does = subst (λ (place : Wire). Always d (λ r. r.read ground.link.number ≡ link_of design (r.read place.number))) (sym h.grounded.place) (Always-Extends onward (h.link.value does))

  ground_named : IsNamedGround design d stage ground
  ground_named = record { nets = h.of; word = net_on onward ground.word h.there.word; link = link_is; regs = reg_named; inputs = input_named }

pub grounds_named : GroundsAreNamed
grounds_named = ground_named
