use Rattle.std.proofs.Common.{inl, inr, refl}
use Rattle.ap_stage.specs.Sources.{LiesIn}
use Rattle.ap_stage.proofs.Sourced.{field_operand, local_found, local_net, local_wiring, nothing_made, word_wiring}
use Rattle.ap_stage.proofs.Wired.{wiring_same}
use Rattle.ap_stage.proofs.Listed.{each_at}
use Rattle.ap_stage.proofs.source.operand_net.Goals as goal

pub returns-in-Local-clause-net : goal.returns-in-Local-clause-net
returns-in-Local-clause-net c = rw c.in-Local.is (local_net _ c.args.ground.now c.args.scope.now c.args.row.now c.in-Local.i c.net_at.result c.requires.row c.net_at.ensures)

pub returns-in-Local-clause-wiring : goal.returns-in-Local-clause-wiring
returns-in-Local-clause-wiring c = local_wiring _ c.args.ground.now c.args.row.now c.in-Local.i c.net_at.result c.net_at.ensures

pub returns-in-Local-clause-found : goal.returns-in-Local-clause-found
returns-in-Local-clause-found c = rw c.in-Local.is (local_found c.args.row.now c.in-Local.i c.net_at.result c.net_at.ensures)

pub returns-in-Local-clause-none : goal.returns-in-Local-clause-none
returns-in-Local-clause-none c = nothing_made _ c.net_at.result

pub returns-in-Pc-clause-net : goal.returns-in-Pc-clause-net
returns-in-Pc-clause-net c = rw c.in-Pc.is (record { net = c.requires.ground.place; wide = refl; means = record { holds = λ r s. refl } })

pub returns-in-Pc-clause-wiring : goal.returns-in-Pc-clause-wiring
returns-in-Pc-clause-wiring c = wiring_same _ _ c.args.ground.now.place (inr (inl refl))

pub returns-in-Link-clause-net : goal.returns-in-Link-clause-net
returns-in-Link-clause-net c = rw c.in-Link.is (record { net = c.requires.ground.link; wide = refl; means = record { holds = λ r s. refl } })

pub returns-in-Link-clause-wiring : goal.returns-in-Link-clause-wiring
returns-in-Link-clause-wiring c = wiring_same _ _ c.args.ground.now.link (inr (inr (inl refl)))

pub field_net-requires-clause-field : goal.field_net-requires-clause-field
field_net-requires-clause-field c = each_at (LiesIn c.args.ground.now.word.width) c.args.scope.now.fields c.in-Field.i c.field_at-field.result.now c.requires.fields (rw c.as_slice-fields.ensures at c.field_at-field.ensures)

pub returns-in_ok-bits-in-Field-clause-net : goal.returns-in_ok-bits-in-Field-clause-net
returns-in_ok-bits-in-Field-clause-net c = rw c.in-Field.is (field_operand _ c.args.ground.now c.args.scope.now c.args.row.now c.in-Field.i c.field_at-field.result.now c.in_ok-bits-in-Field.bits (rw c.as_slice-fields.ensures at c.field_at-field.ensures) c.in_ok-bits-in-Field.ensures.carries)

pub returns-in_ok-bits-in-Field-clause-wiring : goal.returns-in_ok-bits-in-Field-clause-wiring
returns-in_ok-bits-in-Field-clause-wiring c = word_wiring _ _ c.args.ground.now c.args.row.now c.in_ok-bits-in-Field.bits c.in_ok-bits-in-Field.ensures.wiring
