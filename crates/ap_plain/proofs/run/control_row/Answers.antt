use Rattle.std.proofs.Common.{◌<◌, length, ◌∙◌, arith}
use Rattle.ap_plain.specs.Scenes.{control_of_scene}
use Rattle.ap_plain.proofs.RunLemmas.{control_row_is, row_ports_few}
use Rattle.ap_plain.proofs.run.control_row.Goals as goal

pub add_group_writes-requires : goal.add_group_writes-requires
add_group_writes-requires c =
    let few : length c.as_slice-2.result.now < 1000 = rw (c.as_slice-2.ensures, c.in_ok-ports.ensures) (row_ports_few c.args.scene.now.design.now c.args.scene.now.cards.now c.requires.scene.design) in
    omega arith

pub returns : goal.returns
returns c =
    let scene = c.args.scene.now in
    let writes = rw c.as_slice.ensures at c.in_ok-writes.ensures in
    control_row_is scene.design.now scene.cards.now scene.inputs.now scene.state.now (control_of_scene scene) c.is_held.result c.is_some.result c.add_group_writes.new.out c.as_slice-2.result.now c.deref.result.now c.in_ok-entries.entries
    c.is_held.ensures c.is_some.ensures (c.as_slice-2.ensures ∙ c.in_ok-ports.ensures) c.in_ok-entries.ensures.value (c.deref.ensures.value ∙ writes)
    (rw c.new-shown.ensures at c.in_ok-add_group_writes.ensures)
