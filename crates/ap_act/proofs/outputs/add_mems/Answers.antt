use Rattle.std.proofs.Common.{◌≡◌, ℕ, ◌+◌, ◌<◌, ◌++◌, ◌∷◌, [], List, if◌then◌else◌, length, take, get_or, Some, ap, sym, append_assoc, ◌∙◌, arith}
use Rattle.std.specs.Prelude.{slice_get}
use Rattle.std.proofs.lemmas.Option.{slice_get-get_or}
use Rattle.ap_ctl.proofs.Beside.{no_wire}
use Rattle.ap_model.specs.declared.storage.WritePort.TheVariants as port
use Rattle.ap_model.specs.Ports.{is_used}
use Rattle.ap_front.specs.declared.ports.MemPorts.{MemPorts}
use Rattle.ap_act.specs.declared.outputs.PortOutputs.{PortOutputs}
use Rattle.ap_act.specs.Outputs.{mem_outputs, written_mems}
use Rattle.ap_act.proofs.HasOutputs.{mems_more}
use Rattle.ap_act.proofs.outputs.add_mems.Goals as goal

pub loop-place-preserved : goal.loop-place-preserved
loop-place-preserved c =
    let design = c.args.design.now in
    let mems : List MemPorts = c.args.mems.now in
    let i : ℕ = c.loop-place.place in
    let inside : i < length mems = c.loop-place-test.true in
    let none : MemPorts = record { read_address = no_wire; read = no_wire; enable = no_wire; address = no_wire; value = no_wire } in
    let m : MemPorts = get_or mems i none in
    let at : slice_get mems i ≡ Some m = slice_get-get_or mems i none inside in
    let front : List PortOutputs = c.args.list.now in
    let last : ℕ → List PortOutputs = λ k. if is_used design (port.Memory k) then mem_outputs k m ∷ [] else [] in
    let same : 0 + i ≡ i = omega arith in
    c.in_ok-add_mem.ensures ∙ ap (λ l. l ++ last i) c.loop-place.invariant ∙ append_assoc front (written_mems design 0 (take i mems)) (last i)
    ∙ ap (λ l. front ++ l) (ap (λ k. written_mems design 0 (take i mems) ++ last k) (sym same) ∙ sym (mems_more design 0 i mems m at))
