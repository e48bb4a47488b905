use Rattle.std.proofs.Common.{map, subst, sym, ap, ◌∙◌}
use Rattle.std.specs.String.{string_bytes}
use Rattle.ap_unit.specs.Shelves.{cards_of}
use Rattle.ap_top.specs.declared.command.Command.TheVariants.{Asm, Gen, Sim}
use Rattle.ap_top.specs.Calls.{call_of}
use Rattle.ap_top.specs.Commands.{IsCall}
use Rattle.ap_top.specs.Simulation.{sim_targets}
use Rattle.ap_top.proofs.Causes.{asked_cause}
use Rattle.ap_top.proofs.Calls.{asm_inputs, asm_outputs, call_done, call_stopped, gen_inputs, gen_outputs, sim_call}
use Rattle.ap_top.proofs.serve.run.Goals as goal

pub returns-in-Some-Gen-clause-done : goal.returns-in-Some-Gen-clause-done
returns-in-Some-Gen-clause-done g c =
    let call = subst (λ k. IsCall k (map string_bytes c.args.words.now)) c.in-Some-Gen.field-0-is c.in-Some-Gen.ensures.found in
    call_done _ Gen c.generate.result _ _ _ _ _ call (gen_inputs string_bytes _ _ _ call c.index-words-1.is c.as_str.ensures.value) (gen_outputs string_bytes _ _ _ call c.index-words-2.is c.as_str-in-Some-Gen.ensures.value) c.generate.ensures.done

pub returns-in-Some-Gen-clause-stopped : goal.returns-in-Some-Gen-clause-stopped
returns-in-Some-Gen-clause-stopped g c =
    let call = subst (λ k. IsCall k (map string_bytes c.args.words.now)) c.in-Some-Gen.field-0-is c.in-Some-Gen.ensures.found in
    call_stopped _ Gen c.generate.result _ _ _ _ _ call (gen_inputs string_bytes _ _ _ call c.index-words-1.is c.as_str.ensures.value) (gen_outputs string_bytes _ _ _ call c.index-words-2.is c.as_str-in-Some-Gen.ensures.value) c.generate.ensures.stopped

pub returns-in-Some-Gen-clause-cause : goal.returns-in-Some-Gen-clause-cause
returns-in-Some-Gen-clause-cause g c =
    let call = subst (λ k. IsCall k (map string_bytes c.args.words.now)) c.in-Some-Gen.field-0-is c.in-Some-Gen.ensures.found in
    asked_cause (call_of (cards_of (λ x. (goal.UnitKind-dyn g x).card x.1) c.args.shelf.now) c.args.words.now (g.D.Desk.files c.args.desk.now)) Gen _ _ _ c.generate.result call (gen_inputs string_bytes _ _ _ call c.index-words-1.is c.as_str.ensures.value) c.generate.ensures.cause

pub returns-in-Some-Asm-clause-done : goal.returns-in-Some-Asm-clause-done
returns-in-Some-Asm-clause-done g c =
    let call = subst (λ k. IsCall k (map string_bytes c.args.words.now)) c.in-Some-Asm.field-0-is c.in-Some-Asm.ensures.found in
    call_done _ Asm c.assemble.result _ _ _ _ _ call (asm_inputs string_bytes _ _ _ _ _ call c.index-words-1-in-Some-Asm.is c.as_str-in-Some-Asm.ensures.value c.index-words-2-in-Some-Asm.is c.as_str-in-Some-Asm-2.ensures.value)
    (asm_outputs string_bytes _ _ _ _ _ call c.index-words-3.is c.as_str-in-Some-Asm-3.ensures.value c.index-words-4.is c.as_str-in-Some-Asm-4.ensures.value) c.assemble.ensures.done

pub returns-in-Some-Asm-clause-stopped : goal.returns-in-Some-Asm-clause-stopped
returns-in-Some-Asm-clause-stopped g c =
    let call = subst (λ k. IsCall k (map string_bytes c.args.words.now)) c.in-Some-Asm.field-0-is c.in-Some-Asm.ensures.found in
    call_stopped _ Asm c.assemble.result _ _ _ _ _ call (asm_inputs string_bytes _ _ _ _ _ call c.index-words-1-in-Some-Asm.is c.as_str-in-Some-Asm.ensures.value c.index-words-2-in-Some-Asm.is c.as_str-in-Some-Asm-2.ensures.value)
    (asm_outputs string_bytes _ _ _ _ _ call c.index-words-3.is c.as_str-in-Some-Asm-3.ensures.value c.index-words-4.is c.as_str-in-Some-Asm-4.ensures.value) c.assemble.ensures.stopped

pub returns-in-Some-Asm-clause-cause : goal.returns-in-Some-Asm-clause-cause
returns-in-Some-Asm-clause-cause g c =
    let call = subst (λ k. IsCall k (map string_bytes c.args.words.now)) c.in-Some-Asm.field-0-is c.in-Some-Asm.ensures.found in
    asked_cause (call_of (cards_of (λ x. (goal.UnitKind-dyn g x).card x.1) c.args.shelf.now) c.args.words.now (g.D.Desk.files c.args.desk.now)) Asm _ _ _ c.assemble.result call (asm_inputs string_bytes _ _ _ _ _ call c.index-words-1-in-Some-Asm.is c.as_str-in-Some-Asm.ensures.value c.index-words-2-in-Some-Asm.is c.as_str-in-Some-Asm-2.ensures.value) c.assemble.ensures.cause

pub returns-in-Some-Sim-clause-done : goal.returns-in-Some-Sim-clause-done
returns-in-Some-Sim-clause-done g c =
    let call = subst (λ k. IsCall k (map string_bytes c.args.words.now)) c.in-Some-Sim.field-0-is c.in-Some-Sim.ensures.found in
    let words = sim_call string_bytes c.args.words.now _ _ _ _ _ call (record {
      one = _;
      netlist_at = (c.index-words-1-in-Some-Sim.is, c.as_str-in-Some-Sim.ensures.value);
      two = _;
      image_at = (c.index-words-2-in-Some-Sim.is, c.as_str-in-Some-Sim-2.ensures.value);
      three = _;
      trace_at = (c.index-words-3-in-Some-Sim.is, c.as_str-in-Some-Sim-3.ensures.value);
      four = _;
      count_at = (c.index-words-4-in-Some-Sim.is, c.as_str-in-Some-Sim-4.ensures.value);
      five = _;
      rows_at = (c.index-words-5.is, c.as_str-in-Some-Sim-5.ensures.value);
    }) in
    let to = words.outputs ∙ ap (λ n. sim_targets n c.as_str-in-Some-Sim-5.result.now) (sym c.cycles_of.ensures.value) in
    let cards = cards_of (λ x. (goal.UnitKind-dyn g x).card x.1) c.args.shelf.now in
    call_done cards Sim c.simulate.result _ _ _ _ _ call words.inputs to (c.simulate.ensures.done cards)

pub returns-in-Some-Sim-clause-stopped : goal.returns-in-Some-Sim-clause-stopped
returns-in-Some-Sim-clause-stopped g c =
    let call = subst (λ k. IsCall k (map string_bytes c.args.words.now)) c.in-Some-Sim.field-0-is c.in-Some-Sim.ensures.found in
    let words = sim_call string_bytes c.args.words.now _ _ _ _ _ call (record {
      one = _;
      netlist_at = (c.index-words-1-in-Some-Sim.is, c.as_str-in-Some-Sim.ensures.value);
      two = _;
      image_at = (c.index-words-2-in-Some-Sim.is, c.as_str-in-Some-Sim-2.ensures.value);
      three = _;
      trace_at = (c.index-words-3-in-Some-Sim.is, c.as_str-in-Some-Sim-3.ensures.value);
      four = _;
      count_at = (c.index-words-4-in-Some-Sim.is, c.as_str-in-Some-Sim-4.ensures.value);
      five = _;
      rows_at = (c.index-words-5.is, c.as_str-in-Some-Sim-5.ensures.value);
    }) in
    let to = words.outputs ∙ ap (λ n. sim_targets n c.as_str-in-Some-Sim-5.result.now) (sym c.cycles_of.ensures.value) in
    let cards = cards_of (λ x. (goal.UnitKind-dyn g x).card x.1) c.args.shelf.now in
    call_stopped cards Sim c.simulate.result _ _ _ _ _ call words.inputs to (c.simulate.ensures.stopped cards)

pub returns-in-Some-Sim-clause-cause : goal.returns-in-Some-Sim-clause-cause
returns-in-Some-Sim-clause-cause g c =
    let call = subst (λ k. IsCall k (map string_bytes c.args.words.now)) c.in-Some-Sim.field-0-is c.in-Some-Sim.ensures.found in
    let words = sim_call string_bytes c.args.words.now _ _ _ _ _ call (record {
      one = _;
      netlist_at = (c.index-words-1-in-Some-Sim.is, c.as_str-in-Some-Sim.ensures.value);
      two = _;
      image_at = (c.index-words-2-in-Some-Sim.is, c.as_str-in-Some-Sim-2.ensures.value);
      three = _;
      trace_at = (c.index-words-3-in-Some-Sim.is, c.as_str-in-Some-Sim-3.ensures.value);
      four = _;
      count_at = (c.index-words-4-in-Some-Sim.is, c.as_str-in-Some-Sim-4.ensures.value);
      five = _;
      rows_at = (c.index-words-5.is, c.as_str-in-Some-Sim-5.ensures.value);
    }) in
    let cards = cards_of (λ x. (goal.UnitKind-dyn g x).card x.1) c.args.shelf.now in
    asked_cause (call_of cards c.args.words.now (g.D.Desk.files c.args.desk.now)) Sim _ _ _ c.simulate.result call words.inputs (c.simulate.ensures.cause cards)

pub simulate-requires-clause-netlist : goal.simulate-requires-clause-netlist
simulate-requires-clause-netlist g c =
    let call = subst (λ k. IsCall k (map string_bytes c.args.words.now)) c.in-Some-Sim.field-0-is c.in-Some-Sim.ensures.found in
    let words = sim_call string_bytes c.args.words.now _ _ _ _ _ call (record {
      one = _;
      netlist_at = (c.index-words-1-in-Some-Sim.is, c.as_str-in-Some-Sim.ensures.value);
      two = _;
      image_at = (c.index-words-2-in-Some-Sim.is, c.as_str-in-Some-Sim-2.ensures.value);
      three = _;
      trace_at = (c.index-words-3-in-Some-Sim.is, c.as_str-in-Some-Sim-3.ensures.value);
      four = _;
      count_at = (c.index-words-4-in-Some-Sim.is, c.as_str-in-Some-Sim-4.ensures.value);
      five = _;
      rows_at = (c.index-words-5.is, c.as_str-in-Some-Sim-5.ensures.value);
    }) in
    words.netlist_name

pub simulate-requires-clause-image : goal.simulate-requires-clause-image
simulate-requires-clause-image g c =
    let call = subst (λ k. IsCall k (map string_bytes c.args.words.now)) c.in-Some-Sim.field-0-is c.in-Some-Sim.ensures.found in
    let words = sim_call string_bytes c.args.words.now _ _ _ _ _ call (record {
      one = _;
      netlist_at = (c.index-words-1-in-Some-Sim.is, c.as_str-in-Some-Sim.ensures.value);
      two = _;
      image_at = (c.index-words-2-in-Some-Sim.is, c.as_str-in-Some-Sim-2.ensures.value);
      three = _;
      trace_at = (c.index-words-3-in-Some-Sim.is, c.as_str-in-Some-Sim-3.ensures.value);
      four = _;
      count_at = (c.index-words-4-in-Some-Sim.is, c.as_str-in-Some-Sim-4.ensures.value);
      five = _;
      rows_at = (c.index-words-5.is, c.as_str-in-Some-Sim-5.ensures.value);
    }) in
    words.image_name

pub simulate-requires-clause-trace : goal.simulate-requires-clause-trace
simulate-requires-clause-trace g c =
    let call = subst (λ k. IsCall k (map string_bytes c.args.words.now)) c.in-Some-Sim.field-0-is c.in-Some-Sim.ensures.found in
    let words = sim_call string_bytes c.args.words.now _ _ _ _ _ call (record {
      one = _;
      netlist_at = (c.index-words-1-in-Some-Sim.is, c.as_str-in-Some-Sim.ensures.value);
      two = _;
      image_at = (c.index-words-2-in-Some-Sim.is, c.as_str-in-Some-Sim-2.ensures.value);
      three = _;
      trace_at = (c.index-words-3-in-Some-Sim.is, c.as_str-in-Some-Sim-3.ensures.value);
      four = _;
      count_at = (c.index-words-4-in-Some-Sim.is, c.as_str-in-Some-Sim-4.ensures.value);
      five = _;
      rows_at = (c.index-words-5.is, c.as_str-in-Some-Sim-5.ensures.value);
    }) in
    words.trace_name

pub simulate-requires-clause-rows : goal.simulate-requires-clause-rows
simulate-requires-clause-rows g c =
    let call = subst (λ k. IsCall k (map string_bytes c.args.words.now)) c.in-Some-Sim.field-0-is c.in-Some-Sim.ensures.found in
    let words = sim_call string_bytes c.args.words.now _ _ _ _ _ call (record {
      one = _;
      netlist_at = (c.index-words-1-in-Some-Sim.is, c.as_str-in-Some-Sim.ensures.value);
      two = _;
      image_at = (c.index-words-2-in-Some-Sim.is, c.as_str-in-Some-Sim-2.ensures.value);
      three = _;
      trace_at = (c.index-words-3-in-Some-Sim.is, c.as_str-in-Some-Sim-3.ensures.value);
      four = _;
      count_at = (c.index-words-4-in-Some-Sim.is, c.as_str-in-Some-Sim-4.ensures.value);
      five = _;
      rows_at = (c.index-words-5.is, c.as_str-in-Some-Sim-5.ensures.value);
    }) in
    words.rows_name
