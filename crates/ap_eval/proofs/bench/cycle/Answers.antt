use Rattle.std.proofs.Common.{◌≡◌, ◌≤◌, ◌∙◌, length, ap, arith}
use Rattle.ap_net.specs.Answering.{first_mem_port}
use Rattle.ap_eval.proofs.Able.{addresses_able, inputs_fit, memories_low, net_able, ops_able, registers_able, settled_are, settled_count, shown_low, sources_able}
use Rattle.ap_eval.proofs.bench.cycle.Goals as goal

pub put_inputs-requires : goal.put_inputs-requires
put_inputs-requires c = inputs_fit c.args.flat.now c.rules.ensures c.args.plan.now.roots.items c.args.plan.now.ops.items c.args.input.now c.args.values.now c.args.memories.now (length c.args.taken.now) (length c.args.shown.now) c.requires

pub compute-requires : goal.compute-requires
compute-requires c = ops_able c.args.flat.now c.rules.ensures c.args.plan.now.roots.items c.args.plan.now.ops.items c.args.input.now c.args.values.now c.args.memories.now (length c.args.taken.now) (length c.args.shown.now) c.requires
    c.put_inputs.new.values c.put_inputs.ensures c.deref.result.now c.deref.ensures.value

pub show-requires : goal.show-requires
show-requires c =
    let f = c.args.flat.now in
    let long = settled_count f c.rules.ensures c.args.plan.now.roots.items c.args.plan.now.ops.items c.args.input.now c.args.values.now c.args.memories.now (length c.args.taken.now) (length c.args.shown.now) c.requires
    c.put_inputs.new.values c.compute.new.values c.deref.result.now c.put_inputs.ensures c.compute.ensures in
    let low : length c.args.shown.now ≤ length f.net.nets = shown_low f c.rules.ensures c.args.plan.now.roots.items c.args.plan.now.ops.items c.args.input.now c.args.values.now c.args.memories.now (length c.args.taken.now) (length c.args.shown.now) c.requires in
    λ n lt. net_able f c.rules.ensures c.args.plan.now.roots.items c.args.plan.now.ops.items c.args.input.now c.args.values.now c.args.memories.now (length c.args.taken.now) (length c.args.shown.now) c.requires
    c.compute.new.values c.deref-2.result.now long c.deref-2.ensures.value n (omega arith)

pub write_memories-requires-clause-within : goal.write_memories-requires-clause-within
write_memories-requires-clause-within c =
    let f = c.args.flat.now in
    let long = settled_count f c.rules.ensures c.args.plan.now.roots.items c.args.plan.now.ops.items c.args.input.now c.args.values.now c.args.memories.now (length c.args.taken.now) (length c.args.shown.now) c.requires
    c.put_inputs.new.values c.compute.new.values c.deref.result.now c.put_inputs.ensures c.compute.ensures in
    let first : c.first_mem_port-first.result ≡ first_mem_port f.outside = c.first_mem_port-first.ensures ∙ ap first_mem_port c.outside.ensures in
    let low = memories_low f c.rules.ensures c.args.plan.now.roots.items c.args.plan.now.ops.items c.args.input.now c.args.values.now c.args.memories.now (length c.args.taken.now) (length c.args.shown.now) c.requires c.first_mem_port-first.result first in
    λ n lt. net_able f c.rules.ensures c.args.plan.now.roots.items c.args.plan.now.ops.items c.args.input.now c.args.values.now c.args.memories.now (length c.args.taken.now) (length c.args.shown.now) c.requires
    c.compute.new.values c.deref-3.result.now long c.deref-3.ensures.value n (omega arith)

pub write_memories-requires-clause-fits : goal.write_memories-requires-clause-fits
write_memories-requires-clause-fits c =
    let f = c.args.flat.now in
    let settled = settled_are f c.rules.ensures c.args.plan.now.roots.items c.args.plan.now.ops.items c.args.input.now c.args.values.now c.args.memories.now (length c.args.taken.now) (length c.args.shown.now) c.requires
    c.put_inputs.new.values c.compute.new.values c.deref.result.now c.put_inputs.ensures c.deref.ensures.value c.compute.ensures in
    addresses_able f c.rules.ensures c.args.plan.now.roots.items c.args.plan.now.ops.items c.args.input.now c.args.values.now c.args.memories.now (length c.args.taken.now) (length c.args.shown.now) c.requires
    c.compute.new.values c.deref-3.result.now c.first_mem_port-first.result settled c.deref-3.ensures.value (c.first_mem_port-first.ensures ∙ ap first_mem_port c.outside.ensures)

pub take_registers-requires-clause-within : goal.take_registers-requires-clause-within
take_registers-requires-clause-within c =
    let f = c.args.flat.now in
    let long = settled_count f c.rules.ensures c.args.plan.now.roots.items c.args.plan.now.ops.items c.args.input.now c.args.values.now c.args.memories.now (length c.args.taken.now) (length c.args.shown.now) c.requires
    c.put_inputs.new.values c.compute.new.values c.deref.result.now c.put_inputs.ensures c.compute.ensures in
    sources_able f c.rules.ensures c.args.plan.now.roots.items c.args.plan.now.ops.items c.args.input.now c.args.values.now c.args.memories.now (length c.args.taken.now) (length c.args.shown.now) c.requires
    c.compute.new.values c.deref-4.result.now c.nexts-nexts.result.now long c.deref-4.ensures.value c.nexts-nexts.ensures

pub give_registers-requires-clause-within : goal.give_registers-requires-clause-within
give_registers-requires-clause-within c =
    let f = c.args.flat.now in
    let long = settled_count f c.rules.ensures c.args.plan.now.roots.items c.args.plan.now.ops.items c.args.input.now c.args.values.now c.args.memories.now (length c.args.taken.now) (length c.args.shown.now) c.requires
    c.put_inputs.new.values c.compute.new.values c.deref.result.now c.put_inputs.ensures c.compute.ensures in
    registers_able f c.rules.ensures c.args.plan.now.roots.items c.args.plan.now.ops.items c.args.input.now c.args.values.now c.args.memories.now (length c.args.taken.now) (length c.args.shown.now) c.requires
    c.compute.new.values c.nexts-nexts.result.now long c.nexts-nexts.ensures
