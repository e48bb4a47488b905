use Rattle.std.proofs.Common.{◌≡◌, ◌-◌, ◌*◌, ◌≤◌, List, ◌∷◌, length, drop, take, map, refl, sym, ap, subst, ◌∙◌, arith}
use Rattle.std.proofs.lemmas.Bool.{both_ways}
use Rattle.ap_image.specs.Shapes.{IsShape, Shape, shape_with}
use Rattle.ap_net.specs.declared.net.Port.{Port}
use Rattle.ap_net.specs.Outside.{InPort}
use Rattle.ap_flat.specs.Ports.{AreDueAfter}
use Rattle.ap_flat.proofs.Dues.{IsRead, due_there, few, is_read, kill_is, no_groups, no_shape, short, stall_is, two_first}
use Rattle.ap_flat.proofs.outside.after_head.Goals as goal

pub returns-in_default-clause-none : goal.returns-in_default-clause-none
returns-in_default-clause-none c =
    let ports = c.args.ports.now in
    let inputs = c.in_ok-inputs.inputs in
    let mems = c.in_ok-mems.mems in
    let after : List Port = take (length ports - c.len.result) (drop c.len.result ports) in
    let rest : List Port = take (length after - 5 * c.len-2.result) (drop (5 * c.len-2.result) after) in
    let r : IsRead ports inputs mems after rest = is_read ports after rest inputs mems c.len.result c.len-2.result c.len.ensures c.len-2.ensures refl refl
    c.in_ok-inputs.ensures.split c.in_ok-inputs.ensures.each c.in_ok-inputs.ensures.ends c.in_ok-mems.ensures.split c.in_ok-mems.ensures.each c.in_ok-mems.ensures.ends in
    short c.args.address c.args.word ports inputs mems after rest r c.in_default.len_below

pub returns-then-not-are_states-clause-none : goal.returns-then-not-are_states-clause-none
returns-then-not-are_states-clause-none c =
    let ports = c.args.ports.now in
    let inputs = c.in_ok-inputs.inputs in
    let mems = c.in_ok-mems.mems in
    let after : List Port = take (length ports - c.len.result) (drop c.len.result ports) in
    let rest : List Port = take (length after - 5 * c.len-2.result) (drop (5 * c.len-2.result) after) in
    let r : IsRead ports inputs mems after rest = is_read ports after rest inputs mems c.len.result c.len-2.result c.len.ensures c.len-2.ensures refl refl
    c.in_ok-inputs.ensures.split c.in_ok-inputs.ensures.each c.in_ok-inputs.ensures.ends c.in_ok-mems.ensures.split c.in_ok-mems.ensures.each c.in_ok-mems.ensures.ends in
    let stall = c.stall-item.result in
    let kill = c.kill-item.result in
    let groups : List Port = take (length rest - 2) (drop 2 rest) in
    let split : rest ≡ stall ∷ kill ∷ groups = two_first rest stall kill groups c.in-len2-up.len_at_least c.stall-item.is c.kill-item.is refl in
    λ o due. both_ways c.are_states.result c.if-not-are_states.true
    (c.are_states.ensures.1 (stall_is c.args.address c.args.word ports inputs mems after rest r stall kill groups split o due, kill_is c.args.address c.args.word ports inputs mems after rest r stall kill groups split o due))

pub returns-then-not-are_few-clause-none : goal.returns-then-not-are_few-clause-none
returns-then-not-are_few-clause-none c =
    let ports = c.args.ports.now in
    let inputs = c.in_ok-inputs.inputs in
    let mems = c.in_ok-mems.mems in
    let after : List Port = take (length ports - c.len.result) (drop c.len.result ports) in
    let rest : List Port = take (length after - 5 * c.len-2.result) (drop (5 * c.len-2.result) after) in
    let r : IsRead ports inputs mems after rest = is_read ports after rest inputs mems c.len.result c.len-2.result c.len.ensures c.len-2.ensures refl refl
    c.in_ok-inputs.ensures.split c.in_ok-inputs.ensures.each c.in_ok-inputs.ensures.ends c.in_ok-mems.ensures.split c.in_ok-mems.ensures.each c.in_ok-mems.ensures.ends in
    λ o due.
    let f = few c.args.address c.args.word ports inputs mems after rest r o due in
    let a : c.len-3.result ≤ 8 = omega (arith, c.len-3.ensures) in
    let b : c.len-4.result ≤ 4 = omega (arith, c.len-4.ensures) in
    both_ways c.are_few.result c.if-not-are_few.true (c.are_few.ensures.1 (a, b))

pub returns-in_default-2-clause-none : goal.returns-in_default-2-clause-none
returns-in_default-2-clause-none c =
    let ports = c.args.ports.now in
    let inputs = c.in_ok-inputs.inputs in
    let mems = c.in_ok-mems.mems in
    let after : List Port = take (length ports - c.len.result) (drop c.len.result ports) in
    let rest : List Port = take (length after - 5 * c.len-2.result) (drop (5 * c.len-2.result) after) in
    let r : IsRead ports inputs mems after rest = is_read ports after rest inputs mems c.len.result c.len-2.result c.len.ensures c.len-2.ensures refl refl
    c.in_ok-inputs.ensures.split c.in_ok-inputs.ensures.each c.in_ok-inputs.ensures.ends c.in_ok-mems.ensures.split c.in_ok-mems.ensures.each c.in_ok-mems.ensures.ends in
    let stall = c.stall-item.result in
    let kill = c.kill-item.result in
    let groups : List Port = take (length rest - 2) (drop 2 rest) in
    let split : rest ≡ stall ∷ kill ∷ groups = two_first rest stall kill groups c.in-len2-up.len_at_least c.stall-item.is c.kill-item.is refl in
    no_groups c.args.address c.args.word ports inputs mems after rest r stall kill groups split (rw c.in_default-2.is at c.in_ok-groups.ensures.none)

pub returns-in_default-checked-clause-none : goal.returns-in_default-checked-clause-none
returns-in_default-checked-clause-none c =
    let ports = c.args.ports.now in
    let inputs = c.in_ok-inputs.inputs in
    let mems = c.in_ok-mems.mems in
    let after : List Port = take (length ports - c.len.result) (drop c.len.result ports) in
    let rest : List Port = take (length after - 5 * c.len-2.result) (drop (5 * c.len-2.result) after) in
    let r : IsRead ports inputs mems after rest = is_read ports after rest inputs mems c.len.result c.len-2.result c.len.ensures c.len-2.ensures refl refl
    c.in_ok-inputs.ensures.split c.in_ok-inputs.ensures.each c.in_ok-inputs.ensures.ends c.in_ok-mems.ensures.split c.in_ok-mems.ensures.each c.in_ok-mems.ensures.ends in
    let stall = c.stall-item.result in
    let kill = c.kill-item.result in
    let groups : List Port = take (length rest - 2) (drop 2 rest) in
    let split : rest ≡ stall ∷ kill ∷ groups = two_first rest stall kill groups c.in-len2-up.len_at_least c.stall-item.is c.kill-item.is refl in
    let widths : c.in_ok-widths.widths ≡ map (λ (p : InPort). p.width) inputs = c.in_ok-widths.ensures ∙ ap (map (λ (p : InPort). p.width)) c.as_slice.ensures in
    no_shape c.args.address c.args.word ports inputs mems after rest r stall kill groups split
    (λ is. c.in_default-checked.ensures.none (subst (λ ws. IsShape (shape_with c.args.address c.args.word mems ws)) (sym widths) is))

pub returns-clause-some : goal.returns-clause-some
returns-clause-some c =
    let ports = c.args.ports.now in
    let inputs = c.in_ok-inputs.inputs in
    let mems = c.in_ok-mems.mems in
    let after : List Port = take (length ports - c.len.result) (drop c.len.result ports) in
    let rest : List Port = take (length after - 5 * c.len-2.result) (drop (5 * c.len-2.result) after) in
    let r : IsRead ports inputs mems after rest = is_read ports after rest inputs mems c.len.result c.len-2.result c.len.ensures c.len-2.ensures refl refl
    c.in_ok-inputs.ensures.split c.in_ok-inputs.ensures.each c.in_ok-inputs.ensures.ends c.in_ok-mems.ensures.split c.in_ok-mems.ensures.each c.in_ok-mems.ensures.ends in
    let stall = c.stall-item.result in
    let kill = c.kill-item.result in
    let groups : List Port = take (length rest - 2) (drop 2 rest) in
    let split : rest ≡ stall ∷ kill ∷ groups = two_first rest stall kill groups c.in-len2-up.len_at_least c.stall-item.is c.kill-item.is refl in
    let widths : c.in_ok-widths.widths ≡ map (λ (p : InPort). p.width) inputs = c.in_ok-widths.ensures ∙ ap (map (λ (p : InPort). p.width)) c.as_slice.ensures in
    let states = c.are_states.ensures.0 c.if-not-are_states.false in
    let sizes = c.are_few.ensures.0 c.if-not-are_few.false in
    let a : length inputs ≤ 8 = omega (arith, c.len-3.ensures) in
    let b : length mems ≤ 4 = omega (arith, c.len-4.ensures) in
    let some = rw c.in-Some.is at c.in_ok-groups.ensures.some in
    let shape : c.in-Some-checked.shape ≡ shape_with c.args.address c.args.word mems (map (λ (p : InPort). p.width) inputs) = c.in-Some-checked.ensures.some ∙ ap (shape_with c.args.address c.args.word mems) widths in
    let due = due_there c.args.address c.args.word ports inputs mems after rest r stall kill groups split c.in-Some.groups c.requires states.0 states.1 a b some.0 some.1 (subst IsShape shape c.rules.ensures) in
    subst (λ (s : Shape). AreDueAfter c.args.address c.args.word ports (record { address = s.code_address; word = s.code_width; inputs = inputs; mems = s.mems; groups = c.in-Some.groups })) (sym shape) due
