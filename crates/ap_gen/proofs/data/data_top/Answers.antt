use Rattle.std.proofs.Common.{length, List, sym, ap, subst, ◌∙◌}
use Rattle.std.specs.List.{AllByRecursion as Each}
use Rattle.ap_net.specs.Modules.{ModuleText}
use Rattle.ap_stages.specs.Stages.{AreAllNets, IsLowStage}
use Rattle.ap_stages.specs.Stood.{AreApartSupplies, AreStanding}
use Rattle.ap_stages.specs.declared.nodes.Supplied.{Supplied}
use Rattle.ap_supply.specs.Listing.{HaveQuickModules, HaveReadNets, WerePlaced}
use Rattle.ap_gen.proofs.DataStaging.{can_stage_by, can_supply}
use Rattle.ap_gen.proofs.data.data_top.Goals as goal

pub supplies-requires-clause-quick : goal.supplies-requires-clause-quick
supplies-requires-clause-quick c =
    let can = can_supply c.args.design.now c.args.tables.now.slots c.args.parts.now.modules.items c.args.parts.now.units c.args.parts.now.kinds c.args.start.now c.args.out.now c.requires.clean c.requires.tables.slots c.requires.parts c.requires.starts in
    subst (λ (ms : List ModuleText). HaveQuickModules c.args.design.now ms c.as_slice.result.now) (sym c.as_slice-modules.ensures.value) (subst (HaveQuickModules c.args.design.now c.args.parts.now.modules.items) (sym c.as_slice.ensures) can.quick)

pub supplies-requires-clause-slow : goal.supplies-requires-clause-slow
supplies-requires-clause-slow c =
    let can = can_supply c.args.design.now c.args.tables.now.slots c.args.parts.now.modules.items c.args.parts.now.units c.args.parts.now.kinds c.args.start.now c.args.out.now c.requires.clean c.requires.tables.slots c.requires.parts c.requires.starts in
    subst (WerePlaced c.args.design.now) (sym c.as_slice-2.ensures) can.slow

pub supplies-requires-clause-nets : goal.supplies-requires-clause-nets
supplies-requires-clause-nets c =
    let can = can_supply c.args.design.now c.args.tables.now.slots c.args.parts.now.modules.items c.args.parts.now.units c.args.parts.now.kinds c.args.start.now c.args.out.now c.requires.clean c.requires.tables.slots c.requires.parts c.requires.starts in
    subst (HaveReadNets c.args.design.now) (sym c.as_slice-3.ensures) can.reads

pub supplies-requires-clause-mems : goal.supplies-requires-clause-mems
supplies-requires-clause-mems c =
    let can = can_supply c.args.design.now c.args.tables.now.slots c.args.parts.now.modules.items c.args.parts.now.units c.args.parts.now.kinds c.args.start.now c.args.out.now c.requires.clean c.requires.tables.slots c.requires.parts c.requires.starts in
    ap length c.as_slice-4.ensures ∙ can.mems

pub nets_of_stages-requires : goal.nets_of_stages-requires
nets_of_stages-requires c =
    let can = can_supply c.args.design.now c.args.tables.now.slots c.args.parts.now.modules.items c.args.parts.now.units c.args.parts.now.kinds c.args.start.now c.args.out.now c.requires.clean c.requires.tables.slots c.requires.parts c.requires.starts in
    ap length c.as_slice-decoded.ensures ∙ can.decoded ∙ sym (ap length c.as_slice-6.ensures)

pub make_stages-requires-clause-stand : goal.make_stages-requires-clause-stand
make_stages-requires-clause-stand c =
    let can =
    can_stage_by c.args.design.now c.args.tables.now c.args.parts.now.modules.items c.args.parts.now.units c.args.parts.now.kinds c.args.start.now c.args.out.now c.in_ok-supplies.supplies c.in_ok-shared.shared c.in_ok-own.own.items
    c.as_slice-modules.result.now c.as_slice.result.now c.as_slice-2.result.now c.as_slice-3.result.now c.as_slice-4.result.now c.as_slice-5.result.now c.as_slice-6.result.now c.as_slice-decoded.result.now c.requires.clean c.requires.tables c.requires.parts c.requires.starts
    c.as_slice-modules.ensures.value c.as_slice.ensures c.as_slice-2.ensures c.as_slice-3.ensures c.as_slice-4.ensures c.as_slice-5.ensures c.as_slice-6.ensures c.as_slice-decoded.ensures c.in_ok-supplies.ensures.entries c.in_ok-supplies.ensures.of c.in_ok-supplies.ensures.all
    c.in_ok-shared.ensures c.in_ok-own.ensures
    in
    subst (λ (ms : List ModuleText). Each (AreStanding c.args.design.now c.args.out.now ms c.as_slice-8.result.now) c.args.tables.now.paths.orders) (sym c.as_slice-modules.ensures.value)
    (subst (λ (l : List Supplied). Each (AreStanding c.args.design.now c.args.out.now c.args.parts.now.modules.items l) c.args.tables.now.paths.orders) (sym c.as_slice-8.ensures) can.stand)

pub make_stages-requires-clause-apart : goal.make_stages-requires-clause-apart
make_stages-requires-clause-apart c =
    let can =
    can_stage_by c.args.design.now c.args.tables.now c.args.parts.now.modules.items c.args.parts.now.units c.args.parts.now.kinds c.args.start.now c.args.out.now c.in_ok-supplies.supplies c.in_ok-shared.shared c.in_ok-own.own.items
    c.as_slice-modules.result.now c.as_slice.result.now c.as_slice-2.result.now c.as_slice-3.result.now c.as_slice-4.result.now c.as_slice-5.result.now c.as_slice-6.result.now c.as_slice-decoded.result.now c.requires.clean c.requires.tables c.requires.parts c.requires.starts
    c.as_slice-modules.ensures.value c.as_slice.ensures c.as_slice-2.ensures c.as_slice-3.ensures c.as_slice-4.ensures c.as_slice-5.ensures c.as_slice-6.ensures c.as_slice-decoded.ensures c.in_ok-supplies.ensures.entries c.in_ok-supplies.ensures.of c.in_ok-supplies.ensures.all
    c.in_ok-shared.ensures c.in_ok-own.ensures
    in
    subst AreApartSupplies (sym c.as_slice-8.ensures) can.apart

pub make_stages-requires-clause-shared : goal.make_stages-requires-clause-shared
make_stages-requires-clause-shared c =
    let can =
    can_stage_by c.args.design.now c.args.tables.now c.args.parts.now.modules.items c.args.parts.now.units c.args.parts.now.kinds c.args.start.now c.args.out.now c.in_ok-supplies.supplies c.in_ok-shared.shared c.in_ok-own.own.items
    c.as_slice-modules.result.now c.as_slice.result.now c.as_slice-2.result.now c.as_slice-3.result.now c.as_slice-4.result.now c.as_slice-5.result.now c.as_slice-6.result.now c.as_slice-decoded.result.now c.requires.clean c.requires.tables c.requires.parts c.requires.starts
    c.as_slice-modules.ensures.value c.as_slice.ensures c.as_slice-2.ensures c.as_slice-3.ensures c.as_slice-4.ensures c.as_slice-5.ensures c.as_slice-6.ensures c.as_slice-decoded.ensures c.in_ok-supplies.ensures.entries c.in_ok-supplies.ensures.of c.in_ok-supplies.ensures.all
    c.in_ok-shared.ensures c.in_ok-own.ensures
    in
    can.there

pub make_stages-requires-clause-own : goal.make_stages-requires-clause-own
make_stages-requires-clause-own c =
    let can =
    can_stage_by c.args.design.now c.args.tables.now c.args.parts.now.modules.items c.args.parts.now.units c.args.parts.now.kinds c.args.start.now c.args.out.now c.in_ok-supplies.supplies c.in_ok-shared.shared c.in_ok-own.own.items
    c.as_slice-modules.result.now c.as_slice.result.now c.as_slice-2.result.now c.as_slice-3.result.now c.as_slice-4.result.now c.as_slice-5.result.now c.as_slice-6.result.now c.as_slice-decoded.result.now c.requires.clean c.requires.tables c.requires.parts c.requires.starts
    c.as_slice-modules.ensures.value c.as_slice.ensures c.as_slice-2.ensures c.as_slice-3.ensures c.as_slice-4.ensures c.as_slice-5.ensures c.as_slice-6.ensures c.as_slice-decoded.ensures c.in_ok-supplies.ensures.entries c.in_ok-supplies.ensures.of c.in_ok-supplies.ensures.all
    c.in_ok-shared.ensures c.in_ok-own.ensures
    in
    subst (AreAllNets c.args.design.now c.args.out.now c.args.tables.now.slots.stages) (sym c.as_slice-9.ensures.value) can.own.nets

pub make_stages-requires-clause-low : goal.make_stages-requires-clause-low
make_stages-requires-clause-low c =
    let can =
    can_stage_by c.args.design.now c.args.tables.now c.args.parts.now.modules.items c.args.parts.now.units c.args.parts.now.kinds c.args.start.now c.args.out.now c.in_ok-supplies.supplies c.in_ok-shared.shared c.in_ok-own.own.items
    c.as_slice-modules.result.now c.as_slice.result.now c.as_slice-2.result.now c.as_slice-3.result.now c.as_slice-4.result.now c.as_slice-5.result.now c.as_slice-6.result.now c.as_slice-decoded.result.now c.requires.clean c.requires.tables c.requires.parts c.requires.starts
    c.as_slice-modules.ensures.value c.as_slice.ensures c.as_slice-2.ensures c.as_slice-3.ensures c.as_slice-4.ensures c.as_slice-5.ensures c.as_slice-6.ensures c.as_slice-decoded.ensures c.in_ok-supplies.ensures.entries c.in_ok-supplies.ensures.of c.in_ok-supplies.ensures.all
    c.in_ok-shared.ensures c.in_ok-own.ensures
    in
    subst (Each (IsLowStage c.args.out.now c.in_ok-shared.shared)) (sym c.as_slice-9.ensures.value) can.own.low
