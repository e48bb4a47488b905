use Rattle.std.proofs.Common.{length, List, subst}
use Rattle.ap_stages.specs.declared.nodes.Supplied.{Supplied}
use Rattle.ap_supply.specs.Listing.{IsUnitEntry, IsUnitNumber, Lists}
use Rattle.ap_supply.proofs.Served.{are_supplied, are_supplies, each_is}
use Rattle.ap_supply.proofs.supplies.supplies.Goals as goal

pub returns-clause-entries : goal.returns-clause-entries
returns-clause-entries c = each_is c.args.design.now c.args.modules.now c.args.places.now c.args.slow.now c.args.files.now c.args.mems.now c.list_units.new.made c.list_files.new.made c.list_mems.new.made
    (subst (λ (l : List Supplied). Lists (IsUnitEntry c.args.design.now c.args.modules.now c.args.places.now c.args.slow.now) (IsUnitNumber (length c.args.design.now.units)) l c.list_units.new.made) c.new-made.ensures c.in_ok-list_units.ensures)
    c.in_ok-list_files.ensures c.in_ok-list_mems.ensures

pub returns-clause-of : goal.returns-clause-of
returns-clause-of c = are_supplies c.args.design.now c.args.modules.now c.args.places.now c.args.slow.now c.args.files.now c.args.mems.now c.list_units.new.made c.list_files.new.made c.list_mems.new.made
    (subst (λ (l : List Supplied). Lists (IsUnitEntry c.args.design.now c.args.modules.now c.args.places.now c.args.slow.now) (IsUnitNumber (length c.args.design.now.units)) l c.list_units.new.made) c.new-made.ensures c.in_ok-list_units.ensures)
    c.in_ok-list_files.ensures c.in_ok-list_mems.ensures

pub returns-clause-all : goal.returns-clause-all
returns-clause-all c = are_supplied c.args.design.now c.args.modules.now c.args.places.now c.args.slow.now c.args.files.now c.args.mems.now c.list_units.new.made c.list_files.new.made c.list_mems.new.made
    (subst (λ (l : List Supplied). Lists (IsUnitEntry c.args.design.now c.args.modules.now c.args.places.now c.args.slow.now) (IsUnitNumber (length c.args.design.now.units)) l c.list_units.new.made) c.new-made.ensures c.in_ok-list_units.ensures)
    c.in_ok-list_files.ensures c.in_ok-list_mems.ensures
