use Rattle.ap_bits.specs.Cards.{operation_names}
use Rattle.ap_check.proofs.NameLists.{names_more}
use Rattle.ap_check.proofs.uses.operations_of.Goals as goal

pub loop-i-preserved : goal.loop-i-preserved
loop-i-preserved g c =
    names_more (operation_names ((goal.UnitKind-dyn g c.args.kind.now).card c.args.kind.now.1)) c.loop-i.i c.op_name.result.now c.loop-i.names c.add.new.self
    c.name-name.ensures.1.distinct c.op_name.ensures c.loop-i.invariant c.in_ok-add.ensures
