use Rattle.std.proofs.Common.{refl, sym, rules}
use Rattle.ap_vr.specs.declared.fault.NetFault.TheVariants.{At}
use Rattle.ap_vr.specs.declared.fault.NetKind.TheVariants.{BadForm}
use Rattle.ap_vr.proofs.TextRead.{form_fault, module_takes, none_left, room_after, some_left, text_begins, text_breaks_off, text_ends, text_ends_badly, text_grows, text_is_well_formed, text_without_module, well_formed}
use Rattle.ap_vr.proofs.reading.read_short.Goals as goal

pub outer-init : goal.outer-init
outer-init c = rw c.new-modules.ensures.items (text_begins c.args.text.now (record { rest = c.args.text; number = 1 }) refl refl c.requires)

pub module_name-requires : goal.module_name-requires
module_name-requires c = c.outer.invariant.room

pub read_module-requires : goal.read_module-requires
read_module-requires c = record {
  room = room_after _ _ _ c.outer.invariant.room c.in-Ok.ensures.ok;
  first = sym c.in-Ok.ensures.ok.1.number;
  name = c.in-Ok.ensures.ok.1.spelled.0;
}

pub outer-preserved : goal.outer-preserved
outer-preserved c =
    rw (c.in_ok-push.ensures.items, c.is_top-ends_in_top.ensures)
    (text_grows _ _ _ _ _ _ _ _ _ c.outer.invariant c.in-Ok.ensures.ok c.in-Ok-read_module.ensures.ok c.in-Ok-read_module.ensures.ok.room)

pub outer-smaller : goal.outer-smaller
outer-smaller c = module_takes _ _ _ _ _ _ _ c.in-Ok.ensures.ok c.in-Ok-read_module.ensures.ok

pub returns-in-Err-clause-refused : goal.returns-in-Err-clause-refused
returns-in-Err-clause-refused c =
    form_fault _ c.in-Err.fault c.requires (text_without_module _ _ _ _ _ _ c.outer.invariant (some_left _ _ c.is_empty.ensures (search rules)) c.in-Err.ensures.err)

pub returns-in-Err-read_module-clause-refused : goal.returns-in-Err-read_module-clause-refused
returns-in-Err-read_module-clause-refused c =
    form_fault _ c.in-Err-read_module.fault c.requires (text_breaks_off _ _ _ _ _ _ _ _ c.outer.invariant c.in-Ok.ensures.ok c.in-Err-read_module.ensures.err)

pub returns-then-not-ends_in_top-clause-refused : goal.returns-then-not-ends_in_top-clause-refused
returns-then-not-ends_in_top-clause-refused c =
    rw c.bad.ensures (form_fault c.args.text.now (At c.outer.began BadForm) c.requires (text_ends_badly _ _ _ _ (rw c.if-not-ends_in_top.true at c.outer.invariant) (none_left _ _ c.is_empty.ensures (search rules))))

pub returns-clause-modules : goal.returns-clause-modules
returns-clause-modules c = text_ends _ _ _ _ (rw c.if-not-ends_in_top.false at c.outer.invariant) (none_left _ _ c.is_empty.ensures (search rules))

pub returns-clause-well_formed : goal.returns-clause-well_formed
returns-clause-well_formed c = well_formed _ c.requires (text_is_well_formed _ _ _ _ (rw c.if-not-ends_in_top.false at c.outer.invariant) (none_left _ _ c.is_empty.ensures (search rules)))
