use Rattle.std.proofs.Common.{rules}
use Rattle.ap_vr.proofs.ModuleRead.{fewer_bytes, inside_start, module_begins, module_breaks_off, module_ends_badly, module_grows, module_is_read}
use Rattle.ap_vr.proofs.reading.read_module.Goals as goal

pub inner-init : goal.inner-init
inner-init c = rw c.begin-module.ensures (module_begins c.args.first c.args.name c.args.lines.now c.is_top-top.result c.requires.name c.requires.room c.requires.first c.is_top-top.ensures)

pub next-requires : goal.next-requires
next-requires c = c.inner.invariant.room

pub inner-preserved : goal.inner-preserved
inner-preserved c =
    rw (c.after-part.ensures, c.in_ok-add.ensures)
    (module_grows _ _ _ _ _ _ _ _ _ c.inner.invariant (inside_start _ _ c.is_start.ensures (search rules)) c.in-Ok.ensures.ok (search rules))

pub inner-smaller : goal.inner-smaller
inner-smaller c = fewer_bytes _ _ _ c.in-Ok.ensures.ok

pub returns-in-Err-clause-err : goal.returns-in-Err-clause-err
returns-in-Err-clause-err c = module_breaks_off _ _ _ _ _ _ _ _ c.inner.invariant (inside_start _ _ c.is_start.ensures (search rules)) c.in-Err.ensures.err

pub returns-then-not-is_due-clause-err : goal.returns-then-not-is_due-clause-err
returns-then-not-is_due-clause-err c = rw c.bad.ensures (module_ends_badly _ _ _ _ _ _ _ _ _ c.inner.invariant c.in-Ok.ensures.ok (search rules))

pub returns-clause-ok : goal.returns-clause-ok
returns-clause-ok c = module_is_read _ _ _ _ _ _ _ _ c.inner.invariant c.is_start.ensures (search rules)
