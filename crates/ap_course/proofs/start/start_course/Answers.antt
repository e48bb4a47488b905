use Rattle.std.proofs.Common.{◌≡◌, ℕ, List, length, sym, subst, ◌∙◌, arith}
use Rattle.std.specs.List.{AllByRecursion as Each}
use Rattle.ap_net.specs.declared.cell.Wire.{Wire}
use Rattle.ap_pipe.specs.declared.table.Home.{Home}
use Rattle.ap_ports.proofs.Limits.{few_lines}
use Rattle.ap_ports.proofs.Numbered.{sound_numbered}
use Rattle.ap_stage.specs.declared.node.Course.{Course}
use Rattle.ap_stage.specs.declared.slot.Stored.{Stored}
use Rattle.ap_stage.specs.declared.source.Scope.{Scope}
use Rattle.ap_stage.specs.Rows.{AreLines, MakesNone}
use Rattle.ap_stage.specs.Slots.{AreStoredOnce, IsStored}
use Rattle.ap_stage.specs.Sources.{LieIn}
use Rattle.ap_course.specs.Homes.{stored_of}
use Rattle.ap_course.specs.Lines.{lines_of, scope_of}
use Rattle.ap_course.specs.Starts.{IsStartRow}
use Rattle.ap_course.proofs.Coursing.{all_stored, is_started, lie, lines_are}
use Rattle.ap_course.proofs.Few.{few_locals}
use Rattle.ap_course.proofs.Makers.{good_at}
use Rattle.ap_course.proofs.start.start_course.Goals as goal

pub lines_of-requires : goal.lines_of-requires
lines_of-requires c = few_lines c.args.design.now c.requires.fits.1.clean.sound c.args.number c.args.instr.now c.requires.instr

pub uses_of-requires-clause-few : goal.uses_of-requires-clause-few
uses_of-requires-clause-few c = few_lines c.args.design.now c.requires.fits.1.clean.sound c.args.number c.args.instr.now c.requires.instr

pub uses_of-requires-clause-numbered : goal.uses_of-requires-clause-numbered
uses_of-requires-clause-numbered c = sound_numbered c.args.design.now c.requires.fits.1.clean.sound c.args.number c.args.instr.now c.requires.instr

pub overflow_cast-count : goal.overflow_cast-count
overflow_cast-count c =
    let lines = few_lines c.args.design.now c.requires.fits.1.clean.sound c.args.number c.args.instr.now c.requires.instr in
    let locals = few_locals c.args.design.now c.args.instr.now (good_at c.args.design.now c.requires.fits.0 c.args.number c.args.instr.now c.requires.fits.1 c.requires.instr) in
    let is = c.len-count.ensures in
    grind (arith, lines, locals, is)

pub start_row-requires-clause-fields : goal.start_row-requires-clause-fields
start_row-requires-clause-fields c =
    subst (LieIn c.args.ground.now.word.width) (sym c.in_ok-scope.ensures)
    (lie c.args.design.now c.requires.fits.0 c.args.stage c.args.number c.args.instr.now c.args.ground.now c.args.table.now.widths c.args.table.now.homes c.args.slots.now c.requires.fits.1 c.requires.instr c.args.out.now.nets c.requires.of c.requires.homes c.requires.slots)

pub start_row-requires-clause-lines : goal.start_row-requires-clause-lines
start_row-requires-clause-lines c =
    subst (λ ls. AreLines c.args.ground.now c.in_ok-scope.scope ls) (sym (c.as_slice.ensures ∙ c.in_ok-lines.ensures))
    (subst (λ s. AreLines c.args.ground.now s (lines_of c.args.stage c.args.instr.now)) (sym c.in_ok-scope.ensures)
    (lines_are c.args.design.now c.requires.fits.0 c.args.stage c.args.number c.args.instr.now c.args.ground.now c.args.table.now.widths c.args.table.now.homes c.args.slots.now c.requires.fits.1 c.requires.instr c.args.out.now.nets c.requires.of c.requires.homes
    c.requires.slots))

stored_is : (homes : List Home) (slots : List Wire) (k count : ℕ) (table : List Home) (long : ℕ) (made now : List Stored) → homes ≡ table → count ≡ long → made ≡ stored_of homes slots k count → now ≡ made → now ≡ stored_of table slots k long
stored_is homes slots k count table long made now one two is same = same ∙ is ∙ (λ i. stored_of (one i) slots k (two i))

pub start_row-requires-clause-stored : goal.start_row-requires-clause-stored
start_row-requires-clause-stored c =
    let is = stored_is c.as_slice-homes.result.now c.args.slots.now c.args.number c.len-count.result c.args.table.now.homes (length c.args.instr.now.locals) c.in_ok-stored.stored c.as_slice-2.result.now c.as_slice-homes.ensures (c.len-count.ensures) c.in_ok-stored.ensures c.as_slice-2.ensures in
    subst (λ (s : Scope). Each (IsStored c.args.out.now.nets s) c.as_slice-2.result.now) (sym c.in_ok-scope.ensures)
    (subst (λ ss. Each (IsStored c.args.out.now.nets (scope_of c.args.design.now c.args.instr.now)) ss) (sym is)
    (all_stored c.args.design.now c.requires.fits.0 c.args.stage c.args.number c.args.instr.now c.args.ground.now c.args.table.now.widths c.args.table.now.homes c.args.slots.now c.requires.fits.1 c.requires.instr c.args.out.now.nets c.requires.of c.requires.homes c.requires.slots).each)

pub start_row-requires-clause-once : goal.start_row-requires-clause-once
start_row-requires-clause-once c =
    let is = stored_is c.as_slice-homes.result.now c.args.slots.now c.args.number c.len-count.result c.args.table.now.homes (length c.args.instr.now.locals) c.in_ok-stored.stored c.as_slice-2.result.now c.as_slice-homes.ensures (c.len-count.ensures) c.in_ok-stored.ensures c.as_slice-2.ensures in
    subst AreStoredOnce (sym is) (all_stored c.args.design.now c.requires.fits.0 c.args.stage c.args.number c.args.instr.now c.args.ground.now c.args.table.now.widths c.args.table.now.homes c.args.slots.now c.requires.fits.1 c.requires.instr c.args.out.now.nets c.requires.of c.requires.homes c.requires.slots).once

pub start_row-requires-clause-apart : goal.start_row-requires-clause-apart
start_row-requires-clause-apart c =
    let is = stored_is c.as_slice-homes.result.now c.args.slots.now c.args.number c.len-count.result c.args.table.now.homes (length c.args.instr.now.locals) c.in_ok-stored.stored c.as_slice-2.result.now c.as_slice-homes.ensures (c.len-count.ensures) c.in_ok-stored.ensures c.as_slice-2.ensures in
    subst (λ ls. Each (λ (s : Stored). MakesNone ls s.local) c.as_slice-2.result.now) (sym (c.as_slice.ensures ∙ c.in_ok-lines.ensures))
    (subst (λ ss. Each (λ (s : Stored). MakesNone (lines_of c.args.stage c.args.instr.now) s.local) ss) (sym is) (all_stored c.args.design.now c.requires.fits.0 c.args.stage c.args.number c.args.instr.now c.args.ground.now c.args.table.now.widths c.args.table.now.homes c.args.slots.now c.requires.fits.1 c.requires.instr c.args.out.now.nets c.requires.of c.requires.homes c.requires.slots).lines)

pub returns : goal.returns
returns c =
    let is = stored_is c.as_slice-homes.result.now c.args.slots.now c.args.number c.len-count.result c.args.table.now.homes (length c.args.instr.now.locals) c.in_ok-stored.stored c.as_slice-2.result.now c.as_slice-homes.ensures (c.len-count.ensures) c.in_ok-stored.ensures c.as_slice-2.ensures in
    let made : Course = record { cond = c.args.cond; scope = c.in_ok-scope.scope; lines = c.in_ok-lines.lines; uses = c.in_ok-uses.uses; row = c.in_ok-row.row } in
    let first = subst (λ ls. IsStartRow c.args.out.now c.start_row.new.out c.args.ground.now c.in_ok-scope.scope ls c.as_slice-2.result.now c.in_ok-row.row.items) c.as_slice.ensures c.in_ok-row.ensures in
    let start = subst (λ ss. IsStartRow c.args.out.now c.start_row.new.out c.args.ground.now c.in_ok-scope.scope c.in_ok-lines.lines ss c.in_ok-row.row.items) is first in
    is_started c.args.design.now c.requires.fits.0 c.args.stage c.args.number c.args.instr.now c.args.ground.now c.args.table.now.widths c.args.table.now.homes c.args.slots.now c.requires.fits.1 c.requires.instr c.args.out.now.nets c.requires.of c.requires.homes c.requires.slots c.args.out.now c.start_row.new.out made
    (record { scope = c.in_ok-scope.ensures; lines = c.in_ok-lines.ensures; uses = c.in_ok-uses.ensures }) start c.requires.cond c.requires.one_bit c.requires.low
