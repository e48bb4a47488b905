use Rattle.std.proofs.Common.{◌≡◌, sym, subst, ◌∙◌, arith}
use Rattle.std.proofs.lemmas.Option.{same_Some}
use Rattle.ap_desc.specs.declared.design.Instr.{Instr}
use Rattle.ap_net.specs.declared.cell.Wire.{Wire}
use Rattle.ap_net.specs.Cells.{IsNet}
use Rattle.ap_ports.proofs.Members.{each_get}
use Rattle.ap_course.specs.Starts.{IsStarted}
use Rattle.ap_course.proofs.start.start_nth.Goals as goal

pub cond_at-cond-requires : goal.cond_at-cond-requires
cond_at-cond-requires c = let long = c.requires.conds.long in let there = c.requires.there in omega (arith, long, there)

pub start_course-requires-clause-cond : goal.start_course-requires-clause-cond
start_course-requires-clause-cond c = each_get (IsNet c.args.out.now.nets) c.args.conds.now c.args.number c.cond_at-cond.result c.requires.conds.nets_are c.cond_at-cond.ensures

pub start_course-requires-clause-one_bit : goal.start_course-requires-clause-one_bit
start_course-requires-clause-one_bit c = each_get (λ (w : Wire). w.width ≡ 1) c.args.conds.now c.args.number c.cond_at-cond.result c.requires.conds.one_bit c.cond_at-cond.ensures

pub returns-clause-started : goal.returns-clause-started
returns-clause-started c = λ instr cond at has.
    let one = same_Some _ _ (sym c.instr_at-instr.ensures ∙ at) in
    let other = same_Some _ _ (sym c.cond_at-cond.ensures ∙ has) in
    subst (λ (w : Wire). IsStarted c.args.design.now c.args.stage c.args.number instr c.args.ground.now c.args.table.now.homes c.args.slots.now c.args.out.now c.start_course.new.out w c.in_ok-course.course) other
    (subst (λ (i : Instr). IsStarted c.args.design.now c.args.stage c.args.number i c.args.ground.now c.args.table.now.homes c.args.slots.now c.args.out.now c.start_course.new.out c.cond_at-cond.result c.in_ok-course.course) one c.in_ok-course.ensures)

pub returns-clause-reads : goal.returns-clause-reads
returns-clause-reads c = c.in_ok-course.ensures.from.reads

pub returns-clause-makes : goal.returns-clause-makes
returns-clause-makes c = c.in_ok-course.ensures.makes
