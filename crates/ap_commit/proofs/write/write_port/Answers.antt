use Rattle.std.proofs.Common.{◌∷◌, List, ◌∙◌, subst}
use Rattle.std.specs.List.{AllByRecursion as Each}
use Rattle.ap_net.specs.Late.{Reads}
use Rattle.ap_net.specs.Pending.{IsFrom}
use Rattle.ap_net.specs.Ready.{numbers}
use Rattle.ap_net.proofs.Laws.{Makes-trans}
use Rattle.ap_ctl.proofs.Bits.{IsBit-Makes}
use Rattle.ap_stage.specs.Courses.{courses_numbers}
use Rattle.ap_stage.proofs.Users.{courses_on}
use Rattle.ap_effect.specs.declared.line.PortLine.{PortLine}
use Rattle.ap_effect.specs.declared.write.Writer.{Writer}
use Rattle.ap_effect.specs.Lines.{write_lines}
use Rattle.ap_effect.specs.Writers.{AreWriteNets, write_wires, writing_numbers}
use Rattle.ap_outcome.specs.Outcomes.{AreLineWriters}
use Rattle.ap_commit.proofs.Made.{both_from, count_of}
use Rattle.ap_commit.proofs.write.write_port.Goals as goal

pub writers-requires-clause-lines : goal.writers-requires-clause-lines
writers-requires-clause-lines c = rw (c.as_slice.ensures, c.in_ok-lines.ensures) c.requires.port.can

pub write_nets-requires-clause-fires : goal.write_nets-requires-clause-fires
write_nets-requires-clause-fires c = IsBit-Makes _ _ c.args.fires c.in_ok-given.ensures.reads.makes c.requires.fires

pub write_nets-requires-clause-some : goal.write_nets-requires-clause-some
write_nets-requires-clause-some c =
    let design = c.args.design.now in
    let lines = write_lines design c.args.stage c.args.used.now.port in
    let come = subst (λ (l : List PortLine). AreLineWriters c.writers.new.out c.args.ground.now c.args.courses.now l c.in_ok-given.given) (c.as_slice.ensures ∙ c.in_ok-lines.ensures) c.in_ok-given.ensures.writers in
    rw (c.as_slice-2.ensures, count_of c.writers.new.out c.args.ground.now c.args.courses.now lines c.in_ok-given.given come) c.requires.port.some

pub write_nets-requires-clause-over : goal.write_nets-requires-clause-over
write_nets-requires-clause-over c =
    let design = c.args.design.now in
    let lines = write_lines design c.args.stage c.args.used.now.port in
    let come = subst (λ (l : List PortLine). AreLineWriters c.writers.new.out c.args.ground.now c.args.courses.now l c.in_ok-given.given) (c.as_slice.ensures ∙ c.in_ok-lines.ensures) c.in_ok-given.ensures.writers in
    rw (c.as_slice-2.ensures, count_of c.writers.new.out c.args.ground.now c.args.courses.now lines c.in_ok-given.given come) c.requires.port.over

pub write_nets-requires-clause-writers : goal.write_nets-requires-clause-writers
write_nets-requires-clause-writers c =
    let design = c.args.design.now in
    let ground = c.args.ground.now in
    let courses = c.args.courses.now in
    let used = c.args.used.now in
    let lines = write_lines design c.args.stage used.port in
    let out = c.writers.new.out in
    let given = c.in_ok-given.given in
    let come = subst (λ (l : List PortLine). AreLineWriters out ground courses l given) (c.as_slice.ensures ∙ c.in_ok-lines.ensures) c.in_ok-given.ensures.writers in
    rw c.as_slice-2.ensures (c.line_writers_fit.ensures.fit out ground courses used.bits used.width lines given (courses_on c.args.out.now out ground courses c.in_ok-given.ensures.reads.makes.adds c.requires.courses) c.requires.port.fit come)

pub returns-clause-written : goal.returns-clause-written
returns-clause-written c =
    let design = c.args.design.now in
    let ground = c.args.ground.now in
    let courses = c.args.courses.now in
    let used = c.args.used.now in
    let lines = write_lines design c.args.stage used.port in
    let mid = c.writers.new.out in
    let new = c.write_nets.new.out in
    let given = c.in_ok-given.given in
    let come = subst (λ (l : List PortLine). AreLineWriters mid ground courses l given) (c.as_slice.ensures ∙ c.in_ok-lines.ensures) c.in_ok-given.ensures.writers in
    record {
      old = mid.nets;
      writers = given;
      fit = c.line_writers_fit.ensures.fit mid ground courses used.bits used.width lines given (courses_on c.args.out.now mid ground courses c.in_ok-given.ensures.reads.makes.adds c.requires.courses) c.requires.port.fit come;
      come = c.line_writers_fit.ensures.go_on mid new ground courses lines given c.in_ok-nets.ensures.makes.adds.extends come;
      are = subst (λ (ws : List Writer). AreWriteNets new c.args.fires ws used.bits used.width c.in_ok-nets.nets) c.as_slice-2.ensures c.in_ok-nets.ensures.nets;
    }

pub returns-clause-from : goal.returns-clause-from
returns-clause-from c =
    let ground = c.args.ground.now in
    let courses = c.args.courses.now in
    let fires = c.args.fires in
    let old = c.args.out.now in
    let mid = c.writers.new.out in
    let new = c.write_nets.new.out in
    let given = c.in_ok-given.given in
    let nets = numbers (write_wires c.in_ok-nets.nets) in
    let reads = subst (λ (ws : List Writer). Reads (fires.number ∷ writing_numbers ws) mid new) c.as_slice-2.ensures c.in_ok-nets.ensures.reads in
    let results = subst (λ (ws : List Writer). Each (IsFrom (fires.number ∷ writing_numbers ws) mid new) nets) c.as_slice-2.ensures c.in_ok-nets.ensures.results in
    both_from (courses_numbers ground courses) fires.number old mid new (writing_numbers given) nets c.in_ok-given.ensures.reads.reads c.in_ok-given.ensures.from reads results

pub returns-clause-makes : goal.returns-clause-makes
returns-clause-makes c = Makes-trans _ _ _ c.in_ok-given.ensures.reads.makes c.in_ok-nets.ensures.makes
