use Rattle.std.proofs.Common.{◌≡◌, ◌∷◌, None, List, length, map, sym, ◌∙◌, subst}
use Rattle.std.specs.List.{AllByRecursion as Each}
use Rattle.std.proofs.lemmas.List.{length-map}
use Rattle.ap_net.specs.Late.{Reads}
use Rattle.ap_net.specs.Pending.{IsFrom}
use Rattle.ap_net.specs.Ready.{numbers}
use Rattle.ap_net.proofs.Laws.{Makes-trans}
use Rattle.ap_ctl.proofs.Bits.{IsBit-Makes}
use Rattle.ap_stage.specs.Courses.{courses_numbers}
use Rattle.ap_stage.proofs.Users.{courses_on}
use Rattle.ap_effect.specs.declared.line.PortLine.{PortLine}
use Rattle.ap_effect.specs.declared.transfer.Transfer.{Transfer}
use Rattle.ap_effect.specs.Lines.{transfer_lines}
use Rattle.ap_effect.specs.Writers.{AreTransferNets, transfer_wires, writer_of, writing_numbers}
use Rattle.ap_outcome.specs.Outcomes.{AreLineWriters}
use Rattle.ap_commit.proofs.Made.{both_from, count_of, none_index}
use Rattle.ap_commit.proofs.transfer.transfer.Goals as goal

pub transfers-requires-clause-lines : goal.transfers-requires-clause-lines
transfers-requires-clause-lines c = rw (c.as_slice.ensures, c.in_ok-lines.ensures) c.requires.can.can

pub transfers-requires-clause-none : goal.transfers-requires-clause-none
transfers-requires-clause-none c =
    let design = c.args.design.now in
    rw (c.as_slice.ensures, c.in_ok-lines.ensures) (none_index c.args.ground.now c.args.courses.now c.args.width (transfer_lines design design.branch) c.requires.can.can c.requires.can.fit)

pub transfer_nets-requires-clause-valid : goal.transfer_nets-requires-clause-valid
transfer_nets-requires-clause-valid c = IsBit-Makes _ _ c.args.valid c.in_ok-given.ensures.reads.makes c.requires.valid

pub transfer_nets-requires-clause-some : goal.transfer_nets-requires-clause-some
transfer_nets-requires-clause-some c =
    let design = c.args.design.now in
    let lines = transfer_lines design design.branch in
    let given = c.in_ok-given.given in
    let come = subst (λ (l : List PortLine). AreLineWriters c.transfers.new.out c.args.ground.now c.args.courses.now l (map writer_of given)) (c.as_slice.ensures ∙ c.in_ok-lines.ensures) c.in_ok-given.ensures.transfers in
    let count : length given ≡ length lines = sym (length-map given writer_of) ∙ count_of c.transfers.new.out c.args.ground.now c.args.courses.now lines (map writer_of given) come in
    rw (c.as_slice-2.ensures, count) c.requires.can.some

pub transfer_nets-requires-clause-over : goal.transfer_nets-requires-clause-over
transfer_nets-requires-clause-over c =
    let design = c.args.design.now in
    let lines = transfer_lines design design.branch in
    let given = c.in_ok-given.given in
    let come = subst (λ (l : List PortLine). AreLineWriters c.transfers.new.out c.args.ground.now c.args.courses.now l (map writer_of given)) (c.as_slice.ensures ∙ c.in_ok-lines.ensures) c.in_ok-given.ensures.transfers in
    let count : length given ≡ length lines = sym (length-map given writer_of) ∙ count_of c.transfers.new.out c.args.ground.now c.args.courses.now lines (map writer_of given) come in
    rw (c.as_slice-2.ensures, count) c.requires.can.over

pub transfer_nets-requires-clause-transfers : goal.transfer_nets-requires-clause-transfers
transfer_nets-requires-clause-transfers c =
    let design = c.args.design.now in
    let ground = c.args.ground.now in
    let courses = c.args.courses.now in
    let lines = transfer_lines design design.branch in
    let out = c.transfers.new.out in
    let given = c.in_ok-given.given in
    let come = subst (λ (l : List PortLine). AreLineWriters out ground courses l (map writer_of given)) (c.as_slice.ensures ∙ c.in_ok-lines.ensures) c.in_ok-given.ensures.transfers in
    rw c.as_slice-2.ensures (c.line_writers_fit.ensures.fit out ground courses None c.args.width lines (map writer_of given) (courses_on c.args.out.now out ground courses c.in_ok-given.ensures.reads.makes.adds c.requires.courses) c.requires.can.fit come)

pub returns-clause-transferred : goal.returns-clause-transferred
returns-clause-transferred c =
    let design = c.args.design.now in
    let ground = c.args.ground.now in
    let courses = c.args.courses.now in
    let lines = transfer_lines design design.branch in
    let mid = c.transfers.new.out in
    let new = c.transfer_nets.new.out in
    let given = c.in_ok-given.given in
    let come = subst (λ (l : List PortLine). AreLineWriters mid ground courses l (map writer_of given)) (c.as_slice.ensures ∙ c.in_ok-lines.ensures) c.in_ok-given.ensures.transfers in
    record {
      transfers = given;
      come = c.line_writers_fit.ensures.go_on mid new ground courses lines (map writer_of given) c.in_ok-nets.ensures.makes.adds.extends come;
      are = subst (λ (ts : List Transfer). AreTransferNets new c.args.valid ts c.args.width c.in_ok-nets.nets) c.as_slice-2.ensures c.in_ok-nets.ensures.nets;
    }

pub returns-clause-from : goal.returns-clause-from
returns-clause-from c =
    let ground = c.args.ground.now in
    let courses = c.args.courses.now in
    let valid = c.args.valid in
    let old = c.args.out.now in
    let mid = c.transfers.new.out in
    let new = c.transfer_nets.new.out in
    let given = c.in_ok-given.given in
    let nets = numbers (transfer_wires c.in_ok-nets.nets) in
    let reads = subst (λ (ts : List Transfer). Reads (valid.number ∷ writing_numbers (map writer_of ts)) mid new) c.as_slice-2.ensures c.in_ok-nets.ensures.reads in
    let results = subst (λ (ts : List Transfer). Each (IsFrom (valid.number ∷ writing_numbers (map writer_of ts)) mid new) nets) c.as_slice-2.ensures c.in_ok-nets.ensures.results in
    both_from (courses_numbers ground courses) valid.number old mid new (writing_numbers (map writer_of given)) nets c.in_ok-given.ensures.reads.reads c.in_ok-given.ensures.from reads results

pub returns-clause-makes : goal.returns-clause-makes
returns-clause-makes c = Makes-trans _ _ _ c.in_ok-given.ensures.reads.makes c.in_ok-nets.ensures.makes
