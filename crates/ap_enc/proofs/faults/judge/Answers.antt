use Rattle.std.proofs.Common.{◌≡◌, Some, None, get_or}
use Rattle.std.specs.Prelude.{position}
use Rattle.ap_desc.specs.WordFaults.{is_wrong_sum}
use Rattle.ap_desc.specs.declared.fault.Fault.TheVariants as f
use Rattle.ap_enc.proofs.Judged.{fault_within, holds_nowhere, if_none, least_format, least_instr, read_at}
use Rattle.ap_enc.proofs.Places.{first_within}
use Rattle.ap_enc.proofs.faults.judge.Goals as goal

pub returns-in-Some-clause-some : goal.returns-in-Some-clause-some
returns-in-Some-clause-some c =
    let design = c.args.design.now in
    let first : position (is_wrong_sum c.args.design.now.word) c.args.design.now.formats ≡ Some c.in-Some.place = cc in
    let line = get_or c.as_slice-in-Some.result.now c.in-Some.place c.index-as_slice-place.result in
    (c.least_fault_is_looked_at.ensures.words c.args.design.now (record { phase = 4; line = line.line; kind = f.FormatSum })).0
    (least_format c.args.design.now c.requires c.in-Some.place line
    (read_at c.as_slice-in-Some.result.now c.args.design.now.formats c.as_slice-in-Some.ensures c.in-Some.place c.index-as_slice-place.result (first_within (is_wrong_sum c.args.design.now.word) c.args.design.now.formats c.in-Some.place first)) first)

pub returns-in_err-place-clause-none : goal.returns-in_err-place-clause-none
returns-in_err-place-clause-none c =
    let none : position (is_wrong_sum c.args.design.now.word) c.args.design.now.formats ≡ None = cc in
    let clear = c.in_err-place.ensures in
    if_none _ c.from_residual.result (holds_nowhere c.args.design.now none clear.none)

pub bounds-as_slice-place-in_ok-place : goal.bounds-as_slice-place-in_ok-place
bounds-as_slice-place-in_ok-place c =
    let found = c.in_ok-place.ensures in
    rw c.as_slice-2.ensures (fault_within c.args.design.now c.in_ok-place.place c.in_ok-place.kind found.some.0)

pub returns-clause-some : goal.returns-clause-some
returns-clause-some c =
    let none : position (is_wrong_sum c.args.design.now.word) c.args.design.now.formats ≡ None = cc in
    let found = c.in_ok-place.ensures in
    let instr = get_or c.as_slice-2.result.now c.in_ok-place.place c.index-as_slice-place-2.result in
    (c.least_fault_is_looked_at.ensures.words c.args.design.now (record { phase = 4; line = instr.line; kind = c.in_ok-place.kind })).0
    (least_instr c.args.design.now c.requires none c.in_ok-place.place instr c.in_ok-place.kind
    (read_at c.as_slice-2.result.now c.args.design.now.instrs c.as_slice-2.ensures c.in_ok-place.place c.index-as_slice-place-2.result (fault_within c.args.design.now c.in_ok-place.place c.in_ok-place.kind found.some.0)) found.some.0 found.some.1)
