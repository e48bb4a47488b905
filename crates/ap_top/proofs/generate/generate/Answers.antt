use Rattle.std.proofs.Common.{subst}
use Rattle.std.proofs.lemmas.Result.{err_from_is_err_and}
use Rattle.ap_net.specs.Text.{netlist_text}
use Rattle.ap_top.specs.Generate.{gen_sources}
use Rattle.ap_top.specs.Form.{IsFormDescription, HasReadFault}
use Rattle.ap_unit.specs.Shelves.{cards_of}
use Rattle.ap_top.proofs.Additions.{addition_of, addition_within, at_some, is_found}
use Rattle.ap_top.proofs.Causes.{judging_never, kept, reading_gave_up, writing_gave_up}
use Rattle.ap_top.proofs.Judging.{judged_stop, writing_stop, written}
use Rattle.ap_top.proofs.generate.generate.Goals as goal

pub unwrap-addition-requires : goal.unwrap-addition-requires
unwrap-addition-requires g c = is_found _ _ c.find_addition.result c.in_ok-form.ensures.form.unit c.find_addition.ensures.none

pub kind-kind-requires : goal.kind-kind-requires
kind-kind-requires g c = addition_within _ _ _ (at_some _ _ _ c.unwrap-addition.ensures c.find_addition.ensures.some)

pub returns-in_err-form-clause-stopped : goal.returns-in_err-form-clause-stopped
returns-in_err-form-clause-stopped g c =
    let p = err_from_is_err_and c.from_residual-in_err-form.result c.from_residual-in_err-form.ensures.1 in
    rw (p.1, p.2) (judged_stop _ _ _ c.args.description.now c.args.verilog.now c.in_ok-text.text.items c.in_err-form.field-0.0 c.read_all.ensures.same c.in_ok-text.ensures.whole
    (subst (λ t. HasReadFault (cards_of (λ x. (goal.UnitKind-dyn g x).card x.1) c.args.shelf.now) t c.in_err-form.field-0.0) c.deref.ensures.value c.in_err-form.ensures.refused))

pub returns-in_err-write_netlist-clause-stopped : goal.returns-in_err-write_netlist-clause-stopped
returns-in_err-write_netlist-clause-stopped g c =
    let p = err_from_is_err_and c.from_residual-in_err-write_netlist.result c.from_residual-in_err-write_netlist.ensures.1 in
    rw (p.1, p.2) (writing_stop _ _ _ _ c.args.description.now c.args.verilog.now c.in_ok-text.text.items (netlist_text c.in_ok-netlist.netlist) c.in_ok-form.form c.read_all.ensures.same c.in_ok-text.ensures.whole
    (subst (λ t. IsFormDescription (cards_of (λ x. (goal.UnitKind-dyn g x).card x.1) c.args.shelf.now) t c.in_ok-form.form) c.deref.ensures.value c.in_ok-form.ensures.form) _ (addition_of _ _ _ _ _ (at_some _ _ _ c.unwrap-addition.ensures c.find_addition.ensures.some) c.kind-kind.ensures) c.in_ok-netlist.ensures c.in_err-write_netlist.ensures.err)

pub returns-clause-done : goal.returns-clause-done
returns-clause-done g c =
    written _ _ _ _ c.args.description.now c.args.verilog.now c.in_ok-text.text.items (netlist_text c.in_ok-netlist.netlist) c.in_ok-form.form c.read_all.ensures.same c.in_ok-text.ensures.whole
    (subst (λ t. IsFormDescription (cards_of (λ x. (goal.UnitKind-dyn g x).card x.1) c.args.shelf.now) t c.in_ok-form.form) c.deref.ensures.value c.in_ok-form.ensures.form) _ (addition_of _ _ _ _ _ (at_some _ _ _ c.unwrap-addition.ensures c.find_addition.ensures.some) c.kind-kind.ensures) c.in_ok-netlist.ensures c.in_ok-write_netlist.ensures.ok

pub returns-in_err-text-clause-cause : goal.returns-in_err-text-clause-cause
returns-in_err-text-clause-cause g c =
    let p = err_from_is_err_and c.from_residual.result c.from_residual.ensures.1 in
    rw (p.1, p.2) (reading_gave_up (cards_of (λ x. (goal.UnitKind-dyn g x).card x.1) c.args.shelf.now) (g.D.Desk.files c.args.desk.now) c.args.description.now _ _ c.in_err-text.field-0.0 c.in_err-text.ensures.cause c.in_err-text.ensures.missing)

pub returns-in_err-form-clause-cause : goal.returns-in_err-form-clause-cause
returns-in_err-form-clause-cause g c =
    let p = err_from_is_err_and c.from_residual-in_err-form.result c.from_residual-in_err-form.ensures.1 in
    rw (p.1, p.2) (kept _ _ _ _ _ c.in_ok-text.ensures.cause (judging_never c.in_err-form.field-0.0))

pub returns-in_err-write_netlist-clause-cause : goal.returns-in_err-write_netlist-clause-cause
returns-in_err-write_netlist-clause-cause g c =
    let p = err_from_is_err_and c.from_residual-in_err-write_netlist.result c.from_residual-in_err-write_netlist.ensures.1 in
    rw (p.1, p.2) (writing_gave_up (cards_of (λ x. (goal.UnitKind-dyn g x).card x.1) c.args.shelf.now) (gen_sources c.args.description.now) (g.D.Desk.files c.args.desk.now) _ _ _ c.in_err-write_netlist.field-0.0 c.in_ok-text.ensures.cause c.in_err-write_netlist.ensures.cause c.in_err-write_netlist.ensures.not_missing)
