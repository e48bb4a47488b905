use Rattle.std.proofs.Common.{◌<◌, ◌≤◌, length, map, ◌++◌, ◌∷◌, [], take, arith}
use Rattle.std.proofs.Math.ListN.{length-map}
use Rattle.ap_text.specs.Spans.{line_in}
use Rattle.ap_text.proofs.Laws.{IsLineWithin-item}
use Rattle.ap_top.specs.Form.{BeginForm}
use Rattle.ap_top.proofs.Fronts.{begun_more, begun_none, due_after, form_of_all, line_after, line_split, line_too_many, stops_at, unit_missing, unit_of_all, wrong_line}
use Rattle.ap_top.proofs.Ranges.{form_at}
use Rattle.ap_top.proofs.form.read_form.Goals as goal
use Rattle.ap_top.proofs.form.read_form.Goals.{then-i-eq15-via-then-i-eq15, then-i-eq15-via-else-i-eq15+then-not-fit_line, then-i-eq15-via-else-i-eq15+else-not-fit_line+then-not-is_served}

pub loop-i-init : goal.loop-i-init
loop-i-init g c = begun_none _ _ _ c.new-numbers.ensures

pub fit_line-requires : goal.fit_line-requires
fit_line-requires g c = IsLineWithin-item _ _ c.loop-i.i _ c.loop-i-test.true c.index-lines-i.is c.requires

pub returns-then-i-eq15-clause-not_built : goal.returns-then-i-eq15-clause-not_built
returns-then-i-eq15-clause-not_built g c =
    let lines = map (line_in c.args.text.now) c.args.lines.now in
    let line = line_in c.args.text.now c.index-lines-i.result in
    let there : c.loop-i.i < length lines = simp length-map c.loop-i-test.true in
    let ends : BeginForm _ (take c.loop-i.i lines ++ line ∷ []) → ⊥ = elim c.then-i-eq15.branch [
      | then-i-eq15-via-then-i-eq15 w ↦ line_too_many _ lines c.loop-i.i line w.if-i-eq15.true there
      | then-i-eq15-via-else-i-eq15+then-not-fit_line w ↦
          let next : c.loop-i.i < 15 = omega (arith, w.if-i-eq15.false) in
          wrong_line _ _ _ lines c.loop-i.i _ line there (due_after c.first_form-due.result c.loop-i.i _ c.first_form-due.ensures next) c.loop-i.invariant (rw w.if-not-fit_line.true at w.fit_line.ensures)
      | then-i-eq15-via-else-i-eq15+else-not-fit_line+then-not-is_served w ↦
          let next : c.loop-i.i < 15 = omega (arith, w.if-i-eq15.false) in
          unit_missing _ _ _ lines c.loop-i.i _ line there (due_after c.first_form-due.result c.loop-i.i _ c.first_form-due.ensures next) c.loop-i.invariant (rw w.if-not-fit_line.false at w.fit_line.ensures) (rw w.if-not-is_served.true at w.is_served.ensures)
    ] in
    stops_at _ lines c.loop-i.i line _ (line_split c.args.text.now c.args.lines.now c.loop-i.i _ c.loop-i-test.true c.index-lines-i.is) c.loop-i.invariant.begun ends

pub loop-i-preserved : goal.loop-i-preserved
loop-i-preserved g c =
    let lines = map (line_in c.args.text.now) c.args.lines.now in
    let line = line_in c.args.text.now c.index-lines-i.result in
    let there : c.loop-i.i < length lines = simp length-map c.loop-i-test.true in
    let next : c.loop-i.i < 15 = omega (arith, c.if-i-eq15.false) in
    begun_more _ _ _ lines c.loop-i.i _ line next there (due_after c.first_form-due.result c.loop-i.i _ c.first_form-due.ensures next) (line_after c.args.text.now c.args.lines.now c.loop-i.i _ c.loop-i-test.true c.index-lines-i.is) c.loop-i.invariant
    (rw c.if-not-fit_line.false at c.fit_line.ensures) (rw c.if-not-is_served.false at c.is_served.ensures)

pub returns-clause-form : goal.returns-clause-form
returns-clause-form g c =
    let past : length (map (line_in c.args.text.now) c.args.lines.now) ≤ c.loop-i.i = simp length-map c.loop-i-test.false in
    let both = form_at _ _ _ c.unwrap-form.ensures c.form.ensures.some in
    (form_of_all _ _ _ c.loop-i.i _ past (omega (arith, c.if-lines-lt15.false)) c.loop-i.invariant both.0, both.1, unit_of_all _ _ _ c.loop-i.i _ past (simp length-map c.if-lines-lt15.false) c.loop-i.invariant both.0)
