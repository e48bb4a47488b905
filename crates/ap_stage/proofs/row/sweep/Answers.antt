use Rattle.std.proofs.Common.{◌<◌, length, refl, ◌∙◌, arith}
use Rattle.std.proofs.lemmas.Option.{slice_get-get_or}
use Rattle.ap_desc.specs.declared.design.Act.TheVariants as act
use Rattle.ap_desc.specs.declared.design.Arg.TheVariants as arg
use Rattle.ap_net.proofs.Laws.{Makes-refl, Makes-trans}
use Rattle.ap_stage.specs.declared.row.Line.{Line}
use Rattle.ap_stage.specs.Rows.{IsLine}
use Rattle.ap_stage.proofs.Followed.{from_later, from_same}
use Rattle.ap_stage.proofs.Filled.{keeps_same}
use Rattle.ap_stage.proofs.Lined.{ground_on}
use Rattle.ap_stage.proofs.Listed.{each_at}
use Rattle.ap_stage.proofs.Swept.{closed_all, closed_more, keeps_trans, made_more}
use Rattle.ap_stage.proofs.row.sweep.Goals as goal

abbrev blank : Line
blank = record { act = act.Compute 0 0 (arg.Local 0) (arg.Local 0); local = 0 }

pub loop-line-init : goal.loop-line-init
loop-line-init c = record { is_row = c.requires.row; made = c.requires.made; closed = λ k l low at. absurd (omega arith); keeps = keeps_same _; others = λ local none. refl; low = λ most each. each; from = from_same _ _; makes = Makes-refl _ }

pub fill-requires-clause-fresh : goal.fill-requires-clause-fresh
fill-requires-clause-fresh c = c.loop-line.invariant.makes.fresh c.requires.fresh

pub fill-requires-clause-ground : goal.fill-requires-clause-ground
fill-requires-clause-ground c = ground_on _ _ c.args.ground.now c.loop-line.invariant.makes c.requires.ground

pub fill-requires-clause-line : goal.fill-requires-clause-line
fill-requires-clause-line c =
    let inside : c.loop-line.line-index < length c.args.lines.now = omega arith in
    each_at (IsLine c.args.ground.now c.args.scope.now) c.args.lines.now c.loop-line.line-index _ c.requires.lines.each (slice_get-get_or c.args.lines.now c.loop-line.line-index blank inside)

pub loop-line-preserved : goal.loop-line-preserved
loop-line-preserved c =
    let h = c.loop-line.invariant in
    let inside : c.loop-line.line-index < length c.args.lines.now = omega arith in
    let at = slice_get-get_or c.args.lines.now c.loop-line.line-index blank inside in
    let y = c.in_ok-fill.ensures in
    record {
      is_row = y.row;
      made = made_more _ _ c.args.ground.now c.args.scope.now c.args.lines.now _ _ c.loop-line.line-index _ y.makes c.requires.lines at y.fills h.made;
      closed = closed_more _ c.args.ground.now c.args.scope.now c.args.lines.now _ _ c.loop-line.line-index _ c.requires.lines at y.fills h.closed;
      keeps = keeps_trans _ _ _ h.keeps y.fills.keeps;
      others = λ local none. y.fills.others local (none c.loop-line.line-index _ at) ∙ h.others local none;
      low = λ most each. y.low most (h.low most each);
      from = from_later _ _ _ _ _ _ h.from y.from;
      makes = Makes-trans _ _ _ h.makes y.makes;
    }

pub returns-clause-closed : goal.returns-clause-closed
returns-clause-closed c = closed_all _ c.args.lines.now c.loop-line.line-index (omega arith) c.loop-line.invariant.closed
