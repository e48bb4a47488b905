use Rattle.std.proofs.Common.{◌<◌, sym, subst, ◌∙◌}
use Rattle.ap_net.proofs.Laws.{Makes-refl}
use Rattle.ap_stage.specs.Sources.{source_numbers}
use Rattle.ap_stage.proofs.Followed.{from_filled, from_reads, from_same}
use Rattle.ap_stage.proofs.Filled.{fills_none, fills_one, had_net, had_none, row_filled}
use Rattle.ap_stage.proofs.Lined.{found_none, found_some, none_of, rows_on}
use Rattle.ap_stage.proofs.Low.{low_filled, low_on}
use Rattle.ap_stage.proofs.row.fill.Goals as goal

pub net_at-had-requires : goal.net_at-had-requires
net_at-had-requires c = subst (λ n. c.args.line.local < n) (sym c.requires.row.long) c.requires.line.local

pub line_net-requires-clause-names : goal.line_net-requires-clause-names
line_net-requires-clause-names c = c.requires.line.names

pub line_net-requires-clause-room : goal.line_net-requires-clause-room
line_net-requires-clause-room c = c.requires.line.room

pub put-requires : goal.put-requires
put-requires c = subst (λ n. c.args.line.local < n) (sym c.requires.row.long) c.requires.line.local

pub returns-then-is_some-clause-fills : goal.returns-then-is_some-clause-fills
returns-then-is_some-clause-fills c =
    fills_none _ c.args.ground.now c.args.scope.now c.args.row.now c.args.line (λ h. had_net c.args.row.now c.args.line.local c.net_at-had.result (sym c.is_some.ensures ∙ c.if-is_some.true) c.net_at-had.ensures)

pub returns-then-is_some-clause-makes : goal.returns-then-is_some-clause-makes
returns-then-is_some-clause-makes c = Makes-refl _

pub returns-in_default-clause-row : goal.returns-in_default-clause-row
returns-in_default-clause-row c = rows_on _ _ c.args.scope.now c.args.row.now (none_of _ c.in_default.is c.in_ok-found.ensures.none).makes c.requires.row

pub returns-in_default-clause-fills : goal.returns-in_default-clause-fills
returns-in_default-clause-fills c = fills_none _ c.args.ground.now c.args.scope.now c.args.row.now c.args.line (λ h. absurd (found_none _ c.in_default.is c.in_ok-found.ensures.found h))

pub returns-then-is_some-clause-low : goal.returns-then-is_some-clause-low
returns-then-is_some-clause-low c = λ most each. each

pub returns-in_default-clause-low : goal.returns-in_default-clause-low
returns-in_default-clause-low c = low_on _ _ c.args.ground.now c.args.row.now (none_of _ c.in_default.is c.in_ok-found.ensures.none).makes.adds.extends

pub returns-clause-low : goal.returns-clause-low
returns-clause-low c =
    let wiring = rw c.in-Some.is at c.in_ok-found.ensures.wiring in
    rw c.put.ensures (low_filled _ _ c.args.ground.now c.args.row.now c.args.line.local c.in-Some.net wiring.makes.adds.extends wiring.shallow)

pub returns-in_default-clause-makes : goal.returns-in_default-clause-makes
returns-in_default-clause-makes c = (none_of _ c.in_default.is c.in_ok-found.ensures.none).makes

pub returns-clause-row : goal.returns-clause-row
returns-clause-row c =
    let net = rw c.in-Some.is at c.in_ok-found.ensures.net in
    let makes = (rw c.in-Some.is at c.in_ok-found.ensures.wiring).makes in
    rw c.put.ensures (row_filled _ c.args.scope.now c.args.row.now c.args.line.local c.in-Some.net (subst (λ n. c.args.line.local < n) (sym c.requires.row.long) c.requires.line.local) net.net (net.wide ∙ c.requires.line.bits) (rows_on _ _ c.args.scope.now c.args.row.now makes c.requires.row))

pub returns-clause-fills : goal.returns-clause-fills
returns-clause-fills c =
    rw c.put.ensures (fills_one _ c.args.ground.now c.args.scope.now c.args.row.now c.args.line c.in-Some.net
    (had_none c.args.row.now c.args.line.local c.net_at-had.result (sym c.is_some.ensures ∙ c.if-is_some.false) c.net_at-had.ensures) (subst (λ n. c.args.line.local < n) (sym c.requires.row.long) c.requires.line.local)
    (found_some _ c.in-Some.net c.in-Some.is c.in_ok-found.ensures.found) (rw c.in-Some.is at c.in_ok-found.ensures.net))

pub returns-clause-makes : goal.returns-clause-makes
returns-clause-makes c = (rw c.in-Some.is at c.in_ok-found.ensures.wiring).makes

pub returns-then-is_some-clause-from : goal.returns-then-is_some-clause-from
returns-then-is_some-clause-from c = from_same (source_numbers c.args.ground.now c.args.row.now) _

pub returns-in_default-clause-from : goal.returns-in_default-clause-from
returns-in_default-clause-from c = from_reads (source_numbers c.args.ground.now c.args.row.now) _ _ (none_of _ c.in_default.is c.in_ok-found.ensures.none).reads

pub returns-clause-from : goal.returns-clause-from
returns-clause-from c = rw c.put.ensures (from_filled _ _ c.args.ground.now c.args.row.now c.args.line.local c.in-Some.net (rw c.in-Some.is at c.in_ok-found.ensures.wiring))
