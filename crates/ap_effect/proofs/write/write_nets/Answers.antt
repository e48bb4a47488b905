use Rattle.std.proofs.Common.{◌&&◌, ap}
use Rattle.ap_net.proofs.Laws.{Carries-Makes, Makes-trans}
use Rattle.ap_merge.specs.Selects.{depth}
use Rattle.ap_ctl.specs.Building.{is_on}
use Rattle.ap_ctl.proofs.Bits.{IsBit-Makes, IsBit-Tells, on_of, told}
use Rattle.ap_effect.specs.Writers.{index_numbers, value_numbers, writing_numbers}
use Rattle.ap_effect.proofs.Acting.{Tells-Makes}
use Rattle.ap_effect.proofs.Growing.{are_guarded, have_value, stands_between, writers_on}
use Rattle.ap_effect.proofs.Written.{enable_over, index_over, port_reads}
use Rattle.ap_effect.proofs.write.write_nets.Goals as goal

pub any_acts-requires-clause-writers : goal.any_acts-requires-clause-writers
any_acts-requires-clause-writers c = are_guarded _ _ _ c.args.writers.now c.requires.writers

pub both-requires-clause-fresh : goal.both-requires-clause-fresh
both-requires-clause-fresh c = c.in_ok-any.ensures.wiring.makes.fresh c.requires.fresh

pub both-requires-clause-a : goal.both-requires-clause-a
both-requires-clause-a c = IsBit-Makes _ _ c.args.fires c.in_ok-any.ensures.wiring.makes c.requires.fires

pub both-requires-clause-b : goal.both-requires-clause-b
both-requires-clause-b c = IsBit-Tells c.in_ok-any.ensures.tells

pub value_net-requires-clause-fresh : goal.value_net-requires-clause-fresh
value_net-requires-clause-fresh c = c.in_ok-enable.ensures.wiring.makes.fresh (c.in_ok-any.ensures.wiring.makes.fresh c.requires.fresh)

pub value_net-requires-clause-writers : goal.value_net-requires-clause-writers
value_net-requires-clause-writers c = have_value _ _ _ c.args.writers.now (writers_on _ _ _ _ c.args.writers.now (Makes-trans _ _ _ c.in_ok-any.ensures.wiring.makes c.in_ok-enable.ensures.wiring.makes) c.requires.writers)

pub index_net-requires-clause-fresh : goal.index_net-requires-clause-fresh
index_net-requires-clause-fresh c = c.in_ok-value.ensures.makes.fresh (c.in_ok-enable.ensures.wiring.makes.fresh (c.in_ok-any.ensures.wiring.makes.fresh c.requires.fresh))

pub index_net-requires-clause-writers : goal.index_net-requires-clause-writers
index_net-requires-clause-writers c =
    writers_on _ _ _ _ c.args.writers.now (Makes-trans _ _ _ c.in_ok-any.ensures.wiring.makes (Makes-trans _ _ _ c.in_ok-enable.ensures.wiring.makes c.in_ok-value.ensures.makes)) c.requires.writers

pub returns-clause-nets : goal.returns-clause-nets
returns-clause-nets c =
    let value = c.in_ok-value.ensures in
    let index = c.in_ok-index.ensures in
    let enable = c.in_ok-enable.ensures in
    record {
      enable = Tells-Makes (Makes-trans _ _ _ value.makes index.makes) (told (λ r s. ap (λ b. is_on r c.args.fires && b) (on_of (Tells-Makes enable.wiring.makes c.in_ok-any.ensures.tells) r s)) enable.tells);
      index = index.net;
      value = Carries-Makes index.makes value.net;
    }

pub returns-clause-reads : goal.returns-clause-reads
returns-clause-reads c =
    (port_reads c.args.fires (writing_numbers c.args.writers.now) _ _ _ _ _ c.in_ok-any.any c.in_ok-enable.enable c.in_ok-value.value c.in_ok-index.index c.in_ok-any.ensures.wiring.yields c.in_ok-enable.ensures.wiring.yields c.in_ok-value.ensures.yields
    c.in_ok-index.ensures.reads c.in_ok-index.ensures.results).0

pub returns-clause-results : goal.returns-clause-results
returns-clause-results c =
    (port_reads c.args.fires (writing_numbers c.args.writers.now) _ _ _ _ _ c.in_ok-any.any c.in_ok-enable.enable c.in_ok-value.value c.in_ok-index.index c.in_ok-any.ensures.wiring.yields c.in_ok-enable.ensures.wiring.yields c.in_ok-value.ensures.yields
    c.in_ok-index.ensures.reads c.in_ok-index.ensures.results).1

pub returns-clause-makes : goal.returns-clause-makes
returns-clause-makes c = Makes-trans _ _ _ c.in_ok-any.ensures.wiring.makes (Makes-trans _ _ _ c.in_ok-enable.ensures.wiring.makes (Makes-trans _ _ _ c.in_ok-value.ensures.makes c.in_ok-index.ensures.makes))

pub returns-clause-enable : goal.returns-clause-enable
returns-clause-enable c =
    let after = Makes-trans _ _ _ c.in_ok-value.ensures.makes c.in_ok-index.ensures.makes in
    enable_over c.args.fires (writing_numbers c.args.writers.now) _ _ _ _ c.in_ok-any.any c.in_ok-enable.enable c.in_ok-any.ensures.wiring c.in_ok-enable.ensures.wiring after.adds.extends

pub returns-clause-value : goal.returns-clause-value
returns-clause-value c =
    let before = Makes-trans _ _ _ c.in_ok-any.ensures.wiring.makes c.in_ok-enable.ensures.wiring.makes in
    stands_between (depth c.args.select.now) (value_numbers c.args.writers.now) _ _ _ _ c.in_ok-value.value.number before.adds.extends c.in_ok-index.ensures.makes.adds.extends c.in_ok-value.ensures.shallow

pub returns-clause-index : goal.returns-clause-index
returns-clause-index c =
    let before = Makes-trans _ _ _ c.in_ok-any.ensures.wiring.makes (Makes-trans _ _ _ c.in_ok-enable.ensures.wiring.makes c.in_ok-value.ensures.makes) in
    index_over (depth c.args.select.now) (index_numbers c.args.writers.now) _ _ _ c.in_ok-index.index before.adds.extends c.in_ok-index.ensures.shallow
