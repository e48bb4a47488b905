use Rattle.std.proofs.Common.{map}
use Rattle.std.specs.String.{string_bytes}
use Rattle.ap_unit.specs.Shelves.{cards_of}
use Rattle.ap_top.specs.Calls.{call_of}
use Rattle.ap_top.proofs.Causes.{else_memory, failed_by, none_missed}
use Rattle.ap_top.proofs.Judging.{answers_due, answers_good}
use Rattle.ap_top.proofs.Stopping.{stopped_by}
use Rattle.ap_top.proofs.serve.serve.Goals as goal

pub returns-in-Ok-clause-refuses : goal.returns-in-Ok-clause-refuses
returns-in-Ok-clause-refuses g c = λ refusal due _. answers_due _ (map string_bytes c.args.words.now) _ _ _ refusal c.in-Ok.ensures.answered due

pub returns-in-Ok-clause-completes : goal.returns-in-Ok-clause-completes
returns-in-Ok-clause-completes g c = λ good _. answers_good _ (map string_bytes c.args.words.now) _ _ _ c.in-Ok.ensures.answered good

pub returns-in-Err-clause-stopped : goal.returns-in-Err-clause-stopped
returns-in-Err-clause-stopped g c = stopped_by _ (map string_bytes c.args.words.now) (g.D.Desk.files c.args.desk.now) _ _ c.in-Err.trouble _ c.give_up.ensures.status c.in-Err.ensures.stopped c.give_up.ensures.line

pub returns-in-Err-clause-failed : goal.returns-in-Err-clause-failed
returns-in-Err-clause-failed g c =
    let call = call_of (cards_of (λ x. (goal.UnitKind-dyn g x).card x.1) c.args.shelf.now) c.args.words.now (g.D.Desk.files c.args.desk.now) in
    failed_by call _ _ _ c.in-Err.trouble _ c.give_up.ensures.status c.in-Err.ensures.cause c.give_up.ensures.faults c.give_up.ensures.absent

pub returns-in-Err-clause-usage : goal.returns-in-Err-clause-usage
returns-in-Err-clause-usage g c =
    let call = call_of (cards_of (λ x. (goal.UnitKind-dyn g x).card x.1) c.args.shelf.now) c.args.words.now (g.D.Desk.files c.args.desk.now) in
    λ _. else_memory call _ _ _ c.in-Err.trouble _ 1 c.give_up.ensures.status c.in-Err.ensures.cause c.give_up.ensures.faults c.give_up.ensures.absent

pub returns-in-Err-clause-refuses : goal.returns-in-Err-clause-refuses
returns-in-Err-clause-refuses g c =
    let call = call_of (cards_of (λ x. (goal.UnitKind-dyn g x).card x.1) c.args.shelf.now) c.args.words.now (g.D.Desk.files c.args.desk.now) in
    λ refusal _. else_memory call _ _ _ c.in-Err.trouble _ _ c.give_up.ensures.status c.in-Err.ensures.cause c.give_up.ensures.faults c.give_up.ensures.absent

pub returns-in-Err-clause-completes : goal.returns-in-Err-clause-completes
returns-in-Err-clause-completes g c =
    let call = call_of (cards_of (λ x. (goal.UnitKind-dyn g x).card x.1) c.args.shelf.now) c.args.words.now (g.D.Desk.files c.args.desk.now) in
    λ _. else_memory call _ _ _ c.in-Err.trouble _ 0 c.give_up.ensures.status c.in-Err.ensures.cause c.give_up.ensures.faults c.give_up.ensures.absent

pub returns-in-Err-clause-memory : goal.returns-in-Err-clause-memory
returns-in-Err-clause-memory g c =
    let call = call_of (cards_of (λ x. (goal.UnitKind-dyn g x).card x.1) c.args.shelf.now) c.args.words.now (g.D.Desk.files c.args.desk.now) in
    none_missed call (g.D.Desk.counts c.args.desk.now) (g.D.Desk.counts c.answer.new.desk) (g.D.Desk.counts c.give_up.new.desk) c.in-Err.trouble _ c.give_up.ensures.status c.in-Err.ensures.cause c.give_up.ensures.absent
