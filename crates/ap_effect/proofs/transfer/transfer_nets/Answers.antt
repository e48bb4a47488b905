use Rattle.std.proofs.Common.{◌∷◌, ◌&&◌, List, subst, ◌∙◌}
use Rattle.std.proofs.lemmas.List.{length-map}
use Rattle.std.specs.List.{AllByRecursion as Each, list_any}
use Rattle.ap_net.specs.Late.{Reads}
use Rattle.ap_net.specs.Pending.{IsFrom}
use Rattle.ap_net.specs.Ready.{numbers}
use Rattle.ap_net.specs.Readings.{Carries}
use Rattle.ap_merge.specs.Selects.{depth}
use Rattle.ap_ctl.specs.Building.{Tells, is_on}
use Rattle.ap_stage.specs.Trees.{StandsOver}
use Rattle.ap_effect.specs.declared.write.Writer.{Writer}
use Rattle.ap_effect.specs.Writers.{GivesValue, is_acting, value_numbers, write_wires, writer_of, writing_numbers}
use Rattle.ap_effect.proofs.transfer.transfer_nets.Goals as goal

pub write_nets-requires-clause-some : goal.write_nets-requires-clause-some
write_nets-requires-clause-some c = rw (c.as_slice.ensures, c.in_ok-writers.ensures, length-map c.args.transfers.now writer_of) c.requires.some

pub write_nets-requires-clause-writers : goal.write_nets-requires-clause-writers
write_nets-requires-clause-writers c = rw (c.as_slice.ensures, c.in_ok-writers.ensures) c.requires.transfers

pub write_nets-requires-clause-over : goal.write_nets-requires-clause-over
write_nets-requires-clause-over c = rw (c.as_slice.ensures, c.in_ok-writers.ensures, length-map c.args.transfers.now writer_of) c.requires.over

pub returns-clause-nets : goal.returns-clause-nets
returns-clause-nets c =
    let nets = c.in_ok-nets.ensures.nets in
    let are = c.as_slice.ensures ∙ c.in_ok-writers.ensures in
    record {
      taken = subst (λ (ws : List Writer). Tells c.write_nets.new.out (λ r. is_on r c.args.valid && list_any (is_acting r) ws) c.in_ok-nets.nets.enable) are nets.enable;
      target = subst (λ (ws : List Writer). Carries c.write_nets.new.out c.args.width (GivesValue ws) c.in_ok-nets.nets.value) are nets.value;
    }

pub returns-clause-reads : goal.returns-clause-reads
returns-clause-reads c = subst (λ (ws : List Writer). Reads (c.args.valid.number ∷ writing_numbers ws) c.args.out.now c.write_nets.new.out) (c.as_slice.ensures ∙ c.in_ok-writers.ensures) c.in_ok-nets.ensures.reads

pub returns-clause-results : goal.returns-clause-results
returns-clause-results c =
    let all =
    subst (λ (ws : List Writer). Each (IsFrom (c.args.valid.number ∷ writing_numbers ws) c.args.out.now c.write_nets.new.out) (numbers (write_wires c.in_ok-nets.nets))) (c.as_slice.ensures ∙ c.in_ok-writers.ensures) c.in_ok-nets.ensures.results in
    (all.0, (all.1.0, tt))

pub returns-clause-target : goal.returns-clause-target
returns-clause-target c =
    subst (λ (ws : List Writer). StandsOver (depth c.args.select.now) (value_numbers ws) c.args.out.now c.write_nets.new.out c.in_ok-nets.nets.value.number) (c.as_slice.ensures ∙ c.in_ok-writers.ensures) c.in_ok-nets.ensures.value

pub returns-clause-taken : goal.returns-clause-taken
returns-clause-taken c =
    subst (λ (ws : List Writer). StandsOver 0 (c.args.valid.number ∷ writing_numbers ws) c.args.out.now c.write_nets.new.out c.in_ok-nets.nets.enable.number) (c.as_slice.ensures ∙ c.in_ok-writers.ensures) c.in_ok-nets.ensures.enable
