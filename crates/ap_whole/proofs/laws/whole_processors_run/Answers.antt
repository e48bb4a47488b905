use Rattle.ap_whole.proofs.Whole.{whole_processors_run}
use Rattle.ap_whole.proofs.laws.whole_processors_run.Goals as goal

pub returns : goal.returns
returns c = whole_processors_run c.ready_nets_run.ensures.runs c.runs_are_read.ensures c.complete_processors_are_the_machine.ensures.machine
    (λ design cards fits. record {
      clean = fits.clean;
      encoded = c.clean_is_encoded.ensures design fits.clean;
      ports = c.clean_ports_are_apart.ensures design fits.clean;
      border = c.control_gives_the_border.ensures;
      writes = c.ports_give_the_border.ensures;
      transfer = c.transfer_gives_the_border.ensures;
      slots = c.slots_take_locals.ensures;
    })
