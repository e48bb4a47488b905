use Rattle.std.proofs.Common.{List, refl, ◌∙◌}
use Rattle.ap_net.proofs.Laws.{IsNotNumbered-other}
use Rattle.ap_signals.specs.NetRuns.{file_part}
use Rattle.ap_bank.specs.declared.bank.FileNets.{FileNets}
use Rattle.ap_bank.specs.declared.files.FileWrite.{FileWrite}
use Rattle.ap_bank.proofs.FileBanked.{bits_fit, banks_new, file_nets, width_fits}
use Rattle.ap_bank.proofs.bank.bank_file.Goals as goal

pub late_nets-requires : goal.late_nets-requires
late_nets-requires c = record { fresh = c.requires.fresh; width = bits_fit c.index_width-bits.result c.index_width-bits.ensures.low c.index_width-bits.ensures.high }

pub ports_or_idle-requires : goal.ports_or_idle-requires
ports_or_idle-requires c = record { fresh = c.in_ok-indices.ensures.fresh; index = bits_fit c.index_width-bits.result c.index_width-bits.ensures.low c.index_width-bits.ensures.high; value = width_fits c.args.file.now c.requires.file }

pub place_file-requires : goal.place_file-requires
place_file-requires c =
    let f = c.args.file.now in
    let l = rw c.index_width-bits.ensures.bits at c.in_ok-indices.ensures in
    let w = rw c.index_width-bits.ensures.bits at c.in_ok-writes.ensures in
    let made : FileNets = record { indices = c.in_ok-indices.indices; shown = c.in_ok-indices.indices } in
    let writes : List FileWrite = c.in_ok-writes.writes in
    rw (c.as_slice.ensures, c.as_slice-2.ensures) (record {
      top = w.makes.adds.extends.name ∙ l.extends.name ∙ c.requires.top;
      fresh = w.makes.fresh l.fresh;
      name = w.makes.names (file_part f) (IsNotNumbered-other (file_part f) refl) (l.names (file_part f) (IsNotNumbered-other (file_part f) refl) c.requires.name);
      ports = c.requires.whole;
      given = file_nets f c.args.whole.now c.args.ports.now made writes c.args.out.now c.late_nets.new.out c.ports_or_idle.new.out c.ports_or_idle.new.out l w.given w.reads w.makes c.requires.ports;
    })

pub returns : goal.returns
returns c =
    let f = c.args.file.now in
    let l = rw c.index_width-bits.ensures.bits at c.in_ok-indices.ensures in
    let w = rw c.index_width-bits.ensures.bits at c.in_ok-writes.ensures in
    let made : FileNets = record { indices = c.in_ok-indices.indices; shown = c.in_ok-shown.shown } in
    let writes : List FileWrite = c.in_ok-writes.writes in
    let p = rw (c.as_slice.ensures, c.as_slice-2.ensures) at c.in_ok-shown.ensures in
    banks_new f c.args.whole.now c.args.ports.now made writes c.args.out.now c.late_nets.new.out c.ports_or_idle.new.out c.place_file.new.out l w.given w.reads w.makes c.requires.ports p
