use Rattle.std.proofs.Common.{sym, ap, subst, ◌∙◌}
use Rattle.ap_bank.specs.Banked.{ArePorts}
use Rattle.ap_parts.proofs.FileLists.{file_within}
use Rattle.ap_lead.specs.Writes.{file_writes}
use Rattle.ap_lead.proofs.store.store_file.Goals as goal

pub bank_file-requires-clause-file : goal.bank_file-requires-clause-file
bank_file-requires-clause-file c = file_within c.args.design.now c.requires.clean c.args.number c.args.file.now c.requires.at

pub bank_file-requires-clause-ports : goal.bank_file-requires-clause-ports
bank_file-requires-clause-ports c =
    let f = c.args.file.now in
    let shown = c.writes_are_shown.ensures.files c.args.design.now c.args.out.now c.args.ports.now c.requires.clean c.rules.ensures c.requires.ports c.args.number f c.requires.at in
    subst (ArePorts f c.args.out.now.nets) (sym (c.as_slice-2.ensures ∙ c.in_ok-writes.ensures ∙ ap (λ g. file_writes g c.args.number f.writes) c.as_slice.ensures)) shown.fit
