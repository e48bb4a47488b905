use Rattle.std.proofs.Common.{◌≡◌, length}
use Rattle.ap_lead.specs.Storing.{HasNoFiles, StoresFiles}
use Rattle.ap_lead.proofs.store.store_files.Given as goal

abbrev pub invariant-loop-number : goal.invariant-loop-number
invariant-loop-number l = record {
  files : StoresFiles l.design l.ports.groups l.made l.fn.out l.out;
  count : length l.made ≡ l.number;
  names : HasNoFiles l.design l.out l.number;
}
