use Rattle.std.proofs.Common.{[], List, ℕ}
use Rattle.ap_net.proofs.Laws.{Carries-Makes, Makes-trans, Reads-joined}
use Rattle.ap_bank.proofs.files.idle_write.Goals as goal

pub returns : goal.returns
returns c =
    let a = c.in_ok-enable.ensures in
    let b = c.in_ok-index.ensures in
    let v = c.in_ok-value.ensures in
    let none : List ℕ = [] in
    record {
      idle = record { enable = Carries-Makes (Makes-trans _ _ _ b.makes v.makes) a.zero; index = Carries-Makes v.makes b.zero; value = v.zero };
      reads = Reads-joined none none _ _ _ (Reads-joined none none _ _ _ a.yields.reads b.yields.reads tt) v.yields.reads tt;
      makes = Makes-trans _ _ _ a.makes (Makes-trans _ _ _ b.makes v.makes);
    }
