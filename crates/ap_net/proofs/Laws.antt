-- What callers of a builder chain pieces of circuit by, and what they know of an opened netlist.
pub use Rattle.ap_net.proofs.Drafts.{Extends-refl, Extends-trans, IsNet-Adds, CellFits-Adds, net-Adds, Settles-before, Adds-refl, Adds-trans, IsNew-made, ports_among-shown}
pub use Rattle.ap_net.proofs.Making.{Closes-refl, Closes-trans, Makes-refl, Makes-trans, IsNet-Makes, AreOfOneWidth-Makes}
pub use Rattle.ap_net.proofs.Placing.{Places-Makes, Places-trans, SettlesOpen-before}
pub use Rattle.ap_net.proofs.Facts.{settled_before, held_before, Always-Extends, Always-Makes, Carries-Extends, Carries-Makes, meant, carried}
pub use Rattle.ap_net.proofs.LateSteps.{Ready-source, AreReady-Extends, Reads-trans, Reads-refl, IsNet-Reads, CellFits-Reads, length_Reads, next_extends}
pub use Rattle.ap_net.proofs.Growing.{stays, Ready-Extends, ReadyAfter-Feeds, ReadyAfter-Extends}
pub use Rattle.ap_net.proofs.Accounting.{Reads-joined, IsFrom-more, IsFrom-later, Yields-made, Yields-same, Yields-after, among_index}
pub use Rattle.ap_net.proofs.Depending.{everywhere, depend_on_all}
pub use Rattle.ap_net.proofs.Responses.{ready_are_driven, ready_are_ordered}
pub use Rattle.ap_net.proofs.Running.{ready_run}
pub use Rattle.ap_net.proofs.Renumbered.{IsClosed-placed}
pub use Rattle.ap_net.proofs.NameLemmas.{IsNew-is_new, IsNotNumbered-other, is_other_letter, IsNetName-numbered_kind}
pub use Rattle.ap_net.proofs.Netlists.{named_once, earlier-push, last-push}
pub use Rattle.ap_net.proofs.Found.{named_is}
pub use Rattle.ap_net.proofs.Registers.{held_all, held_fits, after_fit, reset_fit, held_register}
pub use Rattle.ap_net.proofs.Parts.{own_net_at, spread-own, spread-part}
pub use Rattle.ap_net.proofs.Beside.{IsInstanceIn-placed, top_net_at}

pub ruleset laws = (IsNet-Adds, IsNet-Makes, AreOfOneWidth-Makes, CellFits-Adds, Adds-refl, Adds-trans, Makes-refl, Makes-trans)
