-- The transfer, where lines make one and where none does.
use Rattle.std.proofs.lemmas.Bool.{eqb-true}
use Rattle.std.proofs.Common.{◌≡◌, ℕ, suc, ◌-◌, ◌≤◌, ◌==◌, ◌&&◌, Bool, true, false, List, [], ◌∷◌, length, Some, refl, sym, subst, ◌∙◌, arith}
use Rattle.std.specs.Prelude.{slice_get}
use Rattle.ap_desc.specs.declared.design.Design.{Design}
use Rattle.ap_net.specs.declared.cell.Wire.{Wire}
use Rattle.ap_net.specs.Draft.{CanFresh, Draft, Extends}
use Rattle.ap_net.specs.Late.{IsLate}
use Rattle.ap_net.specs.Making.{Makes}
use Rattle.ap_net.specs.Pending.{Yields}
use Rattle.ap_net.specs.Readings.{Carries}
use Rattle.ap_net.specs.Runs.{bit}
use Rattle.ap_net.specs.Ready.{Ready, numbers}
use Rattle.ap_net.proofs.Laws.{Carries-Extends, Extends-trans, IsFrom-later, IsFrom-more, Reads-joined}
use Rattle.ap_ctl.specs.Building.{is_on}
use Rattle.ap_ctl.proofs.Built.{ready_from}
use Rattle.ap_stage.specs.declared.node.Course.{Course}
use Rattle.ap_stage.specs.declared.source.Ground.{Ground}
use Rattle.ap_stage.specs.Reads.{AreFrom}
use Rattle.ap_stage.proofs.Coursed.{from_wider}
use Rattle.ap_stages.specs.declared.stage.ServedStage.{ServedStage}
use Rattle.ap_effect.specs.declared.line.PortLine.{PortLine}
use Rattle.ap_effect.specs.declared.transfer.TransferNets.{TransferNets}
use Rattle.ap_effect.specs.Lines.{transfer_lines}
use Rattle.ap_effect.specs.Writers.{AreTransferNets, transfer_wires}
use Rattle.ap_outcome.specs.Outcomes.{AreLineWriters}
use Rattle.ap_bank.specs.Joins.{CanJoinNet, JoinsNet}
use Rattle.ap_commit.specs.Written.{IsTransferred}
use Rattle.ap_slow.proofs.DrivenOne.{drives_from, drives_more}
use Rattle.ap_act.specs.Acting.{acting, stage_numbers}
use Rattle.ap_act.specs.Taken.{TakesTransfer}
use Rattle.ap_act.proofs.Steps.{acting_in, copy_ready, makes_drive, wires_drive}

-- No line transfers.

off : (b : Bool) → bit (b && false) ≡ 0
off true = refl
off false = refl

pub no_nets : (a b c : Draft) (valid taken target : Wire) (width : ℕ) → Carries b 1 (λ r x. x ≡ 0) taken → Extends b c → Carries c width (λ r x. x ≡ 0) target → AreTransferNets c valid [] width (record { taken = taken; target = target })
no_nets a b c valid taken target width zero e other =
    let on = Carries-Extends e zero in
    record {
      taken = record { carries = record { net = on.net; wide = on.wide; means = record { holds = λ r s. on.means.holds r s ∙ sym (off (is_on r valid)) } } };
      target = record { net = other.net; wide = other.wide; means = record { holds = λ r s place w at only. cc } };
    }

pub zeros_from : (a b c : Draft) (taken target : Wire) → Yields [] a b taken → Yields [] b c target → AreFrom [] a c (taken.number ∷ target.number ∷ [])
zeros_from a b c taken target one two = record {
  reads = Reads-joined [] [] a b c one.reads two.reads tt;
  results = (IsFrom-more [] a b c taken.number (two.reads).extends one.result, (IsFrom-later [] [] a b c target.number (one.reads).extends (two.reads).extends tt two.result, tt));
}

pub none_transferred : (d : Draft) (design : Design) (ground : Ground) (courses : List Course) (valid : Wire) (made : TransferNets) → transfer_lines design design.branch ≡ [] → AreTransferNets d valid [] design.address made
    → IsTransferred d design ground courses valid design.address made
none_transferred d design ground courses valid made none are = record {
  transfers = [];
  come = subst (λ (l : List PortLine). AreLineWriters d ground courses l []) (sym none) (record { each = tt; low = tt });
  are = are;
}

-- What came follows from more nets.
pub from_none : (from : List ℕ) (a b : Draft) (nets : List ℕ) → AreFrom [] a b nets → AreFrom from a b nets
from_none from a b nets h = from_wider from [] nets a b (λ n at. absurd at) h

-- The wire is joined.

pub can_take : (d : Draft) (design : Design) (ground : Ground) (courses : List Course) (valid taken : Wire) (made : TransferNets) → IsLate d taken → taken.width ≡ 1 → IsTransferred d design ground courses valid design.address made → CanJoinNet d taken made.taken
can_take d design ground courses valid taken made late wide h = record { late = late; net = h.are.taken.carries.net; same = wide ∙ sym h.are.taken.carries.wide }

pub takes : (design : Design) (valid : List Wire) (stages : List ServedStage) (taken : Wire) (a b c : Draft) (s : ServedStage) (bit : Wire) (made : TransferNets) → CanFresh a → slice_get stages (design.branch - 1) ≡ Some s → slice_get valid (design.branch - 1) ≡ Some bit
    → IsTransferred b design s.ground s.courses.items bit design.address made → AreFrom (bit.number ∷ stage_numbers s) a b (numbers (transfer_wires made)) → Makes a b → JoinsNet taken made.taken b c → TakesTransfer design valid stages taken made.target a c
takes design valid stages taken a b c s bit made fresh at bit_at h from makes joins =
    let base = acting valid stages in
    let one = makes_drive (bit.number ∷ stage_numbers s) a b (numbers (transfer_wires made)) fresh makes from in
    let two = wires_drive (taken.number ∷ []) b c one.fresh joins.wires in
    let e = (joins.wires).extends in
    let target = Carries-Extends e h.are.target in
    let among = acting_in valid stages (design.branch - 1) bit s bit_at at in
    record {
      served = s;
      served_at = at;
      bit = bit;
      bit_at = bit_at;
      made = made;
      answered = refl;
      before = b;
      transferred = h;
      joins = joins;
      net = target.net;
      wide = target.wide;
      drives = drives_from (taken.number ∷ []) base (bit.number ∷ stage_numbers s) a c (drives_more [] (taken.number ∷ []) (bit.number ∷ stage_numbers s) [] a b c one two (λ P k. tt)) among;
      taken_ready = λ by. copy_ready by base (bit.number ∷ stage_numbers s) a b c made.taken.number taken (record { reads = from.reads; results = tt }) from.results.0 e among (joins.copy.came by);
      target_ready = λ by later f each. ready_from by (bit.number ∷ stage_numbers s) a b made.target.number from.reads from.results.1.0 later (Extends-trans b c later e f) (among (Ready by later) each);
    }

-- The lines of the transfer.

pub lines_there : (lines : List PortLine) → (length lines == 0) ≡ false → 1 ≤ length lines
lines_there [] e = cc
lines_there (l ∷ lines) e = omega arith

pub no_lines : (lines : List PortLine) → (length lines == 0) ≡ true → lines ≡ []
no_lines [] e = refl
no_lines (l ∷ lines) e = absurd (go (length lines) e)
  where
    go : (n : ℕ) → (suc n == 0) ≡ true → ⊥
    go n q = let z : suc n ≡ 0 = eqb-true (suc n) 0 q in omega (arith, z)
