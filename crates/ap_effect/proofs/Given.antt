-- What write ports and the transfer give of the border, from what they show.
use Rattle.std.proofs.Common.{◌≡◌, Bool, true, false, if◌then◌else◌, None, refl, sym, ap, ◌∙◌}
use Rattle.ap_model.specs.Fire.{instr_of}
use Rattle.ap_ctl.specs.Building.{is_on}
use Rattle.ap_effect.specs.Border.{PortsGiveBorder, TransferGivesBorder}
use Rattle.ap_effect.specs.Shown.{NetsShowTransfer, PortsShowWrites, shown_target, word_target, word_write}

either_way : {X : Type 0} (b : Bool) (x : X) → (if b then x else x) ≡ x
either_way true x = refl
either_way false x = refl

pub ports_give : PortsShowWrites → PortsGiveBorder
ports_give show design signals stage word p value old d fires writers bits width nets r clean lt each are s of fire wrote =
    let shown = wrote ∙ show design stage word p value old d fires writers bits width nets r clean lt each are s of in
    record {
      unwritten = λ off. shown ∙ ap (λ b. if b then word_write value p stage (instr_of design word) else None) (sym fire ∙ off);
      nothing = λ none. shown ∙ ap (λ o. if is_on r fires then word_write value p stage o else None) none ∙ either_way (is_on r fires) None;
      line = λ instr is on. shown ∙ ap (λ b. if b then word_write value p stage (instr_of design word) else None) (sym fire ∙ on) ∙ ap (word_write value p stage) is;
    }

pub transfer_gives : NetsShowTransfer → TransferGivesBorder
transfer_gives show design signals word value d valid transfers width nets r clean lt are s of there took =
    let shown = show design design.branch word value d valid transfers width nets r clean lt are s of in
    let taken = took ∙ ap (λ o. if signals.hold design.branch then None else o) shown in
    record {
      untaken = λ off. taken ∙ ap (λ b. if signals.hold design.branch then None else (if b then word_target value design.branch (instr_of design word) else None)) (sym there ∙ off) ∙ either_way (signals.hold design.branch) None;
      held = λ on. took ∙ ap (λ b. if b then None else shown_target r nets) on;
      nothing = λ none. taken ∙ ap (λ o. if signals.hold design.branch then None else (if is_on r valid then word_target value design.branch o else None)) none ∙ ap (λ o. if signals.hold design.branch then None else o) (either_way (is_on r valid) None) ∙ either_way (signals.hold design.branch) None;
      line = λ instr is on off. taken ∙ ap (λ b. if b then None else (if is_on r valid then word_target value design.branch (instr_of design word) else None)) off ∙ ap (λ b. if b then word_target value design.branch (instr_of design word) else None) (sym there ∙ on) ∙ ap (word_target value design.branch) is;
    }
