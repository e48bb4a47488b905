-- A file that was banked is placed as the border asks.
use Rattle.std.proofs.Common.{◌≡◌, ℕ, ◌+◌, true, false, List, [], ◌∷◌, refl, sym, subst, ◌∙◌}
use Rattle.std.specs.Prelude.{Option, Some, None}
use Rattle.ap_desc.specs.declared.design.Design.{Design}
use Rattle.ap_desc.specs.Designs.{index_bits}
use Rattle.ap_model.specs.declared.storage.WritePort.TheVariants as port
use Rattle.ap_net.specs.Draft.{Draft, Extends}
use Rattle.ap_net.proofs.Laws.{Carries-Extends}
use Rattle.ap_ctl.specs.Lists.{EachFrom, EachPair}
use Rattle.ap_signals.specs.DesignOutside.{enable_name, index_name, value_name}
use Rattle.ap_border.specs.Named.{IsNamed}
use Rattle.ap_bank.specs.declared.files.FileWrite.{FileWrite}
use Rattle.ap_bank.specs.Banked.{IsGiven}
use Rattle.ap_bank.specs.FileBorder.{BankedFilesArePlaced, IsNamedPort, IsShownPort}
use Rattle.ap_bank.proofs.FileBanked.{pairs_count}

one_shown : (design : Design) (b d : Draft) (file number bits width : ℕ) (p : Option FileWrite) (w : FileWrite) → Extends b d → IsGiven bits width b p w → IsNamedPort design d file number p → IsShownPort design d file number w
one_shown design b d file number bits width None w e g n = record {
  enable = λ u. absurd (let clash : true ≡ false = sym u ∙ n in cc);
  index = λ u. absurd (let clash : true ≡ false = sym u ∙ n in cc);
  value = λ u. absurd (let clash : true ≡ false = sym u ∙ n in cc);
  never = λ u. Carries-Extends e g.enable;
}
one_shown design b d file number bits width (Some p) w e g n = record {
  enable = λ u. subst (λ (x : FileWrite). IsNamed d (enable_name design (port.Cell file number)) x.enable) (sym g) n.1;
  index = λ u. subst (λ (x : FileWrite). IsNamed d (index_name design (port.Cell file number)) x.index) (sym g) n.2;
  value = λ u. subst (λ (x : FileWrite). IsNamed d (value_name design (port.Cell file number)) x.value) (sym g) n.3;
  never = λ u. absurd (let clash : true ≡ false = sym n.0 ∙ u in cc);
}

all_shown : (design : Design) (b d : Draft) (file first bits width : ℕ) (ports : List (Option FileWrite)) (ws : List FileWrite) → Extends b d → EachPair (IsGiven bits width b) ports ws → EachFrom (IsNamedPort design d file) first ports → EachFrom (IsShownPort design d file) first ws
all_shown design b d file first bits width [] [] e g n = tt
all_shown design b d file first bits width [] (w ∷ ws) e g n = absurd g
all_shown design b d file first bits width (p ∷ ports) [] e g n = absurd g
all_shown design b d file first bits width (p ∷ ports) (w ∷ ws) e g n = (one_shown design b d file first bits width p w e g.0 n.0, all_shown design b d file (first + 1) bits width ports ws e g.1 n.1)

pub banked_placed : BankedFilesArePlaced
banked_placed design d modules file f ports made h = record {
  bank = record {
    whole = h.whole;
    found = h.found;
    stages = h.stages;
    is_file = h.is_file;
    are = h.are;
    old = h.banks.between;
    new = h.new;
    reads = made.indices;
    writes = h.banks.writes;
    values = made.shown;
    count = sym (pairs_count (IsGiven (index_bits f) f.width h.new) ports h.banks.writes h.banks.given) ∙ h.count;
    placed = h.banks.placed;
    grows = h.grows;
    shown = all_shown design h.new d file 0 (index_bits f) f.width ports h.banks.writes h.grows h.banks.given h.named;
  };
  reads = refl;
  values = refl;
}
