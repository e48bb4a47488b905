-- What an operand keeps.
use Rattle.std.proofs.Common.{◌≡◌, ℕ, Bool, true, false, cond, List, Some, None, sym, ◌∙◌}
use Rattle.std.specs.Prelude.{codes}
use Rattle.std.specs.Str.{bytes_eq}
use Rattle.std.proofs.lemmas.Bool.{false≢true}
use Rattle.std.proofs.lemmas.Option.{same_Some}
use Rattle.std.proofs.lemmas.Slice.Eq.{bytes_eq-Decides}
use Rattle.ap_net.specs.Names.{IsNetName, is_net_name}
use Rattle.ap_vr.specs.LineForms.{name_in}
use Rattle.ap_vr.specs.LineTexts.{IsOperand}

-- a name's piece is the name
pub name_same : (piece name : List ℕ) → name_in piece ≡ Some name → piece ≡ name
unfolding name_in
name_same piece name h = by_case (is_net_name piece) h where
  by_case : (b : Bool) → cond b (Some piece) None ≡ Some name → piece ≡ name
  by_case true e = same_Some piece name e
  by_case false e = cc

-- a name whose piece is neither clk nor rst may be read
pub operand_rules : (piece name : List ℕ) → name_in piece ≡ Some name → IsNetName name → bytes_eq piece (codes "clk") ≡ false → bytes_eq piece (codes "rst") ≡ false → IsOperand name
operand_rules piece name h rules clk rst =
    let same = name_same piece name h in
    (rules, λ e. false≢true (sym clk ∙ (bytes_eq-Decides piece (codes "clk")).1 (same ∙ e)), λ e. false≢true (sym rst ∙ (bytes_eq-Decides piece (codes "rst")).1 (same ∙ e)))
