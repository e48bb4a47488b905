-- On what the outputs of a unit of several cycles depend.
use Rattle.std.proofs.Common.{◌≡◌, ℕ, zero, suc, ◌+◌, List, [], ◌∷◌, length, map, Some, Bool, true, false, refl, sym, ap, subst, ◌∙◌}
use Rattle.std.specs.Prelude.{slice_get, IsTrue}
use Rattle.ap_bits.specs.declared.card.Latency.{Latency}
use Rattle.ap_bits.specs.declared.card.Latency.TheVariants.{WidthPlusOne}
use Rattle.ap_bits.specs.Cards.{select_width}
use Rattle.ap_net.specs.declared.cell.Wire.{Wire}
use Rattle.ap_net.specs.declared.net.Port.{Port}
use Rattle.ap_net.specs.declared.net.Instance.{Instance}
use Rattle.ap_net.specs.Modules.{ModuleText, outputs}
use Rattle.ap_net.specs.Draft.{Draft}
use Rattle.ap_net.specs.Placing.{merged, wires_from, output_widths, instance_in}
use Rattle.ap_net.specs.Opened.{SolvesPart}
use Rattle.ap_net.specs.Depends.{DependsWithin, DependsOnNone}
use Rattle.ap_net.specs.Ready.{Dependence, ReadyAfter, needed}
use Rattle.ap_net.specs.Late.{Joins}
use Rattle.ap_net.specs.Responding.{DependsAs}
use Rattle.ap_net.proofs.Laws.{everywhere}
use Rattle.ap_unit.specs.Units.{Behaves, ComputesInCycles, ports_by}
use Rattle.ap_unit.specs.declared.slow.SlowInputs.{SlowInputs}
use Rattle.ap_unit.specs.declared.slow.SlowOutputs.{SlowOutputs}
use Rattle.ap_unit.specs.Slow.{input_nets, output_nets, slow_needs, SeesUnit, SlowUnitsDepend}

-- the flags of a unit's ports
abbrev flags : List Bool
flags = false ∷ false ∷ false ∷ false ∷ false ∷ true ∷ true ∷ []

module _ (m : ModuleText) (busy : DependsOnNone m.assigns 5 (0 ∷ 1 ∷ 2 ∷ 4 ∷ [])) (value : DependsOnNone m.assigns 6 (4 ∷ [])) where
  abbrev among : ℕ → ℕ → Bool
  among (suc (suc (suc (suc (suc zero))))) x = busy.0 x
  among (suc (suc (suc (suc (suc (suc zero)))))) x = value.0 x
  among p x = true

  within : (p : ℕ) → slice_get flags p ≡ Some true → DependsWithin m.assigns p (among p)
  within zero at = everywhere m.assigns 0
  within (suc zero) at = everywhere m.assigns 1
  within (suc (suc zero)) at = everywhere m.assigns 2
  within (suc (suc (suc zero))) at = everywhere m.assigns 3
  within (suc (suc (suc (suc zero)))) at = everywhere m.assigns 4
  within (suc (suc (suc (suc (suc zero))))) at = busy.1
  within (suc (suc (suc (suc (suc (suc zero)))))) at = value.1
  within (suc (suc (suc (suc (suc (suc (suc p))))))) at = cc

  inputs : (p q : ℕ) → slice_get flags p ≡ Some true → slice_get flags q ≡ Some false → IsTrue (among p q) → slow_needs p q ≡ true
  inputs zero q at there is = refl
  inputs (suc zero) q at there is = refl
  inputs (suc (suc zero)) q at there is = refl
  inputs (suc (suc (suc zero))) q at there is = refl
  inputs (suc (suc (suc (suc zero)))) q at there is = refl
  inputs (suc (suc (suc (suc (suc zero))))) zero at there is = let no_way : true ≡ false = sym is ∙ (busy.2).0 in cc
  inputs (suc (suc (suc (suc (suc zero))))) (suc zero) at there is = let no_way : true ≡ false = sym is ∙ (busy.2).1.0 in cc
  inputs (suc (suc (suc (suc (suc zero))))) (suc (suc zero)) at there is = let no_way : true ≡ false = sym is ∙ (busy.2).1.1.0 in cc
  inputs (suc (suc (suc (suc (suc zero))))) (suc (suc (suc zero))) at there is = refl
  inputs (suc (suc (suc (suc (suc zero))))) (suc (suc (suc (suc zero)))) at there is = let no_way : true ≡ false = sym is ∙ (busy.2).1.1.1.0 in cc
  inputs (suc (suc (suc (suc (suc zero))))) (suc (suc (suc (suc (suc zero))))) at there is = cc
  inputs (suc (suc (suc (suc (suc zero))))) (suc (suc (suc (suc (suc (suc zero)))))) at there is = cc
  inputs (suc (suc (suc (suc (suc zero))))) (suc (suc (suc (suc (suc (suc (suc q))))))) at there is = cc
  inputs (suc (suc (suc (suc (suc (suc zero)))))) zero at there is = refl
  inputs (suc (suc (suc (suc (suc (suc zero)))))) (suc zero) at there is = refl
  inputs (suc (suc (suc (suc (suc (suc zero)))))) (suc (suc zero)) at there is = refl
  inputs (suc (suc (suc (suc (suc (suc zero)))))) (suc (suc (suc zero))) at there is = refl
  inputs (suc (suc (suc (suc (suc (suc zero)))))) (suc (suc (suc (suc zero)))) at there is = let no_way : true ≡ false = sym is ∙ (value.2).0 in cc
  inputs (suc (suc (suc (suc (suc (suc zero)))))) (suc (suc (suc (suc (suc zero))))) at there is = cc
  inputs (suc (suc (suc (suc (suc (suc zero)))))) (suc (suc (suc (suc (suc (suc zero)))))) at there is = cc
  inputs (suc (suc (suc (suc (suc (suc zero)))))) (suc (suc (suc (suc (suc (suc (suc q))))))) at there is = cc
  inputs (suc (suc (suc (suc (suc (suc (suc p))))))) q at there is = cc

  depends : outputs m ≡ flags → DependsAs m slow_needs
  depends e = record {
    among = among;
    within = λ p at. within p (subst (λ (l : List Bool). slice_get l p ≡ Some true) e at);
    inputs = λ p q at there is. inputs p q (subst (λ (l : List Bool). slice_get l p ≡ Some true) e at) (subst (λ (l : List Bool). slice_get l q ≡ Some false) e there) is;
  }

pub slow_units_depend : SlowUnitsDepend
slow_units_depend m card w slow unit =
    let behaves : ComputesInCycles m card w = subst (λ (l : Latency). Behaves l m card w) slow unit.behaves in
    let ports : m.ports ≡ ports_by WidthPlusOne (select_width card) w = unit.ports ∙ ap (λ (l : Latency). ports_by l (select_width card) w) slow in
    depends m behaves.busy behaves.value (ap (λ (l : List Port). map (λ (p : Port). p.output) l) ports)

-- An instance of one: busy is ready once go is, and y once all inputs but adv are.
module _ (d : Draft) (name : List ℕ) (m : ModuleText) (is : SlowInputs) (s : ℕ) (ports : m.ports ≡ ports_by WidthPlusOne s is.a.width) where
  abbrev i : Instance
  i = instance_in d name m (input_nets is)

  abbrev outs : SlowOutputs
  outs = output_nets (length d.nets) is.a.width

  flags_are : i.drives ≡ flags
  flags_are = ap (λ (l : List Port). map (λ (p : Port). p.output) l) ports

  nets_are : i.nets ≡ is.sel ∷ is.a ∷ is.b ∷ is.go ∷ is.adv ∷ outs.busy ∷ outs.y ∷ []
  nets_are = ap (λ (l : List Port). merged (map (λ (p : Port). p.output) l) (input_nets is) (wires_from (length d.nets) (output_widths l))) ports

  module _ (new : Draft) (joins : Joins i d new) (by : Dependence) (needs : by.needs m.name ≡ slow_needs) where
    needed_are : (p : ℕ) → needed (by.needs i.module p) i.drives i.nets ≡ needed (slow_needs p) flags (is.sel ∷ is.a ∷ is.b ∷ is.go ∷ is.adv ∷ outs.busy ∷ outs.y ∷ [])
    needed_are p = ap (λ f. needed (f p) i.drives i.nets) needs ∙ ap (λ l. needed (slow_needs p) l i.nets) flags_are ∙ ap (λ l. needed (slow_needs p) flags l) nets_are

    pub slow_busy : ReadyAfter by new (is.go.number ∷ []) (length d.nets)
    slow_busy = subst (λ l. ReadyAfter by new l (length d.nets)) (needed_are 5)
        (joins.outputs by 5 outs.busy (ap (λ (l : List Wire). slice_get l 5) nets_are) (ap (λ (l : List Bool). slice_get l 5) flags_are))

    pub slow_y : ReadyAfter by new (is.sel.number ∷ is.a.number ∷ is.b.number ∷ is.go.number ∷ []) (length d.nets + 1)
    slow_y = subst (λ l. ReadyAfter by new l (length d.nets + 1)) (needed_are 6)
        (joins.outputs by 6 outs.y (ap (λ (l : List Wire). slice_get l 6) nets_are) (ap (λ (l : List Bool). slice_get l 6) flags_are))

  -- what a part that solves shows at the nets of its ports
  pub part_sees : (x : ModuleText) (read part : ℕ → ℕ) → SolvesPart x i read part → SeesUnit x is outs read part
  part_sees x read part h =
      let at : (p : ℕ) (w : Wire) → slice_get (is.sel ∷ is.a ∷ is.b ∷ is.go ∷ is.adv ∷ outs.busy ∷ outs.y ∷ []) p ≡ Some w → part p ≡ read w.number =
      λ p w there. h.joined p w (ap (λ (l : List Wire). slice_get l p) nets_are ∙ there) in
      record {
        settles = h.settles;
        asked = λ k. record { sel = at 0 is.sel refl k; a = at 1 is.a refl k; b = at 2 is.b refl k; go = at 3 is.go refl k; adv = at 4 is.adv refl k };
        busy = sym (at 5 outs.busy refl);
        y = sym (at 6 outs.y refl);
      }
