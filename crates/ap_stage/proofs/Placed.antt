-- A placed instance of a unit that takes one cycle.
use Rattle.std.proofs.Common.{◌≡◌, ℕ, ◌+◌, ◌<◌, List, [], ◌∷◌, length, map, Some, Bool, true, false, refl, sym, ap, subst, ◌∙◌, arith, inr, length-append}
use Rattle.std.specs.Prelude.{slice_get}
use Rattle.ap_bits.specs.Cards.{operation_value}
use Rattle.ap_bits.specs.declared.card.Card.{Card}
use Rattle.ap_bits.specs.declared.card.Latency.TheVariants.{One}
use Rattle.ap_net.specs.declared.cell.Wire.{Wire}
use Rattle.ap_net.specs.declared.net.Instance.{Instance}
use Rattle.ap_net.specs.declared.net.Port.{Port}
use Rattle.ap_net.specs.Draft.{Draft, next_wire, wire_count}
use Rattle.ap_net.specs.Late.{Joins, Reads}
use Rattle.ap_net.specs.Modules.{Connects, ModuleText, outputs}
use Rattle.ap_net.specs.Opened.{SolvesPart}
use Rattle.ap_net.specs.Pending.{Yields}
use Rattle.ap_net.specs.Placing.{Places, fresh_nets, instance_in, merged, output_widths, output_wires, wires_from, with_placed}
use Rattle.ap_net.specs.Ready.{Ready, ReadyAfter}
use Rattle.ap_net.proofs.Placing.{needed_merged}
use Rattle.ap_unit.specs.Units.{Computes, ports_by}
use Rattle.ap_stage.specs.Placed.{PlacesUnit}
use Rattle.ap_stage.specs.Trees.{IsShallow, output}
use Rattle.ap_stage.proofs.Listed.{get_last}

module _ (d : Draft) (name : List ℕ) (m : ModuleText) (sel a b : Wire) (ports : m.ports ≡ ports_by One sel.width a.width) where
  abbrev inputs : List Wire
  inputs = sel ∷ a ∷ b ∷ []

  abbrev i : Instance
  i = instance_in d name m inputs

  abbrev y : Wire
  y = next_wire d a.width

  flags_are : i.drives ≡ false ∷ false ∷ false ∷ true ∷ []
  flags_are = ap (λ (l : List Port). map (λ (p : Port). p.output) l) ports

  nets_are : i.nets ≡ sel ∷ a ∷ b ∷ y ∷ []
  nets_are = ap (λ (l : List Port). merged (map (λ (p : Port). p.output) l) inputs (wires_from (length d.nets) (output_widths l))) ports

  pub quick_outs : output_wires (length d.nets) m ≡ y ∷ []
  quick_outs = ap (λ (l : List Port). wires_from (length d.nets) (output_widths l)) ports

  pub quick_value : (x : ModuleText) (card : Card) (read part : ℕ → ℕ) → SolvesPart x i read part → Computes x card a.width → read sel.number < length card.ops
      → read y.number ≡ operation_value card a.width (read sel.number) (read a.number) (read b.number)
  quick_value x card read part h computes few =
      let at : (p : ℕ) (w : Wire) → slice_get (sel ∷ a ∷ b ∷ y ∷ []) p ≡ Some w → part p ≡ read w.number =
      λ p w there. h.joined p w (ap (λ (l : List Wire). slice_get l p) nets_are ∙ there) in
      sym (at 3 y refl) ∙ computes part h.settles (subst (λ k. k < length card.ops) (sym (at 0 sel refl)) few)
      ∙ (λ k. operation_value card a.width (at 0 sel refl k) (at 1 a refl k) (at 2 b refl k))

  module _ (new : Draft) (is : new ≡ with_placed d name m inputs) (joins : Joins i d new) where
    one_more : length new.nets ≡ length d.nets + 1
    one_more = ap (λ (x : Draft). length x.nets) is ∙ length-append d.nets (fresh_nets (wire_count d.nets) (output_widths m.ports))
        ∙ ap (λ (l : List Port). length d.nets + length (fresh_nets (wire_count d.nets) (output_widths l))) ports

    quick_reads : Reads (sel.number ∷ a.number ∷ b.number ∷ []) d new
    quick_reads = record {
      extends = joins.extends;
      nexts = joins.nexts;
      came = λ by n low high.
          let long = one_more in
          let here : length d.nets ≡ n = omega arith in
          subst (ReadyAfter by new (sel.number ∷ a.number ∷ b.number ∷ [])) here
          (λ later e each. joins.outputs by 3 y (ap (λ (l : List Wire). slice_get l 3) nets_are) (ap (λ (l : List Bool). slice_get l 3) flags_are) later e
          (needed_merged (Ready by later) (by.needs i.module 3) (outputs m) inputs (output_wires (length d.nets) m) each));
      late = joins.late;
    }

    pub quick_yields : Yields (sel.number ∷ a.number ∷ b.number ∷ []) d new y
    quick_yields = let long = one_more in record { reads = quick_reads; result = inr (omega arith, omega arith) }

    module _ (places : Places (i ∷ []) d new) where
      pub quick_places : Connects m i → PlacesUnit name m (sel ∷ a ∷ b ∷ y ∷ []) d new
      quick_places connects = record { placed = i; named = refl; connects = connects; over = nets_are; places = places }

      pub quick_shallow : IsShallow new 0 y.number
      quick_shallow = output 0 (length d.nets) (length d.instances) 3 i y
          (ap (λ (l : List Instance). slice_get l (length d.instances)) places.instances ∙ get_last d.instances i)
          (ap (λ (l : List Wire). slice_get l 3) nets_are) (ap (λ (l : List Bool). slice_get l 3) flags_are) refl
