use Rattle.std.proofs.Common.{◌≡◌, ℕ, ◌<◌, List, [], ◌∷◌, length, get_or, map, refl, sym, ap, subst, ◌∙◌}
use Rattle.std.specs.Prelude.{codes, slice_get}
use Rattle.std.specs.List.{AllByRecursion as Each}
use Rattle.ap_net.specs.declared.cell.Wire.{Wire}
use Rattle.ap_net.specs.declared.net.Port.{Port}
use Rattle.ap_net.specs.declared.net.Instance.{Instance}
use Rattle.ap_net.specs.Cells.{IsNet}
use Rattle.ap_net.specs.Draft.{Draft, SettlesOpen}
use Rattle.ap_net.specs.Placing.{merged, wires_from, output_widths, placed_instance}
use Rattle.ap_net.proofs.Laws.{IsNet-Makes, IsNotNumbered-other, Makes-trans, Places-Makes, Places-trans, SettlesOpen-before}
use Rattle.ap_bits.specs.Cards.{operation_value}
use Rattle.ap_top.specs.Base.{wire}
use Rattle.ap_top.proofs.FormUnit.{computes, last_part, IsPlaced-Connects}
use Rattle.ap_top.proofs.machine.make_sum.Goals as goal

pub place-requires-clause-name : goal.place-requires-clause-name
place-requires-clause-name c = c.in_ok-added.ensures.makes.names (codes "u_U") (IsNotNumbered-other (codes "u_U") refl) (c.in_ok-sel.ensures.makes.names (codes "u_U") (IsNotNumbered-other (codes "u_U") refl) c.requires.name)

pub place-requires-clause-widths : goal.place-requires-clause-widths
place-requires-clause-widths c = rw (c.in_ok-sel.ensures.net.1, c.in_ok-added.ensures.net.1, c.requires.unit.ports) refl

pub place-requires-clause-nets : goal.place-requires-clause-nets
place-requires-clause-nets c = (
  IsNet-Makes _ _ _ c.in_ok-added.ensures.makes c.in_ok-sel.ensures.net.0,
  (IsNet-Makes _ _ _ c.in_ok-added.ensures.makes (IsNet-Makes _ _ _ c.in_ok-sel.ensures.makes c.requires.register), (c.in_ok-added.ensures.net.0, tt)),
)

pub returns-clause-net : goal.returns-clause-net
returns-clause-net c =
    let n : ℕ = length (c.make-2.new.self).nets in
    let all : c.in_ok-results.results ≡ wire n (c.args.register).width ∷ [] = c.in_ok-results.ensures.outputs ∙ ap (λ (ps : List Port). wires_from n (output_widths ps)) c.requires.unit.ports in
    let first : get_or c.as_slice.result.now 0 (wire 0 0) ≡ wire n (c.args.register).width = ap (λ (l : List Wire). get_or l 0 (wire 0 0)) (c.as_slice.ensures ∙ all) in
    rw first ((subst (Each (IsNet (c.place.new.self).nets)) all c.in_ok-results.ensures.nets).0, refl)

pub returns-clause-value : goal.returns-clause-value
returns-clause-value c = λ operation same exchange is modules found read parts s.
    let mid : Draft = c.make-2.new.self in
    let n : ℕ = length mid.nets in
    let w : ℕ = (c.args.register).width in
    let y : Wire = wire n w in
    let inputs : List Wire = c.in_ok-sel.sel ∷ c.args.register ∷ c.in_ok-added.added ∷ [] in
    let placed : Instance = placed_instance n (codes "u_U") c.args.unit.now inputs in
    let before : SettlesOpen modules mid read parts = SettlesOpen-before modules mid _ read parts (c.in_ok-results.ensures.places).adds.extends s in
    let part = last_part modules placed mid c.place.new.self read parts s (c.in_ok-results.ensures.places).instances exchange (c.requires.unit.name ∙ sym is.name) found in
    let nets : placed.nets ≡ c.in_ok-sel.sel ∷ c.args.register ∷ c.in_ok-added.added ∷ y ∷ [] = ap (λ (ps : List Port). merged (map (λ (p : Port). p.output) ps) inputs (wires_from n (output_widths ps))) c.requires.unit.ports in
    let all : c.in_ok-results.results ≡ y ∷ [] = c.in_ok-results.ensures.outputs ∙ ap (λ (ps : List Port). wires_from n (output_widths ps)) c.requires.unit.ports in
    let first : get_or c.as_slice.result.now 0 (wire 0 0) ≡ y = ap (λ (l : List Wire). get_or l 0 (wire 0 0)) (c.as_slice.ensures ∙ all) in
    let added = c.in_ok-added.ensures.value read before.own in
    let sel = c.in_ok-sel.ensures.value read added.0 in
    let number : parts (length mid.instances) 0 ≡ operation.number = part.joined 0 c.in_ok-sel.sel (ap (λ (l : List Wire). slice_get l 0) nets) ∙ sel.1 ∙ c.from.ensures ∙ sym same in
    let register = part.joined 1 c.args.register (ap (λ (l : List Wire). slice_get l 1) nets) in
    let constant = part.joined 2 c.in_ok-added.added (ap (λ (l : List Wire). slice_get l 2) nets) ∙ added.1 in
    let result = part.joined 3 y (ap (λ (l : List Wire). slice_get l 3) nets) in
    let inside : parts (length mid.instances) 0 < length operation.card.ops = subst (λ k. k < length operation.card.ops) (sym number) (is.quick).has in (
      SettlesOpen-before modules _ _ read parts c.in_ok-sel.ensures.makes.adds.extends (SettlesOpen-before modules _ _ read parts c.in_ok-added.ensures.makes.adds.extends before),
      ap (λ (x : Wire). read x.number) first ∙ sym result ∙ computes operation w c.args.select exchange is (parts (length mid.instances)) part.settles inside
          ∙ (λ i. operation_value operation.card w (number i) (register i) (constant i)),
    )

pub returns-clause-places : goal.returns-clause-places
returns-clause-places c =
    let placed : Instance = placed_instance (length (c.make-2.new.self).nets) (codes "u_U") c.args.unit.now (c.in_ok-sel.sel ∷ c.args.register ∷ c.in_ok-added.added ∷ []) in (
      placed,
      IsPlaced-Connects (c.args.register).width c.args.select placed c.args.unit.now refl c.requires.unit.name c.requires.unit.ports c.in_ok-results.ensures.connects,
      Places-trans [] (placed ∷ []) _ _ _ (Places-Makes _ _ (Makes-trans _ _ _ c.in_ok-sel.ensures.makes c.in_ok-added.ensures.makes)) c.in_ok-results.ensures.places,
    )
