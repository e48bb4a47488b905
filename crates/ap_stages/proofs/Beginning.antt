-- The nets of a stage as its instructions stand on them.
use Rattle.std.proofs.Common.{ℕ, List, ◌∷◌, [], ◌++◌, map, sym, ap, subst, ◌∙◌}
use Rattle.std.specs.List.{AllByRecursion as Each}
use Rattle.ap_desc.proofs.OnePort.{each_as}
use Rattle.ap_desc.specs.declared.design.Design.{Design}
use Rattle.ap_net.specs.declared.cell.Wire.{Wire}
use Rattle.ap_net.specs.Cells.{IsNet}
use Rattle.ap_net.specs.Draft.{Draft}
use Rattle.ap_net.specs.Ready.{numbers}
use Rattle.ap_net.proofs.Laws.{IsNet-Makes}
use Rattle.ap_pipe.specs.declared.table.StageSlots.{StageSlots}
use Rattle.ap_stage.specs.declared.source.Ground.{Ground}
use Rattle.ap_stage.specs.Sources.{IsGround}
use Rattle.ap_stage.specs.Trees.{IsShallow}
use Rattle.ap_stage.specs.Wiring.{IsWiring}
use Rattle.ap_stage.proofs.Followed.{each_then}
use Rattle.ap_stage.proofs.Shallow.{shallow_on}
use Rattle.ap_stage.proofs.Wired.{none_over}
use Rattle.ap_course.specs.Instrs.{IsGroundOf}
use Rattle.ap_course.specs.Starts.{sources}
use Rattle.ap_stages.specs.Begun.{AreShared, AreStageNets, IsGroundFor, base_numbers}
use Rattle.ap_stages.specs.Links.{IsLinkOf}
use Rattle.ap_stages.specs.declared.begin.SharedNets.{SharedNets}
use Rattle.ap_stages.specs.declared.begin.StageNets.{StageNets}

module _ (design : Design) (stage : ℕ) (table : StageSlots) (shared : SharedNets) (own : StageNets) (a b : Draft) (ground : Ground) (all : AreShared design a.nets shared) (here : AreStageNets design a.nets table own) (is : IsGroundFor shared own ground)
    (link : IsLinkOf design stage b own.place ground.link) (wiring : IsWiring (own.place.number ∷ []) a b ground.link) where
  moved : (wires : List Wire) → Each (IsNet a.nets) wires → Each (IsNet b.nets) wires
  moved wires h = each_as (IsNet a.nets) (IsNet b.nets) (λ w net. IsNet-Makes _ _ _ wiring.makes net) wires h

  pub ground_there : IsGround b.nets ground
  ground_there = record {
    word = subst (IsNet b.nets) (sym is.word) (IsNet-Makes _ _ _ wiring.makes here.word);
    place = subst (IsNet b.nets) (sym is.place) (IsNet-Makes _ _ _ wiring.makes here.place);
    link = link.net;
    regs = subst (Each (IsNet b.nets)) (sym is.regs) (moved shared.regs all.regs.nets_are);
    inputs = subst (Each (IsNet b.nets)) (sym is.inputs) (moved shared.inputs all.inputs.nets_are);
  }

  pub ground_of : IsGroundOf design ground
  ground_of = record {
    word = ap (λ (w : Wire). w.width) is.word ∙ here.word_bits;
    place = ap (λ (w : Wire). w.width) is.place ∙ here.place_bits;
    link = link.wide;
    regs = ap (map (λ (w : Wire). w.width)) is.regs ∙ all.regs.wide;
    inputs = ap (map (λ (w : Wire). w.width)) is.inputs ∙ all.inputs.wide;
  }

  module _ (low : Each (IsShallow a 0) (base_numbers shared own)) where
    low_later : Each (IsShallow b 0) (base_numbers shared own)
    low_later = each_then (IsShallow a 0) (IsShallow b 0) (base_numbers shared own) (λ n h. shallow_on a b 0 n wiring.makes.adds.extends h) low

    rest_low : Each (IsShallow b 0) (numbers ground.regs ++ (numbers ground.inputs ++ numbers own.slots))
    rest_low =
        subst (λ (ws : List Wire). Each (IsShallow b 0) (numbers ws ++ (numbers ground.inputs ++ numbers own.slots))) (sym is.regs)
        (subst (λ (ws : List Wire). Each (IsShallow b 0) (numbers shared.regs ++ (numbers ws ++ numbers own.slots))) (sym is.inputs) low_later.1.1)

    pub sources_low : Each (IsShallow b 0) (sources ground (numbers own.slots))
    sources_low = (
      subst (λ (w : Wire). IsShallow b 0 w.number) (sym is.word) low_later.0,
      (
        subst (λ (w : Wire). IsShallow b 0 w.number) (sym is.place) low_later.1.0,
        (none_over b 0 ground.link.number (wiring.shallow 0 (low.1.0, tt)), rest_low),
      ),
    )
