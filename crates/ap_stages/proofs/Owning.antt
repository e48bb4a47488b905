-- The nets of each stage, from the registers of the stages and what control decodes.
use Rattle.std.proofs.Common.{◌≡◌, ℕ, ◌+◌, ◌<◌, List, [], ◌∷◌, ◌++◌, length, Some, inl, inr, sym, ap, subst, ◌∙◌, arith, length-append}
use Rattle.std.specs.Prelude.{◌⊎◌, slice_get}
use Rattle.std.specs.List.{AllByRecursion as Each}
use Rattle.std.proofs.lemmas.Option.{same_Some, slice_get_within}
use Rattle.ap_desc.proofs.OnePort.{each_as}
use Rattle.ap_desc.specs.declared.design.Design.{Design}
use Rattle.ap_net.specs.declared.cell.Wire.{Wire}
use Rattle.ap_net.specs.Cells.{IsNet}
use Rattle.ap_net.specs.Draft.{Draft}
use Rattle.ap_net.specs.Ready.{numbers}
use Rattle.ap_pipe.specs.declared.table.StageSlots.{StageSlots}
use Rattle.ap_ports.proofs.Members.{each_of}
use Rattle.ap_flight.specs.declared.stage.StageRegisters.{StageRegisters}
use Rattle.ap_stage.specs.Trees.{IsShallow, source}
use Rattle.ap_stage.proofs.Listed.{each_both}
use Rattle.ap_course.specs.Starts.{AreConds}
use Rattle.ap_stages.specs.Begun.{AreStageNets}
use Rattle.ap_stages.specs.Own.{AreRegistersOf, IsSourceNet, OwnNetsAreReadable, nets_of}
use Rattle.ap_stages.specs.Stages.{IsLowStage}
use Rattle.ap_stages.specs.declared.begin.SharedNets.{SharedNets}
use Rattle.ap_stages.specs.declared.begin.StageNets.{StageNets}
use Rattle.ap_stages.proofs.Begun.{some_at}
use Rattle.ap_stages.proofs.Gathering.{last_or_before}

-- One after another. -------------------------------------------------------------------------------------------------------

-- those of the first so many stages
pub record NetsSoFar (registers : List StageRegisters) (decoded : List (List Wire)) (count : ℕ) (owns : List StageNets) : Type 0 where
  pub long : length owns ≡ count
  pub each : (place : ℕ) (r : StageRegisters) (conditions : List Wire) (own : StageNets) → slice_get registers place ≡ Some r → slice_get decoded place ≡ Some conditions → slice_get owns place ≡ Some own → own ≡ nets_of r conditions

module _ (registers : List StageRegisters) (decoded : List (List Wire)) (count : ℕ) (owns later : List StageNets) (r : StageRegisters) (conditions : List Wire) (own : StageNets) (so_far : NetsSoFar registers decoded count owns) (r_at : slice_get registers count ≡ Some r)
    (conditions_at : slice_get decoded count ≡ Some conditions) (is : own ≡ nets_of r conditions) (more : later ≡ owns ++ own ∷ []) where
  next : (place : ℕ) (q : StageRegisters) (cs : List Wire) (x : StageNets) → slice_get registers place ≡ Some q → slice_get decoded place ≡ Some cs → slice_get (owns ++ own ∷ []) place ≡ Some x → x ≡ nets_of q cs
  next place q cs x q_at cs_at at = go (last_or_before owns own place x at)
    where
      go : (slice_get owns place ≡ Some x) ⊎ ((place ≡ length owns) × (own ≡ x)) → x ≡ nets_of q cs
      go (inl h) = so_far.each place q cs x q_at cs_at h
      go (inr h) =
          let here : place ≡ count = h.0 ∙ so_far.long in
          let same : r ≡ q = same_Some r q (sym r_at ∙ sym (ap (slice_get registers) here) ∙ q_at) in
          let alike : conditions ≡ cs = same_Some conditions cs (sym conditions_at ∙ sym (ap (slice_get decoded) here) ∙ cs_at) in
          sym h.1 ∙ is ∙ (λ i. nets_of (same i) (alike i))

  pub nets_more : NetsSoFar registers decoded (count + 1) later
  nets_more = subst (NetsSoFar registers decoded (count + 1)) (sym more) (record { long = length-append owns (own ∷ []) ∙ ap (λ n. n + 1) so_far.long; each = next })

-- They can be read. --------------------------------------------------------------------------------------------------------

low_net : (d : Draft) (w : Wire) → IsSourceNet d w → IsShallow d 0 w.number
low_net d w h = source 0 w.number h.whole h.at h.source

low_nets : (d : Draft) (wires : List Wire) → Each (IsSourceNet d) wires → Each (IsShallow d 0) (numbers wires)
low_nets d [] h = tt
low_nets d (w ∷ wires) h = (low_net d w h.0, low_nets d wires h.1)

stage_readable : (design : Design) (d : Draft) (table : StageSlots) (r : StageRegisters) (conditions : List Wire) → AreRegistersOf design d table r → AreConds design d.nets conditions → AreStageNets design d.nets table (nets_of r conditions)
stage_readable design d table r conditions h conds = record {
  word = h.each.0.net;
  word_bits = h.word_wide;
  place = h.each.1.0.net;
  place_bits = h.place_wide;
  conds = conds;
  slots = record { nets_are = each_as (IsSourceNet d) (IsNet d.nets) (λ w x. x.net) r.slots h.each.1.1; wide = h.slots_wide };
}

stage_low : (design : Design) (d : Draft) (table : StageSlots) (shared : SharedNets) (r : StageRegisters) (conditions : List Wire) → AreRegistersOf design d table r → Each (IsSourceNet d) shared.regs → Each (IsSourceNet d) shared.inputs → IsLowStage d shared (nets_of r conditions)
stage_low design d table shared r conditions h regs inputs = (
  low_net d r.word h.each.0,
  (
    low_net d r.place h.each.1.0,
    each_both (IsShallow d 0) (numbers shared.regs) (numbers shared.inputs ++ numbers r.slots) (low_nets d shared.regs regs)
        (each_both (IsShallow d 0) (numbers shared.inputs) (numbers r.slots) (low_nets d shared.inputs inputs) (low_nets d r.slots h.each.1.1)),
  ),
)

pub readable : OwnNetsAreReadable
readable design d slots shared registers decoded owns are count long enough stages conds regs inputs = record {
  many = are.long ∙ long ∙ count;
  nets = λ place table own table_at own_at.
      let (r, r_at) = register_at place own own_at in
      let (cs, cs_at) = conditions_at place own own_at in
      subst (AreStageNets design d.nets table) (sym (are.each place r cs own r_at cs_at own_at)) (stage_readable design d table r cs (stages place table r table_at r_at) (conds place cs cs_at));
  low = each_of (IsLowStage d shared) owns (λ place own own_at.
      let (r, r_at) = register_at place own own_at in
      let (cs, cs_at) = conditions_at place own own_at in
      let (table, table_at) = table_for place own own_at in
      subst (IsLowStage d shared) (sym (are.each place r cs own r_at cs_at own_at)) (stage_low design d table shared r cs (stages place table r table_at r_at) regs inputs));
}
  where
    within : (place : ℕ) (own : StageNets) → slice_get owns place ≡ Some own → place < length registers
    within place own at = let low = slice_get_within owns place own at in let e = are.long in omega (arith, low, e)

    register_at : (place : ℕ) (own : StageNets) → slice_get owns place ≡ Some own → (r : StageRegisters) × (slice_get registers place ≡ Some r)
    register_at place own at = some_at registers place (within place own at)

    conditions_at : (place : ℕ) (own : StageNets) → slice_get owns place ≡ Some own → (cs : List Wire) × (slice_get decoded place ≡ Some cs)
    conditions_at place own at = let low = within place own at in some_at decoded place (omega (arith, low, long, enough))

    table_for : (place : ℕ) (own : StageNets) → slice_get owns place ≡ Some own → (table : StageSlots) × (slice_get slots place ≡ Some table)
    table_for place own at = let low = within place own at in some_at slots place (omega (arith, low, long))
