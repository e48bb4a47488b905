-- What is found for the number of a node, among entries that are each for a node.
use Rattle.std.proofs.Common.{◌≡◌, ℕ, ◌==◌, Bool, List, Option, Some, None, find, refl, sym, subst, ◌∙◌, eqb-true}
use Rattle.std.specs.List.{AllByRecursion as Each}
use Rattle.std.specs.Option.{option_map}
use Rattle.std.proofs.lemmas.Option.{same_Some}
use Rattle.ap_course.proofs.Standing.{found_in}
use Rattle.ap_desc.proofs.Members.{each_contained, in_contains}
use Rattle.ap_desc.specs.declared.design.Design.{Design}
use Rattle.ap_desc.specs.declared.design.Node.{Node as DesignNode}
use Rattle.ap_ports.specs.Numbers.{IsNumberedNode, number_of_node}
use Rattle.ap_ports.proofs.Added.{one_node}
use Rattle.ap_stages.specs.Supplies.{supply_of}
use Rattle.ap_stages.specs.declared.nodes.Supplied.{Supplied}
use Rattle.ap_stages.specs.declared.nodes.Supply.{Supply}
use Rattle.ap_supply.specs.Supplies.{EntriesAreSupplies, IsEntry, IsSupplyOf, Placed}

abbrev is_for : ℕ → Supplied → Bool
is_for number e = e.number == number

abbrev supply_in : Supplied → Supply
supply_in e = e.supply

module _ (design : Design) (p : Placed) (supplies : List Supplied) (each : Each (IsEntry design p) supplies) (x : DesignNode) (s : Supply) (numbered : IsNumberedNode x) where
  of_found : (o : Option Supplied) → find (is_for (number_of_node x)) supplies ≡ o → option_map supply_in o ≡ Some s → IsSupplyOf design p x s
  of_found None found is = absurd cc
  of_found (Some e) found is =
      let (inside, own) = found_in (is_for (number_of_node x)) supplies e found in
      let entry : IsEntry design p e = each_contained (IsEntry design p) supplies e each (in_contains supplies e inside) in
      let number : number_of_node entry.node ≡ number_of_node x = sym entry.number ∙ eqb-true e.number (number_of_node x) own in
      let same : entry.node ≡ x = one_node entry.node x entry.numbered numbered number in
      let supply : e.supply ≡ s = same_Some e.supply s is in
      subst (IsSupplyOf design p x) supply (subst (λ (y : DesignNode). IsSupplyOf design p y e.supply) same entry.of)

  entry_of : supply_of supplies (number_of_node x) ≡ Some s → IsSupplyOf design p x s
  entry_of is = of_found (find (is_for (number_of_node x)) supplies) refl is

pub entries_are_supplies : EntriesAreSupplies
entries_are_supplies design p supplies each x s numbered is = entry_of design p supplies each x s numbered is
