-- The instances of a module without fault, by numbers: what they drive, and that what they connect is declared.
use Rattle.std.proofs.Common.{◌≡◌, ℕ, ◌==◌, Bool, true, false, List, [], ◌∷◌, ◌++◌, length, map, zip, Option, Some, None, refl, sym, ap, ◌∙◌}
use Rattle.std.specs.List.{AllByRecursion as Each, list_all}
use Rattle.std.specs.Option.{option_map_or}
use Rattle.std.specs.Prelude.{if◌then◌else◌}
use Rattle.std.proofs.lemmas.Bool.{and_parts, eqb-true}
use Rattle.std.proofs.lemmas.List.{length-map}
use Rattle.ap_net.specs.declared.cell.Wire.{Wire}
use Rattle.ap_net.specs.declared.net.Instance.{Instance}
use Rattle.ap_net.specs.declared.net.Port.{Port}
use Rattle.ap_net.specs.Cells.{IsNet}
use Rattle.ap_net.specs.Modules.{nets_of}
use Rattle.ap_net.specs.Wiring.{driven_among, driven_by}
use Rattle.ap_net.proofs.Lists.{All-both, All-from, All-map}
use Rattle.ap_vr.specs.declared.line.Connection.{Connection}
use Rattle.ap_vr.specs.declared.line.NamedInstance.{NamedInstance}
use Rattle.ap_vr.specs.declared.module.NamedModule.{NamedModule}
use Rattle.ap_vr.specs.Built.{built_in, instance_of, output_of, ports_by, wire_of}
use Rattle.ap_vr.specs.Driving.{instance_drives, ports_drive}
use Rattle.ap_vr.specs.LineTexts.{IsConnection, IsInstance}
use Rattle.ap_vr.specs.Named.{IsNamedModule}
use Rattle.ap_vr.specs.Nets.{net_forms}
use Rattle.ap_vr.specs.Scope.{connects, connects_to, is_among, is_of_port, knows_instance, knows_nets, usable}
use Rattle.ap_vr.proofs.Declaring.{net_declared, operand_there}
use Rattle.ap_vr.proofs.DrivenOnce.{joined}

-- what an instance drives by its module's outputs
drives_among : (wire : List ℕ → Wire) (ports : List Port) (connections : List Connection)
    → driven_among (map output_of ports) (map (λ (c : Connection). wire c.net) connections) ≡ ports_drive (λ n. (wire n).number) ports connections
drives_among wire [] connections = refl
drives_among wire (p ∷ ports) [] = refl
drives_among wire (p ∷ ports) (c ∷ connections) = go p.output (drives_among wire ports connections) where
  go : (b : Bool) → driven_among (map output_of ports) (map (λ (c : Connection). wire c.net) connections) ≡ ports_drive (λ n. (wire n).number) ports connections
      → driven_among (b ∷ map output_of ports) (wire c.net ∷ map (λ (c : Connection). wire c.net) connections) ≡ (if b then (wire c.net).number ∷ [] else []) ++ ports_drive (λ n. (wire n).number) ports connections
  go true e = ap (λ l. (wire c.net).number ∷ l) e
  go false e = e

drives_of : (wire : List ℕ → Wire) (o : Option NamedModule) (connections : List Connection)
    → driven_among (map output_of (ports_by o)) (map (λ (c : Connection). wire c.net) connections)
    ≡ option_map_or (λ (w : NamedModule). ports_drive (λ n. (wire n).number) w.ports connections) o []
drives_of wire None connections = refl
drives_of wire (Some w) connections = drives_among wire w.ports connections

pub drives_by : (found : List ℕ → Option NamedModule) (wire : List ℕ → Wire) (instances : List NamedInstance)
    → driven_by (map (instance_of found wire) instances) ≡ joined (map (instance_drives found (λ n. (wire n).number)) instances)
drives_by found wire [] = refl
drives_by found wire (i ∷ instances) =
    ap (λ l. l ++ driven_by (map (instance_of found wire) instances)) (drives_of wire (found i.module) i.connections)
    ∙ ap (λ l. instance_drives found (λ n. (wire n).number) i ++ l) (drives_by found wire instances)

-- an instance is of a module that is found, and connects declared nets to its ports in order
pub record IsKnown (found : List ℕ → Option NamedModule) (known : List ℕ → Bool) (i : NamedInstance) : Type 0 where
  pub whole : NamedModule
  pub is : found i.module ≡ Some whole
  pub long : length i.connections ≡ length whole.ports
  pub ports : list_all is_of_port (zip i.connections whole.ports) ≡ true
  pub nets : knows_nets known i.connections ≡ true

pub is_known : (found : List ℕ → Option NamedModule) (known : List ℕ → Bool) (i : NamedInstance) → knows_instance found known i ≡ true → IsKnown found known i
is_known found known i e = go (found i.module) refl e where
  go : (o : Option NamedModule) → found i.module ≡ o → connects_to known i o ≡ true → IsKnown found known i
  go None h k = cc
  go (Some w) h k =
      let both = and_parts (connects i.connections w.ports) (knows_nets known i.connections) k in
      let ports = and_parts (length i.connections == length w.ports) (list_all is_of_port (zip i.connections w.ports)) both.0 in
      record { whole = w; is = h; long = eqb-true (length i.connections) (length w.ports) ports.0; ports = ports.1; nets = both.1 }

-- which of its nets an instance drives is said for each of them
paired : (found : List ℕ → Option NamedModule) (wire : List ℕ → Wire) (known : List ℕ → Bool) (i : NamedInstance) → knows_instance found known i ≡ true → length (instance_of found wire i).drives ≡ length (instance_of found wire i).nets
paired found wire known i e =
    let k = is_known found known i e in
    ap (λ o. length (map output_of (ports_by o))) k.is ∙ length-map k.whole.ports output_of ∙ sym k.long ∙ sym (length-map i.connections (λ (c : Connection). wire c.net))

pub all_paired : (found : List ℕ → Option NamedModule) (wire : List ℕ → Wire) (known : List ℕ → Bool) (instances : List NamedInstance) → Each (λ (i : NamedInstance). knows_instance found known i ≡ true) instances
    → Each (λ (i : Instance). length i.drives ≡ length i.nets) (map (instance_of found wire) instances)
all_paired found wire known instances h =
    All-map (λ (i : Instance). length i.drives ≡ length i.nets) (instance_of found wire) instances
    (All-from (λ (i : NamedInstance). knows_instance found known i ≡ true) (λ (i : NamedInstance). length (instance_of found wire i).drives ≡ length (instance_of found wire i).nets) (paired found wire known) instances h)

-- and each of them is declared
pub each_test : {X : Type 0} (test : X → Bool) (xs : List X) → list_all test xs ≡ true → Each (λ x. test x ≡ true) xs
each_test test [] e = tt
each_test test (x ∷ xs) e = let both = and_parts (test x) (list_all test xs) e in (both.0, each_test test xs both.1)

module _ (found : List ℕ → Option NamedModule) (m : NamedModule) (rules : IsNamedModule m) where
  connected : (i : NamedInstance) → IsInstance i → knows_instance found (is_among (usable m)) i ≡ true
      → Each (IsNet (nets_of (built_in found m))) (map (λ (c : Connection). wire_of (usable m) (net_forms m) c.net) i.connections)
  connected i is e =
      All-map (IsNet (nets_of (built_in found m))) (λ (c : Connection). wire_of (usable m) (net_forms m) c.net) i.connections
      (All-both IsConnection (λ (c : Connection). is_among (usable m) c.net ≡ true) (λ (c : Connection). IsNet (nets_of (built_in found m)) (wire_of (usable m) (net_forms m) c.net))
      (λ c o k. net_declared found m c.net rules (operand_there found m c.net o.1 k)) i.connections is.2
      (each_test (λ (c : Connection). is_among (usable m) c.net) i.connections (is_known found (is_among (usable m)) i e).nets))

  pub all_connected : Each (λ (i : NamedInstance). knows_instance found (is_among (usable m)) i ≡ true) m.instances
      → Each (λ (i : Instance). Each (IsNet (nets_of (built_in found m))) i.nets) (map (instance_of found (wire_of (usable m) (net_forms m))) m.instances)
  all_connected known =
      All-map (λ (i : Instance). Each (IsNet (nets_of (built_in found m))) i.nets) (instance_of found (wire_of (usable m) (net_forms m))) m.instances
      (All-both IsInstance (λ (i : NamedInstance). knows_instance found (is_among (usable m)) i ≡ true)
      (λ (i : NamedInstance). Each (IsNet (nets_of (built_in found m))) (map (λ (c : Connection). wire_of (usable m) (net_forms m) c.net) i.connections)) connected m.instances rules.instances known)
