-- What a module has that was built in steps.
use Rattle.std.proofs.Common.{◌≡◌, ◌≢◌, ℕ, zero, suc, ◌+◌, ◌*◌, ◌<◌, ◌≤◌, Bool, true, false, List, [], ◌∷◌, ◌++◌, length, map, Option, Some, inl, inr, ⊎_elim, refl, sym, ap, subst, ◌∙◌, arith}
use Rattle.std.specs.Prelude.{if◌then◌else◌, codes, slice_get}
use Rattle.std.specs.List.{AllByRecursion as Each, cons_option}
use Rattle.std.proofs.lemmas.List.{length-map, map-append}
use Rattle.ap_image.specs.declared.shape.MemShape.{MemShape}
use Rattle.ap_net.specs.declared.cell.Wire.{Wire}
use Rattle.ap_net.specs.declared.net.Instance.{Instance}
use Rattle.ap_net.specs.declared.net.ModuleNet.{ModuleNet}
use Rattle.ap_net.specs.declared.net.Next.{Next}
use Rattle.ap_net.specs.declared.net.Port.{Port}
use Rattle.ap_net.specs.declared.net.Role.{Role}
use Rattle.ap_net.specs.declared.net.Role.TheVariants as role
use Rattle.ap_net.specs.Answering.{LooksByPorts, first_mem_port, mem_looks, port_looks}
use Rattle.ap_net.specs.Draft.{Draft}
use Rattle.ap_net.specs.Finished.{IsFinished}
use Rattle.ap_net.specs.Modules.{EndsInTop, IsInstanceIn, IsModule, IsNetlist, ModuleText, instance_placed, last_module, placed, port_by, port_net, ports_among}
use Rattle.ap_net.specs.Names.{AreDistinct}
use Rattle.ap_net.specs.Outside.{InPort, Outside, group_ports, input, input_ports, mem_ports, output, ports_of}
use Rattle.ap_net.specs.Pending.{Among}
use Rattle.ap_net.specs.Places.{has_port_role, is_port}
use Rattle.ap_net.specs.Ready.{AllReady, Dependence, numbers}
use Rattle.ap_net.specs.Responding.{looked_in}
use Rattle.ap_net.specs.Wiring.{IsSource, Unclocked, reset_of}
use Rattle.ap_net.proofs.Growing.{stays}
use Rattle.ap_net.proofs.Lists.{All-at, All-from, All-join, All-map, map-map, some_same}
use Rattle.ap_net.proofs.Netlists.{earlier-push, last-push}
use Rattle.ap_net.proofs.Responses.{ready_are_driven}
use Rattle.ap_runs.specs.FirstPorts.{BeginsWithPorts}
use Rattle.ap_runs.proofs.FirstPorts.{ports_are_looked_at}
use Rattle.ap_runs.proofs.Standing.{place_of}
use Rattle.ap_steps.specs.Built.{BuiltAreFinished, BuiltCanFinish, BuiltEndNetlists, CanFinish, CanPrecede, IsBuilt, IsFinishedTop, OutsideLooksForPorts, PortsComeFirst}
use Rattle.ap_steps.specs.Clocked.{IsClocked}
use Rattle.ap_steps.specs.Known.{AllReadyByKnown}
use Rattle.ap_steps.specs.Steps.{HasGrown, Step, last_draft, placed_by}
use Rattle.ap_steps.proofs.Intervals.{each_is_ready}
use Rattle.ap_steps.proofs.Known.{sources_are_known}
use Rattle.ap_steps.proofs.Steps.{grown}

-- Ports.

port_is_port : (p : Port) → is_port (port_net p) ≡ true
port_is_port p = of p.output p.name p.width
  where
    of : (b : Bool) (name : List ℕ) (width : ℕ) → has_port_role (if b then role.Output else role.Input) ≡ true
    of true name width = refl
    of false name width = refl

port_at : (ports : List Port) (n : ℕ) → n < length ports → (net : ModuleNet) × (slice_get (map port_net ports) n ≡ Some net) × (is_port net ≡ true)
port_at [] n low = absurd (omega (arith, low))
port_at (p ∷ ports) zero low = (port_net p, refl, port_is_port p)
port_at (p ∷ ports) (suc n) low = port_at ports n (omega (arith, low))

pub ports_come_first : PortsComeFirst
ports_come_first ports first d count begins e le n low =
    let (net, at, is) = port_at ports n (omega (arith, le, low)) in
    (net, stays first.nets d.nets e.nets n net (ap (λ (l : List ModuleNet). slice_get l n) begins ∙ at), is)

append_long : {X : Type 0} (xs ys : List X) → length (xs ++ ys) ≡ length xs + length ys
append_long [] ys = omega arith
append_long (x ∷ xs) ys = let rest = append_long xs ys in omega (arith, rest)

pub inputs_long : (inputs : List InPort) → length (input_ports inputs) ≡ length inputs
inputs_long [] = refl
inputs_long (p ∷ inputs) = let rest = inputs_long inputs in omega (arith, rest)

mems_long : (mems : List MemShape) → length (mem_ports mems) ≡ 5 * length mems
mems_long [] = refl
mems_long (m ∷ mems) = let rest = mems_long mems in omega (arith, rest)

looks_at_mems : (n : ℕ) (mems : List MemShape) → length (mem_looks n mems) ≡ 5 * length mems
looks_at_mems n [] = refl
looks_at_mems n (m ∷ mems) = let rest = looks_at_mems (n + 5) mems in omega (arith, rest)

abbrev nothing : List ℕ
nothing = []

looks_long : (o : Outside) → length (port_looks o) ≡ 3 + length o.inputs + 5 * length o.mems
looks_long o =
    let first = append_long ([] ∷ (0 ∷ []) ∷ [] ∷ map (λ (p : InPort). []) o.inputs) (mem_looks (first_mem_port o) o.mems) in
    let inputs = length-map o.inputs (λ (p : InPort). nothing) in
    let mems = looks_at_mems (first_mem_port o) o.mems in
    omega (arith, first, inputs, mems)

joined_long : (a b c d e : Port) (xs ys zs : List Port) → length ((a ∷ b ∷ c ∷ xs) ++ ys ++ (d ∷ e ∷ zs)) ≡ 5 + length xs + length ys + length zs
joined_long a b c d e xs ys zs =
    let first = append_long ((a ∷ b ∷ c ∷ xs) ++ ys) (d ∷ e ∷ zs) in
    let second = append_long (a ∷ b ∷ c ∷ xs) ys in
    omega (arith, first, second)

ports_long : (o : Outside) → length (ports_of o) ≡ 5 + length (input_ports o.inputs) + length (mem_ports o.mems) + length (group_ports o.groups)
ports_long o = joined_long (output (codes "iaddr") o.address) (input (codes "idata") o.word) (input (codes "mwait") 1) (output (codes "stall") 1) (output (codes "kill") 1) (input_ports o.inputs) (mem_ports o.mems) (group_ports o.groups)

pub outside_looks_for_ports : OutsideLooksForPorts
outside_looks_for_ports o =
    let looks = looks_long o in
    let ports = ports_long o in
    let inputs = inputs_long o.inputs in
    let mems = mems_long o.mems in
    omega (arith, looks, ports, inputs, mems)

one_port : (p : Port) → port_by (port_net p).role (port_net p) ≡ Some p
one_port p = of p.output p.name p.width
  where
    of : (b : Bool) (name : List ℕ) (width : ℕ)
        → port_by (if b then role.Output else role.Input) (record { name = name; width = width; role = if b then role.Output else role.Input }) ≡ Some (record { name = name; width = width; output = b })
    of true name width = refl
    of false name width = refl

ports_are_ports : (ports : List Port) → ports_among (map port_net ports) ≡ ports
ports_are_ports [] = refl
ports_are_ports (p ∷ ports) = ap (λ o. cons_option o (ports_among (map port_net ports))) (one_port p) ∙ ap (λ (l : List Port). p ∷ l) (ports_are_ports ports)

-- Registers.

no_port : (r : Role) (reset : ℕ) → r ≡ role.Register reset → has_port_role r ≡ true → ⊥
no_port r reset e is = let wrong : true ≡ false = sym is ∙ ap has_port_role e in cc

register_is_source : (r : Role) (reset : ℕ) → r ≡ role.Register reset → IsSource r
register_is_source r reset e = subst IsSource (sym e) tt

clocked_among : (d : Draft) (registers : List Wire) → Each (IsClocked d) registers → (n : ℕ) → Among (numbers registers) n → Unclocked d.nexts n → ⊥
clocked_among d [] each n among none = among
clocked_among d (w ∷ registers) each n (inl same) none =
    let (from, there) = each.0 in
    let (k, at) = place_of d.nexts (record { register = w; from = from }) there in
    All-at (λ (x : Next). x.register.number ≢ n) d.nexts k (record { register = w; from = from }) none at same
clocked_among d (w ∷ registers) each n (inr among) none = clocked_among d registers each.1 n among none

-- Instances.

placed_is_instance : (modules : List ModuleText) (place : ℕ → ℕ) (i : Instance) → IsInstanceIn modules i → IsInstanceIn modules (instance_placed place i)
placed_is_instance modules place i h = record {
  whole = h.whole;
  found = h.found;
  connects = record { named = (h.connects).named; widths = map-map (placed place) (λ (w : Wire). w.width) i.nets ∙ (h.connects).widths; drives = (h.connects).drives };
}

abbrev names : List ModuleText → List (List ℕ)
names modules = map (λ (m : ModuleText). m.name) modules

names_differ : (modules : List ModuleText) (top : ModuleText) → AreDistinct (names modules) → Each (λ (m : ModuleText). m.name ≢ codes "top") modules → top.name ≡ codes "top" → AreDistinct (names (modules ++ top ∷ []))
names_differ [] top distinct below e = (tt, tt)
names_differ (m ∷ modules) top distinct below e =
    let all : names (modules ++ top ∷ []) ≡ names modules ++ top.name ∷ [] = map-append (λ (x : ModuleText). x.name) modules (top ∷ []) in
    let other : top.name ≢ m.name = λ same. below.0 (sym same ∙ e) in (
      subst (Each (λ (name : List ℕ). name ≢ m.name)) (sym all) (All-join (λ (name : List ℕ). name ≢ m.name) (names modules) (top.name ∷ []) distinct.0 (other, tt)),
      names_differ modules top distinct.1 below.1 e,
    )

-- What was built.

module _ (by : Dependence) (o : Outside) (registers : List Wire) (first : Draft) (steps : List Step) (h : IsBuilt by o registers first steps) where
  abbrev last : Draft
  last = last_draft first steps

  has : HasGrown first steps
  has = grown first steps h.grows

  all_ready : AllReadyByKnown (length (ports_of o)) registers by last
  all_ready other agrees = each_is_ready other last first steps (h.ports other agrees) (h.ready other agrees)

  is_ready : AllReady by last
  is_ready = all_ready by (record { looks = λ n known. refl; needs = refl })

  begins : (count : ℕ) → count ≤ length (ports_of o) → BeginsWithPorts last count
  begins count le = ports_come_first (ports_of o) first last count h.begins has.extends le

  same_ports : ports_among last.nets ≡ ports_of o
  same_ports = has.ports ∙ ap (λ (nets : List ModuleNet). ports_among nets) h.begins ∙ ports_are_ports (ports_of o)

  is_clocked : (n : ℕ) (net : ModuleNet) → slice_get last.nets n ≡ Some net → net.role ≡ role.Register (reset_of net.role) → Unclocked last.nexts n → ⊥
  is_clocked n net at is none =
      ⊎_elim (λ low. no_first n net at is low) (λ among. clocked_among last registers h.clocked n among none)
      (sources_are_known (length (ports_of o)) registers by last h.kept all_ready n net at (register_is_source net.role (reset_of net.role) is))
    where
      no_first : (n : ℕ) (net : ModuleNet) → slice_get last.nets n ≡ Some net → net.role ≡ role.Register (reset_of net.role) → n < length (ports_of o) → ⊥
      no_first n net at is low =
          let (other, there, port) = begins (length (ports_of o)) (omega arith) n low in
          let same : other ≡ net = some_same (sym there ∙ at) in
          no_port net.role (reset_of net.role) is (subst (λ (x : ModuleNet). is_port x ≡ true) same port)

  some_port : 0 < length (ports_of o)
  some_port = let long = ports_long o in omega (arith, long)

  pub can_finish : CanFinish last
  can_finish = record {
    driven = record { driven = ready_are_driven by last is_ready; clocked = is_clocked };
    port = subst (λ (ports : List Port). 0 < length ports) (sym same_ports) some_port;
  }

  module _ (top : ModuleText) (fin : IsFinished last top) where
    named : top.name ≡ codes "top"
    named = fin.name ∙ (has.extends).name ∙ h.name

    looks : LooksByPorts o (looked_in top fin.place fin.back by.looks)
    looks = subst (λ (where_at : ℕ → List ℕ). LooksByPorts o (looked_in top fin.place fin.back where_at)) (sym h.looks)
        (ports_are_looked_at last top fin o (begins (length (port_looks o)) (outside_looks_for_ports o)))

    pub is_finished : IsFinishedTop by o last top
    is_finished = record { kept = h.kept; ready = is_ready; finished = fin; name = named; ports = fin.ports ∙ same_ports; looks = looks }

    instances : top.instances ≡ map (instance_placed fin.place) (placed_by steps)
    instances = fin.instances ∙ ap (map (instance_placed fin.place)) (has.instances ∙ ap (λ (l : List Instance). l ++ placed_by steps) h.bare)

    within : (modules : List ModuleText) → Each (IsInstanceIn modules) (placed_by steps) → Each (IsInstanceIn modules) top.instances
    within modules each = subst (Each (IsInstanceIn modules)) (sym instances)
        (All-map (IsInstanceIn modules) (instance_placed fin.place) (placed_by steps)
        (All-from (IsInstanceIn modules) (λ (i : Instance). IsInstanceIn modules (instance_placed fin.place i)) (placed_is_instance modules fin.place) (placed_by steps) each))

    pub ends : (modules : List ModuleText) → IsModule top → CanPrecede modules → Each (IsInstanceIn modules) (placed_by steps) → IsNetlist (modules ++ top ∷ [])
    ends modules is can each = record {
      each = All-join IsModule modules (top ∷ []) can.each (is, tt);
      distinct = names_differ modules top can.distinct can.below named;
      last = subst (λ (l : List ModuleText). EndsInTop (last_module (modules ++ top ∷ [])) l) (sym (earlier-push modules top))
          (subst (λ (x : Option ModuleText). EndsInTop x modules) (sym (last-push modules top)) (named, within modules each));
    }

pub built_can_finish : BuiltCanFinish
built_can_finish by o registers first steps h = can_finish by o registers first steps h

pub built_are_finished : BuiltAreFinished
built_are_finished by o registers first steps top h fin = is_finished by o registers first steps h top fin

pub built_end_netlists : BuiltEndNetlists
built_end_netlists by o registers first steps top modules h fin is can each = ends by o registers first steps h top fin modules is can each
