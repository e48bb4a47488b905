-- Names by their numbers: which net of a module that is built has the number of a name.
use Rattle.std.proofs.Common.{◌≡◌, ◌⊎◌, ℕ, zero, suc, ◌+◌, ◌||◌, Bool, true, false, cond, List, [], ◌∷◌, ◌++◌, length, map, Option, Some, None, inl, inr, refl, sym, ap, ◌∙◌, arith}
use Rattle.std.specs.List.{position_from}
use Rattle.std.specs.Option.{option_map_or, unwrap_or}
use Rattle.std.specs.Prelude.{codes, option_map, slice_get, if◌then◌else◌}
use Rattle.std.specs.Str.{bytes_eq}
use Rattle.std.proofs.lemmas.Bool.{false≢true}
use Rattle.std.proofs.lemmas.Iterator.Adapters.{position_from-zero}
use Rattle.std.proofs.lemmas.List.{length-map, map-append}
use Rattle.std.proofs.lemmas.Option.{slice_get-map}
use Rattle.ap_net.specs.declared.net.ModuleNet.{ModuleNet}
use Rattle.ap_net.specs.declared.net.Net.{Net}
use Rattle.ap_net.specs.declared.net.Port.{Port}
use Rattle.ap_net.specs.declared.net.Role.{Role}
use Rattle.ap_net.specs.declared.net.Role.TheVariants as role
use Rattle.ap_net.specs.Modules.{nets_of, port_net, reg_net, wire_net}
use Rattle.ap_net.proofs.Lists.{get_either, get_left, get_right, some_same}
use Rattle.ap_vr.specs.declared.line.NamedNext.{NamedNext}
use Rattle.ap_vr.specs.declared.module.NamedModule.{NamedModule}
use Rattle.ap_vr.specs.declared.nets.NetForm.{NetForm}
use Rattle.ap_vr.specs.Built.{built_in, reg_of}
use Rattle.ap_vr.specs.Nets.{form_at, net_forms, number_of, own_form, port_form, reg_form, wire_form}
use Rattle.ap_vr.specs.Scope.{is_among, net_name, net_names, own_names, port_name, usable}
use Rattle.ap_vr.proofs.Words.{same_bytes}

record IsAfter (k : ℕ) (names : List (List ℕ)) (name : List ℕ) : Type 0 where
  j : ℕ
  found : position_from (bytes_eq name) k names ≡ Some (k + j)
  here : slice_get names j ≡ Some name

after : (name : List ℕ) (k : ℕ) (names : List (List ℕ)) → is_among names name ≡ true → IsAfter k names name
after name k [] e = absurd (false≢true e)
after name k (x ∷ names) e = go (bytes_eq name x) refl (after name (k + 1) names) where
  go : (b : Bool) → bytes_eq name x ≡ b → (is_among names name ≡ true → IsAfter (k + 1) names name) → IsAfter k (x ∷ names) name
  go true h later = record {
    j = 0;
    found = ap (λ b. cond b (Some k) (position_from (bytes_eq name) (k + 1) names)) h ∙ ap Some (let z : k ≡ k + 0 = omega arith in z);
    here = ap Some (sym (same_bytes name x h));
  }
  go false h later =
      let n = later (sym (ap (λ b. b || is_among names name) h) ∙ e) in
      record {
        j = suc n.j;
        found = ap (λ b. cond b (Some k) (position_from (bytes_eq name) (k + 1) names)) h ∙ n.found ∙ ap Some (let z : (k + 1) + n.j ≡ k + suc n.j = omega arith in z);
        here = n.here;
      }

-- a name that is known stands at its number
pub at_number : (names : List (List ℕ)) (name : List ℕ) → is_among names name ≡ true → slice_get names (number_of names name) ≡ Some name
at_number names name e =
    let a = after name 0 names e in
    let at : number_of names name ≡ a.j = ap (λ o. unwrap_or o 0) (position_from-zero (bytes_eq name) names ∙ a.found) ∙ (let z : 0 + a.j ≡ a.j = omega arith in z) in
    ap (slice_get names) at ∙ a.here

-- and so it does where others follow
front_from : (name : List ℕ) (k : ℕ) (names more : List (List ℕ)) → is_among names name ≡ true → position_from (bytes_eq name) k (names ++ more) ≡ position_from (bytes_eq name) k names
front_from name k [] more e = absurd (false≢true e)
front_from name k (x ∷ names) more e = go (bytes_eq name x) refl (front_from name (k + 1) names more) where
  go : (b : Bool) → bytes_eq name x ≡ b → (is_among names name ≡ true → position_from (bytes_eq name) (k + 1) (names ++ more) ≡ position_from (bytes_eq name) (k + 1) names)
      → cond (bytes_eq name x) (Some k) (position_from (bytes_eq name) (k + 1) (names ++ more)) ≡ cond (bytes_eq name x) (Some k) (position_from (bytes_eq name) (k + 1) names)
  go true h later = ap (λ b. cond b (Some k) (position_from (bytes_eq name) (k + 1) (names ++ more))) h ∙ sym (ap (λ b. cond b (Some k) (position_from (bytes_eq name) (k + 1) names)) h)
  go false h later =
      ap (λ b. cond b (Some k) (position_from (bytes_eq name) (k + 1) (names ++ more))) h ∙ later (sym (ap (λ b. b || is_among names name) h) ∙ e)
      ∙ sym (ap (λ b. cond b (Some k) (position_from (bytes_eq name) (k + 1) names)) h)

pub number_front : (names more : List (List ℕ)) (name : List ℕ) → is_among names name ≡ true → number_of (names ++ more) name ≡ number_of names name
number_front names more name e = ap (λ o. unwrap_or o 0) (position_from-zero (bytes_eq name) (names ++ more) ∙ front_from name 0 names more e ∙ sym (position_from-zero (bytes_eq name) names))

-- what a net is, without its reset value
abbrev pub bare : Role → Role
bare role.Input = role.Input
bare role.Output = role.Output
bare role.Plain = role.Plain
bare (role.Register reset) = role.Register 0

abbrev pub form_of : ModuleNet → NetForm
form_of net = record { width = net.width; role = bare net.role }

bare_port : (output : Bool) → bare (if output then role.Output else role.Input) ≡ (if output then role.Output else role.Input)
bare_port true = refl
bare_port false = refl

abbrev pub net_name_of : ModuleNet → List ℕ
net_name_of net = net.name

pub names_of_ports : (ports : List Port) → map net_name_of (map port_net ports) ≡ map port_name ports
names_of_ports [] = refl
names_of_ports (p ∷ ports) = ap (λ l. p.name ∷ l) (names_of_ports ports)

pub names_of_wires : (wires : List Net) → map net_name_of (map wire_net wires) ≡ map net_name wires
names_of_wires [] = refl
names_of_wires (n ∷ wires) = ap (λ l. n.name ∷ l) (names_of_wires wires)

names_of_regs : (nexts : List NamedNext) (regs : List Net) → map net_name_of (map reg_net (map (reg_of nexts) regs)) ≡ map net_name regs
names_of_regs nexts [] = refl
names_of_regs nexts (n ∷ regs) = ap (λ l. n.name ∷ l) (names_of_regs nexts regs)

pub forms_of_ports : (ports : List Port) → map form_of (map port_net ports) ≡ map port_form ports
forms_of_ports [] = refl
forms_of_ports (p ∷ ports) =
    ap (λ (r : Role). (let f : NetForm = record { width = p.width; role = r } in f) ∷ map form_of (map port_net ports)) (bare_port p.output)
    ∙ ap (λ l. port_form p ∷ l) (forms_of_ports ports)

pub forms_of_wires : (wires : List Net) → map form_of (map wire_net wires) ≡ map wire_form wires
forms_of_wires [] = refl
forms_of_wires (n ∷ wires) = ap (λ l. wire_form n ∷ l) (forms_of_wires wires)

forms_of_regs : (nexts : List NamedNext) (regs : List Net) → map form_of (map reg_net (map (reg_of nexts) regs)) ≡ map reg_form regs
forms_of_regs nexts [] = refl
forms_of_regs nexts (n ∷ regs) = ap (λ l. reg_form n ∷ l) (forms_of_regs nexts regs)

-- the parts of three lists
pub three : {X Y : Type 0} (f : X → Y) (a b c : List X) (x y z : List Y) → map f a ≡ x → map f b ≡ y → map f c ≡ z → map f (a ++ b ++ c) ≡ x ++ y ++ z
three f a b c x y z p q r =
    map-append f (a ++ b) c ∙ ap (λ l. l ++ map f c) (map-append f a b) ∙ ap (λ l. (l ++ map f b) ++ map f c) p ∙ ap (λ l. (x ++ l) ++ map f c) q ∙ ap (λ l. (x ++ y) ++ l) r

-- the nets of a module that is built have the names of its lines
pub built_names : (found : List ℕ → Option NamedModule) (m : NamedModule) → map net_name_of (nets_of (built_in found m)) ≡ net_names m
built_names found m =
    three net_name_of (map port_net m.ports) (map wire_net m.wires) (map reg_net (map (reg_of m.nexts) m.regs)) (map port_name m.ports) (map net_name m.wires) (map net_name m.regs)
    (names_of_ports m.ports) (names_of_wires m.wires) (names_of_regs m.nexts m.regs)

-- and their forms, which two more follow
abbrev front_forms : NamedModule → List NetForm
front_forms m = map port_form m.ports ++ map wire_form m.wires ++ map reg_form m.regs

abbrev own_forms : List NetForm
own_forms = own_form ∷ own_form ∷ []

built_forms : (found : List ℕ → Option NamedModule) (m : NamedModule) → map form_of (nets_of (built_in found m)) ≡ front_forms m
built_forms found m =
    three form_of (map port_net m.ports) (map wire_net m.wires) (map reg_net (map (reg_of m.nexts) m.regs)) (map port_form m.ports) (map wire_form m.wires) (map reg_form m.regs)
    (forms_of_ports m.ports) (forms_of_wires m.wires) (forms_of_regs m.nexts m.regs)

-- a net is named so, and its form has its number
pub record IsThere (found : List ℕ → Option NamedModule) (m : NamedModule) (name : List ℕ) (n : ℕ) : Type 0 where
  pub net : ModuleNet
  pub at : slice_get (nets_of (built_in found m)) n ≡ Some net
  pub named : net.name ≡ name
  pub form : form_at (net_forms m) n ≡ form_of net

got : {X Y : Type 0} (f : X → Y) (o : Option X) (y : Y) → option_map f o ≡ Some y → (x : X) × (o ≡ Some x) × (f x ≡ y)
got f None y e = cc
got f (Some x) y e = (x, refl, some_same e)

-- the form of a net by its number
pub form_there : (found : List ℕ → Option NamedModule) (m : NamedModule) (n : ℕ) (net : ModuleNet) → slice_get (nets_of (built_in found m)) n ≡ Some net → slice_get (net_forms m) n ≡ Some (form_of net)
form_there found m n net at = get_left (front_forms m) own_forms n (form_of net)
    (ap (λ l. slice_get l n) (sym (built_forms found m)) ∙ slice_get-map form_of (nets_of (built_in found m)) n ∙ ap (option_map form_of) at)

pub is_there : (found : List ℕ → Option NamedModule) (m : NamedModule) (name : List ℕ) (n : ℕ) → slice_get (net_names m) n ≡ Some name → IsThere found m name n
is_there found m name n e =
    let nets = nets_of (built_in found m) in
    let net = got net_name_of (slice_get nets n) name (sym (slice_get-map net_name_of nets n) ∙ ap (λ l. slice_get l n) (built_names found m) ∙ e) in
    record {
      net = net.0;
      at = net.1;
      named = net.2;
      form = ap (λ o. option_map_or (λ (f : NetForm). f) o own_form) (form_there found m n net.0 net.1);
    }

-- the name is clk or rst
pub record IsOwn (m : NamedModule) (name : List ℕ) (n : ℕ) : Type 0 where
  pub own : (name ≡ codes "clk") ⊎ (name ≡ codes "rst")
  pub form : form_at (net_forms m) n ≡ own_form

own_name : (i : ℕ) (name : List ℕ) → slice_get own_names i ≡ Some name → (name ≡ codes "clk") ⊎ (name ≡ codes "rst")
own_name zero name e = inl (sym (some_same e))
own_name (suc zero) name e = inr (sym (some_same e))
own_name (suc (suc i)) name e = cc

own_form_at : (i : ℕ) → option_map_or (λ (f : NetForm). f) (slice_get own_forms i) own_form ≡ own_form
own_form_at zero = refl
own_form_at (suc zero) = refl
own_form_at (suc (suc i)) = refl

as_long : (m : NamedModule) → length (net_names m) ≡ length (front_forms m)
as_long m =
    let found : List ℕ → Option NamedModule = λ name. None in
    ap length (sym (built_names found m)) ∙ length-map (nets_of (built_in found m)) net_name_of ∙ sym (length-map (nets_of (built_in found m)) form_of) ∙ ap length (built_forms found m)

-- a name that lines may use is that of a net, or clk or rst
pub net_or_own : (found : List ℕ → Option NamedModule) (m : NamedModule) (name : List ℕ) → is_among (usable m) name ≡ true
    → IsThere found m name (number_of (usable m) name) ⊎ IsOwn m name (number_of (usable m) name)
net_or_own found m name known = go (get_either (net_names m) own_names (number_of (usable m) name) name (at_number (usable m) name known)) where
  go : (slice_get (net_names m) (number_of (usable m) name) ≡ Some name) ⊎ ((i : ℕ) × (number_of (usable m) name ≡ length (net_names m) + i) × (slice_get own_names i ≡ Some name))
      → IsThere found m name (number_of (usable m) name) ⊎ IsOwn m name (number_of (usable m) name)
  go (inl at) = inl (is_there found m name (number_of (usable m) name) at)
  go (inr q) = inr (record {
    own = own_name q.0 name q.2;
    form =
        ap (form_at (net_forms m)) (q.1 ∙ ap (λ k. k + q.0) (as_long m))
        ∙ ap (λ o. option_map_or (λ (f : NetForm). f) o own_form) (get_right (front_forms m) own_forms q.0) ∙ own_form_at q.0;
  })
