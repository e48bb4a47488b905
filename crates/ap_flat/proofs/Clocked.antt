-- Every register of an opened netlist takes something at the edge.
use Rattle.std.proofs.Common.{◌≡◌, ◌≢◌, ℕ, zero, suc, ◌+◌, Bool, true, false, List, [], ◌∷◌, ◌++◌, length, map, Option, Some, None, ◌⊎◌, inl, inr, ⊎_elim, refl, sym, ap, subst, ◌∙◌, arith}
use Rattle.std.specs.Prelude.{bytes_eq, if◌then◌else◌, slice_get}
use Rattle.std.specs.List.{AllByRecursion as Each}
use Rattle.std.proofs.lemmas.List.{length-map}
use Rattle.ap_net.specs.declared.net.FlatNet.{FlatNet}
use Rattle.ap_net.specs.declared.net.Instance.{Instance}
use Rattle.ap_net.specs.declared.net.ModuleNet.{ModuleNet}
use Rattle.ap_net.specs.declared.net.Next.{Next}
use Rattle.ap_net.specs.declared.net.Role.{Role}
use Rattle.ap_net.specs.declared.net.Role.TheVariants as role
use Rattle.ap_net.specs.Flat.{inner_role, nets_in, nexts_in, opened, opened_last, part_net, part_nets, part_nexts, part_size, top_net}
use Rattle.ap_net.specs.Modules.{IsModule, IsNetlist, ModuleText, earlier, last_module, module_named, nets_of, next_placed}
use Rattle.ap_net.specs.Wiring.{Unclocked, reset_of}
use Rattle.ap_net.proofs.Lists.{some_same}
use Rattle.ap_flat.specs.Clocked.{AreAllClocked, OpenedAreClocked}

get_split : {X : Type 0} (xs ys : List X) (n : ℕ) (x : X) → slice_get (xs ++ ys) n ≡ Some x → (slice_get xs n ≡ Some x) ⊎ ((k : ℕ) × (n ≡ length xs + k) × (slice_get ys k ≡ Some x))
get_split [] ys n x at = inr (n, omega arith, at)
get_split (y ∷ xs) ys zero x at = inl at
get_split (y ∷ xs) ys (suc n) x at = ⊎_elim (λ first. inl first) (λ second. let e = second.1 in inr (second.0, omega (arith, e), second.2)) (get_split xs ys n x at)

get_map : {X Y : Type 0} (f : X → Y) (xs : List X) (n : ℕ) (y : Y) → slice_get (map f xs) n ≡ Some y → (x : X) × (slice_get xs n ≡ Some x) × (f x ≡ y)
get_map f [] n y at = cc
get_map f (x ∷ xs) zero y at = (x, refl, some_same at)
get_map f (x ∷ xs) (suc n) y at = get_map f xs n y at

each_left : {X : Type 0} (P : X → Type 0) (xs ys : List X) → Each P (xs ++ ys) → Each P xs
each_left P [] ys h = tt
each_left P (x ∷ xs) ys h = (h.0, each_left P xs ys h.1)

each_right : {X : Type 0} (P : X → Type 0) (xs ys : List X) → Each P (xs ++ ys) → Each P ys
each_right P [] ys h = h
each_right P (x ∷ xs) ys h = each_right P xs ys h.1

own_reset : (r : Role) (reset : ℕ) → r ≡ role.Register reset → r ≡ role.Register (reset_of r)
own_reset r reset e = e ∙ ap (λ x. role.Register (reset_of x)) (sym e)

inner_register : (r : Role) (reset : ℕ) → inner_role r ≡ role.Register reset → r ≡ role.Register reset
inner_register role.Input reset e = cc
inner_register role.Output reset e = cc
inner_register role.Plain reset e = cc
inner_register (role.Register x) reset e = e

named_each : (P : ModuleText → Type 0) (modules : List ModuleText) (name : List ℕ) (m : ModuleText) → Each P modules → module_named modules name ≡ Some m → P m
named_each P [] name m h at = cc
named_each P (x ∷ modules) name m h at = go (bytes_eq x.name name) at (named_each P modules name m h.1)
  where
    go : (b : Bool) → (if b then Some x else module_named modules name) ≡ Some m → (module_named modules name ≡ Some m → P m) → P m
    go true e later = subst P (some_same e) h.0
    go false e later = later e

unplaced : (base k : ℕ) (nexts : List Next) → Unclocked (map (next_placed (λ n. base + n)) nexts) (base + k) → Unclocked nexts k
unplaced base k [] h = tt
unplaced base k (x ∷ nexts) h = ((λ e. h.0 (ap (λ n. base + n) e)), unplaced base k nexts h.1)

in_module : (o : Option ModuleText) → ((m : ModuleText) → o ≡ Some m → IsModule m) → (k : ℕ) (net : ModuleNet) (reset : ℕ) → slice_get (nets_in o) k ≡ Some net → net.role ≡ role.Register reset → Unclocked (nexts_in o) k → ⊥
in_module None kept k net reset at is none = cc
in_module (Some m) kept k net reset at is none = (kept m refl).driven.clocked k net at (own_reset net.role reset is) none

in_parts : (modules : List ModuleText) → Each IsModule modules → (part base : ℕ) (instances : List Instance) (k : ℕ) (net : FlatNet) (reset : ℕ) → slice_get (part_nets modules part instances) k ≡ Some net → net.role ≡ role.Register reset
    → Unclocked (part_nexts modules base instances) (base + k) → ⊥
in_parts modules each part base [] k net reset at is none = cc
in_parts modules each part base (i ∷ instances) k net reset at is none = ⊎_elim here (later (λ j found free. in_parts modules each (part + 1) (base + part_size modules i) instances j net reset found is free)) (get_split own (part_nets modules (part + 1) instances) k net at)
  where
    own : List FlatNet
    own = map (part_net part) (nets_in (module_named modules i.module))

    placed : List Next
    placed = map (next_placed (λ n. base + n)) (nexts_in (module_named modules i.module))

    here : slice_get own k ≡ Some net → ⊥
    here found =
        let x = get_map (part_net part) (nets_in (module_named modules i.module)) k net found in
        let register : (x.0).role ≡ role.Register reset = inner_register (x.0).role reset (ap (λ (y : FlatNet). y.role) x.2 ∙ is) in
        in_module (module_named modules i.module) (λ m e. named_each IsModule modules i.module m each e) k x.0 reset x.1 register
        (unplaced base k (nexts_in (module_named modules i.module)) (each_left (λ (y : Next). y.register.number ≢ base + k) placed (part_nexts modules (base + part_size modules i) instances) none))

    later : ((j : ℕ) → slice_get (part_nets modules (part + 1) instances) j ≡ Some net → Unclocked (part_nexts modules (base + part_size modules i) instances) (base + part_size modules i + j) → ⊥)
        → (j : ℕ) × (k ≡ length own + j) × (slice_get (part_nets modules (part + 1) instances) j ≡ Some net) → ⊥
    later rest found =
        let long : length own ≡ part_size modules i = length-map (nets_in (module_named modules i.module)) (part_net part) in
        let e = found.1 in
        let same : base + k ≡ base + part_size modules i + found.0 = omega (arith, long, e) in
        rest found.0 found.2
        (subst (Unclocked (part_nexts modules (base + part_size modules i) instances)) same
        (each_right (λ (y : Next). y.register.number ≢ base + k) placed (part_nexts modules (base + part_size modules i) instances) none))

pub opened_are_clocked : OpenedAreClocked
opened_are_clocked modules top each kept n net reset at is none = ⊎_elim here later (get_split tops (part_nets modules 1 top.instances) n net at)
  where
    tops : List FlatNet
    tops = map top_net (nets_of top)

    here : slice_get tops n ≡ Some net → ⊥
    here found =
        let x = get_map top_net (nets_of top) n net found in
        kept.driven.clocked n x.0 x.1 (own_reset (x.0).role reset (ap (λ (y : FlatNet). y.role) x.2 ∙ is)) (each_left (λ (y : Next). y.register.number ≢ n) top.nexts (part_nexts modules (length (nets_of top)) top.instances) none)

    later : (k : ℕ) × (n ≡ length tops + k) × (slice_get (part_nets modules 1 top.instances) k ≡ Some net) → ⊥
    later found =
        let long : length tops ≡ length (nets_of top) = length-map (nets_of top) top_net in
        let e = found.1 in
        let same : n ≡ length (nets_of top) + found.0 = omega (arith, long, e) in
        in_parts modules each 1 (length (nets_of top)) top.instances found.0 net reset found.2 is
        (subst (Unclocked (part_nexts modules (length (nets_of top)) top.instances)) same (each_right (λ (y : Next). y.register.number ≢ n) top.nexts (part_nexts modules (length (nets_of top)) top.instances) none))

-- A netlist's modules keep their rules.

each_earlier : (P : ModuleText → Type 0) (modules : List ModuleText) → Each P modules → Each P (earlier modules)
each_earlier P [] h = tt
each_earlier P (m ∷ []) h = tt
each_earlier P (m ∷ n ∷ modules) h = (h.0, each_earlier P (n ∷ modules) h.1)

last_kept : (P : ModuleText → Type 0) (modules : List ModuleText) → Each P modules → (m : ModuleText) → last_module modules ≡ Some m → P m
last_kept P [] h m e = cc
last_kept P (x ∷ []) h m e = subst P (some_same e) h.0
last_kept P (x ∷ n ∷ modules) h m e = last_kept P (n ∷ modules) h.1 m e

pub netlist_clocked : (net : List ModuleText) → IsNetlist net → AreAllClocked (opened net)
netlist_clocked net kept = go (last_module net) (λ m e. last_kept IsModule net kept.each m e)
  where
    go : (o : Option ModuleText) → ((m : ModuleText) → o ≡ Some m → IsModule m) → AreAllClocked (opened_last (earlier net) o)
    go None h = λ n x reset at is none. cc
    go (Some top) h = opened_are_clocked (earlier net) top (each_earlier IsModule net kept.each) (h top refl)
