-- The nets and equations of an opened netlist, part by part.
use Rattle.std.proofs.Common.{◌≡◌, ℕ, suc, zero, ◌+◌, ◌-◌, ◌<◌, List, [], ◌∷◌, ◌++◌, length, map, Option, Some, Bool, true, false, refl, sym, ap, subst, ◌∙◌, arith, append_assoc, length-append, add-zero}
use Rattle.std.specs.Prelude.{slice_get, slice_index, option_map, nat_lt, if◌then◌else◌}
use Rattle.std.specs.List.{AllByRecursion as Each}
use Rattle.std.specs.Str.{bytes_eq}
use Rattle.std.proofs.lemmas.Bool.{lt-ltb, le-ltb}
use Rattle.std.proofs.lemmas.List.{map-append, length-map}
use Rattle.std.proofs.lemmas.Option.{slice_get_within, slice_get-map}
use Rattle.std.proofs.lemmas.Slice.Eq.{bytes_eq-Decides}
use Rattle.ap_net.specs.declared.cell.Wire.{Wire}
use Rattle.ap_net.specs.declared.net.ModuleNet.{ModuleNet}
use Rattle.ap_net.specs.declared.net.Port.{Port}
use Rattle.ap_net.specs.declared.net.Assign.{Assign}
use Rattle.ap_net.specs.declared.net.Instance.{Instance}
use Rattle.ap_net.specs.declared.net.Join.{Join}
use Rattle.ap_net.specs.Cells.{IsNet, operands, widths_of}
use Rattle.ap_net.specs.Wiring.{Holds, Settles, Ranked}
use Rattle.ap_net.specs.Modules.{ModuleText, IsModule, nets_of, module_named, Connects, IsInstanceIn, port_net, wire_net, reg_net, placed, assign_placed}
use Rattle.ap_net.specs.Opened.{SolveParts, Follows, IsOpenOrder}
use Rattle.ap_net.specs.Flat.{Solves, inner_role, top_net, part_net, plain_net, plain_nets, nets_in, assigns_in, part_size, part_nets, part_assigns, part_joins, joins_from, base_from, base_of, opened_over, join_assign, equations, spread_parts, spread}
use Rattle.ap_net.proofs.Lists.{All-join, All-front, All-back, All-from, All-both, All-at, All-map, All-unmap, get_left, get_right, map-map, some_same}
use Rattle.ap_net.proofs.Wired.{number-IsNet, declared}
use Rattle.ap_net.proofs.Renumbered.{some_within, operands-placed, cell_value-placed}

-- a net of an instance in the whole, without its part
abbrev pub inner_net : ModuleNet → ModuleNet
inner_net net = record { name = net.name; width = net.width; role = inner_role net.role }

-- the nets of instances, each by a function of the net of its module
abbrev pub nets_by : (ModuleNet → ModuleNet) → List ModuleText → List Instance → List ModuleNet
nets_by f modules [] = []
nets_by f modules (i ∷ instances) = map f (nets_in (module_named modules i.module)) ++ nets_by f modules instances

-- the nets of the whole, without their parts
abbrev pub whole_nets : List ModuleText → ModuleText → List ModuleNet
whole_nets modules top = nets_of top ++ nets_by inner_net modules top.instances

plain-top : (nets : List ModuleNet) → plain_nets (map top_net nets) ≡ nets
plain-top [] = refl
plain-top (net ∷ nets) = ap (λ l. net ∷ l) (plain-top nets)

plain-parts : (modules : List ModuleText) (part : ℕ) (instances : List Instance) → plain_nets (part_nets modules part instances) ≡ nets_by inner_net modules instances
plain-parts modules part [] = refl
plain-parts modules part (i ∷ instances) =
    map-append plain_net (map (part_net part) (nets_in (module_named modules i.module))) (part_nets modules (part + 1) instances)
    ∙ (λ j. map-map (part_net part) plain_net (nets_in (module_named modules i.module)) j ++ plain-parts modules (part + 1) instances j)

pub plain-opened : (modules : List ModuleText) (top : ModuleText) → plain_nets (opened_over modules top).nets ≡ whole_nets modules top
plain-opened modules top = map-append plain_net (map top_net (nets_of top)) (part_nets modules 1 top.instances) ∙ (λ j. plain-top (nets_of top) j ++ plain-parts modules 1 top.instances j)

-- some nets stand in a list from a place on
pub record StandsAt (base : ℕ) (xs ys : List ModuleNet) : Type 0 where
  pub at : (n : ℕ) (x : ModuleNet) → slice_get xs n ≡ Some x → slice_get ys (base + n) ≡ Some x

-- the nets of an instance stand from its first one on
pub parts_stand : (f : ModuleNet → ModuleNet) (modules : List ModuleText) (instances : List Instance) (front : List ModuleNet) (k : ℕ) (i : Instance) → slice_get instances k ≡ Some i
    → StandsAt (base_from modules (length front) instances k) (map f (nets_in (module_named modules i.module))) (front ++ nets_by f modules instances)
parts_stand f modules [] front k i at = cc
parts_stand f modules (j ∷ instances) front zero i at =
    let same : j ≡ i = some_same at in
    subst (λ (x : Instance). StandsAt (length front) (map f (nets_in (module_named modules x.module))) (front ++ (map f (nets_in (module_named modules j.module)) ++ nets_by f modules instances))) same
    (record { at = λ n x h. get_right front (map f (nets_in (module_named modules j.module)) ++ nets_by f modules instances) n ∙ get_left (map f (nets_in (module_named modules j.module))) (nets_by f modules instances) n x h })
parts_stand f modules (j ∷ instances) front (suc k) i at =
    let own : List ModuleNet = map f (nets_in (module_named modules j.module)) in
    let long : length (front ++ own) ≡ length front + part_size modules j = length-append front own ∙ ap (λ n. length front + n) (let e : length own ≡ part_size modules j = simp length-map in e) in
    let later : StandsAt (base_from modules (length (front ++ own)) instances k) (map f (nets_in (module_named modules i.module))) ((front ++ own) ++ nets_by f modules instances) = parts_stand f modules instances (front ++ own) k i at in
    subst (λ n. StandsAt (base_from modules n instances k) (map f (nets_in (module_named modules i.module))) (front ++ (own ++ nets_by f modules instances))) long
    (subst (StandsAt (base_from modules (length (front ++ own)) instances k) (map f (nets_in (module_named modules i.module)))) (append_assoc front own (nets_by f modules instances)) later)

-- the nets of instance k in the whole
pub part_stands : (modules : List ModuleText) (top : ModuleText) (k : ℕ) (i : Instance) (m : ModuleText) → slice_get top.instances k ≡ Some i → module_named modules i.module ≡ Some m
    → StandsAt (base_of modules top k) (map inner_net (nets_of m)) (plain_nets (opened_over modules top).nets)
part_stands modules top k i m at found =
    subst (StandsAt (base_of modules top k) (map inner_net (nets_of m))) (sym (plain-opened modules top))
    (subst (λ (o : Option ModuleText). StandsAt (base_of modules top k) (map inner_net (nets_in o)) (whole_nets modules top)) found (parts_stand inner_net modules top.instances (nets_of top) k i at))

pub part_net_at : (modules : List ModuleText) (top : ModuleText) (k : ℕ) (i : Instance) (m : ModuleText) → slice_get top.instances k ≡ Some i → module_named modules i.module ≡ Some m
    → (n : ℕ) (net : ModuleNet) → slice_get (nets_of m) n ≡ Some net → slice_get (plain_nets (opened_over modules top).nets) (base_of modules top k + n) ≡ Some (inner_net net)
part_net_at modules top k i m at found n net there = (part_stands modules top k i m at found).at n (inner_net net) (slice_get-map inner_net (nets_of m) n ∙ ap (option_map inner_net) there)

-- a net of top in the whole
pub own_net_at : (modules : List ModuleText) (top : ModuleText) (n : ℕ) (net : ModuleNet) → slice_get (nets_of top) n ≡ Some net → slice_get (plain_nets (opened_over modules top).nets) n ≡ Some net
own_net_at modules top n net at = ap (λ (nets : List ModuleNet). slice_get nets n) (plain-opened modules top) ∙ get_left (nets_of top) (nets_by inner_net modules top.instances) n net at

-- the net of a width
pub net_of_width : (nets : List ModuleNet) (n w : ℕ) → slice_get (widths_of nets) n ≡ Some w → (net : ModuleNet) × (slice_get nets n ≡ Some net) × (net.width ≡ w)
net_of_width nets n w h =
    let lt' : n < length (widths_of nets) = slice_get_within (widths_of nets) n w h in
    let lt : n < length nets = rw length-map at lt' in
    let s = some_within nets n lt in
    (s.0, s.1, some_same (sym (slice_get-map (λ (x : ModuleNet). x.width) nets n ∙ ap (option_map (λ (x : ModuleNet). x.width)) s.1) ∙ h))

pub width_at : (nets : List ModuleNet) (n : ℕ) (net : ModuleNet) → slice_get nets n ≡ Some net → slice_get (widths_of nets) n ≡ Some net.width
width_at nets n net at = slice_get-map (λ (x : ModuleNet). x.width) nets n ∙ ap (option_map (λ (x : ModuleNet). x.width)) at

-- what holds of all assigns of instances, by instance
pub part_assigns-at : (P : Assign → Type 0) (modules : List ModuleText) (base : ℕ) (instances : List Instance) → Each P (part_assigns modules base instances) → (k : ℕ) (i : Instance) → slice_get instances k ≡ Some i
    → Each (λ a. P (assign_placed (λ n. base_from modules base instances k + n) a)) (assigns_in (module_named modules i.module))
part_assigns-at P modules base [] h k i at = cc
part_assigns-at P modules base (j ∷ instances) h zero i at =
    let same : j ≡ i = some_same at in
    let own : List Assign = assigns_in (module_named modules j.module) in
    subst (λ (x : Instance). Each (λ a. P (assign_placed (λ n. base + n) a)) (assigns_in (module_named modules x.module))) same
    (All-unmap P (assign_placed (λ n. base + n)) own (All-front P (map (assign_placed (λ n. base + n)) own) (part_assigns modules (base + part_size modules j) instances) h))
part_assigns-at P modules base (j ∷ instances) h (suc k) i at =
    part_assigns-at P modules (base + part_size modules j) instances (All-back P (map (assign_placed (λ n. base + n)) (assigns_in (module_named modules j.module))) (part_assigns modules (base + part_size modules j) instances) h) k i at

pub part_assigns-all : (P : Assign → Type 0) (modules : List ModuleText) (base : ℕ) (instances : List Instance)
    → ((k : ℕ) (i : Instance) → slice_get instances k ≡ Some i → Each (λ a. P (assign_placed (λ n. base_from modules base instances k + n) a)) (assigns_in (module_named modules i.module)))
    → Each P (part_assigns modules base instances)
part_assigns-all P modules base [] f = tt
part_assigns-all P modules base (j ∷ instances) f =
    All-join P (map (assign_placed (λ n. base + n)) (assigns_in (module_named modules j.module))) (part_assigns modules (base + part_size modules j) instances)
    (All-map P (assign_placed (λ n. base + n)) (assigns_in (module_named modules j.module)) (f zero j refl))
    (part_assigns-all P modules (base + part_size modules j) instances (λ k i at. f (suc k) i at))

-- of all connections, by instance
pub part_joins-at : (P : Join → Type 0) (modules : List ModuleText) (base : ℕ) (instances : List Instance) → Each P (part_joins modules base instances) → (k : ℕ) (i : Instance) → slice_get instances k ≡ Some i
    → Each P (joins_from (base_from modules base instances k) i.drives i.nets)
part_joins-at P modules base [] h k i at = cc
part_joins-at P modules base (j ∷ instances) h zero i at =
    let same : j ≡ i = some_same at in
    subst (λ (x : Instance). Each P (joins_from base x.drives x.nets)) same (All-front P (joins_from base j.drives j.nets) (part_joins modules (base + part_size modules j) instances) h)
part_joins-at P modules base (j ∷ instances) h (suc k) i at =
    part_joins-at P modules (base + part_size modules j) instances (All-back P (joins_from base j.drives j.nets) (part_joins modules (base + part_size modules j) instances) h) k i at

pub part_joins-all : (P : Join → Type 0) (modules : List ModuleText) (base : ℕ) (instances : List Instance)
    → ((k : ℕ) (i : Instance) → slice_get instances k ≡ Some i → Each P (joins_from (base_from modules base instances k) i.drives i.nets)) → Each P (part_joins modules base instances)
part_joins-all P modules base [] f = tt
part_joins-all P modules base (j ∷ instances) f =
    All-join P (joins_from base j.drives j.nets) (part_joins modules (base + part_size modules j) instances) (f zero j refl)
    (part_joins-all P modules (base + part_size modules j) instances (λ k i at. f (suc k) i at))

-- the connection of the port n
abbrev pub join_of : ℕ → Bool → Wire → Join
join_of n true w = record { to = w; from = record { number = n; width = w.width } }
join_of n false w = record { to = record { number = n; width = w.width }; from = w }

-- of all connections of an instance, by port
pub joins_from-at : (P : Join → Type 0) (n : ℕ) (drives : List Bool) (nets : List Wire) → Each P (joins_from n drives nets) → (p : ℕ) (w : Wire) (d : Bool) → slice_get nets p ≡ Some w → slice_get drives p ≡ Some d → P (join_of (n + p) d w)
joins_from-at P n [] nets h p w d at flag = cc
joins_from-at P n (e ∷ drives) [] h p w d at flag = cc
joins_from-at P n (true ∷ drives) (x ∷ nets) h zero w d at flag = let same : x ≡ w = some_same at in let same' : true ≡ d = some_same flag in let here : n + 0 ≡ n = omega arith in rw (here, ← same, ← same') h.0
joins_from-at P n (false ∷ drives) (x ∷ nets) h zero w d at flag = let same : x ≡ w = some_same at in let same' : false ≡ d = some_same flag in let here : n + 0 ≡ n = omega arith in rw (here, ← same, ← same') h.0
joins_from-at P n (true ∷ drives) (x ∷ nets) h (suc p) w d at flag = let here : n + 1 + p ≡ n + suc p = omega arith in subst (λ q. P (join_of q d w)) here (joins_from-at P (n + 1) drives nets h.1 p w d at flag)
joins_from-at P n (false ∷ drives) (x ∷ nets) h (suc p) w d at flag = let here : n + 1 + p ≡ n + suc p = omega arith in subst (λ q. P (join_of q d w)) here (joins_from-at P (n + 1) drives nets h.1 p w d at flag)

pub joins_from-all : (P : Join → Type 0) (n : ℕ) (drives : List Bool) (nets : List Wire) → ((p : ℕ) (w : Wire) (d : Bool) → slice_get nets p ≡ Some w → slice_get drives p ≡ Some d → P (join_of (n + p) d w)) → Each P (joins_from n drives nets)
joins_from-all P n [] nets f = tt
joins_from-all P n (e ∷ drives) [] f = tt
joins_from-all P n (true ∷ drives) (x ∷ nets) f = (
  let here : n + 0 ≡ n = omega arith in subst (λ q. P (join_of q true x)) here (f zero x true refl refl),
  joins_from-all P (n + 1) drives nets (λ p w d at flag. let here : n + suc p ≡ n + 1 + p = omega arith in subst (λ q. P (join_of q d w)) here (f (suc p) w d at flag)),
)
joins_from-all P n (false ∷ drives) (x ∷ nets) f = (
  let here : n + 0 ≡ n = omega arith in subst (λ q. P (join_of q false x)) here (f zero x false refl refl),
  joins_from-all P (n + 1) drives nets (λ p w d at flag. let here : n + suc p ≡ n + 1 + p = omega arith in subst (λ q. P (join_of q d w)) here (f (suc p) w d at flag)),
)

-- a solution of the whole is one of top
pub own-solves : (modules : List ModuleText) (top : ModuleText) (v : List ℕ) → Solves (opened_over modules top) v → Settles (nets_of top) top.assigns (slice_index v)
own-solves modules top v s = record {
  fits = λ n w h. let net = net_of_width (nets_of top) n w h in s.settles.fits n w (width_at (plain_nets (opened_over modules top).nets) n net.0 (own_net_at modules top n net.0 net.1) ∙ ap Some net.2);
  holds = All-front (Holds (slice_index v)) top.assigns (part_assigns modules (length (nets_of top)) top.instances)
      (All-front (Holds (slice_index v)) (top.assigns ++ part_assigns modules (length (nets_of top)) top.instances) (map join_assign (part_joins modules (length (nets_of top)) top.instances)) s.settles.holds);
}

-- in a solution a port equals its net
port_joined : (read : ℕ → ℕ) (n : ℕ) (d : Bool) (w : Wire) → Holds read (join_assign (join_of n d w)) → read n ≡ read w.number
port_joined read n true w h = sym h
port_joined read n false w h = h

-- a solution of the whole solves each instance's module on its part
pub parts-solve : (modules : List ModuleText) (top : ModuleText) (v : List ℕ) → Each (λ (i : Instance). length i.drives ≡ length i.nets) top.instances → Solves (opened_over modules top) v
    → SolveParts modules top.instances (slice_index v) (λ k n. slice_index v (base_of modules top k + n))
parts-solve modules top v paired s k i m at found =
    let base : ℕ = base_of modules top k in
    let all : Each (Holds (slice_index v)) (top.assigns ++ part_assigns modules (length (nets_of top)) top.instances) =
    All-front (Holds (slice_index v)) (top.assigns ++ part_assigns modules (length (nets_of top)) top.instances) (map join_assign (part_joins modules (length (nets_of top)) top.instances)) s.settles.holds in
    let joins : Each (λ j. Holds (slice_index v) (join_assign j)) (part_joins modules (length (nets_of top)) top.instances) =
    All-unmap (Holds (slice_index v)) join_assign (part_joins modules (length (nets_of top)) top.instances)
    (All-back (Holds (slice_index v)) (top.assigns ++ part_assigns modules (length (nets_of top)) top.instances) (map join_assign (part_joins modules (length (nets_of top)) top.instances)) s.settles.holds) in
    record {
      settles = record {
        fits = λ n w h.
            let net = net_of_width (nets_of m) n w h in
            s.settles.fits (base + n) w (width_at (plain_nets (opened_over modules top).nets) (base + n) (inner_net net.0) (part_net_at modules top k i m at found n net.0 net.1) ∙ ap Some net.2);
        holds = All-from (λ (a : Assign). Holds (slice_index v) (assign_placed (λ n. base + n) a)) (Holds (λ n. slice_index v (base + n))) (λ a h. h ∙ cell_value-placed (λ n. base + n) (slice_index v) a.to.width a.cell) m.assigns
            (subst (λ (o : Option ModuleText). Each (λ (a : Assign). Holds (slice_index v) (assign_placed (λ n. base + n) a)) (assigns_in o)) found
            (part_assigns-at (Holds (slice_index v)) modules (length (nets_of top)) top.instances (All-back (Holds (slice_index v)) top.assigns (part_assigns modules (length (nets_of top)) top.instances) all) k i at));
      };
      joined = λ p w there.
          let pair : length i.drives ≡ length i.nets = All-at (λ (x : Instance). length x.drives ≡ length x.nets) top.instances k i paired at in
          let lt : p < length i.nets = slice_get_within i.nets p w there in
          let flag = some_within i.drives p (omega arith) in
          port_joined (slice_index v) (base + p) flag.0 w
          (joins_from-at (λ j. Holds (slice_index v) (join_assign j)) base i.drives i.nets (part_joins-at (λ j. Holds (slice_index v) (join_assign j)) modules (length (nets_of top)) top.instances joins k i at) p w flag.0 there flag.1);
    }

-- the module of a name is among the modules
pub All-named : (P : ModuleText → Type 0) (modules : List ModuleText) (name : List ℕ) (m : ModuleText) → Each P modules → module_named modules name ≡ Some m → P m × (m.name ≡ name)
All-named P [] name m h e = cc
All-named P (x ∷ modules) name m h e =
    elim (bytes_eq x.name name) as (λ t. bytes_eq x.name name ≡ t → (if t then Some x else module_named modules name) ≡ Some m → P m × (m.name ≡ name)) [
      | true ↦ λ t f. let same : x ≡ m = some_same f in (subst P same h.0, ap (λ (y : ModuleText). y.name) (sym same) ∙ (bytes_eq-Decides x.name name).0 t)
      | false ↦ λ t f. All-named P modules name m h.1 f
    ] refl e

-- the port that a net is connected to
pub port_at : (m : ModuleText) (i : Instance) → Connects m i → (p : ℕ) (w : Wire) → slice_get i.nets p ≡ Some w
    → (port : Port) × (slice_get (nets_of m) p ≡ Some (port_net port)) × (port.width ≡ w.width) × (slice_get i.drives p ≡ Some port.output)
port_at m i c p w at =
    let wide : slice_get (map (λ (x : Port). x.width) m.ports) p ≡ Some w.width = ap (λ (l : List ℕ). slice_get l p) (sym c.widths) ∙ slice_get-map (λ (x : Wire). x.width) i.nets p ∙ ap (option_map (λ (x : Wire). x.width)) at in
    let lt' : p < length (map (λ (x : Port). x.width) m.ports) = slice_get_within (map (λ (x : Port). x.width) m.ports) p w.width wide in
    let lt : p < length m.ports = rw length-map at lt' in
    let port = some_within m.ports p lt in (
      port.0,
      get_left (map port_net m.ports ++ map wire_net m.wires) (map reg_net m.regs) p _ (get_left (map port_net m.ports) (map wire_net m.wires) p _ (slice_get-map port_net m.ports p ∙ ap (option_map port_net) port.1)),
      some_same (sym (slice_get-map (λ (x : Port). x.width) m.ports p ∙ ap (option_map (λ (x : Port). x.width)) port.1) ∙ wide),
      ap (λ (l : List Bool). slice_get l p) c.drives ∙ slice_get-map (λ (x : Port). x.output) m.ports p ∙ ap (option_map (λ (x : Port). x.output)) port.1,
    )

-- a function spread over the nets of the whole, at a net of top and at one of an instance
pub spread-own : (modules : List ModuleText) (top : ModuleText) (own : ℕ → ℕ) (parts : ℕ → ℕ → ℕ) (n : ℕ) → n < length (nets_of top) → spread modules top own parts n ≡ own n
spread-own modules top own parts n lt = rw (lt-ltb n (length (nets_of top)) lt) refl

base_from-shift : (modules : List ModuleText) (a b : ℕ) (instances : List Instance) (k : ℕ) → base_from modules (a + b) instances k ≡ a + base_from modules b instances k
base_from-shift modules a b [] k = refl
base_from-shift modules a b (i ∷ instances) zero = refl
base_from-shift modules a b (i ∷ instances) (suc k) = let e : a + b + part_size modules i ≡ a + (b + part_size modules i) = omega arith in ap (λ n. base_from modules n instances k) e ∙ base_from-shift modules a (b + part_size modules i) instances k

spread_parts-at : (modules : List ModuleText) (instances : List Instance) (parts : ℕ → ℕ → ℕ) (k : ℕ) (i : Instance) (n : ℕ) → slice_get instances k ≡ Some i → n < part_size modules i
    → spread_parts modules instances parts (base_from modules 0 instances k + n) ≡ parts k n
spread_parts-at modules [] parts k i n at lt = cc
spread_parts-at modules (j ∷ instances) parts zero i n at lt =
    let same : j ≡ i = some_same at in
    let here : 0 + n ≡ n = omega arith in
    let less : n < part_size modules j = subst (λ (x : Instance). n < part_size modules x) (sym same) lt in
    rw (here, lt-ltb n (part_size modules j) less) refl
spread_parts-at modules (j ∷ instances) parts (suc k) i n at lt =
    let s : ℕ = part_size modules j in
    let rest : ℕ = base_from modules 0 instances k + n in
    let swap : 0 + s ≡ s + 0 = omega arith in
    let start : base_from modules (0 + s) instances k ≡ s + base_from modules 0 instances k = ap (λ b. base_from modules b instances k) swap ∙ base_from-shift modules s 0 instances k in
    let place : base_from modules (0 + s) instances k + n ≡ s + rest = omega arith in
    let no : nat_lt (s + rest) s ≡ false = le-ltb (s + rest) s (omega arith) in
    let back : s + rest - s ≡ rest = omega arith in
    let next : k + 1 ≡ suc k = omega arith in
    rw (place, no, back) (spread_parts-at modules instances (λ q. parts (q + 1)) k i n at lt ∙ ap (λ q. parts q n) next)

pub spread-part : (modules : List ModuleText) (top : ModuleText) (own : ℕ → ℕ) (parts : ℕ → ℕ → ℕ) (k : ℕ) (i : Instance) (n : ℕ) → slice_get top.instances k ≡ Some i → n < part_size modules i
    → spread modules top own parts (base_of modules top k + n) ≡ parts k n
spread-part modules top own parts k i n at lt =
    let count : ℕ = length (nets_of top) in
    let rest : ℕ = base_from modules 0 top.instances k + n in
    let start : base_from modules count top.instances k ≡ count + base_from modules 0 top.instances k = ap (λ b. base_from modules b top.instances k) (sym (add-zero count)) ∙ base_from-shift modules count 0 top.instances k in
    let place : base_of modules top k + n ≡ count + rest = omega arith in
    let no : nat_lt (count + rest) count ≡ false = le-ltb (count + rest) count (omega arith) in
    let back : count + rest - count ≡ rest = omega arith in
    rw (place, no, back) (spread_parts-at modules top.instances parts k i n at lt)

-- the parts that are known have the sizes of their modules
pub part_size-found : (modules : List ModuleText) (i : Instance) (m : ModuleText) → module_named modules i.module ≡ Some m → part_size modules i ≡ length (nets_of m)
part_size-found modules i m found = ap (λ (o : Option ModuleText). length (nets_in o)) found

-- An order of top and its parts is one of the whole.
pub open-ranked : (modules : List ModuleText) (top : ModuleText) (own : ℕ → ℕ) (parts : ℕ → ℕ → ℕ) → Each IsModule modules → IsModule top → Each (IsInstanceIn modules) top.instances
    → IsOpenOrder modules top.assigns top.instances own parts → Ranked (spread modules top own parts) (equations (opened_over modules top))
open-ranked modules top own parts each kept within order =
    let rank : ℕ → ℕ = spread modules top own parts in
    let count : ℕ = length (nets_of top) in
    let P : Assign → Type 0 = λ a. Each (λ (o : Wire). rank o.number < rank a.to.number) (operands a.cell) in
    All-join P (top.assigns ++ part_assigns modules count top.instances) (map join_assign (part_joins modules count top.instances))
    (All-join P top.assigns (part_assigns modules count top.instances)
    (All-both (λ (a : Assign). IsNet (nets_of top) a.to × Each (IsNet (nets_of top)) (operands a.cell)) (λ (a : Assign). Each (λ (o : Wire). own o.number < own a.to.number) (operands a.cell)) P
    (λ a nets lower. All-both (IsNet (nets_of top)) (λ (o : Wire). own o.number < own a.to.number) (λ (o : Wire). rank o.number < rank a.to.number)
    (λ o net lt. let e : rank o.number ≡ own o.number = spread-own modules top own parts o.number (number-IsNet (nets_of top) o net) in let f : rank a.to.number ≡ own a.to.number = spread-own modules top own parts a.to.number (number-IsNet (nets_of top) a.to nets.0) in omega arith)
    (operands a.cell) nets.1 lower)
    top.assigns
    (All-both (λ (a : Assign). IsNet (nets_of top) a.to) (λ (a : Assign). Each (IsNet (nets_of top)) (operands a.cell)) (λ (a : Assign). IsNet (nets_of top) a.to × Each (IsNet (nets_of top)) (operands a.cell)) (λ a p q. (p, q)) top.assigns kept.wired.results (declared _ _ _ kept.wired))
    order.ranked)
    (part_assigns-all P modules count top.instances (λ k i at.
    let there : IsInstanceIn modules i = All-at (IsInstanceIn modules) top.instances k i within at in
    subst (λ (o : Option ModuleText). Each (λ a. P (assign_placed (λ n. base_of modules top k + n) a)) (assigns_in o)) (sym there.found) (moved k i there.whole at there.found))))
    (All-map P join_assign (part_joins modules count top.instances) (part_joins-all (λ j. P (join_assign j)) modules count top.instances (λ k i at. joined k i at)))
  where
    moved : (k : ℕ) (i : Instance) (m : ModuleText) → slice_get top.instances k ≡ Some i → module_named modules i.module ≡ Some m
        → Each (λ (a : Assign). Each (λ (o : Wire). spread modules top own parts o.number < spread modules top own parts (base_of modules top k + a.to.number)) (operands (assign_placed (λ n. base_of modules top k + n) a).cell)) m.assigns
    moved k i m at found =
        let base : ℕ = base_of modules top k in
        let rank : ℕ → ℕ = spread modules top own parts in
        let kept' : IsModule m = (All-named IsModule modules i.module m each found).0 in
        let size : part_size modules i ≡ length (nets_of m) = part_size-found modules i m found in
        let here : (w : Wire) → IsNet (nets_of m) w → rank (base + w.number) ≡ parts k w.number = λ w net. let lt = number-IsNet (nets_of m) w net in spread-part modules top own parts k i w.number at (omega arith) in
        let ranked = (order.each k i m at found).ranked in
        All-both (λ (a : Assign). IsNet (nets_of m) a.to × Each (IsNet (nets_of m)) (operands a.cell)) (λ (a : Assign). Each (λ (o : Wire). parts k o.number < parts k a.to.number) (operands a.cell))
        (λ (a : Assign). Each (λ (o : Wire). rank o.number < rank (base + a.to.number)) (operands (assign_placed (λ n. base + n) a).cell))
        (λ a nets lower. subst (Each (λ (o : Wire). rank o.number < rank (base + a.to.number))) (sym (operands-placed (λ n. base + n) a.cell))
        (All-map (λ (o : Wire). rank o.number < rank (base + a.to.number)) (placed (λ n. base + n)) (operands a.cell)
        (All-both (IsNet (nets_of m)) (λ (o : Wire). parts k o.number < parts k a.to.number) (λ (o : Wire). rank (base + o.number) < rank (base + a.to.number))
        (λ o net lt. let e : rank (base + o.number) ≡ parts k o.number = here o net in let f : rank (base + a.to.number) ≡ parts k a.to.number = here a.to nets.0 in omega arith)
        (operands a.cell) nets.1 lower)))
        m.assigns
        (All-both (λ (a : Assign). IsNet (nets_of m) a.to) (λ (a : Assign). Each (IsNet (nets_of m)) (operands a.cell)) (λ (a : Assign). IsNet (nets_of m) a.to × Each (IsNet (nets_of m)) (operands a.cell)) (λ a p q. (p, q)) m.assigns kept'.wired.results (declared _ _ _ kept'.wired))
        ranked

    follows : (rank : ℕ → ℕ) (n p : ℕ) (d : Bool) (w : Wire) (net : ℕ) → rank n ≡ p → rank w.number ≡ net → Follows d net p → Each (λ (o : Wire). rank o.number < rank (join_of n d w).to.number) (operands (join_assign (join_of n d w)).cell)
    follows rank n p true w net e f h = ((let lt : p < net = h in omega arith), tt)
    follows rank n p false w net e f h = ((let lt : net < p = h in omega arith), tt)

    joined : (k : ℕ) (i : Instance) → slice_get top.instances k ≡ Some i
        → Each (λ j. Each (λ (o : Wire). spread modules top own parts o.number < spread modules top own parts j.to.number) (operands (join_assign j).cell)) (joins_from (base_of modules top k) i.drives i.nets)
    joined k i at =
        let rank : ℕ → ℕ = spread modules top own parts in
        let there : IsInstanceIn modules i = All-at (IsInstanceIn modules) top.instances k i within at in
        let m : ModuleText = there.whole in
        let size : part_size modules i ≡ length (nets_of m) = part_size-found modules i m there.found in
        let nets : Each (IsNet (nets_of top)) i.nets = All-at (λ (x : Instance). Each (IsNet (nets_of top)) x.nets) top.instances k i kept.connected.declared at in
        joins_from-all (λ j. Each (λ (o : Wire). rank o.number < rank j.to.number) (operands (join_assign j).cell)) (base_of modules top k) i.drives i.nets
        (λ p w d here flag.
        let port = port_at m i there.connects p w here in
        let lt : p < length (nets_of m) = slice_get_within (nets_of m) p _ port.1 in
        let e : rank (base_of modules top k + p) ≡ parts k p = spread-part modules top own parts k i p at (omega arith) in
        let f : rank w.number ≡ own w.number = spread-own modules top own parts w.number (number-IsNet (nets_of top) w (All-at (IsNet (nets_of top)) i.nets p w nets here)) in
        follows rank (base_of modules top k + p) (parts k p) d w (own w.number) e f ((order.each k i m at there.found).joined p w d here flag))
