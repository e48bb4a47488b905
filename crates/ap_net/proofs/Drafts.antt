use Rattle.std.proofs.Common.{◌≡◌, ◌≢◌, ℕ, ◌+◌, ◌<◌, ◌≤◌, inl, inr, ⊎_elim, suc, zero, List, [], ◌∷◌, ◌++◌, length, Some, true, refl, sym, ap, subst, ◌∙◌, arith, append-nil, append_assoc, length-append}
use Rattle.ap_net.specs.Modules.{port_by, ports_among}
use Rattle.std.proofs.lemmas.List.Elements.{filter_map-append}
use Rattle.std.specs.Prelude.{◌⊎◌, slice_get}
use Rattle.std.specs.List.{AllByRecursion as Each}
use Rattle.ap_net.specs.declared.cell.Wire.{Wire}
use Rattle.ap_net.specs.declared.cell.Cell.{Cell}
use Rattle.ap_net.specs.declared.net.ModuleNet.{ModuleNet}
use Rattle.ap_net.specs.declared.net.Assign.{Assign}
use Rattle.ap_net.specs.Cells.{IsNet, CellFits, cell_value}
use Rattle.ap_net.specs.declared.net.Role.TheVariants as role
use Rattle.ap_net.specs.Names.{IsNew}
use Rattle.ap_net.specs.Wiring.{names_taken, Holds}
use Rattle.ap_net.specs.declared.net.Instance.{Instance}
use Rattle.ap_net.specs.Draft.{Draft, Begins, Extends, Adds, SettlesDraft}
use Rattle.ap_net.proofs.Lists.{All-join, All-front, All-back, get_left}
use Rattle.ap_net.proofs.Connected.{names_taken-declare}
use Rattle.ap_net.proofs.Wired.{width_stays, IsNet-more, CellFits-more}

Begins-trans : {X : Type 0} (xs ys zs : List X) → Begins xs ys → Begins ys zs → Begins xs zs
Begins-trans xs ys zs p q = (p.0 ++ q.0, q.1 ∙ ap (λ l. l ++ q.0) p.1 ∙ append_assoc xs p.0 q.0)

pub Extends-refl : (a : Draft) → Extends a a
Extends-refl a = record { name = refl; nets = ([], sym (append-nil a.nets)); assigns = ([], sym (append-nil a.assigns)); nexts = ([], sym (append-nil a.nexts)); instances = ([], sym (append-nil a.instances)) }

pub Extends-trans : (a b c : Draft) → Extends a b → Extends b c → Extends a c
Extends-trans a b c p q = record {
  name = q.name ∙ p.name;
  nets = Begins-trans a.nets b.nets c.nets p.nets q.nets;
  assigns = Begins-trans a.assigns b.assigns c.assigns p.assigns q.assigns;
  nexts = Begins-trans a.nexts b.nexts c.nexts p.nexts q.nexts;
  instances = Begins-trans a.instances b.instances c.instances p.instances q.instances;
}

pub longer : (a b : Draft) → Extends a b → length a.nets ≤ length b.nets
longer a b e = let l : length b.nets ≡ length (a.nets ++ e.nets.0) = ap length e.nets.1 in omega (arith, length-append a.nets e.nets.0)

pub Adds-refl : (a : Draft) → Adds a a
Adds-refl a = record { extends = Extends-refl a; nexts = refl }

pub Adds-trans : (a b c : Draft) → Adds a b → Adds b c → Adds a c
Adds-trans a b c p q = record { extends = Extends-trans a b c p.extends q.extends; nexts = q.nexts ∙ p.nexts }

pub IsNet-Adds : (a b : Draft) (w : Wire) → Adds a b → IsNet a.nets w → IsNet b.nets w
IsNet-Adds a b w e h = rw e.extends.nets.1 (IsNet-more a.nets e.extends.nets.0 w h)

pub CellFits-Adds : (a b : Draft) (w : ℕ) (c : Cell) → Adds a b → CellFits a.nets w c → CellFits b.nets w c
CellFits-Adds a b w c e h = rw e.extends.nets.1 (CellFits-more a.nets e.extends.nets.0 w c h)

-- a declared net stays as it is
pub net-Adds : (a b : Draft) (n : ℕ) (net : ModuleNet) → Adds a b → slice_get a.nets n ≡ Some net → slice_get b.nets n ≡ Some net
net-Adds a b n net e h = rw e.extends.nets.1 (get_left a.nets e.extends.nets.0 n net h)

-- what settles the larger draft settles the smaller one
pub Settles-before : (a b : Draft) (read : ℕ → ℕ) → Extends a b → SettlesDraft b read → SettlesDraft a read
Settles-before a b read e s = record {
  fits = λ n w h. s.fits n w (rw e.nets.1 (width_stays a.nets e.nets.0 n w h));
  holds = All-front (Holds read) a.assigns e.assigns.0 (subst (Each (Holds read)) e.assigns.1 s.holds);
}

-- to declare a net adds a piece of circuit
pub Adds-declare : (a : Draft) (net : ModuleNet) → Adds a (record a { nets = a.nets ++ net ∷ [] })
Adds-declare a net = record {
  extends = record { name = refl; nets = (net ∷ [], refl); assigns = ([], sym (append-nil a.assigns)); nexts = ([], sym (append-nil a.nexts)); instances = ([], sym (append-nil a.instances)) };
  nexts = refl;
}

-- a new net that is driven by a cell over nets that were there
abbrev pub made : Draft → ModuleNet → Cell → Draft
made a net c = record a { nets = a.nets ++ net ∷ []; assigns = a.assigns ++ record { to = record { number = length a.nets; width = net.width }; cell = c } ∷ [] }

pub made-extends : (a : Draft) (net : ModuleNet) (c : Cell) → Extends a (made a net c)
made-extends a net c = record { name = refl; nets = (net ∷ [], refl); assigns = (record { to = record { number = length a.nets; width = net.width }; cell = c } ∷ [], refl); nexts = ([], sym (append-nil a.nexts)); instances = ([], sym (append-nil a.instances)) }

-- to make a net with a cell adds a piece of circuit
pub Adds-made : (a : Draft) (net : ModuleNet) (c : Cell) → Adds a (made a net c)
Adds-made a net c = record { extends = made-extends a net c; nexts = refl }

-- what settles a draft with a made net settles the draft before, and gives the net the cell's value
pub Settles-made : (a : Draft) (net : ModuleNet) (c : Cell) (read : ℕ → ℕ) → SettlesDraft (made a net c) read → SettlesDraft a read × (read (length a.nets) ≡ cell_value read net.width c)
Settles-made a net c read s = (
  Settles-before a (made a net c) read (made-extends a net c) s,
  (All-back (Holds read) a.assigns (record { to = record { number = length a.nets; width = net.width }; cell = c } ∷ []) s.holds).0,
)

-- what stands in a list with one more element
pub one_more_net : {X : Type 0} (xs : List X) (y : X) (n : ℕ) (x : X) → slice_get (xs ++ y ∷ []) n ≡ Some x → (slice_get xs n ≡ Some x) ⊎ ((n ≡ length xs) × (x ≡ y))
one_more_net [] y zero x h = let same : y ≡ x = cc in inr (refl, sym same)
one_more_net [] y (suc n) x h = cc
one_more_net (z ∷ xs) y zero x h = inl h
one_more_net (z ∷ xs) y (suc n) x h = ⊎_elim inl (λ q. inr (ap suc q.0, q.1)) (one_more_net xs y n x h)

-- a name that isn't the new net's is as new as it was
pub IsNew-made : (instances : List Instance) (nets : List ModuleNet) (net : ModuleNet) (name : List ℕ) → net.name ≢ name → IsNew name (names_taken instances nets) → IsNew name (names_taken instances (nets ++ net ∷ []))
IsNew-made instances nets net name ne h = rw (names_taken-declare instances nets net) (All-join (λ other. other ≢ name) (names_taken instances nets) (net.name ∷ []) h (ne, tt))

-- a made wire is no port
pub ports_among-wire : (nets : List ModuleNet) (name : List ℕ) (width : ℕ) → ports_among (nets ++ record { name = name; width = width; role = role.Plain } ∷ []) ≡ ports_among nets
ports_among-wire nets name width = filter_map-append (λ (net : ModuleNet). port_by net.role net) nets (record { name = name; width = width; role = role.Plain } ∷ []) ∙ append-nil (ports_among nets)

-- a shown port is one more
pub ports_among-shown : (nets : List ModuleNet) (name : List ℕ) (width : ℕ) → ports_among (nets ++ record { name = name; width = width; role = role.Output } ∷ []) ≡ ports_among nets ++ record { name = name; width = width; output = true } ∷ []
ports_among-shown nets name width = filter_map-append (λ (net : ModuleNet). port_by net.role net) nets (record { name = name; width = width; role = role.Output } ∷ [])
