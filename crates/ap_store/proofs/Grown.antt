-- How a register file's draft grows, by ports and by wires.
use Rattle.std.proofs.Common.{◌≡◌, ◌≢◌, ℕ, zero, suc, ◌+◌, ◌<◌, List, [], ◌∷◌, ◌++◌, length, map, Some, refl, sym, ap, subst, ◌∙◌, arith, append_assoc, length-append, ⊎_elim, false}
use Rattle.std.specs.Prelude.{slice_get}
use Rattle.std.specs.List.{AllByRecursion as Each, range_with_len}
use Rattle.std.proofs.lemmas.Bool.{cases_lt}
use Rattle.std.proofs.lemmas.List.Elements.{filter_map-append}
use Rattle.std.proofs.lemmas.List.FromFn.{length-map-range_with_len}
use Rattle.std.proofs.lemmas.Option.{slice_get_within}
use Rattle.ap_desc.specs.declared.design.File.{File}
use Rattle.ap_net.specs.declared.cell.Wire.{Wire}
use Rattle.ap_net.specs.declared.net.Role.TheVariants as role
use Rattle.ap_net.specs.declared.net.ModuleNet.{ModuleNet}
use Rattle.ap_net.specs.Names.{IsNew, IsNotNumbered}
use Rattle.ap_net.specs.Wiring.{names_taken, reset_of}
use Rattle.ap_net.specs.Modules.{port_by, ports_among}
use Rattle.ap_net.specs.Draft.{Adds, Draft, Extends, KeepsFresh, RegistersBelow, names_of, next_wire, with_net}
use Rattle.ap_net.specs.Ready.{AllReady, Dependence}
use Rattle.ap_net.specs.Making.{Closes, Makes}
use Rattle.ap_net.proofs.Lists.{All-front, All-back, get_end}
use Rattle.ap_net.proofs.Drafts.{Adds-declare, one_more_net}
use Rattle.ap_net.proofs.Laws.{Adds-refl, Adds-trans, Extends-refl, IsNew-made, Ready-Extends, Ready-source, stays}
use Rattle.ap_unit.specs.Pieces.{input_net}
use Rattle.ap_store.specs.Building.{Grows, LooksNowhere, StartsWithCells, cell_nets, with_cells}
use Rattle.ap_store.specs.FileModules.{cell_net}
use Rattle.ap_store.proofs.Ranges.{map_at}

pub Grows-refl : (a : Draft) → Grows [] a a
Grows-refl a = record { adds = Adds-refl a; instances = refl; ready = λ by free h. h; registers = λ k h. h; fresh = λ h. h; names = λ name other new h. h }

pub Grows-trans : (xs ys : List (List ℕ)) (a b c : Draft) → Grows xs a b → Grows ys b c → Grows (xs ++ ys) a c
Grows-trans xs ys a b c p q = record {
  adds = Adds-trans a b c p.adds q.adds;
  instances = q.instances ∙ p.instances;
  ready = λ by free h. q.ready by free (p.ready by free h);
  registers = λ k h. q.registers k (p.registers k h);
  fresh = λ h. q.fresh (p.fresh h);
  names = λ name other new h. q.names name other (All-back (λ n. n ≢ name) xs ys new) (p.names name other (All-front (λ n. n ≢ name) xs ys new) h);
}

-- what closes over a draft leaves it ready
ready_closed : (by : Dependence) (a b : Draft) → Adds a b → Closes a b → AllReady by a → AllReady by b
ready_closed by a b adds closes all = closes.ready by b (Extends-refl b) (λ n lt. Ready-Extends by a b n adds.extends (all n lt))

pub Grows-Makes : (a b : Draft) → Makes a b → Grows [] a b
Grows-Makes a b m = record {
  adds = m.adds;
  instances = m.instances;
  ready = λ by free. ready_closed by a b m.adds m.closes;
  registers = m.closes.registers;
  fresh = m.fresh;
  names = λ name other new h. m.names name other h;
}

-- an input that was declared
abbrev input_of : List ℕ → ℕ → ModuleNet
input_of name width = record { name = name; width = width; role = role.Input }

ready_input : (by : Dependence) (a : Draft) (name : List ℕ) (width : ℕ) → LooksNowhere by → AllReady by a → AllReady by (with_net a name width role.Input)
ready_input by a name width free all n lt =
    let b : Draft = with_net a name width role.Input in
    let net : ModuleNet = input_of name width in
    let long : length (a.nets ++ net ∷ []) ≡ length a.nets + 1 = length-append a.nets (net ∷ []) in
    ⊎_elim
    (λ low. Ready-Extends by a b n (Adds-declare a net).extends (all n low))
    (λ high.
    let here : length a.nets ≡ n = omega arith in
    Ready-source by b n net (subst (λ k. slice_get (a.nets ++ net ∷ []) k ≡ Some net) here (get_end a.nets net)) tt (rw (free n) tt))
    (cases_lt n (length a.nets))

no_register : (name : List ℕ) (width : ℕ) (net : ModuleNet) → net ≡ input_of name width → net.role ≡ role.Register (reset_of net.role) → ⊥
no_register name width net same is = let r : role.Input ≡ role.Register 0 = subst (λ (x : ModuleNet). x.role ≡ role.Register (reset_of x.role)) same is in cc

pub Grows-input : (a : Draft) (name : List ℕ) (width : ℕ) → KeepsFresh name a (with_net a name width role.Input) → IsNotNumbered name → Grows (name ∷ []) a (with_net a name width role.Input)
Grows-input a name width fresh other = record {
  adds = Adds-declare a (input_of name width);
  instances = refl;
  ready = λ by free all. ready_input by a name width free all;
  registers = λ k h n net at is. ⊎_elim (λ there. h n net there is) (λ new. absurd (no_register name width net new.1 is)) (one_more_net a.nets (input_of name width) n net at);
  fresh = fresh other;
  names = λ name' other' new h. IsNew-made a.instances a.nets (input_of name width) name' new.0 h;
}

-- an output that was shown
pub Grows-show : (a b : Draft) (name : List ℕ) (width : ℕ) → Adds a b → Closes a b → b.instances ≡ a.instances → KeepsFresh name a b → IsNotNumbered name → b.nets ≡ (with_net a name width role.Output).nets → Grows (name ∷ []) a b
Grows-show a b name width adds closes instances fresh other nets = record {
  adds = adds;
  instances = instances;
  ready = λ by free. ready_closed by a b adds closes;
  registers = closes.registers;
  fresh = fresh other;
  names = λ name' other' new h.
      let net : ModuleNet = record { name = name; width = width; role = role.Output } in
      let there : IsNew name' (names_taken a.instances (a.nets ++ net ∷ [])) = IsNew-made a.instances a.nets net name' new.0 h in
      subst (λ l. IsNew name' (names_taken l b.nets)) (sym instances) (subst (λ l. IsNew name' (names_taken a.instances l)) (sym nets) there);
}

-- an input is a port more
pub ports_among-input : (nets : List ModuleNet) (name : List ℕ) (width : ℕ) → ports_among (nets ++ input_of name width ∷ []) ≡ ports_among nets ++ record { name = name; width = width; output = false } ∷ []
ports_among-input nets name width = filter_map-append (λ (net : ModuleNet). port_by net.role net) nets (input_of name width ∷ [])

-- The cells. ------------------------------------------------------------------------------------------------------------------

pub cell_there : (d : Draft) (file : File) (k : ℕ) → StartsWithCells d file → k < file.cells → slice_get d.nets k ≡ Some (cell_net file k)
cell_there d file k starts lt =
    let here : 0 + k ≡ k = omega arith in
    stays (cell_nets file file.cells) d.nets starts k (cell_net file k) (map_at (cell_net file) 0 file.cells k lt ∙ ap (λ n. Some (cell_net file n)) here)

pub starts_later : (a b : Draft) (file : File) → Extends a b → StartsWithCells a file → StartsWithCells b file
starts_later a b file e starts = let front = starts.1 in (starts.0 ++ (e.nets).0, (e.nets).1 ∙ ap (λ l. l ++ (e.nets).0) front ∙ append_assoc (cell_nets file file.cells) starts.0 (e.nets).0)

-- they are no ports
pub no_ports : (file : File) (a n : ℕ) → ports_among (map (cell_net file) (range_with_len a n)) ≡ []
no_ports file a zero = refl
no_ports file a (suc n) = no_ports file (a + 1) n

-- they are ready, and there are no other registers
pub cells_ready : (by : Dependence) (name : List ℕ) (file : File) (count : ℕ) → LooksNowhere by → AllReady by (with_cells name file count)
cells_ready by name file count free n lt =
    let long : length (cell_nets file count) ≡ count = length-map-range_with_len (cell_net file) 0 count in
    Ready-source by (with_cells name file count) n (cell_net file (0 + n)) (map_at (cell_net file) 0 count n (omega arith)) tt (rw (free n) tt)

pub cells_below : (name : List ℕ) (file : File) (count : ℕ) → RegistersBelow (with_cells name file count).nets count
cells_below name file count n net at is =
    let long : length (cell_nets file count) ≡ count = length-map-range_with_len (cell_net file) 0 count in
    let within : n < length (cell_nets file count) = slice_get_within (cell_nets file count) n net at in
    omega arith

-- names that are new stay so, where they aren't among those that came
pub new_after : (named names : List (List ℕ)) (a b : Draft) → Grows named a b → Each IsNotNumbered names → Each (λ name. IsNew name named) names → Each (λ name. IsNew name (names_of a)) names → Each (λ name. IsNew name (names_of b)) names
new_after named [] a b g other apart new = tt
new_after named (name ∷ names) a b g other apart new = (g.names name other.0 apart.0 new.0, new_after named names a b g other.1 apart.1 new.1)

-- an input under a name that is given in other words
pub input_is : (a b : Draft) (given name : List ℕ) (wide width : ℕ) → given ≡ name → wide ≡ width → b ≡ with_net a given wide role.Input → b ≡ with_net a name width role.Input
input_is a b given name wide width same_name same_width is = is ∙ (λ i. with_net a (same_name i) (same_width i) role.Input)

pub grows_input : (a b : Draft) (given name : List ℕ) (width : ℕ) → given ≡ name → b ≡ with_net a name width role.Input → KeepsFresh given a b → IsNotNumbered name → Grows (name ∷ []) a b
grows_input a b given name width same is fresh other =
    let kept : KeepsFresh name a b = subst (λ n. KeepsFresh n a b) same fresh in
    subst (Grows (name ∷ []) a) (sym is) (Grows-input a name width (subst (KeepsFresh name a) is kept) other)

-- a name stays new beside an input of another name
pub new_beside_input : (a b : Draft) (name other : List ℕ) (width : ℕ) → b ≡ with_net a name width role.Input → name ≢ other → IsNew other (names_of a) → IsNew other (names_of b)
new_beside_input a b name other width is ne new = subst (λ (d : Draft). IsNew other (names_of d)) (sym is) (IsNew-made a.instances a.nets (input_of name width) other ne new)

-- an input that was just declared is there
pub input_there : (a b : Draft) (name : List ℕ) (width : ℕ) (w : Wire) → b ≡ with_net a name width role.Input → w ≡ next_wire a width → slice_get b.nets w.number ≡ Some (input_net name width)
input_there a b name width w is wire_is =
    let number : w.number ≡ length a.nets = ap (λ (v : Wire). v.number) wire_is in
    ap (λ (d : Draft). slice_get d.nets w.number) is ∙ ap (slice_get (a.nets ++ input_net name width ∷ [])) number ∙ get_end a.nets (input_net name width)

-- the ports with it
pub input_shown : (a b : Draft) (name : List ℕ) (width : ℕ) → b ≡ with_net a name width role.Input → ports_among b.nets ≡ ports_among a.nets ++ record { name = name; width = width; output = false } ∷ []
input_shown a b name width is = ap (λ (d : Draft). ports_among d.nets) is ∙ ports_among-input a.nets name width
