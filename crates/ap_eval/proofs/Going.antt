-- One cycle of a netlist that is opened goes on from each state that fits.
use Rattle.std.proofs.Common.{◌≡◌, ℕ, suc, ◌+◌, ◌<◌, ◌^◌, List, [], ◌∷◌, ◌++◌, length, map, Option, Some, None, Bool, true, false, refl, sym, ap, subst, ◌∙◌, arith}
use Rattle.std.specs.Prelude.{slice_get, slice_index, unwrap_or, option_map, if◌then◌else◌}
use Rattle.std.specs.List.{AllByRecursion as Each}
use Rattle.std.proofs.lemmas.Option.{slice_get-map}
use Rattle.ap_image.specs.declared.trace.TraceLine.{TraceLine}
use Rattle.ap_image.specs.FitsShape.{LineFitsShape}
use Rattle.ap_net.specs.declared.net.Role.TheVariants as role
use Rattle.ap_net.specs.declared.net.ModuleNet.{ModuleNet}
use Rattle.ap_net.specs.declared.net.FlatNet.{FlatNet}
use Rattle.ap_net.specs.declared.net.Port.{Port}
use Rattle.ap_net.specs.declared.net.Next.{Next}
use Rattle.ap_net.specs.Wiring.{IsSource, NextFits, reset_of}
use Rattle.ap_net.specs.Modules.{port_net}
use Rattle.ap_net.specs.Flat.{Flat, Solves, IsOpenNetlist, value_named, plain_net, plain_nets, top_net}
use Rattle.ap_net.specs.Outside.{Outside, ports_of, shape_of, input_ports, mem_ports}
use Rattle.ap_net.specs.Registers.{held}
use Rattle.ap_net.specs.Runs.{NetState, Cycle, mems_after}
use Rattle.ap_net.specs.Sources.{Given, IsOrderedWith, LooksLower, Takes}
use Rattle.ap_net.specs.Answering.{first_mem_port, mem_gives, port_gives, StateFits}
use Rattle.ap_net.proofs.Lists.{All-from, All-back, Each-at, get_left, some_same}
use Rattle.ap_net.proofs.Parts.{net_of_width, width_at}
use Rattle.ap_net.proofs.Found.{names_are_found}
use Rattle.ap_net.proofs.Fits.{always_solvable, length-plain}
use Rattle.ap_net.proofs.Registers.{held_all, held_fits, after_fit}
use Rattle.ap_net.proofs.Answered.{PortsTake, taken_at, ports_take, ports_split, rest_take, behind, gives_agree, PortsNamed, named_from, PortsHave, have_from, inputs_are, named_behind, have_behind, mems_answer, mems_stay}
use Rattle.ap_flat.specs.Dependence.{Looks}
use Rattle.ap_flat.specs.Flats.{FlatParts, IsFlattened}
use Rattle.ap_eval.proofs.Ordering.{rank, ranked, looked, looks_below}

-- a number that is given, or another
pub given_fits : (width x : ℕ) (q : Option ℕ) → ((y : ℕ) → q ≡ Some y → y < 2 ^ width) → x < 2 ^ width → unwrap_or q x < 2 ^ width
given_fits width x None f g = g
given_fits width x (Some y) f g = f y refl

pub not_given : (x : ℕ) (q : Option ℕ) → ((y : ℕ) → q ≡ Some y → ⊥) → unwrap_or q x ≡ x
not_given x None f = refl
not_given x (Some y) f = absurd (f y refl)

-- a port is no register
pub no_register : (p : Port) (reset : ℕ) → (port_net p).role ≡ role.Register reset → ⊥
no_register p reset e = go p.output e
  where
    go : (b : Bool) → (if b then role.Output else role.Input) ≡ role.Register reset → ⊥
    go true e = cc
    go false e = cc

input_source : (b : Bool) → b ≡ false → IsSource (if b then role.Output else role.Input)
input_source true e = cc
input_source false e = tt

maps_agree : {X : Type 0} (P : X → Type 0) (f g : X → ℕ) → ((x : X) → P x → f x ≡ g x) → (xs : List X) → Each P xs → map f xs ≡ map g xs
maps_agree P f g h [] each = refl
maps_agree P f g h (x ∷ xs) each = (λ i. h x each.0 i ∷ maps_agree P f g h xs each.1 i)

module _ (f : FlatParts) (is : IsFlattened f) where
  abbrev pub o : Outside
  o = f.outside

  abbrev pub flat : Flat
  flat = f.net

  abbrev pub whole : IsOpenNetlist flat
  whole = is.opened

  abbrev pub nets : List ModuleNet
  nets = plain_nets flat.nets

  -- a port of the outside is the net of its number
  pub port_at : (n : ℕ) (p : Port) → slice_get (ports_of o) n ≡ Some p → slice_get flat.nets n ≡ Some (top_net (port_net p))
  port_at n p at =
      subst (λ (l : List FlatNet). slice_get l n ≡ Some (top_net (port_net p))) (sym is.ports.split)
      (get_left (map (λ (q : Port). top_net (port_net q)) (ports_of o)) is.ports.others n (top_net (port_net p))
      (slice_get-map (λ (q : Port). top_net (port_net q)) (ports_of o) n ∙ ap (option_map (λ (q : Port). top_net (port_net q))) at))

  pub whole_port : (n : ℕ) (p : Port) → slice_get (ports_of o) n ≡ Some p → slice_get nets n ≡ Some (port_net p)
  whole_port n p at = slice_get-map plain_net flat.nets n ∙ ap (option_map plain_net) (port_at n p at)

  pub port_named : (v : List ℕ) → length v ≡ length flat.nets → (n : ℕ) (p : Port) → slice_get (ports_of o) n ≡ Some p → value_named flat.nets v p.name ≡ slice_index v n
  port_named v long n p at = names_are_found flat.nets whole.names v long n (top_net (port_net p)) (port_at n p at)

  port_small : (v : List ℕ) → Solves flat v → (n : ℕ) (p : Port) → slice_get (ports_of o) n ≡ Some p → value_named flat.nets v p.name < 2 ^ p.width
  port_small v s n p at = subst (λ x. x < 2 ^ p.width) (sym (port_named v s.long n p at)) (s.settles.fits n p.width (width_at nets n (port_net p) (whole_port n p at)))

  -- the ports behind the first three
  abbrev pub rest : List Port
  rest = input_ports o.inputs ++ (mem_ports o.mems ++ behind o)

  behind_three : (i : ℕ) (p : Port) → slice_get rest i ≡ Some p → slice_get (ports_of o) (suc (suc (suc i))) ≡ Some p
  behind_three i p at = ap (λ (l : List Port). slice_get l (suc (suc (suc i)))) (ports_split o) ∙ at

  three : (i : ℕ) → suc (suc (suc i)) ≡ 3 + i
  three i = omega arith

  pub rest_named : (v : List ℕ) → length v ≡ length flat.nets → PortsNamed flat.nets v 3 rest
  rest_named v long = named_from flat.nets v rest 3 (λ i p at. port_named v long (suc (suc (suc i))) p (behind_three i p at) ∙ ap (slice_index v) (three i))

  pub small : (v : List ℕ) → Solves flat v → Each (λ (p : Port). value_named flat.nets v p.name < 2 ^ p.width) (mem_ports o.mems ++ behind o)
  small v s =
      let P : Port → Type 0 = λ p. value_named flat.nets v p.name < 2 ^ p.width in
      let all = subst (Each P) (ports_split o) (Each-at P (ports_of o) (λ n p at. port_small v s n p at)) in
      All-back P (input_ports o.inputs) (mem_ports o.mems ++ behind o) all.1.1.1

  module _ (code : List ℕ) (line : TraceLine) (old : NetState) (words : Each (λ word. word < 2 ^ o.word) code) (fits : LineFitsShape line (shape_of o)) (state : StateFits o flat old) where
    abbrev pub gives : (ℕ → ℕ) → List ℕ
    gives read = port_gives o code line old.mems read

    abbrev pub mem_part : (ℕ → ℕ) → List ℕ
    mem_part read = mem_gives read (first_mem_port o) o.mems old.mems

    pub take : (read : ℕ → ℕ) → PortsTake (ports_of o) (gives read)
    take read = ports_take o code line old.mems read words fits state.mems

    -- what ports and registers are given
    abbrev pub given : Given nets
    given = record {
      number = λ n read. unwrap_or (slice_get (gives read) n) (held flat.nexts old.registers n);
      fits = λ n net read at source. given_fits net.width (held flat.nexts old.registers n) (slice_get (gives read) n)
          (λ y there.
          let t = taken_at (ports_of o) (gives read) (take read) n y there in
          let same : port_net t.0 ≡ net = some_same (sym (whole_port n t.0 t.1) ∙ at) in
          subst (λ (x : ModuleNet). y < 2 ^ x.width) same t.2)
          (held_fits nets flat.nexts old.registers whole.registers state.registers n net at);
    }

    -- what a source is given depends on nets of lower rank
    pub looks_lower : LooksLower nets given (rank f is)
    looks_lower n net r s at source same =
        ap (λ q. unwrap_or q (held flat.nexts old.registers n)) (gives_agree o code line old.mems r s fits n (λ list there.
        All-from (λ k. Looks (ports_of o) n k) (λ k. r k ≡ s k) (λ k l. let low = looks_below f is n k l in same k (let e : length nets ≡ length flat.nets = length-plain flat.nets in let lt : k < length flat.nets = low.0 in omega arith) low.1)
        list (looked o is.outside.mems n list there)))

    abbrev pub ordered : IsOrderedWith flat given
    ordered = record { rank = rank f is; ranked = ranked f is; looks = looks_lower }

    module _ (v : List ℕ) (solves : Solves flat v) (takes : Takes nets given v) where
      at_register : (x : Next) → NextFits nets x → slice_index v x.register.number ≡ held flat.nexts old.registers x.register.number
      at_register x fit =
          let n : ℕ = x.register.number in
          let net = net_of_width nets n x.register.width fit.register.declared in
          let is : (net.0).role ≡ role.Register (reset_of (net.0).role) = fit.clocked net.0 net.1 in
          takes n net.0 net.1 (subst IsSource (sym is) tt)
          ∙ not_given (held flat.nexts old.registers n) (slice_get (gives (slice_index v)) n) (λ y there.
          let t = taken_at (ports_of o) (gives (slice_index v)) (take (slice_index v)) n y there in
          let same : port_net t.0 ≡ net.0 = some_same (sym (whole_port n t.0 t.1) ∙ net.1) in
          no_register t.0 (reset_of (net.0).role) (ap (λ (y : ModuleNet). y.role) same ∙ is))

      rest_have : PortsHave v 3 rest (line.ports ++ mem_part (slice_index v))
      rest_have = have_from v rest (line.ports ++ mem_part (slice_index v)) (rest_take o line old.mems (slice_index v) fits state.mems) 3 (λ i x p given_x at is.
          ap (slice_index v) (sym (three i)) ∙ takes (suc (suc (suc i))) (port_net p) (whole_port (suc (suc (suc i))) p (behind_three i p at)) (input_source p.output is)
          ∙ ap (λ q. unwrap_or q (held flat.nexts old.registers (suc (suc (suc i))))) given_x)

      abbrev pub new : NetState
      new = record { registers = map (λ (x : Next). slice_index v x.from.number) flat.nexts; mems = mems_after flat.nets v o.mems old.mems }

      pub cycle_on : Cycle o flat code line old v new
      cycle_on = record {
        solves = solves;
        registers = maps_agree (NextFits nets) (λ (x : Next). slice_index v x.register.number) (λ (x : Next). held flat.nexts old.registers x.register.number) at_register flat.nexts whole.registers
            ∙ held_all flat.nexts old.registers (whole.clocked).once state.registers;
        fetch = port_named v solves.long 1 _ refl ∙ takes 1 _ (whole_port 1 _ refl) tt ∙ ap (slice_index code) (sym (port_named v solves.long 0 _ refl));
        wait = port_named v solves.long 2 _ refl ∙ takes 2 _ (whole_port 2 _ refl) tt;
        inputs = inputs_are flat.nets v o.inputs line.ports 3 (mem_ports o.mems ++ behind o) (mem_part (slice_index v)) fits (rest_named v solves.long) rest_have;
        reads = mems_answer flat.nets v o.mems old.mems (first_mem_port o) (behind o) state.mems (named_behind flat.nets v o.inputs 3 (mem_ports o.mems ++ behind o) (rest_named v solves.long))
            (have_behind v o.inputs line.ports fits 3 (mem_ports o.mems ++ behind o) (mem_part (slice_index v)) rest_have);
        after = refl;
        writes = refl;
      }

      pub fits_on : StateFits o flat new
      fits_on = record { registers = after_fit flat v whole solves; mems = mems_stay flat.nets v o.mems old.mems (behind o) state.mems (small v solves) }

    -- there is a solution for what they are given
    pub solution : (v : List ℕ) × Solves flat v × Takes nets given v
    solution = always_solvable flat whole.flat given ordered
