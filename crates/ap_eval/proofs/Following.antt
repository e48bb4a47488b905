-- From a state of an opened netlist there is one cycle on a line: so a bench goes through the states of each run.
use Rattle.std.proofs.Common.{◌≡◌, ℕ, zero, suc, ◌+◌, ◌%◌, ◌<◌, ◌≤◌, ◌^◌, ◌⊎◌, inl, inr, List, [], ◌∷◌, ◌++◌, length, map, Option, Some, None, Bool, true, false, refl, sym, ap, subst, ◌∙◌, arith}
use Rattle.std.specs.Prelude.{codes, slice_get, slice_index, option_map, unwrap_or, if◌then◌else◌}
use Rattle.std.specs.List.{AllByRecursion as Each}
use Rattle.std.proofs.Math.Nat.{mod-eq_of_lt}
use Rattle.std.proofs.lemmas.Nat.{mod_below, pow_pos}
use Rattle.std.proofs.lemmas.List.{length-append}
use Rattle.std.proofs.lemmas.Option.{slice_get-map, slice_get_within}
use Rattle.ap_image.specs.declared.shape.MemShape.{MemShape}
use Rattle.ap_image.specs.declared.trace.TraceLine.{TraceLine}
use Rattle.ap_image.specs.FitsShape.{LineFitsShape, ValuesFit, line_at}
use Rattle.ap_net.specs.declared.net.FlatNet.{FlatNet}
use Rattle.ap_net.specs.declared.net.ModuleNet.{ModuleNet}
use Rattle.ap_net.specs.declared.net.Next.{Next}
use Rattle.ap_net.specs.declared.net.Port.{Port}
use Rattle.ap_net.specs.declared.net.Role.{Role}
use Rattle.ap_net.specs.declared.net.Role.TheVariants as role
use Rattle.ap_net.specs.Answering.{first_mem_port, mem_gives, port_gives}
use Rattle.ap_net.specs.Flat.{Flat, plain_net, plain_nets, top_net, value_named}
use Rattle.ap_net.specs.Modules.{port_net}
use Rattle.ap_net.specs.Outside.{InPort, Outside, input_ports, mem_name, mem_ports, output, ports_of, shape_of}
use Rattle.ap_net.specs.Registers.{held}
use Rattle.ap_net.specs.Rows.{shown_row}
use Rattle.ap_net.specs.Runs.{Cycle, InputsAre, MemsAnswer, NetState, mems_after}
use Rattle.ap_net.specs.Sources.{Given, IsOrderedWith, Takes}
use Rattle.ap_net.specs.Wiring.{IsSource, Unclocked}
use Rattle.ap_net.proofs.Answered.{PortsNamed, behind, gives_agree, named_behind, ports_split}
use Rattle.ap_net.proofs.Finished.{unmapped}
use Rattle.ap_net.proofs.Fits.{length-plain}
use Rattle.ap_net.proofs.Lists.{All-from, Each-at, get_either, some_same}
use Rattle.ap_net.proofs.Parts.{width_at}
use Rattle.ap_net.proofs.Unique.{solved_once}
use Rattle.ap_flat.specs.Dependence.{Looks}
use Rattle.ap_flat.specs.Flats.{FlatParts, IsFlattened}
use Rattle.ap_eval.specs.Benches.{StepsInRuns}
use Rattle.ap_eval.proofs.Beginning.{behind_out, some_in}
use Rattle.ap_eval.proofs.Edge.{held_read}
use Rattle.ap_eval.proofs.Going.{no_register, not_given, port_named, rest_named, whole_port}
use Rattle.ap_eval.proofs.Ordering.{looked, looks_below, rank, ranked}

-- What a cycle gives to ports. ---------------------------------------------------------------------------------------------

-- an output is no input
leaves : {X : Type 0} (q p : Port) → q ≡ p → q.output ≡ true → p.output ≡ false → X
leaves q p same out is = let e : q.output ≡ p.output = ap (λ (x : Port). x.output) same in cc

-- at an input of a memory stands the word that the memory has there
mems_given : (nets : List FlatNet) (v : List ℕ) (ms : List MemShape) (mems : List (List ℕ)) (n : ℕ) (rest : List Port)
    → ((i : ℕ) (p : Port) → slice_get rest i ≡ Some p → p.output ≡ true)
    → PortsNamed nets v n (mem_ports ms ++ rest) → MemsAnswer nets v ms mems
    → (i : ℕ) (p : Port) → slice_get (mem_ports ms ++ rest) i ≡ Some p → p.output ≡ false
    → slice_get (mem_gives (slice_index v) n ms mems) i ≡ Some (slice_index v (n + i))
mems_given nets v [] mems n rest leave named answer i p at is = let out : p.output ≡ true = leave i p at in cc
mems_given nets v (m ∷ ms) [] n rest leave named answer i p at is = absurd answer
mems_given nets v (m ∷ ms) (words ∷ mems) n rest leave named answer zero p at is =
    leaves (output (mem_name m (codes "ra")) m.address) p (some_same at) refl is
mems_given nets v (m ∷ ms) (words ∷ mems) n rest leave named answer (suc zero) p at is =
    let next : suc n ≡ n + suc zero = omega arith in
    ap Some (ap (slice_index words) (sym named.0) ∙ sym answer.0 ∙ named.1.0 ∙ ap (slice_index v) next)
mems_given nets v (m ∷ ms) (words ∷ mems) n rest leave named answer (suc (suc zero)) p at is =
    leaves (output (mem_name m (codes "we")) 1) p (some_same at) refl is
mems_given nets v (m ∷ ms) (words ∷ mems) n rest leave named answer (suc (suc (suc zero))) p at is =
    leaves (output (mem_name m (codes "wa")) m.address) p (some_same at) refl is
mems_given nets v (m ∷ ms) (words ∷ mems) n rest leave named answer (suc (suc (suc (suc zero)))) p at is =
    leaves (output (mem_name m (codes "wd")) m.width) p (some_same at) refl is
mems_given nets v (m ∷ ms) (words ∷ mems) n rest leave named answer (suc (suc (suc (suc (suc i))))) p at is =
    let five : suc (suc (suc (suc (suc n)))) ≡ n + 5 = omega arith in
    let same : n + 5 + i ≡ n + suc (suc (suc (suc (suc i)))) = omega arith in
    let behind_five = subst (λ k. PortsNamed nets v k (mem_ports ms ++ rest)) five named.1.1.1.1.1 in
    mems_given nets v ms mems (n + 5) rest leave behind_five answer.1 i p at is ∙ ap (λ k. Some (slice_index v k)) same

-- and at an input of the description its value
inputs_given : (nets : List FlatNet) (v : List ℕ) (ps : List InPort) (values : List ℕ) (n : ℕ) (rest : List Port) (more : List ℕ)
    → ValuesFit values (map (λ (p : InPort). p.width) ps)
    → PortsNamed nets v n (input_ports ps ++ rest) → InputsAre nets v ps values
    → ((i : ℕ) (p : Port) → slice_get rest i ≡ Some p → p.output ≡ false → slice_get more i ≡ Some (slice_index v (n + length ps + i)))
    → (i : ℕ) (p : Port) → slice_get (input_ports ps ++ rest) i ≡ Some p → p.output ≡ false
    → slice_get (values ++ more) i ≡ Some (slice_index v (n + i))
inputs_given nets v [] [] n rest more fits named are after i p at is =
    after i p at is ∙ ap (λ k. Some (slice_index v k)) (let e : n + 0 + i ≡ n + i = omega arith in e)
inputs_given nets v [] (x ∷ values) n rest more fits named are after i p at is = absurd fits
inputs_given nets v (q ∷ ps) [] n rest more fits named are after i p at is = absurd fits
inputs_given nets v (q ∷ ps) (x ∷ values) n rest more fits named are after zero p at is =
    ap Some (sym are.0 ∙ named.0 ∙ ap (slice_index v) (let e : n ≡ n + zero = omega arith in e))
inputs_given nets v (q ∷ ps) (x ∷ values) n rest more fits named are after (suc i) p at is =
    inputs_given nets v ps values (suc n) rest more fits.1 named.1 are.1 (λ j r there enters.
    let e : n + suc (length ps) + j ≡ suc n + length ps + j = omega arith in
    after j r there enters ∙ ap (λ k. Some (slice_index v k)) e) i p at is
    ∙ ap (λ k. Some (slice_index v k)) (let e : suc n + i ≡ n + suc i = omega arith in e)

-- the values that inputs take
abbrev first_of : List InPort → List ℕ → List ℕ
first_of [] values = []
first_of (p ∷ ps) [] = []
first_of (p ∷ ps) (x ∷ values) = x ∷ first_of ps values

-- they fit
inputs_fit : (nets : List FlatNet) (v : List ℕ) (ps : List InPort) (values : List ℕ) (rest : List Port)
    → Each (λ (p : Port). value_named nets v p.name < 2 ^ p.width) (input_ports ps ++ rest) → InputsAre nets v ps values
    → ValuesFit (first_of ps values) (map (λ (p : InPort). p.width) ps)
inputs_fit nets v [] values rest small are = tt
inputs_fit nets v (p ∷ ps) [] rest small are = absurd are
inputs_fit nets v (p ∷ ps) (x ∷ values) rest small are =
    (subst (λ y. y < 2 ^ p.width) are.0 small.0, inputs_fit nets v ps values rest small.1 are.1)

inputs_taken : (nets : List FlatNet) (v : List ℕ) (ps : List InPort) (values : List ℕ) → InputsAre nets v ps values
    → InputsAre nets v ps (first_of ps values)
inputs_taken nets v [] values are = tt
inputs_taken nets v (p ∷ ps) [] are = absurd are
inputs_taken nets v (p ∷ ps) (x ∷ values) are = (are.0, inputs_taken nets v ps values are.1)

-- no more ports are given something than there are
mems_short : (read : ℕ → ℕ) (ms : List MemShape) (mems : List (List ℕ)) (n : ℕ) (rest : List Port)
    → length (mem_gives read n ms mems) ≤ length (mem_ports ms ++ rest)
mems_short read [] mems n rest = omega arith
mems_short read (m ∷ ms) [] n rest = omega arith
mems_short read (m ∷ ms) (words ∷ mems) n rest =
    let e : length (mem_gives read (n + 5) ms mems) ≤ length (mem_ports ms ++ rest) = mems_short read ms mems (n + 5) rest in omega arith

inputs_short : (ps : List InPort) (values : List ℕ) (rest : List Port) (more : List ℕ) → length more ≤ length rest
    → length (first_of ps values ++ more) ≤ length (input_ports ps ++ rest)
inputs_short [] values rest more le = le
inputs_short (p ∷ ps) [] rest more le =
    let e : length (input_ports ps ++ rest) ≡ length (input_ports ps) + length rest = length-append (input_ports ps) rest in omega arith
inputs_short (p ∷ ps) (x ∷ values) rest more le =
    let e : length (first_of ps values ++ more) ≤ length (input_ports ps ++ rest) = inputs_short ps values rest more le in omega arith

-- the bits of a net
abbrev bits_of : Option ModuleNet → ℕ
bits_of None = 0
bits_of (Some net) = net.width

-- One cycle. ---------------------------------------------------------------------------------------------------------------

module _ (f : FlatParts) (is : IsFlattened f) (code : List ℕ) (line : TraceLine) (old : NetState) where
  abbrev o : Outside
  o = f.outside

  abbrev flat : Flat
  flat = f.net

  abbrev nets : List ModuleNet
  nets = plain_nets flat.nets

  abbrev rest : List Port
  rest = input_ports o.inputs ++ (mem_ports o.mems ++ behind o)

  abbrev later : List Port
  later = mem_ports o.mems ++ behind o

  abbrev top : Port → FlatNet
  top q = top_net (port_net q)

  -- the line without the values that no port takes
  abbrev cut : TraceLine
  cut = record { wait = line.wait; ports = first_of o.inputs line.ports }

  abbrev mem_part : (ℕ → ℕ) → List ℕ
  mem_part read = mem_gives read (first_mem_port o) o.mems old.mems

  abbrev gives : (ℕ → ℕ) → List ℕ
  gives read = port_gives o code cut old.mems read

  -- what a port or register has
  abbrev had : ℕ → (ℕ → ℕ) → ℕ
  had n read = unwrap_or (slice_get (gives read) n) (held flat.nexts old.registers n)

  few_given : (read : ℕ → ℕ) → length (gives read) ≤ length (ports_of o)
  few_given read =
      let more = mems_short read o.mems old.mems (first_mem_port o) (behind o) in
      let e : length (cut.ports ++ mem_part read) ≤ length rest = inputs_short o.inputs line.ports later (mem_part read) more in
      let all : length (ports_of o) ≡ suc (suc (suc (length rest))) = ap length (ports_split o) in
      let own : length (gives read) ≡ suc (suc (suc (length (cut.ports ++ mem_part read)))) = refl in
      omega arith

  plain_at : (n : ℕ) (net : FlatNet) → slice_get flat.nets n ≡ Some net → slice_get nets n ≡ Some (plain_net net)
  plain_at n net at = slice_get-map plain_net flat.nets n ∙ ap (option_map plain_net) at

  -- an input is a port
  input_port : (n : ℕ) (net : FlatNet) → slice_get flat.nets n ≡ Some net → net.role ≡ role.Input
      → (p : Port) × (slice_get (ports_of o) n ≡ Some p) × (p.output ≡ false)
  input_port n net at enters =
      go (get_either (map top (ports_of o)) is.ports.others n net (subst (λ (l : List FlatNet). slice_get l n ≡ Some net) is.ports.split at))
    where
      out_of : (b : Bool) → (if b then role.Output else role.Input) ≡ role.Input → b ≡ false
      out_of true e = cc
      out_of false e = refl

      go : (slice_get (map top (ports_of o)) n ≡ Some net) ⊎ ((i : ℕ) × (n ≡ length (map top (ports_of o)) + i) × (slice_get is.ports.others i ≡ Some net))
          → (p : Port) × (slice_get (ports_of o) n ≡ Some p) × (p.output ≡ false)
      go (inl here) = let p = unmapped top (ports_of o) n net here in (p.0, p.1, out_of (p.0).output (ap (λ (x : FlatNet). x.role) p.2 ∙ enters))
      go (inr past) = absurd (is.ports.within past.0 net past.2 enters)

  module _ (v : List ℕ) (new : NetState) (c : Cycle o flat code line old v new) where
    port_small : (n : ℕ) (p : Port) → slice_get (ports_of o) n ≡ Some p → value_named flat.nets v p.name < 2 ^ p.width
    port_small n p at =
        let wide = width_at nets n (port_net p) (whole_port f is n p at) in
        subst (λ x. x < 2 ^ p.width) (sym (port_named f is v c.solves.long n p at)) (c.solves.settles.fits n p.width wide)

    cut_fits : LineFitsShape cut (shape_of o)
    cut_fits =
        let IsSmall : Port → Type 0 = λ p. value_named flat.nets v p.name < 2 ^ p.width in
        let all = subst (Each IsSmall) (ports_split o) (Each-at IsSmall (ports_of o) port_small) in
        inputs_fit flat.nets v o.inputs line.ports later all.1.1.1 c.inputs

    mems_have : (i : ℕ) (p : Port) → slice_get later i ≡ Some p → p.output ≡ false
        → slice_get (mem_part (slice_index v)) i ≡ Some (slice_index v (first_mem_port o + i))
    mems_have =
        let named = named_behind flat.nets v o.inputs 3 later (rest_named f is v c.solves.long) in
        mems_given flat.nets v o.mems old.mems (first_mem_port o) (behind o) (behind_out o) named c.reads

    rest_has : (i : ℕ) (p : Port) → slice_get rest i ≡ Some p → p.output ≡ false
        → slice_get (cut.ports ++ mem_part (slice_index v)) i ≡ Some (slice_index v (3 + i))
    rest_has = inputs_given flat.nets v o.inputs cut.ports 3 later (mem_part (slice_index v)) cut_fits (rest_named f is v c.solves.long)
        (inputs_taken flat.nets v o.inputs line.ports c.inputs) mems_have

    -- an input has what it is given
    input_has : (n : ℕ) (p : Port) → slice_get (ports_of o) n ≡ Some p → p.output ≡ false → had n (slice_index v) ≡ slice_index v n
    input_has zero p at is_in = leaves (output (codes "iaddr") o.address) p (some_same at) refl is_in
    input_has (suc zero) p at is_in =
        ap (slice_index code) (sym (port_named f is v c.solves.long 0 _ refl)) ∙ sym c.fetch ∙ port_named f is v c.solves.long 1 _ refl
    input_has (suc (suc zero)) p at is_in = sym c.wait ∙ port_named f is v c.solves.long 2 _ refl
    input_has (suc (suc (suc i))) p at is_in =
        let three : 3 + i ≡ suc (suc (suc i)) = omega arith in
        let there : slice_get rest i ≡ Some p = ap (λ (l : List Port). slice_get l (suc (suc (suc i)))) (sym (ports_split o)) ∙ at in
        ap (λ q. unwrap_or q (held flat.nexts old.registers (suc (suc (suc i))))) (rest_has i p there is_in) ∙ ap (slice_index v) three

    -- and a register what it holds
    register_has : (n : ℕ) (net : FlatNet) (reset : ℕ) → slice_get flat.nets n ≡ Some net → net.role ≡ role.Register reset
        → had n (slice_index v) ≡ slice_index v n
    register_has n net reset at is_reg =
        not_given (held flat.nexts old.registers n) (slice_get (gives (slice_index v)) n) no_port ∙ go (held_read (slice_index v) flat.nexts n)
      where
        no_port : (y : ℕ) → slice_get (gives (slice_index v)) n ≡ Some y → ⊥
        no_port y there =
            let few : length (gives (slice_index v)) ≤ length (ports_of o) = few_given (slice_index v) in
            let lt : n < length (gives (slice_index v)) = slice_get_within (gives (slice_index v)) n y there in
            let p = some_in (ports_of o) n (omega arith) in
            let same : port_net p.0 ≡ plain_net net = some_same (sym (whole_port f is n p.0 p.1) ∙ plain_at n net at) in
            no_register p.0 reset (ap (λ (x : ModuleNet). x.role) same ∙ is_reg)

        go : (held flat.nexts (map (λ (x : Next). slice_index v x.register.number) flat.nexts) n ≡ slice_index v n)
            ⊎ (Unclocked flat.nexts n × ((r : List ℕ) → held flat.nexts r n ≡ 0)) → held flat.nexts old.registers n ≡ slice_index v n
        go (inl e) = ap (λ r. held flat.nexts r n) (sym c.registers) ∙ e
        go (inr free) = absurd (is.clocked n net reset at is_reg free.0)

    source_has : (n : ℕ) (net : FlatNet) → slice_get flat.nets n ≡ Some net → IsSource net.role → had n (slice_index v) ≡ slice_index v n
    source_has n net at source = go net.role refl source
      where
        go : (r : Role) → net.role ≡ r → IsSource r → had n (slice_index v) ≡ slice_index v n
        go role.Input e s = let p = input_port n net at e in input_has n p.0 p.1 p.2
        go role.Output e s = absurd s
        go role.Plain e s = absurd s
        go (role.Register reset) e s = register_has n net reset at e

  -- what a source is given: cut to its bits, so that it always fits
  abbrev given : Given nets
  given = record {
    number = λ n read. had n read % 2 ^ bits_of (slice_get nets n);
    fits = λ n net read at source.
        subst (λ q. had n read % 2 ^ bits_of q < 2 ^ net.width) (sym at) (mod_below (had n read) (2 ^ net.width) (pow_pos net.width));
  }

  -- it depends on nets of lower rank alone
  ordered : LineFitsShape cut (shape_of o) → IsOrderedWith flat given
  ordered fits = record {
    rank = rank f is;
    ranked = ranked f is;
    looks = λ n net r s at source same.
        ap (λ q. unwrap_or q (held flat.nexts old.registers n) % 2 ^ bits_of (slice_get nets n)) (gives_agree o code cut old.mems r s fits n (λ list there.
        All-from (λ k. Looks (ports_of o) n k) (λ k. r k ≡ s k) (λ k l.
        let low = looks_below f is n k l in
        let long : length nets ≡ length flat.nets = length-plain flat.nets in
        let lt : k < length flat.nets = low.0 in
        same k (omega arith) low.1) list (looked o is.outside.mems n list there)));
  }

  -- in each cycle sources take it
  takes : (v : List ℕ) (new : NetState) → Cycle o flat code line old v new → Takes nets given v
  takes v new c n net at source =
      let x = unmapped plain_net flat.nets n net at in
      let own : IsSource (x.0).role = subst (λ (y : ModuleNet). IsSource y.role) (sym x.2) source in
      let has : had n (slice_index v) ≡ slice_index v n = source_has v new c n x.0 x.1 own in
      let small : slice_index v n < 2 ^ net.width = c.solves.settles.fits n net.width (width_at nets n net at) in
      sym (ap (λ y. y % 2 ^ bits_of (slice_get nets n)) has ∙ ap (λ q. slice_index v n % 2 ^ bits_of q) at ∙ mod-eq_of_lt small)

  -- the state after a cycle is that which its solution gives
  abbrev after_by : List ℕ → NetState
  after_by v = record { registers = map (λ (x : Next). slice_index v x.from.number) flat.nexts; mems = mems_after flat.nets v o.mems old.mems }

  after_is : (v : List ℕ) (new : NetState) → Cycle o flat code line old v new → new ≡ after_by v
  after_is v new c = λ i. record { registers = c.after i; mems = c.writes i }

  -- so two cycles are one
  pub one_cycle : (u v : List ℕ) (a b : NetState) → Cycle o flat code line old u a → Cycle o flat code line old v b → (u ≡ v) × (a ≡ b)
  one_cycle u v a b cu cv =
      let order = ordered (cut_fits u a cu) in
      let same : u ≡ v = solved_once flat is.opened.driven given order u v cu.solves cv.solves (takes u a cu) (takes v b cv) in (
        same,
        after_is u a cu ∙ ap after_by same ∙ sym (after_is v b cv),
      )

-- A bench. -----------------------------------------------------------------------------------------------------------------

pub bench_steps : StepsInRuns
bench_steps f is image trace c m states valuations runs lt old new stands s =
    let line : TraceLine = line_at trace (shape_of f.outside).inputs m in
    let moved : Cycle f.outside f.net image.code line (states m) s.solution new.state =
    subst (λ (q : NetState). Cycle f.outside f.net image.code line q s.solution new.state) stands.state_is
    (subst (λ (code : List ℕ). Cycle f.outside f.net code line old.state s.solution new.state) stands.code_is
    (subst (λ (g : FlatParts). Cycle g.outside g.net old.code line old.state s.solution new.state) stands.flat_is s.cycle)) in
    let one = one_cycle f is image.code line (states m) s.solution (valuations m) new.state (states (m + 1)) moved (runs.goes m lt) in
    record {
      flat_is = s.flat ∙ stands.flat_is;
      code_is = s.code ∙ stands.code_is;
      state_is = one.1;
      row_is = λ j e.
          let same : m ≡ j = omega arith in
          s.row ∙ ap (λ (g : FlatParts). shown_row g.outside g.net s.solution) stands.flat_is
          ∙ ap (shown_row f.outside f.net) (one.0 ∙ ap valuations same);
    }
