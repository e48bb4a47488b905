-- Before the operations of a cycle the nets that have none have their values in the cycle's solution, and memories answer.
use Rattle.std.proofs.Common.{◌≡◌, ◌≢◌, ℕ, zero, suc, ◌+◌, ◌-◌, ◌*◌, ◌<◌, ◌≤◌, ◌⊎◌, inl, inr, List, [], ◌∷◌, ◌++◌, length, map, Option, Some, None, Bool, true, false, refl, sym, ap, subst, ◌∙◌, arith, set}
use Rattle.std.specs.Prelude.{codes, slice_get, slice_index, unwrap_or, option_map, if◌then◌else◌}
use Rattle.std.specs.List.{AllByRecursion as Each}
use Rattle.std.proofs.lemmas.Bool.{cases_lt}
use Rattle.std.proofs.lemmas.List.{get_or-set_same, get_or-set_other, length-set, length-map}
use Rattle.std.proofs.lemmas.Option.{slice_get-map, slice_get_within}
use Rattle.ap_image.specs.declared.trace.TraceLine.{TraceLine}
use Rattle.ap_image.specs.FitsShape.{LineFitsShape, ValuesFit}
use Rattle.ap_net.specs.declared.cell.Cell.{Cell}
use Rattle.ap_net.specs.declared.cell.Cell.TheVariants as cell
use Rattle.ap_net.specs.declared.net.Assign.{Assign}
use Rattle.ap_net.specs.declared.net.ModuleNet.{ModuleNet}
use Rattle.ap_net.specs.declared.net.FlatNet.{FlatNet}
use Rattle.ap_net.specs.declared.net.Port.{Port}
use Rattle.ap_net.specs.declared.net.Role.{Role}
use Rattle.ap_net.specs.declared.net.Role.TheVariants as role
use Rattle.ap_net.specs.Wiring.{IsFree, IsSource}
use Rattle.ap_net.specs.Modules.{port_net}
use Rattle.ap_net.specs.Flat.{Solves, equations, plain_net, plain_nets, top_net}
use Rattle.ap_net.specs.Outside.{Outside, InPort, Group, FilePort, input, input_name, output, input_ports, mem_ports, group_ports, group_name, index_port, mem_name, ports_of, shape_of}
use Rattle.ap_net.specs.Registers.{held}
use Rattle.ap_net.specs.Runs.{NetState, bit}
use Rattle.ap_net.specs.Sources.{Takes}
use Rattle.ap_net.specs.Answering.{first_mem_port, mem_gives, mem_looks, port_looks}
use Rattle.ap_net.proofs.Lists.{All-at, Each-at, get_left, get_right, get_either, some_same}
use Rattle.ap_net.proofs.Answered.{behind, ports_split, taken_at}
use Rattle.ap_flat.specs.Flats.{FlatParts, IsFlattened}
use Rattle.ap_flat.specs.declared.driver.Driver.{Driver}
use Rattle.ap_flat.specs.declared.driver.Driver.TheVariants as driver
use Rattle.ap_flat.proofs.Looking.{port_low}
use Rattle.ap_eval.specs.Cells.{Cells, first_words, other_words, words_of, word_in}
use Rattle.ap_eval.specs.Ops.{AreRoots, load_of, memory_at, computed, ops_of, net_shape, driver_shape, cell_shape, put_from, shape_of_net, width_of, with_inputs}
use Rattle.ap_eval.specs.BenchViews.{IsReady, net_state}
use Rattle.ap_eval.proofs.Ordering.{looked, looks_below, rank}
use Rattle.ap_eval.proofs.Going.{given, gives, take, not_given, no_register, whole_port}
use Rattle.ap_eval.proofs.Computing.{AllAnswer, Answers, all_computed, Done, driver_at, equation, holds, memory_of, operand_lower, stands_low}
use Rattle.ap_eval.proofs.MemoryPorts.{IsData, gives_word, input_is_second, looks_first, memory_found, memory_port, mems_long, second, second_is, second_port}

pub put_from-length : (n : ℕ) (xs values : List ℕ) → length (put_from n xs values) ≡ length values
put_from-length n [] values = refl
put_from-length n (x ∷ xs) values = put_from-length (n + 1) xs (set values n x) ∙ length-set values n x

pub put_from-other : (n : ℕ) (xs values : List ℕ) (m : ℕ) → (m < n) ⊎ (n + length xs ≤ m) → slice_index (put_from n xs values) m ≡ slice_index values m
put_from-other n [] values m away = refl
put_from-other n (x ∷ xs) values m (inl low) = put_from-other (n + 1) xs (set values n x) m (inl (omega arith)) ∙ get_or-set_other values n m x 0 (λ e. absurd (omega arith))
put_from-other n (x ∷ xs) values m (inr high) = put_from-other (n + 1) xs (set values n x) m (inr (omega arith)) ∙ get_or-set_other values n m x 0 (λ e. absurd (omega arith))

pub put_from-at : (n : ℕ) (xs values : List ℕ) (i x : ℕ) → n + length xs ≤ length values → slice_get xs i ≡ Some x → slice_index (put_from n xs values) (n + i) ≡ x
put_from-at n [] values i x room at = cc
put_from-at n (y ∷ xs) values zero x room at =
    let e : n + 0 ≡ n = omega arith in
    let same : y ≡ x = cc in
    ap (slice_index (put_from (n + 1) xs (set values n y))) e ∙ put_from-other (n + 1) xs (set values n y) n (inl (omega arith)) ∙ get_or-set_same values n y 0 (omega arith) ∙ same
put_from-at n (y ∷ xs) values (suc i) x room at =
    let e : n + suc i ≡ n + 1 + i = omega arith in
    let l : length (set values n y) ≡ length values = length-set values n y in
    ap (slice_index (put_from (n + 1) xs (set values n y))) e ∙ put_from-at (n + 1) xs (set values n y) i x (omega arith) at

-- the ports behind the memories are outputs
groups_out : (groups : List Group) → Each (λ (p : Port). p.output ≡ true) (group_ports groups)
groups_out [] = tt
groups_out (g ∷ groups) = go g.port (groups_out groups)
  where
    go : (q : Option FilePort) → Each (λ (p : Port). p.output ≡ true) (group_ports groups) → Each (λ (p : Port). p.output ≡ true) ((output (group_name g (codes "e")) 1 ∷ index_port g q) ++ output (group_name g (codes "v")) g.width ∷ group_ports groups)
    go None rest = (refl, (refl, rest))
    go (Some file) rest = (refl, (refl, (refl, rest)))

pub behind_out : (o : Outside) (i : ℕ) (p : Port) → slice_get (behind o) i ≡ Some p → p.output ≡ true
behind_out o i p at = All-at (λ (q : Port). q.output ≡ true) (behind o) i p (refl, (refl, groups_out o.groups)) at

values_long : (values : List ℕ) (ps : List InPort) → ValuesFit values (map (λ (p : InPort). p.width) ps) → length values ≡ length ps
values_long [] [] h = refl
values_long [] (p ∷ ps) h = absurd h
values_long (x ∷ values) [] h = absurd h
values_long (x ∷ values) (p ∷ ps) h = ap suc (values_long values ps h.1)

inputs_in : (ps : List InPort) (i : ℕ) (p : Port) → slice_get (input_ports ps) i ≡ Some p → p.output ≡ false
inputs_in [] i p at = cc
inputs_in (q ∷ ps) zero p at = let same : input (input_name q) q.width ≡ p = some_same at in ap (λ (x : Port). x.output) (sym same)
inputs_in (q ∷ ps) (suc i) p at = inputs_in ps i p at

inputs_long : (ps : List InPort) → length (input_ports ps) ≡ length ps
inputs_long [] = refl
inputs_long (p ∷ ps) = ap suc (inputs_long ps)

pub some_in : {X : Type 0} (xs : List X) (n : ℕ) → n < length xs → (x : X) × (slice_get xs n ≡ Some x)
some_in [] n lt = absurd (omega arith)
some_in (x ∷ xs) zero lt = (x, refl)
some_in (x ∷ xs) (suc n) lt = some_in xs n (omega arith)

-- the words of the memories as they are loaded
word_at : (cells : List Cells) (k : ℕ) (words : List ℕ) → slice_get (other_words (words_of cells)) k ≡ Some words → (a : ℕ) → load_of cells (suc k) a ≡ slice_index words a
word_at [] k words at a = cc
word_at (c ∷ cells) k words at a = among cells k at
  where
    among : (cells : List Cells) (k : ℕ) → slice_get (words_of cells) k ≡ Some words → word_in (slice_get cells k) a ≡ slice_index words a
    among [] k at = cc
    among (c ∷ cells) zero at = let same : c.words ≡ words = cc in ap (λ (l : List ℕ). slice_index l a) same
    among (c ∷ cells) (suc k) at = among cells k at

code_word : (cells : List Cells) (a : ℕ) → load_of cells 0 a ≡ slice_index (first_words (words_of cells)) a
code_word [] a = refl
code_word (c ∷ cells) a = refl

abbrev the_list : List ℕ
the_list = []

module _ (f : FlatParts) (is : IsFlattened f) where
  abbrev o : Outside
  o = f.outside

  abbrev nets : List ModuleNet
  nets = plain_nets f.net.nets

  abbrev count : ℕ
  count = length f.net.nets

  pub port_count : (n : ℕ) (p : Port) → slice_get (ports_of o) n ≡ Some p → n < count
  port_count n p at = port_low (ports_of o) f.net.nets is.ports n p at

  -- an input is a port
  input_port : (n : ℕ) (net : FlatNet) → slice_get f.net.nets n ≡ Some net → net.role ≡ role.Input → (p : Port) × (slice_get (ports_of o) n ≡ Some p) × (p.output ≡ false)
  input_port n net at enters = go (get_either (map (λ (q : Port). top_net (port_net q)) (ports_of o)) is.ports.others n net (subst (λ (l : List FlatNet). slice_get l n ≡ Some net) is.ports.split at))
    where
      out_of : (b : Bool) → (if b then role.Output else role.Input) ≡ role.Input → b ≡ false
      out_of true e = cc
      out_of false e = refl

      at_first : (q : Option Port) → slice_get (ports_of o) n ≡ q → option_map (λ (q : Port). top_net (port_net q)) q ≡ Some net → (p : Port) × (slice_get (ports_of o) n ≡ Some p) × (p.output ≡ false)
      at_first None there e = cc
      at_first (Some p) there e = (p, there, out_of p.output (let same : top_net (port_net p) ≡ net = some_same e in ap (λ (x : FlatNet). x.role) same ∙ enters))

      go : (slice_get (map (λ (q : Port). top_net (port_net q)) (ports_of o)) n ≡ Some net) ⊎ ((i : ℕ) × (n ≡ length (map (λ (q : Port). top_net (port_net q)) (ports_of o)) + i) × (slice_get is.ports.others i ≡ Some net)) → (p : Port) × (slice_get (ports_of o) n ≡ Some p) × (p.output ≡ false)
      go (inl here) = at_first (slice_get (ports_of o) n) refl (sym (slice_get-map (λ (q : Port). top_net (port_net q)) (ports_of o) n) ∙ here)
      go (inr past) = absurd (is.ports.within past.0 net past.2 enters)

  -- no equation drives a source
  pub source_free : (n : ℕ) (net : ModuleNet) (c : Cell) → slice_get nets n ≡ Some net → IsSource net.role → slice_get f.drivers n ≡ Some (driver.Equation c) → ⊥
  source_free n net c at source driven =
      let d = equation f is n c driven in
      let free : IsFree nets d.equation.to.number = All-at (λ (a : Assign). IsFree nets a.to.number) (equations f.net) d.place d.equation is.opened.flat.free d.among in
      free net (subst (λ k. slice_get nets k ≡ Some net) (sym d.to) at) source

  -- and every other net has one
  has_equation : (n : ℕ) (net : ModuleNet) → slice_get nets n ≡ Some net → (IsSource net.role → ⊥) → ((c : Cell) → slice_get f.drivers n ≡ Some (driver.Equation c) → ⊥) → ⊥
  has_equation n net at other none =
      is.opened.driven n net at other (Each-at (λ (a : Assign). a.to.number ≢ n) (equations f.net) (λ i a there e. none a.cell (is.drivers.every n a.cell (record { place = i; equation = a; among = there; to = e; by = refl }))))

  module _ (roots : List ℕ) (rooted : AreRoots f.drivers roots) where
    abbrev root : ℕ → ℕ
    root n = slice_index roots n

    pub source_root : (n : ℕ) (net : ModuleNet) → slice_get nets n ≡ Some net → IsSource net.role → n < count → root n ≡ n
    source_root n net at source lt = let d = driver_at f is n lt in go d.0 d.1
      where
        go : (by : Driver) → slice_get f.drivers n ≡ Some by → root n ≡ n
        go driver.Given there = rooted.each n driver.Given there
        go (driver.Looks m) there = rooted.each n (driver.Looks m) there
        go (driver.Equation c) there = absurd (source_free n net c at source there)

    module _ (values : List ℕ) (memories : List Cells) (ready : IsReady f values memories) (line : TraceLine) (fits : LineFitsShape line (shape_of o)) where
      abbrev pub old : NetState
      old = net_state f values memories

      abbrev pub code : List ℕ
      code = first_words (words_of memories)

      abbrev pub begun : List ℕ
      begun = with_inputs line values

      ports_long : length line.ports ≡ length o.inputs
      ports_long = values_long line.ports o.inputs fits

      pub begun_long : length begun ≡ count
      begun_long = put_from-length 3 line.ports (set values 2 (bit line.wait)) ∙ length-set values 2 (bit line.wait) ∙ ready.long

      -- a net that is no input has the value that it had
      pub begun_other : (n : ℕ) → (n < 2) ⊎ (3 + length o.inputs ≤ n) → slice_index begun n ≡ slice_index values n
      begun_other n (inl below) = put_from-other 3 line.ports (set values 2 (bit line.wait)) n (inl (omega arith)) ∙ get_or-set_other values 2 n (bit line.wait) 0 (λ e. absurd (omega arith))
      begun_other n (inr above) = let l : length line.ports ≡ length o.inputs = ports_long in put_from-other 3 line.ports (set values 2 (bit line.wait)) n (inr (omega arith)) ∙ get_or-set_other values 2 n (bit line.wait) 0 (λ e. absurd (omega arith))

      begun_wait : slice_index begun 2 ≡ bit line.wait
      begun_wait = let two : 2 < count = port_count 2 _ refl in let l : length values ≡ count = ready.long in put_from-other 3 line.ports (set values 2 (bit line.wait)) 2 (inl (omega arith)) ∙ get_or-set_same values 2 (bit line.wait) 0 (omega arith)

      -- the port of the input i
      nth_input : (i : ℕ) → i < length o.inputs → (p : Port) × (slice_get (ports_of o) (suc (suc (suc i))) ≡ Some p) × (p.output ≡ false)
      nth_input i lt =
          let e : length (input_ports o.inputs) ≡ length o.inputs = inputs_long o.inputs in
          let got = some_in (input_ports o.inputs) i (omega arith) in
          (got.0, ap (λ (l : List Port). slice_get l (suc (suc (suc i)))) (ports_split o) ∙ get_left (input_ports o.inputs) (mem_ports o.mems ++ behind o) i got.0 got.1, inputs_in o.inputs i got.0 got.1)

      -- so does one that isn't an input's
      begun_free : (n : ℕ) → ((p : Port) → slice_get (ports_of o) n ≡ Some p → p.output ≡ false → ⊥) → slice_index begun n ≡ slice_index values n
      begun_free zero none = begun_other zero (inl (omega arith))
      begun_free (suc zero) none = begun_other (suc zero) (inl (omega arith))
      begun_free (suc (suc zero)) none = absurd (none _ refl refl)
      begun_free (suc (suc (suc i))) none = go (cases_lt i (length o.inputs))
        where
          go : (i < length o.inputs) ⊎ (length o.inputs ≤ i) → slice_index begun (suc (suc (suc i))) ≡ slice_index values (suc (suc (suc i)))
          go (inl lt) = let p = nth_input i lt in absurd (none p.0 p.1 p.2)
          go (inr past) = begun_other (suc (suc (suc i))) (inr (omega arith))

      room_from : (k n : ℕ) → k ≡ n → ((i : ℕ) → i < k → 3 + i < count) → 3 ≤ count → 3 + n ≤ count
      room_from zero n e h three = omega arith
      room_from (suc k) n e h three = let last : 3 + k < count = h k (omega arith) in omega arith

      pub inputs_room : 3 + length line.ports ≤ length (set values 2 (bit line.wait))
      inputs_room =
          let l : length (set values 2 (bit line.wait)) ≡ length values = length-set values 2 (bit line.wait) in
          let r : length values ≡ count = ready.long in
          let two : 2 < count = port_count 2 _ refl in
          let room : 3 + length line.ports ≤ count = room_from (length o.inputs) (length line.ports) (sym ports_long) (λ i lt. let p = nth_input i lt in let low : suc (suc (suc i)) < count = port_count (suc (suc (suc i))) p.0 p.1 in omega arith) (omega arith) in
          omega arith

      begun_input : (i x : ℕ) → slice_get line.ports i ≡ Some x → slice_index begun (suc (suc (suc i))) ≡ x
      begun_input i x at = let e : suc (suc (suc i)) ≡ 3 + i = omega arith in ap (slice_index begun) e ∙ put_from-at 3 line.ports (set values 2 (bit line.wait)) i x inputs_room at

      module _ (v : List ℕ) (solves : Solves f.net v) (takes : Takes nets (given f is code line old ready.code.each fits ready.fits) v) where
        abbrev mem_part : List ℕ
        mem_part = mem_gives (slice_index v) (first_mem_port o) o.mems old.mems

        -- an input that is no word of a memory has what the line gives
        at_port : (n : ℕ) (p : Port) → slice_get (ports_of o) n ≡ Some p → p.output ≡ false → memory_of f is roots rooted n ≡ None → slice_index begun n ≡ slice_index v n
        at_port zero p at enters none = cc
        at_port (suc zero) p at enters none = cc
        at_port (suc (suc zero)) p at enters none = begun_wait ∙ sym (takes 2 _ (whole_port f is 2 _ refl) tt)
        at_port (suc (suc (suc i))) p at enters none = go (get_either (input_ports o.inputs) (mem_ports o.mems ++ behind o) i p (sym (ap (λ (l : List Port). slice_get l (suc (suc (suc i)))) (ports_split o)) ∙ at))
          where
            source : (b : Bool) → b ≡ false → IsSource (if b then role.Output else role.Input)
            source true e = cc
            source false e = tt

            at_input : slice_get (input_ports o.inputs) i ≡ Some p → slice_index begun (suc (suc (suc i))) ≡ slice_index v (suc (suc (suc i)))
            at_input here =
                let low : i < length (input_ports o.inputs) = slice_get_within (input_ports o.inputs) i p here in
                let e : length (input_ports o.inputs) ≡ length o.inputs = inputs_long o.inputs in
                let l : length line.ports ≡ length o.inputs = ports_long in
                let x = some_in line.ports i (omega arith) in
                begun_input i x.0 x.1
                ∙ sym (takes (suc (suc (suc i))) (port_net p) (whole_port f is (suc (suc (suc i))) p at) (source p.output enters)
                ∙ ap (λ q. unwrap_or q (held f.net.nexts old.registers (suc (suc (suc i))))) (get_left line.ports mem_part i x.0 x.1))

            go : (slice_get (input_ports o.inputs) i ≡ Some p) ⊎ ((j : ℕ) × (i ≡ length (input_ports o.inputs) + j) × (slice_get (mem_ports o.mems ++ behind o) j ≡ Some p)) → slice_index begun (suc (suc (suc i))) ≡ slice_index v (suc (suc (suc i)))
            go (inl here) = at_input here
            go (inr past) =
                let s = input_is_second o.mems (behind o) (behind_out o) past.0 p past.2 enters in
                let e : length (input_ports o.inputs) ≡ length o.inputs = inputs_long o.inputs in
                let i_is : i ≡ length (input_ports o.inputs) + past.0 = past.1 in
                let j_is : past.0 ≡ second s.k = s.j_is in
                let n_is : suc (suc (suc i)) ≡ first_mem_port o + second s.k = omega arith in
                let found : memory_at (first_mem_port o) (length o.mems) (first_mem_port o + second s.k) ≡ Some (suc s.k) = memory_found (first_mem_port o) (length o.mems) s.k (omega arith) s.below in
                let clash : None ≡ Some (suc s.k) = sym none ∙ ap (memory_of f is roots rooted) n_is ∙ found in
                cc

        -- no port is a register
        no_port : (n : ℕ) (net : FlatNet) (reset : ℕ) → slice_get f.net.nets n ≡ Some net → net.role ≡ role.Register reset → (p : Port) → slice_get (ports_of o) n ≡ Some p → ⊥
        no_port n net reset at is_reg p there =
            let plain : slice_get nets n ≡ Some (plain_net net) = slice_get-map plain_net f.net.nets n ∙ ap (option_map plain_net) at in
            no_register p reset (let same : port_net p ≡ plain_net net = some_same (sym (whole_port f is n p there) ∙ plain) in ap (λ (y : ModuleNet). y.role) same ∙ is_reg)

        -- a register has in the solution what it held
        pub register_was : (n : ℕ) (net : FlatNet) (reset : ℕ) → slice_get f.net.nets n ≡ Some net → net.role ≡ role.Register reset → slice_index v n ≡ slice_index values n
        register_was n net reset at is_reg =
            let plain : slice_get nets n ≡ Some (plain_net net) = slice_get-map plain_net f.net.nets n ∙ ap (option_map plain_net) at in
            takes n (plain_net net) plain (subst IsSource (sym is_reg) tt)
            ∙ not_given (held f.net.nexts old.registers n) (slice_get (gives f is code line old ready.code.each fits ready.fits (slice_index v)) n) (λ y there.
            let t = taken_at (ports_of o) (gives f is code line old ready.code.each fits ready.fits (slice_index v)) (take f is code line old ready.code.each fits ready.fits (slice_index v)) n y there in
            no_port n net reset at is_reg t.0 t.1)
            ∙ sym (ready.registers n net reset at is_reg)

        at_register : (n : ℕ) (net : FlatNet) (reset : ℕ) → slice_get f.net.nets n ≡ Some net → net.role ≡ role.Register reset → slice_index begun n ≡ slice_index v n
        at_register n net reset at is_reg = begun_free n (λ p there enters. no_port n net reset at is_reg p there) ∙ sym (register_was n net reset at is_reg)

        -- no memory's word stands at a net without an operation
        no_memory : (n : ℕ) → shape_of_net f roots n ≡ None → memory_of f is roots rooted n ≡ None
        no_memory n none = go (memory_of f is roots rooted n) refl none
          where
            go : (q : Option ℕ) → memory_of f is roots rooted n ≡ q → net_shape f roots n q ≡ None → memory_of f is roots rooted n ≡ None
            go None e shaped = e
            go (Some m) e shaped = cc

        shape_by : (n : ℕ) (q : Option ℕ) → memory_of f is roots rooted n ≡ q → q ≡ None → (by : Driver) → slice_get f.drivers n ≡ Some by → net_shape f roots n q ≡ None → driver_shape roots (width_of (slice_get f.net.nets n)) (Some by) ≡ None
        shape_by n None e none by at shaped = ap (driver_shape roots (width_of (slice_get f.net.nets n))) (sym at) ∙ shaped
        shape_by n (Some m) e none by at shaped = cc

        -- what is no equation's
        at_source : (n : ℕ) → n < count → shape_of_net f roots n ≡ None → ((c : Cell) → slice_get f.drivers n ≡ Some (driver.Equation c) → ⊥) → slice_index begun n ≡ slice_index v n
        at_source n lt none undriven = let net = some_in f.net.nets n lt in go net.0 net.1 (net.0).role refl
          where
            go : (net : FlatNet) → slice_get f.net.nets n ≡ Some net → (r : Role) → net.role ≡ r → slice_index begun n ≡ slice_index v n
            go net at role.Input e = let p = input_port n net at e in at_port n p.0 p.1 p.2 (no_memory n none)
            go net at (role.Register reset) e = at_register n net reset at e
            go net at role.Output e = absurd (has_equation n (plain_net net) (slice_get-map plain_net f.net.nets n ∙ ap (option_map plain_net) at) (λ source. subst IsSource e source) undriven)
            go net at role.Plain e = absurd (has_equation n (plain_net net) (slice_get-map plain_net f.net.nets n ∙ ap (option_map plain_net) at) (λ source. subst IsSource e source) undriven)

        port_source : (p : Port) → p.output ≡ false → IsSource (port_net p).role
        port_source p e = go p.output e
          where
            go : (b : Bool) → b ≡ false → IsSource (if b then role.Output else role.Input)
            go true e = cc
            go false e = tt

        by_equation : (n : ℕ) → n < count → root n ≡ n → (c : Cell) → slice_get f.drivers n ≡ Some (driver.Equation c) → cell_shape roots (width_of (slice_get f.net.nets n)) c ≡ None → slice_index begun n ≡ slice_index v n
        by_equation n lt own (cell.Const k) at shaped =
            begun_free n (λ p there enters. source_free n (port_net p) (cell.Const k) (whole_port f is n p there) (port_source p enters) at) ∙ ready.constants n k at
            ∙ sym (holds f is roots rooted v solves (load_of memories) n (cell.Const k) (equation f is n (cell.Const k) at))
        by_equation n lt own (cell.Copy w) at shaped =
            let l = (operand_lower f is n (cell.Copy w) lt (equation f is n (cell.Copy w) at)).0 in
            let e : n ≡ root w.number = sym own ∙ rooted.each n (driver.Equation (cell.Copy w)) at in
            let low : rank f is (root w.number) ≤ rank f is w.number = (stands_low f is roots rooted w.number l.0).lower in
            let less : rank f is w.number < rank f is n = l.1 in
            let same : rank f is n ≡ rank f is (root w.number) = ap (rank f is) e in
            absurd (omega arith)
        by_equation n lt own (cell.Not a) at shaped = cc
        by_equation n lt own (cell.Two op a b) at shaped = cc
        by_equation n lt own (cell.Choose s a b) at shaped = cc
        by_equation n lt own (cell.Cat a b) at shaped = cc
        by_equation n lt own (cell.Slice a h l) at shaped = cc

        still_at : (n : ℕ) → n < count → shape_of_net f roots n ≡ None → root n ≡ n → slice_index begun n ≡ slice_index v n
        still_at n lt none own = let d = driver_at f is n lt in go d.0 d.1
          where
            go : (by : Driver) → slice_get f.drivers n ≡ Some by → slice_index begun n ≡ slice_index v n
            go driver.Given at = at_source n lt none (λ c e. let clash : Some driver.Given ≡ Some (driver.Equation c) = sym at ∙ e in cc)
            go (driver.Looks m) at = at_source n lt none (λ c e. let clash : Some (driver.Looks m) ≡ Some (driver.Equation c) = sym at ∙ e in cc)
            go (driver.Equation c) at = by_equation n lt own c at (shape_by n (memory_of f is roots rooted n) refl (no_memory n none) (driver.Equation c) at none)

        pub done_before : Done f is roots rooted v solves (load_of memories) 0 begun
        done_before = record { long = begun_long; done = λ n lt less. absurd (omega arith); still = still_at }

        -- Memories. --------------------------------------------------------------------------------------------------------

        answers_code : Answers f is roots rooted v solves (load_of memories) 1 0
        answers_code =
            let low : 1 < count = port_count 1 _ refl in
            record {
              address = port_count 0 _ refl;
              earlier = (looks_below f is 1 0 (looked o is.outside.mems 1 (0 ∷ []) refl).0).1;
              own_root = source_root 1 _ (whole_port f is 1 _ refl) tt low;
              word = takes 1 _ (whole_port f is 1 _ refl) tt ∙ sym (code_word memories (slice_index v 0));
            }

        answers_data : (k : ℕ) → k < length o.mems → Answers f is roots rooted v solves (load_of memories) (first_mem_port o + second k) (suc k)
        answers_data k lt =
            let n : ℕ = suc (suc (suc (length o.inputs + second k))) in
            let e : n ≡ first_mem_port o + second k = omega arith in
            let il : length (input_ports o.inputs) ≡ length o.inputs = inputs_long o.inputs in
            let pl : length line.ports ≡ length o.inputs = ports_long in
            let m = second_port o.mems (behind o) k lt in
            let at : slice_get (ports_of o) n ≡ Some (input (mem_name m.0 (codes "rd")) (m.0).width) =
            ap (λ (l : List Port). slice_get l n) (ports_split o) ∙ ap (λ j. slice_get (input_ports o.inputs ++ (mem_ports o.mems ++ behind o)) (j + second k)) (sym il) ∙ get_right (input_ports o.inputs) (mem_ports o.mems ++ behind o) (second k) ∙ m.1 in
            let whole = whole_port f is n (input (mem_name m.0 (codes "rd")) (m.0).width) at in
            let low : n < count = port_count n _ at in
            let ml : length (map (λ (p : InPort). the_list) o.inputs) ≡ length o.inputs = simp length-map in
            let look : slice_get (port_looks o) n ≡ Some ((first_mem_port o + 5 * k) ∷ []) =
            ap (λ j. slice_get (map (λ (p : InPort). the_list) o.inputs ++ mem_looks (first_mem_port o) o.mems) (j + second k)) (sym ml) ∙ get_right (map (λ (p : InPort). the_list) o.inputs) (mem_looks (first_mem_port o) o.mems) (second k) ∙ looks_first (first_mem_port o) o.mems k lt in
            let below = looks_below f is n (first_mem_port o + 5 * k) (looked o is.outside.mems n ((first_mem_port o + 5 * k) ∷ []) look).0 in
            let s : second k ≡ 5 * k + 1 = second_is k in
            let before : first_mem_port o + 5 * k ≡ n - 1 = omega arith in
            let wl : length old.mems ≡ length o.mems = mems_long old.mems o.mems ready.fits.mems in
            let words = some_in old.mems k (omega arith) in
            let gives_at : slice_get (line.ports ++ mem_part) (length o.inputs + second k) ≡ Some (slice_index words.0 (slice_index v (first_mem_port o + 5 * k))) =
            ap (λ j. slice_get (line.ports ++ mem_part) (j + second k)) (sym pl) ∙ get_right line.ports mem_part (second k) ∙ gives_word (slice_index v) (first_mem_port o) o.mems old.mems k words.0 ready.fits.mems words.1 in
            subst (λ j. Answers f is roots rooted v solves (load_of memories) j (suc k)) e (record {
              address = subst (λ j. j < count) before below.0;
              earlier = subst (λ j. rank f is j < rank f is n) before below.1;
              own_root = source_root n _ whole tt low;
              word = takes n _ whole tt ∙ ap (λ q. unwrap_or q (held f.net.nexts old.registers n)) gives_at ∙ ap (λ j. slice_index words.0 (slice_index v j)) before ∙ sym (word_at memories k words.0 words.1 (slice_index v (n - 1)));
            })

        pub answers : AllAnswer f is roots rooted v solves (load_of memories)
        answers n m lt at = go (memory_port (first_mem_port o) (length o.mems) n m at)
          where
            go : ((n ≡ 1) × (m ≡ 0)) ⊎ IsData (first_mem_port o) (length o.mems) n m → Answers f is roots rooted v solves (load_of memories) n m
            go (inl e) = subst (λ j. Answers f is roots rooted v solves (load_of memories) j m) (sym e.0) (subst (Answers f is roots rooted v solves (load_of memories) 1) (sym e.1) answers_code)
            go (inr d) = subst (λ j. Answers f is roots rooted v solves (load_of memories) j m) (sym d.n_is) (subst (Answers f is roots rooted v solves (load_of memories) (first_mem_port o + second d.k)) (sym d.m_is) (answers_data d.k d.below))

        -- after the operations each net's value stands at its root
        pub computed_all : (n : ℕ) → n < count → slice_index (computed (load_of memories) (ops_of f roots f.order) begun) (root n) ≡ slice_index v n
        computed_all n lt = all_computed f is roots rooted v solves (load_of memories) answers begun done_before n lt
