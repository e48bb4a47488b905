-- Modules as far as a loop has come: those before are found by their names, and what is left has the first line.
use Rattle.std.proofs.Common.{◌≡◌, ℕ, zero, suc, ◌+◌, ◌<◌, ◌≤◌, ◌||◌, not, Bool, true, false, cond, List, [], ◌∷◌, ◌++◌, length, map, take, drop, get_or, Option, Some, None, is_some, position, refl, sym, ap, subst, ◌∙◌, arith, append_assoc}
use Rattle.std.specs.Borrow.{Bor}
use Rattle.std.specs.List.{AllByRecursion as Each, position_from}
use Rattle.std.specs.Prelude.{codes, option_copied}
use Rattle.std.specs.Option.{option_or}
use Rattle.std.specs.Str.{bytes_eq}
use Rattle.std.proofs.Math.Path.{fun_ext}
use Rattle.std.proofs.lemmas.Iterator.Adapters.{position_from-zero}
use Rattle.std.proofs.lemmas.List.{at_drop_all, drop_more, map-append, take_more}
use Rattle.std.proofs.lemmas.List.Folds.{find-append}
use Rattle.std.proofs.lemmas.Bool.{false≢true}
use Rattle.ap_vr.specs.declared.module.NamedModule.{NamedModule}
use Rattle.ap_vr.specs.Scope.{assigns_from, first_by, first_repeat, instance_name, instances_from, is_among, module_name, module_named, net_name, net_names, nexts_from, own_names, port_name, ports_from, regs_from, repeated_after, repeated_in, unknown_assign, unknown_by, unknown_in, unknown_instance, unknown_next, usable, wires_from}
use Rattle.ap_vr.specs.Tables.{IsDistinct, listed, with_name, with_names}
use Rattle.ap_vr.proofs.NameTables.{among_append, fewer_repeat, no_repeat, none_before, or_neither, repeats-append, scope_knows, with_known, with_names-append, with_new}
use Rattle.ap_vr.proofs.Words.{same_bytes}

-- a name that is one of modules' is found
found_known : (modules : List NamedModule) (name : List ℕ) → is_among (map module_name modules) name ≡ true → (m : NamedModule) × (module_named modules name ≡ Some m)
found_known [] name e = absurd cc
found_known (m ∷ modules) name e = go (bytes_eq name m.name) refl (found_known modules name) where
  go : (b : Bool) → bytes_eq name m.name ≡ b → (is_among (map module_name modules) name ≡ true → (n : NamedModule) × (module_named modules name ≡ Some n)) → (n : NamedModule) × (module_named (m ∷ modules) name ≡ Some n)
  go true h later = (m, ap (λ b. cond b (Some m) (module_named modules name)) h)
  go false h later =
      let there : is_among (map module_name modules) name ≡ true = sym (ap (λ b. b || is_among (map module_name modules) name) h) ∙ e in
      let n = later there in
      (n.0, ap (λ b. cond b (Some m) (module_named modules name)) h ∙ n.1)

-- one more module whose name is known changes nothing
or_some_is : (o : Option NamedModule) (m : NamedModule) (p : Option NamedModule) → o ≡ Some m → o ≡ option_or o p
or_some_is None m p e = cc
or_some_is (Some n) m p e = refl

or_none_is : (o p : Option NamedModule) → p ≡ None → o ≡ option_or o p
or_none_is None p e = sym e
or_none_is (Some n) p e = refl

pub found_same : (modules : List NamedModule) (m : NamedModule) → is_among (map module_name modules) m.name ≡ true → module_named modules ≡ module_named (modules ++ m ∷ [])
found_same modules m known = fun_ext (λ name. at name ∙ sym (find-append (λ (n : NamedModule). bytes_eq name n.name) modules (m ∷ []))) where
  at : (name : List ℕ) → module_named modules name ≡ option_or (module_named modules name) (module_named (m ∷ []) name)
  at name = go (bytes_eq name m.name) refl where
    go : (b : Bool) → bytes_eq name m.name ≡ b → module_named modules name ≡ option_or (module_named modules name) (module_named (m ∷ []) name)
    go true h =
        let n = found_known modules name (subst (λ k. is_among (map module_name modules) k ≡ true) (sym (same_bytes name m.name h)) known) in
        or_some_is (module_named modules name) n.0 (module_named (m ∷ []) name) n.1
    go false h = or_none_is (module_named modules name) (module_named (m ∷ []) name) (ap (λ b. cond b (Some m) None) h)

-- and what is found grows alike where what was found is the same
pub found_more : (some all : List NamedModule) (m : NamedModule) → module_named some ≡ module_named all → module_named (some ++ m ∷ []) ≡ module_named (all ++ m ∷ [])
found_more some all m e = fun_ext (λ name.
    find-append (λ (n : NamedModule). bytes_eq name n.name) some (m ∷ [])
    ∙ ap (λ (f : List ℕ → Option NamedModule). option_or (f name) (module_named (m ∷ []) name)) e
    ∙ sym (find-append (λ (n : NamedModule). bytes_eq name n.name) all (m ∷ [])))

not_true : (b : Bool) → not b ≡ true → b ≡ false
not_true true h = sym h
not_true false h = refl

not_false : (b : Bool) → not b ≡ false → b ≡ true
not_false true h = refl
not_false false h = sym h

-- a table with one more module
pub listed_more : (modules : List (Bor NamedModule)) (m : Bor NamedModule) → listed (modules ++ m ∷ []) ≡ listed modules ++ m.now ∷ []
listed_more modules m = map-append (λ (b : Bor NamedModule). b.now) modules (m ∷ [])

pub known_more : (known new : List (List ℕ)) (modules after : List (Bor NamedModule)) (m : Bor NamedModule) (name : List ℕ) (is_new : Bool) → known ≡ map module_name (listed modules) → new ≡ with_name known name → name ≡ m.now.name
    → is_new ≡ not (is_among known name) → is_new ≡ true → after ≡ modules ++ m ∷ [] → new ≡ map module_name (listed after)
known_more known new modules after m name is_new was grown same fresh e pushed =
    grown ∙ with_new known name (not_true (is_among known name) (sym fresh ∙ e)) ∙ ap (λ ns. ns ++ name ∷ []) was ∙ ap (λ n. map module_name (listed modules) ++ n ∷ []) same
    ∙ sym (map-append module_name (listed modules) (m.now ∷ [])) ∙ ap (map module_name) (sym (listed_more modules m)) ∙ ap (λ l. map module_name (listed l)) (sym pushed)

pub found_pushed : (modules after : List (Bor NamedModule)) (m : Bor NamedModule) → after ≡ modules ++ m ∷ [] → module_named (listed after) ≡ module_named (listed modules ++ m.now ∷ [])
found_pushed modules after m pushed = ap (λ l. module_named (listed l)) pushed ∙ ap module_named (listed_more modules m)

pub known_same : (known new : List (List ℕ)) (modules : List NamedModule) (name : List ℕ) (is_new : Bool) → known ≡ map module_name modules → new ≡ with_name known name
    → is_new ≡ not (is_among known name) → is_new ≡ false → new ≡ map module_name modules
known_same known new modules name is_new was grown fresh e = grown ∙ with_known known name (not_false (is_among known name) (sym fresh ∙ e)) ∙ was

pub found_stays : (known : List (List ℕ)) (modules : List NamedModule) (m : NamedModule) (name : List ℕ) (is_new : Bool) → known ≡ map module_name modules → name ≡ m.name
    → is_new ≡ not (is_among known name) → is_new ≡ false → module_named modules ≡ module_named (modules ++ m ∷ [])
found_stays known modules m name is_new was same fresh e =
    found_same modules m (subst (λ n. is_among (map module_name modules) n ≡ true) same (subst (λ ns. is_among ns name ≡ true) was (not_false (is_among known name) (sym fresh ∙ e))))

some_or : (o p : Option ℕ) → is_some o ≡ true → o ≡ option_or o p
some_or None p h = absurd (false≢true h)
some_or (Some n) p h = refl

none_or : (o p : Option ℕ) → is_some o ≡ false → p ≡ option_or o p
none_or None p h = refl
none_or (Some n) p h = absurd (false≢true (sym h))

-- what holds between two modules: those before are found, and what is left has the line
pub record FoundSoFar (rule : (List ℕ → Option NamedModule) → NamedModule → Option ℕ) (modules : List NamedModule) (known : List (List ℕ)) (earlier : List (Bor NamedModule)) (i : ℕ) : Type 0 where
  pub names : known ≡ map module_name (listed earlier)
  pub found : module_named (listed earlier) ≡ module_named (take i modules)
  pub rest : first_by rule (take i modules) (drop i modules) ≡ first_by rule [] modules

module _ (rule : (List ℕ → Option NamedModule) → NamedModule → Option ℕ) (modules : List NamedModule) where
  pub found_begins : (known : List (List ℕ)) (earlier : List (Bor NamedModule)) → known ≡ [] → earlier ≡ [] → FoundSoFar rule modules known earlier 0
  found_begins known earlier k e = record {
    names = k ∙ ap (λ l. map module_name (listed l)) (sym e);
    found = ap (λ l. module_named (listed l)) e;
    rest = refl;
  }

  rest_cut : (i : ℕ) (m : NamedModule) → i < length modules → m ≡ get_or modules i m
      → first_by rule (take i modules) (drop i modules) ≡ option_or (rule (module_named (take i modules)) m) (first_by rule (take i modules ++ m ∷ []) (drop (i + 1) modules))
  rest_cut i m lt at = ap (first_by rule (take i modules)) (drop_more modules i m lt ∙ ap (λ x. x ∷ drop (i + 1) modules) (sym at))

  -- a module has the line
  pub found_here : (known : List (List ℕ)) (earlier : List (Bor NamedModule)) (i : ℕ) (m : NamedModule) (line : Option ℕ) (b : Bool) → FoundSoFar rule modules known earlier i → i < length modules → m ≡ get_or modules i m
      → line ≡ rule (module_named (listed earlier)) m → b ≡ is_some line → b ≡ true → line ≡ first_by rule [] modules
  found_here known earlier i m line b far lt at is test holds =
      some_or line (first_by rule (take i modules ++ m ∷ []) (drop (i + 1) modules)) (sym test ∙ holds)
      ∙ ap (λ o. option_or o (first_by rule (take i modules ++ m ∷ []) (drop (i + 1) modules))) (is ∙ ap (λ (f : List ℕ → Option NamedModule). rule f m) far.found)
      ∙ sym (rest_cut i m lt at) ∙ far.rest

  -- it hasn't, and is one of those before
  pub found_further : (known new : List (List ℕ)) (earlier after : List (Bor NamedModule)) (i : ℕ) (m : NamedModule) (line : Option ℕ) (b : Bool) → FoundSoFar rule modules known earlier i → i < length modules → m ≡ get_or modules i m
      → line ≡ rule (module_named (listed earlier)) m → b ≡ is_some line → b ≡ false → new ≡ map module_name (listed after) → module_named (listed after) ≡ module_named (listed earlier ++ m ∷ []) → FoundSoFar rule modules new after (i + 1)
  found_further known new earlier after i m line b far lt at is test fails named more = record {
    names = named;
    found = more ∙ found_more (listed earlier) (take i modules) m far.found ∙ ap module_named (sym before);
    rest =
        ap (λ l. first_by rule l (drop (i + 1) modules)) before
        ∙ none_or line (first_by rule (take i modules ++ m ∷ []) (drop (i + 1) modules)) (sym test ∙ fails)
        ∙ ap (λ o. option_or o (first_by rule (take i modules ++ m ∷ []) (drop (i + 1) modules))) (is ∙ ap (λ (f : List ℕ → Option NamedModule). rule f m) far.found)
        ∙ sym (rest_cut i m lt at) ∙ far.rest;
  } where
    before : take (i + 1) modules ≡ take i modules ++ m ∷ []
    before = take_more modules i m lt ∙ ap (λ x. take i modules ++ x ∷ []) (sym at)

  -- none has
  pub found_nowhere : (known : List (List ℕ)) (earlier : List (Bor NamedModule)) (i : ℕ) → FoundSoFar rule modules known earlier i → length modules ≤ i → None ≡ first_by rule [] modules
  found_nowhere known earlier i far le = sym (at_drop_all (first_by rule (take i modules)) modules i le) ∙ far.rest

-- The names of modules as far as a loop has come.
module _ (modules : List NamedModule) (i : ℕ) (m : NamedModule) (known : List (List ℕ)) (name : List ℕ) (is_new : Bool) (lt : i < length modules) (at : m ≡ get_or modules i m) (far : repeated_after known (drop i modules) ≡ repeated_after [] modules)
    (same : name ≡ m.name) (fresh : is_new ≡ not (is_among known name)) where
  was : repeated_after known (m ∷ drop (i + 1) modules) ≡ repeated_after [] modules
  was = ap (repeated_after known) (sym (drop_more modules i m lt ∙ ap (λ x. x ∷ drop (i + 1) modules) (sym at))) ∙ far

  -- a name is taken
  pub repeats_here : is_new ≡ false → Some m.line ≡ repeated_after [] modules
  repeats_here e =
      sym (ap (λ b. cond b (Some m.line) (option_or (repeated_in m) (repeated_after (known ++ m.name ∷ []) (drop (i + 1) modules)))) (ap (is_among known) (sym same) ∙ not_false (is_among known name) (sym fresh ∙ e))) ∙ was

  new_name : is_new ≡ true → is_among known m.name ≡ false
  new_name e = ap (is_among known) (sym same) ∙ not_true (is_among known name) (sym fresh ∙ e)

  past : is_new ≡ true → option_or (repeated_in m) (repeated_after (known ++ m.name ∷ []) (drop (i + 1) modules)) ≡ repeated_after [] modules
  past e = sym (ap (λ b. cond b (Some m.line) (option_or (repeated_in m) (repeated_after (known ++ m.name ∷ []) (drop (i + 1) modules)))) (new_name e)) ∙ was

  -- a line within the module repeats a name
  pub repeats_within : (line : Option ℕ) (b : Bool) → is_new ≡ true → line ≡ repeated_in m → b ≡ is_some line → b ≡ true → line ≡ repeated_after [] modules
  repeats_within line b e is test holds =
      some_or line (repeated_after (known ++ m.name ∷ []) (drop (i + 1) modules)) (sym test ∙ holds)
      ∙ ap (λ o. option_or o (repeated_after (known ++ m.name ∷ []) (drop (i + 1) modules))) is ∙ past e

  -- none does
  pub repeats_further : (new : List (List ℕ)) (line : Option ℕ) (b : Bool) → is_new ≡ true → new ≡ with_name known name → line ≡ repeated_in m → b ≡ is_some line → b ≡ false → repeated_after new (drop (i + 1) modules) ≡ repeated_after [] modules
  repeats_further new line b e grown is test fails =
      ap (λ ns. repeated_after ns (drop (i + 1) modules)) (grown ∙ ap (with_name known) same ∙ with_new known m.name (new_name e))
      ∙ none_or line (repeated_after (known ++ m.name ∷ []) (drop (i + 1) modules)) (sym test ∙ fails)
      ∙ ap (λ o. option_or o (repeated_after (known ++ m.name ∷ []) (drop (i + 1) modules))) is ∙ past e

pub repeats_nowhere : (modules : List NamedModule) (i : ℕ) (known : List (List ℕ)) → repeated_after known (drop i modules) ≡ repeated_after [] modules → length modules ≤ i → None ≡ repeated_after [] modules
repeats_nowhere modules i known far le = sym (at_drop_all (repeated_after known) modules i le) ∙ far

-- what holds of all holds of the one that a loop has come to
pub each_got : {X : Type 0} (P : X → Type 0) (xs : List X) (i : ℕ) (x : X) → Each P xs → i < length xs → x ≡ get_or xs i x → P x
each_got P [] i x h lt at = absurd (omega arith)
each_got P (y ∷ xs) zero x h lt at = subst P (sym at) h.0
each_got P (y ∷ xs) (suc i) x h lt at = each_got P xs i x h.1 (omega arith) at

-- The first repeat within a module, of its ports, wires, registers and instances, one list after another.
or_parts : (a b : Option ℕ) → option_or a b ≡ None → (a ≡ None) × (b ≡ None)
or_parts None b e = (refl, e)
or_parts (Some n) b e = absurd cc

or_then : (a b c : Option ℕ) → (a ≡ None → b ≡ c) → option_or a b ≡ option_or a c
or_then None b c h = h refl
or_then (Some n) b c h = refl

abbrev port_repeat : NamedModule → Option ℕ
port_repeat m = first_repeat own_names (ports_from m) (map port_name m.ports)

abbrev wire_repeat : NamedModule → Option ℕ
wire_repeat m = first_repeat (own_names ++ map port_name m.ports) (wires_from m) (map net_name m.wires)

abbrev reg_repeat : NamedModule → Option ℕ
reg_repeat m = first_repeat ((own_names ++ map port_name m.ports) ++ map net_name m.wires) (regs_from m) (map net_name m.regs)

abbrev instance_repeat : NamedModule → Option ℕ
instance_repeat m = first_repeat (((own_names ++ map port_name m.ports) ++ map net_name m.wires) ++ map net_name m.regs) (instances_from m) (map instance_name m.instances)

pub repeats_in_turn : (m : NamedModule) (first second third : List (List ℕ)) (port wire reg instance : Option ℕ)
    → port ≡ first_repeat own_names (ports_from m) (map port_name m.ports) → first ≡ with_names own_names (map port_name m.ports)
    → wire ≡ first_repeat first (wires_from m) (map net_name m.wires) → second ≡ with_names first (map net_name m.wires)
    → reg ≡ first_repeat second (regs_from m) (map net_name m.regs) → third ≡ with_names second (map net_name m.regs)
    → instance ≡ first_repeat third (instances_from m) (map instance_name m.instances)
    → option_or (option_or (option_or port wire) reg) instance ≡ repeated_in m
unfolding repeated_in
repeats_in_turn m first second third port wire reg instance p f w s r t i = ap (λ o. option_or o instance) three ∙ or_then (option_or (option_or (port_repeat m) (wire_repeat m)) (reg_repeat m)) instance (instance_repeat m) fourth where
  at_first : first_repeat own_names (ports_from m) (map port_name m.ports) ≡ None → first ≡ own_names ++ map port_name m.ports
  at_first e = f ∙ no_repeat own_names (ports_from m) (map port_name m.ports) e

  at_second : option_or (port_repeat m) (wire_repeat m) ≡ None → second ≡ (own_names ++ map port_name m.ports) ++ map net_name m.wires
  at_second e =
      let h = or_parts (port_repeat m) (wire_repeat m) e in
      s ∙ ap (λ ns. with_names ns (map net_name m.wires)) (at_first h.0) ∙ no_repeat (own_names ++ map port_name m.ports) (wires_from m) (map net_name m.wires) h.1

  at_third : option_or (option_or (port_repeat m) (wire_repeat m)) (reg_repeat m) ≡ None → third ≡ ((own_names ++ map port_name m.ports) ++ map net_name m.wires) ++ map net_name m.regs
  at_third e =
      let h = or_parts (option_or (port_repeat m) (wire_repeat m)) (reg_repeat m) e in
      t ∙ ap (λ ns. with_names ns (map net_name m.regs)) (at_second h.0) ∙ no_repeat ((own_names ++ map port_name m.ports) ++ map net_name m.wires) (regs_from m) (map net_name m.regs) h.1

  two : option_or port wire ≡ option_or (port_repeat m) (wire_repeat m)
  two = ap (λ o. option_or o wire) p ∙ or_then (port_repeat m) wire (wire_repeat m) (λ e. w ∙ ap (λ ns. first_repeat ns (wires_from m) (map net_name m.wires)) (at_first e))

  three : option_or (option_or port wire) reg ≡ option_or (option_or (port_repeat m) (wire_repeat m)) (reg_repeat m)
  three = ap (λ o. option_or o reg) two ∙ or_then (option_or (port_repeat m) (wire_repeat m)) reg (reg_repeat m) (λ e. r ∙ ap (λ ns. first_repeat ns (regs_from m) (map net_name m.regs)) (at_second e))

  fourth : option_or (option_or (port_repeat m) (wire_repeat m)) (reg_repeat m) ≡ None → instance ≡ (instance_repeat m)
  fourth e = i ∙ ap (λ ns. first_repeat ns (instances_from m) (map instance_name m.instances)) (at_third e)

-- the names of a module's nets, one list after another
pub scope_in_turn : (m : NamedModule) (first second third fourth fifth : List (List ℕ)) → first ≡ with_names [] (map port_name m.ports) → second ≡ with_names first (map net_name m.wires) → third ≡ with_names second (map net_name m.regs)
    → fourth ≡ with_name third (codes "clk") → fifth ≡ with_name fourth (codes "rst") → fifth ≡ with_names [] (usable m)
scope_in_turn m first second third fourth fifth f s t c r =
    r ∙ ap (λ ns. with_name ns (codes "rst")) (c ∙ ap (λ ns. with_name ns (codes "clk")) (t ∙ ap (λ ns. with_names ns (map net_name m.regs)) (s ∙ ap (λ ns. with_names ns (map net_name m.wires)) f)))
    ∙ sym (with_names-append [] (net_names m) own_names
    ∙ ap (λ ns. with_names ns own_names) (with_names-append [] (map port_name m.ports ++ map net_name m.wires) (map net_name m.regs)
    ∙ ap (λ ns. with_names ns (map net_name m.regs)) (with_names-append [] (map port_name m.ports) (map net_name m.wires))))

-- names that aren't repeated are kept as they came
none_repeats : (m : NamedModule) → port_repeat m ≡ None → wire_repeat m ≡ None → reg_repeat m ≡ None → first_repeat own_names (ports_from m) (net_names m) ≡ None
none_repeats m p w r =
    repeats-append own_names (ports_from m) (map port_name m.ports ++ map net_name m.wires) (map net_name m.regs) (regs_from m)
    (repeats-append own_names (ports_from m) (map port_name m.ports) (map net_name m.wires) (wires_from m) p w)
    (subst (λ b. first_repeat b (regs_from m) (map net_name m.regs) ≡ None) (append_assoc own_names (map port_name m.ports) (map net_name m.wires)) r)

kept : (m : NamedModule) → first_repeat own_names (ports_from m) (net_names m) ≡ None → IsDistinct m
kept m none = with_names-append [] (net_names m) own_names ∙ ap (λ ns. with_names ns own_names) alone ∙ ap (λ ns. with_name ns (codes "rst")) with_clk ∙ with_rst where
  alone : with_names [] (net_names m) ≡ net_names m
  alone = no_repeat [] (ports_from m) (net_names m) (fewer_repeat own_names [] (ports_from m) (net_names m) (λ n h. absurd (false≢true h)) none)

  no_clk : is_among (net_names m) (codes "clk") ≡ false
  no_clk = none_before own_names (ports_from m) (net_names m) (codes "clk") none refl

  no_rst : is_among (net_names m) (codes "rst") ≡ false
  no_rst = none_before own_names (ports_from m) (net_names m) (codes "rst") none refl

  with_clk : with_name (net_names m) (codes "clk") ≡ net_names m ++ codes "clk" ∷ []
  with_clk = with_new (net_names m) (codes "clk") no_clk

  with_rst : with_name (net_names m ++ codes "clk" ∷ []) (codes "rst") ≡ usable m
  with_rst =
      with_new (net_names m ++ codes "clk" ∷ []) (codes "rst") (among_append (net_names m) (codes "clk" ∷ []) (codes "rst") ∙ or_neither (is_among (net_names m) (codes "rst")) (is_among (codes "clk" ∷ []) (codes "rst")) no_rst refl)
      ∙ append_assoc (net_names m) (codes "clk" ∷ []) (codes "rst" ∷ [])

pub not_repeated : (m : NamedModule) → repeated_in m ≡ None → IsDistinct m
unfolding repeated_in
not_repeated m e =
    let p = or_parts (option_or (option_or (port_repeat m) (wire_repeat m)) (reg_repeat m)) (instance_repeat m) e in
    let q = or_parts (option_or (port_repeat m) (wire_repeat m)) (reg_repeat m) p.0 in
    let r = or_parts (port_repeat m) (wire_repeat m) q.0 in
    kept m (none_repeats m r.0 r.1 q.1)

pub all_distinct : (names : List (List ℕ)) (modules : List NamedModule) → repeated_after names modules ≡ None → Each IsDistinct modules
all_distinct names [] e = tt
all_distinct names (m ∷ modules) e = go (is_among names m.name) refl (all_distinct (names ++ m.name ∷ []) modules) where
  go : (b : Bool) → is_among names m.name ≡ b → (repeated_after (names ++ m.name ∷ []) modules ≡ None → Each IsDistinct modules) → IsDistinct m × Each IsDistinct modules
  go true h later = absurd (let no : Some m.line ≡ None = sym (ap (λ b. cond b (Some m.line) (option_or (repeated_in m) (repeated_after (names ++ m.name ∷ []) modules))) h) ∙ e in cc)
  go false h later =
      let parts = or_parts (repeated_in m) (repeated_after (names ++ m.name ∷ []) modules) (sym (ap (λ b. cond b (Some m.line) (option_or (repeated_in m) (repeated_after (names ++ m.name ∷ []) modules))) h) ∙ e) in
      (not_repeated m parts.0, later parts.1)

-- The first module of a name by its place in the table.
record IsPlace (name : List ℕ) (k : ℕ) (modules : List NamedModule) (i : ℕ) : Type 0 where
  j : ℕ
  here : i ≡ k + j
  within : j < length modules
  found : (d : NamedModule) → module_named modules name ≡ Some (get_or modules j d)

place_from : (name : List ℕ) (k : ℕ) (modules : List NamedModule) (i : ℕ) → position_from (bytes_eq name) k (map module_name modules) ≡ Some i → IsPlace name k modules i
place_from name k [] i e = absurd cc
place_from name k (m ∷ modules) i e = go (bytes_eq name m.name) refl (place_from name (k + 1) modules i) where
  go : (b : Bool) → bytes_eq name m.name ≡ b → (position_from (bytes_eq name) (k + 1) (map module_name modules) ≡ Some i → IsPlace name (k + 1) modules i) → IsPlace name k (m ∷ modules) i
  go true h later =
      let at : Some k ≡ Some i = sym (ap (λ b. cond b (Some k) (position_from (bytes_eq name) (k + 1) (map module_name modules))) h) ∙ e in
      let same : k ≡ i = cc in
      record { j = 0; here = omega (arith, same); within = omega arith; found = λ d. ap (λ b. cond b (Some m) (module_named modules name)) h }
  go false h later =
      let n = later (sym (ap (λ b. cond b (Some k) (position_from (bytes_eq name) (k + 1) (map module_name modules))) h) ∙ e) in
      record { j = suc n.j; here = omega (arith, n.here); within = omega (arith, n.within); found = λ d. ap (λ b. cond b (Some m) (module_named modules name)) h ∙ n.found d }

no_place_from : (name : List ℕ) (k : ℕ) (modules : List NamedModule) → position_from (bytes_eq name) k (map module_name modules) ≡ None → module_named modules name ≡ None
no_place_from name k [] e = refl
no_place_from name k (m ∷ modules) e = go (bytes_eq name m.name) refl (no_place_from name (k + 1) modules) where
  go : (b : Bool) → bytes_eq name m.name ≡ b → (position_from (bytes_eq name) (k + 1) (map module_name modules) ≡ None → module_named modules name ≡ None) → module_named (m ∷ modules) name ≡ None
  go true h later = absurd (let no : Some k ≡ None = sym (ap (λ b. cond b (Some k) (position_from (bytes_eq name) (k + 1) (map module_name modules))) h) ∙ e in cc)
  go false h later = ap (λ b. cond b (Some m) (module_named modules name)) h ∙ later (sym (ap (λ b. cond b (Some k) (position_from (bytes_eq name) (k + 1) (map module_name modules))) h) ∙ e)

pub module_within : (modules : List NamedModule) (known : List (List ℕ)) (name : List ℕ) (i : ℕ) → known ≡ map module_name modules → position (bytes_eq name) known ≡ Some i → i < length modules
module_within modules known name i e at =
    let found = place_from name 0 modules i (sym (position_from-zero (bytes_eq name) (map module_name modules)) ∙ ap (position (bytes_eq name)) (sym e) ∙ at) in
    omega (arith, found.here, found.within)

pub module_at : (modules : List NamedModule) (known : List (List ℕ)) (name : List ℕ) (i : ℕ) (d : NamedModule) → known ≡ map module_name modules → position (bytes_eq name) known ≡ Some i → module_named modules name ≡ Some (get_or modules i d)
module_at modules known name i d e at =
    let found = place_from name 0 modules i (sym (position_from-zero (bytes_eq name) (map module_name modules)) ∙ ap (position (bytes_eq name)) (sym e) ∙ at) in
    let here : i ≡ found.j = omega (arith, found.here) in
    found.found d ∙ ap (λ j. Some (get_or modules j d)) (sym here)

pub module_nowhere : (modules : List NamedModule) (known : List (List ℕ)) (name : List ℕ) → known ≡ map module_name modules → position (bytes_eq name) known ≡ None → module_named modules name ≡ None
module_nowhere modules known name e at = no_place_from name 0 modules (sym (position_from-zero (bytes_eq name) (map module_name modules)) ∙ ap (position (bytes_eq name)) (sym e) ∙ at)

-- the lines of a module that use names, sort by sort
pub unknown_in_turn : (found : List ℕ → Option NamedModule) (m : NamedModule) (names : List (List ℕ)) (a n i : Option ℕ) → names ≡ with_names [] (usable m) → a ≡ unknown_assign (is_among names) (assigns_from m) m.assigns
    → n ≡ unknown_next (is_among names) (nexts_from m) m.nexts → i ≡ unknown_instance found (is_among names) (instances_from m) m.instances → option_or (option_or a n) i ≡ unknown_in found m
unfolding unknown_in
unknown_in_turn found m names a n i e ea en ei =
    ap (λ o. option_or (option_or o n) i) ea ∙ ap (λ o. option_or (option_or (unknown_assign (is_among names) (assigns_from m) m.assigns) o) i) en
    ∙ ap (λ o. option_or (option_or (unknown_assign (is_among names) (assigns_from m) m.assigns) (unknown_next (is_among names) (nexts_from m) m.nexts)) o) ei
    ∙ ap (λ k. unknown_by found k m) (ap is_among e ∙ scope_knows (usable m))

-- what a look-up by a name that is this one finds
pub found_none : (modules : List NamedModule) (name this : List ℕ) (r : Option (Bor NamedModule)) → option_copied r ≡ module_named modules name → name ≡ this → r ≡ None → module_named modules this ≡ None
found_none modules name this r e same none = ap (module_named modules) (sym same) ∙ sym e ∙ ap option_copied none

pub found_some : (modules : List NamedModule) (name this : List ℕ) (r : Option (Bor NamedModule)) (m : Bor NamedModule) → option_copied r ≡ module_named modules name → name ≡ this → r ≡ Some m → module_named modules this ≡ Some m.now
found_some modules name this r m e same some = ap (module_named modules) (sym same) ∙ sym e ∙ ap option_copied some
