-- The wires of a unit that is made of inputs, fresh wires and the output y are named n and digits.
use Rattle.std.proofs.Common.{◌≡◌, ◌≢◌, ℕ, suc, zero, ◌+◌, ◌%◌, ◌^◌, ◌<◌, Bool, true, false, List, [], ◌∷◌, ◌++◌, length, map, Some, refl, sym, ap, ◌∙◌, arith, zero-add}
use Rattle.std.specs.Prelude.{slice_get, option_map, codes, IsTrue}
use Rattle.std.specs.Char.{is_ascii_digit}
use Rattle.std.specs.List.{list_all, AllByRecursion as Each}
use Rattle.std.specs.Fmt.{decimal}
use Rattle.std.proofs.lemmas.Fmt.{decimal_by_steps}
use Rattle.std.proofs.lemmas.List.Folds.{list_all-append}
use Rattle.std.proofs.lemmas.Bool.Decides.{nat_tests}
use Rattle.std.proofs.lemmas.Option.{slice_get_within, slice_get-map}
use Rattle.ap_net.specs.declared.net.Role.{Role}
use Rattle.ap_net.specs.declared.net.Role.TheVariants as role
use Rattle.ap_net.specs.declared.net.ModuleNet.{ModuleNet}
use Rattle.ap_net.specs.declared.net.Port.{Port}
use Rattle.ap_net.specs.declared.net.Instance.{Instance}
use Rattle.ap_net.specs.declared.net.Net.{Net}
use Rattle.ap_net.specs.Names.{IsNew, IsNotNumbered, numbered}
use Rattle.ap_net.specs.Wiring.{reset_of, taken_names, names_taken}
use Rattle.ap_net.specs.Draft.{Draft, RegistersBelow, names_of}
use Rattle.ap_net.specs.Making.{Makes}
use Rattle.ap_net.specs.Modules.{ModuleText, IsModule, nets_of, nets_among, port_net, wire_net, reg_net, regs_among, ports_among}
use Rattle.ap_net.specs.Finished.{IsFinished}
use Rattle.ap_net.proofs.Laws.{IsNew-made}
use Rattle.ap_unit.specs.Units.{ports_by}
use Rattle.ap_unit.specs.Named.{are_digits, is_lettered, NamesPlainly}
use Rattle.ap_unit.specs.Pieces.{with_inputs, output_net}
use Rattle.ap_unit.proofs.Placed.{not_there, same_place}
use Rattle.ap_unit.proofs.Names.{Each-by_get}
use Rattle.ap_bits.specs.declared.card.Latency.TheVariants.{One}

-- a decimal number is made of digits
digit : (d : ℕ) → d < 10 → is_ascii_digit (48 + d) ≡ true
digit d h = grind (arith, nat_tests)

decimal_digits : (n : ℕ) → n < 2 ^ 64 → list_all is_ascii_digit (decimal n) ≡ true
decimal_digits = decimal_by_steps (λ m ds. list_all is_ascii_digit ds ≡ true)
    (λ m l. rw (digit m l) refl)
    (λ m ds l h. list_all-append is_ascii_digit ds ((48 + m % 10) ∷ []) ∙ rw (h, digit (m % 10) (omega arith)) refl)

some_and_all : (ds : List ℕ) (d : ℕ) → list_all is_ascii_digit (ds ++ d ∷ []) ≡ true → are_digits (ds ++ d ∷ []) ≡ true
some_and_all [] d h = h
some_and_all (e ∷ ds) d h = h

are_digits-decimal : (n : ℕ) → n < 2 ^ 64 → are_digits (decimal n) ≡ true
are_digits-decimal = decimal_by_steps (λ m ds. are_digits ds ≡ true)
    (λ m l. rw (digit m l) refl)
    (λ m ds l h. some_and_all ds (48 + m % 10) (list_all-append is_ascii_digit ds ((48 + m % 10) ∷ []) ∙ rw (each ds h, digit (m % 10) (omega arith)) refl))
  where
    each : (ds : List ℕ) → are_digits ds ≡ true → list_all is_ascii_digit ds ≡ true
    each [] h = cc
    each (d ∷ ds) h = h

-- a name that isn't n and digits isn't one of those of fresh wires
pub IsNotNumbered-other : (name : List ℕ) → is_lettered 110 name ≡ false → IsNotNumbered name
IsNotNumbered-other name h k small e =
    let yes : is_lettered 110 (numbered k) ≡ true = are_digits-decimal k small in
    let clash : is_lettered 110 (numbered k) ≡ false = sym (ap (is_lettered 110) e) ∙ h in cc

pub get_left : {X : Type 0} (xs ys : List X) (i : ℕ) (x : X) → slice_get xs i ≡ Some x → slice_get (xs ++ ys) i ≡ Some x
get_left [] ys i x h = cc
get_left (y ∷ xs) ys zero x h = h
get_left (y ∷ xs) ys (suc i) x h = get_left xs ys i x h

pub get_right : {X : Type 0} (xs ys : List X) (n : ℕ) → slice_get (xs ++ ys) (length xs + n) ≡ slice_get ys n
get_right [] ys n = rw zero-add refl
get_right (x ∷ xs) ys n = let e : suc (length xs) + n ≡ suc (length xs + n) = omega arith in rw e (get_right xs ys n)

-- no net is a register
no_registers : (nets : List ModuleNet) → ((n : ℕ) (net : ModuleNet) → slice_get nets n ≡ Some net → net.role ≡ role.Register (reset_of net.role) → ⊥) → regs_among nets ≡ []
no_registers [] h = refl
no_registers (net ∷ nets) h = by_role net.role refl (no_registers nets (λ n x at. h (suc n) x at))
  where
    by_role : (r : Role) → net.role ≡ r → regs_among nets ≡ [] → regs_among (net ∷ nets) ≡ []
    by_role role.Input e rest = rw e rest
    by_role role.Output e rest = rw e rest
    by_role role.Plain e rest = rw e rest
    by_role (role.Register reset) e rest = absurd (h 0 net refl (e ∙ ap (λ (q : Role). role.Register (reset_of q)) (sym e)))

each_back : {X : Type 0} (P : X → Type 0) (xs ys : List X) → Each P (xs ++ ys) → Each P ys
each_back P [] ys h = h
each_back P (x ∷ xs) ys h = each_back P xs ys h.1

-- a net has no name that is new
pub not_new : (instances : List Instance) (nets : List ModuleNet) (name : List ℕ) (n : ℕ) (net : ModuleNet) → IsNew name (names_taken instances nets) → slice_get nets n ≡ Some net → net.name ≢ name
not_new instances nets name n net new at = not_there name nets n net (each_back (λ other. other ≢ name) (map (λ (i : Instance). i.name) instances) (taken_names nets) new).1.1 at

module _ (old new : Draft) (s w : ℕ) (made : Makes (with_inputs old.name s w) old) (nets : new.nets ≡ old.nets ++ output_net (codes "y") w ∷ [])
    (its_ports : ports_among new.nets ≡ ports_by One s w) (below : RegistersBelow new.nets 0) where
  module _ (m : ModuleText) (rules : IsModule m) (f : IsFinished new m) where
    its : m.ports ≡ ports_by One s w
    its = f.ports ∙ its_ports

    -- the place of a wire
    wire_at : (i : ℕ) (x : Net) → slice_get m.wires i ≡ Some x → slice_get (nets_of m) (4 + i) ≡ Some (wire_net x)
    wire_at i x at =
        let long : length (map port_net m.ports) ≡ 4 = ap (λ (ports : List Port). length (map port_net ports)) its in
        let here : slice_get (map wire_net m.wires) i ≡ Some (wire_net x) = slice_get-map wire_net m.wires i ∙ ap (option_map wire_net) at in
        get_left (map port_net m.ports ++ map wire_net m.wires) (map reg_net m.regs) (4 + i) (wire_net x)
        (ap (λ n. slice_get (map port_net m.ports ++ map wire_net m.wires) (n + i)) (sym long) ∙ get_right (map port_net m.ports) (map wire_net m.wires) i ∙ here)

    -- a wire has none of the names that were there before
    other_name : (i : ℕ) (x : Net) → slice_get m.wires i ≡ Some x → (p : ℕ) (net : ModuleNet) → p < 4 → slice_get (nets_among (ports_by One s w) m.wires m.regs) p ≡ Some net → net.name ≢ x.name
    other_name i x at p net lt there e =
        let there' : slice_get (nets_of m) p ≡ Some net = ap (λ (ports : List Port). slice_get (nets_among ports m.wires m.regs) p) its ∙ there in
        let clash : p ≡ 4 + i = same_place (nets_of m) rules.wired.distinct.1.1 p (4 + i) net (wire_net x) there' (wire_at i x at) e in
        omega arith

    new_name : (i : ℕ) (x : Net) → slice_get m.wires i ≡ Some x → IsNew x.name (names_of (with_inputs old.name s w))
    new_name i x at =
        let clk = not_there (codes "clk") (nets_of m) (4 + i) (wire_net x) rules.wired.distinct.0.1 (wire_at i x at) in
        let rst = not_there (codes "rst") (nets_of m) (4 + i) (wire_net x) rules.wired.distinct.1.0 (wire_at i x at) in (
          λ e. clk (sym e),
          (
            λ e. rst (sym e),
            (
              other_name i x at 0 _ (omega arith) refl,
              (other_name i x at 1 _ (omega arith) refl, (other_name i x at 2 _ (omega arith) refl, tt)),
            ),
          ),
        )

    wire_named : (i : ℕ) (x : Net) → slice_get m.wires i ≡ Some x → IsTrue (is_lettered 110 x.name)
    wire_named i x at = by_test (is_lettered 110 x.name) refl
      where
        by_test : (t : Bool) → is_lettered 110 x.name ≡ t → IsTrue (is_lettered 110 x.name)
        by_test true e = e
        by_test false e =
            let fresh : IsNew x.name (names_of old) = made.names x.name (IsNotNumbered-other x.name e) (new_name i x at) in
            let more = IsNew-made old.instances old.nets (output_net (codes "y") w) x.name (other_name i x at 3 _ (omega arith) refl) fresh in
            let inside : 4 + i < length (nets_of m) = slice_get_within (nets_of m) (4 + i) (wire_net x) (wire_at i x at) in
            let n : ℕ = f.back (4 + i) in
            let there : slice_get new.nets n ≡ Some (wire_net x) = sym (f.nets n (f.within (4 + i) inside)) ∙ ap (slice_get (nets_of m)) (f.covers (4 + i) inside) ∙ wire_at i x at in
            absurd (not_new old.instances (old.nets ++ output_net (codes "y") w ∷ []) x.name n (wire_net x) more (ap (λ l. slice_get l n) (sym nets) ∙ there) refl)

  pub named_plainly : NamesPlainly new
  named_plainly m rules f = record {
    wires = Each-by_get (λ (x : Net). IsTrue (is_lettered 110 x.name)) m.wires (wire_named m rules f);
    regs = rw (f.regs ∙ no_registers new.nets (λ n net at is. let lt = below n net at is in absurd (omega arith))) tt;
  }
