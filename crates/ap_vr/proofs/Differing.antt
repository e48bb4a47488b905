-- Names of which none is declared twice differ from each other.
use Rattle.std.proofs.Common.{◌≡◌, ◌≢◌, ℕ, zero, suc, ◌+◌, Bool, true, false, cond, List, [], ◌∷◌, ◌++◌, map, Some, None, refl, sym, ap, subst, ◌∙◌, append_assoc}
use Rattle.std.specs.List.{AllByRecursion as Each}
use Rattle.std.specs.Prelude.{codes, slice_get}
use Rattle.std.specs.Str.{bytes_eq}
use Rattle.std.proofs.lemmas.Bool.{or_parts}
use Rattle.std.proofs.lemmas.List.Folds.{list_any-append}
use Rattle.std.proofs.lemmas.Slice.Eq.{bytes_eq-Decides}
use Rattle.ap_net.specs.Names.{AreDistinct}
use Rattle.ap_net.proofs.Lists.{All-at, All-from, All-join, some_same}
use Rattle.ap_vr.specs.declared.module.NamedModule.{NamedModule}
use Rattle.ap_vr.specs.Scope.{first_repeat, instance_name, is_among, module_name, net_name, net_names, own_names, port_name, repeated_after}
use Rattle.ap_vr.proofs.Rules.{IsFresh, later_fresh}

pub differs : (a b : List ℕ) → bytes_eq a b ≡ false → a ≢ b
differs a b h e = let same : bytes_eq a b ≡ true = (bytes_eq-Decides a b).1 e in cc

-- a name that isn't among others is none of them
pub none_is : (names : List (List ℕ)) (name : List ℕ) → is_among names name ≡ false → Each (λ other. other ≢ name) names
none_is [] name e = tt
none_is (x ∷ names) name e =
    let both = or_parts (bytes_eq name x) (is_among names name) e in
    ((λ same. differs name x both.0 (sym same)), none_is names name both.1)

among_parts : (names more : List (List ℕ)) (name : List ℕ) → is_among (names ++ more) name ≡ false → (is_among names name ≡ false) × (is_among more name ≡ false)
among_parts names more name e = or_parts (is_among names name) (is_among more name) (sym (list_any-append (bytes_eq name) names more) ∙ e)

not_last : (before : List (List ℕ)) (name other : List ℕ) → is_among (before ++ name ∷ []) other ≡ false → other ≢ name
not_last before name other e = differs other name (or_parts (bytes_eq other name) false (among_parts before (name ∷ []) other e).1).0

-- names of which none stands before it or is one of some others
pub record AreNew (before names : List (List ℕ)) : Type 0 where
  pub apart : Each (λ name. is_among before name ≡ false) names
  pub distinct : AreDistinct names

new_more : (before : List (List ℕ)) (name : List ℕ) (names : List (List ℕ)) → is_among before name ≡ false → AreNew (before ++ name ∷ []) names → AreNew before (name ∷ names)
new_more before name names h later = record {
  apart = (h, All-from (λ n. is_among (before ++ name ∷ []) n ≡ false) (λ n. is_among before n ≡ false) (λ n e. (among_parts before (name ∷ []) n e).0) names later.apart);
  distinct = (All-from (λ n. is_among (before ++ name ∷ []) n ≡ false) (λ n. n ≢ name) (λ n e. not_last before name n e) names later.apart, later.distinct);
}

pub are_new : (before : List (List ℕ)) (line : ℕ) (names : List (List ℕ)) → first_repeat before line names ≡ None → AreNew before names
are_new before line [] e = record { apart = tt; distinct = tt }
are_new before line (name ∷ names) e = go (is_among before name) refl (are_new (before ++ name ∷ []) (line + 1) names) where
  go : (b : Bool) → is_among before name ≡ b → (first_repeat (before ++ name ∷ []) (line + 1) names ≡ None → AreNew (before ++ name ∷ []) names) → AreNew before (name ∷ names)
  go true h later = let no : Some line ≡ None = sym (ap (λ b. cond b (Some line) (first_repeat (before ++ name ∷ []) (line + 1) names)) h) ∙ e in cc
  go false h later = new_more before name names h (later (sym (ap (λ b. cond b (Some line) (first_repeat (before ++ name ∷ []) (line + 1) names)) h) ∙ e))

pub distinct-append : (xs ys : List (List ℕ)) → AreDistinct xs → AreNew xs ys → AreDistinct (xs ++ ys)
distinct-append [] ys d new = new.distinct
distinct-append (x ∷ xs) ys d new = (
  All-join (λ n. n ≢ x) xs ys d.0 (All-from (λ n. is_among (x ∷ xs) n ≡ false) (λ n. n ≢ x) (λ n e. differs n x (or_parts (bytes_eq n x) (is_among xs n) e).0) ys new.apart),
  distinct-append xs ys d.1 (record { apart = All-from (λ n. is_among (x ∷ xs) n ≡ false) (λ n. is_among xs n ≡ false) (λ n e. (or_parts (bytes_eq n x) (is_among xs n) e).1) ys new.apart; distinct = new.distinct }),
)

pub distinct-before : (xs ys : List (List ℕ)) → AreDistinct ys → AreNew ys xs → AreDistinct (xs ++ ys)
distinct-before [] ys d new = d
distinct-before (x ∷ xs) ys d new = (
  All-join (λ n. n ≢ x) xs ys new.distinct.0 (none_is ys x new.apart.0),
  distinct-before xs ys d (record { apart = new.apart.1; distinct = new.distinct.1 }),
)

own_distinct : AreDistinct own_names
own_distinct = ((differs (codes "rst") (codes "clk") refl, tt), (tt, tt))

pub own_first : (m : NamedModule) → ((own_names ++ map port_name m.ports) ++ map net_name m.wires) ++ map net_name m.regs ≡ own_names ++ net_names m
own_first m =
    ap (λ l. l ++ map net_name m.regs) (append_assoc own_names (map port_name m.ports) (map net_name m.wires))
    ∙ append_assoc own_names (map port_name m.ports ++ map net_name m.wires) (map net_name m.regs)

-- the names of a module's nets, after those of clk and rst
pub nets_distinct : (m : NamedModule) → IsFresh m → AreDistinct (own_names ++ net_names m)
nets_distinct m h =
    let ports = distinct-append own_names (map port_name m.ports) own_distinct (are_new own_names (m.line + 3) (map port_name m.ports) h.ports) in
    let wires = distinct-append (own_names ++ map port_name m.ports) (map net_name m.wires) ports (are_new _ _ (map net_name m.wires) h.wires) in
    let regs = distinct-append ((own_names ++ map port_name m.ports) ++ map net_name m.wires) (map net_name m.regs) wires (are_new _ _ (map net_name m.regs) h.regs) in
    subst AreDistinct (own_first m) regs

-- and those of its instances
pub instances_distinct : (m : NamedModule) → IsFresh m → AreDistinct (map instance_name m.instances ++ (own_names ++ net_names m))
instances_distinct m h =
    let new = subst (λ before. AreNew before (map instance_name m.instances)) (own_first m) (are_new _ _ (map instance_name m.instances) h.instances) in
    distinct-before (map instance_name m.instances) (own_names ++ net_names m) (nets_distinct m h) new

pub net_names_distinct : (m : NamedModule) → IsFresh m → AreDistinct (net_names m)
net_names_distinct m h = (nets_distinct m h).1.1

-- a name of names that differ stands at one place
pub one_place : (names : List (List ℕ)) (i j : ℕ) (name : List ℕ) → AreDistinct names → slice_get names i ≡ Some name → slice_get names j ≡ Some name → i ≡ j
one_place [] i j name d a b = cc
one_place (x ∷ names) zero zero name d a b = refl
one_place (x ∷ names) zero (suc j) name d a b = absurd (All-at (λ n. n ≢ x) names j name d.0 b (sym (some_same a)))
one_place (x ∷ names) (suc i) zero name d a b = absurd (All-at (λ n. n ≢ x) names i name d.0 a (sym (some_same b)))
one_place (x ∷ names) (suc i) (suc j) name d a b = ap suc (one_place names i j name d.1 a b)

-- the names of modules
pub modules_new : (names : List (List ℕ)) (modules : List NamedModule) → repeated_after names modules ≡ None → AreNew names (map module_name modules)
modules_new names [] e = record { apart = tt; distinct = tt }
modules_new names (m ∷ modules) e =
    let three = later_fresh names m modules e in
    new_more names m.name (map module_name modules) three.0 (modules_new (names ++ m.name ∷ []) modules three.2)
