-- What the functions that build a netlist rest on: reset values by the places of their lines, and modules as far as a loop has come.
use Rattle.std.proofs.Common.{◌≡◌, ◌≢◌, ℕ, zero, suc, ◌+◌, ◌<◌, ◌≤◌, Bool, true, false, cond, List, [], ◌∷◌, ◌++◌, length, map, take, get_or, Option, Some, None, position, refl, sym, ap, subst, ◌∙◌, arith, append_assoc, append-nil}
use Rattle.std.specs.Borrow.{Bor}
use Rattle.std.specs.List.{AllByRecursion as Each, position_from}
use Rattle.std.specs.Option.{option_map_or}
use Rattle.std.specs.Prelude.{find, slice_get}
use Rattle.std.specs.Str.{bytes_eq}
use Rattle.std.proofs.lemmas.Iterator.Adapters.{position_from-zero}
use Rattle.std.proofs.lemmas.List.{map-append, take_all, take_more}
use Rattle.std.proofs.lemmas.Option.{slice_get_read}
use Rattle.ap_net.specs.declared.cell.Wire.{Wire}
use Rattle.ap_net.specs.declared.net.Assign.{Assign}
use Rattle.ap_net.specs.declared.net.ModuleNet.{ModuleNet}
use Rattle.ap_net.specs.declared.net.Next.{Next}
use Rattle.ap_net.specs.Cells.{CellFits}
use Rattle.ap_net.specs.Modules.{IsModule, ModuleText, nets_of}
use Rattle.ap_net.specs.Wiring.{ClockedOnce}
use Rattle.ap_net.proofs.Lists.{All-unmap, some_same}
use Rattle.ap_vr.specs.declared.line.NamedAssign.{NamedAssign}
use Rattle.ap_vr.specs.declared.line.NamedNext.{NamedNext}
use Rattle.ap_vr.specs.declared.line.Right.{Right}
use Rattle.ap_vr.specs.declared.line.Right.TheVariants as right
use Rattle.ap_vr.specs.declared.module.NamedModule.{NamedModule}
use Rattle.ap_vr.specs.Built.{AreClockedOnce, HasSmallPlaces, assign_of, built, built_after, built_in, cell_of, next_of, register_name, reset_among, wire_of}
use Rattle.ap_vr.specs.Judged.{IsFaultless}
use Rattle.ap_vr.specs.Named.{IsNamedModule}
use Rattle.ap_vr.specs.Nets.{net_forms, width_of}
use Rattle.ap_vr.specs.Scope.{is_among, module_name, module_named, usable}
use Rattle.ap_vr.specs.Tables.{IsDistinct, listed, with_name, with_names}
use Rattle.ap_vr.proofs.BuiltModule.{built_keeps}
use Rattle.ap_vr.proofs.NameTables.{among_append, or_neither, with_names-append, with_new}
use Rattle.ap_vr.proofs.Rules.{AreFaultless, IsFaultlessModule, each_faultless}
use Rattle.ap_vr.proofs.Scoping.{found_more, not_repeated}
use Rattle.ap_vr.proofs.Words.{other_bytes}

-- the line that drives a register by its place in the table
record IsPlace (name : List ℕ) (k : ℕ) (nexts : List NamedNext) (i : ℕ) : Type 0 where
  j : ℕ
  here : i ≡ k + j
  found : find (λ (x : NamedNext). bytes_eq name x.register) nexts ≡ slice_get nexts j

place_from : (name : List ℕ) (k : ℕ) (nexts : List NamedNext) (i : ℕ) → position_from (bytes_eq name) k (map register_name nexts) ≡ Some i → IsPlace name k nexts i
place_from name k [] i e = cc
place_from name k (x ∷ nexts) i e = go (bytes_eq name x.register) refl (place_from name (k + 1) nexts i) where
  go : (b : Bool) → bytes_eq name x.register ≡ b → (position_from (bytes_eq name) (k + 1) (map register_name nexts) ≡ Some i → IsPlace name (k + 1) nexts i) → IsPlace name k (x ∷ nexts) i
  go true h later =
      let at : Some k ≡ Some i = sym (ap (λ b. cond b (Some k) (position_from (bytes_eq name) (k + 1) (map register_name nexts))) h) ∙ e in
      let same : k ≡ i = some_same at in
      record { j = 0; here = omega (arith, same); found = ap (λ b. cond b (Some x) (find (λ (y : NamedNext). bytes_eq name y.register) nexts)) h }
  go false h later =
      let n = later (sym (ap (λ b. cond b (Some k) (position_from (bytes_eq name) (k + 1) (map register_name nexts))) h) ∙ e) in
      record { j = suc n.j; here = omega (arith, n.here); found = ap (λ b. cond b (Some x) (find (λ (y : NamedNext). bytes_eq name y.register) nexts)) h ∙ n.found }

no_place_from : (name : List ℕ) (k : ℕ) (nexts : List NamedNext) → position_from (bytes_eq name) k (map register_name nexts) ≡ None → find (λ (x : NamedNext). bytes_eq name x.register) nexts ≡ None
no_place_from name k [] e = refl
no_place_from name k (x ∷ nexts) e = go (bytes_eq name x.register) refl (no_place_from name (k + 1) nexts) where
  go : (b : Bool) → bytes_eq name x.register ≡ b → (position_from (bytes_eq name) (k + 1) (map register_name nexts) ≡ None → find (λ (y : NamedNext). bytes_eq name y.register) nexts ≡ None)
      → find (λ (y : NamedNext). bytes_eq name y.register) (x ∷ nexts) ≡ None
  go true h later = let no : Some k ≡ None = sym (ap (λ b. cond b (Some k) (position_from (bytes_eq name) (k + 1) (map register_name nexts))) h) ∙ e in cc
  go false h later = ap (λ b. cond b (Some x) (find (λ (y : NamedNext). bytes_eq name y.register) nexts)) h ∙ later (sym (ap (λ b. cond b (Some k) (position_from (bytes_eq name) (k + 1) (map register_name nexts))) h) ∙ e)

-- the reset value of a register whose line stands at this place, and of one that no line drives
reset_by_place : (driven : List (List ℕ)) (nexts : List NamedNext) (name : List ℕ) (i : ℕ) (o : Option NamedNext) → driven ≡ map register_name nexts → position (bytes_eq name) driven ≡ Some i → slice_get nexts i ≡ o
    → option_map_or (λ (x : NamedNext). x.reset) o 0 ≡ reset_among nexts name
reset_by_place driven nexts name i o e at got =
    let p = place_from name 0 nexts i (sym (position_from-zero (bytes_eq name) (map register_name nexts)) ∙ ap (position (bytes_eq name)) (sym e) ∙ at) in
    let here : i ≡ p.j = omega (arith, p.here) in
    ap (λ q. option_map_or (λ (x : NamedNext). x.reset) q 0) (sym (p.found ∙ ap (slice_get nexts) (sym here) ∙ got))

pub reset_at_place : (driven : List (List ℕ)) (nexts : List NamedNext) (name : List ℕ) (i : ℕ) (x : NamedNext) → driven ≡ map register_name nexts → position (bytes_eq name) driven ≡ Some i → i < length nexts → x ≡ get_or nexts i x
    → x.reset ≡ reset_among nexts name
reset_at_place driven nexts name i x e at lt is = reset_by_place driven nexts name i (Some x) e at (slice_get_read nexts (length nexts) i x refl lt is)

pub reset_nowhere : (driven : List (List ℕ)) (nexts : List NamedNext) (name : List ℕ) → driven ≡ map register_name nexts → position (bytes_eq name) driven ≡ None → 0 ≡ reset_among nexts name
reset_nowhere driven nexts name e at =
    ap (λ q. option_map_or (λ (x : NamedNext). x.reset) q 0) (sym (no_place_from name 0 nexts (sym (position_from-zero (bytes_eq name) (map register_name nexts)) ∙ ap (position (bytes_eq name)) (sym e) ∙ at)))

-- registers that no two lines drive are named once
pub no_among : (names : List (List ℕ)) (name : List ℕ) → Each (λ n. n ≢ name) names → is_among names name ≡ false
no_among [] name h = refl
no_among (n ∷ names) name h = or_neither (bytes_eq name n) (is_among names name) (other_bytes name n (λ same. h.0 (sym same))) (no_among names name h.1)

once_after : (wire : List ℕ → Wire) (before : List (List ℕ)) (nexts : List NamedNext) → Each (λ (x : NamedNext). is_among before x.register ≡ false) nexts → ClockedOnce (map (next_of wire) nexts)
    → with_names before (map register_name nexts) ≡ before ++ map register_name nexts
once_after wire before [] apart once = sym (append-nil before)
once_after wire before (x ∷ nexts) apart once =
    ap (λ ns. with_names ns (map register_name nexts)) (with_new before x.register apart.0)
    ∙ once_after wire (before ++ x.register ∷ []) nexts (each nexts apart.1 (All-unmap (λ (y : Next). y.register.number ≢ (wire x.register).number) (next_of wire) nexts once.0)) once.1
    ∙ append_assoc before (x.register ∷ []) (map register_name nexts)
  where
    each : (ys : List NamedNext) → Each (λ (y : NamedNext). is_among before y.register ≡ false) ys → Each (λ (y : NamedNext). (wire y.register).number ≢ (wire x.register).number) ys
        → Each (λ (y : NamedNext). is_among (before ++ x.register ∷ []) y.register ≡ false) ys
    each [] a o = tt
    each (y ∷ ys) a o = (
      among_append before (x.register ∷ []) y.register
          ∙ or_neither (is_among before y.register) (is_among (x.register ∷ []) y.register) a.0 (no_among (x.register ∷ []) y.register ((λ same. o.0 (ap (λ n. (wire n).number) (sym same))), tt)),
      each ys a.1 o.1,
    )

pub clocked_apart : (found : List ℕ → Option NamedModule) (m : NamedModule) → IsModule (built_in found m) → AreClockedOnce m.nexts
clocked_apart found m h = once_after (wire_of (usable m) (net_forms m)) [] m.nexts (none m.nexts) h.wired.clocked_once where
  none : (nexts : List NamedNext) → Each (λ (x : NamedNext). is_among [] x.register ≡ false) nexts
  none [] = tt
  none (x ∷ nexts) = (refl, none nexts)

-- one module more that is built
after_append : (e modules : List NamedModule) (m : NamedModule) → built_after e (modules ++ m ∷ []) ≡ built_after e modules ++ built_in (module_named (e ++ modules)) m ∷ []
after_append e [] m = ap (λ l. built_in (module_named l) m ∷ []) (sym (append-nil e))
after_append e (n ∷ modules) m =
    ap (λ l. built_in (module_named e) n ∷ l) (after_append (e ++ n ∷ []) modules m)
    ∙ ap (λ l. built_in (module_named e) n ∷ (built_after (e ++ n ∷ []) modules ++ built_in (module_named l) m ∷ [])) (append_assoc e (n ∷ []) modules)

-- as far as a loop has come: those before are found, and built
pub record BuiltSoFar (modules : List NamedModule) (known : List (List ℕ)) (earlier : List (Bor NamedModule)) (made : List ModuleText) (i : ℕ) : Type 0 where
  pub names : known ≡ map module_name (listed earlier)
  pub found : module_named (listed earlier) ≡ module_named (take i modules)
  pub whole : made ≡ built (take i modules)

module _ (modules : List NamedModule) where
  pub built_begins : (known : List (List ℕ)) (earlier : List (Bor NamedModule)) (made : List ModuleText) → known ≡ [] → earlier ≡ [] → made ≡ [] → BuiltSoFar modules known earlier made 0
  built_begins known earlier made k e m = record {
    names = k ∙ ap (λ l. map module_name (listed l)) (sym e);
    found = ap (λ l. module_named (listed l)) e;
    whole = m;
  }

  pub built_further : (known new : List (List ℕ)) (earlier after : List (Bor NamedModule)) (made more : List ModuleText) (i : ℕ) (m : NamedModule) (whole : ModuleText) → BuiltSoFar modules known earlier made i → i < length modules
      → m ≡ get_or modules i m → whole ≡ built_in (module_named (listed earlier)) m → more ≡ made ++ whole ∷ [] → new ≡ map module_name (listed after) → module_named (listed after) ≡ module_named (listed earlier ++ m ∷ [])
      → BuiltSoFar modules new after more (i + 1)
  built_further known new earlier after made more i m whole far lt at is grown names found =
      let one_more : take (i + 1) modules ≡ take i modules ++ m ∷ [] = take_more modules i m lt ∙ ap (λ x. take i modules ++ x ∷ []) (sym at) in
      record {
        names = names;
        found = found ∙ found_more (listed earlier) (take i modules) m far.found ∙ ap module_named (sym one_more);
        whole = grown ∙ ap (λ l. l ++ whole ∷ []) far.whole ∙ ap (λ x. built (take i modules) ++ x ∷ []) (is ∙ ap (λ (f : List ℕ → Option NamedModule). built_in f m) far.found)
            ∙ sym (after_append [] (take i modules) m) ∙ ap built (sym one_more);
      }

  pub built_all : (known : List (List ℕ)) (earlier : List (Bor NamedModule)) (made : List ModuleText) (i : ℕ) → BuiltSoFar modules known earlier made i → length modules ≤ i → made ≡ built modules
  built_all known earlier made i far le = far.whole ∙ ap built (take_all i modules le)

-- a module that a loop has come to keeps its rules
faultless_at : (e modules : List NamedModule) (i : ℕ) (m : NamedModule) → Each IsNamedModule modules → AreFaultless e modules → i < length modules → m ≡ get_or modules i m → IsNamedModule m × IsFaultlessModule (module_named (e ++ take i modules)) m
faultless_at e [] i m rules h lt at = absurd (omega (arith, lt))
faultless_at e (n ∷ modules) zero m rules h lt at = (
  subst IsNamedModule (sym at) rules.0,
  subst (λ k. IsFaultlessModule (module_named (e ++ [])) k) (sym at) (subst (λ l. IsFaultlessModule (module_named l) n) (sym (append-nil e)) h.0),
)
faultless_at e (n ∷ modules) (suc i) m rules h lt at =
    let later = faultless_at (e ++ n ∷ []) modules i m rules.1 h.1 (omega (arith, lt)) at in
    (later.0, subst (λ l. IsFaultlessModule (module_named l) m) (append_assoc e (n ∷ []) (take i modules)) later.1)

module _ (modules : List NamedModule) (rules : Each IsNamedModule modules) (faultless : IsFaultless modules) (known : List (List ℕ)) (earlier : List (Bor NamedModule)) (made : List ModuleText) (i : ℕ) (m : NamedModule)
    (far : BuiltSoFar modules known earlier made i) (lt : i < length modules) (at : m ≡ get_or modules i m) where
  here : IsNamedModule m × IsFaultlessModule (module_named (take i modules)) m
  here = faultless_at [] modules i m rules (each_faultless modules faultless) lt at

  pub distinct_here : IsDistinct m
  distinct_here = not_repeated m here.1.fresh

  pub rules_here : IsModule (built_in (module_named (listed earlier)) m)
  rules_here = subst (λ (f : List ℕ → Option NamedModule). IsModule (built_in f m)) (sym far.found) (built_keeps (module_named (take i modules)) m here.0 here.1)

-- one register's name more in the table
pub registers_more : (nexts : List NamedNext) (i : ℕ) (x : NamedNext) (now new : List (List ℕ)) (name : List ℕ) → now ≡ with_names [] (map register_name (take i nexts)) → i < length nexts → x ≡ get_or nexts i x
    → name ≡ x.register → new ≡ with_name now name → new ≡ with_names [] (map register_name (take (i + 1) nexts))
registers_more nexts i x now new name far lt at same grown =
    let one_more : take (i + 1) nexts ≡ take i nexts ++ x ∷ [] = take_more nexts i x lt ∙ ap (λ y. take i nexts ++ y ∷ []) (sym at) in
    grown ∙ ap (with_name now) same ∙ ap (λ ns. with_name ns x.register) far
    ∙ sym (ap (λ l. with_names [] (map register_name l)) one_more ∙ ap (with_names []) (map-append register_name (take i nexts) (x ∷ [])) ∙ with_names-append [] (map register_name (take i nexts)) (x.register ∷ []))

-- the places of slices are small
small_places : (nets : List ModuleNet) (wire : List ℕ → Wire) (bits : ℕ) (r : Right) → CellFits nets bits (cell_of wire r) → HasSmallPlaces r
small_places nets wire bits (right.Const w value) h = tt
small_places nets wire bits (right.Copy a) h = tt
small_places nets wire bits (right.Not a) h = tt
small_places nets wire bits (right.Two o a b) h = tt
small_places nets wire bits (right.Choose s a b) h = tt
small_places nets wire bits (right.Cat a b) h = tt
small_places nets wire bits (right.Slice a high low) h = (omega (arith, h.2, h.0.high), omega (arith, h.1, h.2, h.0.high))

pub all_small : (found : List ℕ → Option NamedModule) (m : NamedModule) → IsModule (built_in found m) → Each (λ (a : NamedAssign). HasSmallPlaces a.right) m.assigns
all_small found m h = by m.assigns h.wired.cells where
  by : (assigns : List NamedAssign) → Each (λ (a : Assign). CellFits (nets_of (built_in found m)) a.to.width a.cell) (map (assign_of (wire_of (usable m) (net_forms m))) assigns) → Each (λ (a : NamedAssign). HasSmallPlaces a.right) assigns
  by [] c = tt
  by (a ∷ assigns) c = (small_places (nets_of (built_in found m)) (wire_of (usable m) (net_forms m)) (width_of (usable m) (net_forms m) a.to) a.right c.0, by assigns c.1)
