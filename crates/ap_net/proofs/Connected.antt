-- What instances drive and how they are named, as drafts grow.
use Rattle.std.proofs.Common.{◌≡◌, ◌≢◌, ℕ, ◌+◌, ◌<◌, ◌^◌, List, [], ◌∷◌, ◌++◌, length, map, Bool, true, false, refl, sym, ap, ◌∙◌, arith, append_assoc, append-nil}
use Rattle.std.specs.Prelude.{codes, if◌then◌else◌}
use Rattle.std.specs.Fmt.{decimal}
use Rattle.std.proofs.lemmas.Fmt.{decimal_injective}
use Rattle.std.specs.List.{AllByRecursion as Each}
use Rattle.std.proofs.lemmas.List.{map-append}
use Rattle.ap_net.specs.declared.cell.Wire.{Wire}
use Rattle.ap_net.specs.declared.net.ModuleNet.{ModuleNet}
use Rattle.ap_net.specs.declared.net.Assign.{Assign}
use Rattle.ap_net.specs.declared.net.Instance.{Instance}
use Rattle.ap_net.specs.Names.{IsNetName, IsNew, AreDistinct, IsNotNumbered, HasFresh, numbered}
use Rattle.ap_net.specs.Cells.{IsNet}
use Rattle.ap_net.specs.Wiring.{IsFree, Undriven, Unjoined, IsConnected, NoneTwice, driven_among, driven_by, names_taken, taken_names}
use Rattle.ap_net.proofs.Lists.{All-join, All-front, All-back, All-from, All-both, same_left}
use Rattle.ap_net.specs.Draft.{is_plain, wire_count}
use Rattle.ap_net.proofs.Wired.{IsNet-more, number-IsNet, AreDistinct-push, HasFresh-push, count_grows, wire_count-push}

-- a declared net's name is one more
pub names_taken-declare : (instances : List Instance) (nets : List ModuleNet) (net : ModuleNet) → names_taken instances (nets ++ net ∷ []) ≡ names_taken instances nets ++ net.name ∷ []
names_taken-declare instances nets net =
    let own : List (List ℕ) = map (λ (i : Instance). i.name) instances in
    ap (λ l. own ++ (codes "clk" ∷ codes "rst" ∷ l)) (map-append (λ (n : ModuleNet). n.name) nets (net ∷ [])) ∙ sym (append_assoc own (taken_names nets) (net.name ∷ []))

-- what holds of each connected net holds of each driven one
pub driven_among-all : (P : ℕ → Type 0) (drives : List Bool) (nets : List Wire) → Each (λ (w : Wire). P w.number) nets → Each P (driven_among drives nets)
driven_among-all P [] nets h = tt
driven_among-all P (d ∷ drives) [] h = tt
driven_among-all P (true ∷ drives) (w ∷ nets) h = (h.0, driven_among-all P drives nets h.1)
driven_among-all P (false ∷ drives) (w ∷ nets) h = driven_among-all P drives nets h.1

pub driven_by-all : (P : ℕ → Type 0) (instances : List Instance) → Each (λ (i : Instance). Each (λ (w : Wire). P w.number) i.nets) instances → Each P (driven_by instances)
driven_by-all P [] h = tt
driven_by-all P (i ∷ instances) h = All-join P (driven_among i.drives i.nets) (driven_by instances) (driven_among-all P i.drives i.nets h.0) (driven_by-all P instances h.1)

-- the driven nets are declared
pub driven_within : (nets : List ModuleNet) (instances : List Instance) → Each (λ (i : Instance). Each (IsNet nets) i.nets) instances → Each (λ n. n < length nets) (driven_by instances)
driven_within nets instances h = driven_by-all (λ n. n < length nets) instances
    (All-from (λ (i : Instance). Each (IsNet nets) i.nets) (λ (i : Instance). Each (λ (w : Wire). w.number < length nets) i.nets) (λ i. All-from (IsNet nets) (λ (w : Wire). w.number < length nets) (number-IsNet nets) i.nets) instances h)

-- a declared net may be driven as before
pub IsFree-below : (nets more : List ModuleNet) (n : ℕ) → n < length nets → IsFree nets n → IsFree (nets ++ more) n
IsFree-below nets more n lt f = λ net at s. f net (sym (same_left nets more n lt) ∙ at) s

-- to declare a net keeps the rules of instances
pub IsConnected-declare : (nets : List ModuleNet) (assigns : List Assign) (instances : List Instance) (net : ModuleNet) → IsNew net.name (names_taken instances nets)
    → IsConnected nets assigns instances → IsConnected (nets ++ net ∷ []) assigns instances
IsConnected-declare nets assigns instances net new h = record {
  names = h.names;
  distinct = rw (names_taken-declare instances nets net) (AreDistinct-push (names_taken instances nets) net.name new h.distinct);
  declared = All-from (λ (i : Instance). Each (IsNet nets) i.nets) (λ (i : Instance). Each (IsNet (nets ++ net ∷ [])) i.nets)
      (λ i. All-from (IsNet nets) (IsNet (nets ++ net ∷ [])) (IsNet-more nets (net ∷ [])) i.nets) instances h.declared;
  paired = h.paired;
  free = All-both (λ n. n < length nets) (IsFree nets) (IsFree (nets ++ net ∷ [])) (λ n. IsFree-below nets (net ∷ []) n) (driven_by instances) (driven_within nets instances h.declared) h.free;
  undriven = h.undriven;
  once = h.once;
}

-- to drive a net that no instance drives does
pub IsConnected-assign : (nets : List ModuleNet) (assigns : List Assign) (instances : List Instance) (a : Assign) → Unjoined instances a.to.number
    → IsConnected nets assigns instances → IsConnected nets (assigns ++ a ∷ []) instances
IsConnected-assign nets assigns instances a unjoined h = record {
  names = h.names;
  distinct = h.distinct;
  declared = h.declared;
  paired = h.paired;
  free = h.free;
  undriven = All-both (Undriven assigns) (λ n. n ≢ a.to.number) (Undriven (assigns ++ a ∷ [])) (λ n none ne. All-join (λ (b : Assign). b.to.number ≢ n) assigns (a ∷ []) none ((λ e. ne (sym e)), tt)) (driven_by instances) h.undriven unjoined;
  once = h.once;
}

pub IsConnected-nil : (nets : List ModuleNet) (assigns : List Assign) → AreDistinct (taken_names nets) → IsConnected nets assigns []
IsConnected-nil nets assigns h = record { names = tt; distinct = h; declared = tt; paired = tt; free = tt; undriven = tt; once = tt }

-- one more between two lists of names
AreDistinct-insert : (xs ys : List (List ℕ)) (name : List ℕ) → IsNew name (xs ++ ys) → AreDistinct (xs ++ ys) → AreDistinct ((xs ++ name ∷ []) ++ ys)
AreDistinct-insert [] ys name new h = (new, h)
AreDistinct-insert (x ∷ xs) ys name new h = (
  All-join (λ other. other ≢ x) (xs ++ name ∷ []) ys
      (All-join (λ other. other ≢ x) xs (name ∷ []) (All-front (λ other. other ≢ x) xs ys h.0) ((λ e. new.0 (sym e)), tt))
      (All-back (λ other. other ≢ x) xs ys h.0),
  AreDistinct-insert xs ys name new.1 h.1,
)

pub driven_by-append : (xs ys : List Instance) → driven_by (xs ++ ys) ≡ driven_by xs ++ driven_by ys
driven_by-append [] ys = refl
driven_by-append (i ∷ xs) ys = ap (λ l. driven_among i.drives i.nets ++ l) (driven_by-append xs ys) ∙ sym (append_assoc (driven_among i.drives i.nets) (driven_by xs) (driven_by ys))

driven_by-push : (instances : List Instance) (i : Instance) → driven_by (instances ++ i ∷ []) ≡ driven_by instances ++ driven_among i.drives i.nets
driven_by-push instances i = driven_by-append instances (i ∷ []) ∙ ap (λ l. driven_by instances ++ l) (append-nil (driven_among i.drives i.nets))

pub NoneTwice-join : (xs ys : List ℕ) → NoneTwice xs → NoneTwice ys → Each (λ y. Each (λ x. x ≢ y) xs) ys → NoneTwice (xs ++ ys)
NoneTwice-join [] ys p q h = q
NoneTwice-join (x ∷ xs) ys p q h = (
  All-join (λ other. other ≢ x) xs ys p.0 (All-from (λ y. Each (λ z. z ≢ y) (x ∷ xs)) (λ y. y ≢ x) (λ y g e. g.0 (sym e)) ys h),
  NoneTwice-join xs ys p.1 q (All-from (λ y. Each (λ z. z ≢ y) (x ∷ xs)) (λ y. Each (λ z. z ≢ y) xs) (λ y g. g.1) ys h),
)

-- an instance more keeps the rules
pub IsConnected-instance : (nets : List ModuleNet) (assigns : List Assign) (instances : List Instance) (i : Instance) → IsNetName i.name → IsNew i.name (names_taken instances nets) → Each (IsNet nets) i.nets
    → length i.drives ≡ length i.nets → Each (IsFree nets) (driven_among i.drives i.nets) → Each (Undriven assigns) (driven_among i.drives i.nets) → Each (Unjoined instances) (driven_among i.drives i.nets)
    → NoneTwice (driven_among i.drives i.nets) → IsConnected nets assigns instances → IsConnected nets assigns (instances ++ i ∷ [])
IsConnected-instance nets assigns instances i name new declared paired free undriven unjoined apart h = record {
  names = All-join (λ (x : Instance). IsNetName x.name) instances (i ∷ []) h.names (name, tt);
  distinct = rw (map-append (λ (x : Instance). x.name) instances (i ∷ [])) (AreDistinct-insert (map (λ (x : Instance). x.name) instances) (taken_names nets) i.name new h.distinct);
  declared = All-join (λ (x : Instance). Each (IsNet nets) x.nets) instances (i ∷ []) h.declared (declared, tt);
  paired = All-join (λ (x : Instance). length x.drives ≡ length x.nets) instances (i ∷ []) h.paired (paired, tt);
  free = rw (driven_by-push instances i) (All-join (IsFree nets) (driven_by instances) (driven_among i.drives i.nets) h.free free);
  undriven = rw (driven_by-push instances i) (All-join (Undriven assigns) (driven_by instances) (driven_among i.drives i.nets) h.undriven undriven);
  once = rw (driven_by-push instances i) (NoneTwice-join (driven_by instances) (driven_among i.drives i.nets) h.once apart unjoined);
}

-- after a net that isn't named n and a number fresh wires can be had still
pub CanFresh-declare : (instances : List Instance) (nets : List ModuleNet) (net : ModuleNet) → IsNotNumbered net.name → HasFresh (names_taken instances nets) (wire_count nets)
    → HasFresh (names_taken instances (nets ++ net ∷ [])) (wire_count (nets ++ net ∷ []))
CanFresh-declare instances nets net other h = rw (names_taken-declare instances nets net, wire_count-push nets net)
    (HasFresh-push (names_taken instances nets) net.name (wire_count nets) (wire_count nets + (if is_plain net.role then 1 else 0)) (count_grows (is_plain net.role) (wire_count nets)) (λ k low high. other k high) h)

-- after a fresh wire further ones can be had
pub CanFresh-fresh : (instances : List Instance) (nets : List ModuleNet) (net : ModuleNet) → net.name ≡ numbered (wire_count nets) → is_plain net.role ≡ true → wire_count nets < 2 ^ 64
    → HasFresh (names_taken instances nets) (wire_count nets) → HasFresh (names_taken instances (nets ++ net ∷ [])) (wire_count (nets ++ net ∷ []))
CanFresh-fresh instances nets net named plain small h =
    let count : ℕ = wire_count nets in
    let more : wire_count (nets ++ net ∷ []) ≡ count + 1 = wire_count-push nets net ∙ rw plain refl in
    rw (names_taken-declare instances nets net, more)
    (HasFresh-push (names_taken instances nets) net.name count (count + 1) (omega arith)
    (λ k low high e. let tails : decimal count ≡ decimal k = let f : numbered count ≡ numbered k = sym named ∙ e in cc in let same : count ≡ k = decimal_injective count k small high tails in absurd (omega arith)) h)

-- no instance drives a net past the end
pub Unjoined-end : (nets : List ModuleNet) (instances : List Instance) → Each (λ (i : Instance). Each (IsNet nets) i.nets) instances → Unjoined instances (length nets)
Unjoined-end nets instances h = All-from (λ n. n < length nets) (λ n. n ≢ length nets) (λ n lt e. absurd (omega arith)) (driven_by instances) (driven_within nets instances h)

-- a name that is new is none of the nets'
pub IsNew-taken : (instances : List Instance) (nets : List ModuleNet) (name : List ℕ) → IsNew name (names_taken instances nets) → IsNew name (taken_names nets)
IsNew-taken instances nets name h = All-back (λ other. other ≢ name) (map (λ (i : Instance). i.name) instances) (taken_names nets) h
