use Rattle.std.proofs.Common.{◌≡◌, ◌≢◌, ℕ, suc, zero, ◌&&◌, List, [], ◌∷◌, length, Option, Some, None, Bool, true, false, refl, sym, ap, ◌∙◌, arith, eq-eqb}
use Rattle.std.specs.Prelude.{slice_get, slice_index, ◌==◌, if◌then◌else◌}
use Rattle.std.specs.Str.{bytes_eq}
use Rattle.std.proofs.lemmas.Slice.Eq.{bytes_eq-Decides}
use Rattle.std.proofs.lemmas.Bool.Decides.{Decides-eqb}
use Rattle.ap_net.specs.declared.net.FlatNet.{FlatNet}
use Rattle.ap_net.specs.declared.net.Next.{Next}
use Rattle.ap_net.specs.Wiring.{ClockedOnce}
use Rattle.ap_net.specs.Flat.{NamesDiffer, is_named, names_net, value_in_part, register_among, NamesAreFound, RegistersAreFound}
use Rattle.ap_net.proofs.Lists.{All-at, some_same}

-- the test tells the net of this part and name
pub named_is : (part : ℕ) (name : List ℕ) (net : FlatNet) → net.part ≡ part → net.name ≡ name → is_named part name net ≡ true
named_is part name net p n = let yes : (net.part == part) ≡ true = eq-eqb net.part part p in let yes' : bytes_eq net.name name ≡ true = (bytes_eq-Decides net.name name).1 n in rw (yes, yes') refl

is_named_tells : (part : ℕ) (name : List ℕ) (net : FlatNet) → is_named part name net ≡ true → (net.part ≡ part) × (net.name ≡ name)
is_named_tells part name net h = go (net.part == part) (bytes_eq net.name name) refl refl h
  where
    go : (a b : Bool) → (net.part == part) ≡ a → bytes_eq net.name name ≡ b → (a && b) ≡ true → (net.part ≡ part) × (net.name ≡ name)
    go true b p q h = ((Decides-eqb net.part part).0 p, (bytes_eq-Decides net.name name).0 (q ∙ h))
    go false b p q h = cc

pub found : (b : Bool) (x y : ℕ) → b ≡ true → (if b then x else y) ≡ x
found true x y e = refl
found false x y e = cc

pub passed : (b : Bool) (x y : ℕ) → (b ≡ true → ⊥) → (if b then x else y) ≡ y
passed true x y ne = absurd (ne refl)
passed false x y ne = refl

-- among the nets behind the first its name stands as before
NamesDiffer-tail : (x : FlatNet) (nets : List FlatNet) → NamesDiffer (x ∷ nets) → NamesDiffer nets
NamesDiffer-tail x nets h i j a b p q e f = let next : suc i ≡ suc j = h (suc i) (suc j) a b p q e f in let same : i ≡ j = omega arith in same

pub names_are_found : NamesAreFound
names_are_found [] h v long n net at = cc
names_are_found (x ∷ nets) h [] long n net at = absurd (omega arith)
names_are_found (x ∷ nets) h (y ∷ v) long zero net at =
    let same : x ≡ net = some_same at in
    found (is_named net.part net.name x) y (value_in_part net.part nets v net.name) (named_is net.part net.name x (ap (λ (z : FlatNet). z.part) same) (ap (λ (z : FlatNet). z.name) same))
names_are_found (x ∷ nets) h (y ∷ v) long (suc n) net at =
    passed (is_named net.part net.name x) y (value_in_part net.part nets v net.name)
    (λ t. let tells = is_named_tells net.part net.name x t in let clash : 0 ≡ suc n = h zero (suc n) x net refl at tells.0 tells.1 in absurd (omega arith))
    ∙ names_are_found nets (NamesDiffer-tail x nets h) v (omega arith) n net at

-- the number is that of the net of its part and name, and no other number is
names_net-at : (nets : List FlatNet) (n : ℕ) (net : FlatNet) → slice_get nets n ≡ Some net → names_net net.part net.name (slice_get nets n) ≡ true
names_net-at nets n net at = ap (names_net net.part net.name) at ∙ named_is net.part net.name net refl refl

names_net-once : (nets : List FlatNet) → NamesDiffer nets → (n m : ℕ) (net : FlatNet) → slice_get nets n ≡ Some net → names_net net.part net.name (slice_get nets m) ≡ true → m ≡ n
names_net-once nets differ n m net at h = go (slice_get nets m) refl h
  where
    go : (o : Option FlatNet) → slice_get nets m ≡ o → names_net net.part net.name o ≡ true → m ≡ n
    go None there t = cc
    go (Some x) there t = let tells = is_named_tells net.part net.name x t in differ m n x net there at tells.0 tells.1

among : (nets : List FlatNet) → NamesDiffer nets → (nexts : List Next) → ClockedOnce nexts → (registers : List ℕ) → length registers ≡ length nexts
    → (k : ℕ) (x : Next) (net : FlatNet) → slice_get nexts k ≡ Some x → slice_get nets x.register.number ≡ Some net → register_among net.part nets nexts registers net.name ≡ slice_index registers k
among nets h [] once registers long k x net at there = cc
among nets h (y ∷ nexts) once [] long k x net at there = absurd (omega arith)
among nets h (y ∷ nexts) once (r ∷ registers) long zero x net at there =
    let same : y ≡ x = some_same at in
    found (names_net net.part net.name (slice_get nets y.register.number)) r (register_among net.part nets nexts registers net.name)
    (ap (λ (z : Next). names_net net.part net.name (slice_get nets z.register.number)) same ∙ names_net-at nets x.register.number net there)
among nets h (y ∷ nexts) once (r ∷ registers) long (suc k) x net at there =
    let other = All-at (λ (z : Next). z.register.number ≢ y.register.number) nexts k x once.0 at in
    passed (names_net net.part net.name (slice_get nets y.register.number)) r (register_among net.part nets nexts registers net.name)
    (λ t. other (sym (names_net-once nets h x.register.number y.register.number net there t)))
    ∙ among nets h nexts once.1 registers (omega arith) k x net at there

pub registers_are_found : RegistersAreFound
registers_are_found f differ clocked registers long k x net at there = among f.nets differ f.nexts clocked.once registers long k x net at there

pub ruleset found_names = (names_are_found, registers_are_found)
