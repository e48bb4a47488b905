-- Names that are kept as keys: what is looked up among the keys is looked up among their bytes.
use Rattle.std.proofs.Common.{◌≡◌, ◌≢◌, ℕ, zero, suc, ◌+◌, ◌<◌, ◌||◌, not, Bool, true, false, cond, List, [], ◌∷◌, ◌++◌, length, get_or, map, take, Option, Some, None, is_some, nat_lt, refl, sym, subst, ap, ◌∙◌, arith}
use Rattle.std.specs.Bool.{if◌then◌else◌}
use Rattle.std.specs.Prelude.{slice_get, IsSome}
use Rattle.std.specs.List.{AllByRecursion as Each, list_any, position, position_or_len}
use Rattle.std.specs.Str.{bytes_eq}
use Rattle.std.proofs.lemmas.List.{length-map, map-append}
use Rattle.std.proofs.lemmas.Bool.{both_ways, false_from_ne_true, or_parts}
use Rattle.std.proofs.lemmas.Bool.Decides.{nat_tests}
use Rattle.std.proofs.lemmas.Option.{slice_get-get_or, slice_get_within}
use Rattle.std.proofs.lemmas.Slice.Eq.{bytes_eq-Decides}
use Rattle.ap_net.specs.Names.{AreDistinct, IsNew}
use Rattle.ap_net.specs.Modules.{ModuleText, module_named}
use Rattle.ap_net.proofs.Lists.{some_same}
use Rattle.ap_net.proofs.Netlists.{named_once}
use Rattle.ap_flat.specs.Names.{is_among, IsPlaceOf, with_name}

-- what stands at the first place that passes the test
at_first : {K : Type 0} (test : K → Bool) (ks : List K) → position_or_len test ks < length ks → (k : K) × (slice_get ks (position_or_len test ks) ≡ Some k) × (test k ≡ true)
at_first test [] lt = absurd (omega arith)
at_first {K} test (x ∷ ks) lt = go (test x) refl lt (at_first test ks) where
  go : (b : Bool) → test x ≡ b → cond (not b) (1 + position_or_len test ks) 0 < length (x ∷ ks) → (position_or_len test ks < length ks → (k : K) × (slice_get ks (position_or_len test ks) ≡ Some k) × (test k ≡ true))
      → (k : K) × (slice_get (x ∷ ks) (cond (not b) (1 + position_or_len test ks) 0) ≡ Some k) × (test k ≡ true)
  go true is low ih = (x, refl, is)
  go false is low ih =
      let (k, at, ok) = ih (omega arith) in
      let up : 1 + position_or_len test ks ≡ suc (position_or_len test ks) = omega arith in
      (k, ap (slice_get (x ∷ ks)) up ∙ at, ok)

-- where none passes, each fails
none_passes : {K : Type 0} (f : K → List ℕ) (name : List ℕ) (ks : List K) → list_any (λ k. bytes_eq name (f k)) ks ≡ false → IsNew name (map f ks)
none_passes f name [] e = tt
none_passes f name (k ∷ ks) e =
    let parts = or_parts (bytes_eq name (f k)) (list_any (λ x. bytes_eq name (f x)) ks) e in
    (λ same. both_ways (bytes_eq name (f k)) parts.0 ((bytes_eq-Decides name (f k)).1 (sym same)), none_passes f name ks parts.1)

pub get_map : {K X : Type 0} (f : K → X) (ks : List K) (i : ℕ) (k : K) → slice_get ks i ≡ Some k → slice_get (map f ks) i ≡ Some (f k)
get_map f [] i k at = absurd cc
get_map f (x ∷ ks) zero k at = ap (λ y. Some (f y)) (some_same at)
get_map f (x ∷ ks) (suc i) k at = get_map f ks i k at

-- the place that a look-up of bytes among keys finds
pub found_place : {K : Type 0} (f : K → List ℕ) (name : List ℕ) (ks : List K) (r : Option ℕ) → r ≡ position (λ k. bytes_eq name (f k)) ks
    → is_some r ≡ list_any (λ k. bytes_eq name (f k)) ks → IsPlaceOf (map f ks) name r
found_place f name ks None at found = none_passes f name ks (sym found)
found_place f name ks (Some i) at found =
    let (k, there, ok) = at_first (λ k. bytes_eq name (f k)) ks here.1 in
    get_map f ks i k (ap (slice_get ks) here.0 ∙ there) ∙ ap Some (sym ((bytes_eq-Decides name (f k)).0 ok))
  where
    by : (b : Bool) (p : ℕ) → Some i ≡ cond b (Some p) None → b ≡ nat_lt p (length ks) → (i ≡ p) × (p < length ks)
    by true p e is = (cc, grind (arith, nat_tests))
    by false p e is = absurd (let no : Some i ≡ None = e in cc)

    here : (i ≡ position_or_len (λ k. bytes_eq name (f k)) ks) × (position_or_len (λ k. bytes_eq name (f k)) ks < length ks)
    here = by (nat_lt (position_or_len (λ k. bytes_eq name (f k)) ks) (length ks)) (position_or_len (λ k. bytes_eq name (f k)) ks) at refl

any_of_map : {K : Type 0} (f : K → List ℕ) (test : List ℕ → Bool) (ks : List K) → list_any test (map f ks) ≡ list_any (λ k. test (f k)) ks
any_of_map f test [] = refl
any_of_map f test (k ∷ ks) = ap (λ b. test (f k) || b) (any_of_map f test ks)

-- a key that is put last where none is equal to it
pub named_last : {K : Type 0} (f : K → List ℕ) (name : List ℕ) (k : K) (ks : List K) → f k ≡ name
    → map f (if list_any (λ x. bytes_eq (f k) (f x)) ks then ks else ks ++ k ∷ []) ≡ with_name (map f ks) name
named_last f name k ks e = by (list_any (λ x. bytes_eq (f k) (f x)) ks) (is_among (f k) (map f ks)) (any_of_map f (bytes_eq (f k)) ks) ∙ ap (with_name (map f ks)) e
  where
    by : (b d : Bool) → d ≡ b → map f (if b then ks else ks ++ k ∷ []) ≡ (if d then map f ks else map f ks ++ f k ∷ [])
    by true true h = refl
    by false false h = map-append f ks (k ∷ [])
    by true false h = cc
    by false true h = cc

or_neither : (a b : Bool) → a ≡ false → b ≡ false → (a || b) ≡ false
or_neither true b e f = e
or_neither false b e f = f

-- the names so far, none of which stands twice, with one more
among_apart : (name : List ℕ) (names : List (List ℕ)) (i : ℕ) → AreDistinct names → slice_get names i ≡ Some name → is_among name (take i names) ≡ false
among_apart name [] i distinct at = absurd cc
among_apart name (x ∷ names) zero distinct at = refl
among_apart name (x ∷ names) (suc i) distinct at =
    or_neither (bytes_eq name x) (is_among name (take i names)) (false_from_ne_true (bytes_eq name x) (λ same. each_at names i distinct.0 at ((bytes_eq-Decides name x).0 same))) (among_apart name names i distinct.1 at) where
      each_at : (others : List (List ℕ)) (j : ℕ) → Each (λ other. other ≢ x) others → slice_get others j ≡ Some name → name ≢ x
      each_at [] j each got = absurd cc
      each_at (other ∷ others) zero each got = subst (λ n. n ≢ x) (some_same got) each.0
      each_at (other ∷ others) (suc j) each got = each_at others j each.1 got

with_new : (names : List (List ℕ)) (name : List ℕ) → is_among name names ≡ false → with_name names name ≡ names ++ name ∷ []
with_new names name e = rw e refl

take_got : (xs : List (List ℕ)) (j : ℕ) (x : List ℕ) → slice_get xs j ≡ Some x → take (j + 1) xs ≡ take j xs ++ x ∷ []
take_got [] j x got = absurd cc
take_got (y ∷ xs) zero x got = ap (λ z. z ∷ []) (some_same got)
take_got (y ∷ xs) (suc j) x got = let up : suc j + 1 ≡ suc (j + 1) = omega arith in ap (λ n. take n (y ∷ xs)) up ∙ ap (λ zs. y ∷ zs) (take_got xs j x got)

pub names_more : {X : Type 0} (f : X → List ℕ) (xs : List X) (i : ℕ) (x : X) (name : List ℕ) (names after : List (List ℕ)) → AreDistinct (map f xs) → i < length xs → x ≡ get_or xs i x → name ≡ f x → names ≡ take i (map f xs)
    → after ≡ with_name names name → after ≡ take (i + 1) (map f xs)
names_more f xs i x name names after distinct lt is named so_far e =
    let at : slice_get (map f xs) i ≡ Some name = get_map f xs i x (slice_get-get_or xs i x lt ∙ ap Some (sym is)) ∙ ap Some (sym named) in
    e ∙ ap (λ ns. with_name ns name) so_far ∙ with_new (take i (map f xs)) name (among_apart name (map f xs) i distinct at) ∙ sym (take_got (map f xs) i name at)

-- the module at a place of its name is the one of the name
pub module_found : (modules : List ModuleText) (i : ℕ) (m : ModuleText) (name : List ℕ) → AreDistinct (map (λ (x : ModuleText). x.name) modules) → slice_get (map (λ (x : ModuleText). x.name) modules) i ≡ Some name
    → slice_get modules i ≡ Some m → module_named modules name ≡ Some m
module_found modules i m name distinct named at =
    let same : m.name ≡ name = some_same (sym (get_map (λ (x : ModuleText). x.name) modules i m at) ∙ named) in
    ap (module_named modules) (sym same) ∙ named_once modules i m distinct at

-- and a module that is found has a name among them
pub name_there : (modules : List ModuleText) (name : List ℕ) → IsNew name (map (λ (x : ModuleText). x.name) modules) → module_named modules name ≡ None
name_there [] name new = refl
name_there (x ∷ modules) name new =
    let no : bytes_eq x.name name ≡ false = false_from_ne_true (bytes_eq x.name name) (λ same. new.0 ((bytes_eq-Decides x.name name).0 same)) in
    rw no (name_there modules name new.1)

pub is_placed : (modules : List ModuleText) (name : List ℕ) (names : List (List ℕ)) (r : Option ℕ) → names ≡ map (λ (x : ModuleText). x.name) modules → IsSome (module_named modules name) → IsPlaceOf names name r → IsSome r
is_placed modules name names None same found placed =
    let none : module_named modules name ≡ None = name_there modules name (subst (IsNew name) same placed) in
    let wrong : false ≡ true = ap is_some (sym none) ∙ found in
    absurd cc
is_placed modules name names (Some i) same found placed = refl

-- a place of a name is one of what has the names
pub place_low : {X : Type 0} (f : X → List ℕ) (xs : List X) (names : List (List ℕ)) (name : List ℕ) (i : ℕ) → names ≡ map f xs → slice_get names i ≡ Some name → i < length xs
place_low f xs names name i same at =
    let within : i < length names = slice_get_within names i name at in
    let long : length names ≡ length xs = ap length same ∙ length-map xs f in
    omega arith
