-- Names that are kept as keys: what is looked up among the keys is looked up among their bytes.
use Rattle.std.proofs.Common.{◌≡◌, ◌≢◌, ℕ, zero, suc, ◌<◌, ◌+◌, ◌&&◌, not, Bool, true, false, cond, List, [], ◌∷◌, ◌++◌, length, map, take, drop, get_or, Option, Some, None, is_some, nat_lt, refl, sym, subst, ap, ◌∙◌, ◌||◌, arith, append_assoc}
use Rattle.std.specs.Bool.{if◌then◌else◌}
use Rattle.std.specs.Prelude.{slice_get}
use Rattle.std.specs.List.{AllByRecursion as Each, list_all, list_any, position, position_from, position_or_len}
use Rattle.std.specs.Str.{bytes_eq}
use Rattle.std.proofs.lemmas.List.{length-map, map-append, take-append-drop, take_more}
use Rattle.std.proofs.lemmas.List.Folds.{list_any-append}
use Rattle.std.proofs.lemmas.Bool.{and_from, and_parts, both_ways, false_from_ne_true, not_from_false, not-true, or_parts}
use Rattle.std.proofs.lemmas.Bool.Decides.{nat_tests}
use Rattle.std.proofs.lemmas.Slice.Eq.{bytes_eq-Decides}
use Rattle.ap_bits.specs.declared.card.Card.{Card}
use Rattle.ap_desc.specs.declared.statement.FieldNumber.{FieldNumber}
use Rattle.ap_desc.specs.Parts.{card_named, kind_names, named, place_of}
use Rattle.ap_desc.specs.Reserved.{is_among}
use Rattle.ap_desc.specs.Sound.{are_distinct}
use Rattle.ap_desc.specs.Spelling.{field_names}
use Rattle.ap_net.specs.Names.{AreDistinct}
use Rattle.ap_check.specs.Names.{IsPlaceOf, with_name}
use Rattle.ap_check.proofs.FirstFaults.{or_first, or_neither, or_second}

module _ {K X : Type 0} (f : K → X) (test : X → Bool) where
  any_of_map : (ks : List K) → list_any test (map f ks) ≡ list_any (λ k. test (f k)) ks
  any_of_map [] = refl
  any_of_map (k ∷ ks) = ap (λ b. test (f k) || b) (any_of_map ks)

  place_of_map : (ks : List K) → position_or_len test (map f ks) ≡ position_or_len (λ k. test (f k)) ks
  place_of_map [] = refl
  place_of_map (k ∷ ks) = ap (λ n. cond (not (test (f k))) (1 + n) 0) (place_of_map ks)

-- the place that a look-up of bytes among keys finds
pub found_place : {K : Type 0} (f : K → List ℕ) (name : List ℕ) (ks : List K) (r : Option ℕ) → r ≡ position (λ k. bytes_eq name (f k)) ks
    → is_some r ≡ list_any (λ k. bytes_eq name (f k)) ks → IsPlaceOf (map f ks) name r
found_place f name ks None at found = any_of_map f (bytes_eq name) ks ∙ sym found
found_place f name ks (Some i) at found = (any_of_map f (bytes_eq name) ks ∙ sym found, here.0 ∙ sym (place_of_map f (bytes_eq name) ks), within)
  where
    place : ℕ
    place = position_or_len (λ k. bytes_eq name (f k)) ks

    by : (b : Bool) (p : ℕ) → Some i ≡ cond b (Some p) None → b ≡ nat_lt p (length ks) → (i ≡ p) × (p < length ks)
    by true p e is = (cc, grind (arith, nat_tests))
    by false p e is = absurd (let no : Some i ≡ None = e in cc)

    here : (i ≡ position_or_len (λ k. bytes_eq name (f k)) ks) × (position_or_len (λ k. bytes_eq name (f k)) ks < length ks)
    here = by (nat_lt (position_or_len (λ k. bytes_eq name (f k)) ks) (length ks)) (position_or_len (λ k. bytes_eq name (f k)) ks) at refl

    within : i < length (map f ks)
    within = let longer : length (map f ks) ≡ length ks = length-map ks f in omega (arith, longer, here.0, here.1)

-- a key that is put last where none is equal to it
pub named_last : {K : Type 0} (f : K → List ℕ) (name : List ℕ) (k : K) (ks : List K) → f k ≡ name
    → map f (if list_any (λ x. bytes_eq (f k) (f x)) ks then ks else ks ++ k ∷ []) ≡ with_name (map f ks) name
named_last f name k ks e = by (list_any (λ x. bytes_eq (f k) (f x)) ks) (is_among (f k) (map f ks)) (any_of_map f (bytes_eq (f k)) ks) ∙ ap (with_name (map f ks)) e
  where
    by : (b d : Bool) → d ≡ b → map f (if b then ks else ks ++ k ∷ []) ≡ (if d then map f ks else map f ks ++ f k ∷ [])
    by true true h = refl
    by false false h = map-append f ks (k ∷ [])
    by true false h = cc
    by false true h = cc

-- and it is new exactly where its bytes were not there
pub named_new : {K : Type 0} (f : K → List ℕ) (name : List ℕ) (k : K) (ks : List K) (new : Bool) → f k ≡ name
    → new ≡ not (list_any (λ x. bytes_eq (f k) (f x)) ks) → new ≡ not (is_among name (map f ks))
named_new f name k ks new e h = h ∙ ap not (sym (any_of_map f (bytes_eq (f k)) ks)) ∙ ap (λ n. not (is_among n (map f ks))) e

pub any_among : {K : Type 0} (f : K → List ℕ) (name : List ℕ) (ks : List K) → list_any (λ k. bytes_eq name (f k)) ks ≡ is_among name (map f ks)
any_among f name ks = sym (any_of_map f (bytes_eq name) ks)

pub same_back : (a b : List ℕ) → bytes_eq a b ≡ true → bytes_eq b a ≡ true
same_back a b e = (bytes_eq-Decides b a).1 (sym ((bytes_eq-Decides a b).0 e))

pub differ_back : (a b : List ℕ) → bytes_eq a b ≡ false → bytes_eq b a ≡ false
differ_back a b e = false_from_ne_true (bytes_eq b a) (λ same. both_ways (bytes_eq a b) e (same_back b a same))

pub among_append : (name : List ℕ) (xs ys : List (List ℕ)) → is_among name (xs ++ ys) ≡ (is_among name xs || is_among name ys)
among_append name xs ys = list_any-append (bytes_eq name) xs ys

and_last : (a b : Bool) → b ≡ false → (a && b) ≡ false
and_last true b e = e
and_last false b e = refl

-- a name that stood before it
pub twice_then : (xs : List (List ℕ)) (name : List ℕ) (ys : List (List ℕ)) → is_among name xs ≡ true → are_distinct (xs ++ name ∷ ys) ≡ false
twice_then [] name ys e = absurd cc
twice_then (x ∷ xs) name ys e = go (bytes_eq name x) refl (twice_then xs name ys) where
  go : (b : Bool) → bytes_eq name x ≡ b → (is_among name xs ≡ true → are_distinct (xs ++ name ∷ ys) ≡ false) → (not (is_among x (xs ++ name ∷ ys)) && are_distinct (xs ++ name ∷ ys)) ≡ false
  go true same ih =
      let there : is_among x (xs ++ name ∷ ys) ≡ true = among_append x xs (name ∷ ys) ∙ or_second (is_among x xs) (bytes_eq x name || is_among x ys) (or_first (bytes_eq x name) (is_among x ys) (same_back name x same)) in
      rw there refl
  go false other ih =
      let later : is_among name xs ≡ true = rw other at e in
      and_last (not (is_among x (xs ++ name ∷ ys))) (are_distinct (xs ++ name ∷ ys)) (ih later)

-- one more that none of them is
pub distinct_last : (xs : List (List ℕ)) (name : List ℕ) → are_distinct xs ≡ true → is_among name xs ≡ false → are_distinct (xs ++ name ∷ []) ≡ true
distinct_last [] name distinct new = refl
distinct_last (x ∷ xs) name distinct new =
    let parts = and_parts (not (is_among x xs)) (are_distinct xs) distinct in
    let news = or_parts (bytes_eq name x) (is_among name xs) new in
    let out : is_among x xs ≡ false = not-true (is_among x xs) parts.0 in
    let still : is_among x (xs ++ name ∷ []) ≡ false = among_append x xs (name ∷ []) ∙ or_neither (is_among x xs) (bytes_eq x name || false) out (or_neither (bytes_eq x name) false (differ_back name x news.0) refl) in
    and_from (not (is_among x (xs ++ name ∷ []))) (are_distinct (xs ++ name ∷ [])) (not_from_false (is_among x (xs ++ name ∷ [])) still) (distinct_last xs name parts.1 news.1)

pub with_new : (names : List (List ℕ)) (name : List ℕ) → is_among name names ≡ false → with_name names name ≡ names ++ name ∷ []
with_new names name e = rw e refl

-- the fields so far, with one more
pub fields_taken : (fields : List FieldNumber) (i : ℕ) (x : FieldNumber) → i < length fields → x ≡ get_or fields i x → field_names (take (i + 1) fields) ≡ field_names (take i fields) ++ x.field ∷ []
fields_taken fields i x lt at =
    ap field_names (take_more fields i x lt) ∙ map-append (λ (f : FieldNumber). f.field) (take i fields) (get_or fields i x ∷ [])
    ∙ ap (λ (y : FieldNumber). field_names (take i fields) ++ y.field ∷ []) (sym at)

pub fields_more : (fields : List FieldNumber) (i : ℕ) (x : FieldNumber) (names after : List (List ℕ)) → i < length fields → x ≡ get_or fields i x → names ≡ field_names (take i fields) → are_distinct names ≡ true
    → is_among x.field names ≡ false → after ≡ with_name names x.field → (after ≡ field_names (take (i + 1) fields)) × (are_distinct after ≡ true)
fields_more fields i x names after lt at so_far distinct new e =
    let last : after ≡ names ++ x.field ∷ [] = e ∙ with_new names x.field new in
    (last ∙ ap (λ ns. ns ++ x.field ∷ []) so_far ∙ sym (fields_taken fields i x lt at), subst (λ ns. are_distinct ns ≡ true) (sym last) (distinct_last names x.field distinct new))

pub fields_twice : (fields : List FieldNumber) (i : ℕ) (x : FieldNumber) (names : List (List ℕ)) → i < length fields → x ≡ get_or fields i x → names ≡ field_names (take i fields)
    → is_among x.field names ≡ true → are_distinct (field_names fields) ≡ false
fields_twice fields i x names lt at so_far there =
    let whole : field_names fields ≡ names ++ x.field ∷ field_names (drop (i + 1) fields) =
    ap field_names (sym (take-append-drop (i + 1) fields)) ∙ map-append (λ (f : FieldNumber). f.field) (take (i + 1) fields) (drop (i + 1) fields)
    ∙ ap (λ ns. ns ++ field_names (drop (i + 1) fields)) (fields_taken fields i x lt at ∙ ap (λ ns. ns ++ x.field ∷ []) (sym so_far)) ∙ append_assoc names (x.field ∷ []) (field_names (drop (i + 1) fields)) in
    subst (λ ns. are_distinct ns ≡ false) (sym whole) (twice_then names x.field (field_names (drop (i + 1) fields)) there)

-- the names so far, none of which stands twice, with one more
among_apart : (name : List ℕ) (names : List (List ℕ)) (i : ℕ) → AreDistinct names → slice_get names i ≡ Some name → is_among name (take i names) ≡ false
among_apart name [] i distinct at = absurd cc
among_apart name (x ∷ names) zero distinct at = refl
among_apart name (x ∷ names) (suc i) distinct at =
    or_neither (bytes_eq name x) (is_among name (take i names)) (false_from_ne_true (bytes_eq name x) (λ same. each_at names i distinct.0 at ((bytes_eq-Decides name x).0 same))) (among_apart name names i distinct.1 at) where
      each_at : (others : List (List ℕ)) (j : ℕ) → Each (λ other. other ≢ x) others → slice_get others j ≡ Some name → name ≢ x
      each_at [] j each got = absurd cc
      each_at (other ∷ others) zero each got = let here : other ≡ name = cc in subst (λ n. n ≢ x) here each.0
      each_at (other ∷ others) (suc j) each got = each_at others j each.1 got

pub names_more : (all : List (List ℕ)) (i : ℕ) (name : List ℕ) (names after : List (List ℕ)) → AreDistinct all → slice_get all i ≡ Some name → names ≡ take i all → after ≡ with_name names name → after ≡ take (i + 1) all
names_more all i name names after distinct at so_far e =
    e ∙ ap (λ ns. with_name ns name) so_far ∙ with_new (take i all) name (among_apart name all i distinct at) ∙ sym (take_got all i name at)
  where
    take_got : (xs : List (List ℕ)) (j : ℕ) (x : List ℕ) → slice_get xs j ≡ Some x → take (j + 1) xs ≡ take j xs ++ x ∷ []
    take_got [] j x got = absurd cc
    take_got (y ∷ xs) zero x got = let here : y ≡ x = cc in ap (λ z. z ∷ []) here
    take_got (y ∷ xs) (suc j) x got = let up : suc j + 1 ≡ suc (j + 1) = omega arith in ap (λ n. take n (y ∷ xs)) up ∙ ap (λ zs. y ∷ zs) (take_got xs j x got)

-- the kind of a name
pub kind_from : (name : List ℕ) (k : ℕ) (cards : List Card) (i : ℕ) → position_from (λ (c : Card). bytes_eq c.name name) k cards ≡ Some i → (is_among name (kind_names cards) ≡ true) × (i ≡ k + place_of (kind_names cards) name)
kind_from name k [] i e = absurd cc
kind_from name k (c ∷ cards) i e = go (bytes_eq c.name name) refl (kind_from name (k + 1) cards i) where
  go : (b : Bool) → bytes_eq c.name name ≡ b
      → (position_from (λ (x : Card). bytes_eq x.name name) (k + 1) cards ≡ Some i → (is_among name (kind_names cards) ≡ true) × (i ≡ (k + 1) + place_of (kind_names cards) name))
      → ((bytes_eq name c.name || is_among name (kind_names cards)) ≡ true) × (i ≡ k + cond (not (bytes_eq name c.name)) (1 + place_of (kind_names cards) name) 0)
  go true same ih =
      let here : bytes_eq name c.name ≡ true = same_back c.name name same in
      let at : Some k ≡ Some i = rw same at e in
      let first : i ≡ k = cc in
      rw here (refl, omega arith)
  go false other ih =
      let out : bytes_eq name c.name ≡ false = differ_back c.name name other in
      let later = ih (rw other at e) in
      rw out (later.0, omega (arith, later.1))

pub no_kind_from : (name : List ℕ) (k : ℕ) (cards : List Card) → position_from (λ (c : Card). bytes_eq c.name name) k cards ≡ None → is_among name (kind_names cards) ≡ false
no_kind_from name k [] e = refl
no_kind_from name k (c ∷ cards) e = go (bytes_eq c.name name) refl (no_kind_from name (k + 1) cards) where
  go : (b : Bool) → bytes_eq c.name name ≡ b → (position_from (λ (x : Card). bytes_eq x.name name) (k + 1) cards ≡ None → is_among name (kind_names cards) ≡ false) → (bytes_eq name c.name || is_among name (kind_names cards)) ≡ false
  go true same ih = let at : Some k ≡ None = rw same at e in absurd cc
  go false other ih = or_neither (bytes_eq name c.name) (is_among name (kind_names cards)) (differ_back c.name name other) (ih (rw other at e))

-- at its place stands the first of the name
pub at_place : {X : Type 0} (name_of : X → List ℕ) (xs : List X) (name : List ℕ) → slice_get xs (place_of (map name_of xs) name) ≡ named name_of xs name
at_place name_of [] name = refl
at_place {X} name_of (x ∷ xs) name = go (bytes_eq name (name_of x)) (at_place name_of xs name) where
  go : (b : Bool) → slice_get xs (place_of (map name_of xs) name) ≡ named name_of xs name → slice_get (x ∷ xs) (cond (not b) (1 + place_of (map name_of xs) name) 0) ≡ cond b (Some x) (named name_of xs name)
  go true later = refl
  go false later = let up : 1 + place_of (map name_of xs) name ≡ suc (place_of (map name_of xs) name) = omega arith in ap (slice_get (x ∷ xs)) up ∙ later

pub none_named : {X : Type 0} (name_of : X → List ℕ) (xs : List X) (name : List ℕ) → is_among name (map name_of xs) ≡ false → named name_of xs name ≡ None
none_named name_of [] name e = refl
none_named name_of (x ∷ xs) name e = let parts = or_parts (bytes_eq name (name_of x)) (is_among name (map name_of xs)) e in rw parts.0 (none_named name_of xs name parts.1)

-- the card of the kind at the place that was found
pub kind_card : (name : List ℕ) (cards : List Card) (i : ℕ) (card : Card) → Some i ≡ position_from (λ (c : Card). bytes_eq c.name name) 0 cards → slice_get cards i ≡ Some card → card_named cards name ≡ Some card
kind_card name cards i card found at =
    let place = kind_from name 0 cards i (sym found) in
    let here : i ≡ place_of (kind_names cards) name = omega (arith, place.1) in
    sym (at_place (λ (c : Card). c.name) cards name) ∙ ap (slice_get cards) (sym here) ∙ at

-- and it is there
pub named_there : {X : Type 0} (name_of : X → List ℕ) (xs : List X) (name : List ℕ) → not (is_among name (map name_of xs)) ≡ false → (x : X) × (named name_of xs name ≡ Some x)
named_there name_of [] name e = absurd cc
named_there {X} name_of (x ∷ xs) name e = go (bytes_eq name (name_of x)) refl (named_there name_of xs name) where
  go : (b : Bool) → bytes_eq name (name_of x) ≡ b → (not (is_among name (map name_of xs)) ≡ false → (y : X) × (named name_of xs name ≡ Some y)) → (y : X) × (cond b (Some x) (named name_of xs name) ≡ Some y)
  go true same there = (x, refl)
  go false other there = let later : not (is_among name (map name_of xs)) ≡ false = rw other at e in there later

-- what holds of all holds of the one that is found
pub named_all : {X : Type 0} (test : X → Bool) (name_of : X → List ℕ) (xs : List X) (name : List ℕ) (x : X) → list_all test xs ≡ true → named name_of xs name ≡ Some x → test x ≡ true
named_all test name_of [] name x all e = absurd cc
named_all test name_of (y ∷ xs) name x all e = go (bytes_eq name (name_of y)) refl (named_all test name_of xs name x (and_parts (test y) (list_all test xs) all).1) where
  go : (b : Bool) → bytes_eq name (name_of y) ≡ b → (named name_of xs name ≡ Some x → test x ≡ true) → test x ≡ true
  go true same ih = let at : Some y ≡ Some x = rw same at e in let here : y ≡ x = cc in subst (λ z. test z ≡ true) here (and_parts (test y) (list_all test xs) all).0
  go false other ih = ih (rw other at e)

-- the element at a place
pub got_some : {X : Type 0} (xs : List X) (i : ℕ) (x : X) → i < length xs → x ≡ get_or xs i x → slice_get xs i ≡ Some x
got_some [] i x lt at = absurd (omega arith)
got_some (y ∷ xs) zero x lt at = ap Some (sym at)
got_some (y ∷ xs) (suc i) x lt at = got_some xs i x (omega arith) at
