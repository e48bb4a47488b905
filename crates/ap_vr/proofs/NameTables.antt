-- Names in tables: what is looked up among keys is looked up among their bytes, and which of some names stands before.
use Rattle.std.proofs.Common.{◌≡◌, ℕ, ◌+◌, ◌<◌, ◌≤◌, not, Bool, true, false, cond, List, [], ◌∷◌, ◌++◌, length, map, drop, get_or, Option, Some, None, nat_lt, refl, sym, ap, subst, ◌∙◌, ◌||◌, arith, append_assoc, append-nil, position}
use Rattle.std.specs.Prelude.{if◌then◌else◌}
use Rattle.std.specs.List.{list_any, position_or_len}
use Rattle.std.specs.Option.{option_or}
use Rattle.std.specs.Str.{bytes_eq}
use Rattle.std.proofs.Math.Path.{fun_ext}
use Rattle.std.proofs.lemmas.List.{length-map, map-append, drop_more, at_drop_all}
use Rattle.std.proofs.lemmas.List.Folds.{list_any-append}
use Rattle.std.proofs.lemmas.Bool.{both_ways, false_from_ne_true}
use Rattle.ap_vr.specs.Scope.{first_repeat, is_among}
use Rattle.ap_vr.specs.Tables.{with_name, with_names}
use Rattle.ap_vr.proofs.Words.{same_bytes}

module _ {K X : Type 0} (f : K → X) (test : X → Bool) where
  pub any_of_map : (ks : List K) → list_any (λ k. test (f k)) ks ≡ list_any test (map f ks)
  any_of_map [] = refl
  any_of_map (k ∷ ks) = ap (λ b. test (f k) || b) (any_of_map ks)

  len_of_map : (ks : List K) → position_or_len (λ k. test (f k)) ks ≡ position_or_len test (map f ks)
  len_of_map [] = refl
  len_of_map (k ∷ ks) = ap (λ n. cond (not (test (f k))) (1 + n) 0) (len_of_map ks)

  pub position_of_map : (ks : List K) → position (λ k. test (f k)) ks ≡ position test (map f ks)
  position_of_map ks = ap (λ i. cond (nat_lt i (length ks)) (Some i) None) (len_of_map ks) ∙ ap (λ n. cond (nat_lt (position_or_len test (map f ks)) n) (Some (position_or_len test (map f ks))) None) (sym (length-map ks f))

-- a key that is put last where none is equal to it
pub named_last : {K : Type 0} (f : K → List ℕ) (name : List ℕ) (k : K) (ks : List K) → f k ≡ name
    → map f (if list_any (λ x. bytes_eq (f k) (f x)) ks then ks else ks ++ k ∷ []) ≡ with_name (map f ks) name
named_last f name k ks e = by (list_any (λ x. bytes_eq (f k) (f x)) ks) (is_among (map f ks) (f k)) (any_of_map f (bytes_eq (f k)) ks) ∙ ap (with_name (map f ks)) e
  where
    by : (b d : Bool) → b ≡ d → map f (if b then ks else ks ++ k ∷ []) ≡ (if d then map f ks else map f ks ++ f k ∷ [])
    by true true h = refl
    by false false h = map-append f ks (k ∷ [])
    by true false h = cc
    by false true h = cc

-- and it is new exactly where its bytes were not there
pub named_new : {K : Type 0} (f : K → List ℕ) (name : List ℕ) (k : K) (ks : List K) (new : Bool) → f k ≡ name
    → new ≡ not (list_any (λ x. bytes_eq (f k) (f x)) ks) → new ≡ not (is_among (map f ks) name)
named_new f name k ks new e h = h ∙ ap not (any_of_map f (bytes_eq (f k)) ks) ∙ ap (λ n. not (is_among (map f ks) n)) e

-- a name that is new goes to the end
pub with_new : (names : List (List ℕ)) (name : List ℕ) → is_among names name ≡ false → with_name names name ≡ names ++ name ∷ []
with_new names name e = ap (λ b. cond b names (names ++ name ∷ [])) e

pub with_known : (names : List (List ℕ)) (name : List ℕ) → is_among names name ≡ true → with_name names name ≡ names
with_known names name e = ap (λ b. cond b names (names ++ name ∷ [])) e

-- more names, in two parts
pub with_names-append : (names xs ys : List (List ℕ)) → with_names names (xs ++ ys) ≡ with_names (with_names names xs) ys
with_names-append names [] ys = refl
with_names-append names (x ∷ xs) ys = with_names-append (with_name names x) xs ys

-- one name more is among them where it was or is the new one
pub among_append : (names : List (List ℕ)) (more : List (List ℕ)) (name : List ℕ) → is_among (names ++ more) name ≡ (is_among names name || is_among more name)
among_append names more name = list_any-append (bytes_eq name) names more

or_same : (a b : Bool) → (b ≡ true → a ≡ true) → a ≡ (a || b)
or_same true b h = refl
or_same false true h = h refl
or_same false false h = refl

or_assoc : (a b c : Bool) → ((a || b) || c) ≡ (a || (b || c))
or_assoc true b c = refl
or_assoc false b c = refl

or_grows : (a b c : Bool) → (a ≡ true → b ≡ true) → (a || c) ≡ true → (b || c) ≡ true
or_grows true b c h e = ap (λ d. d || c) (h refl)
or_grows false true c h e = refl
or_grows false false c h e = e

pub or_neither : (a b : Bool) → a ≡ false → b ≡ false → (a || b) ≡ false
or_neither a b e f = ap (λ c. c || b) e ∙ f

or_false : (a : Bool) → a ≡ (a || false)
or_false true = refl
or_false false = refl

same_then : (names : List (List ℕ)) (name other : List ℕ) → is_among names name ≡ true → bytes_eq other name ≡ true → is_among names other ≡ true
same_then names name other e same = subst (λ n. is_among names n ≡ true) (sym (same_bytes other name same)) e

among_with : (names : List (List ℕ)) (name other : List ℕ) → is_among (with_name names name) other ≡ (is_among names other || is_among (name ∷ []) other)
among_with names name other = go (is_among names name) refl where
  go : (b : Bool) → is_among names name ≡ b → is_among (with_name names name) other ≡ (is_among names other || is_among (name ∷ []) other)
  go true e = ap (λ ns. is_among ns other) (with_known names name e) ∙ or_same (is_among names other) (bytes_eq other name || false) (λ h. same_then names name other e (or_false (bytes_eq other name) ∙ h))
  go false e = ap (λ ns. is_among ns other) (with_new names name e) ∙ among_append names (name ∷ []) other

-- names of a table are those that went in
among_with_names : (names more : List (List ℕ)) (name : List ℕ) → is_among (with_names names more) name ≡ (is_among names name || is_among more name)
among_with_names names [] name = or_false (is_among names name)
among_with_names names (x ∷ more) name =
    among_with_names (with_name names x) more name ∙ ap (λ b. b || is_among more name) (among_with names x name)
    ∙ or_assoc (is_among names name) (is_among (x ∷ []) name) (is_among more name)
    ∙ ap (λ b. is_among names name || (b || is_among more name)) (sym (or_false (bytes_eq name x)))

pub scope_knows : (names : List (List ℕ)) → is_among (with_names [] names) ≡ is_among names
scope_knows names = fun_ext (among_with_names [] names)

-- What a loop has done that adds names of lines from one on: what is left gives the table, and the first line that repeats one.
pub record AddedSoFar {X : Type 0} (name_of : X → List ℕ) (from : ℕ) (xs : List X) (old now : List (List ℕ)) (first : Option ℕ) (i : ℕ) : Type 0 where
  pub table : with_names now (map name_of (drop i xs)) ≡ with_names old (map name_of xs)
  pub finds : option_or first (first_repeat now (from + i) (map name_of (drop i xs))) ≡ first_repeat old from (map name_of xs)

pub added_none : {X : Type 0} (name_of : X → List ℕ) (from : ℕ) (xs : List X) (old : List (List ℕ)) → AddedSoFar name_of from xs old old None 0
added_none name_of from xs old = record { table = refl; finds = ap (λ n. first_repeat old n (map name_of xs)) (let z : from + 0 ≡ from = omega arith in z) }

repeat_known : (before : List (List ℕ)) (line : ℕ) (name : List ℕ) (names : List (List ℕ)) → is_among before name ≡ true → first_repeat before line (name ∷ names) ≡ Some line
repeat_known before line name names e = ap (λ b. cond b (Some line) (first_repeat (before ++ name ∷ []) (line + 1) names)) e

repeat_new : (before : List (List ℕ)) (line : ℕ) (name : List ℕ) (names : List (List ℕ)) → is_among before name ≡ false → first_repeat before line (name ∷ names) ≡ first_repeat (before ++ name ∷ []) (line + 1) names
repeat_new before line name names e = ap (λ b. cond b (Some line) (first_repeat (before ++ name ∷ []) (line + 1) names)) e

pub or_some : (first : Option ℕ) (n : ℕ) (o : Option ℕ) → option_or (option_or first (Some n)) o ≡ option_or first (Some n)
or_some None n o = refl
or_some (Some k) n o = refl

pub or_none : (first : Option ℕ) → option_or first None ≡ first
or_none None = refl
or_none (Some k) = refl

-- one name more
pub added_more : {X : Type 0} (name_of : X → List ℕ) (from : ℕ) (xs : List X) (old now new : List (List ℕ)) (first next : Option ℕ) (i : ℕ) (x : X) (name : List ℕ) (is_new : Bool) (line : ℕ)
    → AddedSoFar name_of from xs old now first i → i < length xs → x ≡ get_or xs i x → name ≡ name_of x → is_new ≡ not (is_among now name) → new ≡ with_name now name
    → line ≡ from + i → next ≡ option_or first (if is_new then None else Some line) → AddedSoFar name_of from xs old new next (i + 1)
added_more {X} name_of from xs old now new first next i x name is_new line far lt at same fresh grown place noted = go (is_among now (name_of x)) refl where
  cut : drop i xs ≡ x ∷ drop (i + 1) xs
  cut = drop_more xs i x lt ∙ ap (λ y. y ∷ drop (i + 1) xs) (sym at)

  grows : new ≡ with_name now (name_of x)
  grows = grown ∙ ap (with_name now) same

  after : from + (i + 1) ≡ (from + i) + 1
  after = omega arith

  table : with_names new (map name_of (drop (i + 1) xs)) ≡ with_names old (map name_of xs)
  table = ap (λ ns. with_names ns (map name_of (drop (i + 1) xs))) grows ∙ sym (ap (λ l. with_names now (map name_of l)) cut) ∙ far.table

  was : option_or first (first_repeat now (from + i) (name_of x ∷ map name_of (drop (i + 1) xs))) ≡ first_repeat old from (map name_of xs)
  was = ap (λ l. option_or first (first_repeat now (from + i) (map name_of l))) (sym cut) ∙ far.finds

  here : (b : Bool) → is_among now (name_of x) ≡ b → next ≡ option_or first (cond (not b) None (Some (from + i)))
  here b e = noted ∙ ap (λ c. option_or first (cond c None (Some line))) (fresh ∙ ap (λ n. not (is_among now n)) same ∙ ap not e) ∙ ap (λ n. option_or first (cond (not b) None (Some n))) place

  go : (b : Bool) → is_among now (name_of x) ≡ b → AddedSoFar name_of from xs old new next (i + 1)
  go true e = record {
    table = table;
    finds =
        ap (λ o. option_or o (first_repeat new (from + (i + 1)) (map name_of (drop (i + 1) xs)))) (here true e)
        ∙ or_some first (from + i) (first_repeat new (from + (i + 1)) (map name_of (drop (i + 1) xs)))
        ∙ sym (ap (option_or first) (repeat_known now (from + i) (name_of x) (map name_of (drop (i + 1) xs)) e)) ∙ was;
  }
  go false e = record {
    table = table;
    finds =
        ap (λ o. option_or o (first_repeat new (from + (i + 1)) (map name_of (drop (i + 1) xs)))) (here false e ∙ or_none first)
        ∙ ap (λ ns. option_or first (first_repeat ns (from + (i + 1)) (map name_of (drop (i + 1) xs)))) (grows ∙ with_new now (name_of x) e)
        ∙ ap (λ n. option_or first (first_repeat (now ++ name_of x ∷ []) n (map name_of (drop (i + 1) xs)))) after
        ∙ sym (ap (option_or first) (repeat_new now (from + i) (name_of x) (map name_of (drop (i + 1) xs)) e)) ∙ was;
  }

drop_past : {X : Type 0} (xs : List X) (i : ℕ) → length xs ≤ i → drop i xs ≡ []
drop_past xs i h = at_drop_all (λ l. l) xs i h

-- all names
pub added_table : {X : Type 0} (name_of : X → List ℕ) (from : ℕ) (xs : List X) (old now : List (List ℕ)) (first : Option ℕ) (i : ℕ) → AddedSoFar name_of from xs old now first i → length xs ≤ i → now ≡ with_names old (map name_of xs)
added_table name_of from xs old now first i far le = ap (λ l. with_names now (map name_of l)) (sym (drop_past xs i le)) ∙ far.table

pub added_first : {X : Type 0} (name_of : X → List ℕ) (from : ℕ) (xs : List X) (old now : List (List ℕ)) (first : Option ℕ) (i : ℕ) → AddedSoFar name_of from xs old now first i → length xs ≤ i → first ≡ first_repeat old from (map name_of xs)
added_first name_of from xs old now first i far le =
    sym (or_none first) ∙ ap (λ l. option_or first (first_repeat now (from + i) (map name_of l))) (sym (drop_past xs i le)) ∙ far.finds

-- where nothing is repeated, the table has the names as they came
pub no_repeat : (before : List (List ℕ)) (line : ℕ) (names : List (List ℕ)) → first_repeat before line names ≡ None → with_names before names ≡ before ++ names
no_repeat before line [] e = sym (append-nil before)
no_repeat before line (name ∷ names) e = go (is_among before name) refl (no_repeat (before ++ name ∷ []) (line + 1) names) where
  go : (b : Bool) → is_among before name ≡ b → (first_repeat (before ++ name ∷ []) (line + 1) names ≡ None → with_names (before ++ name ∷ []) names ≡ (before ++ name ∷ []) ++ names)
      → with_names before (name ∷ names) ≡ before ++ name ∷ names
  go true h later = absurd (let no : Some line ≡ None = sym (repeat_known before line name names h) ∙ e in cc)
  go false h later =
      ap (λ ns. with_names ns names) (with_new before name h)
      ∙ later (sym (repeat_new before line name names h) ∙ e)
      ∙ append_assoc before (name ∷ []) names

-- and so it does for fewer names before
pub fewer_repeat : (more fewer : List (List ℕ)) (line : ℕ) (names : List (List ℕ)) → ((n : List ℕ) → is_among fewer n ≡ true → is_among more n ≡ true) → first_repeat more line names ≡ None → first_repeat fewer line names ≡ None
fewer_repeat more fewer line [] within e = refl
fewer_repeat more fewer line (name ∷ names) within e = go (is_among more name) refl (fewer_repeat (more ++ name ∷ []) (fewer ++ name ∷ []) (line + 1) names) where
  next : (n : List ℕ) → is_among (fewer ++ name ∷ []) n ≡ true → is_among (more ++ name ∷ []) n ≡ true
  next n h = among_append more (name ∷ []) n ∙ or_grows (is_among fewer n) (is_among more n) (is_among (name ∷ []) n) (within n) (sym (among_append fewer (name ∷ []) n) ∙ h)

  go : (b : Bool) → is_among more name ≡ b
      → (((n : List ℕ) → is_among (fewer ++ name ∷ []) n ≡ true → is_among (more ++ name ∷ []) n ≡ true) → first_repeat (more ++ name ∷ []) (line + 1) names ≡ None → first_repeat (fewer ++ name ∷ []) (line + 1) names ≡ None)
      → first_repeat fewer line (name ∷ names) ≡ None
  go true h later = absurd (let no : Some line ≡ None = sym (repeat_known more line name names h) ∙ e in cc)
  go false h later =
      repeat_new fewer line name names (false_from_ne_true (is_among fewer name) (λ t. both_ways (is_among more name) h (within name t)))
      ∙ later next (sym (repeat_new more line name names h) ∙ e)

-- what was there before is none of the names
pub none_before : (before : List (List ℕ)) (line : ℕ) (names : List (List ℕ)) (n : List ℕ) → first_repeat before line names ≡ None → is_among before n ≡ true → is_among names n ≡ false
none_before before line [] n e there = refl
none_before before line (name ∷ names) n e there = go (is_among before name) refl (none_before (before ++ name ∷ []) (line + 1) names n) where
  go : (b : Bool) → is_among before name ≡ b → (first_repeat (before ++ name ∷ []) (line + 1) names ≡ None → is_among (before ++ name ∷ []) n ≡ true → is_among names n ≡ false) → is_among (name ∷ names) n ≡ false
  go true h later = absurd (let no : Some line ≡ None = sym (repeat_known before line name names h) ∙ e in cc)
  go false h later = or_neither (bytes_eq n name) (is_among names n)
      (false_from_ne_true (bytes_eq n name) (λ t. both_ways (is_among before name) h (subst (λ k. is_among before k ≡ true) (same_bytes n name t) there)))
      (later (sym (repeat_new before line name names h) ∙ e) (among_append before (name ∷ []) n ∙ ap (λ b. b || is_among (name ∷ []) n) there))

-- the number of the first line plays no part where nothing is repeated
any_line : (before : List (List ℕ)) (line other : ℕ) (names : List (List ℕ)) → first_repeat before line names ≡ None → first_repeat before other names ≡ None
any_line before line other [] e = refl
any_line before line other (name ∷ names) e = go (is_among before name) refl (any_line (before ++ name ∷ []) (line + 1) (other + 1) names) where
  go : (b : Bool) → is_among before name ≡ b → (first_repeat (before ++ name ∷ []) (line + 1) names ≡ None → first_repeat (before ++ name ∷ []) (other + 1) names ≡ None) → first_repeat before other (name ∷ names) ≡ None
  go true h later = absurd (let no : Some line ≡ None = sym (repeat_known before line name names h) ∙ e in cc)
  go false h later = repeat_new before other name names h ∙ later (sym (repeat_new before line name names h) ∙ e)

-- a repeat in two parts
pub repeats-append : (before : List (List ℕ)) (line : ℕ) (xs ys : List (List ℕ)) (next : ℕ) → first_repeat before line xs ≡ None → first_repeat (before ++ xs) next ys ≡ None → first_repeat before line (xs ++ ys) ≡ None
repeats-append before line [] ys next e f = any_line before next line ys (subst (λ b. first_repeat b next ys ≡ None) (append-nil before) f)
repeats-append before line (x ∷ xs) ys next e f = go (is_among before x) refl (repeats-append (before ++ x ∷ []) (line + 1) xs ys next) where
  go : (b : Bool) → is_among before x ≡ b → (first_repeat (before ++ x ∷ []) (line + 1) xs ≡ None → first_repeat ((before ++ x ∷ []) ++ xs) next ys ≡ None → first_repeat (before ++ x ∷ []) (line + 1) (xs ++ ys) ≡ None)
      → first_repeat before line (x ∷ (xs ++ ys)) ≡ None
  go true h later = absurd (let no : Some line ≡ None = sym (repeat_known before line x xs h) ∙ e in cc)
  go false h later =
      repeat_new before line x (xs ++ ys) h
      ∙ later (sym (repeat_new before line x xs h) ∙ e) (subst (λ b. first_repeat b next ys ≡ None) (sym (append_assoc before (x ∷ []) xs)) f)
