-- Labels that are kept as keys.
use Rattle.std.proofs.Common.{◌≡◌, ℕ, true, false, cond, List, [], ◌∷◌, ◌++◌, map, Option, Some, None, is_some, inl, inr, refl, sym, ap, ◌∙◌}
use Rattle.std.specs.Map.{lookup}
use Rattle.std.specs.Str.{bytes_eq}
use Rattle.std.proofs.lemmas.Bool.{cases_Bool, cond-false, cond-true}
use Rattle.indexmap.specs.IndexMap.{insert_entry}
use Rattle.ap_program.specs.Labels.{landing_among, with_label}

-- an entry as a pair of the table
abbrev pub pair_of : {K : Type 0} → (K → List ℕ) → K × ℕ → List ℕ × ℕ
pair_of f e = (f e.0, e.1)

-- what is looked up of bytes is what the table has beside them
pub among_lookup : {K : Type 0} (f : K → List ℕ) (name : List ℕ) (es : List (K × ℕ)) → landing_among (map (pair_of f) es) name ≡ lookup (λ k. bytes_eq name (f k)) es
among_lookup f name [] = refl
among_lookup f name (e ∷ es) = ap (cond (bytes_eq name (f e.0)) (Some e.1)) (among_lookup f name es)

-- a key that isn't there goes last
insert_new : {K : Type 0} (f : K → List ℕ) (k : K) (v : ℕ) (es : List (K × ℕ)) → landing_among (map (pair_of f) es) (f k) ≡ None
    → map (pair_of f) (insert_entry (λ x y. bytes_eq (f x) (f y)) es k v) ≡ map (pair_of f) es ++ pair_of f (k, v) ∷ []
insert_new f k v [] h = refl
insert_new f k v (e ∷ es) h = elim (cases_Bool (bytes_eq (f k) (f e.0))) [
  | inl hit ↦ absurd (let some : Some e.1 ≡ None = sym (cond-true (bytes_eq (f k) (f e.0)) (Some e.1) (landing_among (map (pair_of f) es) (f k)) hit) ∙ h in cc)
  | inr miss ↦ ap (map (pair_of f)) (cond-false (bytes_eq (f k) (f e.0)) ((e.0, v) ∷ es) (e ∷ insert_entry (λ x y. bytes_eq (f x) (f y)) es k v) miss)
      ∙ ap (λ ps. pair_of f e ∷ ps) (insert_new f k v es (sym (cond-false (bytes_eq (f k) (f e.0)) (Some e.1) (landing_among (map (pair_of f) es) (f k)) miss) ∙ h))
]

none_from : (o : Option ℕ) → is_some o ≡ false → o ≡ None
none_from None e = refl
none_from (Some x) e = absurd (let wrong : true ≡ false = e in cc)

-- the table with one more label
pub add_is : {K : Type 0} (f : K → List ℕ) (name : List ℕ) (k : K) (v : ℕ) (es : List (K × ℕ)) (pairs : List (List ℕ × ℕ)) → f k ≡ name → map (pair_of f) es ≡ pairs → is_some (landing_among pairs name) ≡ false
    → map (pair_of f) (insert_entry (λ x y. bytes_eq (f x) (f y)) es k v) ≡ with_label pairs name v
add_is f name k v es pairs is view new =
    let none : landing_among (map (pair_of f) es) (f k) ≡ None = ap (λ ps. landing_among ps (f k)) view ∙ ap (landing_among pairs) is ∙ none_from (landing_among pairs name) new in
    insert_new f k v es none ∙ ap (λ ps. ps ++ pair_of f (k, v) ∷ []) view ∙ ap (λ n. pairs ++ (n, v) ∷ []) is ∙ sym (cond-false (is_some (landing_among pairs name)) pairs (pairs ++ (name, v) ∷ []) new)
