-- Lists of lines, line after line: what holds of all that they say, how much they say, and where they say it.
use Rattle.std.proofs.Common.{◌≡◌, ℕ, ◌<◌, ◌≤◌, ◌+◌, ◌==◌, Bool, true, false, List, [], ◌∷◌, ◌++◌, length, cond, Option, Some, None, is_some, inl, inr, refl, sym, subst, ap, ◌∙◌, arith, append_assoc, append-nil, length-append}
use Rattle.std.specs.List.{AllByRecursion as Each, count_by, cons_option, filter_map, list_all, list_any}
use Rattle.std.proofs.lemmas.Bool.{and_from, cases_eq, or_cases}
use Rattle.std.proofs.lemmas.List.Elements.{filter_map-append}
use Rattle.std.proofs.lemmas.List.Sums.{sum_by-cons}
use Rattle.ap_desc.proofs.InOrder.{due_at, earlier_sections, said_by}
use Rattle.ap_desc.proofs.Members.{In, in_right}
use Rattle.ap_desc.specs.Descriptions.{IsDescription}
use Rattle.ap_desc.specs.Order.{section}
use Rattle.ap_desc.specs.declared.description.Numbered.{Numbered}
use Rattle.ap_desc.specs.declared.statement.Statement.{Statement}

pub each_list_all : {X : Type 0} (test : X → Bool) (xs : List X) → Each (λ x. test x ≡ true) xs → list_all test xs ≡ true
each_list_all test [] each = refl
each_list_all test (x ∷ xs) each = and_from (test x) (list_all test xs) each.0 (each_list_all test xs each.1)

pub each_append : {X : Type 0} (P : X → Type 0) (xs ys : List X) → Each P xs → Each P ys → Each P (xs ++ ys)
each_append P [] ys one two = two
each_append P (x ∷ xs) ys one two = (one.0, each_append P xs ys one.1 two)

pub each_split : {X : Type 0} (P : X → Type 0) (before : List X) (x : X) (after : List X) → Each P (before ++ x ∷ after) → P x
each_split P [] x after each = each.0
each_split P (y ∷ before) x after each = each_split P before x after each.1

-- what holds of each thing that a line says, holds of all that they say
pub each_said : {A X : Type 0} (f : A → Option X) (P : X → Type 0) (lines : List A) → ((before : List A) (n : A) (after : List A) (x : X) → lines ≡ before ++ n ∷ after → f n ≡ Some x → P x) → Each P (filter_map f lines)
each_said f P [] all = tt
each_said {A} {X} f P (n ∷ lines) all = go (f n) refl (each_said f P lines (λ before m after x e says. all (n ∷ before) m after x (ap (λ ls. n ∷ ls) e) says)) where
  go : (o : Option X) → f n ≡ o → Each P (filter_map f lines) → Each P (cons_option o (filter_map f lines))
  go None e later = later
  go (Some x) e later = (all [] n lines x refl e, later)

none_left : {X : Type 0} (xs : List X) → Each (λ x. ⊥) xs → xs ≡ []
none_left [] each = refl
none_left (x ∷ xs) each = absurd each.0

-- what is said in an earlier section is said before a line of a later one
pub settled : {X : Type 0} (statements : List Numbered) (f : Numbered → Option X) (k : ℕ) → ((n : Numbered) (x : X) → f n ≡ Some x → section n.statement ≡ k) → IsDescription statements
    → (before : List Numbered) (n : Numbered) (after : List Numbered) → statements ≡ before ++ n ∷ after → k < section n.statement → filter_map f before ≡ filter_map f statements
settled {X} statements f k of described before n after parts later = sym (ap (filter_map f) parts ∙ filter_map-append f before (n ∷ after) ∙ ap (λ xs. filter_map f before ++ xs) rest ∙ append-nil (filter_map f before)) where
  late : (mid : List Numbered) (m : Numbered) (end : List Numbered) (x : X) → after ≡ mid ++ m ∷ end → f m ≡ Some x → ⊥
  late mid m end x e says =
      let split : statements ≡ (before ++ n ∷ mid) ++ m ∷ end = parts ∙ ap (λ ls. before ++ n ∷ ls) e ∙ sym (append_assoc before (n ∷ mid) (m ∷ end)) in
      let due = due_at statements (before ++ n ∷ mid) m end described split in
      let low = earlier_sections (said_by (before ++ n ∷ mid)) m.statement due.late in
      let up : section n.statement ≤ section m.statement = upto (before ++ n ∷ mid) (in_right n before (n ∷ mid) (inl refl)) low in
      let at : section m.statement ≡ k = of m x says in
      omega arith where
        upto : (lines : List Numbered) → In n lines → Each (λ e. section e ≤ section m.statement) (said_by lines) → section n.statement ≤ section m.statement
        upto [] h each = absurd h
        upto (y ∷ lines) (inl same) each = subst (λ (z : Numbered). section z.statement ≤ section m.statement) (sym same) each.0
        upto (y ∷ lines) (inr h) each = upto lines h each.1

  first : (o : Option X) → f n ≡ o → cons_option o (filter_map f after) ≡ filter_map f after
  first None e = refl
  first (Some x) e = let at : section n.statement ≡ k = of n x e in absurd (omega arith)

  rest : filter_map f (n ∷ after) ≡ []
  rest = first (f n) refl ∙ none_left (filter_map f after) (each_said f (λ x. ⊥) after late)

-- what is kept line by line holds in the end
pub grow : {A : Type 0} (P : List A → Type 0) (done rest : List A) → ((before : List A) (n : A) (after : List A) → done ++ rest ≡ before ++ n ∷ after → P before → P (before ++ n ∷ [])) → P done → P (done ++ rest)
grow P done [] step p = subst P (sym (append-nil done)) p
grow P done (n ∷ rest) step p =
    let split : done ++ n ∷ rest ≡ (done ++ n ∷ []) ++ rest = sym (append_assoc done (n ∷ []) rest) in
    subst P (sym split) (grow P (done ++ n ∷ []) rest (λ before m after e. step before m after (split ∙ e)) (step done n rest refl p))

-- how much was said
pub said_length : {A X : Type 0} (f : A → Option X) (test : A → Bool) → ((n : A) → is_some (f n) ≡ test n) → (lines : List A) → length (filter_map f lines) ≡ count_by test lines
said_length f test same [] = refl
said_length {A} {X} f test same (n ∷ lines) = go (f n) (said_length f test same lines) ∙ ap (λ b. cond b 1 0 + count_by test lines) (same n) ∙ sym (sum_by-cons (λ x. cond (test x) 1 0) n lines) where
  go : (o : Option X) → length (filter_map f lines) ≡ count_by test lines → length (cons_option o (filter_map f lines)) ≡ cond (is_some o) 1 0 + count_by test lines
  go None later = omega arith
  go (Some x) later = omega arith

pub said_count : (test : Statement → Bool) (lines : List Numbered) → count_by test (said_by lines) ≡ count_by (λ (n : Numbered). test n.statement) lines
said_count test [] = refl
said_count test (n ∷ lines) = sum_by-cons (λ x. cond (test x) 1 0) n.statement (said_by lines) ∙ ap (λ c. cond (test n.statement) 1 0 + c) (said_count test lines) ∙ sym (sum_by-cons (λ (m : Numbered). cond (test m.statement) 1 0) n lines)

-- no more is said than a limit, where no line says more once it is met
pub said_within : {A X : Type 0} (f : A → Option X) (limit : ℕ) (lines : List A) → ((before : List A) (n : A) (after : List A) (x : X) → lines ≡ before ++ n ∷ after → f n ≡ Some x → length (filter_map f before) ≡ limit → ⊥)
    → length (filter_map f lines) ≤ limit
said_within {A} {X} f limit lines full = grow (λ done. length (filter_map f done) ≤ limit) [] lines step (omega arith) where
  step : (before : List A) (n : A) (after : List A) → lines ≡ before ++ n ∷ after → length (filter_map f before) ≤ limit → length (filter_map f (before ++ n ∷ [])) ≤ limit
  step before n after parts low = go (f n) refl where
    go : (o : Option X) → f n ≡ o → length (filter_map f (before ++ n ∷ [])) ≤ limit
    go None e =
        let same : filter_map f (before ++ n ∷ []) ≡ filter_map f before = filter_map-append f before (n ∷ []) ∙ ap (λ o. filter_map f before ++ cons_option o []) e ∙ append-nil (filter_map f before) in
        subst (λ xs. length xs ≤ limit) (sym same) low
    go (Some x) e =
        let same : filter_map f (before ++ n ∷ []) ≡ filter_map f before ++ x ∷ [] = filter_map-append f before (n ∷ []) ∙ ap (λ o. filter_map f before ++ cons_option o []) e in
        let more : length (filter_map f before ++ x ∷ []) ≡ length (filter_map f before) + 1 = length-append (filter_map f before) (x ∷ []) in
        subst (λ xs. length xs ≤ limit) (sym same) (elim (cases_eq (length (filter_map f before)) limit) [ inl at ↦ absurd (full before n after x parts e at) | inr other ↦ omega arith ])

-- something is said, where a line of the section stands there
pub first_said : {X : Type 0} (f : Numbered → Option X) (k : ℕ) → ((n : Numbered) → is_some (f n) ≡ (section n.statement == k)) → (lines : List Numbered) → list_any (λ statement. section statement == k) (said_by lines) ≡ true
    → (x : X) × (rest : List X) × (filter_map f lines ≡ x ∷ rest)
first_said f k same [] e = absurd cc
first_said {X} f k same (n ∷ lines) e = go (f n) refl (first_said f k same lines) where
  go : (o : Option X) → f n ≡ o → (list_any (λ statement. section statement == k) (said_by lines) ≡ true → (x : X) × (rest : List X) × (filter_map f lines ≡ x ∷ rest)) → (x : X) × (rest : List X) × (cons_option o (filter_map f lines) ≡ x ∷ rest)
  go (Some x) says there = (x, filter_map f lines, refl)
  go None says there = elim (or_cases (section n.statement == k) (list_any (λ statement. section statement == k) (said_by lines)) e) [
    | inl here ↦ let wrong : false ≡ true = sym (ap is_some says) ∙ same n ∙ here in absurd cc
    | inr later ↦ there later
  ]
