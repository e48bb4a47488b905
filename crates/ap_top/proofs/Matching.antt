-- Taking the tokens of a line one after another: what the rest has to be, by what was found so far.
use Rattle.std.proofs.Common.{◌≡◌, ◌≢◌, ◌↔◌, ℕ, suc, ◌+◌, ◌<◌, ◌≤◌, List, [], ◌∷◌, ◌++◌, length, get_or, drop, map, Bool, true, false, Option, Some, refl, sym, ap, subst, ◌∙◌}
use Rattle.std.specs.Prelude.{slice_get}
use Rattle.std.specs.Borrow.{Bor}
use Rattle.std.proofs.lemmas.List.{drop_all, append_cancel_left, get_or-map}
use Rattle.ap_text.specs.Numbers.{number_value}
use Rattle.ap_top.specs.declared.form.Form.{Form}
use Rattle.ap_top.specs.declared.pattern.Letter.{Letter}
use Rattle.ap_bits.specs.Beside.{EachBeside}
use Rattle.ap_top.specs.Form.{tagged, IsDueToken, value_of}
use Rattle.ap_top.specs.declared.pattern.Piece.{Piece}
use Rattle.ap_top.specs.declared.pattern.Piece.TheVariants.{Tagged}
use Rattle.ap_top.specs.Found.{Agrees, TakesPart, token_of}
use Rattle.ap_top.proofs.Words.{rest_from}
use Rattle.std.proofs.Math.ListN.{length-map}
use Rattle.std.proofs.lemmas.Option.{get_or_from_slice_get}

-- what is found now, and the items from place i on, say the same of a form as what was found before and all the items
pub record Left {X Y : Type 0} (F : Form → X → Y → Type 0) (old now : List (Option ℕ)) (dues : List X) (items : List Y) (i : ℕ) : Type 0 where
  pub same : (form : Form) → (Agrees now form × EachBeside (F form) (drop i dues) (drop i items)) ↔ (Agrees old form × EachBeside (F form) dues items)

split : {X Y : Type 0} (R : X → Y → Type 0) (dues : List X) (items : List Y) (i : ℕ) (due : X) (item : Y) → drop i dues ≡ due ∷ drop (i + 1) dues → drop i items ≡ item ∷ drop (i + 1) items → EachBeside R (drop i dues) (drop i items) ↔ (R due item × EachBeside R (drop (i + 1) dues) (drop (i + 1) items))
split R dues items i due item e g = (rw (e, g) (λ h. h), rw (e, g) (λ h. h))

-- the next item was taken
pub left_step : {X Y : Type 0} (F : Form → X → Y → Type 0) (old now next : List (Option ℕ)) (dues : List X) (items : List Y) (i : ℕ) (due : X) (item : Y) → drop i dues ≡ due ∷ drop (i + 1) dues → drop i items ≡ item ∷ drop (i + 1) items → Left F old now dues items i → TakesPart now next (λ form. F form due item) true → Left F old next dues items (i + 1)
left_step F old now next dues items i due item e g left takes = record {
  same = λ form.
      let parts = split (F form) dues items i due item e g in
      let step = takes.some refl form in
      let whole = left.same form in (
        (λ h. let before = step.0 h.0 in whole.0 (before.0, parts.1 (before.1, h.1))),
        (λ h. let now_h = whole.1 h in let both = parts.0 now_h.1 in (step.1 (now_h.0, both.0), both.1)),
      );
}

-- the next item is not the one due
pub left_stop : {X Y : Type 0} (F : Form → X → Y → Type 0) (old now next : List (Option ℕ)) (dues : List X) (items : List Y) (i : ℕ) (due : X) (item : Y) → drop i dues ≡ due ∷ drop (i + 1) dues → drop i items ≡ item ∷ drop (i + 1) items → Left F old now dues items i → TakesPart now next (λ form. F form due item) false → (form : Form) → Agrees old form → EachBeside (F form) dues items → ⊥
left_stop F old now next dues items i due item e g left takes form agrees all =
    let now_h = (left.same form).1 (agrees, all) in
    takes.none refl form now_h.0 ((split (F form) dues items i due item e g).0 now_h.1).0

-- all were taken
pub left_end : {X Y : Type 0} (F : Form → X → Y → Type 0) (old now : List (Option ℕ)) (dues : List X) (items : List Y) (i : ℕ) → length dues ≤ i → length items ≤ i → Left F old now dues items i → TakesPart old now (λ form. EachBeside (F form) dues items) true
left_end F old now dues items i le le' left =
    let none = drop_all i dues le in
    let none' = drop_all i items le' in
    record {
      some = λ _ form. ((λ agrees. (left.same form).0 (agrees, rw (none, none') tt)), (λ h. ((left.same form).1 h).0));
      none = λ wrong. cc;
    }

pub lengths_of : {X Y : Type 0} (R : X → Y → Type 0) (xs : List X) (ys : List Y) → EachBeside R xs ys → length xs ≡ length ys
lengths_of R [] [] h = refl
lengths_of R [] (y ∷ ys) h = absurd h
lengths_of R (x ∷ xs) [] h = absurd h
lengths_of R (x ∷ xs) (y ∷ ys) h = ap suc (lengths_of R xs ys h.1)

-- nothing fits
pub takes_none : (old new : List (Option ℕ)) (fact : Form → Type 0) → ((form : Form) → Agrees old form → fact form → ⊥) → TakesPart old new fact false
takes_none old new fact never = record { some = λ wrong. cc; none = λ _ form agrees holds. never form agrees holds }

-- the same fact in other words
pub takes_as : (old new : List (Option ℕ)) (fact other : Form → Type 0) (taken : Bool) → ((form : Form) → fact form ↔ other form) → TakesPart old new fact taken → TakesPart old new other taken
takes_as old new fact other taken same takes = record {
  some = λ yes form. ((λ h. let both = (takes.some yes form).0 h in (both.0, (same form).0 both.1)), (λ h. (takes.some yes form).1 (h.0, (same form).1 h.1)));
  none = λ not_taken form agrees holds. takes.none not_taken form agrees ((same form).1 holds);
}

-- a token that begins with the tag is one where the rest is
tagged_same : (tag digits token : List ℕ) (letter : Letter) (form : Form) → token ≡ tag ++ digits → (number_value digits ≡ Some (value_of form letter)) ↔ IsDueToken form (tagged tag letter) token
tagged_same tag digits token letter form e = (
  (λ h. (digits, e, h)),
  (λ h. let other : List ℕ = h.0 in subst (λ d. number_value d ≡ Some (value_of form letter)) (append_cancel_left tag other digits (sym h.1 ∙ e)) h.2),
)

-- a token that doesn't begin with the tag is none
tagged_never : (tag token : List ℕ) (letter : Letter) (form : Form) → ((rest : List ℕ) → token ≢ tag ++ rest) → IsDueToken form (tagged tag letter) token → ⊥
tagged_never tag token letter form never h = never h.0 h.1

-- taking a number for a letter after its tag takes the tagged token
pub tagged_takes : (old new : List (Option ℕ)) (piece : Piece) (tag : Bor (List ℕ)) (letter : Letter) (token digits : List ℕ) (taken : Bool) → piece ≡ Tagged tag letter → token ≡ tag.now ++ digits → TakesPart old new (λ form. number_value digits ≡ Some (value_of form letter)) taken → TakesPart old new (λ form. IsDueToken form (token_of piece) token) taken
tagged_takes old new piece tag letter token digits taken is e takes =
    subst (λ p. TakesPart old new (λ form. IsDueToken form (token_of p) token) taken) (sym is)
    (takes_as old new (λ form. number_value digits ≡ Some (value_of form letter)) (λ form. IsDueToken form (tagged tag.now letter) token) taken (λ form. tagged_same tag.now digits token letter form e) takes)

pub tagged_not : (old : List (Option ℕ)) (piece : Piece) (tag : Bor (List ℕ)) (letter : Letter) (token : List ℕ) → piece ≡ Tagged tag letter → ((rest : List ℕ) → token ≢ tag.now ++ rest) → TakesPart old old (λ form. IsDueToken form (token_of piece) token) false
tagged_not old piece tag letter token is never =
    subst (λ p. TakesPart old old (λ form. IsDueToken form (token_of p) token) false) (sym is)
    (takes_none old old (λ form. IsDueToken form (tagged tag.now letter) token) (λ form agrees h. tagged_never tag.now token letter form never h))

-- the rest of the views of a list begins with the view of the element there
pub views_from : {X Y : Type 0} (f : X → Y) (xs : List X) (i : ℕ) (d : X) → i < length xs → drop i (map f xs) ≡ f (get_or xs i d) ∷ drop (i + 1) (map f xs)
views_from f xs i d lt = rest_from (map f xs) i (f (get_or xs i d)) (simp length-map lt) (sym (get_or-map f xs i d (f (get_or xs i d)) lt))

pub got_from : {X : Type 0} (xs : List X) (i : ℕ) (x : X) → i < length xs → slice_get xs i ≡ Some x → drop i xs ≡ x ∷ drop (i + 1) xs
got_from xs i x lt e = rest_from xs i x lt (sym (get_or_from_slice_get xs i x x e))
