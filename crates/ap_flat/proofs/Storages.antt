-- The storage that a group's ports are named by.
use Rattle.std.proofs.Common.{◌≡◌, ◌≢◌, ℕ, zero, suc, ◌+◌, ◌<◌, ◌^◌, Bool, true, false, List, [], ◌∷◌, ◌++◌, drop, take, Option, Some, None, refl, sym, ap, subst, ◌∙◌, arith, append_assoc}
use Rattle.std.specs.Prelude.{codes, slice_get, if◌then◌else◌}
use Rattle.std.specs.Fmt.{decimal}
use Rattle.std.proofs.lemmas.Bool.{both_ways}
use Rattle.ap_bits.specs.Names.{IsName, is_name}
use Rattle.ap_text.specs.Numbers.{number_value}
use Rattle.ap_text.proofs.Written.{number_value-decimal}
use Rattle.ap_net.proofs.Lists.{All-at, some_same}
use Rattle.ap_flat.specs.Ports.{HasNoUnderscore, IsPortNumber, IsStorage, storage_text}
use Rattle.ap_flat.specs.declared.outside.Storage.{Storage}
use Rattle.ap_flat.proofs.PortLists.{name_no_underscore, one_cut}

-- what a look for a name says

pub no_name : {X : Type 0} (b : Bool) (x : X) (r : Option X) → r ≡ (if b then Some x else None) → r ≡ None → b ≡ false
no_name true x r is none = let wrong : Some x ≡ None = sym is ∙ none in absurd cc
no_name false x r is none = refl

pub a_name : {X : Type 0} (b : Bool) (x : X) (r : Option X) (y : X) → r ≡ (if b then Some x else None) → r ≡ Some y → (b ≡ true) × (y ≡ x)
a_name true x r y is some = (refl, some_same (sym some ∙ is))
a_name false x r y is some = let wrong : None ≡ Some y = sym is ∙ some in absurd cc

-- numbers

pub number_err : (digits : List ℕ) → number_value digits ≡ None → (n : ℕ) → n < 2 ^ 64 → digits ≢ decimal n
number_err digits none n low e = let wrong : Some n ≡ None = sym (number_value-decimal n low) ∙ ap number_value (sym e) ∙ none in cc

pub number_differs : (digits : List ℕ) (v : ℕ) → number_value digits ≡ Some v → (decimal v ≡ digits → ⊥) → (n : ℕ) → n < 2 ^ 64 → digits ≢ decimal n
number_differs digits v is differs n low e =
    let same : n ≡ v = some_same (sym (number_value-decimal n low) ∙ ap number_value (sym e) ∙ is) in
    differs (ap decimal (sym same) ∙ sym e)

-- the text is cut at its first underscore

cut : (text : List ℕ) (at : ℕ) → slice_get text at ≡ Some 95 → text ≡ take at text ++ 95 ∷ drop (suc at) text
cut [] at here = absurd cc
cut (b ∷ text) zero here = ap (λ x. x ∷ text) (some_same here)
cut (b ∷ text) (suc at) here = ap (λ t. b ∷ t) (cut text at here)

pub cut_here : (text : List ℕ) (at : ℕ) → slice_get text at ≡ Some 95 → text ≡ take at text ++ 95 ∷ drop (at + 1) text
cut_here text at here = let up : suc at ≡ at + 1 = omega arith in cut text at here ∙ ap (λ n. take at text ++ 95 ∷ drop n text) up

module _ (text : List ℕ) (at : ℕ) (here : slice_get text at ≡ Some 95) (first : HasNoUnderscore (take at text)) where
  -- what is written there is cut the same way
  pub record IsCut (s : Storage) : Type 0 where
    pub number : ℕ
    pub port : s.port ≡ Some number
    pub low : number < 2 ^ 64
    pub name : s.name ≡ take at text
    pub digits : drop (at + 1) text ≡ decimal number

  pub cut_of : (s : Storage) → IsStorage text s → IsCut s
  cut_of s is = go s.port refl is.number is.written where
    go : (o : Option ℕ) → s.port ≡ o → IsPortNumber o → text ≡ storage_text s.name o → IsCut s
    go None e low written = absurd (All-at (λ byte. byte ≢ 95) s.name at 95 (name_no_underscore s.name is.named) (ap (λ t. slice_get t at) (sym written) ∙ here) refl)
    go (Some n) e low written =
        let parts = one_cut s.name (decimal n) (take at text) (drop (at + 1) text) (name_no_underscore s.name is.named) first
        (sym (append_assoc s.name (codes "_") (decimal n)) ∙ sym written ∙ cut_here text at here) in
        record { number = n; port = e; low = low; name = parts.0; digits = sym parts.1 }

  pub none_named : is_name (take at text) ≡ false → (s : Storage) → IsStorage text s → ⊥
  none_named miss s is = let c = cut_of s is in both_ways (is_name (take at text)) miss (ap is_name (sym c.name) ∙ is.named)

  pub none_numbered : ((n : ℕ) → n < 2 ^ 64 → drop (at + 1) text ≢ decimal n) → (s : Storage) → IsStorage text s → ⊥
  none_numbered miss s is = let c = cut_of s is in miss c.number c.low c.digits

  pub storage_there : (name : List ℕ) (number : ℕ) → IsName (take at text) → name ≡ take at text → number < 2 ^ 64 → drop (at + 1) text ≡ decimal number → IsStorage text (record { name = name; port = Some number })
  storage_there name number named same low digits = record {
    named = subst IsName (sym same) named;
    number = low;
    written = cut_here text at here ∙ (λ i. sym same i ++ 95 ∷ digits i) ∙ sym (append_assoc name (codes "_") (decimal number));
  }
