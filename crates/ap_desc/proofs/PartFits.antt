-- What tokens give as parts, as fields and as a guard is what they spell, and all that they spell.
use Rattle.std.proofs.Common.{◌≡◌, ℕ, ◌&&◌, Bool, true, false, List, [], ◌∷◌, ◌++◌, Option, Some, None, map, refl, sym, ap, ◌∙◌, subst, append_assoc}
use Rattle.std.specs.Prelude.{codes, option_map, if◌then◌else◌}
use Rattle.std.specs.Char.{is_ascii_alphanumeric}
use Rattle.std.specs.List.{list_all}
use Rattle.std.specs.Str.{bytes_eq}
use Rattle.std.proofs.lemmas.Bool.{and_parts}
use Rattle.std.proofs.lemmas.List.Folds.{list_all-append}
use Rattle.std.proofs.lemmas.Option.{same_Some}
use Rattle.ap_text.specs.Numbers.{number_value}
use Rattle.ap_desc.specs.declared.statement.FieldNumber.{FieldNumber}
use Rattle.ap_desc.specs.declared.statement.Word.{Word}
use Rattle.ap_bits.specs.Beside.{EachBeside}
use Rattle.ap_desc.specs.Reserved.{is_free_name}
use Rattle.ap_desc.specs.Spelling.{Token, exactly, tagged, number, operand as operand_token, Piece, Sign, Name, Number, Operand, Widths, Settings, piece_tokens, tokens_in, is_spellable, is_small, is_free_guard, are_free_fields, has_fields, guard_tokens, IsToken}
use Rattle.ap_desc.specs.TokenValues.{Part, named, numeral, operand, widths, settings, Value, Values, part_value, only_in, some_in, last_in, values_in, beside, name_in, word_in, guard_in, cut_on, field_of, field_in, fields_in}
use Rattle.ap_desc.proofs.FreeNames.{free_without, name_from, name_to}
use Rattle.ap_desc.proofs.TokenValues.{beside_some, map_some, choose, number_small, same_bytes, word_from, word_to, cut_from, cut_found}

pub both : {a b : Bool} → a ≡ true → b ≡ true → (a && b) ≡ true
both {a} {b} p q = rw (p, q) refl

pub left : (a b : Bool) → (a && b) ≡ true → a ≡ true
left a b h = (and_parts a b h).0

pub right : (a b : Bool) → (a && b) ≡ true → b ≡ true
right a b h = (and_parts a b h).1

-- the tokens spell the pieces
pub record Fits (pieces : List Piece) (tokens : List (List ℕ)) : Type 0 where
  pub spellable : list_all is_spellable pieces ≡ true
  pub spelled : EachBeside IsToken (tokens_in pieces) tokens

pub beside_joined : (xs ys : List Token) (ts us : List (List ℕ)) → EachBeside IsToken xs ts → EachBeside IsToken ys us → EachBeside IsToken (xs ++ ys) (ts ++ us)
beside_joined [] ys [] us h g = g
beside_joined [] ys (t ∷ ts) us h g = absurd h
beside_joined (x ∷ xs) ys [] us h g = absurd h
beside_joined (x ∷ xs) ys (t ∷ ts) us h g = (h.0, beside_joined xs ys ts us h.1 g)

-- the tokens of pieces that follow others
lead_tokens : (lead : List Piece) (piece : Piece) (pieces : List Piece) → tokens_in (lead ++ piece ∷ pieces) ≡ tokens_in lead ++ tokens_in (piece ∷ pieces)
lead_tokens [] piece pieces = refl
lead_tokens (p ∷ []) piece pieces = refl
lead_tokens (p ∷ q ∷ lead) piece pieces =
    ap (λ ts. piece_tokens p ++ ts) (lead_tokens (q ∷ lead) piece pieces) ∙ sym (append_assoc (piece_tokens p) (tokens_in (q ∷ lead)) (tokens_in (piece ∷ pieces)))

pub sign_tokens : (word : List ℕ) (pieces : List Piece) → tokens_in (Sign word ∷ pieces) ≡ exactly word ∷ tokens_in pieces
sign_tokens word [] = refl
sign_tokens word (piece ∷ pieces) = refl

pub fits_after : (lead : List Piece) (leads : List (List ℕ)) (piece : Piece) (pieces : List Piece) (tokens : List (List ℕ)) → Fits lead leads → Fits (piece ∷ pieces) tokens → Fits (lead ++ piece ∷ pieces) (leads ++ tokens)
fits_after lead leads piece pieces tokens h g = record {
  spellable = list_all-append is_spellable lead (piece ∷ pieces) ∙ both h.spellable g.spellable;
  spelled = subst (λ ts. EachBeside IsToken ts (leads ++ tokens)) (sym (lead_tokens lead piece pieces)) (beside_joined (tokens_in lead) (tokens_in (piece ∷ pieces)) leads tokens h.spelled g.spelled);
}

pub fits_sign : (word first : List ℕ) (pieces : List Piece) (rest : List (List ℕ)) → first ≡ word → Fits pieces rest → Fits (Sign word ∷ pieces) (first ∷ rest)
fits_sign word first pieces rest e h = record {
  spellable = h.spellable;
  spelled = subst (λ ts. EachBeside IsToken ts (first ∷ rest)) (sym (sign_tokens word pieces)) (e, h.spelled);
}

-- a field's name directly followed by the separator, and then its number
abbrev field_token : ℕ → FieldNumber → Token
field_token c f = tagged (f.field ++ c ∷ []) f.number

-- the tokens spell the fields
record FitsFields (c : ℕ) (fields : List FieldNumber) (tokens : List (List ℕ)) : Type 0 where
  free : are_free_fields fields ≡ true
  spelled : EachBeside IsToken (map (field_token c) fields) tokens

record FitsField (c : ℕ) (field : FieldNumber) (token : List ℕ) : Type 0 where
  name : is_free_name field.field ≡ true
  small : is_small field.number ≡ true
  spelled : IsToken (field_token c field) token

field_of_from : (c : ℕ) (token : List ℕ) (field : FieldNumber) (o : Option (List ℕ × List ℕ)) → cut_on c token ≡ o → field_of o ≡ Some field → FitsField c field token
field_of_from c token field None e h = cc
field_of_from c token field (Some (name, digits)) e h =
    map_some (λ (v : List ℕ × ℕ). record { field = v.0; number = v.1 }) (beside (name_in name) (number_value digits)) field h (λ v f q.
    beside_some (name_in name) (number_value digits) v f (λ f g.
    let a = name_from name v.0 f in
    let split : token ≡ (v.0 ++ c ∷ []) ++ digits = cut_from c token name digits e ∙ ap (λ name. name ++ c ∷ digits) a.1 ∙ sym (append_assoc v.0 (c ∷ []) digits) in
    subst (λ field. FitsField c field token) q (record { name = a.0; small = number_small digits v.1 g; spelled = (digits, split, g) })))

field_from : (c : ℕ) (token : List ℕ) (field : FieldNumber) → field_in c token ≡ Some field → FitsField c field token
unfolding field_in
field_from c token field h = field_of_from c token field (cut_on c token) refl h

field_to : (c : ℕ) → is_ascii_alphanumeric c ≡ false → (token : List ℕ) (field : FieldNumber) → FitsField c field token → field_in c token ≡ Some field
unfolding field_in
field_to c apart token field h =
    let split : token ≡ field.field ++ c ∷ h.spelled.0 = h.spelled.1 ∙ append_assoc field.field (c ∷ []) h.spelled.0 in
    let e : cut_on c token ≡ Some (field.field, h.spelled.0) = ap (cut_on c) split ∙ cut_found c field.field h.spelled.0 (free_without c apart field.field h.name) in
    ap field_of e ∙ rw (name_to field.field h.name, h.spelled.2) refl

fields_from : (c : ℕ) (tokens : List (List ℕ)) (fields : List FieldNumber) → fields_in c tokens ≡ Some fields → FitsFields c fields tokens
unfolding fields_in
fields_from c [] fields h =
    let e : [] ≡ fields = same_Some [] fields h in
    subst (λ fields. FitsFields c fields []) e (record { free = refl; spelled = tt })
fields_from c (token ∷ tokens) fields h =
    map_some (λ (v : FieldNumber × List FieldNumber). v.0 ∷ v.1) (beside (field_in c token) (fields_in c tokens)) fields h (λ v f q.
    beside_some (field_in c token) (fields_in c tokens) v f (λ f g.
    let a = field_from c token v.0 f in
    let b = fields_from c tokens v.1 g in
    subst (λ fields. FitsFields c fields (token ∷ tokens)) q (record { free = both (both a.name a.small) b.free; spelled = (a.spelled, b.spelled) })))

fields_to : (c : ℕ) → is_ascii_alphanumeric c ≡ false → (tokens : List (List ℕ)) (fields : List FieldNumber) → FitsFields c fields tokens → fields_in c tokens ≡ Some fields
unfolding fields_in
fields_to c apart [] [] h = refl
fields_to c apart (token ∷ tokens) [] h = absurd h.spelled
fields_to c apart [] (field ∷ fields) h = absurd h.spelled
fields_to c apart (token ∷ tokens) (field ∷ fields) h =
    let free = and_parts (is_free_name field.field && is_small field.number) (are_free_fields fields) h.free in
    let one = and_parts (is_free_name field.field) (is_small field.number) free.0 in
    let a = field_to c apart token field (record { name = one.0; small = one.1; spelled = h.spelled.0 }) in
    let b = fields_to c apart tokens fields (record { free = free.1; spelled = h.spelled.1 }) in
    rw (a, b) refl

-- the piece that a part is with its value
abbrev part_piece : (part : Part) → Value part → Piece
part_piece named name = Name name
part_piece numeral n = Number n
part_piece operand word = Operand word
part_piece widths fields = Widths fields
part_piece settings fields = Settings fields

abbrev pub pieces_of : (parts : List Part) → Values parts → List Piece
pieces_of [] v = []
pieces_of (part ∷ []) v = part_piece part v ∷ []
pieces_of (part ∷ next ∷ parts) v = part_piece part v.0 ∷ pieces_of (next ∷ parts) v.1

-- a part that is one token; the others stand last
abbrev is_single : Part → Bool
is_single named = true
is_single numeral = true
is_single operand = true
is_single widths = false
is_single settings = false

abbrev pub ends_well : List Part → Bool
ends_well [] = true
ends_well (part ∷ []) = true
ends_well (part ∷ next ∷ parts) = is_single part && ends_well (next ∷ parts)

-- the token spells the value as this part
pub record FitsPart (part : Part) (v : Value part) (token : List ℕ) : Type 0 where
  pub spellable : is_spellable (part_piece part v) ≡ true
  pub spelled : EachBeside IsToken (piece_tokens (part_piece part v)) (token ∷ [])

pub part_from : (part : Part) (token : List ℕ) (v : Value part) → part_value part token ≡ Some v → FitsPart part v token
part_from named token v h =
    let a = name_from token v h in
    record { spellable = a.0; spelled = (a.1, tt) }
part_from numeral token v h = record { spellable = number_small token v h; spelled = ((token, refl, h), tt) }
part_from operand token v h =
    let a = word_from token v h in
    record { spellable = a.0; spelled = (a.1, tt) }
part_from widths token v h = cc
part_from settings token v h = cc

only_from : (part : Part) (tokens : List (List ℕ)) (v : Value part) → only_in part tokens ≡ Some v → Fits (part_piece part v ∷ []) tokens
only_from part [] v h = cc
only_from part (token ∷ []) v h =
    let a = part_from part token v h in
    record { spellable = both a.spellable refl; spelled = a.spelled }
only_from part (token ∷ more ∷ tokens) v h = cc

some_from : (tokens : List (List ℕ)) (fields : List FieldNumber) → some_in 58 tokens ≡ Some fields → Fits (Widths fields ∷ []) tokens
some_from [] fields h = cc
some_from (token ∷ tokens) [] h = absurd (fields_from 58 (token ∷ tokens) [] h).spelled
some_from (token ∷ tokens) (field ∷ fields) h =
    let a = fields_from 58 (token ∷ tokens) (field ∷ fields) h in
    record { spellable = both a.free refl; spelled = a.spelled }

last_from : (part : Part) (tokens : List (List ℕ)) (v : Value part) → last_in part tokens ≡ Some v → Fits (part_piece part v ∷ []) tokens
last_from named tokens v h = only_from named tokens v h
last_from numeral tokens v h = only_from numeral tokens v h
last_from operand tokens v h = only_from operand tokens v h
last_from widths tokens v h = some_from tokens v h
last_from settings tokens v h =
    let a = fields_from 61 tokens v h in
    record { spellable = both a.free refl; spelled = a.spelled }

-- pieces of parts after one more
more_tokens : (piece : Piece) (next : Part) (parts : List Part) (v : Values (next ∷ parts)) → tokens_in (piece ∷ pieces_of (next ∷ parts) v) ≡ piece_tokens piece ++ tokens_in (pieces_of (next ∷ parts) v)
more_tokens piece next [] v = refl
more_tokens piece next (more ∷ parts) v = refl

pub values_from : (parts : List Part) (tokens : List (List ℕ)) (v : Values parts) → values_in parts tokens ≡ Some v → Fits (pieces_of parts v) tokens
values_from [] [] v h = record { spellable = refl; spelled = tt }
values_from [] (token ∷ tokens) v h = cc
values_from (part ∷ []) tokens v h = last_from part tokens v h
values_from (part ∷ next ∷ parts) [] v h = cc
values_from (part ∷ next ∷ parts) (token ∷ tokens) v h =
    beside_some (part_value part token) (values_in (next ∷ parts) tokens) v h (λ e f.
    let a = part_from part token v.0 e in
    let b = values_from (next ∷ parts) tokens v.1 f in
    record {
      spellable = both a.spellable b.spellable;
      spelled = subst (λ ts. EachBeside IsToken ts (token ∷ tokens)) (sym (more_tokens (part_piece part v.0) next parts v.1))
          (beside_joined (piece_tokens (part_piece part v.0)) (tokens_in (pieces_of (next ∷ parts) v.1)) (token ∷ []) tokens a.spelled b.spelled);
    })

-- the one token of a part
abbrev single_token : (part : Part) → Value part → Token
single_token named name = exactly name
single_token numeral n = number n
single_token operand word = operand_token word
single_token widths fields = exactly []
single_token settings fields = exactly []

single_tokens : (part : Part) → is_single part ≡ true → (v : Value part) → piece_tokens (part_piece part v) ≡ single_token part v ∷ []
single_tokens named ok v = refl
single_tokens numeral ok v = refl
single_tokens operand ok v = refl
single_tokens widths ok v = cc
single_tokens settings ok v = cc

part_to : (part : Part) → is_single part ≡ true → (token : List ℕ) (v : Value part) → is_spellable (part_piece part v) ≡ true → IsToken (single_token part v) token → part_value part token ≡ Some v
part_to named ok token v free h = ap name_in h ∙ name_to v free
part_to numeral ok token v free h = ap number_value h.1 ∙ h.2
part_to operand ok token v free h = ap word_in h ∙ word_to v free
part_to widths ok token v free h = cc
part_to settings ok token v free h = cc

only_to : (part : Part) → is_single part ≡ true → (tokens : List (List ℕ)) (v : Value part) → is_spellable (part_piece part v) ≡ true → EachBeside IsToken (single_token part v ∷ []) tokens → only_in part tokens ≡ Some v
only_to part ok [] v free h = absurd h
only_to part ok (token ∷ []) v free h = part_to part ok token v free h.0
only_to part ok (token ∷ more ∷ tokens) v free h = absurd h.1

some_to : (tokens : List (List ℕ)) (fields : List FieldNumber) → is_spellable (Widths fields) ≡ true → EachBeside IsToken (piece_tokens (Widths fields)) tokens → some_in 58 tokens ≡ Some fields
some_to [] [] free h = cc
some_to [] (field ∷ fields) free h = absurd h
some_to (token ∷ tokens) fields free h =
    fields_to 58 refl (token ∷ tokens) fields (record { free = (and_parts (has_fields fields) (are_free_fields fields) free).1; spelled = h })

last_to : (part : Part) (tokens : List (List ℕ)) (v : Value part) → is_spellable (part_piece part v) ≡ true → EachBeside IsToken (piece_tokens (part_piece part v)) tokens → last_in part tokens ≡ Some v
last_to named tokens v free h = only_to named refl tokens v free h
last_to numeral tokens v free h = only_to numeral refl tokens v free h
last_to operand tokens v free h = only_to operand refl tokens v free h
last_to widths tokens v free h = some_to tokens v free h
last_to settings tokens v free h = fields_to 61 refl tokens v (record { free = free; spelled = h })

first_single : (part : Part) → is_single part ≡ true → (v : Value part) (next : Part) (parts : List Part) (w : Values (next ∷ parts)) (tokens : List (List ℕ)) → EachBeside IsToken (tokens_in (part_piece part v ∷ pieces_of (next ∷ parts) w)) tokens → EachBeside IsToken (single_token part v ∷ tokens_in (pieces_of (next ∷ parts) w)) tokens
first_single part ok v next parts w tokens h =
    subst (λ ts. EachBeside IsToken ts tokens) (more_tokens (part_piece part v) next parts w ∙ ap (λ ts. ts ++ tokens_in (pieces_of (next ∷ parts) w)) (single_tokens part ok v)) h

pub values_to : (parts : List Part) → ends_well parts ≡ true → (tokens : List (List ℕ)) (v : Values parts) → Fits (pieces_of parts v) tokens → values_in parts tokens ≡ Some v
values_to [] ok [] v h = refl
values_to [] ok (token ∷ tokens) v h = absurd h.spelled
values_to (part ∷ []) ok tokens v h = last_to part tokens v (and_parts (is_spellable (part_piece part v)) true h.spellable).0 h.spelled
values_to (part ∷ next ∷ parts) ok [] v h = absurd (first_single part (and_parts (is_single part) (ends_well (next ∷ parts)) ok).0 v.0 next parts v.1 [] h.spelled)
values_to (part ∷ next ∷ parts) ok (token ∷ tokens) v h =
    let oks = and_parts (is_single part) (ends_well (next ∷ parts)) ok in
    let free = and_parts (is_spellable (part_piece part v.0)) (list_all is_spellable (pieces_of (next ∷ parts) v.1)) h.spellable in
    let spelled = first_single part oks.0 v.0 next parts v.1 (token ∷ tokens) h.spelled in
    let a = part_to part oks.0 token v.0 free.0 spelled.0 in
    let b = values_to (next ∷ parts) oks.1 tokens v.1 (record { spellable = free.1; spelled = spelled.1 }) in
    rw (a, b) refl

-- the tokens spell the guard
pub record FitsGuard (guard : Option Word) (tokens : List (List ℕ)) : Type 0 where
  pub free : is_free_guard guard ≡ true
  pub spelled : EachBeside IsToken (guard_tokens guard) tokens

pub guard_from : (tokens : List (List ℕ)) (guard : Option Word) → guard_in tokens ≡ Some guard → FitsGuard guard tokens
unfolding guard_in
guard_from [] guard h =
    let e : None ≡ guard = same_Some None guard h in
    subst (λ guard. FitsGuard guard []) e (record { free = refl; spelled = tt })
guard_from (sign ∷ []) guard h = cc
guard_from (sign ∷ token ∷ []) guard h =
    choose (bytes_eq sign (codes "when")) (option_map (λ word. Some word) (word_in token)) None (Some guard) h
    (λ e f. map_some (λ word. Some word) (word_in token) guard f (λ word f q.
    let a = word_from token word f in
    subst (λ guard. FitsGuard guard (sign ∷ token ∷ [])) q (record { free = a.0; spelled = (same_bytes sign (codes "when") e, (a.1, tt)) })))
    (λ _ f. cc)
guard_from (sign ∷ token ∷ more ∷ tokens) guard h = cc

pub guard_to : (tokens : List (List ℕ)) (guard : Option Word) → FitsGuard guard tokens → guard_in tokens ≡ Some guard
unfolding guard_in
guard_to [] None h = refl
guard_to (token ∷ tokens) None h = absurd h.spelled
guard_to [] (Some word) h = absurd h.spelled
guard_to (sign ∷ []) (Some word) h = absurd h.spelled.1
guard_to (sign ∷ token ∷ []) (Some word) h =
    ap (λ sign. if bytes_eq sign (codes "when") then option_map (λ word. Some word) (word_in token) else None) h.spelled.0
    ∙ ap (λ token. option_map (λ word. Some word) (word_in token)) h.spelled.1.0 ∙ rw (word_to word h.free) refl
guard_to (sign ∷ token ∷ more ∷ tokens) (Some word) h = absurd h.spelled.1.1
