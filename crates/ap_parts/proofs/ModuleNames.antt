-- The names of the modules of which top has instances: they are names of the subset.
use Rattle.std.proofs.Common.{◌≡◌, ℕ, ◌+◌, ◌<◌, ◌≤◌, ◌^◌, ◌&&◌, true, List, [], ◌∷◌, ◌++◌, length, refl, subst, append_assoc, ◌∙◌, arith}
use Rattle.std.specs.Prelude.{◌==◌, nat_le}
use Rattle.std.specs.Char.{is_ascii_alphanumeric}
use Rattle.std.specs.Fmt.{decimal}
use Rattle.std.specs.List.{list_all}
use Rattle.std.proofs.lemmas.Bool.{and_parts, leb-true, le-leb, or_left}
use Rattle.std.proofs.lemmas.List.{length-append}
use Rattle.std.proofs.lemmas.List.Folds.{list_all-append}
use Rattle.ap_bits.specs.declared.card.Card.{Card}
use Rattle.ap_bits.specs.Names.{IsName, starts_with_letter}
use Rattle.ap_net.specs.Names.{IsNetName, is_name_byte}
use Rattle.ap_net.proofs.Laws.{IsNetName-numbered_kind}
use Rattle.ap_unit.specs.Cards.{IsKindCard}
use Rattle.ap_parts.specs.Parts.{kind_module_name}

alphanumeric_byte : (b : ℕ) → is_ascii_alphanumeric b ≡ true → is_name_byte b ≡ true
alphanumeric_byte b h = or_left (is_ascii_alphanumeric b) (b == 95) h

alphanumeric_bytes : (bytes : List ℕ) → list_all is_ascii_alphanumeric bytes ≡ true → list_all is_name_byte bytes ≡ true
alphanumeric_bytes [] h = refl
alphanumeric_bytes (b ∷ bytes) h =
    let both = and_parts (is_ascii_alphanumeric b) (list_all is_ascii_alphanumeric bytes) h in
    rw (alphanumeric_byte b both.0, alphanumeric_bytes bytes both.1) refl

pub IsNetName-kind : (kind : List ℕ) (width : ℕ) → IsName kind → width < 2 ^ 64 → IsNetName (kind_module_name kind width)
IsNetName-kind kind width h small =
    let few = and_parts (starts_with_letter kind && list_all is_ascii_alphanumeric kind) (nat_le (length kind) 32) h in
    let bytes = and_parts (starts_with_letter kind) (list_all is_ascii_alphanumeric kind) few.0 in
    let short : length kind ≤ 32 = leb-true (length kind) 32 few.1 in
    let long : length (kind ++ 95 ∷ []) ≡ length kind + 1 = length-append kind (95 ∷ []) in
    let fits : nat_le (length (kind ++ 95 ∷ [])) 70 ≡ true = le-leb (length (kind ++ 95 ∷ [])) 70 (omega arith) in
    let plain = alphanumeric_bytes kind bytes.1 in
    let all : list_all is_name_byte (kind ++ 95 ∷ []) ≡ true = list_all-append is_name_byte kind (95 ∷ []) ∙ rw plain refl in
    let joined = IsNetName-numbered_kind (kind ++ 95 ∷ []) width all fits small in
    subst (λ name. IsNetName (107 ∷ 95 ∷ name)) (append_assoc kind (95 ∷ []) (decimal width)) joined

pub IsNetName-card : (card : Card) (width : ℕ) → IsKindCard card → width < 2 ^ 64 → IsNetName (kind_module_name card.name width)
IsNetName-card card width kept small = IsNetName-kind card.name width kept.name small
