-- What is shown of a statement spells it.
use Rattle.std.proofs.Common.{◌≡◌, ℕ, ◌<◌, ◌^◌, List, [], ◌∷◌, true, map, refl}
use Rattle.std.specs.Fmt.{decimal}
use Rattle.std.specs.List.{list_all}
use Rattle.std.proofs.lemmas.Bool.{and_parts, ltb-true}
use Rattle.ap_text.proofs.Written.{number_value-decimal}
use Rattle.ap_desc.specs.declared.statement.Statement.{Statement}
use Rattle.ap_bits.specs.Beside.{EachBeside}
use Rattle.ap_desc.specs.Shown.{shown_token}
use Rattle.ap_desc.specs.Spelling.{Token, exactly, tagged, IsToken, IsSpellable, Spells, is_small, spelling}
use Rattle.ap_desc.proofs.PlainTokens.{fit_spelling, is_fit, is_plain, is_whole}

pub small_below : (n : ℕ) → is_small n ≡ true → n < 2 ^ 64
small_below n h = ltb-true n (2 ^ 64) h

-- what is shown of each token is that token
tokens_shown : (tokens : List Token) → list_all is_fit tokens ≡ true → EachBeside IsToken tokens (map shown_token tokens)
tokens_shown [] h = tt
tokens_shown (exactly bytes ∷ tokens) h = (refl, tokens_shown tokens (and_parts (is_whole bytes) (list_all is_fit tokens) h).1)
tokens_shown (tagged tag n ∷ tokens) h =
    let a = and_parts (is_fit (tagged tag n)) (list_all is_fit tokens) h in
    let small = (and_parts (list_all is_plain tag) (is_small n) a.0).1 in
    ((decimal n, refl, number_value-decimal n (small_below n small)), tokens_shown tokens a.1)

pub shown_spells : (statement : Statement) → IsSpellable statement → Spells statement (map shown_token (spelling statement))
shown_spells statement h = record {
  spellable = h;
  spelled = tokens_shown (spelling statement) (fit_spelling statement h);
}
