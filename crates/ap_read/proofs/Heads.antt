-- The first tokens of a line, by the statement that it says: what a text lacks by its tokens its statements lack.
use Rattle.std.proofs.Common.{◌≡◌, ℕ, ◌&&◌, ◌||◌, not, List, [], ◌∷◌, Bool, true, false, Some, None, refl, sym, ap, ◌∙◌, inl, inr}
use Rattle.std.specs.Prelude.{codes, ◌==◌, fold}
use Rattle.std.specs.Bool.{if◌then◌else◌}
use Rattle.std.specs.List.{list_any, starts_with}
use Rattle.std.specs.Str.{bytes_eq}
use Rattle.std.specs.Cmp.Lexicographic.{bytes_decides, pointwise}
use Rattle.std.proofs.lemmas.Bool.{cases_Bool, false_from_ne_true}
use Rattle.ap_text.specs.Lines.{TextLine}
use Rattle.ap_text.specs.Numbers.{number_value, spelled_value}
use Rattle.ap_desc.specs.declared.statement.FieldNumber.{FieldNumber}
use Rattle.ap_desc.specs.declared.statement.Statement.{Statement}
use Rattle.ap_desc.specs.declared.statement.Statement.TheVariants as s
use Rattle.ap_bits.specs.Beside.{EachBeside}
use Rattle.ap_desc.specs.Faults.{begins, consists_of, is_missing_some, open_after}
use Rattle.ap_desc.specs.Order.{has_section, inside_after, is_complete, is_end, is_inside, is_instr, is_nop, section}
use Rattle.ap_desc.specs.Reading.{SpellsLine}
use Rattle.ap_desc.specs.Spelling.{IsToken, Piece, Sign, Number, form, number, spelling, tokens_in}

-- the word that pieces begin with; a micro-operation begins with a number
abbrev opening : List Piece → List ℕ
opening (Sign word ∷ pieces) = word
opening _ = []

abbrev keyword : Statement → List ℕ
keyword statement = opening (form statement)

-- every statement begins with a word or a number
abbrev is_opened : List Piece → Bool
is_opened (Sign word ∷ pieces) = true
is_opened (Number n ∷ pieces) = true
is_opened _ = false

all_opened : (statement : Statement) → is_opened (form statement) ≡ true
all_opened s.End = refl
all_opened _ = refl

-- the bytes are neither a number nor nothing
record IsWord (word : List ℕ) : Type 0 where
  pub no_number : number_value word ≡ None
  pub not_empty : bytes_eq word [] ≡ false

-- a number isn't the word
no_word : (word token : List ℕ) (n : ℕ) → IsWord word → IsToken (number n) token → bytes_eq word token ≡ bytes_eq word []
no_word word token n w h = false_from_ne_true (bytes_eq word token) (λ same.
    let e : word ≡ token = (bytes_decides word token).0 same in
    let wrong : Some n ≡ None = sym h.2 ∙ ap number_value (sym (e ∙ h.1)) ∙ w.no_number in cc) ∙ sym w.not_empty

-- the first token is the word exactly where the pieces begin with it
first_piece : (pieces : List Piece) (word token : List ℕ) (tokens : List (List ℕ)) → is_opened pieces ≡ true → IsWord word → EachBeside IsToken (tokens_in pieces) (token ∷ tokens) → bytes_eq word token ≡ bytes_eq word (opening pieces)
first_piece (Sign sign ∷ []) word token tokens o w h = ap (bytes_eq word) h.0
first_piece (Sign sign ∷ next ∷ pieces) word token tokens o w h = ap (bytes_eq word) h.0
first_piece (Number n ∷ []) word token tokens o w h = no_word word token n w h.0
first_piece (Number n ∷ next ∷ pieces) word token tokens o w h = no_word word token n w h.0
first_piece _ word token tokens o w h = cc

first_token : (statement : Statement) (word token : List ℕ) (tokens : List (List ℕ)) → IsWord word → EachBeside IsToken (spelling statement) (token ∷ tokens) → bytes_eq word token ≡ bytes_eq word (keyword statement)
first_token statement word token tokens w h = first_piece (form statement) word token tokens (all_opened statement) w h

-- every statement has a token
some_token : {A : Type 0} (statement : Statement) → EachBeside IsToken (spelling statement) [] → A
some_token s.End h = absurd h
some_token _ h = absurd h

and_true : (b : Bool) → (b && true) ≡ b
and_true true = refl
and_true false = refl

begins_one : (statement : Statement) (word : List ℕ) (tokens : List (List ℕ)) → IsWord word → EachBeside IsToken (spelling statement) tokens → starts_with bytes_eq tokens (word ∷ []) ≡ bytes_eq word (keyword statement)
begins_one statement word [] w h = some_token statement h
begins_one statement word (token ∷ tokens) w h = and_true (bytes_eq word token) ∙ first_token statement word token tokens w h

-- the words that are looked for
stages_word : IsWord (codes "stages")
unfolding number_value spelled_value
stages_word = record { no_number = refl; not_empty = refl }

address_word : IsWord (codes "address")
unfolding number_value spelled_value
address_word = record { no_number = refl; not_empty = refl }

word_word : IsWord (codes "word")
unfolding number_value spelled_value
word_word = record { no_number = refl; not_empty = refl }

transfer_word : IsWord (codes "transfer")
unfolding number_value spelled_value
transfer_word = record { no_number = refl; not_empty = refl }

instr_word : IsWord (codes "instr")
unfolding number_value spelled_value
instr_word = record { no_number = refl; not_empty = refl }

end_word : IsWord (codes "end")
unfolding number_value spelled_value
end_word = record { no_number = refl; not_empty = refl }

stages_section : (statement : Statement) → bytes_eq (codes "stages") (keyword statement) ≡ (section statement == 0)
stages_section (s.Stages count) = refl
stages_section _ = refl

address_section : (statement : Statement) → bytes_eq (codes "address") (keyword statement) ≡ (section statement == 1)
address_section (s.Stages count) = refl
address_section _ = refl

word_section : (statement : Statement) → bytes_eq (codes "word") (keyword statement) ≡ (section statement == 2)
word_section (s.Stages count) = refl
word_section _ = refl

transfer_section : (statement : Statement) → bytes_eq (codes "transfer") (keyword statement) ≡ (section statement == 3)
transfer_section (s.Stages count) = refl
transfer_section _ = refl

instr_begins : (statement : Statement) → bytes_eq (codes "instr") (keyword statement) ≡ is_instr statement
instr_begins (s.Stages count) = refl
instr_begins _ = refl

end_begins : (statement : Statement) → bytes_eq (codes "end") (keyword statement) ≡ is_end statement
end_begins (s.Stages count) = refl
end_begins _ = refl

bytes_same : (a b : List ℕ) → bytes_eq a b ≡ bytes_eq b a
bytes_same a b = elim (cases_Bool (bytes_eq a b)) [
  | inl is ↦ is ∙ sym ((bytes_decides b a).1 (sym ((bytes_decides a b).0 is)))
  | inr other ↦ other ∙ sym (false_from_ne_true (bytes_eq b a) (λ is. let same = (bytes_decides a b).1 (sym ((bytes_decides b a).0 is)) in cc))
]

other_first : (tokens : List (List ℕ)) (statement : Statement) → bytes_eq (codes "instr") (keyword statement) ≡ false → EachBeside IsToken (spelling statement) tokens → starts_with bytes_eq tokens (codes "instr" ∷ codes "NOP" ∷ []) ≡ false
other_first [] statement other h = some_token statement h
other_first (token ∷ []) statement other h = ap (λ b. b && pointwise bytes_eq (codes "NOP" ∷ []) []) (first_token statement (codes "instr") token [] instr_word h ∙ other)
other_first (token ∷ next ∷ tokens) statement other h = ap (λ b. b && (bytes_eq (codes "NOP") next && true)) (first_token statement (codes "instr") token (next ∷ tokens) instr_word h ∙ other)

nop_first : (tokens : List (List ℕ)) (name format : List ℕ) (fixed : List FieldNumber) → EachBeside IsToken (spelling (s.Instr name format fixed)) tokens → starts_with bytes_eq tokens (codes "instr" ∷ codes "NOP" ∷ []) ≡ bytes_eq name (codes "NOP")
nop_first [] name format fixed h = absurd h
nop_first (token ∷ []) name format fixed h = absurd h.1
nop_first (token ∷ next ∷ tokens) name format fixed h =
    ap (λ b. b && (bytes_eq (codes "NOP") next && true)) (ap (bytes_eq (codes "instr")) h.0)
    ∙ and_true (bytes_eq (codes "NOP") next)
    ∙ ap (bytes_eq (codes "NOP")) h.1.0
    ∙ bytes_same (codes "NOP") name

begins_nop : (statement : Statement) (tokens : List (List ℕ)) → EachBeside IsToken (spelling statement) tokens → starts_with bytes_eq tokens (codes "instr" ∷ codes "NOP" ∷ []) ≡ is_nop statement
begins_nop (s.Instr name format fixed) tokens h = nop_first tokens name format fixed h
begins_nop statement tokens h = other_first tokens statement refl h

not_end : (tokens : List (List ℕ)) (statement : Statement) → bytes_eq (codes "end") (keyword statement) ≡ false → EachBeside IsToken (spelling statement) tokens → pointwise bytes_eq (codes "end" ∷ []) tokens ≡ false
not_end [] statement other h = refl
not_end (token ∷ tokens) statement other h = ap (λ b. b && pointwise bytes_eq [] tokens) (first_token statement (codes "end") token tokens end_word h ∙ other)

only_end : (tokens : List (List ℕ)) → EachBeside IsToken (spelling s.End) tokens → pointwise bytes_eq (codes "end" ∷ []) tokens ≡ true
only_end [] h = absurd h
only_end (token ∷ []) h = ap (λ t. bytes_eq (codes "end") t && true) h.0
only_end (token ∷ next ∷ tokens) h = absurd h.1

consists_end : (statement : Statement) (tokens : List (List ℕ)) → EachBeside IsToken (spelling statement) tokens → pointwise bytes_eq (codes "end" ∷ []) tokens ≡ is_end statement
consists_end s.End tokens h = only_end tokens h
consists_end statement tokens h = not_end tokens statement refl h

inside_by_tests : (is_open : Bool) (statement : Statement) → (if is_instr statement then true else if is_end statement then false else is_open) ≡ inside_after is_open statement
inside_by_tests is_open (s.Instr name format fixed) = refl
inside_by_tests is_open s.End = refl
inside_by_tests is_open _ = refl

open_step : (is_open : Bool) (statement : Statement) (line : TextLine) → SpellsLine statement line → open_after is_open line ≡ inside_after is_open statement
open_step is_open statement line h =
    let opens : begins (codes "instr" ∷ []) line ≡ is_instr statement = begins_one statement (codes "instr") line.tokens instr_word h.spells.spelled ∙ instr_begins statement in
    let closes : consists_of (codes "end" ∷ []) line ≡ is_end statement = consists_end statement line.tokens h.spells.spelled in
    ap (λ b. if b then true else if consists_of (codes "end" ∷ []) line then false else is_open) opens
    ∙ ap (λ b. if is_instr statement then true else if b then false else is_open) closes
    ∙ inside_by_tests is_open statement

open_same : (is_open : Bool) (said : List Statement) (lines : List TextLine) → EachBeside SpellsLine said lines → fold open_after is_open lines ≡ fold inside_after is_open said
open_same is_open [] [] h = refl
open_same is_open [] (line ∷ lines) h = absurd h
open_same is_open (statement ∷ said) [] h = absurd h
open_same is_open (statement ∷ said) (line ∷ lines) h = ap (λ b. fold open_after b lines) (open_step is_open statement line h.0) ∙ open_same (inside_after is_open statement) said lines h.1

any_same : (p : TextLine → Bool) (q : Statement → Bool) → ((statement : Statement) (line : TextLine) → SpellsLine statement line → p line ≡ q statement) → (said : List Statement) (lines : List TextLine) → EachBeside SpellsLine said lines → list_any p lines ≡ list_any q said
any_same p q same [] [] h = refl
any_same p q same [] (line ∷ lines) h = absurd h
any_same p q same (statement ∷ said) [] h = absurd h
any_same p q same (statement ∷ said) (line ∷ lines) h = ap (λ b. b || list_any p lines) (same statement line h.0) ∙ ap (λ b. q statement || b) (any_same p q same said lines h.1)

none_missing : (a b c d e is_open : Bool) → (a && b && c && d && e && not is_open) ≡ not (not a || not b || not c || not d || not e || is_open)
none_missing false b c d e is_open = refl
none_missing true false c d e is_open = refl
none_missing true true false d e is_open = refl
none_missing true true true false e is_open = refl
none_missing true true true true false is_open = refl
none_missing true true true true true is_open = refl

-- the statements of lines are complete exactly where the lines lack nothing
pub complete_same : (said : List Statement) (lines : List TextLine) → EachBeside SpellsLine said lines → is_complete said ≡ not (is_missing_some lines)
complete_same said lines h =
    let stages = any_same (begins (codes "stages" ∷ [])) (λ t. section t == 0) (λ t line g. begins_one t (codes "stages") line.tokens stages_word g.spells.spelled ∙ stages_section t) said lines h in
    let address = any_same (begins (codes "address" ∷ [])) (λ t. section t == 1) (λ t line g. begins_one t (codes "address") line.tokens address_word g.spells.spelled ∙ address_section t) said lines h in
    let word = any_same (begins (codes "word" ∷ [])) (λ t. section t == 2) (λ t line g. begins_one t (codes "word") line.tokens word_word g.spells.spelled ∙ word_section t) said lines h in
    let transfer = any_same (begins (codes "transfer" ∷ [])) (λ t. section t == 3) (λ t line g. begins_one t (codes "transfer") line.tokens transfer_word g.spells.spelled ∙ transfer_section t) said lines h in
    let nop = any_same (begins (codes "instr" ∷ codes "NOP" ∷ [])) is_nop (λ t line g. begins_nop t line.tokens g.spells.spelled) said lines h in
    let left_open = open_same false said lines h in
    none_missing (has_section said 0) (has_section said 1) (has_section said 2) (has_section said 3) (list_any is_nop said) (is_inside said)
    ∙ sym (λ i. not (not (stages i) || not (address i) || not (word i) || not (transfer i) || not (nop i) || left_open i))
