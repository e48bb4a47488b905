-- Forms that begin with a word, after tokens that were read before it.
use Rattle.std.proofs.Common.{◌≡◌, ℕ, Bool, true, false, List, [], ◌∷◌, ◌++◌, Option, Some, not, refl, sym, ap, subst}
use Rattle.std.specs.Prelude.{codes, option_map}
use Rattle.std.specs.List.{list_all}
use Rattle.std.specs.Str.{bytes_eq}
use Rattle.std.proofs.lemmas.Bool.{and_parts, not-true}
use Rattle.ap_desc.specs.declared.statement.Statement.{Statement}
use Rattle.ap_bits.specs.Beside.{EachBeside}
use Rattle.ap_desc.specs.Forms.{WordForm, declared_forms, source_forms, transfer_forms, form_in, word_form_in}
use Rattle.ap_desc.specs.Reserved.{is_free_name}
use Rattle.ap_desc.specs.Spelling.{Piece, Sign, Name, Number, form, tokens_in, is_spellable, IsToken, Spells}
use Rattle.ap_desc.specs.TokenValues.{Values, values_in}
use Rattle.ap_desc.proofs.FreeNames.{unlike}
use Rattle.ap_desc.proofs.PartFits.{Fits, pieces_of, ends_well, values_from, values_to, fits_after, fits_sign}
use Rattle.ap_desc.proofs.TokenValues.{map_some, choose, same_bytes}

-- the statement that a row makes has the form of the row: what was read before, the word, and the parts. The word is no name
pub record IsFaithful (lead : List Piece) (row : WordForm) : Type 0 where
  pub forms : (v : Values row.parts) → form (row.make v) ≡ lead ++ Sign row.word ∷ pieces_of row.parts v
  pub ends : ends_well row.parts ≡ true
  pub reserved : is_free_name row.word ≡ false

abbrev pub AreFaithful : List Piece → List WordForm → Type 0
AreFaithful lead [] = Unit {0}
AreFaithful lead (row ∷ rows) = IsFaithful lead row × AreFaithful lead rows

-- the pieces before what is assigned, and before a transfer
abbrev pub assigned_lead : ℕ → List ℕ → List Piece
assigned_lead stage to = Number stage ∷ Name to ∷ Sign (codes "=") ∷ []

abbrev pub stage_lead : ℕ → List Piece
stage_lead stage = Number stage ∷ []

pub declared_faithful : AreFaithful [] declared_forms
declared_faithful =
    (record { forms = λ v. refl; ends = refl; reserved = refl }, (record { forms = λ v. refl; ends = refl; reserved = refl }, (record { forms = λ v. refl; ends = refl; reserved = refl }, (record { forms = λ v. refl; ends = refl; reserved = refl }, (record { forms = λ v. refl; ends = refl; reserved = refl }, (record { forms = λ v. refl; ends = refl; reserved = refl }, (record { forms = λ v. refl; ends = refl; reserved = refl }, (record { forms = λ v. refl; ends = refl; reserved = refl }, (record { forms = λ v. refl; ends = refl; reserved = refl }, (record { forms = λ v. refl; ends = refl; reserved = refl }, (record { forms = λ v. refl; ends = refl; reserved = refl }, (record { forms = λ v. refl; ends = refl; reserved = refl }, tt))))))))))))

pub sources_faithful : (stage : ℕ) (to : List ℕ) → AreFaithful (assigned_lead stage to) (source_forms stage to)
sources_faithful stage to =
    (record { forms = λ v. refl; ends = refl; reserved = refl }, (record { forms = λ v. refl; ends = refl; reserved = refl }, (record { forms = λ v. refl; ends = refl; reserved = refl }, (record { forms = λ v. refl; ends = refl; reserved = refl }, (record { forms = λ v. refl; ends = refl; reserved = refl }, (record { forms = λ v. refl; ends = refl; reserved = refl }, tt))))))

pub transfers_faithful : (stage : ℕ) → AreFaithful (stage_lead stage) (transfer_forms stage)
transfers_faithful stage =
    (record { forms = λ v. refl; ends = refl; reserved = refl }, (record { forms = λ v. refl; ends = refl; reserved = refl }, tt))

pub told : (m : Statement) (tokens : List (List ℕ)) → Fits (form m) tokens → Spells m tokens
told m tokens h = record { spellable = record { pieces = h.spellable }; spelled = h.spelled }

-- what the rows give is spelled, if what else there is is
pub rows_sound : (lead : List Piece) (leads : List (List ℕ)) → Fits lead leads → (rows : List WordForm) → AreFaithful lead rows → (other : Option Statement) (first : List ℕ) (rest : List (List ℕ)) (m : Statement)
    → word_form_in rows first rest other ≡ Some m → (other ≡ Some m → Spells m (leads ++ first ∷ rest)) → Spells m (leads ++ first ∷ rest)
rows_sound lead leads led [] faithful other first rest m h k = k h
rows_sound lead leads led (row ∷ rows) faithful other first rest m h k =
    choose (bytes_eq first row.word) (form_in row rest) (word_form_in rows first rest other) (Some m) h
    (λ e h. map_some row.make (values_in row.parts rest) m h (λ v f q.
    let here : Fits (Sign row.word ∷ pieces_of row.parts v) (first ∷ rest) = fits_sign row.word first (pieces_of row.parts v) rest (same_bytes first row.word e) (values_from row.parts rest v f) in
    let all : Fits (lead ++ Sign row.word ∷ pieces_of row.parts v) (leads ++ first ∷ rest) = fits_after lead leads (Sign row.word) (pieces_of row.parts v) (first ∷ rest) led here in
    subst (λ m. Spells m (leads ++ first ∷ rest)) q
    (told (row.make v) (leads ++ first ∷ rest) (subst (λ (pieces : List Piece). Fits pieces (leads ++ first ∷ rest)) (sym (faithful.0.forms v)) all))))
    (λ _ h. rows_sound lead leads led rows faithful.1 other first rest m h k)

-- the values of a row's parts are found again
pub row_values : (lead : List Piece) (row : WordForm) → IsFaithful lead row → (v : Values row.parts) (rest : List (List ℕ)) → list_all is_spellable (pieces_of row.parts v) ≡ true → EachBeside IsToken (tokens_in (pieces_of row.parts v)) rest → form_in row rest ≡ Some (row.make v)
row_values lead row faithful v rest free h = ap (λ o. option_map row.make o) (values_to row.parts faithful.ends rest v (record { spellable = free; spelled = h }))

-- a name that may be used is the word of no row
abbrev pub are_reserved : List WordForm → Bool
are_reserved rows = list_all (λ row. not (is_free_name row.word)) rows

pub passed : (rows : List WordForm) → are_reserved rows ≡ true → (name : List ℕ) → is_free_name name ≡ true → (rest : List (List ℕ)) (other : Option Statement) → word_form_in rows name rest other ≡ other
passed [] ok name free rest other = refl
passed (row ∷ rows) ok name free rest other =
    let a = and_parts (not (is_free_name row.word)) (are_reserved rows) ok in
    rw (unlike name row.word free (not-true (is_free_name row.word) a.0)) (passed rows a.1 name free rest other)
