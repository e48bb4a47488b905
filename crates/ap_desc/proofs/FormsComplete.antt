-- Tokens that spell a statement give it, so that they spell no other.
use Rattle.std.proofs.Common.{◌≡◌, ℕ, ◌+◌, ◌==◌, true, false, List, [], ◌∷◌, ◌++◌, Option, Some, None, refl, sym, ap, ◌∙◌, subst, append_assoc}
use Rattle.std.specs.Prelude.{codes, nat_lt}
use Rattle.std.specs.Fmt.{decimal}
use Rattle.std.specs.List.{list_all}
use Rattle.std.specs.Str.{bytes_eq}
use Rattle.std.proofs.lemmas.Bool.{and_parts, and_right, ltb-true}
use Rattle.std.proofs.lemmas.Fmt.{decimal_digit}
use Rattle.ap_text.specs.Numbers.{number_value, spelled_value}
use Rattle.ap_desc.specs.declared.statement.Statement.{Statement}
use Rattle.ap_desc.specs.declared.statement.Statement.TheVariants as s
use Rattle.ap_desc.specs.declared.statement.Word.{Word}
use Rattle.ap_bits.specs.Beside.{EachBeside}
use Rattle.ap_desc.specs.Forms as f
use Rattle.ap_desc.specs.Forms.{WordForm, declared_forms, source_forms, transfer_forms, form_in, word_form_in, declaration_in, read_port_in, compute_in, read_part_in, read_register_in, plain_source_in, source_in, write_register_in, signed_in, write_part_in, plain_micro_in, micro_in, statement_in}
use Rattle.ap_desc.specs.Reserved.{is_free_name}
use Rattle.ap_desc.specs.Spelling.{Token, exactly, number, operand as operand_token, part_of, guard_tokens, Piece, Sign, Name, Number, Operand, Operation, Port, Access, Guard, form, word_text, tokens_in, is_spellable, is_free_word, is_free_guard, IsToken, Spells}
use Rattle.ap_desc.specs.TokenValues.{Values, operand, word_in, cut_on}
use Rattle.ap_desc.proofs.FreeNames.{name_to, free_without}
use Rattle.ap_desc.proofs.PartFits.{Fits, pieces_of, values_to, guard_to, sign_tokens}
use Rattle.ap_desc.proofs.TokenValues.{word_to, cut_found, cut_whole, port_to}
use Rattle.ap_desc.proofs.WordForms.{IsFaithful, assigned_lead, stage_lead, row_values, passed}

-- the first token is exactly this one
after_exactly : (f : List (List ℕ) → Option Statement) (word : List ℕ) (others : List Token) (tokens : List (List ℕ)) (m : Statement) → EachBeside IsToken (exactly word ∷ others) tokens → ((rest : List (List ℕ)) → EachBeside IsToken others rest → f (word ∷ rest) ≡ Some m) → f tokens ≡ Some m
after_exactly f word others [] m h g = absurd h
after_exactly f word others (token ∷ rest) m h g = ap (λ token. f (token ∷ rest)) h.0 ∙ g rest h.1

-- the pieces of a row's statement
fits_row : (lead : List Piece) (row : WordForm) → IsFaithful lead row → (v : Values row.parts) (tokens : List (List ℕ)) → Spells (row.make v) tokens → Fits (lead ++ Sign row.word ∷ pieces_of row.parts v) tokens
fits_row lead row faithful v tokens h =
    let fits : Fits (form (row.make v)) tokens = record { spellable = h.spellable.pieces; spelled = h.spelled } in
    subst (λ (pieces : List Piece). Fits pieces tokens) (faithful.forms v) fits

-- the tokens of a word and what follows it
at_sign : (word : List ℕ) (pieces : List Piece) (rest : List (List ℕ)) → EachBeside IsToken (tokens_in (Sign word ∷ pieces)) rest → EachBeside IsToken (exactly word ∷ tokens_in pieces) rest
at_sign word pieces rest h = subst (λ ts. EachBeside IsToken ts rest) (sign_tokens word pieces) h

first_fits : (piece : Piece) (pieces : List Piece) → list_all is_spellable (piece ∷ pieces) ≡ true → (is_spellable piece ≡ true) × (list_all is_spellable pieces ≡ true)
first_fits piece pieces h = and_parts (is_spellable piece) (list_all is_spellable pieces) h

-- a declaration
declared_to : (row : WordForm) → IsFaithful [] row → number_value row.word ≡ None → ((rest : List (List ℕ)) → word_form_in declared_forms row.word rest None ≡ form_in row rest) → (v : Values row.parts) (tokens : List (List ℕ)) → Spells (row.make v) tokens → statement_in tokens ≡ Some (row.make v)
unfolding statement_in declaration_in
declared_to row faithful no_number chosen v tokens h =
    let fits = fits_row [] row faithful v tokens h in
    after_exactly statement_in row.word (tokens_in (pieces_of row.parts v)) tokens (row.make v) (at_sign row.word (pieces_of row.parts v) tokens fits.spelled) (λ rest g.
    rw no_number (chosen rest ∙ row_values [] row faithful v rest fits.spellable g))

-- a micro-operation
micro_to : (stage : ℕ) (others : List Token) (tokens : List (List ℕ)) (m : Statement) → EachBeside IsToken (number stage ∷ others) tokens → ((rest : List (List ℕ)) → EachBeside IsToken others rest → micro_in stage rest ≡ Some m) → statement_in tokens ≡ Some m
unfolding statement_in
micro_to stage others [] m h f = absurd h
micro_to stage others (token ∷ rest) m h f =
    let e : number_value token ≡ Some stage = ap number_value h.0.1 ∙ h.0.2 in
    rw e (f rest h.1)

no_point : (name : List ℕ) → is_free_name name ≡ true → cut_on 46 name ≡ None
no_point name h = cut_whole 46 name (free_without 46 refl name h)

-- a name, a point and what stands after it
at_point : (name part : List ℕ) → is_free_name name ≡ true → cut_on 46 (name ++ codes "." ++ part) ≡ Some (name, part)
at_point name part h = ap (cut_on 46) (append_assoc name (codes ".") part) ∙ cut_found 46 name part (free_without 46 refl name h)

-- a transfer
transfer_to : (stage : ℕ) (row : WordForm) → IsFaithful (stage_lead stage) row → cut_on 46 row.word ≡ None → ((rest : List (List ℕ)) (other : Option Statement) → word_form_in (transfer_forms stage) row.word rest other ≡ form_in row rest) → (v : Values row.parts) (tokens : List (List ℕ)) → Spells (row.make v) tokens → statement_in tokens ≡ Some (row.make v)
unfolding micro_in plain_micro_in
transfer_to stage row faithful whole chosen v tokens h =
    let pieces = pieces_of row.parts v in
    let fits = fits_row (stage_lead stage) row faithful v tokens h in
    let free = first_fits (Number stage) (Sign row.word ∷ pieces) fits.spellable in
    micro_to stage (tokens_in (Sign row.word ∷ pieces)) tokens (row.make v) fits.spelled (λ rest g.
    after_exactly (λ rest. micro_in stage rest) row.word (tokens_in pieces) rest (row.make v) (at_sign row.word pieces rest g) (λ rest g.
    rw whole (chosen rest (signed_in stage row.word rest) ∙ row_values (stage_lead stage) row faithful v rest free.1 g)))

-- a name that isn't branch or jump, and has no point
signed_to : (stage : ℕ) (name : List ℕ) (rest : List (List ℕ)) (m : Statement) → is_free_name name ≡ true → signed_in stage name rest ≡ Some m → micro_in stage (name ∷ rest) ≡ Some m
unfolding micro_in plain_micro_in
signed_to stage name rest m free h = rw (no_point name free) (passed (transfer_forms stage) refl name free rest (signed_in stage name rest) ∙ h)

equals_to : (stage : ℕ) (to : List ℕ) (rest : List (List ℕ)) (m : Statement) → is_free_name to ≡ true → source_in stage to rest ≡ Some m → signed_in stage to (codes "=" ∷ rest) ≡ Some m
unfolding signed_in
equals_to stage to rest m free h = rw (name_to to free) h

-- the name of a new local, and what it is
assigned_fits : (stage : ℕ) (to : List ℕ) (from : List Piece) → list_all is_spellable (assigned_lead stage to ++ from) ≡ true → (is_free_name to ≡ true) × (list_all is_spellable from ≡ true)
assigned_fits stage to from h = first_fits (Name to) from (first_fits (Number stage) (Name to ∷ from) h).1

-- what assigns a local
assigned_to : (stage : ℕ) (to : List ℕ) (from : List Token) (tokens : List (List ℕ)) (m : Statement) → is_free_name to ≡ true → EachBeside IsToken (number stage ∷ exactly to ∷ exactly (codes "=") ∷ from) tokens → ((rest : List (List ℕ)) → EachBeside IsToken from rest → source_in stage to rest ≡ Some m) → statement_in tokens ≡ Some m
assigned_to stage to from tokens m free h f =
    micro_to stage (exactly to ∷ exactly (codes "=") ∷ from) tokens m h (λ rest h.
    after_exactly (λ rest. micro_in stage rest) to (exactly (codes "=") ∷ from) rest m h (λ rest h.
    after_exactly (λ rest. micro_in stage (to ∷ rest)) (codes "=") from rest m h (λ rest h.
    signed_to stage to (codes "=" ∷ rest) m free (equals_to stage to rest m free (f rest h)))))

-- a new local from a word and parts
source_to : (stage : ℕ) (to : List ℕ) (row : WordForm) → IsFaithful (assigned_lead stage to) row → cut_on 46 row.word ≡ None → ((rest : List (List ℕ)) (other : Option Statement) → word_form_in (source_forms stage to) row.word rest other ≡ form_in row rest) → (v : Values row.parts) (tokens : List (List ℕ)) → Spells (row.make v) tokens → statement_in tokens ≡ Some (row.make v)
unfolding source_in plain_source_in
source_to stage to row faithful whole chosen v tokens h =
    let pieces = pieces_of row.parts v in
    let fits = fits_row (assigned_lead stage to) row faithful v tokens h in
    let free = assigned_fits stage to (Sign row.word ∷ pieces) fits.spellable in
    assigned_to stage to (tokens_in (Sign row.word ∷ pieces)) tokens (row.make v) free.0 fits.spelled (λ rest g.
    after_exactly (λ rest. source_in stage to rest) row.word (tokens_in pieces) rest (row.make v) (at_sign row.word pieces rest g) (λ rest g.
    rw whole (chosen rest (read_register_in stage to row.word rest) ∙ row_values (assigned_lead stage to) row faithful v rest free.1 g)))

-- from a name with a point
part_source_to : (name part : List ℕ) (stage : ℕ) (to : List ℕ) (others : List Token) (rest : List (List ℕ)) (m : Statement) → is_free_name name ≡ true → EachBeside IsToken (part_of name part ∷ others) rest → ((rest : List (List ℕ)) → EachBeside IsToken others rest → read_part_in stage to name part rest ≡ Some m) → source_in stage to rest ≡ Some m
unfolding source_in
part_source_to name part stage to others rest m free h f = after_exactly (λ rest. source_in stage to rest) (name ++ codes "." ++ part) others rest m h (λ rest h. rw (at_point name part free) (f rest h))

-- a port isn't called read or write
no_read : (port : ℕ) → nat_lt port 10 ≡ true → bytes_eq (codes "r" ++ decimal port) (codes "read") ≡ false
no_read port h = ap (λ digits. bytes_eq (codes "r" ++ digits) (codes "read")) (decimal_digit port (ltb-true port 10 h)) ∙ and_right (48 + port == 101) false refl

no_write : (port : ℕ) → nat_lt port 10 ≡ true → bytes_eq (codes "w" ++ decimal port) (codes "write") ≡ false
no_write port h = ap (λ digits. bytes_eq (codes "w" ++ digits) (codes "write")) (decimal_digit port (ltb-true port 10 h)) ∙ and_right (48 + port == 114) false refl

read_memory_to : (stage : ℕ) (to mem : List ℕ) (at : Word) (rest : List (List ℕ)) → is_free_name mem ≡ true → is_free_word at ≡ true → EachBeside IsToken (operand_token at ∷ []) rest → read_part_in stage to mem (codes "read") rest ≡ Some (s.ReadMemory stage to mem at)
unfolding read_part_in read_port_in
read_memory_to stage to mem at [] free known h = absurd h
read_memory_to stage to mem at (token ∷ more ∷ rest) free known h = absurd h.1
read_memory_to stage to mem at (token ∷ []) free known h = rw (name_to mem free, ap word_in h.0 ∙ word_to at known) refl

read_file_to : (stage : ℕ) (to file : List ℕ) (port : ℕ) (index : Word) (rest : List (List ℕ)) → is_free_name file ≡ true → nat_lt port 10 ≡ true → is_free_word index ≡ true → EachBeside IsToken (operand_token index ∷ []) rest → read_part_in stage to file (codes "r" ++ decimal port) rest ≡ Some (s.ReadFile stage to file port index)
unfolding read_part_in read_port_in
read_file_to stage to file port index [] free low known h = absurd h
read_file_to stage to file port index (token ∷ more ∷ rest) free low known h = absurd h.1
read_file_to stage to file port index (token ∷ []) free low known h = rw (name_to file free, ap word_in h.0 ∙ word_to index known, port_to 114 port low, no_read port low) refl

compute_to : (stage : ℕ) (to unit op : List ℕ) (a b : Word) (rest : List (List ℕ)) → is_free_name unit ≡ true → is_free_name op ≡ true → Fits (Operand a ∷ Operand b ∷ []) rest → read_part_in stage to unit op rest ≡ Some (s.Compute stage to unit op a b)
unfolding read_part_in compute_in
compute_to stage to unit op a b [] free op_free h = absurd h.spelled
compute_to stage to unit op a b (token ∷ []) free op_free h = absurd h.spelled.1
compute_to stage to unit op a b (token ∷ next ∷ more ∷ rest) free op_free h = absurd h.spelled.1.1
compute_to stage to unit op a b (token ∷ next ∷ []) free op_free h =
    let e = values_to (operand ∷ operand ∷ []) refl (token ∷ next ∷ []) (a, b) h in
    rw (name_to unit free, name_to op op_free, e) refl

register_to : (stage : ℕ) (to reg : List ℕ) (rest : List (List ℕ)) → is_free_name reg ≡ true → EachBeside IsToken (exactly reg ∷ []) rest → source_in stage to rest ≡ Some (s.ReadRegister stage to reg)
unfolding source_in plain_source_in read_register_in
register_to stage to reg [] free h = absurd h
register_to stage to reg (token ∷ more ∷ rest) free h = absurd h.1
register_to stage to reg (token ∷ []) free h =
    ap (λ token. source_in stage to (token ∷ [])) h.0
    ∙ rw (no_point reg free) (passed (source_forms stage to) refl reg free [] (read_register_in stage to reg []) ∙ rw (name_to reg free) refl)

-- the end of a write: a value and a guard, and before them a place
record EndsWrite (value : Word) (guard : Option Word) (rest : List (List ℕ)) : Type 0 where
  value_free : is_free_word value ≡ true
  guard_free : is_free_guard guard ≡ true
  spelled : EachBeside IsToken (operand_token value ∷ guard_tokens guard) rest

ends_write : (value : Word) (guard : Option Word) (rest : List (List ℕ)) → list_all is_spellable (Operand value ∷ Guard guard ∷ []) ≡ true → EachBeside IsToken (operand_token value ∷ guard_tokens guard) rest → EndsWrite value guard rest
ends_write value guard rest free h =
    let a = first_fits (Operand value) (Guard guard ∷ []) free in
    record { value_free = a.0; guard_free = (first_fits (Guard guard) [] a.1).0; spelled = h }

write_register_to : (stage : ℕ) (reg : List ℕ) (value : Word) (guard : Option Word) (rest : List (List ℕ)) → is_free_name reg ≡ true → EndsWrite value guard rest → write_register_in stage reg rest ≡ Some (s.WriteRegister stage reg value guard)
unfolding write_register_in
write_register_to stage reg value guard [] free h = absurd h.spelled
write_register_to stage reg value guard (token ∷ rest) free h =
    let g = guard_to rest guard (record { free = h.guard_free; spelled = h.spelled.1 }) in
    rw (name_to reg free, ap word_in h.spelled.0 ∙ word_to value h.value_free, g) refl

signed_write : (stage : ℕ) (reg : List ℕ) (rest : List (List ℕ)) → signed_in stage reg (codes "<-" ∷ rest) ≡ write_register_in stage reg rest
unfolding signed_in
signed_write stage reg rest = refl

-- a write through a part
part_write_to : (stage : ℕ) (name part : List ℕ) (others : List Token) (tokens : List (List ℕ)) (m : Statement) → is_free_name name ≡ true → EachBeside IsToken (number stage ∷ part_of name part ∷ others) tokens → ((rest : List (List ℕ)) → EachBeside IsToken others rest → write_part_in stage name part rest ≡ Some m) → statement_in tokens ≡ Some m
unfolding micro_in
part_write_to stage name part others tokens m free h f =
    micro_to stage (part_of name part ∷ others) tokens m h (λ rest h.
    after_exactly (λ rest. micro_in stage rest) (name ++ codes "." ++ part) others rest m h (λ rest h. rw (at_point name part free) (f rest h)))

write_memory_to : (stage : ℕ) (mem : List ℕ) (place value : Word) (guard : Option Word) (token : List ℕ) (rest : List (List ℕ)) → is_free_name mem ≡ true → is_free_word place ≡ true → token ≡ word_text place → EndsWrite value guard rest → write_part_in stage mem (codes "write") (token ∷ rest) ≡ Some (s.WriteMemory stage mem place value guard)
unfolding write_part_in
write_memory_to stage mem place value guard token [] free known here h = absurd h.spelled
write_memory_to stage mem place value guard token (next ∷ rest) free known here h =
    let g = guard_to rest guard (record { free = h.guard_free; spelled = h.spelled.1 }) in
    rw (name_to mem free, ap word_in here ∙ word_to place known, ap word_in h.spelled.0 ∙ word_to value h.value_free, g) refl

write_file_to : (stage : ℕ) (file : List ℕ) (port : ℕ) (place value : Word) (guard : Option Word) (token : List ℕ) (rest : List (List ℕ)) → is_free_name file ≡ true → nat_lt port 10 ≡ true → is_free_word place ≡ true → token ≡ word_text place → EndsWrite value guard rest → write_part_in stage file (codes "w" ++ decimal port) (token ∷ rest) ≡ Some (s.WriteFile stage file port place value guard)
unfolding write_part_in
write_file_to stage file port place value guard token [] free low known here h = absurd h.spelled
write_file_to stage file port place value guard token (next ∷ rest) free low known here h =
    let g = guard_to rest guard (record { free = h.guard_free; spelled = h.spelled.1 }) in
    rw (name_to file free, ap word_in here ∙ word_to place known, ap word_in h.spelled.0 ∙ word_to value h.value_free, g, port_to 119 port low, no_write port low) refl

-- a place and the rest of a write
after_place : (f : List (List ℕ) → Option Statement) (place : Word) (others : List Token) (rest : List (List ℕ)) (m : Statement) → EachBeside IsToken (operand_token place ∷ others) rest → ((token : List ℕ) (rest : List (List ℕ)) → token ≡ word_text place → EachBeside IsToken others rest → f (token ∷ rest) ≡ Some m) → f rest ≡ Some m
after_place f place others [] m h k = absurd h
after_place f place others (token ∷ rest) m h k = k token rest h.0 h.1

-- tokens give the statement that they spell
pub complete : (m : Statement) (tokens : List (List ℕ)) → Spells m tokens → statement_in tokens ≡ Some m
unfolding number_value spelled_value cut_on
complete (s.Stages count) tokens h = declared_to f.stages_form (record { forms = λ v. refl; ends = refl; reserved = refl }) refl (λ rest. refl) count tokens h
complete (s.Address bits) tokens h = declared_to f.address_form (record { forms = λ v. refl; ends = refl; reserved = refl }) refl (λ rest. refl) bits tokens h
complete (s.Word bits) tokens h = declared_to f.word_form (record { forms = λ v. refl; ends = refl; reserved = refl }) refl (λ rest. refl) bits tokens h
complete (s.Transfer stage slots) tokens h = declared_to f.transfer_form (record { forms = λ v. refl; ends = refl; reserved = refl }) refl (λ rest. refl) (stage, slots) tokens h
complete (s.Reg name width reset) tokens h = declared_to f.reg_form (record { forms = λ v. refl; ends = refl; reserved = refl }) refl (λ rest. refl) (name, (width, reset)) tokens h
complete (s.File name width cells reads writes) tokens h = declared_to f.file_form (record { forms = λ v. refl; ends = refl; reserved = refl }) refl (λ rest. refl) (name, (width, (cells, (reads, writes)))) tokens h
complete (s.Mem name address width) tokens h = declared_to f.mem_form (record { forms = λ v. refl; ends = refl; reserved = refl }) refl (λ rest. refl) (name, (address, width)) tokens h
complete (s.In name width) tokens h = declared_to f.input_form (record { forms = λ v. refl; ends = refl; reserved = refl }) refl (λ rest. refl) (name, width) tokens h
complete (s.Unit name kind width) tokens h = declared_to f.unit_form (record { forms = λ v. refl; ends = refl; reserved = refl }) refl (λ rest. refl) (name, (kind, width)) tokens h
complete (s.Format name fields) tokens h = declared_to f.format_form (record { forms = λ v. refl; ends = refl; reserved = refl }) refl (λ rest. refl) (name, fields) tokens h
complete (s.Instr name format fixed) tokens h = declared_to f.instr_form (record { forms = λ v. refl; ends = refl; reserved = refl }) refl (λ rest. refl) (name, (format, fixed)) tokens h
complete s.End tokens h = declared_to f.end_form (record { forms = λ v. refl; ends = refl; reserved = refl }) refl (λ rest. refl) tt tokens h
complete (s.ReadInput stage to input) tokens h = source_to stage to (f.input_read_form stage to) (record { forms = λ v. refl; ends = refl; reserved = refl }) refl (λ rest other. refl) input tokens h
complete (s.Const stage to width value) tokens h = source_to stage to (f.const_form stage to) (record { forms = λ v. refl; ends = refl; reserved = refl }) refl (λ rest other. refl) (width, value) tokens h
complete (s.Zext stage to width a) tokens h = source_to stage to (f.zext_form stage to) (record { forms = λ v. refl; ends = refl; reserved = refl }) refl (λ rest other. refl) (width, a) tokens h
complete (s.Sext stage to width a) tokens h = source_to stage to (f.sext_form stage to) (record { forms = λ v. refl; ends = refl; reserved = refl }) refl (λ rest other. refl) (width, a) tokens h
complete (s.Slice stage to high low a) tokens h = source_to stage to (f.slice_form stage to) (record { forms = λ v. refl; ends = refl; reserved = refl }) refl (λ rest other. refl) (high, (low, a)) tokens h
complete (s.Cat stage to a b) tokens h = source_to stage to (f.cat_form stage to) (record { forms = λ v. refl; ends = refl; reserved = refl }) refl (λ rest other. refl) (a, b) tokens h
complete (s.Branch stage cond target) tokens h = transfer_to stage (f.branch_form stage) (record { forms = λ v. refl; ends = refl; reserved = refl }) refl (λ rest other. refl) (cond, target) tokens h
complete (s.Jump stage target) tokens h = transfer_to stage (f.jump_form stage) (record { forms = λ v. refl; ends = refl; reserved = refl }) refl (λ rest other. refl) target tokens h
complete (s.Compute stage to unit op a b) tokens h =
    let p = assigned_fits stage to (Operation unit op ∷ Operand a ∷ Operand b ∷ []) h.spellable.pieces in
    let q = first_fits (Operation unit op) (Operand a ∷ Operand b ∷ []) p.1 in
    let r = and_parts (is_free_name unit) (is_free_name op) q.0 in
    assigned_to stage to (part_of unit op ∷ operand_token a ∷ operand_token b ∷ []) tokens (s.Compute stage to unit op a b) p.0 h.spelled (λ rest g.
    part_source_to unit op stage to (operand_token a ∷ operand_token b ∷ []) rest (s.Compute stage to unit op a b) r.0 g (λ rest g.
    compute_to stage to unit op a b rest r.0 r.1 (record { spellable = q.1; spelled = g })))
complete (s.ReadFile stage to file port index) tokens h =
    let p = assigned_fits stage to (Port file (codes "r") port ∷ Operand index ∷ []) h.spellable.pieces in
    let q = first_fits (Port file (codes "r") port) (Operand index ∷ []) p.1 in
    let r = and_parts (is_free_name file) (nat_lt port 10) q.0 in
    let k = first_fits (Operand index) [] q.1 in
    assigned_to stage to (part_of file (codes "r" ++ decimal port) ∷ operand_token index ∷ []) tokens (s.ReadFile stage to file port index) p.0 h.spelled (λ rest g.
    part_source_to file (codes "r" ++ decimal port) stage to (operand_token index ∷ []) rest (s.ReadFile stage to file port index) r.0 g (λ rest g. read_file_to stage to file port index rest r.0 r.1 k.0 g))
complete (s.ReadRegister stage to reg) tokens h =
    let p = assigned_fits stage to (Name reg ∷ []) h.spellable.pieces in
    let q = first_fits (Name reg) [] p.1 in
    assigned_to stage to (exactly reg ∷ []) tokens (s.ReadRegister stage to reg) p.0 h.spelled (λ rest g. register_to stage to reg rest q.0 g)
complete (s.ReadMemory stage to mem at) tokens h =
    let p = assigned_fits stage to (Access mem (codes "read") ∷ Operand at ∷ []) h.spellable.pieces in
    let q = first_fits (Access mem (codes "read")) (Operand at ∷ []) p.1 in
    let k = first_fits (Operand at) [] q.1 in
    assigned_to stage to (part_of mem (codes "read") ∷ operand_token at ∷ []) tokens (s.ReadMemory stage to mem at) p.0 h.spelled (λ rest g.
    part_source_to mem (codes "read") stage to (operand_token at ∷ []) rest (s.ReadMemory stage to mem at) q.0 g (λ rest g. read_memory_to stage to mem at rest q.0 k.0 g))
complete (s.WriteFile stage file port index value guard) tokens h =
    let p = first_fits (Number stage) (Port file (codes "w") port ∷ Operand index ∷ Operand value ∷ Guard guard ∷ []) h.spellable.pieces in
    let q = first_fits (Port file (codes "w") port) (Operand index ∷ Operand value ∷ Guard guard ∷ []) p.1 in
    let r = and_parts (is_free_name file) (nat_lt port 10) q.0 in
    let k = first_fits (Operand index) (Operand value ∷ Guard guard ∷ []) q.1 in
    part_write_to stage file (codes "w" ++ decimal port) (operand_token index ∷ operand_token value ∷ guard_tokens guard) tokens (s.WriteFile stage file port index value guard) r.0 h.spelled (λ rest g.
    after_place (λ rest. write_part_in stage file (codes "w" ++ decimal port) rest) index (operand_token value ∷ guard_tokens guard) rest (s.WriteFile stage file port index value guard) g (λ token rest e g.
    write_file_to stage file port index value guard token rest r.0 r.1 k.0 e (ends_write value guard rest k.1 g)))
complete (s.WriteRegister stage reg value guard) tokens h =
    let p = first_fits (Number stage) (Name reg ∷ Operand value ∷ Guard guard ∷ []) h.spellable.pieces in
    let q = first_fits (Name reg) (Operand value ∷ Guard guard ∷ []) p.1 in
    micro_to stage (exactly reg ∷ exactly (codes "<-") ∷ operand_token value ∷ guard_tokens guard) tokens (s.WriteRegister stage reg value guard) h.spelled (λ rest g.
    after_exactly (λ rest. micro_in stage rest) reg (exactly (codes "<-") ∷ operand_token value ∷ guard_tokens guard) rest (s.WriteRegister stage reg value guard) g (λ rest g.
    signed_to stage reg rest (s.WriteRegister stage reg value guard) q.0
    (after_exactly (λ rest. signed_in stage reg rest) (codes "<-") (operand_token value ∷ guard_tokens guard) rest (s.WriteRegister stage reg value guard) g (λ rest g.
    signed_write stage reg rest ∙ write_register_to stage reg value guard rest q.0 (ends_write value guard rest q.1 g)))))
complete (s.WriteMemory stage mem at value guard) tokens h =
    let p = first_fits (Number stage) (Access mem (codes "write") ∷ Operand at ∷ Operand value ∷ Guard guard ∷ []) h.spellable.pieces in
    let q = first_fits (Access mem (codes "write")) (Operand at ∷ Operand value ∷ Guard guard ∷ []) p.1 in
    let k = first_fits (Operand at) (Operand value ∷ Guard guard ∷ []) q.1 in
    part_write_to stage mem (codes "write") (operand_token at ∷ operand_token value ∷ guard_tokens guard) tokens (s.WriteMemory stage mem at value guard) q.0 h.spelled (λ rest g.
    after_place (λ rest. write_part_in stage mem (codes "write") rest) at (operand_token value ∷ guard_tokens guard) rest (s.WriteMemory stage mem at value guard) g (λ token rest e g.
    write_memory_to stage mem at value guard token rest q.0 k.0 e (ends_write value guard rest k.1 g)))

-- the same tokens spell one statement
pub spelled_once : (one other : Statement) (tokens : List (List ℕ)) → Spells one tokens → Spells other tokens → one ≡ other
spelled_once one other tokens h g = let e : Some one ≡ Some other = sym (complete one tokens h) ∙ complete other tokens g in cc
