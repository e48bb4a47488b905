-- What tokens give is a statement that they spell.
use Rattle.std.proofs.Common.{◌≡◌, ℕ, ◌==◌, List, [], ◌∷◌, ◌++◌, Option, Some, None, length, refl, sym, ap, ◌∙◌, subst, append_assoc}
use Rattle.std.specs.Prelude.{codes, option_map, option_and_then}
use Rattle.std.specs.Str.{bytes_eq}
use Rattle.std.proofs.lemmas.Option.{same_Some, option_and_then_some}
use Rattle.ap_text.specs.Numbers.{number_value}
use Rattle.ap_desc.specs.declared.statement.Statement.{Statement}
use Rattle.ap_desc.specs.declared.statement.Statement.TheVariants as s
use Rattle.ap_desc.specs.declared.statement.Word.{Word}
use Rattle.ap_desc.specs.Forms.{declared_forms, source_forms, transfer_forms, declaration_in, port_read, read_port_in, compute_in, read_part_in, read_register_in, plain_source_in, source_by, source_in, write_register_in, signed_in, port_write, write_part_in, plain_micro_in, micro_by, micro_in, statement_by, statement_in}
use Rattle.ap_desc.specs.Spelling.{Name, Operand, Operation, Port, Access, Spells}
use Rattle.ap_desc.specs.TokenValues.{numeral, operand, values_in, beside, name_in, word_in, guard_in, cut_on, port_in}
use Rattle.ap_desc.proofs.FreeNames.{name_from}
use Rattle.ap_desc.proofs.PartFits.{both, Fits, FitsPart, fits_after, part_from, values_from, guard_from}
use Rattle.ap_desc.proofs.TokenValues.{beside_some, map_some, choose, same_bytes, word_from, cut_from, port_from}
use Rattle.ap_desc.proofs.WordForms.{assigned_lead, stage_lead, declared_faithful, sources_faithful, transfers_faithful, told, rows_sound}

-- a name, a point and what stands after it
part_at : (first name part known : List ℕ) → cut_on 46 first ≡ Some (name, part) → name ≡ known → first ≡ known ++ codes "." ++ part
part_at first name part known e q = cut_from 46 first name part e ∙ ap (λ name. name ++ 46 ∷ part) q ∙ sym (append_assoc known (codes ".") part)

-- the same where what stands after the point is known
known_at : (first name part known end : List ℕ) → cut_on 46 first ≡ Some (name, part) → name ≡ known → part ≡ end → first ≡ known ++ codes "." ++ end
known_at first name part known end e q r = part_at first name part known e q ∙ ap (λ part. known ++ codes "." ++ part) r

read_port_sound : (stage : ℕ) (to : List ℕ) (leads : List (List ℕ)) (first name part : List ℕ) (rest : List (List ℕ)) (m : Statement) → Fits (assigned_lead stage to) leads → cut_on 46 first ≡ Some (name, part) → read_port_in stage to name part rest ≡ Some m → Spells m (leads ++ first ∷ rest)
unfolding read_port_in
read_port_sound stage to leads first name part rest m led cut h =
    option_and_then_some (λ (v : List ℕ × Word). port_read stage to part v.0 v.1) (beside (name_in name) (values_in (operand ∷ []) rest)) m h (λ v e h.
    beside_some (name_in name) (values_in (operand ∷ []) rest) v e (λ e f.
    let n = name_from name v.0 e in
    let g = values_from (operand ∷ []) rest v.1 f in
    choose (bytes_eq part (codes "read")) (Some (s.ReadMemory stage to v.0 v.1)) (option_map (λ port. s.ReadFile stage to v.0 port v.1) (port_in 114 part)) (Some m) h
    (λ e h.
    let known = known_at first name part v.0 (codes "read") cut n.1 (same_bytes part (codes "read") e) in
    subst (λ m. Spells m (leads ++ first ∷ rest)) (same_Some (s.ReadMemory stage to v.0 v.1) m h)
    (told (s.ReadMemory stage to v.0 v.1) (leads ++ first ∷ rest) (fits_after (assigned_lead stage to) leads (Access v.0 (codes "read")) (Operand v.1 ∷ []) (first ∷ rest) led
    (record { spellable = both n.0 g.spellable; spelled = (known, g.spelled) }))))
    (λ _ h. map_some (λ port. s.ReadFile stage to v.0 port v.1) (port_in 114 part) m h (λ port e q.
    let p = port_from 114 part port e in
    let known = known_at first name part v.0 _ cut n.1 p.1 in
    subst (λ m. Spells m (leads ++ first ∷ rest)) q
    (told (s.ReadFile stage to v.0 port v.1) (leads ++ first ∷ rest) (fits_after (assigned_lead stage to) leads (Port v.0 (codes "r") port) (Operand v.1 ∷ []) (first ∷ rest) led
    (record { spellable = both (both n.0 p.0) g.spellable; spelled = (known, g.spelled) })))))))

compute_sound : (stage : ℕ) (to : List ℕ) (leads : List (List ℕ)) (first name part : List ℕ) (rest : List (List ℕ)) (m : Statement) → Fits (assigned_lead stage to) leads → cut_on 46 first ≡ Some (name, part) → compute_in stage to name part rest ≡ Some m → Spells m (leads ++ first ∷ rest)
unfolding compute_in
compute_sound stage to leads first name part rest m led cut h =
    map_some (λ (v : List ℕ × (List ℕ × (Word × Word))). s.Compute stage to v.0 v.1.0 v.1.1.0 v.1.1.1) (beside (name_in name) (beside (name_in part) (values_in (operand ∷ operand ∷ []) rest))) m h (λ v e q.
    beside_some (name_in name) (beside (name_in part) (values_in (operand ∷ operand ∷ []) rest)) v e (λ e f.
    beside_some (name_in part) (values_in (operand ∷ operand ∷ []) rest) v.1 f (λ f d.
    let n = name_from name v.0 e in
    let p = name_from part v.1.0 f in
    let g = values_from (operand ∷ operand ∷ []) rest v.1.1 d in
    let known = known_at first name part v.0 v.1.0 cut n.1 p.1 in
    subst (λ m. Spells m (leads ++ first ∷ rest)) q
    (told (s.Compute stage to v.0 v.1.0 v.1.1.0 v.1.1.1) (leads ++ first ∷ rest)
    (fits_after (assigned_lead stage to) leads (Operation v.0 v.1.0) (Operand v.1.1.0 ∷ Operand v.1.1.1 ∷ []) (first ∷ rest) led
    (record { spellable = both (both n.0 p.0) g.spellable; spelled = (known, g.spelled) }))))))

read_part_sound : (stage : ℕ) (to : List ℕ) (leads : List (List ℕ)) (first name part : List ℕ) (rest : List (List ℕ)) (m : Statement) → Fits (assigned_lead stage to) leads → cut_on 46 first ≡ Some (name, part) → read_part_in stage to name part rest ≡ Some m → Spells m (leads ++ first ∷ rest)
unfolding read_part_in
read_part_sound stage to leads first name part rest m led cut h =
    choose (length rest == 1) (read_port_in stage to name part rest) (compute_in stage to name part rest) (Some m) h
    (λ _ h. read_port_sound stage to leads first name part rest m led cut h)
    (λ _ h. compute_sound stage to leads first name part rest m led cut h)

register_sound : (stage : ℕ) (to : List ℕ) (leads : List (List ℕ)) (first : List ℕ) (rest : List (List ℕ)) (m : Statement) → Fits (assigned_lead stage to) leads → read_register_in stage to first rest ≡ Some m → Spells m (leads ++ first ∷ rest)
unfolding read_register_in
register_sound stage to leads first (more ∷ rest) m led h = cc
register_sound stage to leads first [] m led h =
    map_some (λ v. s.ReadRegister stage to v) (name_in first) m h (λ v e q.
    let n = name_from first v e in
    subst (λ m. Spells m (leads ++ first ∷ [])) q
    (told (s.ReadRegister stage to v) (leads ++ first ∷ []) (fits_after (assigned_lead stage to) leads (Name v) [] (first ∷ []) led (record { spellable = both n.0 refl; spelled = (n.1, tt) }))))

plain_source_sound : (stage : ℕ) (to : List ℕ) (leads : List (List ℕ)) (first : List ℕ) (rest : List (List ℕ)) (m : Statement) → Fits (assigned_lead stage to) leads → plain_source_in stage to first rest ≡ Some m → Spells m (leads ++ first ∷ rest)
unfolding plain_source_in
plain_source_sound stage to leads first rest m led h =
    rows_sound (assigned_lead stage to) leads led (source_forms stage to) (sources_faithful stage to) (read_register_in stage to first rest) first rest m h (λ h. register_sound stage to leads first rest m led h)

source_by_sound : (o : Option (List ℕ × List ℕ)) (stage : ℕ) (to : List ℕ) (leads : List (List ℕ)) (first : List ℕ) (rest : List (List ℕ)) (m : Statement) → Fits (assigned_lead stage to) leads → cut_on 46 first ≡ o → source_by stage to o first rest ≡ Some m → Spells m (leads ++ first ∷ rest)
source_by_sound None stage to leads first rest m led e h = plain_source_sound stage to leads first rest m led h
source_by_sound (Some (name, part)) stage to leads first rest m led e h = read_part_sound stage to leads first name part rest m led e h

source_sound : (stage : ℕ) (to : List ℕ) (leads rest : List (List ℕ)) (m : Statement) → Fits (assigned_lead stage to) leads → source_in stage to rest ≡ Some m → Spells m (leads ++ rest)
unfolding source_in
source_sound stage to leads [] m led h = cc
source_sound stage to leads (first ∷ rest) m led h = source_by_sound (cut_on 46 first) stage to leads first rest m led refl h

write_register_sound : (stage : ℕ) (token name sign : List ℕ) (rest : List (List ℕ)) (m : Statement) → FitsPart numeral stage token → sign ≡ codes "<-" → write_register_in stage name rest ≡ Some m → Spells m (token ∷ name ∷ sign ∷ rest)
unfolding write_register_in
write_register_sound stage token name sign [] m at w h = cc
write_register_sound stage token name sign (value ∷ guard) m at w h =
    map_some (λ (v : List ℕ × (Word × Option Word)). s.WriteRegister stage v.0 v.1.0 v.1.1) (beside (name_in name) (beside (word_in value) (guard_in guard))) m h (λ v e q.
    beside_some (name_in name) (beside (word_in value) (guard_in guard)) v e (λ e f.
    beside_some (word_in value) (guard_in guard) v.1 f (λ f g.
    let n = name_from name v.0 e in
    let x = word_from value v.1.0 f in
    let y = guard_from guard v.1.1 g in
    subst (λ m. Spells m (token ∷ name ∷ sign ∷ value ∷ guard)) q
    (told (s.WriteRegister stage v.0 v.1.0 v.1.1) (token ∷ name ∷ sign ∷ value ∷ guard)
    (record { spellable = both at.spellable (both n.0 (both x.0 (both y.free refl))); spelled = (at.spelled.0, (n.1, (w, (x.1, y.spelled)))) })))))

write_part_sound : (stage : ℕ) (token first name part : List ℕ) (rest : List (List ℕ)) (m : Statement) → FitsPart numeral stage token → cut_on 46 first ≡ Some (name, part) → write_part_in stage name part rest ≡ Some m → Spells m (token ∷ first ∷ rest)
unfolding write_part_in
write_part_sound stage token first name part [] m at cut h = cc
write_part_sound stage token first name part (place ∷ []) m at cut h = cc
write_part_sound stage token first name part (place ∷ value ∷ guard) m at cut h =
    option_and_then_some (λ (v : List ℕ × (Word × (Word × Option Word))). port_write stage part v.0 v.1.0 v.1.1.0 v.1.1.1) (beside (name_in name) (beside (word_in place) (beside (word_in value) (guard_in guard)))) m h (λ v e h.
    beside_some (name_in name) (beside (word_in place) (beside (word_in value) (guard_in guard))) v e (λ e f.
    beside_some (word_in place) (beside (word_in value) (guard_in guard)) v.1 f (λ f g.
    beside_some (word_in value) (guard_in guard) v.1.1 g (λ g d.
    let n = name_from name v.0 e in
    let x = word_from place v.1.0 f in
    let y = word_from value v.1.1.0 g in
    let z = guard_from guard v.1.1.1 d in
    let tokens = token ∷ first ∷ place ∷ value ∷ guard in
    let rest_free = both x.0 (both y.0 (both z.free refl)) in
    choose (bytes_eq part (codes "write")) (Some (s.WriteMemory stage v.0 v.1.0 v.1.1.0 v.1.1.1)) (option_map (λ port. s.WriteFile stage v.0 port v.1.0 v.1.1.0 v.1.1.1) (port_in 119 part)) (Some m) h
    (λ e h.
    let known = known_at first name part v.0 (codes "write") cut n.1 (same_bytes part (codes "write") e) in
    subst (λ m. Spells m tokens) (same_Some (s.WriteMemory stage v.0 v.1.0 v.1.1.0 v.1.1.1) m h)
    (told (s.WriteMemory stage v.0 v.1.0 v.1.1.0 v.1.1.1) tokens (record { spellable = both at.spellable (both n.0 rest_free); spelled = (at.spelled.0, (known, (x.1, (y.1, z.spelled)))) })))
    (λ _ h. map_some (λ port. s.WriteFile stage v.0 port v.1.0 v.1.1.0 v.1.1.1) (port_in 119 part) m h (λ port e q.
    let p = port_from 119 part port e in
    let known = known_at first name part v.0 _ cut n.1 p.1 in
    subst (λ m. Spells m tokens) q
    (told (s.WriteFile stage v.0 port v.1.0 v.1.1.0 v.1.1.1) tokens (record { spellable = both at.spellable (both (both n.0 p.0) rest_free); spelled = (at.spelled.0, (known, (x.1, (y.1, z.spelled)))) }))))))))

signed_sound : (stage : ℕ) (token name : List ℕ) (rest : List (List ℕ)) (m : Statement) → FitsPart numeral stage token → signed_in stage name rest ≡ Some m → Spells m (token ∷ name ∷ rest)
unfolding signed_in
signed_sound stage token name [] m at h = cc
signed_sound stage token name (sign ∷ rest) m at h =
    choose (bytes_eq sign (codes "<-")) (write_register_in stage name rest) _ (Some m) h
    (λ e h. write_register_sound stage token name sign rest m at (same_bytes sign (codes "<-") e) h) (λ _ h.
    choose (bytes_eq sign (codes "=")) (option_and_then (λ to. source_in stage to rest) (name_in name)) None (Some m) h
    (λ e h. option_and_then_some (λ to. source_in stage to rest) (name_in name) m h (λ to f h.
    let n = name_from name to f in
    source_sound stage to (token ∷ name ∷ sign ∷ []) rest m (record { spellable = both at.spellable (both n.0 refl); spelled = (at.spelled.0, (n.1, (same_bytes sign (codes "=") e, tt))) }) h))
    (λ _ h. cc))

plain_micro_sound : (stage : ℕ) (token first : List ℕ) (rest : List (List ℕ)) (m : Statement) → FitsPart numeral stage token → plain_micro_in stage first rest ≡ Some m → Spells m (token ∷ first ∷ rest)
unfolding plain_micro_in
plain_micro_sound stage token first rest m at h =
    rows_sound (stage_lead stage) (token ∷ []) (record { spellable = both at.spellable refl; spelled = at.spelled }) (transfer_forms stage) (transfers_faithful stage) (signed_in stage first rest) first rest m h
    (λ h. signed_sound stage token first rest m at h)

micro_by_sound : (o : Option (List ℕ × List ℕ)) (stage : ℕ) (token first : List ℕ) (rest : List (List ℕ)) (m : Statement) → FitsPart numeral stage token → cut_on 46 first ≡ o → micro_by stage o first rest ≡ Some m → Spells m (token ∷ first ∷ rest)
micro_by_sound None stage token first rest m at e h = plain_micro_sound stage token first rest m at h
micro_by_sound (Some (name, part)) stage token first rest m at e h = write_part_sound stage token first name part rest m at e h

micro_sound : (stage : ℕ) (token : List ℕ) (rest : List (List ℕ)) (m : Statement) → FitsPart numeral stage token → micro_in stage rest ≡ Some m → Spells m (token ∷ rest)
unfolding micro_in
micro_sound stage token [] m at h = cc
micro_sound stage token (first ∷ rest) m at h = micro_by_sound (cut_on 46 first) stage token first rest m at refl h

declaration_sound : (first : List ℕ) (rest : List (List ℕ)) (m : Statement) → declaration_in first rest ≡ Some m → Spells m (first ∷ rest)
unfolding declaration_in
declaration_sound first rest m h = rows_sound [] [] (record { spellable = refl; spelled = tt }) declared_forms declared_faithful None first rest m h (λ h. cc)

by_sound : (o : Option ℕ) (token : List ℕ) (rest : List (List ℕ)) (m : Statement) → number_value token ≡ o → statement_by o token rest ≡ Some m → Spells m (token ∷ rest)
by_sound None token rest m e h = declaration_sound token rest m h
by_sound (Some stage) token rest m e h = micro_sound stage token rest m (part_from numeral token stage e) h

-- tokens spell the statement that they give
pub sound : (tokens : List (List ℕ)) (m : Statement) → statement_in tokens ≡ Some m → Spells m tokens
unfolding statement_in
sound [] m h = cc
sound (token ∷ rest) m h = by_sound (number_value token) token rest m refl h
