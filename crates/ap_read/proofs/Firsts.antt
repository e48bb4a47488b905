-- The first line that has a fault, after lines that have none.
use Rattle.std.proofs.Common.{◌≡◌, ℕ, List, [], ◌∷◌, ◌++◌, map, true, false, Some, None, refl, sym, ap, subst, ◌∙◌, append-nil, append_assoc}
use Rattle.std.proofs.lemmas.List.{map-append}
use Rattle.ap_text.specs.Lines.{TextLine}
use Rattle.ap_desc.specs.declared.description.Numbered.{Numbered}
use Rattle.ap_desc.specs.declared.fault.DescFault.{DescFault}
use Rattle.ap_desc.specs.declared.fault.DescFault.TheVariants.{Refused, NoMemory}
use Rattle.ap_desc.specs.declared.fault.Fault.{Fault}
use Rattle.ap_desc.specs.declared.fault.Fault.TheVariants as f
use Rattle.ap_desc.specs.declared.statement.Statement.{Statement}
use Rattle.ap_bits.specs.Beside.{EachBeside}
use Rattle.ap_desc.specs.FaultTable.{phase_of}
use Rattle.ap_desc.specs.Order.{are_in_order, is_one_too_many, is_out_of_order}
use Rattle.ap_desc.specs.Reading.{IsAt, SpellsLine}
use Rattle.ap_read.specs.LineFaults.{IsFaultFirst, IsLeastLineFault, IsLineFault, IsUnsaid, LinesRise}
use Rattle.ap_read.specs.declared.place.Place.{Place}
use Rattle.ap_read.specs.Places.{IsFaultAfter, IsPlaceAfter, place_after}
use Rattle.ap_read.proofs.Places.{after_one}
use Rattle.ap_read.proofs.Walks.{AreUnique, due_from, due_parts, least_many, least_nothing, least_of_all, least_order}

-- the statements without the numbers of their lines
abbrev pub said_of : List Numbered → List Statement
said_of list = map (λ (n : Numbered). n.statement) list

-- a line that says nothing is the first with a fault
pub unsaid_first : (said : List Statement) (line : TextLine) (fault : DescFault) → IsUnsaid line fault → IsFaultFirst said line fault
unsaid_first said line (Refused refusal) h = λ rest rise. subst (λ r. IsLeastLineFault said (line ∷ rest) r) (sym h.0) (least_nothing said line rest rise h.1)
unsaid_first said line NoMemory h = tt

-- and so is one that says a statement that has a fault after those before it
pub fault_first : AreUnique → (said : List Statement) (statement : Statement) (line : TextLine) (kind : Fault) → SpellsLine statement line → IsFaultAfter said statement (Some kind) → (rest : List TextLine) → LinesRise line.number rest → IsLeastLineFault said (line ∷ rest) (record { phase = phase_of kind; line = line.number; kind = kind })
fault_first unique said statement line f.BadOrder says h rest rise = least_order unique said statement line rest rise says h
fault_first unique said statement line f.TooMany says h rest rise = least_many unique said statement line rest rise says h.0 h.1
fault_first unique said statement line _ says h rest rise = absurd h

pub refused_first : AreUnique → (said : List Statement) (statement : Statement) (line : TextLine) (kind : Fault) (fault : DescFault) → SpellsLine statement line → IsFaultAfter said statement (Some kind) → fault ≡ Refused (record { phase = phase_of kind; line = line.number; kind = kind }) → IsFaultFirst said line fault
refused_first unique said statement line kind fault says h e = subst (IsFaultFirst said line) (sym e) (fault_first unique said statement line kind says h)

-- the lines after one whose number rises
rest_rises : (n : ℕ) (front : List TextLine) (line : TextLine) (rest : List TextLine) → LinesRise n (front ++ line ∷ rest) → LinesRise line.number rest
rest_rises n [] line rest h = h.1
rest_rises n (first ∷ front) line rest h = rest_rises first.number front line rest h.1

pub beside_said : (list : List Numbered) (lines : List TextLine) → EachBeside IsAt list lines → EachBeside SpellsLine (said_of list) lines
beside_said [] [] h = tt
beside_said [] (line ∷ lines) h = h
beside_said (n ∷ list) [] h = h
beside_said (n ∷ list) (line ∷ lines) h = (h.0.spells, beside_said list lines h.1)

-- the fault of the first of the lines that are left is that of all
pub first_of_lines : AreUnique → (list : List Numbered) (lines front : List TextLine) (line : TextLine) (rest : List TextLine) (fault : DescFault) → lines ≡ front ++ line ∷ rest → LinesRise 0 lines → EachBeside IsAt list front → are_in_order [] (said_of list) ≡ true → IsFaultFirst (said_of list) line fault → IsLineFault lines fault
first_of_lines unique list lines front line rest (Refused refusal) e rise beside order h =
    least_of_all unique (said_of list) lines front (line ∷ rest) refusal e (beside_said list front beside) order (h rest (rest_rises 0 front line rest (subst (LinesRise 0) e rise)))
first_of_lines unique list lines front line rest NoMemory e rise beside order h = tt

pub beside_push : {X Y : Type 0} (R : X → Y → Type 0) (xs : List X) (ys : List Y) (x : X) (y : Y) → EachBeside R xs ys → R x y → EachBeside R (xs ++ x ∷ []) (ys ++ y ∷ [])
beside_push R [] [] x y h last = (last, tt)
beside_push R [] (b ∷ ys) x y h last = absurd h
beside_push R (a ∷ xs) [] x y h last = absurd h
beside_push R (a ∷ xs) (b ∷ ys) x y h last = (h.0, beside_push R xs ys x y h.1 last)

-- one more statement in order
pub order_push : (earlier said : List Statement) (s : Statement) → are_in_order earlier said ≡ true → is_out_of_order (earlier ++ said) s ≡ false → is_one_too_many (earlier ++ said) s ≡ false → are_in_order earlier (said ++ s ∷ []) ≡ true
order_push earlier [] s h order few = due_from earlier s [] (sym (ap (λ l. is_out_of_order l s) (append-nil earlier)) ∙ order) (sym (ap (λ l. is_one_too_many l s) (append-nil earlier)) ∙ few) refl
order_push earlier (x ∷ said) s h order few =
    let due = due_parts earlier x said h in
    let same : (earlier ++ x ∷ []) ++ said ≡ earlier ++ (x ∷ said) = append_assoc earlier (x ∷ []) said in
    due_from earlier x (said ++ s ∷ []) due.0 due.1 (order_push (earlier ++ x ∷ []) said s due.2 (ap (λ l. is_out_of_order l s) same ∙ order) (ap (λ l. is_one_too_many l s) same ∙ few))

said_push : (list : List Numbered) (n : Numbered) → said_of (list ++ n ∷ []) ≡ said_of list ++ n.statement ∷ []
said_push list n = map-append (λ (n : Numbered). n.statement) list (n ∷ [])

-- one more line without fault: what the lines so far say,
pub said_more : (list longer : List Numbered) (front now : List TextLine) (line : TextLine) (n : Numbered) → longer ≡ list ++ n ∷ [] → now ≡ front ++ line ∷ [] → EachBeside IsAt list front → n.line ≡ line.number → SpellsLine n.statement line → EachBeside IsAt longer now
said_more list longer front now line n e g beside number says = rw (e, g) (beside_push IsAt list front n line beside (record { number = number; spells = says }))

-- that it is in order,
pub order_more : (list longer : List Numbered) (n : Numbered) (place : Place) → longer ≡ list ++ n ∷ [] → are_in_order [] (said_of list) ≡ true → IsPlaceAfter (said_of list) place → ((earlier : List Statement) → IsPlaceAfter earlier place → IsFaultAfter earlier n.statement None) → are_in_order [] (said_of longer) ≡ true
order_more list longer n place e order there fine =
    let both = fine (said_of list) there in
    ap (λ l. are_in_order [] (said_of l)) e ∙ ap (are_in_order []) (said_push list n) ∙ order_push [] (said_of list) n.statement order both.0 both.1

-- and the place that it leads to
pub place_more : (list longer : List Numbered) (n : Numbered) (place next : Place) → longer ≡ list ++ n ∷ [] → next ≡ place_after place n.statement → IsPlaceAfter (said_of list) place → ((earlier : List Statement) → IsPlaceAfter earlier place → IsFaultAfter earlier n.statement None) → IsPlaceAfter (said_of longer) next
place_more list longer n place next e g there fine =
    subst (λ (l : List Numbered). IsPlaceAfter (said_of l) next) (sym e) (subst (λ (l : List Statement). IsPlaceAfter l next) (sym (said_push list n)) (subst (λ (p : Place). IsPlaceAfter (said_of list ++ n.statement ∷ []) p) (sym g)
    (after_one (said_of list) place n.statement there (fine (said_of list) there).0)))
