-- The modules of a text, as far as a loop has read them.
use Rattle.std.proofs.Common.{◌≡◌, ◌≢◌, ℕ, ◌+◌, ◌<◌, ◌≤◌, ◌==◌, Bool, true, false, List, [], ◌∷◌, ◌++◌, length, inr, refl, sym, ap, subst, ◌∙◌, arith, append_assoc, append-nil, true≢false}
use Rattle.std.specs.Prelude.{codes, IfErr, IfOk, MatchBool, Result, Ok, Err}
use Rattle.std.specs.List.{AllByRecursion as Each}
use Rattle.std.specs.Str.{bytes_eq}
use Rattle.std.proofs.lemmas.Bool.{eqb-true, false≢true, le-ltb, lt-ltb}
use Rattle.std.proofs.lemmas.Grind.{flat_map-append}
use Rattle.std.proofs.lemmas.List.{length-append}
use Rattle.ap_vr.specs.declared.fault.NetFault.{NetFault}
use Rattle.ap_vr.specs.declared.fault.NetFault.TheVariants.{NoMemory, At}
use Rattle.ap_vr.specs.declared.fault.NetKind.TheVariants.{BadForm}
use Rattle.ap_vr.specs.declared.line.Line.{Line}
use Rattle.ap_vr.specs.declared.line.Line.TheVariants as said
use Rattle.ap_vr.specs.declared.module.NamedModule.{NamedModule}
use Rattle.ap_vr.specs.declared.place.Part.TheVariants as part
use Rattle.ap_vr.specs.declared.reading.Lines.{Lines}
use Rattle.ap_vr.specs.Named.{IsNamedModule, named_module_text, named_text}
use Rattle.ap_vr.specs.Places.{Place, IsBadFrom, is_due, number, start}
use Rattle.ap_vr.specs.Reading.{AreModulesOf, AreNumbered, EndsInTop, HasBadForm, HasFewLines, HasRoom, IsBadRead, IsFormFault, IsModuleRead, IsNoFirst, IsNoModule, IsNoNext, IsWellFormed, TakesLine, first_line, line_count, place_in, text_limit}
use Rattle.ap_vr.specs.TextLines.{text_lines}
use Rattle.ap_vr.proofs.Grown.{each_more}
use Rattle.ap_vr.proofs.NextLine.{bad_after, bad_before, bad_here}
use Rattle.ap_vr.proofs.Words.{same_bytes}

-- the number of the line after some modules
abbrev pub line_after : ℕ → List NamedModule → ℕ
line_after first [] = first
line_after first (m ∷ modules) = line_after (first + line_count m) modules

numbered_more : (first : ℕ) (modules : List NamedModule) (m : NamedModule) → AreNumbered first modules → m.line ≡ line_after first modules → AreNumbered first (modules ++ m ∷ [])
numbered_more first [] m h e = (e, tt)
numbered_more first (n ∷ modules) m h e = (h.0, numbered_more (first + line_count n) modules m h.1 e)

line_after_more : (first : ℕ) (modules : List NamedModule) (m : NamedModule) → line_after first (modules ++ m ∷ []) ≡ line_after first modules + line_count m
line_after_more first [] m = refl
line_after_more first (n ∷ modules) m = line_after_more (first + line_count n) modules m

top_more : (modules : List NamedModule) (m : NamedModule) → m.name ≡ codes "top" → EndsInTop (modules ++ m ∷ [])
top_more [] m e = e
top_more (n ∷ []) m e = e
top_more (n ∷ k ∷ modules) m e = top_more (k ∷ modules) m e

abbrev place_between : ℕ → Bool → Lines → Place
place_between began top now = record { at = part.Start; top = top; began = began; next = now.number }

-- the modules so far, of which the last began in this line and is top or isn't
pub record TextSoFar (text : List ℕ) (done : List NamedModule) (began : ℕ) (top : Bool) (now : Lines) : Type 0 where
  pub spelled : text ≡ named_text done ++ now.rest.now
  pub rules : Each IsNamedModule done
  pub numbers : AreNumbered 1 done
  pub few : Each HasFewLines done
  pub next : now.number ≡ line_after 1 done
  pub ends : top ≡ true → EndsInTop done
  pub room : HasRoom now
  pub bad : (line : ℕ) → IsBadFrom (place_between began top now) (text_lines now.rest.now) line → IsBadFrom start (text_lines text) line
  pub back : (line : ℕ) → IsBadFrom start (text_lines text) line → IsBadFrom (place_between began top now) (text_lines now.rest.now) line

-- before the first module
pub text_begins : (text : List ℕ) (now : Lines) → now.rest.now ≡ text → now.number ≡ 1 → length text ≤ 67108864 → TextSoFar text [] 1 false now
text_begins text now rest n short = record {
  spelled = sym rest;
  rules = tt;
  numbers = tt;
  few = tt;
  next = n;
  ends = λ h. absurd (false≢true h);
  room = (let e : length now.rest.now ≡ length text = ap length rest in omega (arith, n, e, short));
  bad = λ line bad. subst (λ n. IsBadFrom (record { at = part.Start; top = false; began = 1; next = n }) (text_lines text) line) n (subst (λ rest. IsBadFrom (place_between 1 false now) (text_lines rest) line) rest bad);
  back = λ line bad. subst (λ rest. IsBadFrom (place_between 1 false now) (text_lines rest) line) (sym rest) (subst (λ n. IsBadFrom (record { at = part.Start; top = false; began = 1; next = n }) (text_lines text) line) (sym n) bad);
}

-- after its first line a module has room
pub room_after : (now mid : Lines) (x : Line) → HasRoom now → TakesLine now x mid → HasRoom mid
room_after now mid x room taken =
    let length_now : length now.rest.now ≡ length taken.0 + length mid.rest.now = ap length taken.1.text ∙ length-append taken.0 mid.rest.now in
    omega (arith, room, taken.1.number, taken.1.some, length_now)

-- one more module
pub text_grows : (text : List ℕ) (done : List NamedModule) (began : ℕ) (top : Bool) (now mid new : Lines) (name : List ℕ) (m : NamedModule) → TextSoFar text done began top now → TakesLine now (said.Module name) mid → IsModuleRead now.number name mid m new → HasRoom new → TextSoFar text (done ++ m ∷ []) now.number (bytes_eq name (codes "top")) new
text_grows text done began top now mid new name m far taken read room = record {
  spelled = far.spelled ∙ ap (λ t. named_text done ++ t) rest ∙ sym (append_assoc (named_text done) (named_module_text m) new.rest.now) ∙ ap (λ t. t ++ new.rest.now) (sym more);
  rules = each_more IsNamedModule done m far.rules read.rules;
  numbers = numbered_more 1 done m far.numbers (read.begins ∙ far.next);
  few = each_more HasFewLines done m far.few (omega (arith, read.ends, read.begins, room));
  next = read.ends ∙ ap (λ n. n + line_count m) far.next ∙ sym (line_after_more 1 done m);
  ends = λ e. top_more done m (read.named ∙ same_bytes name (codes "top") e);
  room = room;
  bad = λ line bad. far.bad line (bad_after (place_between began top now) now mid (said.Module name) line taken refl (subst (λ p. IsBadFrom p (text_lines mid.rest.now) line) place (read.bad line bad)));
  back = λ line bad. read.back line (subst (λ p. IsBadFrom p (text_lines mid.rest.now) line) (sym place) (bad_before (place_between began top now) now mid (said.Module name) line taken refl (far.back line bad)));
} where
  rest : now.rest.now ≡ named_module_text m ++ new.rest.now
  rest = taken.1.text ∙ ap (λ t. t ++ mid.rest.now) taken.1.spelled.1 ∙ ap (λ t. first_line name ++ t) read.text ∙ sym (append_assoc (first_line name) read.body new.rest.now) ∙ ap (λ t. t ++ new.rest.now) read.whole

  more : named_text (done ++ m ∷ []) ≡ named_text done ++ named_module_text m
  more = flat_map-append named_module_text done (m ∷ []) ∙ ap (λ t. named_text done ++ t) (append-nil (named_module_text m))

  place : place_in now.number name mid ≡ record { at = part.Clock; top = bytes_eq name (codes "top"); began = now.number; next = now.number + 1 }
  place = ap (λ n. record { at = part.Clock; top = bytes_eq name (codes "top"); began = now.number; next = n }) taken.1.number

-- a module whose first line isn't one
pub text_without_module : (text : List ℕ) (done : List NamedModule) (began : ℕ) (top : Bool) (now : Lines) (fault : NetFault) → TextSoFar text done began top now → now.rest.now ≢ [] → IsNoModule now fault → IsBadRead start text fault
text_without_module text done began top now NoMemory far some none = tt
text_without_module text done began top now (At line kind) far some none =
    let bad = none (place_between began top now) refl refl some in
    (bad.0, far.bad line bad.1)

-- a module that isn't whole
pub text_breaks_off : (text : List ℕ) (done : List NamedModule) (began : ℕ) (top : Bool) (now mid : Lines) (name : List ℕ) (fault : NetFault) → TextSoFar text done began top now → TakesLine now (said.Module name) mid → IsBadRead (place_in now.number name mid) mid.rest.now fault → IsBadRead start text fault
text_breaks_off text done began top now mid name NoMemory far taken h = tt
text_breaks_off text done began top now mid name (At line kind) far taken h = (
  h.0,
  far.bad line (bad_after (place_between began top now) now mid (said.Module name) line taken refl
      (subst (λ n. IsBadFrom (record { at = part.Clock; top = bytes_eq name (codes "top"); began = now.number; next = n }) (text_lines mid.rest.now) line) taken.1.number h.1)),
)

-- the last module isn't top
pub text_ends_badly : (text : List ℕ) (done : List NamedModule) (began : ℕ) (now : Lines) → TextSoFar text done began false now → now.rest.now ≡ [] → IsBadRead start text (At began BadForm)
text_ends_badly text done began now far none =
    (refl, far.bad began (subst (λ rest. IsBadFrom (place_between began false now) (text_lines rest) began) (sym none) (λ _. (refl, refl), λ h. absurd (h refl))))

-- all modules
pub text_ends : (text : List ℕ) (done : List NamedModule) (began : ℕ) (now : Lines) → TextSoFar text done began true now → now.rest.now ≡ [] → AreModulesOf text done
text_ends text done began now far none = record {
  spelled = far.spelled ∙ ap (λ t. named_text done ++ t) none ∙ append-nil (named_text done);
  rules = far.rules;
  numbers = far.numbers;
  few = far.few;
  top = far.ends refl;
}

-- and the text is of the form
pub text_is_well_formed : (text : List ℕ) (done : List NamedModule) (began : ℕ) (now : Lines) → TextSoFar text done began true now → now.rest.now ≡ [] → (line : ℕ) → IsBadFrom start (text_lines text) line → ⊥
text_is_well_formed text done began now far none line bad =
    let ends = subst (λ rest. IsBadFrom (place_between began true now) (text_lines rest) line) none (far.back line bad) in
    true≢false (ends.0 refl).0

-- where the first line of a module is due, no other is
due_at_start : (p : Place) (x : Line) → number p.at ≡ 0 → ((name : List ℕ) → x ≡ said.Module name → ⊥) → is_due p.at p.top x ≡ false
due_at_start p (said.Module name) e other = absurd (other name refl)
due_at_start p said.Clock e other = rw e refl
due_at_start p said.Reset e other = rw e refl
due_at_start p (said.Port q more) e other = rw e refl
due_at_start p said.Close e other = rw e refl
due_at_start p (said.Wire n) e other = rw e refl
due_at_start p (said.Reg n) e other = rw e refl
due_at_start p (said.Assign a) e other = rw e refl
due_at_start p (said.Always x) e other = rw e refl
due_at_start p (said.Instance i) e other = rw e refl
due_at_start p said.End e other = rw e refl

-- why the first line of a module isn't one
pub no_module : (now new : Lines) (x : Line) → TakesLine now x new → IsNoFirst x → IsNoModule now (At now.number BadForm)
no_module now new x taken other p at here some = (refl, bad_here p now new x taken at (due_at_start p x here other))

-- no line is no first line
pub no_next : (now : Lines) (fault : NetFault) → IsNoNext now fault → IsNoModule now fault
no_next now fault none p at here some = none p at (inr some)

-- the name of the first line, and why there is none
pub first_taken : (now new : Lines) (x : Line) (result : Result (List ℕ) NetFault) → TakesLine now x new → IfOk result (λ name. x ≡ said.Module name) → IfOk result (λ name. TakesLine now (said.Module name) new)
first_taken now new x (Ok name) taken same = subst (λ x. TakesLine now x new) same taken
first_taken now new x (Err fault) taken same = tt

pub first_refused : (now new : Lines) (x : Line) (result : Result (List ℕ) NetFault) → TakesLine now x new → IfErr result (λ fault. (fault ≡ At now.number BadForm) × IsNoFirst x) → IfErr result (IsNoModule now)
first_refused now new x (Ok name) taken why = tt
first_refused now new x (Err fault) taken why = subst (IsNoModule now) (sym why.0) (no_module now new x taken why.1)

-- a text that isn't too long has the faults of its lines
of_lines : (text : List ℕ) (line : ℕ) → length text ≤ text_limit → IsBadFrom start (text_lines text) line → HasBadForm text line
of_lines text line short h = subst (λ b. MatchBool b (line ≡ 0) (IsBadFrom start (text_lines text) line)) (sym (le-ltb text_limit (length text) short)) h

to_lines : (text : List ℕ) (line : ℕ) → length text ≤ text_limit → HasBadForm text line → IsBadFrom start (text_lines text) line
to_lines text line short h = subst (λ b. MatchBool b (line ≡ 0) (IsBadFrom start (text_lines text) line)) (le-ltb text_limit (length text) short) h

pub form_fault : (text : List ℕ) (fault : NetFault) → length text ≤ text_limit → IsBadRead start text fault → IsFormFault text fault
form_fault text NoMemory short h = tt
form_fault text (At line kind) short h = (h.0, of_lines text line short h.1)

pub well_formed : (text : List ℕ) → length text ≤ text_limit → ((line : ℕ) → IsBadFrom start (text_lines text) line → ⊥) → IsWellFormed text
well_formed text short none line h = none line (to_lines text line short h)

-- one that is too long
pub too_long : (text : List ℕ) → text_limit < length text → IsFormFault text (At 0 BadForm)
too_long text long = (refl, subst (λ b. MatchBool b (◌≡◌ {A = ℕ} 0 0) (IsBadFrom start (text_lines text) 0)) (sym (lt-ltb text_limit (length text) long)) refl)

-- a text that has bytes left, and one that hasn't
pub some_left : (rest : List ℕ) (b : Bool) → b ≡ (length rest == 0) → b ≡ false → rest ≢ []
some_left rest b h e none = false≢true (sym e ∙ h ∙ ap (λ rest. length rest == 0) none)

pub none_left : (rest : List ℕ) (b : Bool) → b ≡ (length rest == 0) → b ≡ true → rest ≡ []
none_left rest b h e = nothing rest (eqb-true (length rest) 0 (sym h ∙ e)) where
  nothing : (rest : List ℕ) → length rest ≡ 0 → rest ≡ []
  nothing [] h = refl
  nothing (b ∷ rest) h = absurd (omega (arith, h))

-- a module takes bytes
pub module_takes : (now mid new : Lines) (x : Line) (first : ℕ) (name : List ℕ) (m : NamedModule) → TakesLine now x mid → IsModuleRead first name mid m new → length new.rest.now < length now.rest.now
module_takes now mid new x first name m taken read =
    let a : length now.rest.now ≡ length taken.0 + length mid.rest.now = ap length taken.1.text ∙ length-append taken.0 mid.rest.now in
    let b : length mid.rest.now ≡ length read.body + length new.rest.now = ap length read.text ∙ length-append read.body new.rest.now in
    omega (arith, taken.1.some, a, b)
