-- A module as far as a loop has read it.
use Rattle.std.proofs.Common.{◌≡◌, ◌≢◌, ℕ, ◌+◌, ◌<◌, ◌≤◌, ◌==◌, nat_le, nat_lt, min, Bool, true, false, cond, List, [], ◌++◌, length, inl, refl, sym, ap, subst, ◌∙◌, arith, append_assoc, append-nil}
use Rattle.std.specs.Prelude.{if◌then◌else◌, codes}
use Rattle.std.specs.Str.{bytes_eq}
use Rattle.std.proofs.lemmas.Bool.{and_parts, eqb-true, leb-true, lt-ltb, false≢true}
use Rattle.std.proofs.lemmas.List.{length_push, length-append}
use Rattle.ap_net.specs.Names.{IsNetName}
use Rattle.ap_vr.specs.declared.fault.NetFault.{NetFault}
use Rattle.ap_vr.specs.declared.fault.NetFault.TheVariants.{NoMemory, At}
use Rattle.ap_vr.specs.declared.fault.NetKind.TheVariants.{BadForm}
use Rattle.ap_vr.specs.declared.line.Line.{Line}
use Rattle.ap_vr.specs.declared.line.Line.TheVariants as said
use Rattle.ap_vr.specs.declared.module.NamedModule.{NamedModule}
use Rattle.ap_vr.specs.declared.place.Part.{Part}
use Rattle.ap_vr.specs.declared.place.Part.TheVariants as part
use Rattle.ap_vr.specs.declared.reading.Lines.{Lines}
use Rattle.ap_vr.specs.Named.{blank, grown}
use Rattle.ap_vr.specs.Places.{Place, IsBadFrom, number, is_due, part_after, place_after}
use Rattle.ap_vr.specs.Reading.{HasRoom, IsBadRead, IsModuleRead, IsNoNext, TakesLine, first_line, line_count, place_in}
use Rattle.ap_vr.specs.TextLines.{text_lines}
use Rattle.ap_vr.proofs.Fronts.{IsFront, front_text}
use Rattle.ap_vr.proofs.Grown.{between, text_step, front_step}
use Rattle.ap_vr.proofs.NextLine.{after_inner, bad_after, bad_before, bad_here}
use Rattle.ap_vr.proofs.Words.{other_bytes}

-- how many lines a module has beside its declarations, where the part of this number is due
abbrev base_by : ℕ → ℕ
base_by n = if nat_lt 4 n then 4 else if n == 0 then 5 else min n 3

abbrev items : NamedModule → ℕ
items m = length m.ports + length m.wires + length m.regs + length m.assigns + length m.nexts + length m.instances

abbrev pub lines_so_far : Part → NamedModule → ℕ
lines_so_far at m = base_by (number at) + items m

base_body : (n : ℕ) → 5 ≤ n → base_by n ≡ 4
base_body n h = ap (λ c. cond c 4 (cond (n == 0) 5 (min n 3))) (lt-ltb 4 n (omega (arith, h)))

-- each line is one more
count_step : (at : Part) (top : Bool) (m : NamedModule) (x : Line) → number at ≢ 0 → is_due at top x ≡ true → lines_so_far (part_after x) (grown m x) ≡ lines_so_far at m + 1
count_step at top m (said.Module name) inside due = absurd (inside (eqb-true (number at) 0 due))
count_step at top m said.Clock inside due = rw (eqb-true (number at) 1 due) (omega arith)
count_step at top m said.Reset inside due = rw (eqb-true (number at) 2 due) (omega arith)
count_step at top m (said.Port p true) inside due = rw (eqb-true (number at) 3 due, length_push m.ports p) (omega arith)
count_step at top m (said.Port p false) inside due = rw (eqb-true (number at) 3 due, length_push m.ports p) (omega arith)
count_step at top m said.Close inside due = rw (eqb-true (number at) 4 due) (omega arith)
count_step at top m (said.Wire n) inside due = rw (eqb-true (number at) 5 due, length_push m.wires n) (omega arith)
count_step at top m (said.Reg n) inside due = rw (base_body (number at) (between (number at) 5 6 due).0, length_push m.regs n) (omega arith)
count_step at top m (said.Assign a) inside due = rw (base_body (number at) (between (number at) 5 7 due).0, length_push m.assigns a) (omega arith)
count_step at top m (said.Always x) inside due = rw (base_body (number at) (between (number at) 5 8 due).0, length_push m.nexts x) (omega arith)
count_step at top m (said.Instance i) inside due = rw (base_body (number at) (leb-true 5 (number at) (and_parts (nat_le 5 (number at)) top due).0), length_push m.instances i) (omega arith)
count_step at top m said.End inside due = rw (base_body (number at) (leb-true 5 (number at) due)) (omega arith)

-- the module that began in this line with this name, as far as the loop has come from the lines after its first to these
pub record ModuleSoFar (first : ℕ) (name : List ℕ) (old : Lines) (at : Part) (top : Bool) (m : NamedModule) (now : Lines) : Type 0 where
  pub named : m.name ≡ name
  pub begins : m.line ≡ first
  pub is_top : top ≡ bytes_eq name (codes "top")
  pub front : IsFront at top m
  pub body : List ℕ
  pub text : old.rest.now ≡ body ++ now.rest.now
  pub whole : first_line name ++ body ≡ front_text at m
  pub count : now.number ≡ first + lines_so_far at m
  pub room : HasRoom now
  pub bad : (line : ℕ) → IsBadFrom (record { at = at; top = top; began = first; next = now.number }) (text_lines now.rest.now) line → IsBadFrom (place_in first name old) (text_lines old.rest.now) line
  pub back : (line : ℕ) → IsBadFrom (place_in first name old) (text_lines old.rest.now) line → IsBadFrom (record { at = at; top = top; began = first; next = now.number }) (text_lines now.rest.now) line

abbrev place_at : ℕ → Part → Bool → Lines → Place
place_at first at top now = record { at = at; top = top; began = first; next = now.number }

-- before its second line
pub module_begins : (first : ℕ) (name : List ℕ) (old : Lines) (top : Bool) → IsNetName name → HasRoom old → first + 1 ≡ old.number → top ≡ bytes_eq name (codes "top") → ModuleSoFar first name old part.Clock top (blank first name) old
module_begins first name old top rules room at is_top = record {
  named = refl;
  begins = refl;
  is_top = is_top;
  front = record {
    name = rules;
    is_top = is_top;
    no_ports = λ _ _. refl;
    some = (λ h. absurd (omega (arith, h)), λ h. absurd (omega (arith, h)));
    no_wires = λ _ _. refl;
    no_regs = λ _ _. refl;
    no_assigns = λ _ _. refl;
    no_nexts = λ _ _. refl;
    no_instances = λ _ _. refl;
    ports = tt;
    wires = tt;
    regs = tt;
    assigns = tt;
    nexts = tt;
    instances = tt;
    alone = λ _. refl;
  };
  body = [];
  text = refl;
  whole = append-nil (first_line name);
  count = sym at;
  room = room;
  bad = λ line bad. subst (λ t. IsBadFrom (place_at first part.Clock t old) (text_lines old.rest.now) line) is_top bad;
  back = λ line bad. subst (λ t. IsBadFrom (place_at first part.Clock t old) (text_lines old.rest.now) line) (sym is_top) bad;
}

-- one more line that is due
pub module_grows : (first : ℕ) (name : List ℕ) (old : Lines) (at : Part) (top : Bool) (m : NamedModule) (now new : Lines) (x : Line) → ModuleSoFar first name old at top m now → number at ≢ 0 → TakesLine now x new → is_due at top x ≡ true → ModuleSoFar first name old (part_after x) top (grown m x) new
module_grows first name old at top m now new x far inside taken due = record {
  named = same_name x ∙ far.named;
  begins = same_line x ∙ far.begins;
  is_top = far.is_top;
  front = front_step at top m x far.front inside due taken.1.spelled.0;
  body = far.body ++ taken.0;
  text = far.text ∙ ap (λ t. far.body ++ t) taken.1.text ∙ sym (append_assoc far.body taken.0 new.rest.now);
  whole = sym (append_assoc (first_line name) far.body taken.0) ∙ ap (λ t. t ++ taken.0) far.whole ∙ ap (λ t. front_text at m ++ t) taken.1.spelled.1 ∙ sym (text_step at top m x far.front inside due);
  count = taken.1.number ∙ ap (λ n. n + 1) far.count ∙ more ∙ ap (λ n. first + n) (sym (count_step at top m x inside due));
  room = less;
  bad = λ line bad. far.bad line (bad_after (place_at first at top now) now new x line taken due (subst (λ p. IsBadFrom p (text_lines new.rest.now) line) place bad));
  back = λ line bad. subst (λ p. IsBadFrom p (text_lines new.rest.now) line) (sym place) (bad_before (place_at first at top now) now new x line taken due (far.back line bad));
} where
  same_name : (x : Line) → (grown m x).name ≡ m.name
  same_name (said.Module name) = refl
  same_name said.Clock = refl
  same_name said.Reset = refl
  same_name (said.Port p more) = refl
  same_name said.Close = refl
  same_name (said.Wire n) = refl
  same_name (said.Reg n) = refl
  same_name (said.Assign a) = refl
  same_name (said.Always x) = refl
  same_name (said.Instance i) = refl
  same_name said.End = refl

  same_line : (x : Line) → (grown m x).line ≡ m.line
  same_line (said.Module name) = refl
  same_line said.Clock = refl
  same_line said.Reset = refl
  same_line (said.Port p more) = refl
  same_line said.Close = refl
  same_line (said.Wire n) = refl
  same_line (said.Reg n) = refl
  same_line (said.Assign a) = refl
  same_line (said.Always x) = refl
  same_line (said.Instance i) = refl
  same_line said.End = refl

  more : (first + lines_so_far at m) + 1 ≡ first + (lines_so_far at m + 1)
  more = omega arith

  less : HasRoom new
  less =
      let length_now : length now.rest.now ≡ length taken.0 + length new.rest.now = ap length taken.1.text ∙ length-append taken.0 new.rest.now in
      omega (arith, far.room, taken.1.number, taken.1.some, length_now)

  place : place_at first (part_after x) top new ≡ place_after (place_at first at top now) x
  place = ap (λ n. record { at = part_after x; top = top; began = first; next = n }) taken.1.number ∙ sym (after_inner (place_at first at top now) x inside due)

-- a line that isn't due
pub module_ends_badly : (first : ℕ) (name : List ℕ) (old : Lines) (at : Part) (top : Bool) (m : NamedModule) (now new : Lines) (x : Line) → ModuleSoFar first name old at top m now → TakesLine now x new → is_due at top x ≡ false → IsBadRead (place_in first name old) old.rest.now (At now.number BadForm)
module_ends_badly first name old at top m now new x far taken wrong = (refl, far.bad now.number (bad_here (place_at first at top now) now new x taken refl wrong))

-- no line
pub module_breaks_off : (first : ℕ) (name : List ℕ) (old : Lines) (at : Part) (top : Bool) (m : NamedModule) (now : Lines) (fault : NetFault) → ModuleSoFar first name old at top m now → number at ≢ 0 → IsNoNext now fault → IsBadRead (place_in first name old) old.rest.now fault
module_breaks_off first name old at top m now NoMemory far inside none = tt
module_breaks_off first name old at top m now (At line kind) far inside none =
    let bad = none (place_at first at top now) refl (inl inside) in
    (bad.0, far.bad line bad.1)

-- the whole module
pub module_ends : (first : ℕ) (name : List ℕ) (old : Lines) (top : Bool) (m : NamedModule) (now : Lines) → ModuleSoFar first name old part.Start top m now → IsModuleRead first name old m now
module_ends first name old top m now far = record {
  named = far.named;
  begins = far.begins;
  rules = record {
    name = far.front.name;
    some = far.front.some.0 refl;
    ports = far.front.ports;
    wires = far.front.wires;
    regs = far.front.regs;
    assigns = far.front.assigns;
    nexts = far.front.nexts;
    instances = far.front.instances;
    alone = λ other. far.front.alone (far.is_top ∙ other_bytes name (codes "top") (λ e. other (far.named ∙ e)));
  };
  body = far.body;
  text = far.text;
  whole = far.whole;
  ends = far.count ∙ ap (λ n. first + n) counted;
  room = far.room;
  bad = λ line bad. far.bad line (subst (λ t. IsBadFrom (place_at first part.Start t now) (text_lines now.rest.now) line) (sym far.is_top) bad);
  back = λ line bad. subst (λ t. IsBadFrom (place_at first part.Start t now) (text_lines now.rest.now) line) far.is_top (far.back line bad);
} where
  counted : lines_so_far part.Start m ≡ line_count m
  counted = omega arith

-- each line takes bytes
pub fewer_bytes : (old new : Lines) (x : Line) → TakesLine old x new → length new.rest.now < length old.rest.now
fewer_bytes old new x taken =
    let e : length old.rest.now ≡ length taken.0 + length new.rest.now = ap length taken.1.text ∙ length-append taken.0 new.rest.now in
    omega (arith, taken.1.some, e)

-- a module isn't at its end, and is
pub inside_start : (n : ℕ) (b : Bool) → b ≡ (n == 0) → b ≡ false → n ≢ 0
inside_start n b h e zero = false≢true (sym e ∙ h ∙ ap (λ n. n == 0) zero)

at_start : (at : Part) → number at ≡ 0 → at ≡ part.Start
at_start part.Start h = refl
at_start part.Clock h = absurd (omega (arith, h))
at_start part.Reset h = absurd (omega (arith, h))
at_start part.Ports h = absurd (omega (arith, h))
at_start part.Close h = absurd (omega (arith, h))
at_start part.Wires h = absurd (omega (arith, h))
at_start part.Regs h = absurd (omega (arith, h))
at_start part.Assigns h = absurd (omega (arith, h))
at_start part.Nexts h = absurd (omega (arith, h))
at_start part.Instances h = absurd (omega (arith, h))

pub module_is_read : (first : ℕ) (name : List ℕ) (old : Lines) (at : Part) (top : Bool) (m : NamedModule) (now : Lines) (b : Bool) → ModuleSoFar first name old at top m now → b ≡ (number at == 0) → b ≡ true → IsModuleRead first name old m now
module_is_read first name old at top m now b far h e =
    let start : at ≡ part.Start = at_start at (eqb-true (number at) 0 (sym h ∙ e)) in
    module_ends first name old top m now (subst (λ at. ModuleSoFar first name old at top m now) start far)
