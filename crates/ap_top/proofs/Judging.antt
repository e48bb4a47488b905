-- A description that is good isn't refused, and what is judged of the bytes that were read is so of the file.
use Rattle.std.proofs.Common.{◌≡◌, ℕ, ◌<◌, List, [], ◌∷◌, ◌++◌, length, take, Option, Some, None, refl, sym, ap, subst, ◌∙◌, arith, inl, inr, ⊎_elim, append_assoc}
use Rattle.std.specs.Prelude.{◌≢◌, ◌⊎◌, IfSome}
use Rattle.std.proofs.lemmas.Bool.{cases_lt}
use Rattle.ap_bits.specs.declared.card.Card.{Card}
use Rattle.ap_text.specs.Lines.{TextLine, lines_of}
use Rattle.ap_desc.specs.declared.fault.Fault.{Fault}
use Rattle.ap_desc.specs.declared.fault.Fault.TheVariants as f
use Rattle.ap_desc.specs.Faults as faults
use Rattle.ap_desc.specs.Limits.{description_limit}
use Rattle.ap_desc.specs.Meaning.{IsAccepted}
use Rattle.ap_desk.specs.Files.{Becomes, BecomesFrontOrStays, Files, Goes, ReadsUpTo, content}
use Rattle.ap_top.specs.declared.command.Command.{Command}
use Rattle.ap_top.specs.declared.command.Input.{Input}
use Rattle.ap_top.specs.declared.command.Input.TheVariants as input
use Rattle.ap_top.specs.declared.form.Form.{Form}
use Rattle.ap_top.specs.declared.form.Judged.{Judged}
use Rattle.ap_top.specs.declared.form.Judged.TheVariants as judged
use Rattle.ap_top.specs.declared.form.ReadFault.{ReadFault}
use Rattle.ap_top.specs.declared.form.ReadFault.TheVariants as reading
use Rattle.ap_top.specs.declared.refusal.Refusal.{Refusal}
use Rattle.ap_top.specs.declared.refusal.Refusal.TheVariants.{Usage, Description, Program, Netlist, Image, Trace}
use Rattle.ap_top.specs.Additions.{Operation, IsAddition}
use Rattle.ap_top.specs.Calls.{Call}
use Rattle.ap_top.specs.Commands.{IsCall}
use Rattle.ap_top.specs.DesignText.{IsDesignText}
use Rattle.ap_top.specs.Endings.{IsAnswer, IsDone}
use Rattle.ap_top.specs.Form.{AreLines, HasAddition, HasJudgedFault, IsFormDescription, IsForm, IsLine, IsNotBuiltAt, HasReadFault, DueToken, first_form}
use Rattle.ap_top.specs.Generate.{gen_sources, gen_targets}
use Rattle.ap_top.specs.Inputs as inputs
use Rattle.ap_top.specs.Inputs.{AreGood, AreInputsGood, AsksRefusal, HasGoodInputs, IsRefusalDue, IsRefused, RefusesOne, Source, inputs_of, with_text}
use Rattle.ap_top.specs.Outputs.{Target, FromGood, IsBegunOn, Writes}
use Rattle.ap_top.specs.Refusals.{IsOrMemory, refusal_status, stop_of}
use Rattle.ap_top.specs.Troubles.{StopsOn}
use Rattle.ap_top.proofs.Calls.{one_command}
use Rattle.ap_top.proofs.Designs.{program_not_refused}
use Rattle.ap_image.specs.ImageTexts.{image_fault}
use Rattle.ap_image.specs.Shapes.{Shape}
use Rattle.ap_image.specs.TextFaults.{Judge}
use Rattle.ap_image.specs.TraceTexts.{trace_fault}
use Rattle.ap_image.specs.declared.fault.TextKind.{TextKind}
use Rattle.ap_sim.proofs.Judging.{faultless_taken, runnable_faultless}
use Rattle.ap_top.specs.RunOn.{HasLeastFaultRunOn, IsFaultlessRunOn}
use Rattle.ap_top.proofs.Matching.{lengths_of}
use Rattle.ap_top.proofs.TextFaults.{form_alone, form_first}

module _ (cards : List Card) where
  -- the first lines of a form's lines begin the form
  front_begins : (form : Form) (dues : List (List DueToken)) (front rest : List TextLine) → AreLines form dues (front ++ rest) → AreLines form (take (length front) dues) front
  front_begins form dues [] rest h = tt
  front_begins form [] (line ∷ front) rest h = absurd h
  front_begins form (due ∷ dues) (line ∷ front) rest h = (h.0, front_begins form dues front rest h.1)

  -- a text of the form isn't unbuilt anywhere
  built : (lines : List TextLine) (form : Form) (number : ℕ) → AreLines form first_form lines → IsForm form → HasAddition cards form.width → IsNotBuiltAt cards lines number → ⊥
  built lines form number all ranges unit h = ⊎_elim
      (λ wrong. wrong.ends (form, front_begins form first_form (wrong.before ++ wrong.line ∷ []) wrong.place.after (subst (λ (l : List TextLine). AreLines form first_form l) (wrong.place.parts ∙ sym (append_assoc wrong.before (wrong.line ∷ []) wrong.place.after)) all), ranges, λ _. unit))
      (λ few. let same = lengths_of (IsLine form) first_form lines all in let less = few.1.few in let wrong : ⊥ = omega arith in wrong)
      h

  -- a description without fault has none
  good_not_refused : (text : List ℕ) (form : Form) (judged : Judged) → IsFormDescription cards text form → HasJudgedFault cards text judged → ⊥
  good_not_refused text form (judged.Refused refusal) good fault = good.faultless refusal.kind refusal.line fault.holds.holds
  good_not_refused text form (judged.NotBuilt line) good fault = built (lines_of text) form line good.first.lines good.first.ranges good.unit fault.1

  -- nor is what a netlist is run on
  run_not_refused : (judge : Shape → Judge) (before : List (List ℕ)) (text : List ℕ) (line : ℕ) (kind : TextKind) → IsFaultlessRunOn judge before text → HasLeastFaultRunOn judge before text line kind → ⊥
  run_not_refused judge [] text line kind good refused = good
  run_not_refused judge (netlist ∷ others) text line kind good refused = faultless_taken judge netlist text good kind line refused

  input_not_refused : (before : List (List ℕ)) (kind : Input) (text : List ℕ) (refusal : Refusal) → inputs.IsFaultless cards before kind text → IsRefused cards before kind text refusal → ⊥
  input_not_refused before input.Description text (Description judged) good refused = good_not_refused text good.0 judged good.1 refused
  input_not_refused before input.Processor text (Description (judged.Refused least)) good refused = good least.kind least.line refused.holds.holds
  input_not_refused before input.Program text (Program line kind) good refused = program_not_refused cards before text line kind good refused
  input_not_refused before input.Netlist text (Netlist line kind) good refused = runnable_faultless text good kind line refused
  input_not_refused before input.Image text (Image line kind) good refused = run_not_refused image_fault before text line kind good refused
  input_not_refused before input.Trace text (Trace line kind) good refused = run_not_refused trace_fault before text line kind good refused
  input_not_refused before kind text refusal good refused = refused

  -- an input is refused with one status
  abbrev status_of : Input → ℕ
  status_of input.Description = 2
  status_of input.Processor = 2
  status_of input.Program = 3
  status_of input.Netlist = 4
  status_of input.Image = 5
  status_of input.Trace = 5

  refused_status : (before : List (List ℕ)) (kind : Input) (text : List ℕ) (refusal : Refusal) → IsRefused cards before kind text refusal → refusal_status refusal ≡ status_of kind
  refused_status before input.Description text (Description judged) refused = refl
  refused_status before input.Processor text (Description (judged.Refused least)) refused = refl
  refused_status before input.Program text (Program line kind) refused = refl
  refused_status before input.Netlist text (Netlist line kind) refused = refl
  refused_status before input.Image text (Image line kind) refused = refl
  refused_status before input.Trace text (Trace line kind) refused = refl
  refused_status before kind text refusal refused = absurd refused

  -- nor are inputs that are all good
  none_refused : (files : Files) (before : List (List ℕ)) (sources : List Source) (refusal : Refusal) → AreGood cards files before sources → RefusesOne cards files before sources refusal → ⊥
  none_refused files before [] refusal good refused = refused
  none_refused files before (source ∷ sources) refusal good refused = ⊎_elim
      (λ here. input_not_refused before source.0 (content files source.1) refusal good.0.faultless here.1)
      (λ later. none_refused files (with_text files before source) sources refusal good.1 later.1)
      refused

  -- and inputs that are refused are so with one status
  one_status : (files : Files) (before : List (List ℕ)) (sources : List Source) (one other : Refusal) → RefusesOne cards files before sources one → RefusesOne cards files before sources other → refusal_status one ≡ refusal_status other
  one_status files before [] one other h g = absurd h
  one_status files before (source ∷ sources) one other (inl h) (inl g) = refused_status before source.0 (content files source.1) one h.1 ∙ sym (refused_status before source.0 (content files source.1) other g.1)
  one_status files before (source ∷ sources) one other (inl h) (inr g) = absurd (input_not_refused before source.0 (content files source.1) one g.0.faultless h.1)
  one_status files before (source ∷ sources) one other (inr h) (inl g) = absurd (input_not_refused before source.0 (content files source.1) other h.0.faultless g.1)
  one_status files before (source ∷ sources) one other (inr h) (inr g) = one_status files (with_text files before source) sources one other h.1 g.1

  -- the words are one command
  refused_as : (words : List (List ℕ)) (files : Files) (command other : Command) (refusal : Refusal) → IsCall command words → IsCall other words → RefusesOne cards files [] (inputs_of other words) refusal → RefusesOne cards files [] (inputs_of command words) refusal
  refused_as words files command other refusal is is_other = subst (λ c. RefusesOne cards files [] (inputs_of c words) refusal) (one_command other command words is_other is)

  good_command : (words : List (List ℕ)) (files : Files) (command other : Command) (refusal : Refusal) → IsCall command words → IsCall other words → AreGood cards files [] (inputs_of command words) → RefusesOne cards files [] (inputs_of other words) refusal → ⊥
  good_command words files command other refusal is is_other good refused = none_refused files [] (inputs_of command words) refusal good (refused_as words files command other refusal is is_other refused)

  -- a refusal is that of the words, or one of an input
  usage_or_not : (refusal : Refusal) → (refusal ≡ Usage) ⊎ (refusal ≢ Usage)
  usage_or_not Usage = inl refl
  usage_or_not (Description judged) = inr (λ e. cc)
  usage_or_not (Program line kind) = inr (λ e. cc)
  usage_or_not (Netlist line kind) = inr (λ e. cc)
  usage_or_not (Image line kind) = inr (λ e. cc)
  usage_or_not (Trace line kind) = inr (λ e. cc)

  due_input : (words : List (List ℕ)) (files : Files) (refusal : Refusal) → refusal ≢ Usage → IsRefusalDue cards words (Some files) refusal → (command : Command) × IsCall command words × RefusesOne cards files [] (inputs_of command words) refusal
  due_input words files Usage other due = absurd (other refl)
  due_input words files (Description judged) other due = due
  due_input words files (Program line kind) other due = due
  due_input words files (Netlist line kind) other due = due
  due_input words files (Image line kind) other due = due
  due_input words files (Trace line kind) other due = due

  -- a good command isn't refused,
  good_not_due : (words : List (List ℕ)) (files : Files) (refusal : Refusal) → AreInputsGood cards words files → IsRefusalDue cards words (Some files) refusal → ⊥
  good_not_due words files refusal good due = ⊎_elim
      (λ usage. let none : IsRefusalDue cards words (Some files) Usage = subst (IsRefusalDue cards words (Some files)) usage due in none (good.0, good.1))
      (λ other. let d = due_input words files refusal other due in good_command words files good.0 d.0 refusal good.1 d.1 good.2 d.2)
      (usage_or_not refusal)

  command_status : (words : List (List ℕ)) (files : Files) (one other : Refusal) (command second : Command) → IsCall command words → IsCall second words → RefusesOne cards files [] (inputs_of command words) one → RefusesOne cards files [] (inputs_of second words) other → refusal_status one ≡ refusal_status other
  command_status words files one other command second is is_other h g = one_status files [] (inputs_of command words) one other h (refused_as words files command second other is is_other g)

  -- and a command that is refused has one refusal's status
  same_status : (words : List (List ℕ)) (files : Files) (one other : Refusal) → IsRefusalDue cards words (Some files) one → IsRefusalDue cards words (Some files) other → refusal_status one ≡ refusal_status other
  same_status words files one other h g = ⊎_elim
      (λ is. ⊎_elim
      (λ both. ap refusal_status (is ∙ sym both))
      (λ not. let d = due_input words files other not g in let none : IsRefusalDue cards words (Some files) Usage = subst (IsRefusalDue cards words (Some files)) is h in absurd (none (d.0, d.1)))
      (usage_or_not other))
      (λ not. let c = due_input words files one not h in ⊎_elim
      (λ is. let none : IsRefusalDue cards words (Some files) Usage = subst (IsRefusalDue cards words (Some files)) is g in absurd (none (c.0, c.1)))
      (λ both. let d = due_input words files other both g in command_status words files one other c.0 d.0 c.1 d.1 c.2 d.2)
      (usage_or_not other))
      (usage_or_not one)

  done_good : (words : List (List ℕ)) (old new : Files) → IsDone cards words old new → AreInputsGood cards words old
  done_good words old new h = (h.0, h.1, h.2.0)

  -- what is answered where a refusal is due
  pub answers_due : (words : List (List ℕ)) (status : ℕ) (told told' : Option Files) (refusal : Refusal) → let call : Call = record { cards = cards; words = words; told = told } in IsAnswer call status told' → AsksRefusal call refusal → IsOrMemory (refusal_status refusal) status
  answers_due words status None told' refusal answers due = absurd due
  answers_due words status (Some files) None refusal answers due = ⊎_elim (λ done. absurd done.1.1) (λ refused. inl (refused.status_is ∙ same_status words files refused.refusal refusal refused.due due)) answers
  answers_due words status (Some files) (Some new) refusal answers due = ⊎_elim
      (λ done. absurd (good_not_due words files refusal (done_good words files new done.1.1) due))
      (λ refused. inl (refused.status_is ∙ same_status words files refused.refusal refusal refused.due due))
      answers

  -- and where the inputs are good
  pub answers_good : (words : List (List ℕ)) (status : ℕ) (told told' : Option Files) → let call : Call = record { cards = cards; words = words; told = told } in IsAnswer call status told' → HasGoodInputs call → IsOrMemory 0 status
  answers_good words status None told' answers good = absurd good
  answers_good words status (Some files) told' answers good = ⊎_elim (λ done. inl done.0) (λ refused. absurd (good_not_due words files refused.refusal good refused.due)) answers

  -- texts that are too long have the same faults
  long_faults : (one other : List ℕ) → description_limit < length one → description_limit < length other → (kind : Fault) (line : ℕ) → faults.HasFormFault one kind line → faults.HasFormFault other kind line
  long_faults one other long long' f.TooLong line h = (h.0, long')
  long_faults one other long long' _ line h = let short = h.0 in absurd (omega arith)

  pub long_never : (text : List ℕ) → description_limit < length text → IsAccepted text cards → ⊥
  long_never text long none = none f.TooLong 0 (inl (refl, long))

  -- the bytes that were read are the file, or both are too long
  pub read_same : (files : Files) (name bytes : List ℕ) → ReadsUpTo files name 1048576 bytes → (bytes ≡ content files name) ⊎ ((description_limit < length bytes) × (description_limit < length (content files name)))
  read_same files name bytes h = ⊎_elim (λ long. inr (h.longer.1 long, long)) (λ short. inl (h.whole short)) (cases_lt 1048576 (length (content files name)))

  long_refused : (one other : List ℕ) (judged : Judged) → description_limit < length one → description_limit < length other → HasJudgedFault cards one judged → HasJudgedFault cards other judged
  long_refused one other (judged.Refused refusal) long long' h =
      let least = form_alone one cards f.TooLong 0 (refl, long) refusal h in
      form_first other cards refusal (record {
        phase = least.phase;
        holds = long_faults one other long long' refusal.kind refusal.line least.holds;
        least = λ kind line fault. least.least kind line (long_faults other one long' long kind line fault);
      })
  long_refused one other (judged.NotBuilt line) long long' h = absurd (long_never one long h.0)

  pub file_refused : (files : Files) (name bytes : List ℕ) (judged : Judged) → ReadsUpTo files name 1048576 bytes → HasJudgedFault cards bytes judged → HasJudgedFault cards (content files name) judged
  file_refused files name bytes judged h fault = ⊎_elim (λ e. subst (λ t. HasJudgedFault cards t judged) e fault) (λ long. long_refused bytes (content files name) judged long.0 long.1 fault) (read_same files name bytes h)

  file_good : (files : Files) (name bytes : List ℕ) (form : Form) → ReadsUpTo files name 1048576 bytes → IsFormDescription cards bytes form → IsFormDescription cards (content files name) form
  file_good files name bytes form h good = ⊎_elim (λ e. subst (λ t. IsFormDescription cards t form) e good) (λ long. absurd (long_never bytes long.0 good.faultless)) (read_same files name bytes h)

  pub unchanged : (sources : List Source) (targets : List Target) (told told' : Option Files) → told' ≡ told → Goes (IsBegunOn cards sources targets) told told'
  unchanged sources targets told told' e = subst (λ (t : Option Files). Goes (IsBegunOn cards sources targets) told t) (sym e) (stayed told)
    where
      stayed : (told : Option Files) → Goes (IsBegunOn cards sources targets) told told
      stayed None = tt
      stayed (Some files) = inl refl

  -- judging stopped the work
  pub judged_stop : (told told' : Option Files) (d v bytes : List ℕ) (fault : ReadFault) → told' ≡ told → IfSome told (λ files. ReadsUpTo files d 1048576 bytes) → HasReadFault cards bytes fault → StopsOn cards (gen_sources d) (gen_targets v) told told' (stop_of fault)
  judged_stop None told' d v bytes (reading.Refused judged) e reads fault = (e, tt)
  judged_stop (Some files) told' d v bytes (reading.Refused judged) e reads fault = (e, inl (reads.there, file_refused files d bytes judged reads fault))
  judged_stop told told' d v bytes reading.NoMemory e reads fault = unchanged (gen_sources d) (gen_targets v) told told' e

  good_sources : (files : Files) (d bytes : List ℕ) (form : Form) → ReadsUpTo files d 1048576 bytes → IsFormDescription cards bytes form → AreGood cards files [] (gen_sources d)
  good_sources files d bytes form reads good = (record { there = reads.there; faultless = (form, file_good files d bytes form reads good) }, tt)

  front_written : (files new : Files) (d v bytes text : List ℕ) (form : Form) → ReadsUpTo files d 1048576 bytes → IsFormDescription cards bytes form → (operation : Operation) → IsAddition cards form.width operation → IsDesignText operation form text → BecomesFrontOrStays v text files new → IsBegunOn cards (gen_sources d) (gen_targets v) files new
  front_written files new d v bytes text form reads good operation adds design h = ⊎_elim
      (λ same. inl same)
      (λ front. inr (good_sources files d bytes form reads good, inr (text, front.0, (form, file_good files d bytes form reads good, operation, adds, design), front.1)))
      h

  -- writing stopped the work
  pub writing_stop : (told mid told' : Option Files) (d v bytes text : List ℕ) (form : Form) → mid ≡ told → IfSome told (λ files. ReadsUpTo files d 1048576 bytes) → IsFormDescription cards bytes form → (operation : Operation) → IsAddition cards form.width operation → IsDesignText operation form text → Goes (BecomesFrontOrStays v text) mid told' → Goes (IsBegunOn cards (gen_sources d) (gen_targets v)) told told'
  writing_stop told mid told' d v bytes text form e reads good operation adds design h = by_cases told told' reads (subst (λ (t : Option Files). Goes (BecomesFrontOrStays v text) t told') e h)
    where
      by_cases : (told told' : Option Files) → IfSome told (λ files. ReadsUpTo files d 1048576 bytes) → Goes (BecomesFrontOrStays v text) told told' → Goes (IsBegunOn cards (gen_sources d) (gen_targets v)) told told'
      by_cases None None reads h = tt
      by_cases None (Some new) reads h = absurd h
      by_cases (Some files) None reads h = absurd h
      by_cases (Some files) (Some new) reads h = front_written files new d v bytes text form reads good operation adds design h

  -- all is written
  pub written : (told mid told' : Option Files) (d v bytes text : List ℕ) (form : Form) → mid ≡ told → IfSome told (λ files. ReadsUpTo files d 1048576 bytes) → IsFormDescription cards bytes form → (operation : Operation) → IsAddition cards form.width operation → IsDesignText operation form text → Goes (Becomes v text) mid told' → Goes (FromGood cards Writes (gen_sources d) (gen_targets v)) told told'
  written told mid told' d v bytes text form e reads good operation adds design h = by_cases told told' reads (subst (λ (t : Option Files). Goes (Becomes v text) t told') e h)
    where
      by_cases : (told told' : Option Files) → IfSome told (λ files. ReadsUpTo files d 1048576 bytes) → Goes (Becomes v text) told told' → Goes (FromGood cards Writes (gen_sources d) (gen_targets v)) told told'
      by_cases None None reads h = tt
      by_cases None (Some new) reads h = absurd h
      by_cases (Some files) None reads h = absurd h
      by_cases (Some files) (Some new) reads h = (good_sources files d bytes form reads good, (text, (form, file_good files d bytes form reads good, operation, adds, design), h))
