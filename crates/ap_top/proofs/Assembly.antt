-- Assembling: from what reading the description and the program says to what is left of the files.
use Rattle.std.proofs.Common.{◌≡◌, ℕ, ◌<◌, List, [], ◌∷◌, length, take, Option, Some, None, refl, sym, ap, subst, ◌∙◌, arith, inl, inr, ⊎_elim}
use Rattle.std.specs.Prelude.{◌≢◌, ◌⊎◌, IfSome, MatchBool}
use Rattle.std.specs.FinMap.{get, insert}
use Rattle.std.proofs.lemmas.Bool.{cases_lt, lt-ltb}
use Rattle.std.proofs.lemmas.List.{take_all}
use Rattle.ap_asm.specs.AsmFaults.{HasAsmFault, HasProgramFault, IsAsmFault, IsFaultlessProgram}
use Rattle.ap_asm.specs.Assembled.{IsAssembled}
use Rattle.ap_asm.specs.declared.assembling.Assembled.{Assembled}
use Rattle.ap_bits.specs.declared.card.Card.{Card}
use Rattle.ap_desc.specs.declared.design.Design.{Design}
use Rattle.ap_desc.specs.declared.fault.DescFault.{DescFault}
use Rattle.ap_desc.specs.declared.fault.DescFault.TheVariants as described
use Rattle.ap_desk.specs.Files.{Becomes, BecomesFrontOrStays, Files, Goes, ReadsUpTo, content}
use Rattle.ap_desk.specs.declared.counts.Counts.{Counts}
use Rattle.ap_image.specs.ImageTexts.{image_text}
use Rattle.ap_image.specs.TextFaults.{text_limit}
use Rattle.ap_model.specs.DesignShape.{shape_of}
use Rattle.ap_program.specs.AsmKinds.{IsLeastOf}
use Rattle.ap_program.specs.Sources.{source_of}
use Rattle.ap_program.specs.Statements.{program_of}
use Rattle.ap_program.specs.declared.fault.AsmFault.{AsmFault}
use Rattle.ap_program.specs.declared.fault.AsmFault.TheVariants as asm
use Rattle.ap_program.specs.declared.fault.AsmKind.{AsmKind}
use Rattle.ap_program.specs.declared.fault.AsmKind.TheVariants as kinds
use Rattle.ap_top.specs.declared.command.Input.TheVariants as input
use Rattle.ap_top.specs.declared.form.Judged.TheVariants as judged
use Rattle.ap_top.specs.declared.refusal.Refusal.{Refusal}
use Rattle.ap_top.specs.declared.refusal.Refusal.TheVariants.{Usage, Description, Program, Netlist, Image, Trace}
use Rattle.ap_top.specs.declared.refusal.Stop.{Stop}
use Rattle.ap_top.specs.declared.refusal.Stop.TheVariants.{Refused, Broken}
use Rattle.ap_top.specs.Assembly.{BecomeBoth, BeginBoth, FailsAt, IsDesignAt, IsProgramAt, IsProgramRefused, StopsReading, asm_sources, asm_targets}
use Rattle.ap_top.specs.Form.{IsTextFault, reading_of}
use Rattle.ap_top.specs.Inputs.{AreGood, FailsOn, IsDueOf, IsGoodInput, IsRefused, IsThere, LacksOne, RefusesOne, Source}
use Rattle.ap_top.specs.Outputs.{FromGood, IsBegunOn, Writes}
use Rattle.ap_top.specs.Programs.{IsAssembledFor, IsDesignOf}
use Rattle.ap_top.specs.Refusals.{stop_of, stop_of_program}
use Rattle.ap_top.specs.Troubles.{StopsOn}
use Rattle.ap_top.proofs.Judging.{file_refused, long_never, read_same, unchanged}

-- A program that is too long.

-- its one fault
long_to : (design : Design) (text : List ℕ) (fault : AsmKind) (number : ℕ) → text_limit < length text → HasAsmFault design text fault number → (fault ≡ kinds.BadForm) × (number ≡ 0)
long_to design text fault number long h = subst (λ b. MatchBool b ((fault ≡ kinds.BadForm) × (number ≡ 0)) (HasProgramFault design (program_of text) fault number)) (lt-ltb text_limit (length text) long) h

long_from : (design : Design) (text : List ℕ) (fault : AsmKind) (number : ℕ) → text_limit < length text → (fault ≡ kinds.BadForm) × (number ≡ 0) → HasAsmFault design text fault number
long_from design text fault number long h = subst (λ b. MatchBool b ((fault ≡ kinds.BadForm) × (number ≡ 0)) (HasProgramFault design (program_of text) fault number)) (sym (lt-ltb text_limit (length text) long)) h

-- is that of any other that is
long_least : (design : Design) (one other : List ℕ) (fault : AsmKind) (line : ℕ) → text_limit < length one → text_limit < length other → IsLeastOf (HasAsmFault design one) fault line → IsLeastOf (HasAsmFault design other) fault line
long_least design one other fault line long long' h = record {
  holds = same_long one other long long' fault line h.holds;
  first = λ kind number g. h.first kind number (same_long other one long' long kind number g);
  least = λ kind g. h.least kind (same_long other one long' long kind line g);
} where
  same_long : (from to : List ℕ) → text_limit < length from → text_limit < length to → (kind : AsmKind) (number : ℕ) → HasAsmFault design from kind number → HasAsmFault design to kind number
  same_long from to lt lt' kind number g = long_from design to kind number lt' (long_to design from kind number lt g)

-- the bytes that were read are the file, or both are too long
program_same : (files : Files) (name bytes : List ℕ) → ReadsUpTo files name 67108864 bytes → (bytes ≡ content files name) ⊎ ((text_limit < length bytes) × (text_limit < length (content files name)))
program_same files name bytes h = ⊎_elim (λ long. inr (h.longer.1 long, long)) (λ short. inl (h.whole short)) (cases_lt 67108864 (length (content files name)))

program_least : (design : Design) (files : Files) (name bytes : List ℕ) (fault : AsmKind) (line : ℕ) → ReadsUpTo files name 67108864 bytes → IsLeastOf (HasAsmFault design bytes) fault line → IsLeastOf (HasAsmFault design (content files name)) fault line
program_least design files name bytes fault line reads h =
    ⊎_elim (λ e. subst (λ text. IsLeastOf (HasAsmFault design text) fault line) e h) (λ long. long_least design bytes (content files name) fault line long.0 long.1 h) (program_same files name bytes reads)

program_whole : (design : Design) (files : Files) (name bytes : List ℕ) → ReadsUpTo files name 67108864 bytes → IsFaultlessProgram design bytes → bytes ≡ content files name
program_whole design files name bytes reads none = ⊎_elim (λ e. e) (λ long. absurd (none kinds.BadForm 0 (long_from design bytes kinds.BadForm 0 long.0 (refl, refl)))) (program_same files name bytes reads)

-- Reading the program.

pub program_at : (design : Design) (name bytes : List ℕ) (told : Option Files) (made : Assembled) → IfSome told (λ files. ReadsUpTo files name 67108864 bytes) → IsFaultlessProgram design bytes → IsAssembled design (source_of design (program_of bytes)) made → IsProgramAt design name told made
program_at design name bytes None made reads none assembled = tt
program_at design name bytes (Some files) made reads none assembled =
    let e = program_whole design files name bytes reads none in
    (reads.there, subst (IsFaultlessProgram design) e none, subst (λ text. IsAssembled design (source_of design (program_of text)) made) e assembled)

pub program_stops : (design : Design) (name bytes : List ℕ) (told : Option Files) (fault : AsmFault) → IfSome told (λ files. ReadsUpTo files name 67108864 bytes) → IsAsmFault design bytes fault → StopsReading (IsProgramRefused design) name told (stop_of_program fault)
program_stops design name bytes None (asm.At line kind) reads h = ((λ e. cc), tt)
program_stops design name bytes (Some files) (asm.At line kind) reads h = ((λ e. cc), (reads.there, program_least design files name bytes kind line reads h))
program_stops design name bytes told asm.NoMemory reads h = tt

-- Writing two files.

pub first_front : (image text listing lines : List ℕ) (a b : Option Files) → Goes (BecomesFrontOrStays image text) a b → Goes (BeginBoth image text listing lines) a b
first_front image text listing lines None None h = tt
first_front image text listing lines None (Some b) h = absurd h
first_front image text listing lines (Some a) None h = absurd h
first_front image text listing lines (Some a) (Some b) h = inl h

pub second_front : (image text listing lines : List ℕ) (a b c : Option Files) → Goes (Becomes image text) a b → Goes (BecomesFrontOrStays listing lines) b c → Goes (BeginBoth image text listing lines) a c
second_front image text listing lines None None None h g = tt
second_front image text listing lines None None (Some c) h g = absurd g
second_front image text listing lines None (Some b) c h g = absurd h
second_front image text listing lines (Some a) None c h g = absurd h
second_front image text listing lines (Some a) (Some b) None h g = absurd g
second_front image text listing lines (Some a) (Some b) (Some c) h g = inr (subst (λ (files : Files). BecomesFrontOrStays listing lines files c) h g)

pub both_there : (image text listing lines : List ℕ) (a b c : Option Files) → Goes (Becomes image text) a b → Goes (Becomes listing lines) b c → Goes (BecomeBoth image text listing lines) a c
both_there image text listing lines None None None h g = tt
both_there image text listing lines None None (Some c) h g = absurd g
both_there image text listing lines None (Some b) c h g = absurd h
both_there image text listing lines (Some a) None c h g = absurd h
both_there image text listing lines (Some a) (Some b) None h g = absurd g
both_there image text listing lines (Some a) (Some b) (Some c) h g = g ∙ ap (λ (files : Files). insert files listing lines) h

module _ (cards : List Card) where
  -- Reading the description.

  pub design_at : (name bytes : List ℕ) (told : Option Files) (design : Design) → IfSome told (λ files. ReadsUpTo files name 1048576 bytes) → IsDesignOf cards bytes design → IsDesignAt cards name told design
  design_at name bytes None design reads h = tt
  design_at name bytes (Some files) design reads h =
      (reads.there, ⊎_elim (λ e. subst (λ text. IsDesignOf cards text design) e h) (λ long. absurd (long_never cards bytes long.0 h.accepted)) (read_same cards files name bytes reads))

  pub design_stops : (name bytes : List ℕ) (told : Option Files) (fault : DescFault) → IfSome told (λ files. ReadsUpTo files name 1048576 bytes) → IsTextFault bytes cards fault → StopsReading (IsRefused cards [] input.Processor) name told (stop_of (reading_of fault))
  design_stops name bytes None (described.Refused least) reads h = ((λ e. cc), tt)
  design_stops name bytes (Some files) (described.Refused least) reads h = ((λ e. cc), (reads.there, file_refused cards files name bytes (judged.Refused least) reads h))
  design_stops name bytes told described.NoMemory reads h = tt

  -- The two inputs.

  pub due_untold : (sources : List Source) (refusal : Refusal) → refusal ≢ Usage → IsDueOf cards sources None refusal
  due_untold sources Usage other = absurd (other refl)
  due_untold sources (Description fault) other = tt
  due_untold sources (Program line kind) other = tt
  due_untold sources (Netlist line kind) other = tt
  due_untold sources (Image line kind) other = tt
  due_untold sources (Trace line kind) other = tt

  pub due_told : (sources : List Source) (files : Files) (refusal : Refusal) → refusal ≢ Usage → RefusesOne cards files [] sources refusal → IsDueOf cards sources (Some files) refusal
  due_told sources files Usage other h = absurd (other refl)
  due_told sources files (Description fault) other h = h
  due_told sources files (Program line kind) other h = h
  due_told sources files (Netlist line kind) other h = h
  due_told sources files (Image line kind) other h = h
  due_told sources files (Trace line kind) other h = h

  good_first : (files : Files) (d : List ℕ) (design : Design) → IsThere files d → IsDesignOf cards (content files d) design → IsGoodInput cards files [] (input.Processor, d)
  good_first files d design there h = record { there = there; faultless = h.accepted }

  -- the description stopped the work
  pub design_stop : (told told' : Option Files) (d p i l : List ℕ) (stop : Stop) → told' ≡ told → StopsReading (IsRefused cards [] input.Processor) d told stop → StopsOn cards (asm_sources d p) (asm_targets i l) told told' stop
  design_stop told told' d p i l (Broken trouble) e h = unchanged cards (asm_sources d p) (asm_targets i l) told told' e
  design_stop None told' d p i l (Refused refusal) e h = (e, due_untold (asm_sources d p) refusal h.0)
  design_stop (Some files) told' d p i l (Refused refusal) e h = (e, due_told (asm_sources d p) files refusal h.0 (inl (h.1.0, h.1.1)))

  program_refused : (files : Files) (d : List ℕ) (design : Design) → IsDesignOf cards (content files d) design → (text : List ℕ) (refusal : Refusal) → IsProgramRefused design text refusal → IsRefused cards (content files d ∷ []) input.Program text refusal
  program_refused files d design means text (Program line kind) h = (design, means, h)
  program_refused files d design means text refusal h = absurd h

  -- the program did
  pub program_stop : (told told' : Option Files) (d p i l : List ℕ) (design : Design) (stop : Stop) → told' ≡ told → IsDesignAt cards d told design → StopsReading (IsProgramRefused design) p told stop → StopsOn cards (asm_sources d p) (asm_targets i l) told told' stop
  program_stop told told' d p i l design (Broken trouble) e is h = unchanged cards (asm_sources d p) (asm_targets i l) told told' e
  program_stop None told' d p i l design (Refused refusal) e is h = (e, due_untold (asm_sources d p) refusal h.0)
  program_stop (Some files) told' d p i l design (Refused refusal) e is h =
      (e, due_told (asm_sources d p) files refusal h.0 (inr (good_first files d design is.0 is.1, inl (h.1.0, program_refused files d design is.1 (content files p) refusal h.1.1))))

  -- memory ran out
  pub memory_stop : (told told' : Option Files) (d p i l : List ℕ) → told' ≡ told → Goes (IsBegunOn cards (asm_sources d p) (asm_targets i l)) told told'
  memory_stop told told' d p i l e = unchanged cards (asm_sources d p) (asm_targets i l) told told' e

  -- The desk's counts.

  first_lacks : (told : Option Files) (d p : List ℕ) → IfSome told (λ files. get files d ≡ None) → IfSome told (λ files. LacksOne cards files [] (asm_sources d p))
  first_lacks None d p none = tt
  first_lacks (Some files) d p none = inl none

  second_lacks : (told : Option Files) (d p : List ℕ) (design : Design) → IsDesignAt cards d told design → IfSome told (λ files. get files p ≡ None) → IfSome told (λ files. LacksOne cards files [] (asm_sources d p))
  second_lacks None d p design is none = tt
  second_lacks (Some files) d p design is none = inr (good_first files d design is.0 is.1, inl none)

  pub first_fails : (told : Option Files) (d p : List ℕ) (before after : Counts) → FailsAt d told before after → FailsOn cards (asm_sources d p) told before after
  first_fails told d p before after h = ⊎_elim (λ rose. inl rose) (λ missed. inr (missed.0, first_lacks told d p missed.1)) h

  pub second_fails : (told mid : Option Files) (d p : List ℕ) (design : Design) (before after : Counts) → mid ≡ told → IsDesignAt cards d told design → FailsAt p mid before after → FailsOn cards (asm_sources d p) told before after
  second_fails told mid d p design before after e is h = ⊎_elim (λ rose. inl rose) (λ missed. inr (missed.0, second_lacks told d p design is (subst (λ (t : Option Files). IfSome t (λ files. get files p ≡ None)) e missed.1))) h

  -- The two outputs.

  -- what is written, by the two inputs
  record AreTexts (files : Files) (d p text lines : List ℕ) (design : Design) (made : Assembled) : Type 0 where
    design_there : IsThere files d
    means : IsDesignOf cards (content files d) design
    program_there : IsThere files p
    faultless : IsFaultlessProgram design (content files p)
    assembled : IsAssembled design (source_of design (program_of (content files p))) made
    is_text : text ≡ image_text made.image (shape_of design)
    are_lines : lines ≡ made.listing

  module _ (files : Files) (d p i l text lines : List ℕ) (design : Design) (made : Assembled) (h : AreTexts files d p text lines design made) where
    good : AreGood cards files [] (asm_sources d p)
    good = (good_first files d design h.design_there h.means, (record { there = h.program_there; faultless = (design, h.means, h.faultless) }, tt))

    assembled_for : IsAssembledFor cards (content files d) (content files p) design made
    assembled_for = record { means = h.means; assembled = h.assembled }

    both_written : (new : Files) → BecomeBoth i text l lines files new → FromGood cards Writes (asm_sources d p) (asm_targets i l) files new
    both_written new e = (good, (text, (design, made, assembled_for, h.is_text), (lines, (design, made, assembled_for, h.are_lines), e)))

    -- the image is written, and then a part of the listing
    image_written : (new : Files) → BecomesFrontOrStays l lines (insert files i text) new → IsBegunOn cards (asm_sources d p) (asm_targets i l) files new
    image_written new rest = inr (
      good,
      inr (
        text,
        length text,
        (design, made, assembled_for, h.is_text),
        ⊎_elim
            (λ same. inl (same ∙ whole))
            (λ front. inr (lines, front.0, (design, made, assembled_for, h.are_lines), front.1 ∙ ap (λ (f : Files). insert f l (take front.0 lines)) whole))
            rest,
      ),
    )
      where
        whole : insert files i text ≡ insert files i (take (length text) text)
        whole = ap (insert files i) (sym (take_all (length text) text (omega arith)))

    both_begun : (new : Files) → BeginBoth i text l lines files new → IsBegunOn cards (asm_sources d p) (asm_targets i l) files new
    both_begun new (inl (inl same)) = inl same
    both_begun new (inl (inr front)) = inr (good, inr (text, front.0, (design, made, assembled_for, h.is_text), inl front.1))
    both_begun new (inr rest) = image_written new rest

  texts : (files : Files) (d p text lines : List ℕ) (design : Design) (made : Assembled) → IsDesignAt cards d (Some files) design → IsProgramAt design p (Some files) made → text ≡ image_text made.image (shape_of design) → lines ≡ made.listing → AreTexts files d p text lines design made
  texts files d p text lines design made is at e g = record { design_there = is.0; means = is.1; program_there = at.0; faultless = at.1; assembled = at.2; is_text = e; are_lines = g }

  -- writing stopped
  pub writing_stop : (told mid told' : Option Files) (d p i l text lines : List ℕ) (design : Design) (made : Assembled) → mid ≡ told → IsDesignAt cards d told design → IsProgramAt design p told made → text ≡ image_text made.image (shape_of design) → lines ≡ made.listing
      → Goes (BeginBoth i text l lines) mid told' → Goes (IsBegunOn cards (asm_sources d p) (asm_targets i l)) told told'
  writing_stop told mid told' d p i l text lines design made same is at e g h = by told told' is at (subst (λ (t : Option Files). Goes (BeginBoth i text l lines) t told') same h)
    where
      by : (told told' : Option Files) → IsDesignAt cards d told design → IsProgramAt design p told made → Goes (BeginBoth i text l lines) told told' → Goes (IsBegunOn cards (asm_sources d p) (asm_targets i l)) told told'
      by None None is at h = tt
      by None (Some new) is at h = absurd h
      by (Some files) None is at h = absurd h
      by (Some files) (Some new) is at h = both_begun files d p i l text lines design made (texts files d p text lines design made is at e g) new h

  -- all is written
  pub all_written : (told mid told' : Option Files) (d p i l text lines : List ℕ) (design : Design) (made : Assembled) → mid ≡ told → IsDesignAt cards d told design → IsProgramAt design p told made → text ≡ image_text made.image (shape_of design) → lines ≡ made.listing
      → Goes (BecomeBoth i text l lines) mid told' → Goes (FromGood cards Writes (asm_sources d p) (asm_targets i l)) told told'
  all_written told mid told' d p i l text lines design made same is at e g h = by told told' is at (subst (λ (t : Option Files). Goes (BecomeBoth i text l lines) t told') same h)
    where
      by : (told told' : Option Files) → IsDesignAt cards d told design → IsProgramAt design p told made → Goes (BecomeBoth i text l lines) told told' → Goes (FromGood cards Writes (asm_sources d p) (asm_targets i l)) told told'
      by None None is at h = tt
      by None (Some new) is at h = absurd h
      by (Some files) None is at h = absurd h
      by (Some files) (Some new) is at h = both_written files d p i l text lines design made (texts files d p text lines design made is at e g) new h
